-- What a store may do in the next step, by what is known of the calls that come, and by the length
-- of the entry that the step appends, if it appends one.
use Rattle.std.specs.Prelude.{◌≡◌, ◌≤◌, ◌==◌, ℕ, Bool, true, false, nat_le, Option, IfSome}
use Rattle.kx_batch.specs.Batch.{batch_limit}
use Rattle.kx_log.specs.Store.{AppendPlan, AppendsWork, FailsBehind, AnyMayFail, LoadPlan}
use Rattle.kx_log.specs.Store.{LoadsWork, NextLoadFails, AnyLoadMayFail}
use Rattle.kx_machine.specs.declared.machine.StoreMode.{StoreMode}
use Rattle.kx_machine.specs.declared.machine.StoreMode.TheVariants as mode
use Rattle.kx_model.specs.Disk.{Store, Works, Fails, CannotLoad}

-- an append is to fail and leave this many bytes: nothing, all of any entry, or a part; so the
-- whole of an entry stays exactly if it is no longer than that
abbrev pub FailsWith : ℕ → Option ℕ → Store → Type 0
FailsWith keep size Works = ⊥
FailsWith keep size CannotLoad = ⊥
FailsWith keep size (Fails whole) =
    (keep ≡ 0 → whole ≡ false) × (batch_limit ≤ keep → whole ≡ true)
    × IfSome size (λ bytes. whole ≡ nat_le bytes keep)

abbrev pub FailsFirst : Bool → ℕ → Option ℕ → Store → Type 0
FailsFirst true keep size store = FailsWith keep size store
FailsFirst false keep size store = Unit {0}

abbrev pub Allows : AppendPlan → LoadPlan → Option ℕ → Store → Type 0
Allows AppendsWork LoadsWork size store = store ≡ Works
Allows AppendsWork NextLoadFails size store = store ≡ CannotLoad
Allows AppendsWork AnyLoadMayFail size store = Unit {0}
Allows (FailsBehind ahead keep) LoadsWork size store = FailsFirst (ahead == 0) keep size store
Allows (FailsBehind ahead keep) NextLoadFails size store = Unit {0}
Allows (FailsBehind ahead keep) AnyLoadMayFail size store = Unit {0}
Allows AnyMayFail loads size store = Unit {0}

-- the store of the definitions that a mode is
abbrev pub IsMode : StoreMode → Option ℕ → Store → Type 0
IsMode mode.Works size store = store ≡ Works
IsMode (mode.Fails keep) size store = FailsWith keep size store
IsMode mode.CannotLoad size store = store ≡ CannotLoad
