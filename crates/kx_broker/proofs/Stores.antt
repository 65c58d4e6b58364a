-- What a store may do in the next step, by what a call found that it did.
use Rattle.std.proofs.Common.{◌≡◌, ◌⊎◌, inl, inr, ◌≤◌, ◌<◌, ◌==◌, ℕ, Bool, true, false, refl, sym}
use Rattle.std.proofs.Common.{subst, arith, ◌∙◌, min, Option, Some, None}
use Rattle.std.specs.Prelude.{nat_le, IfSome}
use Rattle.std.proofs.lemmas.Bool.Decides.{nat_tests}
use Rattle.kx_batch.specs.Batch.{batch_limit}
use Rattle.kx_broker.specs.Serving.{bytes_in}
use Rattle.kx_log.specs.Store.{AppendPlan, AppendsWork, FailsBehind, AnyMayFail, LoadPlan}
use Rattle.kx_log.specs.Store.{LoadsWork, NextLoadFails, AnyLoadMayFail, MayAppend, MayLeave}
use Rattle.kx_log.specs.Store.{MayFailToCut, MayFailToLoad, MayLoad}
use Rattle.kx_machine.specs.Meaning.{NodeState, appended_bytes, batch_bytes, bytes_behind}
use Rattle.kx_machine.specs.Meaning.{entry_bytes, node_step}
use Rattle.kx_machine.specs.Stores.{Allows, FailsFirst, FailsWith}
use Rattle.kx_model.specs.Disk.{Store, Works, Fails, CannotLoad, works}
use Rattle.kx_model.specs.PartitionNode.{Partition}
use Rattle.kx_model.specs.Step.{Input}

------ the entry that a step appends

none_new : (behind : Option ℕ) → appended_bytes behind behind ≡ None
none_new None = refl
none_new (Some bytes) = refl

-- a step that leads to one partition, whatever the store does, appends nothing
pub none_appended : (after : Store → Partition) (p : Partition)
    → ((store : Store) → after store ≡ p) → bytes_in after ≡ None
none_appended after p same =
    (λ i. bytes_in (λ store. same store i)) ∙ none_new (batch_bytes p.disk.hidden)

pub none_taken : (before after : NodeState) (input : Input)
    → ((store : Store) → (node_step before store input).state ≡ after)
    → entry_bytes before input ≡ None
none_taken before after input same =
    (λ i. appended_bytes (bytes_behind (same (Fails false) i)) (bytes_behind (same (Fails true) i)))
    ∙ none_new (bytes_behind after)

-- the same step in other words
pub as_allowed : (appends : AppendPlan) (loads : LoadPlan) (store : Store)
    (step other : Store → Partition) → ((at : Store) → other at ≡ step at)
    → Allows appends loads (bytes_in step) store → Allows appends loads (bytes_in other) store
as_allowed appends loads store step other same may =
    subst (λ (z : Option ℕ). Allows appends loads z store)
    (sym (λ i. bytes_in (λ at. same at i))) may

------ what is allowed

-- a store that is allowed, and of which something holds
pub record Allowed (appends : AppendPlan) (loads : LoadPlan) (size : Option ℕ) (P : Store → Type 0)
    : Type 0 where
  pub store : Store
  pub allowed : Allows appends loads size store
  pub is : P store

fails_first : (b : Bool) (keep : ℕ) (size : Option ℕ) (store : Store) → FailsWith keep size store
    → FailsFirst b keep size store
fails_first true keep size store h = h
fails_first false keep size store h = tt

not_first : (ahead keep : ℕ) (size : Option ℕ) (store : Store) → 0 < ahead
    → FailsFirst (ahead == 0) keep size store
not_first ahead keep size store h =
    let some : (ahead == 0) ≡ false = grind (arith, nat_tests) in
    subst (λ (b : Bool). FailsFirst b keep size store) (sym some) tt

abbrev Any : Store → Type 0
Any store = Unit {0}

-- an append fails, and leaves what it may
first_fails : (ahead keep : ℕ) (size : Option ℕ) → size ≡ None
    → Allows (FailsBehind ahead keep) LoadsWork size (Fails (nat_le batch_limit keep))
first_fails ahead keep size none =
    fails_first (ahead == 0) keep size (Fails (nat_le batch_limit keep)) (
      λ e. grind (arith, nat_tests),
      λ le. grind (arith, nat_tests),
      subst (λ (z : Option ℕ). IfSome z (λ bytes. nat_le batch_limit keep ≡ nat_le bytes keep))
          (sym none) tt,
    )

-- some store is, where nothing is appended
pub any_allowed : (appends : AppendPlan) (loads : LoadPlan) (size : Option ℕ) → size ≡ None
    → Allowed appends loads size Any
any_allowed AppendsWork LoadsWork size none = record { store = Works; allowed = refl; is = tt }
any_allowed AppendsWork NextLoadFails size none =
    record { store = CannotLoad; allowed = refl; is = tt }
any_allowed AppendsWork AnyLoadMayFail size none = record { store = Works; allowed = tt; is = tt }
any_allowed (FailsBehind ahead keep) LoadsWork size none = record {
  store = Fails (nat_le batch_limit keep);
  allowed = first_fails ahead keep size none;
  is = tt;
}
any_allowed (FailsBehind ahead keep) NextLoadFails size none =
    record { store = Works; allowed = tt; is = tt }
any_allowed (FailsBehind ahead keep) AnyLoadMayFail size none =
    record { store = Works; allowed = tt; is = tt }
any_allowed AnyMayFail loads size none = record { store = Works; allowed = tt; is = tt }

-- if an append worked, one is in which appends work
pub working : (appends : AppendPlan) (loads : LoadPlan) (size : Option ℕ) → MayAppend appends
    → Allowed appends loads size (λ store. works store ≡ true)
working AppendsWork LoadsWork size h = record { store = Works; allowed = refl; is = refl }
working AppendsWork NextLoadFails size h = record { store = CannotLoad; allowed = refl; is = refl }
working AppendsWork AnyLoadMayFail size h = record { store = Works; allowed = tt; is = refl }
working (FailsBehind ahead keep) LoadsWork size h =
    record { store = Works; allowed = not_first ahead keep size Works h; is = refl }
working (FailsBehind ahead keep) NextLoadFails size h =
    record { store = Works; allowed = tt; is = refl }
working (FailsBehind ahead keep) AnyLoadMayFail size h =
    record { store = Works; allowed = tt; is = refl }
working AnyMayFail loads size h = record { store = Works; allowed = tt; is = refl }

same_fit : (keep size kept : ℕ) → kept ≡ min keep size → nat_le size kept ≡ nat_le size keep
same_fit keep size kept is = grind (arith, nat_tests)

-- if an append failed, the store is that failed with these bytes behind
pub failing : (appends : AppendPlan) (loads : LoadPlan) (z : Option ℕ) (size kept : ℕ)
    → z ≡ Some size → 1 ≤ size → size ≤ batch_limit → MayLeave appends size kept
    → Allows appends loads z (Fails (nat_le size kept))
failing AppendsWork loads z size kept is some short h = absurd h
failing (FailsBehind ahead keep) LoadsWork z size kept is some short h =
    fails_first (ahead == 0) keep z (Fails (nat_le size kept)) (
      λ e. let less : kept < size = omega (arith, h.1, e, some) in grind (arith, nat_tests),
      λ le. let all : size ≤ kept = omega (arith, h.1, le, short) in grind (arith, nat_tests),
      subst (λ (o : Option ℕ). IfSome o (λ bytes. nat_le size kept ≡ nat_le bytes keep)) (sym is)
          (same_fit keep size kept h.1),
    )
failing (FailsBehind ahead keep) NextLoadFails z size kept is some short h = tt
failing (FailsBehind ahead keep) AnyLoadMayFail z size kept is some short h = tt
failing AnyMayFail loads z size kept is some short h = tt

-- if a log couldn't be loaded, it is that which can't
pub unloaded : (appends : AppendPlan) (loads : LoadPlan) (z : Option ℕ)
    → MayFailToLoad loads ⊎ MayFailToCut appends → Allows appends loads z CannotLoad
unloaded AppendsWork LoadsWork z (inl h) = absurd h
unloaded AppendsWork LoadsWork z (inr h) = absurd h
unloaded AppendsWork NextLoadFails z h = refl
unloaded AppendsWork AnyLoadMayFail z h = tt
unloaded (FailsBehind ahead keep) LoadsWork z (inl h) = absurd h
unloaded (FailsBehind ahead keep) LoadsWork z (inr h) = absurd h
unloaded (FailsBehind ahead keep) NextLoadFails z h = tt
unloaded (FailsBehind ahead keep) AnyLoadMayFail z h = tt
unloaded AnyMayFail loads z h = tt

-- the log can be loaded
abbrev pub CanLoad : Store → Type 0
CanLoad Works = Unit {0}
CanLoad (Fails whole) = Unit {0}
CanLoad CannotLoad = ⊥

pub loaded : (appends : AppendPlan) (loads : LoadPlan) (size : Option ℕ) → size ≡ None
    → MayLoad loads → Allowed appends loads size CanLoad
loaded AppendsWork LoadsWork size none h = record { store = Works; allowed = refl; is = tt }
loaded AppendsWork NextLoadFails size none h = absurd h
loaded AppendsWork AnyLoadMayFail size none h = record { store = Works; allowed = tt; is = tt }
loaded (FailsBehind ahead keep) LoadsWork size none h = record {
  store = Fails (nat_le batch_limit keep);
  allowed = first_fails ahead keep size none;
  is = tt;
}
loaded (FailsBehind ahead keep) NextLoadFails size none h =
    record { store = Works; allowed = tt; is = tt }
loaded (FailsBehind ahead keep) AnyLoadMayFail size none h =
    record { store = Works; allowed = tt; is = tt }
loaded AnyMayFail loads size none h = record { store = Works; allowed = tt; is = tt }
