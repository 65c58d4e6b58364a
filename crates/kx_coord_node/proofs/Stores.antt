-- Which stores of the definitions are allowed, by what the running one did.
use Rattle.std.proofs.Common.{◌≡◌, ◌⊎◌, ◌<◌, ◌≤◌, ◌+◌, ℕ, Bool, true, false}
use Rattle.std.proofs.Common.{length, length-append, refl, sym, ◌∙◌, subst, arith, nat_lt, inl, inr}
use Rattle.std.proofs.Common.{min, nat_le, Option, Some, None}
use Rattle.std.specs.Prelude.{◌==◌, IfSome}
use Rattle.std.proofs.lemmas.Bool.Decides.{nat_tests}
use Rattle.kx_batch.specs.Batch.{batch_limit}
use Rattle.kx_log.specs.Store.{AppendPlan, AppendsWork, FailsBehind, AnyMayFail, LoadPlan}
use Rattle.kx_log.specs.Store.{LoadsWork, NextLoadFails, AnyLoadMayFail, MayAppend, MayFailToCut}
use Rattle.kx_log.specs.Store.{MayFailToLoad, MayLeave, MayLoad}
use Rattle.kx_machine.specs.Meaning.{appended_bytes, note_bytes}
use Rattle.kx_machine.specs.Stores.{Allows, FailsFirst, FailsWith}
use Rattle.kx_model.specs.Disk.{Store, Works, Fails, CannotLoad, works}
use Rattle.kx_message.proofs.Sizes.{of_unsigned}
use Rattle.kx_model.specs.Coordinator.{TxnEntry, CoordinatorEpoch, Allot, Written}
use Rattle.kx_model.specs.CoordinatorNode.{Coordinator}
use Rattle.kx_txnlog.specs.Layout.{entry_text, fields_of}
use Rattle.kx_txnlog.specs.Ranges.{IsEntry}
use Rattle.kx_txnlog.proofs.Sizes.{size_is, size_of}

------ the entry that a step appends

none_new : (behind : Option ℕ) → appended_bytes behind behind ≡ None
none_new None = refl
none_new (Some bytes) = refl

-- the length of the entry that a step appends, if it appends one
abbrev pub bytes_in : (Store → Coordinator) → Option ℕ
bytes_in after = appended_bytes (note_bytes (after (Fails false)).disk.hidden)
    (note_bytes (after (Fails true)).disk.hidden)

-- behind what two steps leave there is the same
pub same_behind : (step other : Store → Coordinator)
    → ((whole : Bool) → (other (Fails whole)).disk.hidden ≡ (step (Fails whole)).disk.hidden)
    → bytes_in other ≡ bytes_in step
same_behind step other same =
    λ i. appended_bytes (note_bytes (same false i)) (note_bytes (same true i))

-- what stays behind the log whatever the store does isn't appended
pub none_appended : (after : Store → Coordinator) (behind : Option TxnEntry)
    → ((whole : Bool) → (after (Fails whole)).disk.hidden ≡ behind) → bytes_in after ≡ None
none_appended after behind same =
    (λ i. appended_bytes (note_bytes (same false i)) (note_bytes (same true i)))
    ∙ none_new (note_bytes behind)

------ what is allowed

first_by : (b : Bool) (keep : ℕ) (z : Option ℕ) (store : Store) → FailsWith keep z store
    → FailsFirst b keep z store
first_by true keep z store h = h
first_by false keep z store h = tt

fails_some : (keep : ℕ) (z : Option ℕ) → z ≡ None → FailsWith keep z (Fails (nat_lt 0 keep))
fails_some keep z none = (
  λ e. grind (arith, nat_tests),
  λ most. grind (arith, nat_tests),
  subst (λ (o : Option ℕ). IfSome o (λ bytes. nat_lt 0 keep ≡ nat_le bytes keep)) (sym none) tt,
)

-- there is one, if nothing is appended
pub some_store : (appends : AppendPlan) (loads : LoadPlan) (z : Option ℕ) → z ≡ None
    → (store : Store) × Allows appends loads z store
some_store AppendsWork LoadsWork z none = (Works, refl)
some_store AppendsWork NextLoadFails z none = (CannotLoad, refl)
some_store AppendsWork AnyLoadMayFail z none = (Works, tt)
some_store (FailsBehind ahead keep) LoadsWork z none =
    (Fails (nat_lt 0 keep), first_by (ahead == 0) keep z _ (fails_some keep z none))
some_store (FailsBehind ahead keep) NextLoadFails z none = (Works, tt)
some_store (FailsBehind ahead keep) AnyLoadMayFail z none = (Works, tt)
some_store AnyMayFail loads z none = (Works, tt)

later_by : (b : Bool) (ahead keep : ℕ) (z : Option ℕ) (store : Store) → (ahead == 0) ≡ b
    → 0 < ahead → FailsFirst b keep z store
later_by true ahead keep z store e lt = absurd (grind (arith, nat_tests))
later_by false ahead keep z store e lt = tt

later : (ahead keep : ℕ) (z : Option ℕ) (store : Store) → 0 < ahead
    → FailsFirst (ahead == 0) keep z store
later ahead keep z store lt = later_by (ahead == 0) ahead keep z store refl lt

-- an append that worked
pub wrote : (appends : AppendPlan) (loads : LoadPlan) (z : Option ℕ) → MayAppend appends
    → (store : Store) × Allows appends loads z store × (works store ≡ true)
wrote AppendsWork LoadsWork z may = (Works, refl, refl)
wrote AppendsWork NextLoadFails z may = (CannotLoad, refl, refl)
wrote AppendsWork AnyLoadMayFail z may = (Works, tt, refl)
wrote (FailsBehind ahead keep) LoadsWork z may = (Works, later ahead keep z Works may, refl)
wrote (FailsBehind ahead keep) NextLoadFails z may = (Works, tt, refl)
wrote (FailsBehind ahead keep) AnyLoadMayFail z may = (Works, tt, refl)
wrote AnyMayFail loads z may = (Works, tt, refl)

-- a load and an append that worked
pub reopened : (appends : AppendPlan) (loads : LoadPlan) (z : Option ℕ) → MayAppend appends
    → MayLoad loads → Allows appends loads z Works
reopened AppendsWork LoadsWork z may read = refl
reopened AppendsWork NextLoadFails z may read = absurd read
reopened AppendsWork AnyLoadMayFail z may read = tt
reopened (FailsBehind ahead keep) LoadsWork z may read = later ahead keep z Works may
reopened (FailsBehind ahead keep) NextLoadFails z may read = tt
reopened (FailsBehind ahead keep) AnyLoadMayFail z may read = tt
reopened AnyMayFail loads z may read = tt

-- a load that worked, if nothing is appended
pub readable : (appends : AppendPlan) (loads : LoadPlan) (z : Option ℕ) → z ≡ None → MayLoad loads
    → (store : Store) × Allows appends loads z store × (store ≡ CannotLoad → ⊥)
readable AppendsWork LoadsWork z none read = (Works, refl, λ e. absurd cc)
readable AppendsWork NextLoadFails z none read = absurd read
readable AppendsWork AnyLoadMayFail z none read = (Works, tt, λ e. absurd cc)
readable (FailsBehind ahead keep) LoadsWork z none read = (
  Fails (nat_lt 0 keep),
  first_by (ahead == 0) keep z _ (fails_some keep z none),
  λ e. absurd cc,
)
readable (FailsBehind ahead keep) NextLoadFails z none read = absurd read
readable (FailsBehind ahead keep) AnyLoadMayFail z none read = (Works, tt, λ e. absurd cc)
readable AnyMayFail loads z none read = (Works, tt, λ e. absurd cc)

all_kept : (keep kept size : ℕ) → kept ≡ min keep size → (kept == size) ≡ nat_le size keep
all_kept keep kept size is = grind (arith, nat_tests)

left_with : (keep kept size : ℕ) (z : Option ℕ) → z ≡ Some size → kept ≡ min keep size → 0 < size
    → size ≤ batch_limit → FailsWith keep z (Fails (kept == size))
left_with keep kept size z entry is some few = (
  λ e. grind (arith, nat_tests),
  λ most. grind (arith, nat_tests),
  subst (λ (o : Option ℕ). IfSome o (λ bytes. (kept == size) ≡ nat_le bytes keep)) (sym entry)
      (all_kept keep kept size is),
)

-- an append that failed and left so many bytes of the entry's
pub left : (appends : AppendPlan) (loads : LoadPlan) (kept size : ℕ) (z : Option ℕ) → z ≡ Some size
    → MayLeave appends size kept → 0 < size → size ≤ batch_limit
    → Allows appends loads z (Fails (kept == size))
left AppendsWork loads kept size z entry may some few = absurd may
left (FailsBehind ahead keep) LoadsWork kept size z entry may some few =
    first_by (ahead == 0) keep z _ (left_with keep kept size z entry may.1 some few)
left (FailsBehind ahead keep) NextLoadFails kept size z entry may some few = tt
left (FailsBehind ahead keep) AnyLoadMayFail kept size z entry may some few = tt
left AnyMayFail loads kept size z entry may some few = tt

-- it left no more than it was given
pub left_within : (appends : AppendPlan) (kept size : ℕ) → MayLeave appends size kept → kept ≤ size
left_within AppendsWork kept size may = absurd may
left_within (FailsBehind ahead keep) kept size may = omega (arith, may.1)
left_within AnyMayFail kept size may = may

-- a load or a cut that failed
pub unread : (appends : AppendPlan) (loads : LoadPlan) (z : Option ℕ)
    → MayFailToLoad loads ⊎ MayFailToCut appends → Allows appends loads z CannotLoad
unread AppendsWork LoadsWork z (inl may) = absurd may
unread AppendsWork LoadsWork z (inr may) = absurd may
unread AppendsWork NextLoadFails z may = refl
unread AppendsWork AnyLoadMayFail z may = tt
unread (FailsBehind ahead keep) LoadsWork z (inl may) = absurd may
unread (FailsBehind ahead keep) LoadsWork z (inr may) = absurd may
unread (FailsBehind ahead keep) NextLoadFails z may = tt
unread (FailsBehind ahead keep) AnyLoadMayFail z may = tt
unread AnyMayFail loads z may = tt

------ the texts of entries

text_size : (note : TxnEntry) → length (entry_text note) ≡ 6 + length (fields_of note)
unfolding entry_text
text_size note = simp (length-append, of_unsigned) (omega arith)

size_within : (note : TxnEntry) → IsEntry note → size_of note ≤ 4096
size_within (CoordinatorEpoch epoch) is = omega arith
size_within (Allot id) is = omega arith
size_within (Written r) is = omega (arith, is.front.txn.fits, is.partitions.most)

-- an entry has some bytes, and no more than the least that leave all of it
pub entry_size : (note : TxnEntry) → IsEntry note
    → (0 < length (entry_text note)) × (length (entry_text note) ≤ batch_limit)
entry_size note is = (
  omega (arith, text_size note),
  omega (arith, text_size note, size_is note, size_within note is),
)
