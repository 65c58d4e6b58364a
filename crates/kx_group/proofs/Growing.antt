-- A log as the groups' tables grow it, batch by batch.
use Rattle.std.proofs.Common.{◌≡◌, ℕ, pos, true, List, [], ◌∷◌, ◌++◌, refl, sym, subst}
use Rattle.std.specs.List.{AllByRecursion}
use Rattle.kx_message.specs.declared.message.Held.{Held}
use Rattle.kx_message.specs.declared.payload.PartitionOffset.{PartitionOffset}
use Rattle.kx_commits.specs.Follows.{AllInTransactions, is_in_transaction}
use Rattle.kx_laws.proofs.Splits.{Each, Each-nil, Each-push}
use Rattle.kx_members.specs.Follows.{Makes}
use Rattle.kx_model.specs.Groups.{Fact, membership_text, offsets_batch, record_of}
use Rattle.kx_model.specs.Log.{Entry, Marker, MarkerFits, Stored, end, entries, entry_of}
use Rattle.kx_model.specs.Produce.{stored_at, text_of}
use Rattle.kx_model.proofs.Logs.{entries-push}
use Rattle.kx_offsets.specs.Facts.{CommitFits, FactFits}
use Rattle.kx_offsets.proofs.Saying.{said_again}
use Rattle.kx_group.specs.Log.{FitsChange, FitsMarker, FitsOffsets, IsFitting, IsGroupLog, IsUnfit}
use Rattle.kx_group.specs.Log.{NoBatch, WithBatch}
use Rattle.kx_group.proofs.Texts.{commit_of, commit_says_offsets, stored_change, stored_commit}
use Rattle.kx_group.proofs.Texts.{stored_end}

------ one more batch

with_entry : (log : List Stored) (stored : Stored) (entry : Entry) → IsGroupLog log
    → entry_of stored ≡ entry → IsFitting (entries log) entry → IsGroupLog (log ++ stored ∷ [])
with_entry log stored entry grown is fits =
    WithBatch log stored grown (subst (IsFitting (entries log)) (sym is) fits)

pub with_change : (log : List Stored) (fact : Fact) → IsGroupLog log → FactFits fact
    → Makes (entries log) fact
    → IsGroupLog (log ++ stored_at (end (entries log)) (membership_text fact) ∷ [])
with_change log fact grown fits makes =
    with_entry log _ _ grown (stored_change (end (entries log)) fact fits)
    (FitsChange (record_of 0 fact) fact (said_again 0 fact fits) makes)

pub with_commit : (log : List Stored) (group : List ℕ) (held : Held) (first : ℕ)
    (offsets : List PartitionOffset) → IsGroupLog log → CommitFits group held (pos first) offsets
    → IsGroupLog (log ++ stored_at (end (entries log))
    (offsets_batch group held (pos first) offsets) ∷ [])
with_commit log group held first offsets grown fits =
    with_entry log _ _ grown (stored_commit group held first offsets fits (end (entries log)))
    (FitsOffsets (commit_of group held first offsets) refl
    (commit_says_offsets group held first offsets fits))

pub with_marker : (log : List Stored) (marker : Marker) → IsGroupLog log → MarkerFits marker
    → IsGroupLog (log ++ stored_at (end (entries log)) (text_of marker) ∷ [])
with_marker log marker grown fits =
    with_entry log _ _ grown (stored_end (end (entries log)) marker fits) (FitsMarker marker)

------ each batch

abbrev FitsBehind : List Stored → Stored → Type 0
FitsBehind before stored = IsFitting (entries before) (entry_of stored)

each_fits : (log : List Stored) → IsGroupLog log → Each FitsBehind log
each_fits log NoBatch = Each-nil FitsBehind
each_fits log (WithBatch before stored grown fits) =
    Each-push FitsBehind before stored (each_fits before grown) fits

pub never_unfit : (log : List Stored) (place : ℕ) → IsGroupLog log → IsUnfit log place → ⊥
never_unfit log place grown unfit =
    unfit.refused (each_fits log grown unfit.before unfit.stored unfit.behind unfit.parts)

fitting_in_transaction : (log : List Entry) (entry : Entry) → IsFitting log entry
    → is_in_transaction entry ≡ true
fitting_in_transaction log entry (FitsChange r fact says makes) = refl
fitting_in_transaction log entry (FitsOffsets batch transactional says) = transactional
fitting_in_transaction log entry (FitsMarker marker) = refl

all_push : {A : Type 0} (P : A → Type 0) (xs : List A) (x : A) → AllByRecursion P xs → P x
    → AllByRecursion P (xs ++ x ∷ [])
all_push P [] x all last = (last, tt)
all_push P (y ∷ xs) x all last = (all.0, all_push P xs x all.1 last)

pub all_in_transactions : (log : List Stored) → IsGroupLog log → AllInTransactions (entries log)
all_in_transactions log NoBatch = tt
all_in_transactions log (WithBatch before stored grown fits) =
    subst AllInTransactions (sym (entries-push before stored (entry_of stored) refl))
    (all_push (λ e. is_in_transaction e ≡ true) (entries before) (entry_of stored)
    (all_in_transactions before grown)
    (fitting_in_transaction (entries before) (entry_of stored) fits))
