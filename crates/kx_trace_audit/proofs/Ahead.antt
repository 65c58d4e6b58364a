-- What follows a step in its trace is read record by record.
use Rattle.std.proofs.Common.{◌≡◌, ◌++◌, ◌∙◌, ℕ, Bool, false, List, [], ◌∷◌, Option, Some, None}
use Rattle.std.proofs.Common.{drop, ap, append-nil, refl, subst, sym}
use Rattle.std.specs.List.{flat_map}
use Rattle.std.proofs.lemmas.Grind.{flat_map-append}
use Rattle.std.proofs.lemmas.List.{append_assoc}
use Rattle.kx_trace.specs.Layout.{record_text}
use Rattle.kx_trace.specs.Reading.{More, record_at}
use Rattle.kx_trace.specs.Records.{Record}
use Rattle.kx_trace_audit.specs.Items.{AreDamaged, Begins, Here, Later, RecordRefused, RestRefused}
use Rattle.kx_trace_audit.specs.Lookahead.{ByEnd, ByRecords, EntryIsTold, is_restart, or_later}
use Rattle.kx_trace_audit.specs.Lookahead.{stood_at, stood_in, told_by}
use Rattle.kx_trace_audit.specs.declared.ending.Ending.{Ending}
use Rattle.kx_trace_audit.specs.declared.refusal.TraceRefusal.{TraceRefusal}
use Rattle.kx_trace_audit.specs.declared.refusal.TraceRefusal.TheVariants as refusal

-- the records in front of the rest tell nothing
pub record HasPassed (log_len : ℕ) (bytes : List ℕ) (restarts : Bool) (rest : List ℕ) : Type 0 where
  pub records : List Record
  pub text_is : bytes ≡ flat_map record_text records ++ rest
  pub goes_on : (more : List Record)
      → stood_in log_len false (records ++ more) ≡ stood_in log_len restarts more

pub starts : (log_len : ℕ) (bytes : List ℕ) → HasPassed log_len bytes false bytes
starts log_len bytes = record { records = []; text_is = refl; goes_on = λ more. refl }

module _ (log_len : ℕ) (bytes : List ℕ) (restarts : Bool) (rest : List ℕ)
    (passed : HasPassed log_len bytes restarts rest) where
  module _ (r : Record) (len : ℕ) (begins : Begins rest r len) where
    more_text : bytes ≡ flat_map record_text (passed.records ++ r ∷ []) ++ drop len rest
    more_text =
        let front = flat_map record_text passed.records in
        let one : flat_map record_text (passed.records ++ r ∷ []) ≡ front ++ record_text r =
        flat_map-append record_text passed.records (r ∷ [])
        ∙ ap (λ (l : List ℕ). front ++ l) (append-nil (record_text r)) in
        passed.text_is ∙ ap (λ (l : List ℕ). front ++ l) begins.text_is
        ∙ sym (append_assoc front (record_text r) (drop len rest))
        ∙ ap (λ (l : List ℕ). l ++ drop len rest) (sym one)

    -- the next record tells nothing either
    pub passes : told_by log_len restarts r ≡ None
        → HasPassed log_len bytes (is_restart r) (drop len rest)
    passes none = record {
      records = passed.records ++ r ∷ [];
      text_is = more_text;
      goes_on = λ more.
          ap (stood_in log_len false) (append_assoc passed.records (r ∷ []) more)
          ∙ passed.goes_on (r ∷ more)
          ∙ ap (λ (o : Option Bool). or_later o (stood_in log_len (is_restart r) more)) none;
    }

    -- it tells
    pub tells : (end : Ending) (stood : Bool) → told_by log_len restarts r ≡ Some stood
        → EntryIsTold log_len end bytes (Some stood)
    tells end stood some =
        ByRecords (passed.records ++ r ∷ []) (drop len rest) stood more_text
        (passed.goes_on (r ∷ [])
        ∙ ap (λ (o : Option Bool). or_later o (stood_in log_len (is_restart r) [])) some)

  -- no more whole record follows
  pub ends : (end : Ending) → record_at rest ≡ More
      → EntryIsTold log_len end bytes (stood_at end log_len)
  ends end more =
      ByEnd passed.records rest passed.text_is
      (ap (stood_in log_len false) (sym (append-nil passed.records)) ∙ passed.goes_on []) more

  damaged : (records : List Record) (all : List ℕ) → all ≡ flat_map record_text records ++ rest
      → AreDamaged rest → AreDamaged all
  damaged [] all text_is is = subst AreDamaged (sym text_is) is
  damaged (r ∷ records) all text_is is =
      let after = flat_map record_text records ++ rest in
      Later all r after (text_is ∙ append_assoc (record_text r) (flat_map record_text records) rest)
      (damaged records after refl is)

  -- damaged bytes follow
  pub breaks : (why : TraceRefusal) → RecordRefused rest why → RestRefused bytes why
  breaks refusal.Bytes is = damaged passed.records bytes passed.text_is (Here rest is.0 is.1)
  breaks refusal.Memory is = tt
  breaks refusal.DuplicateNode is = absurd is
  breaks refusal.Unsent is = absurd is
  breaks refusal.Store is = absurd is
  breaks refusal.Answer is = absurd is
  breaks refusal.Found is = absurd is
  breaks refusal.Log is = absurd is
