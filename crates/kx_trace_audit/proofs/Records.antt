-- What stands at the front of the bytes of a trace.
use Rattle.std.proofs.Common.{◌≡◌, ◌+◌, ◌++◌, ◌∙◌, ℕ, List, drop, ap, arith, refl, sym}
use Rattle.std.proofs.Common.{Err, None, Ok, Option, Result, Some, subst, ⊎_elim}
use Rattle.std.specs.Prelude.{IfErr, IfOk, IsErrAnd, MatchOption, MatchResult}
use Rattle.std.proofs.lemmas.List.{append_assoc, drop-drop, length-drop}
use Rattle.std.proofs.lemmas.Option.{same_Some}
use Rattle.kx_machine.specs.declared.input.Input.{Input}
use Rattle.kx_nodes.specs.declared.mark.Mark.{Mark}
use Rattle.kx_trace.specs.Faults.{RecordFaults}
use Rattle.kx_trace.specs.Layout.{record_text}
use Rattle.kx_trace.specs.Reading.{Bad, More, record_at}
use Rattle.kx_trace.specs.Records as spelled
use Rattle.kx_trace.specs.Records.{Record, record_of}
use Rattle.kx_trace.specs.declared.record.Record as read
use Rattle.kx_trace.specs.declared.fault.TraceFault.{TraceFault}
use Rattle.kx_trace.specs.declared.fault.TraceFault.TheVariants as fault
use Rattle.kx_trace_audit.specs.Items.{AfterRefused, AreDamaged, Begins, BeginsTold}
use Rattle.kx_trace_audit.specs.Items.{Damaged, Here, ItemRefused, Later}
use Rattle.kx_trace_audit.specs.Items.{RecordRefused, RestRefused, TakesTwo}
use Rattle.kx_trace_audit.specs.Items.{refusal_of}
use Rattle.kx_trace_audit.specs.Told.{Answered, Reopened, Told, Unanswered, Untaken, told_text}
use Rattle.kx_trace_audit.specs.declared.refusal.TraceRefusal.{TraceRefusal}
use Rattle.kx_trace_audit.specs.declared.refusal.TraceRefusal.TheVariants as refusal

-- why no record is read
pub not_read : (bytes : List ℕ) (why : TraceFault) → RecordFaults why (record_at bytes)
    → RecordRefused bytes (refusal_of why)
not_read bytes fault.NoTrace is = absurd is
not_read bytes fault.Version is = absurd is
not_read bytes fault.Node is = absurd is
not_read bytes fault.Kind is = (fault.Kind, is)
not_read bytes fault.Field is = (fault.Field, is)
not_read bytes fault.TooLong is = absurd is
not_read bytes fault.Memory is = tt

-- a refusal that is passed on
pub refused_so : {A E : Type 0} (r : Result A E) (why : E) → IsErrAnd r (λ x. x ≡ why)
    → (P : A → Type 0) (Q : E → Type 0) → Q why → MatchResult r P Q
refused_so (Ok v) why is P Q so = absurd is
refused_so (Err x) why is P Q so = subst Q (sym is) so

-- what holds of a result by what holds of it whatever the bytes are
pub if_ok_at : {A E : Type 0} (r : Result A E) (P Q : A → Type 0) → ((x : A) → P x → Q x)
    → IfOk r P → IfOk r Q
if_ok_at (Ok x) P Q so p = so x p
if_ok_at (Err e) P Q so p = tt

pub if_err_at : {A E : Type 0} (r : Result A E) (P Q : E → Type 0) → ((x : E) → P x → Q x)
    → IfErr r P → IfErr r Q
if_err_at (Ok x) P Q so p = tt
if_err_at (Err e) P Q so p = so e p

-- the record that stands at the front, if one does
pub begins_at : (bytes : List ℕ) (o : Option (read.Record × ℕ)) (r : read.Record) (n : ℕ)
    → o ≡ Some (r, n)
    → MatchOption o (record_at bytes ≡ More) (λ x. Begins bytes (record_of x.0) x.1)
    → Begins bytes (record_of r) n
begins_at bytes None r n e is = absurd cc
begins_at bytes (Some x) r n e is =
    subst (λ (y : read.Record × ℕ). Begins bytes (record_of y.0) y.1) (same_Some x (r, n) e) is

pub none_at : (bytes : List ℕ) (o : Option (read.Record × ℕ)) → o ≡ None
    → MatchOption o (record_at bytes ≡ More) (λ x. Begins bytes (record_of x.0) x.1)
    → record_at bytes ≡ More
none_at bytes None e is = is
none_at bytes (Some x) e is = absurd cc

------ one record, or two

module _ (bytes : List ℕ) where
  pub alone : (told : Told) (r : Record) (n : ℕ) → told_text told ≡ record_text r
      → Begins bytes r n → BeginsTold bytes told n
  alone told r n same begins = record {
    some = begins.some;
    within = begins.within;
    text_is = begins.text_is ∙ ap (λ (l : List ℕ). l ++ drop n bytes) (sym same);
  }

  pub both : (told : Told) (r s : Record) (n m : ℕ)
      → told_text told ≡ record_text r ++ record_text s → Begins bytes r n
      → Begins (drop n bytes) s m → BeginsTold bytes told (n + m)
  both told r s n m same first second = record {
    some = omega (arith, first.some);
    within = omega (arith, length-drop n bytes, first.within, second.within);
    text_is = first.text_is
        ∙ ap (λ (l : List ℕ). record_text r ++ l)
        (second.text_is ∙ ap (λ (l : List ℕ). record_text s ++ l) (drop-drop m n bytes))
        ∙ sym (append_assoc (record_text r) (record_text s) (drop (n + m) bytes))
        ∙ ap (λ (l : List ℕ). l ++ drop (n + m) bytes) (sym same);
  }

  module _ (input : Input) (n : ℕ) (took : Begins bytes (spelled.Took input) n) where
    pub answered : (mark : Mark) (frames : List ℕ) (m : ℕ)
        → Begins (drop n bytes) (spelled.Answered mark frames) m
        → BeginsTold bytes (Answered input mark frames) (n + m)
    answered mark frames m second =
        both (Answered input mark frames) (spelled.Took input) (spelled.Answered mark frames) n m
        refl took second

    pub untaken : (m : ℕ) → Begins (drop n bytes) spelled.Untaken m
        → BeginsTold bytes (Untaken input) (n + m)
    untaken m second = both (Untaken input) (spelled.Took input) spelled.Untaken n m refl took second

    pub unanswered : BeginsTold bytes (Unanswered input) n
    unanswered = alone (Unanswered input) (spelled.Took input) n refl took

    pub not_followed : (why : TraceRefusal) → AfterRefused (drop n bytes) why
        → ItemRefused bytes why
    not_followed refusal.Bytes is =
        ⊎_elim
        (λ (a : (f : TraceFault) × (record_at (drop n bytes) ≡ Bad f)).
        Damaged (Later bytes (spelled.Took input) (drop n bytes) took.text_is
        (Here (drop n bytes) a.0 a.1)))
        (λ (b : (other : Input) × (rest : List ℕ)
        × (drop n bytes ≡ record_text (spelled.Took other) ++ rest)).
        TakesTwo input b.0 b.1
        (took.text_is ∙ ap (λ (l : List ℕ). record_text (spelled.Took input) ++ l) b.2))
        is
    not_followed refusal.Memory is = tt
    not_followed refusal.DuplicateNode is = absurd is
    not_followed refusal.Unsent is = absurd is
    not_followed refusal.Store is = absurd is
    not_followed refusal.Answer is = absurd is
    not_followed refusal.Found is = absurd is
    not_followed refusal.Log is = absurd is

  pub reopened : (now log_len n : ℕ) → Begins bytes (spelled.Reopened now log_len) n
      → BeginsTold bytes (Reopened now log_len) n
  reopened now log_len n begins =
      alone (Reopened now log_len) (spelled.Reopened now log_len) n refl begins

  pub no_item : (why : TraceRefusal) → RecordRefused bytes why → ItemRefused bytes why
  no_item refusal.Bytes is = Damaged (Here bytes is.0 is.1)
  no_item refusal.Memory is = tt
  no_item refusal.DuplicateNode is = absurd is
  no_item refusal.Unsent is = absurd is
  no_item refusal.Store is = absurd is
  no_item refusal.Answer is = absurd is
  no_item refusal.Found is = absurd is
  no_item refusal.Log is = absurd is

  pub no_rest : (why : TraceRefusal) → RecordRefused bytes why → RestRefused bytes why
  no_rest refusal.Bytes is = Here bytes is.0 is.1
  no_rest refusal.Memory is = tt
  no_rest refusal.DuplicateNode is = absurd is
  no_rest refusal.Unsent is = absurd is
  no_rest refusal.Store is = absurd is
  no_rest refusal.Answer is = absurd is
  no_rest refusal.Found is = absurd is
  no_rest refusal.Log is = absurd is

------ damaged bytes

-- what follows what is told is damaged
damaged_after : (bytes : List ℕ) (told : Told) (n : ℕ) → BeginsTold bytes told n
    → AreDamaged (drop n bytes) → AreDamaged bytes
damaged_after bytes (Answered input mark frames) n begins damaged =
    let rest = record_text (spelled.Answered mark frames) ++ drop n bytes in
    Later bytes (spelled.Took input) rest
    (begins.text_is ∙ append_assoc (record_text (spelled.Took input))
    (record_text (spelled.Answered mark frames)) (drop n bytes))
    (Later rest (spelled.Answered mark frames) (drop n bytes) refl damaged)
damaged_after bytes (Untaken input) n begins damaged =
    let rest = record_text spelled.Untaken ++ drop n bytes in
    Later bytes (spelled.Took input) rest
    (begins.text_is ∙ append_assoc (record_text (spelled.Took input)) (record_text spelled.Untaken)
    (drop n bytes))
    (Later rest spelled.Untaken (drop n bytes) refl damaged)
damaged_after bytes (Unanswered input) n begins damaged =
    Later bytes (spelled.Took input) (drop n bytes) begins.text_is damaged
damaged_after bytes (Reopened now log_len) n begins damaged =
    Later bytes (spelled.Reopened now log_len) (drop n bytes) begins.text_is damaged

pub refused_after : (bytes : List ℕ) (told : Told) (n : ℕ) → BeginsTold bytes told n
    → (why : TraceRefusal) → RestRefused (drop n bytes) why → ItemRefused bytes why
refused_after bytes told n begins refusal.Bytes is = Damaged (damaged_after bytes told n begins is)
refused_after bytes told n begins refusal.Memory is = tt
refused_after bytes told n begins refusal.DuplicateNode is = absurd is
refused_after bytes told n begins refusal.Unsent is = absurd is
refused_after bytes told n begins refusal.Store is = absurd is
refused_after bytes told n begins refusal.Answer is = absurd is
refused_after bytes told n begins refusal.Found is = absurd is
refused_after bytes told n begins refusal.Log is = absurd is
