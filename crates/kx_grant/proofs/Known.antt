-- The sequences that a grant knows are sequences.
use Rattle.std.proofs.Common.{◌≡◌, ◌<◌, ◌⊎◌, ◌+◌, ℕ, Bool, true, false, cond}
use Rattle.std.proofs.Common.{eqb, List, length, get_or, set, replicate, refl, sym, ap, ◌∙◌, subst, inl}
use Rattle.std.proofs.Common.{inr, Some, None, arith}
use Rattle.std.specs.Prelude.{Option, unwrap_or}
use Rattle.std.proofs.lemmas.List.{get_or-replicate, get_or-set_same, length-replicate, length-set}
use Rattle.std.proofs.Math.Nat.{mod-lt}
use Rattle.kx_message.specs.declared.code.ErrorCode.{ErrorCode}
use Rattle.kx_message.specs.Ranges.{data_partitions, offsets_partition}
use Rattle.kx_message.specs.declared.message.Held.{Held}
use Rattle.kx_message.specs.declared.outcome.Outcome.{Outcome}
use Rattle.kx_grant.specs.Sequences.{IsSequence, after, sequence_in, sequences}
use Rattle.kx_grant.specs.Grant.{commit_code, committing}
use Rattle.kx_grant.specs.Grant.{after_verdict, at, batch_verdict, begun, begun_at, counted, counts}
use Rattle.kx_grant.specs.Grant.{ended, ended_empty, gone_on, with_sent, is_held, listed_at, listing}
use Rattle.kx_grant.specs.Grant.{next_at, noted, reopened, stopped, stopped_at, with_at}
use Rattle.kx_grant.specs.Steps.{Step, Adds, Batches, Takes, Refuses, Ends, Commits, Goes, Regrants}
use Rattle.kx_grant.specs.Steps.{Fits, IsGrant, after_step}
use Rattle.kx_grant.specs.declared.grant.Grant.{Grant}
use Rattle.kx_grant.specs.declared.grant.LastRow.{LastRow}
use Rattle.kx_grant.specs.declared.grant.Listed.{Listed}
use Rattle.kx_grant.specs.declared.grant.Phase.{Phase}
use Rattle.kx_grant.specs.declared.grant.Phase.TheVariants as phase
use Rattle.kx_grant.specs.declared.verdicts.BatchVerdict.{BatchVerdict}
use Rattle.kx_grant.specs.declared.verdicts.BatchVerdict.TheVariants.{Send, Refused}
use Rattle.kx_grant.proofs.Places.{at_other, inside, same_or_not}
use Rattle.kx_grant.proofs.Sends.{known_within}

abbrev Each : {A : Type 0} → (A → Type 0) → List (Option A) → Type 0
Each {A} P xs = (p : ℕ) (v : A) → at xs p ≡ Some v → P v

here_under : {A : Type 0} (b : Bool) (xs : List (Option A)) (p : ℕ) (y : Option A) (v : A)
    → cond b None (get_or (cond b xs (set xs p y)) p None) ≡ Some v → y ≡ Some v
here_under true xs p y v e = absurd cc
here_under false xs p y v e =
    let new : p < length (set xs p y) = inside (set xs p y) p v e in
    let old : p < length xs = subst (λ (n : ℕ). p < n) (length-set xs p y) new in
    sym (get_or-set_same xs p y None old) ∙ e

-- what there is of a partition was there, or is new
pub from_with : {A : Type 0} (xs : List (Option A)) (p q : ℕ) (y : Option A) (v : A)
    → at (with_at xs q y) p ≡ Some v → (at xs p ≡ Some v) ⊎ ((p ≡ q) × (y ≡ Some v))
from_with xs p q y v e =
    elim (same_or_not p q) [
      | inl same ↦
          inr (
            same,
            here_under (eqb p offsets_partition) xs p y v
                (subst (λ (n : ℕ). at (with_at xs n y) p ≡ Some v) (sym same) e),
          )
      | inr apart ↦ inl (sym (at_other xs p q y apart) ∙ e)
    ]

each_with : {A : Type 0} (P : A → Type 0) (xs : List (Option A)) (q : ℕ) (y : Option A)
    → Each P xs → ((v : A) → y ≡ Some v → P v) → Each P (with_at xs q y)
each_with P xs q y all new = λ p v e.
    elim (from_with xs p q y v e) [
      | inl old ↦ all p v old
      | inr is ↦ new v is.1
    ]

pub alike_under : {A : Type 0} (b : Bool) (n p : ℕ) (x : Option A) (v : A)
    → cond b None (get_or (replicate n x) p None) ≡ Some v → x ≡ Some v
alike_under true n p x v e = absurd cc
alike_under false n p x v e =
    let in_list : p < length (replicate n x) = inside (replicate n x) p v e in
    let below : p < n = subst (λ (k : ℕ). p < k) (length-replicate n x) in_list in
    sym (get_or-replicate n p x None below) ∙ e

each_alike : {A : Type 0} (P : A → Type 0) (n : ℕ) (x : Option A)
    → ((v : A) → x ≡ Some v → P v) → Each P (replicate n x)
each_alike P n x h = λ p v e. h v (alike_under (eqb p offsets_partition) n p x v e)

abbrev HasRange : Listed → Type 0
HasRange l = (base : ℕ) → l.base ≡ Some base → IsSequence base

abbrev Range : ℕ → Type 0
Range n = IsSequence n

listing_range : (next : Option ℕ) (x : Option Listed)
    → ((n : ℕ) → next ≡ Some n → IsSequence n) → ((l : Listed) → x ≡ Some l → HasRange l)
    → (v : Listed) → listing next x ≡ Some v → HasRange v
listing_range next None hn hl v e = λ base is.
    let new : Listed = record { base = next; is_stopped = false } in
    let same : new ≡ v = cc in
    hn base (ap (λ (l : Listed). l.base) same ∙ is)
listing_range next (Some l) hn hl v e = hl v e

begun_range : (first : ℕ) (x : Option Listed) → IsSequence first
    → ((l : Listed) → x ≡ Some l → HasRange l)
    → (v : Listed) → begun_at first x ≡ Some v → HasRange v
begun_range first None fits h v e = absurd cc
begun_range first (Some l) fits h v e = λ base is.
    let new : Listed = record l { base = Some (unwrap_or l.base first) } in
    let same : new ≡ v = cc in
    let value : Some (unwrap_or l.base first) ≡ Some base =
    ap (λ (l : Listed). l.base) same ∙ is in
    let number : unwrap_or l.base first ≡ base = cc in
    subst Range number (known_within l.base first (h l refl) fits)

stopped_range : (x : Option Listed) → ((l : Listed) → x ≡ Some l → HasRange l)
    → (v : Listed) → stopped x ≡ Some v → HasRange v
stopped_range None h v e = absurd cc
stopped_range (Some l) h v e = λ base is.
    let new : Listed = record l { is_stopped = true } in
    let same : new ≡ v = cc in
    h l refl base (ap (λ (l : Listed). l.base) same ∙ is)

counted_range : (count : ℕ) (x : Option ℕ) (v : ℕ) → counted count x ≡ Some v → IsSequence v
counted_range count None v e = absurd cc
counted_range count (Some n) v e =
    let same : after n count ≡ v = cc in
    subst Range same (mod-lt (n + count) {m = sequences} (omega arith))

next_range : (x : Option ℕ) (first : ℕ) → ((n : ℕ) → x ≡ Some n → IsSequence n)
    → IsSequence first → (v : ℕ) → Some (unwrap_or x first) ≡ Some v → IsSequence v
next_range x first h fits v e =
    let same : unwrap_or x first ≡ v = cc in subst Range same (known_within x first h fits)

none_range : (v : Listed) → None ≡ Some v → HasRange v
none_range v e = absurd cc

none_next : (v : ℕ) → None ≡ Some v → IsSequence v
none_next v e = absurd cc

zero_next : (v : ℕ) → Some 0 ≡ Some v → IsSequence v
zero_next v e = let same : 0 ≡ v = cc in subst Range same (omega arith)

either : (b : Bool) (x y : Grant) → IsGrant x → IsGrant y → IsGrant (cond b x y)
either true x y u v = u
either false x y u v = v

by_verdict : (r : BatchVerdict) (x y : Grant) → IsGrant x → IsGrant y
    → IsGrant (after_verdict r x y)
by_verdict (Send held first) x y u v = v
by_verdict (Refused c) x y u v = u

pub begun_is : (before : Option Held) (held : Held) → IsGrant (begun before held)
begun_is before held = record {
  next = each_alike Range data_partitions (Some 0) zero_next;
  base = each_alike HasRange data_partitions None none_range;
}

pub reopened_is : (granted core : Held) (row : LastRow) → IsGrant (reopened granted core row)
reopened_is granted core row = record {
  next = each_alike Range data_partitions None none_next;
  base = each_alike HasRange data_partitions None none_range;
}

noted_is : (g : Grant) (q : ℕ) → IsGrant g → IsGrant (noted q g)
noted_is g q k = record {
  next = k.next;
  base = each_with HasRange g.listed q (listing (next_at g q) (listed_at g q)) k.base
      (listing_range (next_at g q) (listed_at g q) (k.next q) (k.base q));
}

with_sent_is : (g : Grant) (q : ℕ) (first : Option ℕ)
    → ((n : ℕ) → first ≡ Some n → IsSequence n) → IsGrant g → IsGrant (with_sent g q first)
with_sent_is g q None fits k = k
with_sent_is g q (Some first) fits k = record {
  next = each_with Range g.next q (Some (unwrap_or (next_at g q) first)) k.next
      (next_range (next_at g q) first (k.next q) (fits first refl));
  base = each_with HasRange g.listed q (begun_at first (listed_at g q)) k.base
      (begun_range first (listed_at g q) (fits first refl) (k.base q));
}

gone_is : (g : Grant) (q count : ℕ) → IsGrant g → IsGrant (gone_on g q count)
gone_is g q count k = record {
  next = each_with Range g.next q (counted count (next_at g q)) k.next
      (counted_range count (next_at g q));
  base = k.base;
}

stopped_is : (g : Grant) (q : ℕ) → IsGrant g → IsGrant (stopped_at g q)
stopped_is g q k = record {
  next = k.next;
  base = each_with HasRange g.listed q (stopped (listed_at g q)) k.base
      (stopped_range (listed_at g q) (k.base q));
}

ended_is : (outcome : Outcome) (core : Held) (g : Grant) → IsGrant g
    → IsGrant (ended outcome core g)
ended_is outcome core g k = record {
  next = k.next;
  base = each_alike HasRange data_partitions None none_range;
}

empty_is : (f : Phase) (g : Grant) (outcome : Outcome) → IsGrant g
    → IsGrant (ended_empty f outcome g)
empty_is phase.Empty g outcome k = ended_is outcome g.core g k
empty_is phase.Sent g outcome k = k
empty_is phase.Resumed g outcome k = k
empty_is (phase.Ended last) g outcome k = k
empty_is (phase.Decided last) g outcome k = k

committed_is : (refusal : Option ErrorCode) (g : Grant) → IsGrant g → IsGrant (committing refusal g)
committed_is None g k = record { next = k.next; base = k.base }
committed_is (Some code) g k = k

pub step_is : (g : Grant) (s : Step) → IsGrant g → Fits s → IsGrant (after_step g s)
step_is g (Adds held q) k f =
    either (is_held g.granted held) (noted q g) g (noted_is g q k) k
step_is g (Batches held q first count) k f =
    by_verdict (batch_verdict g held q first count) g (with_sent g q (sequence_in first)) k
    (with_sent_is g q (sequence_in first) f k)
step_is g (Takes held q first count) k f =
    either (counts g held q first) (gone_on g q count) g (gone_is g q count k) k
step_is g (Refuses held q first count) k f =
    either (counts g held q first) (stopped_at (gone_on g q count) q) g
    (stopped_is (gone_on g q count) q (gone_is g q count k)) k
step_is g (Ends held outcome) k f =
    either (is_held g.granted held) (ended_empty g.phase outcome g) g
    (empty_is g.phase g outcome k) k
step_is g (Commits held) k f = committed_is (commit_code g held) g k
step_is g (Goes outcome next) k f = ended_is outcome next g k
step_is g (Regrants asked held) k f = begun_is (Some asked) held
