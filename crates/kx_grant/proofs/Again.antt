-- A batch that counted isn't sent in a later transaction.
use Rattle.std.proofs.Common.{◌≡◌, ◌<◌, ◌+◌, ℕ, ℤ, pos, Bool, true, false, cond, eqb}
use Rattle.std.proofs.Common.{List, [], ◌∷◌, refl, sym, ap, ◌∙◌, subst, inl, inr, Some, None, arith}
use Rattle.std.specs.Prelude.{Option, ◌&&◌, unwrap_or}
use Rattle.std.proofs.Math.Nat.{mod-lt}
use Rattle.std.proofs.lemmas.Bool.{eqb-true}
use Rattle.std.proofs.lemmas.Bool.Decides.{Decides-eqb}
use Rattle.kx_message.specs.declared.code.ErrorCode.{ErrorCode}
use Rattle.kx_message.specs.Ranges.{data_partitions, offsets_partition}
use Rattle.kx_message.specs.declared.message.Held.{Held}
use Rattle.kx_message.specs.declared.outcome.Outcome.{Outcome}
use Rattle.kx_grant.specs.Sequences.{IsSequence, after, sequence_in, sequences, since}
use Rattle.kx_grant.specs.Grant.{commit_code, committing}
use Rattle.kx_grant.specs.Grant.{after_verdict, at, batch_verdict, begun_at, counted, counts, ended}
use Rattle.kx_grant.specs.Grant.{ended_empty, gone_on, is_held, listed_at, listing, next_at, noted}
use Rattle.kx_grant.specs.Grant.{stopped, stopped_at, with_at, with_sent}
use Rattle.kx_grant.specs.Steps.{Step, Adds, Batches, Takes, Refuses, Ends, Commits, Goes, Regrants}
use Rattle.kx_grant.specs.Steps.{after_all, after_step, all_keep_grant, all_records_in, keeps_grant}
use Rattle.kx_grant.specs.Steps.{records_in}
use Rattle.kx_grant.specs.declared.grant.Grant.{Grant}
use Rattle.kx_grant.specs.declared.grant.Listed.{Listed}
use Rattle.kx_grant.specs.declared.grant.Phase.{Phase}
use Rattle.kx_grant.specs.declared.grant.Phase.TheVariants as phase
use Rattle.kx_grant.specs.declared.verdicts.BatchVerdict.{BatchVerdict}
use Rattle.kx_grant.specs.declared.verdicts.BatchVerdict.TheVariants.{Send, Refused}
use Rattle.kx_grant.proofs.Known.{alike_under, from_with}
use Rattle.kx_grant.proofs.Places.{at_other, at_same, same_or_not}
use Rattle.kx_grant.proofs.Sends.{late, sent}

-- places after a begin

none_since : (n : ℕ) → n < sequences → since n n ≡ 0
none_since n h = omega (arith, h)

more_since : (base n count : ℕ) → base < sequences → n < sequences
    → since base n + count < sequences → since base (after n count) ≡ since base n + count
more_since base n count hb hn room = omega (arith, hb, hn, room)

-- the transaction of a listed partition begins after the batch
pub record Later (first next total : ℕ) (l : Listed) : Type 0 where
  pub base : ℕ
  pub base_is : l.base ≡ Some base
  pub in_range : IsSequence base
  pub behind : 0 < since first base
  pub rest : since first base + since base next ≡ total

-- so many records count since the batch began
pub record Past (p first total : ℕ) (g : Grant) : Type 0 where
  pub next : ℕ
  pub next_is : next_at g p ≡ Some next
  pub in_range : IsSequence next
  pub some : 0 < total
  pub counted : since first next ≡ total
  pub listed : (l : Listed) → listed_at g p ≡ Some l → Later first next total l

-- a change that keeps what is known of the next sequence
next_kept : (xs : List (Option ℕ)) (p q n first : ℕ) → at xs p ≡ Some n
    → at (with_at xs q (Some (unwrap_or (at xs q) first))) p ≡ Some n
next_kept xs p q n first e =
    elim (same_or_not p q) [
      | inl same ↦
          subst (λ (k : ℕ). at (with_at xs k (Some (unwrap_or (at xs k) first))) p ≡ Some n) same
          (at_same xs p n (Some (unwrap_or (at xs p) first)) e
          ∙ ap (λ (x : Option ℕ). Some (unwrap_or x first)) e)
      | inr apart ↦ at_other xs p q (Some (unwrap_or (at xs q) first)) apart ∙ e
    ]

both : (a b : Bool) → (a && b) ≡ true → (a ≡ true) × (b ≡ true)
both true b e = (refl, e)
both false b e = absurd cc

unequal : (p q : ℕ) → p ≡ q → eqb p q ≡ false → ⊥
unequal p q is e = let yes : eqb p q ≡ true = (Decides-eqb p q).1 is in absurd cc

module _ (p first : ℕ) (fits : IsSequence first) where
  abbrev In : ℕ → Grant → Type 0
  In total g = Past p first total g

  either : (total : ℕ) (b : Bool) (x y : Grant) → In total x → In total y → In total (cond b x y)
  either total true x y u v = u
  either total false x y u v = v

  by_verdict : (total : ℕ) (r : BatchVerdict) (x y : Grant) → In total x → In total y
      → In total (after_verdict r x y)
  by_verdict total (Send held f) x y u v = v
  by_verdict total (Refused c) x y u v = u

  later_listing : (next total : ℕ) (x : Option Listed) → IsSequence next → 0 < total
      → since first next ≡ total → ((l : Listed) → x ≡ Some l → Later first next total l)
      → (v : Listed) → listing (Some next) x ≡ Some v → Later first next total v
  later_listing next total None range some count h v e =
      let new : Listed = record { base = Some next; is_stopped = false } in
      let same : new ≡ v = cc in
      let zero : since next next ≡ 0 = none_since next range in
      record {
        base = next;
        base_is = sym (ap (λ (l : Listed). l.base) same);
        in_range = range;
        behind = omega (arith, some, count);
        rest = omega (arith, count, zero);
      }
  later_listing next total (Some l) range some count h v e = h v e

  noted_past : (total : ℕ) (g : Grant) (q : ℕ) → In total g → In total (noted q g)
  noted_past total g q w = record {
    next = w.next;
    next_is = w.next_is;
    in_range = w.in_range;
    some = w.some;
    counted = w.counted;
    listed = λ l e.
        elim (from_with g.listed p q (listing (next_at g q) (listed_at g q)) l e) [
          | inl old ↦ w.listed l old
          | inr is ↦
              let there : listing (next_at g p) (listed_at g p) ≡ Some l =
              subst (λ (k : ℕ). listing (next_at g k) (listed_at g k) ≡ Some l) (sym is.0) is.1 in
              let known : listing (Some w.next) (listed_at g p) ≡ Some l =
              ap (λ (x : Option ℕ). listing x (listed_at g p)) (sym w.next_is) ∙ there in
              later_listing w.next total (listed_at g p) w.in_range w.some w.counted w.listed l
              known
        ];
  }

  later_begun : (next total seq : ℕ) (x : Option Listed)
      → ((l : Listed) → x ≡ Some l → Later first next total l)
      → (v : Listed) → begun_at seq x ≡ Some v → Later first next total v
  later_begun next total seq None h v e = absurd cc
  later_begun next total seq (Some l) h v e =
      let new : Listed = record l { base = Some (unwrap_or l.base seq) } in
      let same : new ≡ v = cc in
      let old = h l refl in
      let base : new.base ≡ Some old.base =
      ap (λ (x : Option ℕ). Some (unwrap_or x seq)) old.base_is in
      record {
        base = old.base;
        base_is = sym (ap (λ (l : Listed). l.base) same) ∙ base;
        in_range = old.in_range;
        behind = old.behind;
        rest = old.rest;
      }

  later_stopped : (next total : ℕ) (x : Option Listed)
      → ((l : Listed) → x ≡ Some l → Later first next total l)
      → (v : Listed) → stopped x ≡ Some v → Later first next total v
  later_stopped next total None h v e = absurd cc
  later_stopped next total (Some l) h v e =
      let new : Listed = record l { is_stopped = true } in
      let same : new ≡ v = cc in
      let old = h l refl in
      record {
        base = old.base;
        base_is = sym (ap (λ (l : Listed). l.base) same) ∙ old.base_is;
        in_range = old.in_range;
        behind = old.behind;
        rest = old.rest;
      }

  sent_past : (total : ℕ) (g : Grant) (q : ℕ) (seq : Option ℕ) → In total g
      → In total (with_sent g q seq)
  sent_past total g q None w = w
  sent_past total g q (Some seq) w = record {
    next = w.next;
    next_is = next_kept g.next p q w.next seq w.next_is;
    in_range = w.in_range;
    some = w.some;
    counted = w.counted;
    listed = λ l e.
        elim (from_with g.listed p q (begun_at seq (listed_at g q)) l e) [
          | inl old ↦ w.listed l old
          | inr is ↦
              let there : begun_at seq (listed_at g p) ≡ Some l =
              subst (λ (k : ℕ). begun_at seq (listed_at g k) ≡ Some l) (sym is.0) is.1 in
              later_begun w.next total seq (listed_at g p) w.listed l there
        ];
  }

  stopped_past : (total : ℕ) (g : Grant) (q : ℕ) → In total g → In total (stopped_at g q)
  stopped_past total g q w = record {
    next = w.next;
    next_is = w.next_is;
    in_range = w.in_range;
    some = w.some;
    counted = w.counted;
    listed = λ l e.
        elim (from_with g.listed p q (stopped (listed_at g q)) l e) [
          | inl old ↦ w.listed l old
          | inr is ↦
              let there : stopped (listed_at g p) ≡ Some l =
              subst (λ (k : ℕ). stopped (listed_at g k) ≡ Some l) (sym is.0) is.1 in
              later_stopped w.next total (listed_at g p) w.listed l there
        ];
  }

  -- the client goes on in another partition
  apart_past : (total : ℕ) (g : Grant) (q count : ℕ) → (p ≡ q → ⊥) → In total g
      → In total (gone_on g q count)
  apart_past total g q count apart w = record {
    next = w.next;
    next_is = at_other g.next p q (counted count (next_at g q)) apart ∙ w.next_is;
    in_range = w.in_range;
    some = w.some;
    counted = w.counted;
    listed = w.listed;
  }

  -- or in this one
  moved_past : (total : ℕ) (g : Grant) (count : ℕ) → total + count < sequences → In total g
      → In (total + count) (gone_on g p count)
  moved_past total g count room w =
      let is = w.counted in
      let more : since first (after w.next count) ≡ since first w.next + count =
      more_since first w.next count fits w.in_range (omega (arith, is, room)) in
      record {
        next = after w.next count;
        next_is = at_same g.next p w.next (counted count (next_at g p)) w.next_is
            ∙ ap (counted count) w.next_is;
        in_range = mod-lt (w.next + count) {m = sequences} (omega arith);
        some = omega (arith, w.some);
        counted = omega (arith, more, is);
        listed = λ l e.
            let old = w.listed l e in
            let rest = old.rest in
            let on : since old.base (after w.next count) ≡ since old.base w.next + count =
            more_since old.base w.next count old.in_range w.in_range (omega (arith, rest, room)) in
            record {
              base = old.base;
              base_is = old.base_is;
              in_range = old.in_range;
              behind = old.behind;
              rest = omega (arith, on, rest);
            };
      }

  gone_past : (total : ℕ) (g : Grant) (q count : ℕ) (same : Bool) → eqb p q ≡ same
      → total + cond same count 0 < sequences → In total g
      → In (total + cond same count 0) (gone_on g q count)
  gone_past total g q count true e room w =
      let is : p ≡ q = eqb-true p q e in
      subst (λ (k : ℕ). In (total + count) (gone_on g k count)) is
      (moved_past total g count room w)
  gone_past total g q count false e room w =
      let still : total ≡ total + 0 = omega arith in
      subst (λ (k : ℕ). In k (gone_on g q count)) still
      (apart_past total g q count (λ is. unequal p q is e) w)

  counted_past : (total : ℕ) (g x : Grant) (count : ℕ) (same counts : Bool)
      → total + cond (same && counts) count 0 < sequences
      → (total + cond same count 0 < sequences → In (total + cond same count 0) x) → In total g
      → In (total + cond (same && counts) count 0) (cond counts x g)
  counted_past total g x count true true room u w = u room
  counted_past total g x count false true room u w = u room
  counted_past total g x count true false room u w =
      let still : total ≡ total + 0 = omega arith in subst (λ (k : ℕ). In k g) still w
  counted_past total g x count false false room u w =
      let still : total ≡ total + 0 = omega arith in subst (λ (k : ℕ). In k g) still w

  ended_past : (total : ℕ) (g : Grant) (outcome : Outcome) (core : Held) → In total g
      → In total (ended outcome core g)
  ended_past total g outcome core w = record {
    next = w.next;
    next_is = w.next_is;
    in_range = w.in_range;
    some = w.some;
    counted = w.counted;
    listed = λ l e.
        let never : None ≡ Some l =
        alike_under (eqb p offsets_partition) data_partitions p None l e in
        absurd cc;
  }

  empty_past : (total : ℕ) (f : Phase) (g : Grant) (outcome : Outcome) → In total g
      → In total (ended_empty f outcome g)
  empty_past total phase.Empty g outcome w = ended_past total g outcome g.core w
  empty_past total phase.Sent g outcome w = w
  empty_past total phase.Resumed g outcome w = w
  empty_past total (phase.Ended last) g outcome w = w
  empty_past total (phase.Decided last) g outcome w = w

  committed_past : (total : ℕ) (refusal : Option ErrorCode) (g : Grant) → In total g
      → In total (committing refusal g)
  committed_past total None g w = record {
    next = w.next;
    next_is = w.next_is;
    in_range = w.in_range;
    some = w.some;
    counted = w.counted;
    listed = w.listed;
  }
  committed_past total (Some code) g w = w

  plus_none : (total : ℕ) (g : Grant) → In total g → In (total + 0) g
  plus_none total g w =
      let still : total ≡ total + 0 = omega arith in subst (λ (k : ℕ). In k g) still w

  stepped : (total : ℕ) (g : Grant) (s : Step) → keeps_grant s ≡ true
      → total + records_in g p s < sequences → In total g
      → In (total + records_in g p s) (after_step g s)
  stepped total g (Adds held q) e room w =
      plus_none total (after_step g (Adds held q))
      (either total (is_held g.granted held) (noted q g) g (noted_past total g q w) w)
  stepped total g (Batches held q seq count) e room w =
      plus_none total (after_step g (Batches held q seq count))
      (by_verdict total (batch_verdict g held q seq count) g (with_sent g q (sequence_in seq)) w
      (sent_past total g q (sequence_in seq) w))
  stepped total g (Takes held q seq count) e room w =
      counted_past total g (gone_on g q count) count (eqb p q) (counts g held q seq) room
      (λ r. gone_past total g q count (eqb p q) refl r w) w
  stepped total g (Refuses held q seq count) e room w =
      counted_past total g (stopped_at (gone_on g q count) q) count (eqb p q)
      (counts g held q seq) room
      (λ r. stopped_past (total + cond (eqb p q) count 0) (gone_on g q count) q
      (gone_past total g q count (eqb p q) refl r w)) w
  stepped total g (Ends held outcome) e room w =
      plus_none total (after_step g (Ends held outcome))
      (either total (is_held g.granted held) (ended_empty g.phase outcome g) g
      (empty_past total g.phase g outcome w) w)
  stepped total g (Commits held) e room w =
      plus_none total (after_step g (Commits held))
      (committed_past total (commit_code g held) g w)
  stepped total g (Goes outcome next) e room w =
      plus_none total (ended outcome next g) (ended_past total g outcome next w)
  stepped total g (Regrants asked held) e room w = absurd cc

  all_stepped : (total : ℕ) (steps : List Step) (g : Grant) → all_keep_grant steps ≡ true
      → total + all_records_in g p steps < sequences → In total g
      → In (total + all_records_in g p steps) (after_all g steps)
  all_stepped total [] g e room w = plus_none total g w
  all_stepped total (s ∷ steps) g e room w =
      let b = both (keeps_grant s) (all_keep_grant steps) e in
      let here = records_in g p s in
      let more = all_records_in (after_step g s) p steps in
      let sum : (total + here) + more ≡ total + (here + more) = omega arith in
      subst (λ (k : ℕ). In k (after_all g (s ∷ steps))) sum
      (all_stepped (total + here) steps (after_step g s) b.1 (omega (arith, room))
      (stepped total g s b.0 (omega (arith, room)) w))

pub never_again : (g : Grant) (steps : List Step) (held next : Held) (decided : Outcome)
    (p first n count : ℕ) (one : Held) (place : ℤ) → IsSequence first → IsSequence n
    → next_at g p ≡ Some n → 0 < since first n → all_keep_grant steps ≡ true
    → since first n + all_records_in (ended decided next g) p steps < sequences
    → batch_verdict (after_all (ended decided next g) steps) held p (pos first) count
    ≡ Send one place → ⊥
never_again g steps held next decided p first n count one place fits range e some keep room goes =
    let total = since first n in
    let start : Past p first total (ended decided next g) =
    record {
      next = n;
      next_is = e;
      in_range = range;
      some = some;
      counted = refl;
      listed = λ l is.
          let never : None ≡ Some l =
          alike_under (eqb p offsets_partition) data_partitions p None l is in
          absurd cc;
    } in
    let last = after_all (ended decided next g) steps in
    let w = all_stepped p first fits total steps (ended decided next g) keep room start in
    let s = sent last held p first count one place goes in
    let l = w.listed s.found.listed s.found.listed_is in
    let rest = l.rest in
    late last held p first count s.found.listed l.base w.next one place l.in_range fits
    s.found.listed_is l.base_is w.next_is l.behind (omega (arith, rest, room)) goes
