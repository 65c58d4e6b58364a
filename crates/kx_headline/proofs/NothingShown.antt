-- No page shows a record of a transaction that doesn't commit.
use Rattle.std.proofs.Common.{◌≡◌, ◌⊎◌, inl, inr, ⊎_elim, ℕ, ◌+◌, pos, ◌≤ℤ◌, ◌<ℤ◌, Bool}
use Rattle.std.proofs.Common.{true, false}
use Rattle.std.proofs.Common.{◌||◌, cond, List, [], ◌∷◌, ◌++◌, length, Option, Some}
use Rattle.std.proofs.Common.{None, Contains, refl, sym, ap, ◌∙◌, subst, arith}
use Rattle.std.specs.Prelude.{◌≢◌, int_lt, not}
use Rattle.std.specs.List.{flat_map}
use Rattle.std.specs.Option.{option_map_or}
use Rattle.std.proofs.lemmas.Int.{ints}
use Rattle.std.proofs.lemmas.List.Sums.{sum_by-cons}
use Rattle.kx_message.specs.declared.outcome.Outcome.{Outcome}
use Rattle.kx_message.specs.declared.outcome.Outcome.TheVariants.{Abort, Commit}
use Rattle.kx_model.specs.Coordinator.{commits, decision, same_outcome}
use Rattle.kx_model.specs.Headline.{HasOneOutcome}
use Rattle.kx_model.specs.Log.{Entry, Data, Placed, Sequenced, end, placed, placed_from, width}
use Rattle.kx_model.specs.Page.{page}
use Rattle.kx_model.specs.Reading.{Shown, committed_records, numbered, standing, visible}
use Rattle.kx_model.specs.Transactions.{last_stable_offset}
use Rattle.kx_model.specs.World.{World, entries_at, log_at, notes}
use Rattle.kx_laws.proofs.CommittedRecords.{Between, in_page, standing_between}
use Rattle.kx_laws.proofs.Membership.{cons_cases, filter_holds}
use Rattle.kx_laws.proofs.Membership.{flat_map_holds}
use Rattle.kx_laws.proofs.Membership.{no_element}
use Rattle.kx_headline.proofs.PartitionsAlways.{PartitionsHold}
use Rattle.kx_headline.proofs.PartitionHolds.{MarkersFit}
use Rattle.kx_laws.proofs.Spans.{end_behind}
use Rattle.kx_laws.proofs.Splits.{Beside, beside, earlier, later, same_place}
use Rattle.kx_headline.proofs.WorldReaders.{gives_visible}

-- an entry at an offset, between those before it and those behind it
record StandsAt (n : ℕ) (log : List Entry) (p : Placed Entry) : Type 0 where
  before : List Entry
  after : List Entry
  parts : log ≡ before ++ p.item ∷ after
  offset : p.offset ≡ n + end before

stands_at : (n : ℕ) (log : List Entry) (p : Placed Entry) → Contains (placed_from n log) p
    → StandsAt n log p
stands_at n [] p c = absurd (no_element p c)
stands_at n (entry ∷ log) p c =
    ⊎_elim
    (λ e. record {
      before = [];
      after = log;
      parts = ap (λ (q : Placed Entry). q.item ∷ log) e;
      offset = sym (ap (λ (q : Placed Entry). q.offset) e) ∙ omega arith;
    })
    (λ c. let s = stands_at (n + width entry) log p c in
    record {
      before = entry ∷ s.before;
      after = s.after;
      parts = ap (λ (l : List Entry). entry ∷ l) s.parts;
      offset = omega (arith, s.offset, sum_by-cons width entry s.before);
    })
    (cons_cases (record { offset = n; item = entry }) p (placed_from (n + width entry) log) c)

between_holds : (low high : ℕ) (records : List Shown) (s : Shown) → Between low high records
    → Contains records s → (pos low ≤ℤ s.offset) × (s.offset <ℤ pos high)
between_holds low high [] s b c = absurd (no_element s c)
between_holds low high (r ∷ records) s b c =
    ⊎_elim
    (λ e. subst (λ (x : Shown). (pos low ≤ℤ x.offset) × (x.offset <ℤ pos high)) e (b.0, b.1))
    (between_holds low high records s b.2) (cons_cases r s records c)

nothing_stands : (commits : ℕ → ℕ → Bool) (offset : ℕ) (d : Sequenced)
    → d.transactional ≡ true → commits d.id d.epoch ≡ false
    → standing commits offset (Data d) ≡ []
nothing_stands commits offset d t none =
    ap (λ b. cond (not b || commits d.id d.epoch) (numbered (pos offset) d.records) []) t
    ∙ ap (λ b. cond b (numbered (pos offset) d.records) []) none

-- a record that stands isn't among those of a batch whose transaction doesn't commit
apart : (commits : ℕ → ℕ → Bool) (log : List Entry) (offset : ℕ) (d : Sequenced) (s : Shown)
    → d.transactional ≡ true → commits d.id d.epoch ≡ false
    → Contains (placed log) (record { offset = offset; item = Data d })
    → Contains (flat_map (λ p. standing commits p.offset p.item) (placed log)) s
    → (s.offset <ℤ pos offset) ⊎ (pos (offset + length d.records) ≤ℤ s.offset)
apart commits log offset d s t none there shown =
    let h = flat_map_holds (λ (p : Placed Entry). standing commits p.offset p.item) (placed log) s
    shown in
    by (stands_at 0 log (record { offset = offset; item = Data d }) there) h.0
    (stands_at 0 log h.0 h.1) h.2
    (between_holds h.0.offset (h.0.offset + width h.0.item)
    (standing commits h.0.offset h.0.item) s
    (standing_between commits h.0.offset h.0.item) h.2)
  where
    by : StandsAt 0 log (record { offset = offset; item = Data d }) → (p : Placed Entry)
        → StandsAt 0 log p → Contains (standing commits p.offset p.item) s
        → (pos p.offset ≤ℤ s.offset) × (s.offset <ℤ pos (p.offset + width p.item))
        → (s.offset <ℤ pos offset) ⊎ (pos (offset + length d.records) ≤ℤ s.offset)
    by b p a c within =
        at (beside a.before a.after b.before b.after p.item (Data d) (sym a.parts ∙ b.parts))
      where
        at : Beside a.before a.after b.before b.after p.item (Data d)
            → (s.offset <ℤ pos offset) ⊎ (pos (offset + length d.records) ≤ℤ s.offset)
        at (same_place q e r) =
            absurd (no_element s (subst (λ l. Contains l s)
            (ap (standing commits p.offset) e ∙ nothing_stands commits p.offset d t none) c))
        at (later between q r) =
            inl (omega (
              arith,
              ints,
              a.offset,
              b.offset,
              within.1,
              ap end q,
              end_behind a.before between p.item,
            ))
        at (earlier between q r) =
            inr (omega (
              arith,
              ints,
              a.offset,
              b.offset,
              within.0,
              ap end q,
              end_behind b.before between (Data d),
            ))

not_commit : (o : Option Outcome) → o ≢ Some Commit
    → option_map_or (same_outcome Commit) o false ≡ false
not_commit None differs = refl
not_commit (Some Abort) differs = refl
not_commit (Some Commit) differs = absurd (differs refl)

-- no page of any partition shows a record of a transaction that isn't decided to commit
pub not_shown : (w : World) → PartitionsHold w → MarkersFit w.sent → HasOneOutcome w
    → (id epoch : ℕ) → decision (notes w) id epoch ≢ Some Commit
    → (q from room offset : ℕ) (d : Sequenced) (s : Shown)
    → Contains (placed (entries_at w q)) (record { offset = offset; item = Data d })
    → d.id ≡ id → d.epoch ≡ epoch → d.transactional ≡ true
    → Contains (committed_records (page (log_at w q) from room true)) s
    → (s.offset <ℤ pos offset) ⊎ (pos (offset + length d.records) ≤ℤ s.offset)
unfolding visible page
not_shown w all fit one id epoch differs q from room offset d s there i e t shown =
    let log = entries_at w q in
    let next = (page (log_at w q) from room true).next in
    let none : commits (notes w) d.id d.epoch ≡ false =
    ap (λ k. commits (notes w) k d.epoch) i ∙ ap (commits (notes w) id) e
    ∙ not_commit (decision (notes w) id epoch) differs in
    let seen = filter_holds (in_page from next) (visible log (commits (notes w))) s
    (subst (λ l. Contains l s) (gives_visible w all fit one q from room) shown) in
    let stable = filter_holds (λ (r : Shown). int_lt r.offset (pos (last_stable_offset log)))
    (flat_map (λ p. standing (commits (notes w)) p.offset p.item) (placed log)) s seen.0 in
    apart (commits (notes w)) log offset d s t none there stable.0
