-- A list of open transactions in order of their first offsets, and one more at its place.
use Rattle.std.proofs.Common.{◌≡◌, ◌≤◌, ◌<◌, ℕ, zero, ◌≤ℤ◌, ℤ, true, false, not}
use Rattle.std.proofs.Common.{List, [], ◌∷◌, ◌++◌, length, take, drop, get_or, refl, ap, ◌∙◌, sym}
use Rattle.std.proofs.Common.{filter, subst, arith, inl, inr, ◌≢◌, Some, slice_get}
use Rattle.std.specs.List.{All, insert}
use Rattle.std.specs.List.Sorted.{IsPartitionedBy}
use Rattle.std.proofs.lemmas.Bool.{cases_lt, not_from_true, not_from_false}
use Rattle.std.proofs.lemmas.Bool.Decides.{nat_tests}
use Rattle.std.specs.Option.{option_map}
use Rattle.std.proofs.Common.{None, find, cond, Bool}
use Rattle.std.proofs.lemmas.List.Elements.{All-nil}
use Rattle.std.proofs.lemmas.Int.{ints}
use Rattle.std.proofs.lemmas.List.{take-append-drop}
use Rattle.std.proofs.lemmas.List.Edits.{length-insert}
use Rattle.std.proofs.lemmas.List.Elements.{All-cons, All-drop, All-take, All-weaker}
use Rattle.kx_model.specs.Produce.{open_limit}
use Rattle.kx_open.specs.Open.{IsLeast, IsOpenList, IsPlaceBehind, begins_by, begun}
use Rattle.kx_open.specs.Open.{epoch_in, is_txn_of}
use Rattle.kx_open.specs.declared.open.OpenTxn.{OpenTxn}
use Rattle.kx_open.proofs.Pairs.{all_before, all_behind, all_from_head}
use Rattle.kx_open.proofs.Pairs.{filter_back, filter_front, pairs_with}

-- the first of the list has the least offset
pub first_is_least :
    (txn : OpenTxn) (txns : List OpenTxn) → IsOpenList (txn ∷ txns)
    → IsLeast txn.first (txn ∷ txns)
first_is_least txn txns kept =
    let later = all_from_head (λ t u. t.first ≤ℤ u.first) txn txns kept.in_order in
    let same : txn.first ≤ℤ txn.first = omega (arith, ints) in
    ((zero, omega arith, refl), All-cons (λ t. txn.first ≤ℤ t.first) txn txns same later)

pub least_at_front :
    (txn : OpenTxn) (txns : List OpenTxn) → Some txn ≡ slice_get txns 0 → IsOpenList txns
    → IsLeast txn.first txns
least_at_front txn [] front kept = absurd (cc)
least_at_front txn (t ∷ txns) front kept =
    let same : t ≡ txn = cc in
    subst (λ (u : OpenTxn). IsLeast u.first (t ∷ txns)) same (first_is_least t txns kept)

-- those that begin by an offset stand before the others
pub begin_in_order :
    (offset : ℤ) (txns : List OpenTxn) → IsOpenList txns
    → IsPartitionedBy (begins_by offset) txns
begin_in_order offset txns kept =
    λ i j d le within late. elim (cases_lt i j) [
      | inl lt ↦ let earlier = kept.in_order i j d lt within in grind (arith, ints)
      | inr ge ↦ let same : i ≡ j = omega arith in
          ap (λ k. begins_by offset (get_or txns k d)) same ∙ late
    ]

pub none_of :
    (id : ℕ) (txns : List OpenTxn) → epoch_in id txns ≡ None
    → All (λ t. is_txn_of id t ≡ false) txns
none_of id [] none = All-nil (λ t. is_txn_of id t ≡ false)
none_of id (txn ∷ txns) none =
    let other = at (is_txn_of id txn) none in
    All-cons (λ t. is_txn_of id t ≡ false) txn txns other.0 (none_of id txns other.1)
  where
    at : (b : Bool)
        → option_map (λ t. t.epoch) (cond b (Some txn) (find (is_txn_of id) txns)) ≡ None
        → (b ≡ false) × (epoch_in id txns ≡ None)
    at true found = absurd (cc)
    at false found = (refl, found)

-- at a place behind all that begin no later, and before all that begin later
module _
    (txn : OpenTxn) (txns : List OpenTxn) (place : ℕ)
    (between : IsPlaceBehind txn.first txns place) where
  no_later : All (λ t. begins_by txn.first t ≡ true) (take place txns)
  no_later = all_before (λ t. begins_by txn.first t ≡ true) txns place between.0

  later : All (λ t. begins_by txn.first t ≡ false) (drop place txns)
  later = all_behind (λ t. begins_by txn.first t ≡ false) txns place between.1

  pub begun_at_place : insert txns place txn ≡ begun txn txns
  begun_at_place =
      let by = begins_by txn.first in
      let after = λ (t : OpenTxn). not (by t) in
      let front = take place txns in
      let back = drop place txns in
      let whole = take-append-drop place txns in
      let fails = All-weaker (λ t. by t ≡ true) (λ t. after t ≡ false)
      (λ t. not_from_true (by t)) front no_later in
      let passes = All-weaker (λ t. by t ≡ false) (λ t. after t ≡ true)
      (λ t. not_from_false (by t)) back later in
      let first : filter by txns ≡ front =
      ap (filter by) (sym whole) ∙ filter_front by front back no_later later in
      let rest : filter after txns ≡ back =
      ap (filter after) (sym whole) ∙ filter_back after front back fails passes in
      sym (ap (λ l. l ++ txn ∷ filter after txns) first ∙ ap (λ l. front ++ txn ∷ l) rest)

  pub begun_is_open_list :
      epoch_in txn.id txns ≡ None → length txns < open_limit → place ≤ length txns
      → IsOpenList txns → IsOpenList (insert txns place txn)
  begun_is_open_list none room within kept =
      let others = none_of txn.id txns none in
      let apart = All-weaker (λ t. is_txn_of txn.id t ≡ false) (λ t. t.id ≢ txn.id)
      (λ t other. grind (arith, nat_tests)) txns others in
      let apart_from = All-weaker (λ t. is_txn_of txn.id t ≡ false) (λ t. txn.id ≢ t.id)
      (λ t other. grind (arith, nat_tests)) txns others in
      let up_to = All-weaker (λ t. begins_by txn.first t ≡ true) (λ t. t.first ≤ℤ txn.first)
      (λ t by. grind (arith, ints)) (take place txns) no_later in
      let from_on = All-weaker (λ t. begins_by txn.first t ≡ false) (λ t. txn.first ≤ℤ t.first)
      (λ t by. grind (arith, ints)) (drop place txns) later in
      record {
        in_order = pairs_with (λ t u. t.first ≤ℤ u.first) txns place txn kept.in_order
            up_to from_on;
        once = pairs_with (λ t u. t.id ≢ u.id) txns place txn kept.once
            (All-take (λ t. t.id ≢ txn.id) place txns apart)
            (All-drop (λ t. txn.id ≢ t.id) place txns apart_from);
        within = omega (arith, length-insert txns place txn within);
      }
