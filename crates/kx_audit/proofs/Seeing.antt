-- Receipts whose steps are seen, by the keys of these.
use Rattle.std.proofs.Common.{◌≡◌, ◌≢◌, ◌≤◌, ◌<◌, ◌+◌, ◌&&◌, ◌++◌, ◌∷◌, [], ℕ, Bool, true, false}
use Rattle.std.proofs.Common.{cond, List, Some, length, get_or, map, take, refl, sym, ap, ◌∙◌}
use Rattle.std.proofs.Common.{subst, ⊎_elim, rules}
use Rattle.std.specs.Prelude.{nat_eq, slice_get}
use Rattle.std.specs.Bool.{Decides}
use Rattle.std.specs.Cmp.{unsigned_Decides}
use Rattle.std.specs.List.{AllPairs, Contains}
use Rattle.std.proofs.lemmas.Bool.{cases_order}
use Rattle.std.proofs.lemmas.Bool.Decides.{Decides-at}
use Rattle.std.proofs.lemmas.List.{map_more, take_all}
use Rattle.std.proofs.lemmas.List.Elements.{Contains-append_left, Contains-get_or, Contains-push}
use Rattle.std.proofs.lemmas.List.Elements.{Contains-push_cases}
use Rattle.std.proofs.lemmas.List.Quantifiers.{all_pairs_push}
use Rattle.std.proofs.lemmas.Option.{get_or_from_slice_get, slice_get-get_or, slice_get_within}
use Rattle.kx_audit.specs.Keys.{key_of, same_key}
use Rattle.kx_audit.specs.Receipts.{AreDistinct}
use Rattle.kx_audit.specs.Refused.{HaveAlike}
use Rattle.kx_audit.specs.declared.key.NodeKey.{NodeKey}
use Rattle.kx_nodes.specs.declared.receipt.Receipt.{Receipt}
use Rattle.kx_audit.proofs.Keys.{one_name, same_decides}
use Rattle.kx_audit.proofs.Places.{from_map, in_take, to_map}

------ keys that a test passes

-- just these, of which no two are one
pub record AreSeen {K : Type 0} (has : K → Bool) (keys : List K) : Type 0 where
  pub just : (k : K) → Decides (has k) (Contains keys k)
  pub apart : AllPairs (λ x y. x ≢ y) keys

-- and one more
seen_more : {K : Type 0} (eq : K → K → Bool) (decides : (a b : K) → Decides (eq a b) (a ≡ b))
    (has more : K → Bool) (keys : List K) (k : K) → AreSeen has keys → has k ≡ false
    → ((q : K) → more q ≡ cond (eq k q) true (has q)) → AreSeen more (keys ++ k ∷ [])
seen_more {K} eq decides has more keys k seen fresh put = record {
  just = λ q. Decides-at (more q) (cond (eq k q) true (has q)) (put q) (by q (eq k q) refl);
  apart = all_pairs_push (λ x y. x ≢ y) keys k seen.apart (λ j d lt same.
      let was = (seen.just k).1 (subst (λ (x : K). Contains keys x) same
      (Contains-get_or keys j d lt)) in cc);
}
  where
    by : (q : K) (b : Bool) → eq k q ≡ b
        → Decides (cond b true (has q)) (Contains (keys ++ k ∷ []) q)
    by q true e = (
      (λ _. subst (λ (x : K). Contains (keys ++ k ∷ []) x) ((decides k q).0 e)
          (Contains-push keys k)),
      (λ _. refl),
    )
    by q false e = (
      (λ was. Contains-append_left keys (k ∷ []) q ((seen.just q).0 was)),
      (λ has. ⊎_elim (λ before. (seen.just q).1 before)
          (λ is. let yes = (decides k q).1 is in cc) (Contains-push_cases keys k q has)),
    )

------ steps of receipts

abbrev pub StepKey : Type 0
StepKey = NodeKey × ℕ

abbrev pub step_key : Receipt → StepKey
step_key receipt = (key_of receipt.node, receipt.place)

abbrev pub same_step : StepKey → StepKey → Bool
same_step a b = same_key a.0 b.0 && nat_eq a.1 b.1

step_decides : (a b : StepKey) → Decides (same_step a b) (a ≡ b)
step_decides a b = search (rules, unsigned_Decides, same_decides)

-- those of the first receipts
abbrev pub AreStepsSeen : (StepKey → Bool) → List Receipt → ℕ → Type 0
AreStepsSeen has receipts n = AreSeen has (map step_key (take n receipts))

module _ (has : StepKey → Bool) (receipts : List Receipt) (n : ℕ) (receipt : Receipt)
    (seen : AreStepsSeen has receipts n) (at : slice_get receipts n ≡ Some receipt) where
  abbrev before : List StepKey
  before = map step_key (take n receipts)

  pub seen_alike : has (step_key receipt) ≡ true → HaveAlike receipts
  seen_alike found =
      let among = (seen.just (step_key receipt)).0 found in
      let one = from_map step_key (take n receipts) among.0 (step_key receipt)
      (slice_get-get_or before among.0 (step_key receipt) among.1 ∙ ap Some among.2) in
      let place = in_take receipts n among.0 one.0 one.1 in
      record {
        first = among.0;
        second = n;
        one = one.0;
        other = receipt;
        apart = place.0;
        one_is = place.1;
        other_is = at;
        same_node = one_name one.0.node receipt.node (ap (λ (k : StepKey). k.0) one.2);
        same_place = ap (λ (k : StepKey). k.1) one.2;
      }

  pub seen_next : (more : StepKey → Bool) → has (step_key receipt) ≡ false
      → ((q : StepKey) → more q ≡ cond (same_step (step_key receipt) q) true (has q))
      → AreStepsSeen more receipts (n + 1)
  seen_next more fresh put =
      subst (AreSeen more) (sym (map_more step_key receipts n receipt
      (slice_get_within receipts n receipt at)
      ∙ ap (λ (r : Receipt). before ++ step_key r ∷ [])
      (get_or_from_slice_get receipts n receipt receipt at)))
      (seen_more same_step step_decides has more before (step_key receipt) seen fresh put)

-- all of them
module _ (has : StepKey → Bool) (receipts : List Receipt) (n : ℕ)
    (seen : AreStepsSeen has receipts n) (whole : length receipts ≤ n) where
  keys_apart : AllPairs (λ x y. x ≢ y) (map step_key receipts)
  keys_apart =
      subst (λ (l : List Receipt). AllPairs (λ x y. x ≢ y) (map step_key l))
      (take_all n receipts whole) seen.apart

  key_at : (k : ℕ) (receipt d : Receipt) → slice_get receipts k ≡ Some receipt
      → (k < length (map step_key receipts))
      × (get_or (map step_key receipts) k (step_key d) ≡ step_key receipt)
  key_at k receipt d at =
      let there = to_map step_key receipts k receipt at in (
        slice_get_within (map step_key receipts) k (step_key receipt) there,
        get_or_from_slice_get (map step_key receipts) k (step_key receipt) (step_key d) there,
      )

  apart : (j k : ℕ) (one other : Receipt) → slice_get receipts j ≡ Some one
      → slice_get receipts k ≡ Some other → one.node ≡ other.node → one.place ≡ other.place
      → j < k → ⊥
  apart j k one other jat kat node place lt =
      keys_apart j k (step_key one) lt (key_at k other one kat).0
      ((key_at j one one jat).1 ∙ (λ i. (key_of (node i), place i))
      ∙ sym (key_at k other one kat).1)

  pub seen_all : AreDistinct receipts
  seen_all j k one other jat kat node place =
      ⊎_elim
      (λ (e : j ≡ k). e)
      (λ far. ⊎_elim
      (λ lt. absurd (apart j k one other jat kat node place lt))
      (λ gt. absurd (apart k j other one kat jat (sym node) (sym place) gt))
      far)
      (cases_order j k)
