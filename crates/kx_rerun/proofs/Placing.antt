-- A client is put among others, in the order of their numbers.
use Rattle.std.proofs.Common.{◌≡◌, ◌≤◌, ◌∙◌, ◌++◌, ℕ, zero, suc, Bool, true, false, cond, List, []}
use Rattle.std.proofs.Common.{◌∷◌, ◌+◌, Some, drop, refl, sym, ap, arith, length, map}
use Rattle.std.specs.Prelude.{All, nat_lt, slice_get}
use Rattle.std.specs.List.{insert}
use Rattle.std.proofs.lemmas.List.Elements.{All-cons, All-head, All-tail}
use Rattle.kx_audit.specs.Making.{ClientMaking, NodeMaking, client_in, clients_of, in_order, placed}
use Rattle.kx_audit.specs.Replayed.{trails_of}
use Rattle.kx_audit.proofs.Rerunning.{drop_next}
use Rattle.kx_core.specs.declared.event.Event as happening
use Rattle.kx_core.specs.declared.event.Event.TheVariants as event
use Rattle.kx_nodes.specs.Replay.{Traced}
use Rattle.kx_rerun.specs.Making.{client_made, number_in, place_in}
use Rattle.kx_system.specs.Processor.{Images}

pub place_within : (number : ℕ) (others : List ℕ) → place_in number others ≤ length others
place_within number [] = omega arith
place_within number (other ∷ others) =
    by (nat_lt number other) (place_within number others)
  where
    by : (b : Bool) → place_in number others ≤ length others
        → cond b 0 (suc (place_in number others)) ≤ suc (length others)
    by true le = omega arith
    by false le = omega (arith, le)

pub all_placed : {A : Type 0} (Is : A → Type 0) (xs : List A) (n : ℕ) (x : A) → All Is xs → Is x
    → All Is (insert xs n x)
all_placed Is [] zero x all is = All-cons Is x [] is all
all_placed Is [] (suc n) x all is = All-cons Is x [] is all
all_placed Is (y ∷ xs) zero x all is = All-cons Is x (y ∷ xs) is all
all_placed Is (y ∷ xs) (suc n) x all is =
    All-cons Is y (insert xs n x) (All-head Is y xs all)
    (all_placed Is xs n x (All-tail Is y xs all) is)

module _ {F : Type 0} (image_of : F → Images) where
  abbrev made : happening.Event F → ClientMaking
  made e = client_made image_of e

  number_is : (e : happening.Event F) → (made e).number ≡ number_in e
  number_is (event.Make client txn timeout) = refl
  number_is (event.MakeProcessor client txn timeout group inputs process) = refl
  number_is (event.Deliver number to mode) = refl
  number_is (event.Hand to input mode) = refl
  number_is (event.Arrive request) = refl

  pub placed_in : (events : List (happening.Event F)) (e : happening.Event F)
      → map made (insert events (place_in (number_in e) (map number_in events)) e)
      ≡ placed (made e) (map made events)
  placed_in [] e = refl
  placed_in (d ∷ events) e =
      by (nat_lt (number_in e) (number_in d)) (placed_in events e)
      ∙ ap (λ b. cond b (made e ∷ made d ∷ map made events)
      (made d ∷ placed (made e) (map made events)))
      (ap (λ n. nat_lt n (number_in d)) (sym (number_is e))
      ∙ ap (λ n. nat_lt (made e).number n) (sym (number_is d)))
    where
      by : (b : Bool)
          → map made (insert events (place_in (number_in e) (map number_in events)) e)
          ≡ placed (made e) (map made events)
          → map made (insert (d ∷ events)
          (cond b 0 (suc (place_in (number_in e) (map number_in events)))) e)
          ≡ cond b (made e ∷ made d ∷ map made events)
          (made d ∷ placed (made e) (map made events))
      by true rest = refl
      by false rest = ap (λ (l : List ClientMaking). made d ∷ l) rest

------ traces, from the last to the first

module _ {B : Type 0} (making : B → NodeMaking) (traces : List (Traced B)) where
  abbrev ordered : ℕ → List ClientMaking
  ordered n = in_order (clients_of (trails_of making (drop n traces)))

  first_is : (n : ℕ) (t : Traced B) → slice_get traces n ≡ Some t
      → ordered n
      ≡ in_order (client_in (making t.made) ++ clients_of (trails_of making (drop (n + 1) traces)))
  first_is n t at =
      ap (λ (l : List (Traced B)). in_order (clients_of (trails_of making l)))
      (drop_next traces n t at)

  -- a client comes to its place
  pub order_more : (n : ℕ) (t : Traced B) (c : ClientMaking) (cs : List ClientMaking)
      → slice_get traces n ≡ Some t → client_in (making t.made) ≡ c ∷ []
      → cs ≡ ordered (n + 1) → placed c cs ≡ ordered n
  order_more n t c cs at client is =
      ap (placed c) is
      ∙ sym (first_is n t at
      ∙ ap (λ (l : List ClientMaking).
      in_order (l ++ clients_of (trails_of making (drop (n + 1) traces)))) client)

  -- any other node adds nothing
  pub order_same : (n : ℕ) (t : Traced B) (cs : List ClientMaking)
      → slice_get traces n ≡ Some t → client_in (making t.made) ≡ []
      → cs ≡ ordered (n + 1) → cs ≡ ordered n
  order_same n t cs at none is =
      is
      ∙ sym (first_is n t at
      ∙ ap (λ (l : List ClientMaking).
      in_order (l ++ clients_of (trails_of making (drop (n + 1) traces)))) none)
