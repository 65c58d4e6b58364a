-- No more than one request for an id waits.
use Rattle.std.proofs.Common.{◌≡◌, ◌≤◌, Bool, true, false, cond, ◌||◌, List, []}
use Rattle.std.proofs.Common.{◌∷◌, ◌++◌, filter, length, refl, sym}
use Rattle.std.proofs.Common.{ap, ◌∙◌, subst, arith, append-nil}
use Rattle.std.specs.List.{list_any}
use Rattle.std.proofs.lemmas.List.{length-append}
use Rattle.std.proofs.lemmas.List.Elements.{filter-append}
use Rattle.std.proofs.lemmas.List.Folds.{list_any-append}
use Rattle.kx_message.specs.declared.message.Message.{Message}
use Rattle.kx_message.specs.declared.message.Message.TheVariants as msg
use Rattle.kx_message.specs.declared.requests.InitProducerId.{InitProducerId}
use Rattle.kx_client.specs.Internal.{HasOneInit}
use Rattle.kx_model.specs.Client.{is_init}

module _ {A : Type 0} where
  pub none_passes : (test : A → Bool) (xs : List A) → list_any test xs ≡ false
      → filter test xs ≡ []
  none_passes test [] e = refl
  none_passes test (x ∷ xs) e = by (test x) e (none_passes test xs)
    where
      by : (b : Bool) → (b || list_any test xs) ≡ false
          → (list_any test xs ≡ false → filter test xs ≡ [])
          → cond b (x ∷ filter test xs) (filter test xs) ≡ []
      by true h rest = absurd cc
      by false h rest = rest h

pub one_push : (ms : List Message) (m : Message) → HasOneInit ms
    → (is_init m ≡ true → list_any is_init ms ≡ false) → HasOneInit (ms ++ m ∷ [])
one_push ms m one none =
    subst (λ (fs : List Message). length fs ≤ 1) (sym (filter-append is_init ms (m ∷ [])))
    (by (is_init m) none)
  where
    by : (b : Bool) → (b ≡ true → list_any is_init ms ≡ false)
        → length (filter is_init ms ++ cond b (m ∷ []) []) ≤ 1
    by true h =
        subst (λ (fs : List Message). length (fs ++ m ∷ []) ≤ 1)
        (sym (none_passes is_init ms (h refl))) (omega arith)
    by false h = subst (λ (fs : List Message). length fs ≤ 1) (sym (append-nil _)) one

-- one that goes leaves no more
pub one_out : (front : List Message) (m : Message) (back : List Message)
    → HasOneInit (front ++ m ∷ back) → HasOneInit (front ++ back)
one_out front m back one =
    omega (
      arith,
      one,
      ap length (filter-append is_init front (m ∷ back)),
      ap length (filter-append is_init front back),
      length-append (filter is_init front) (filter is_init (m ∷ back)),
      length-append (filter is_init front) (filter is_init back),
      by (is_init m),
    )
  where
    by : (b : Bool) → length (filter is_init back)
        ≤ length (cond b (m ∷ filter is_init back) (filter is_init back))
    by true = omega arith
    by false = omega arith

nothing : {A : Type 0} (xs : List A) → length xs ≤ 0 → xs ≡ []
nothing [] h = refl
nothing (x ∷ xs) h = absurd (omega arith)

-- the first that is found is the only one
pub one_found : (front back : List Message) (init : InitProducerId)
    → HasOneInit ((front ++ msg.InitProducerId init ∷ []) ++ back)
    → list_any is_init front ≡ false
    → (list_any is_init ((front ++ msg.InitProducerId init ∷ []) ++ back) ≡ true)
    × (filter is_init ((front ++ msg.InitProducerId init ∷ []) ++ back)
    ≡ msg.InitProducerId init ∷ [])
one_found front back init one none =
    let m : Message = msg.InitProducerId init in
    let passed : filter is_init ((front ++ m ∷ []) ++ back) ≡ m ∷ filter is_init back =
    filter-append is_init (front ++ m ∷ []) back
    ∙ ap (λ fs. fs ++ filter is_init back) (filter-append is_init front (m ∷ [])
    ∙ ap (λ fs. fs ++ m ∷ []) (none_passes is_init front none)) in
    let rest : filter is_init back ≡ [] =
    nothing (filter is_init back) (omega (arith, one, ap length passed)) in (
      list_any-append is_init (front ++ m ∷ []) back
          ∙ ap (λ b. b || list_any is_init back) (list_any-append is_init front (m ∷ [])
          ∙ ap (λ b. b || true) none),
      passed ∙ ap (λ fs. m ∷ fs) rest,
    )
