-- Batches in a row: what is taken from the front, and what comes into the last.
use Rattle.std.proofs.Common.{◌≡◌, ◌∙◌, ℕ, suc, zero, ◌+◌, ◌++◌, true, false, cond, List, [], ◌∷◌}
use Rattle.std.proofs.Common.{drop, refl, sym, ap, arith, append_assoc}
use Rattle.kx_client.specs.declared.values.Values.{Values}
use Rattle.kx_processor.specs.Batches.{without_first}
use Rattle.kx_system.specs.Processor.{alone, takes_another, with_another, with_image}

one_more_dropped : (n : ℕ) (batches : List Values)
    → drop (suc n) batches ≡ without_first (drop n batches)
one_more_dropped n [] = none n
  where
    none : (n : ℕ) → [] ≡ without_first (drop n [])
    none zero = refl
    none (suc n) = refl
one_more_dropped zero (values ∷ batches) = refl
one_more_dropped (suc n) (values ∷ batches) = one_more_dropped n batches

pub one_less : (n : ℕ) (batches : List Values)
    → drop (n + 1) batches ≡ without_first (drop n batches)
one_less n batches =
    let more : n + 1 ≡ suc n = omega arith in
    ap (λ m. drop m batches) more ∙ one_more_dropped n batches

-- an image goes into the last batch, or behind it
last_takes : (before : List Values) (last : Values) (image : List ℕ)
    → with_image (before ++ last ∷ []) image
    ≡ before ++ cond (takes_another last image) (with_another last image ∷ [])
    (last ∷ alone image ∷ [])
last_takes [] last image = refl
last_takes (values ∷ []) last image = refl
last_takes (values ∷ next ∷ before) last image =
    ap (λ rest. values ∷ rest) (last_takes (next ∷ before) last image)

-- the last batch takes the image
pub grown : (old before now : List Values) (last added : Values) (image : List ℕ)
    → old ≡ before ++ last ∷ [] → takes_another last image ≡ true
    → added ≡ with_another last image → now ≡ before ++ added ∷ [] → now ≡ with_image old image
grown old before now last added image was takes is e =
    e ∙ ap (λ values. before ++ values ∷ []) is
    ∙ ap (λ b. before ++ cond b (with_another last image ∷ []) (last ∷ alone image ∷ []))
    (sym takes)
    ∙ sym (last_takes before last image) ∙ ap (λ batches. with_image batches image) (sym was)

-- it doesn't, and the image gets a batch of its own
pub another : (old before now behind : List Values) (last kept own : Values) (image : List ℕ)
    → old ≡ before ++ last ∷ [] → takes_another last image ≡ false → kept ≡ last
    → now ≡ before ++ kept ∷ [] → behind ≡ now ++ own ∷ [] → own ≡ alone image
    → behind ≡ with_image old image
another old before now behind last kept own image was full same e f is =
    f ∙ ap (λ batches. batches ++ own ∷ []) e
    ∙ append_assoc before (kept ∷ []) (own ∷ [])
    ∙ (λ i. before ++ same i ∷ is i ∷ [])
    ∙ ap (λ b. before ++ cond b (with_another last image ∷ []) (last ∷ alone image ∷ []))
    (sym full)
    ∙ sym (last_takes before last image) ∙ ap (λ batches. with_image batches image) (sym was)
