-- The batches into which a processor puts images hold each image once, in order, and none holds too
-- many.
use Rattle.std.proofs.Common.{◌≡◌, ◌≤◌, ℕ, List, [], ◌∷◌, ◌++◌, length, All, refl, sym, ap, ◌∙◌}
use Rattle.std.proofs.Common.{append-nil, append_assoc, arith, fold, true, nat_lt}
use Rattle.std.specs.List.{flat_map}
use Rattle.std.proofs.lemmas.Bool.{and_parts, cond_both, ltb-true}
use Rattle.std.proofs.lemmas.List.{length_push}
use Rattle.std.proofs.lemmas.List.Elements.{All-cons, All-head, All-nil, All-tail}
use Rattle.kx_client.specs.declared.values.Values.{Values}
use Rattle.kx_system.specs.Processor.{alone, batches_of, fits, most_images, takes_another}
use Rattle.kx_system.specs.Processor.{with_another, with_image}

abbrev pub images_in : Values → List (List ℕ)
images_in values = values.first ∷ values.more

------ each once, in order

-- one more image comes behind all others
adds_one : (batches : List Values) (image : List ℕ)
    → flat_map images_in (with_image batches image) ≡ flat_map images_in batches ++ image ∷ []
adds_one [] image = refl
adds_one (last ∷ []) image =
    let behind : last.more ++ image ∷ [] ≡ (last.more ++ []) ++ image ∷ [] =
    ap (λ l. l ++ image ∷ []) (sym (append-nil last.more)) in
    cond_both (takes_another last image) (with_another last image ∷ [])
    (last ∷ alone image ∷ [])
    (λ batches. flat_map images_in batches ≡ flat_map images_in (last ∷ []) ++ image ∷ [])
    (λ e. ap (λ l. last.first ∷ l) (append-nil (last.more ++ image ∷ []) ∙ behind))
    (λ e. ap (λ l. last.first ∷ l) behind)
adds_one (values ∷ next ∷ rest) image =
    ap (λ l. images_in values ++ l) (adds_one (next ∷ rest) image)
    ∙ sym (append_assoc (images_in values) (flat_map images_in (next ∷ rest)) (image ∷ []))

adds_all : (batches : List Values) (images : List (List ℕ))
    → flat_map images_in (fold with_image batches images) ≡ flat_map images_in batches ++ images
adds_all batches [] = sym (append-nil (flat_map images_in batches))
adds_all batches (image ∷ images) =
    adds_all (with_image batches image) images
    ∙ ap (λ l. l ++ images) (adds_one batches image)
    ∙ append_assoc (flat_map images_in batches) (image ∷ []) images

-- the batches of images hold those images
pub batches_hold_all : (images : List (List ℕ))
    → flat_map (λ values. values.first ∷ values.more) (batches_of images) ≡ images
batches_hold_all images = adds_all [] images

------ none has too many

abbrev pub IsFew : Values → Type 0
IsFew values = length (values.first ∷ values.more) ≤ most_images

alone_few : (image : List ℕ) → IsFew (alone image)
alone_few image = omega arith

another_few : (values : Values) (image : List ℕ) → takes_another values image ≡ true
    → IsFew (with_another values image)
another_few values image e =
    let h = and_parts (nat_lt (length (values.first ∷ values.more)) most_images)
    (fits (with_another values image)) e in
    omega (
      arith,
      ltb-true (length (values.first ∷ values.more)) most_images h.0,
      length_push values.more image,
    )

adds_few : (batches : List Values) (image : List ℕ) → All IsFew batches
    → All IsFew (with_image batches image)
adds_few [] image h = All-cons IsFew (alone image) [] (alone_few image) (All-nil IsFew)
adds_few (last ∷ []) image h =
    cond_both (takes_another last image) (with_another last image ∷ [])
    (last ∷ alone image ∷ []) (All IsFew)
    (λ e. All-cons IsFew (with_another last image) [] (another_few last image e) (All-nil IsFew))
    (λ e. All-cons IsFew last (alone image ∷ []) (All-head IsFew last [] h)
    (All-cons IsFew (alone image) [] (alone_few image) (All-nil IsFew)))
adds_few (values ∷ next ∷ rest) image h =
    All-cons IsFew values (with_image (next ∷ rest) image)
    (All-head IsFew values (next ∷ rest) h)
    (adds_few (next ∷ rest) image (All-tail IsFew values (next ∷ rest) h))

all_few : (batches : List Values) (images : List (List ℕ)) → All IsFew batches
    → All IsFew (fold with_image batches images)
all_few batches [] h = h
all_few batches (image ∷ images) h =
    all_few (with_image batches image) images (adds_few batches image h)

pub batches_are_few : (images : List (List ℕ)) → All IsFew (batches_of images)
batches_are_few images = all_few [] images (All-nil IsFew)
