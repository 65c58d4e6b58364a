-- The images of a page, put into batches one by one.
use Rattle.std.proofs.Common.{◌≡◌, ◌∙◌, ℕ, ℤ, List, [], ◌∷◌, map, refl, sym, ap}
use Rattle.std.specs.Prelude.{fold}
use Rattle.kx_batch.specs.Record.{Record}
use Rattle.kx_client.specs.declared.values.Values.{Values}
use Rattle.kx_model.specs.Reading.{Shown}
use Rattle.kx_reader.specs.Pairs.{pairs}
use Rattle.kx_system.specs.Processor.{Images, batches_of, with_image}

-- with the images of the records that are still to come
abbrev pub filled : Images → List Values → List (ℤ × Record) → List Values
filled image batches records = fold with_image batches (map (λ e. image e.1) records)

same_images : (image : Images) (shown : List Shown)
    → map (λ e. image e.1) (pairs shown) ≡ map (λ s. image s.shown) shown
same_images image [] = refl
same_images image (s ∷ shown) = ap (λ rest. image s.shown ∷ rest) (same_images image shown)

pub begins : (image : Images) (batches : List Values) (shown all : List Shown) → batches ≡ []
    → shown ≡ all
    → filled image batches (pairs shown) ≡ batches_of (map (λ s. image s.shown) all)
begins image batches shown all none is =
    (λ i. fold with_image (none i) (map (λ e. image e.1) (pairs (is i))))
    ∙ ap batches_of (same_images image all)

pub goes_on : (image : Images) (batches next : List Values) (records rest : List (ℤ × Record))
    (offset : ℤ) (r : Record) (value : List ℕ) (whole : List Values)
    → filled image batches records ≡ whole → records ≡ (offset, r) ∷ rest → value ≡ image r
    → next ≡ with_image batches value → filled image next rest ≡ whole
goes_on image batches next records rest offset r value whole before is image_is put =
    ap (λ b. filled image b rest) (put ∙ ap (with_image batches) image_is)
    ∙ sym (ap (filled image batches) is) ∙ before

pub ends : (image : Images) (batches whole : List Values) (records : List (ℤ × Record))
    → filled image batches records ≡ whole → records ≡ [] → batches ≡ whole
ends image batches whole records before none =
    sym (ap (filled image batches) none) ∙ before
