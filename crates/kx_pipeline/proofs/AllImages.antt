-- The outputs of a chain's transactions, one after the other, are the images of all that is visible
-- up to where they have read.
use Rattle.std.proofs.Common.{◌≡◌, ◌+◌, ℕ, ℤ, pos, negsuc, ◌≤ℤ◌, List, [], ◌∷◌, ◌++◌, map, flat_map}
use Rattle.std.proofs.Common.{Contains, refl, sym, ap, ◌∙◌, subst, arith, append-nil}
use Rattle.std.proofs.lemmas.Grind.{flat_map-append}
use Rattle.std.proofs.lemmas.Int.{ints}
use Rattle.std.proofs.lemmas.List.{map-append}
use Rattle.std.proofs.lemmas.List.Elements.{Contains-append_right}
use Rattle.kx_message.specs.Ranges.{offsets_partition}
use Rattle.kx_model.specs.Coordinator.{commits}
use Rattle.kx_model.specs.Groups.{offsets_in}
use Rattle.kx_model.specs.Log.{Sequenced}
use Rattle.kx_model.specs.World.{World, entries_at, notes}
use Rattle.kx_laws.proofs.Membership.{contains_head}
use Rattle.kx_system.specs.Processor.{Images}
use Rattle.kx_system.specs.System.{System}
use Rattle.kx_pipeline.specs.Chain.{AreLinked, IsChained, Range, awaiting, chain, committed_after}
use Rattle.kx_pipeline.specs.Chain.{last_end, ranges_of, read_from}
use Rattle.kx_pipeline.specs.Outputs.{Content, content_of, keyless, outputs}
use Rattle.kx_pipeline.specs.Visible.{visible_in}
use Rattle.kx_pipeline.specs.Written.{WritesImages, all_outputs, all_read, chain_batches, images_in}
use Rattle.kx_pipeline.proofs.LinkedRanges.{end_or, last_end_is}
use Rattle.kx_pipeline.proofs.VisibleParts.{visible_of_none, visible_parts}

------ ranges that follow one another

abbrev range : ℤ → ℤ → Range
range from next = record { from = from; end = next }

ends_no_lower : (start : ℤ) (ranges : List Range) → AreLinked start ranges
    → start ≤ℤ end_or start ranges
ends_no_lower start [] linked = omega (arith, ints)
ends_no_lower start (first ∷ rest) linked =
    let grows = linked.1 in
    let later = ends_no_lower first.end rest linked.2 in
    omega (arith, ints, grows, later)

module _ (w : World) (image : Images) (q : ℕ) where
  abbrev images : Range → List (List ℕ)
  images = images_in w image q

  images_of_none : (from next : ℤ) → next ≤ℤ from → images (range from next) ≡ []
  images_of_none from next h =
      ap (map (λ s. image s.shown)) (visible_of_none w q from next h)

  images_of_parts : (from middle next : ℤ) → from ≤ℤ middle → middle ≤ℤ next
      → images (range from middle) ++ images (range middle next) ≡ images (range from next)
  images_of_parts from middle next first second =
      sym (map-append (λ s. image s.shown) (visible_in w q from middle)
      (visible_in w q middle next))
      ∙ ap (map (λ s. image s.shown)) (visible_parts from middle next first second w q)

  -- what is visible of them all is what is visible from their beginning to their end
  images_of_linked : (start : ℤ) (ranges : List Range) → AreLinked start ranges
      → flat_map images ranges ≡ images (range start (end_or start ranges))
  images_of_linked start [] linked = sym (images_of_none start start (omega (arith, ints)))
  images_of_linked start (first ∷ rest) linked =
      let grows = linked.1 in
      let next = end_or first.end rest in
      ap (λ l. images first ++ l) (images_of_linked first.end rest linked.2)
      ∙ ap (λ z. images (range z first.end) ++ images (range first.end next)) linked.0
      ∙ images_of_parts start first.end next (omega (arith, ints, grows))
      (ends_no_lower first.end rest linked.2)

  -- from 0 on, if there may be none
  images_of_all : (ranges : List Range) → AreLinked (pos 0) ranges
      → flat_map images ranges ≡ images (range (pos 0) (last_end ranges))
  images_of_all [] linked = sym (images_of_none (pos 0) (negsuc 0) (omega (arith, ints)))
  images_of_all (first ∷ rest) linked =
      images_of_linked (pos 0) (first ∷ rest) linked
      ∙ ap (λ z. images (range (pos 0) z)) (sym (last_end_is first rest))

------ a chain

module _ (s : System) (group : List ℕ) (q inputs : ℕ) (image : Images)
    (writes : WritesImages s group q inputs image) (chained : IsChained s.world group q)
    (one : (batch : Sequenced) → Contains (chain_batches s.world group q) batch
    → (offset : ℤ) × (offsets_in group q batch ≡ offset ∷ [])) where
  abbrev w : World
  w = s.world

  abbrev written : Sequenced → List Content
  written batch = map content_of (outputs w (q + inputs) batch.id batch.epoch)

  abbrev ranges : Sequenced → List Range
  ranges = ranges_of w.sent group q

  abbrev shown : Range → List (List ℕ)
  shown = images_in w image q

  of_batch : (batch : Sequenced) → Contains (chain_batches w group q) batch
      → written batch ≡ map keyless (flat_map shown (ranges batch))
  of_batch batch c =
      let (offset, only) = one batch c in
      let its = range (read_from w.sent group batch) offset in
      let is : ranges batch ≡ its ∷ [] =
      ap (map (range (read_from w.sent group batch))) only in
      writes.each batch its c (subst (λ l. Contains l its) (sym is) (contains_head its []))
      ∙ ap (map keyless) (sym (append-nil (shown its)))
      ∙ ap (λ l. map keyless (flat_map shown l)) (sym is)

  of_batches : (batches : List Sequenced)
      → ((batch : Sequenced) → Contains batches batch → Contains (chain_batches w group q) batch)
      → flat_map written batches ≡ map keyless (flat_map shown (flat_map ranges batches))
  of_batches [] among = refl
  of_batches (batch ∷ batches) among =
      ap (λ l. l ++ flat_map written batches) (of_batch batch (among batch
      (contains_head batch batches)))
      ∙ ap (λ l. map keyless (flat_map shown (ranges batch)) ++ l)
      (of_batches batches
      (λ b c. among b (Contains-append_right (batch ∷ []) batches b c)))
      ∙ sym (map-append keyless (flat_map shown (ranges batch))
      (flat_map shown (flat_map ranges batches)))
      ∙ ap (map keyless)
      (sym (flat_map-append shown (ranges batch) (flat_map ranges batches)))

  pub all_images : all_outputs s group q inputs
      ≡ map keyless (images_in w image q (all_read w group q))
  all_images =
      of_batches (chain_batches w group q) (λ batch c. c)
      ∙ ap (λ l. map keyless (flat_map shown l))
      (flat_map-append ranges (committed_after group q [] (entries_at w offsets_partition))
      (awaiting (commits (notes w)) group q (entries_at w offsets_partition)))
      ∙ ap (map keyless) (images_of_all w image q (chain w group q) chained.linked)
