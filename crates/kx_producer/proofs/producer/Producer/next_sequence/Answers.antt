use Rattle.std.proofs.Common.{◌≡◌, ap, sym, ◌∙◌, rules, pos, ◌+ℤ◌, arith, to_z, of_z, w32, w64}
use Rattle.std.proofs.Common.{FitsSigned}
use Rattle.std.proofs.lemmas.Int.{ints, to_z-of_z}
use Rattle.kx_producer.specs.Known.{Known}
use Rattle.kx_producer.specs.Verdicts.{sequence_behind}
use Rattle.kx_producer.proofs.Batches.{after, behind_last}
use Rattle.kx_producer.proofs.producer.Producer.next_sequence.Goals as goal

pub returns-in-Some : goal.returns-in-Some
returns-in-Some c =
    let last = c.in-Some.batch.now.last in
    let fits : FitsSigned w32 last = search rules in
    let wide : c.from.result ≡ last = c.from.ensures ∙ to_z-of_z w32 last fits in
    let next : FitsSigned w64 (last +ℤ pos 1) = grind (arith, ints, fits) in
    let held : FitsSigned w64 last = omega (arith, fits) in
    ap (λ z. to_z w64 (of_z w64 (z +ℤ pos 1)))
    (ap (λ z. to_z w64 (of_z w64 z)) wide ∙ to_z-of_z w64 last held)
    ∙ to_z-of_z w64 (last +ℤ pos 1) next ∙ ap after c.in-Some.ensures
    ∙ sym (behind_last c.self.inside.remembered.items)
    ∙ ap (λ (known : Known). sequence_behind known.remembered) c.self.view_is

pub returns-in-None : goal.returns-in-None
returns-in-None c =
    ap after c.in-None.ensures ∙ sym (behind_last c.self.inside.remembered.items)
    ∙ ap (λ (known : Known). sequence_behind known.remembered) c.self.view_is
