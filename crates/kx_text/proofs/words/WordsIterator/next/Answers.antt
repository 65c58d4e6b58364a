use Rattle.std.proofs.Common.{◌≡◌, ◌∷◌, suc, length, rules, sym, ap, ◌∙◌}
use Rattle.std.specs.Prelude.{option_map}
use Rattle.kx_text.specs.Words.{behind, pieces_in}
use Rattle.kx_text.proofs.Firsts.{pieces_of-first}
use Rattle.kx_text.proofs.words.WordsIterator.next.Goals as goal

pub returns-clause-steps : goal.returns-clause-steps
returns-clause-steps c = sym c.self.view_is
    ∙ ap (λ o. pieces_in (option_map (λ s. s.now) o)) (c.in_ok-rest.was)
    ∙ pieces_of-first c.in_ok-rest.rest.now
    ∙ ap (λ w. w ∷ pieces_in (behind 32 c.in_ok-rest.rest.now)) (sym c.cut_at.ensures.front)
    ∙ ap (λ o. c.cut_at.result.0.now ∷ pieces_in o) (sym c.cut_at.ensures.rest)

pub returns-clause-goes : goal.returns-clause-goes
returns-clause-goes c =
    let e : length c.args.self.now ≡ suc (length
    (pieces_in (option_map (λ s. s.now) c.cut_at.result.1))) =
    ap length (returns-clause-steps c) in
    search rules
