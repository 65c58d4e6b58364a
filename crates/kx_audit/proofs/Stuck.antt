-- If no node can go on and a trace isn't done, the traces are stuck.
use Rattle.std.proofs.Common.{◌≡◌, ◌++◌, ℕ, zero, suc, List, [], ◌∷◌, length, take, Some}
use Rattle.std.proofs.Common.{sym, ap, ◌∙◌, subst, arith}
use Rattle.std.specs.Prelude.{slice_get}
use Rattle.std.proofs.lemmas.List.{length-take-le, take-map}
use Rattle.kx_audit.specs.Joined.{GoesOn, Passed, WasHandedOut}
use Rattle.kx_audit.specs.Making.{NodeMaking, Trail, named, node_of, trail_of}
use Rattle.kx_audit.specs.Merged.{HasUndone, IsMerging, MayGo, Merged, NoneMayGo, arrived_at}
use Rattle.kx_audit.specs.Merged.{told_so_far}
use Rattle.kx_audit.specs.Refused.{ArePartlyMerged, AreStuck, NoneGoesOn}
use Rattle.kx_audit.specs.Replayed.{Progress, line_of, name_at, traces_of, trails_of}
use Rattle.kx_audit.specs.Told.{AnswersSo, Told, told_at, told_messages, told_steps}
use Rattle.kx_machine.specs.Meaning.{NodeState}
use Rattle.kx_message.specs.declared.message.Message.{Message}
use Rattle.kx_nodes.specs.declared.trace.Step.{Step}
use Rattle.kx_audit.proofs.Lines.{told_by_length, told_by_steps}
use Rattle.kx_audit.proofs.Sources.{at_trail, trail_at}

goes_first : (node : NodeState) (n : ℕ) (way : List Passed) → GoesOn node way
    → GoesOn node (take n way)
goes_first node zero [] goes = tt
goes_first node zero (p ∷ way) goes = tt
goes_first node (suc n) [] goes = tt
goes_first node (suc n) (p ∷ way) goes = (goes.0, goes_first p.after n way goes.1)

-- the first steps answer as all of them do
answers_first : (made : NodeState) (n : ℕ) (told : List Told) (Stands : NodeState → Type 0)
    → AnswersSo made told Stands → AnswersSo made (take n told) (λ node. Unit {0})
answers_first made n told Stands all = record {
  way = take n all.way;
  goes = goes_first made n all.way all.goes;
  steps_are = sym (take-map (λ (p : Passed). p.step) n all.way) ∙ ap (take n) all.steps_are
      ∙ take-map (λ (x : Told). x.step) n told;
  takens_are = sym (take-map (λ (p : Passed). p.taken) n all.way) ∙ ap (take n) all.takens_are
      ∙ take-map (λ (x : Told). x.taken) n told;
  stands = tt;
}

module _ {B M : Type 0} (making : B → NodeMaking) (stands : NodeState → M → Type 0)
    (m : Merged B M) (is : IsMerging making stands m) where
  abbrev trails : List Trail
  trails = trails_of making (traces_of m.nodes)

  abbrev told : List Told
  told = told_so_far making m

  abbrev arrived : List Message
  arrived = arrived_at making m.clients m.nodes

  module _ (k : ℕ) (p : Progress B M) (at : slice_get m.nodes k ≡ Some p) where
    abbrev own : List Told
    own = told_at (name_at making p) told

    count_own : length own ≡ p.done
    count_own =
        let r = is.replayed k p at in
        let all = told_by_length (name_at making p) p.trace.steps p.takens r.whole in
        let within = r.within in
        ap (λ (xs : List Told). length xs) (is.fits k p at)
        ∙ length-take-le p.done (line_of making p) (omega (arith, all, within))

    own_steps : told_steps own ≡ take (length own) p.trace.steps
    own_steps =
        ap told_steps (is.fits k p at)
        ∙ sym (take-map (λ (x : Told). x.step) p.done (line_of making p))
        ∙ ap (take p.done) (told_by_steps (name_at making p) p.trace.steps p.takens
        (is.replayed k p at).whole)
        ∙ ap (λ n. take n p.trace.steps) (sym count_own)

    own_answers : AnswersSo (node_of (making p.trace.made)) own (λ node. Unit {0})
    own_answers =
        subst (λ (xs : List Told). AnswersSo (node_of (making p.trace.made)) xs (λ node. Unit {0}))
        (sym (is.fits k p at))
        (answers_first (node_of (making p.trace.made)) p.done (line_of making p)
        (λ node. stands node p.machine) (is.replayed k p at).answers)

    goes_not : (MayGo m.sent p → ⊥) → (step : Step)
        → slice_get p.trace.steps (length own) ≡ Some step
        → WasHandedOut (arrived ++ told_messages told) step.input → ⊥
    goes_not none step there was =
        none (record {
          step = step;
          there = ap (slice_get p.trace.steps) (sym count_own) ∙ there;
          was = subst (λ (ms : List Message). WasHandedOut ms step.input) (sym is.sent_is) was;
        })

  partly : ArePartlyMerged arrived trails told
  partly = record {
    in_order = is.in_order;
    no_others = is.no_others;
    each = λ k t at.
        let of = at_trail making m.nodes k t at in
        subst (λ (x : Trail). told_steps (told_at (named x.made) told)
        ≡ take (length (told_at (named x.made) told)) x.steps) of.trail_is
        (own_steps k of.node of.there);
    answers = λ k t at.
        let of = at_trail making m.nodes k t at in
        subst (λ (x : Trail). AnswersSo (node_of x.made) (told_at (named x.made) told)
        (λ node. Unit {0})) of.trail_is (own_answers k of.node of.there);
  }

  none_goes : NoneMayGo m.sent m.nodes → NoneGoesOn arrived trails told
  none_goes none k t step at =
      let of = at_trail making m.nodes k t at in
      subst (λ (x : Trail). slice_get x.steps (length (told_at (named x.made) told)) ≡ Some step
      → WasHandedOut (arrived ++ told_messages told) step.input → ⊥) of.trail_is
      (goes_not k of.node of.there (none k of.node of.there) step)

  pub are_stuck : NoneMayGo m.sent m.nodes → HasUndone m.nodes → AreStuck arrived trails
  are_stuck none undone = record {
    told = told;
    partly = partly;
    none = none_goes none;
    undone = record {
      place = undone.place;
      trail = trail_of making undone.node.trace;
      there = trail_at making m.nodes undone.place undone.node undone.there;
      less = (
          let n = count_own undone.place undone.node undone.there in
          let less = undone.less in omega (arith, n, less));
    };
  }
