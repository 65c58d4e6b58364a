-- What stands once all steps are merged: they are all steps of the traces, each trace that was run
-- again answers so, and each turn is of its step.
use Rattle.std.proofs.Common.{◌≡◌, ℕ, suc, List, [], ◌∷◌, length, Some, refl, sym, ap, ◌∙◌}
use Rattle.std.proofs.Common.{subst, arith}
use Rattle.std.specs.Prelude.{slice_get, sum_by}
use Rattle.std.proofs.lemmas.List.{take_all}
use Rattle.std.proofs.lemmas.List.Sums.{sum_by-cons}
use Rattle.kx_audit.specs.Making.{NodeMaking, Trail, named, node_of, trail_of}
use Rattle.kx_audit.specs.Merged.{AreDone, IsMerging, Merged, arrived_at, lines_of, told_so_far}
use Rattle.kx_audit.specs.Refused.{HaveOrder}
use Rattle.kx_audit.specs.Replayed.{Progress, left, line_of, machines_of, name_at, steps_of}
use Rattle.kx_audit.specs.Replayed.{traces_of, trails_of}
use Rattle.kx_audit.specs.Rerun.{TakesAgain}
use Rattle.kx_audit.specs.Run.{AreTurns, StandsAt}
use Rattle.kx_audit.specs.Told.{AreMerged, Told, told_at, told_steps}
use Rattle.kx_audit.specs.Told.{told_takens}
use Rattle.kx_machine.specs.Meaning.{NodeState}
use Rattle.kx_audit.proofs.Along.{along_length, turn_of}
use Rattle.kx_audit.proofs.Lines.{told_by_length, told_by_steps}
use Rattle.kx_audit.proofs.Places.{to_map}
use Rattle.kx_audit.proofs.Sources.{at_trail, trail_at}
use Rattle.kx_audit.proofs.Telling.{AllBy, AnswersBy}

none_left : {B M : Type 0} (nodes : List (Progress B M)) → AreDone nodes → sum_by left nodes ≡ 0
none_left [] done = refl
none_left (p ∷ nodes) done =
    let own = done 0 p refl in
    let rest = none_left nodes (λ k. done (suc k)) in
    let all = sum_by-cons left p nodes in
    omega (arith, own, rest, all)

module _ {B M : Type 0} (making : B → NodeMaking) (stands : NodeState → M → Type 0)
    (m : Merged B M) (is : IsMerging making stands m) where
  abbrev trails : List Trail
  trails = trails_of making (traces_of m.nodes)

  abbrev told : List Told
  told = told_so_far making m

  pub are_turns : AreTurns trails m.turns told
  are_turns = record {
    count = along_length (lines_of making m.nodes) m.turns is.turns_there;
    each = λ j turn x at there.
        let t = turn_of making m.nodes m.turns is.turns_there j turn x at there in
        record {
          trail = trail_of making t.node.trace;
          there = trail_at making m.nodes turn.trace t.node t.there;
          node_is = t.is.node_is;
          step_is = t.is.step_is;
        };
  }

  ------ all of them are merged

  module _ (done : AreDone m.nodes) where
    pub count_is : length told ≡ steps_of (traces_of m.nodes)
    count_is =
        let none = none_left m.nodes done in
        let all = is.count in omega (arith, none, all)

    -- those at a node are all that its trace tells
    pub whole_line : (k : ℕ) (p : Progress B M) → slice_get m.nodes k ≡ Some p
        → told_at (name_at making p) told ≡ line_of making p
    whole_line k p at =
        let all = told_by_length (name_at making p) p.trace.steps p.takens
        (is.replayed k p at).whole in
        let own = done k p at in
        is.fits k p at ∙ take_all p.done (line_of making p) (omega (arith, all, own))

    pub are_merged : AreMerged (arrived_at making m.clients m.nodes) trails told
    are_merged = record {
      apart = is.apart;
      each = λ k t at.
          let of = at_trail making m.nodes k t at in
          let p = of.node in
          subst (λ (x : Trail). told_steps (told_at (named x.made) told) ≡ x.steps) of.trail_is
          (ap told_steps (whole_line k p of.there)
          ∙ told_by_steps (name_at making p) p.trace.steps p.takens
          (is.replayed k p of.there).whole);
      no_others = is.no_others;
      in_order = is.in_order;
    }

    abbrev Ends : ℕ → NodeState → Type 0
    Ends = StandsAt stands (machines_of m.nodes)

    node_answers : (k : ℕ) (p : Progress B M) → slice_get m.nodes k ≡ Some p
        → AnswersBy TakesAgain (node_of (making p.trace.made)) (told_at (name_at making p) told)
        (Ends k)
    node_answers k p at =
        let all = (is.replayed k p at).answers in
        let line = sym (whole_line k p at) in
        record {
          answers = record {
            way = all.way;
            goes = all.goes;
            steps_are = all.steps_are ∙ ap told_steps line;
            takens_are = all.takens_are ∙ ap told_takens line;
            stands = record {
              machine = p.machine;
              there = to_map (λ (q : Progress B M). q.machine) m.nodes k p at;
              stands_so = all.stands;
            };
          };
          each = (is.replayed k p at).again;
        }

    pub all_answer : AllBy TakesAgain trails told Ends
    all_answer k t at =
        let of = at_trail making m.nodes k t at in
        subst (λ (x : Trail).
        AnswersBy TakesAgain (node_of x.made) (told_at (named x.made) told) (Ends k))
        of.trail_is (node_answers k of.node of.there)

    -- so they have an order
    pub have_order : HaveOrder (arrived_at making m.clients m.nodes) trails
    have_order = record {
      told = told;
      merged = are_merged;
      answers = λ k t at.
          let found = (all_answer k t at).answers in
          record {
            way = found.way;
            goes = found.goes;
            steps_are = found.steps_are;
            takens_are = found.takens_are;
            stands = tt;
          };
    }
