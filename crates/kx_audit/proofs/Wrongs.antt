-- A receipt that is of no step of traces that were run again is of no step of these traces.
use Rattle.std.proofs.Common.{◌≡◌, List, Some, sym, ap, ◌∙◌, subst}
use Rattle.std.specs.Prelude.{slice_get}
use Rattle.std.proofs.lemmas.Option.{same_Some}
use Rattle.kx_audit.specs.Joined.{IsWay, Passed, steps_in}
use Rattle.kx_audit.specs.Making.{NodeMaking, Trail, named, trail_of}
use Rattle.kx_audit.specs.Receipts.{AreNamed, HaveUnnamed, IsNamed}
use Rattle.kx_audit.specs.Refused.{AreAllOfTraces, HaveWrong, IsOfTrace}
use Rattle.kx_audit.specs.Replayed.{AreReplayed, Progress, name_at, traces_of, trails_of}
use Rattle.kx_audit.specs.Told.{takens_in}
use Rattle.kx_machine.specs.Meaning.{NodeState}
use Rattle.kx_machine.specs.declared.taken.Taken.{Taken}
use Rattle.kx_nodes.specs.declared.receipt.Receipt.{Receipt}
use Rattle.kx_nodes.specs.declared.trace.Step.{Step}
use Rattle.kx_audit.proofs.Lines.{told_by_at, told_by_is, told_by_steps, told_by_takens}
use Rattle.kx_audit.proofs.OneWay.{TellAnswers, way_takens}
use Rattle.kx_audit.proofs.Places.{from_map, to_map}
use Rattle.kx_audit.proofs.Sources.{at_trail, trail_at}

module _ {B M : Type 0} (making : B → NodeMaking) (stands : NodeState → M → Type 0) where
  -- what is of a step of a trace is of one that was run again
  is_named : TellAnswers → (nodes : List (Progress B M)) → AreReplayed making stands nodes
      → (receipt : Receipt) → IsOfTrace (trails_of making (traces_of nodes)) receipt
      → IsNamed making nodes receipt
  is_named tells nodes replayed receipt is =
      let p = at_trail making nodes is.number is.trail is.trail_is in
      let node = p.node in
      let passed = is.passed in
      let way = subst (λ (t : Trail). IsWay t is.way) (sym p.trail_is) is.is_way in
      let takens = way_takens making stands tells node is.way
      (replayed is.number node p.there) way in
      let step : slice_get node.trace.steps receipt.place ≡ Some passed.step =
      subst (λ (l : List Step). slice_get l receipt.place ≡ Some passed.step) way.steps_are
      (to_map (λ (q : Passed). q.step) is.way receipt.place passed is.there) in
      let taken : slice_get node.takens receipt.place ≡ Some passed.taken =
      subst (λ (l : List Taken). slice_get l receipt.place ≡ Some passed.taken) takens
      (to_map (λ (q : Passed). q.taken) is.way receipt.place passed is.there) in
      record {
        number = is.number;
        node = node;
        step = record {
          node = name_at making node;
          step = passed.step;
          taken = passed.taken;
        };
        there = p.there;
        is = record {
          node_is = is.node_is ∙ sym (ap (λ (t : Trail). named t.made) p.trail_is);
          there = told_by_at (name_at making node) node.trace.steps node.takens receipt.place
              passed.step passed.taken step taken;
          input_is = is.input_is;
          taken_is = is.taken_is;
        };
      }

  pub have_wrong : TellAnswers → (nodes : List (Progress B M)) (receipts : List Receipt)
      → AreReplayed making stands nodes → HaveUnnamed making nodes receipts
      → HaveWrong (trails_of making (traces_of nodes)) receipts
  have_wrong tells nodes receipts replayed has = record {
    number = has.number;
    receipt = has.receipt;
    there = has.there;
    wrong = λ is. has.unnamed (is_named tells nodes replayed has.receipt is);
  }

  -- a receipt that is of a step of a trace that was run again is of that step of the trace
  is_of_trace : (nodes : List (Progress B M)) → AreReplayed making stands nodes
      → (receipt : Receipt) → IsNamed making nodes receipt
      → IsOfTrace (trails_of making (traces_of nodes)) receipt
  is_of_trace nodes replayed receipt is =
      let node = is.node in
      let run = replayed is.number node is.there in
      let steps : steps_in run.answers.way ≡ node.trace.steps =
      run.answers.steps_are ∙ told_by_steps (name_at making node) node.trace.steps node.takens
      run.whole in
      let takens : takens_in run.answers.way ≡ node.takens =
      run.answers.takens_are ∙ told_by_takens (name_at making node) node.trace.steps node.takens
      run.whole in
      let told = told_by_is (name_at making node) node.trace.steps node.takens receipt.place is.step
      is.is.there in
      let step = from_map (λ (q : Passed). q.step) run.answers.way receipt.place is.step.step
      (ap (λ (l : List Step). slice_get l receipt.place) steps ∙ told.step_is) in
      let passed = step.0 in
      let taken : passed.taken ≡ is.step.taken =
      same_Some passed.taken is.step.taken
      (sym (to_map (λ (q : Passed). q.taken) run.answers.way receipt.place passed step.1)
      ∙ (ap (λ (l : List Taken). slice_get l receipt.place) takens ∙ told.taken_is)) in
      record {
        number = is.number;
        trail = trail_of making node.trace;
        way = run.answers.way;
        passed = passed;
        trail_is = trail_at making nodes is.number node is.there;
        node_is = is.is.node_is;
        is_way = record { goes = run.answers.goes; steps_are = steps };
        there = step.1;
        input_is = is.is.input_is ∙ ap (λ (q : Step). q.input) (sym step.2);
        taken_is = is.is.taken_is ∙ sym taken;
      }

  pub all_of_traces : (nodes : List (Progress B M)) (receipts : List Receipt)
      → AreReplayed making stands nodes → AreNamed making nodes receipts
      → AreAllOfTraces (trails_of making (traces_of nodes)) receipts
  all_of_traces nodes receipts replayed named j receipt at =
      is_of_trace nodes replayed receipt (named j receipt at)
