use Rattle.std.proofs.Common.{◌≡◌, ◌++◌, ◌∷◌, ◌∙◌, [], IsFalse, List, ap, arith, length, rules, subst}
use Rattle.std.proofs.Common.{sym, take}
use Rattle.std.proofs.Math.Seq.{take-length}
use Rattle.std.proofs.lemmas.List.{take_more}
use Rattle.kx_follow.specs.Beginning.{AreNodes, IsNewName}
use Rattle.kx_follow.specs.Following.{Followed}
use Rattle.kx_message.specs.declared.message.NodeId.{NodeId}
use Rattle.kx_follow.proofs.Stepping.{one_named}
use Rattle.kx_follow.proofs.follower.check_names.Goals as goal

pub loop-number-init : goal.loop-number-init
loop-number-init g c = record {
  first = record { apart = λ j k n o at. absurd cc; fit = λ k n at. absurd cc };
}

pub loop-number-preserved : goal.loop-number-preserved
loop-number-preserved g c =
    let making = g.B.Tells.making in
    let nodes = c.args.nodes.now in
    let i = c.loop-number.number in
    let n = c.index-nodes-number.result in
    let new : IsFalse c.has_name.result = search rules in
    let none = subst (λ (x : NodeId). IsNewName making x (take i nodes)) c.name.ensures.name
    (c.has_name.ensures.new new) in
    record {
      first = subst (λ (l : List (Followed _ _)). AreNodes making l)
          (ap (λ (x : Followed _ _). take i nodes ++ x ∷ []) c.index-nodes-number.is
          ∙ sym (take_more nodes i n (omega arith)))
          (one_named making (take i nodes) n c.loop-number.invariant.first c.name.ensures.fits none);
    }

pub returns : goal.returns
returns g c =
    let nodes = c.args.nodes.now in
    let all : c.loop-number.number ≡ length nodes =
    omega (arith, c.loop-number-test.false, c.loop-number.auto.number-end) in
    subst (λ (l : List (Followed _ _)). AreNodes g.B.Tells.making l)
    (ap (λ i. take i nodes) all ∙ take-length nodes) c.loop-number.invariant.first
