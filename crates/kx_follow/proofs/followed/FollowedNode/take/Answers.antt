use Rattle.std.proofs.Common.{refl, subst, sym}
use Rattle.kx_follow.specs.Following.{Followed}
use Rattle.kx_machine.specs.Meaning.{entry_bytes, input_of, node_step}
use Rattle.kx_follow.proofs.followed.FollowedNode.take.Goals as goal

pub returns-clause-steps : goal.returns-clause-steps
returns-clause-steps g c = λ node so.
    let stands = g.B.Machine.Machine.stands in
    let input = input_of c.args.input.now in
    let prepared = c.prepare.ensures.stands node
    (subst (λ (n : Followed _ _). stands node n.machine) (sym c.self.view_is) so) in
    let is = c.in_ok-taken.ensures node prepared in
    record {
      after = (node_step node is.store input).state;
      takes = record { store = is.store; answer = is.answer; after_is = refl; mark_is = refl };
      meets = c.prepare.ensures.meets node (entry_bytes node input) is.store prepared is.allowed;
      stands_so = is.stands;
    }
