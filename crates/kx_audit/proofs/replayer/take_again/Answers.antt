use Rattle.std.proofs.Common.{subst}
use Rattle.kx_machine.specs.Meaning.{input_of}
use Rattle.kx_nodes.specs.Again.{MayMeet, mode_for}
use Rattle.kx_audit.proofs.Again.{taken_so}
use Rattle.kx_audit.proofs.replayer.take_again.Goals as goal

pub returns : goal.returns
returns g c =
    let stands = g.B.Machine.Machine.stands in
    taken_so c.take.result (λ node. stands node c.args.machine.now)
    (λ node. stands node c.take.new.self) (input_of c.args.step.now.input)
    (g.B.Machine.Machine.allows c.prepare.new.machine)
    (λ node store. MayMeet node (mode_for c.args.step.now c.args.behind.now) store)
    (λ node stood. c.take.ensures node (c.prepare.ensures.stands node stood))
    (λ node size store stood allowed. subst (λ mode. MayMeet node mode store) c.mode_for.ensures
    (c.prepare.ensures.meets node size store (c.prepare.ensures.stands node stood) allowed))
