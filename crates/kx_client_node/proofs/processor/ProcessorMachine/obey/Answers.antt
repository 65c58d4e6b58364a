use Rattle.std.proofs.Common.{◌∙◌, ◌==◌, ap, sym, subst, length}
use Rattle.kx_machine.specs.Meaning.{command_of, command_of_offsets}
use Rattle.kx_processor.specs.Calls.{IsRefused}
use Rattle.kx_processor.specs.Running.{processor_of}
use Rattle.kx_client_node.proofs.Turns.{of_others, of_offsets, of_transactions}
use Rattle.kx_client_node.proofs.processor.ProcessorMachine.obey.Goals as goal

pub returns-in-Offsets-clause-answer : goal.returns-in-Offsets-clause-answer
returns-in-Offsets-clause-answer g c =
    let p = processor_of g.P.Process.image_of c.args.self.now in
    let refused = of_offsets p c.in-Offsets.offsets c.is_empty.result c.as_slice.ensures.within.0
    (c.is_empty.ensures ∙ ap (λ items. length items == 0) c.as_slice.ensures.value) in
    subst (λ told. IsRefused p (command_of told) c.foreign.result p) (sym c.in-Offsets.is)
    (subst (λ f. IsRefused p (command_of_offsets c.in-Offsets.offsets) f p)
    (sym c.foreign.ensures) refused)

pub returns-in-Send-clause-answer : goal.returns-in-Send-clause-answer
returns-in-Send-clause-answer g c =
    let p = processor_of g.P.Process.image_of c.args.self.now in
    subst (λ f. IsRefused p (command_of c.args.told.now) f p) (sym c.foreign-in-Send.ensures)
    (of_others p c.args.told.now c.in-Send.is)

pub returns-in-Begin-clause-answer : goal.returns-in-Begin-clause-answer
returns-in-Begin-clause-answer g c =
    let p = processor_of g.P.Process.image_of c.args.self.now in
    subst (λ f. IsRefused p (command_of c.args.told.now) f p) (sym c.foreign-in-Begin.ensures)
    (of_transactions p c.args.told.now c.in-Begin.is)
