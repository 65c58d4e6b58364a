use Rattle.std.proofs.Common.{inl, inr, refl, subst, sym}
use Rattle.kx_machine.specs.Meaning.{input_of}
use Rattle.kx_machine.specs.declared.input.Input.{Input}
use Rattle.kx_coord_node.proofs.Taking.{IsIdle, takes_nothing}
use Rattle.kx_coord_node.proofs.machine.CoordinatorMachineMachine.take.Goals as goal

pub returns-in-Command : goal.returns-in-Command
returns-in-Command g c =
    let idle : IsIdle (input_of c.args.input.now) = elim c.in-Command.is [
      | inl told ↦ subst (λ (i : Input). IsIdle (input_of i)) (sym told.1)
          (λ co store. refl, λ co. refl)
      | inr (inl drop) ↦ subst (λ (i : Input). IsIdle (input_of i)) (sym drop.2)
          (λ co store. refl, λ co. refl)
      | inr (inr put) ↦ subst (λ (i : Input). IsIdle (input_of i)) (sym put.1)
          (λ co store. refl, λ co. refl)
    ] in
    takes_nothing (input_of c.args.input.now) c.args.self.now c.rest.result idle c.rest.ensures
