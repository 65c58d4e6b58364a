use Rattle.std.proofs.Common.{Option, ap, ◌∙◌, subst}
use Rattle.kx_machine.specs.Meaning.{input_of}
use Rattle.kx_model.specs.World.{Hand}
use Rattle.kx_script.specs.Running.{Means}
use Rattle.kx_script.specs.Session.{mark_at, store_of}
use Rattle.kx_script.specs.declared.marks.Marks.{Marks}
use Rattle.kx_script.specs.declared.order.Left.{Left}
use Rattle.kx_system.specs.System.{Happens}
use Rattle.kx_script.proofs.event.hand_marked.Goals as goal

pub returns : goal.returns
returns c = λ s marks.
    let to = c.args.to in
    subst (λ (mark : Option Left). Means s.system c.hand.result
    (Happens (Hand to (input_of c.args.input) (store_of mark))))
    (c.at.ensures ∙ ap (λ (ms : Marks). mark_at ms to) marks) (c.hand.ensures s.system)
