-- A client's faults are those of the rules, or out of memory if something is to be sent.
use Rattle.std.proofs.Common.{◌≡◌, ◌<◌, Bool, true, false, List, [], ◌∷◌, length, refl, inl, inr, ap}
use Rattle.std.proofs.Common.{◌∙◌, arith, subst, sym}
use Rattle.std.specs.Prelude.{if◌then◌else◌}
use Rattle.kx_client.specs.Calls.{HandsOut, IsRefused, commanded_offsets}
use Rattle.kx_client.specs.declared.fault.ClientFault.{ClientFault}
use Rattle.kx_client.specs.declared.fault.ClientFault.TheVariants as fault
use Rattle.kx_client_node.specs.Clients.{IsDeclined}
use Rattle.kx_machine.specs.Meaning.{command_of}
use Rattle.kx_machine.specs.declared.input.Command as running
use Rattle.kx_machine.specs.declared.input.Command.TheVariants as told
use Rattle.kx_message.specs.declared.payload.PartitionOffset.{PartitionOffset}
use Rattle.kx_model.specs.Client as model
use Rattle.kx_model.specs.Client.{Client, Commanded, Declines, command}

pub declined : (f : ClientFault) (answer : Commanded) → IsRefused f answer → IsDeclined f answer
declined fault.NotReady answer is = inr (model.NotReady, is, refl)
declined fault.InFlight answer is = inr (model.InFlight, is, refl)
declined fault.WindowFull answer is = inr (model.WindowFull, is, refl)
declined fault.Failed answer is = inr (model.Failed, is, refl)
declined fault.NotTransactional answer is = inr (model.NotTransactional, is, refl)
declined fault.UsedUp answer is = inr (model.UsedUp, is, refl)
declined fault.MustAbort answer is = inr (model.MustAbort, is, refl)
declined fault.TooLarge answer is = inr (model.TooLarge, is, refl)
declined fault.Memory answer is = inl (refl, is)

-- no refusal of the rules is that memory is lacking
pub lacking : (answer : Commanded) → IsDeclined fault.Memory answer → HandsOut answer
lacking answer (inl (is, sends)) = sends
lacking answer (inr (model.NotReady, declines, is)) = absurd cc
lacking answer (inr (model.InFlight, declines, is)) = absurd cc
lacking answer (inr (model.WindowFull, declines, is)) = absurd cc
lacking answer (inr (model.Failed, declines, is)) = absurd cc
lacking answer (inr (model.NotTransactional, declines, is)) = absurd cc
lacking answer (inr (model.UsedUp, declines, is)) = absurd cc
lacking answer (inr (model.MustAbort, declines, is)) = absurd cc
lacking answer (inr (model.TooLarge, declines, is)) = absurd cc

-- a commit of offsets, of which there is at least one
pub offsets_declined : (c : Client) (what : running.Command) (offsets : List PartitionOffset)
    → what ≡ told.Offsets offsets → 0 < length offsets → (f : ClientFault)
    → IsRefused f (commanded_offsets c offsets) → IsDeclined f (command c (command_of what))
offsets_declined c what [] is some f refused = absurd (omega (arith, some))
offsets_declined c what (offset ∷ more) is some f refused =
    subst (λ w. IsDeclined f (command c (command_of w))) (sym is)
    (declined f (command c (model.SendOffsets offset more)) refused)

------ a poll, which only a processor takes

poll_is : (c : Client) (b : Bool) → c.failed ≡ b
    → command c model.Poll ≡ (if b then Declines model.Failed else Declines model.NotReady)
unfolding command
poll_is c b is =
    ap (λ failed. if failed then Declines model.Failed else Declines model.NotReady) is

pub poll_failed : (c : Client) (what : running.Command) → what ≡ told.Poll → c.failed ≡ true
    → IsDeclined fault.Failed (command c (command_of what))
poll_failed c what poll is =
    inr (model.Failed, ap (λ w. command c (command_of w)) poll ∙ poll_is c true is, refl)

pub poll_not_ready : (c : Client) (what : running.Command) → what ≡ told.Poll
    → c.failed ≡ false → IsDeclined fault.NotReady (command c (command_of what))
poll_not_ready c what poll is =
    inr (model.NotReady, ap (λ w. command c (command_of w)) poll ∙ poll_is c false is, refl)
