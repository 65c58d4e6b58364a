-- What a processor answers if it refuses a command.
use Rattle.std.specs.Prelude.{◌≡◌, ℤ, false, [], Ok, is_none}
use Rattle.kx_client.specs.Calls.{HandsOut}
use Rattle.kx_client.specs.declared.fault.ClientFault.{ClientFault}
use Rattle.kx_client.specs.declared.fault.ClientFault.TheVariants as fault
use Rattle.kx_message.specs.declared.message.Message.{Message}
use Rattle.kx_model.specs.Client as model
use Rattle.kx_model.specs.Client.{Command, Fault, command}
use Rattle.kx_model.specs.Step.{Commands, Declined}
use Rattle.kx_model.specs.Page.{Fetched}
use Rattle.kx_partition.specs.Reply.{page_in}
use Rattle.kx_system.specs.Processor.{Processor, has_failed, is_overflown, is_waiting}
use Rattle.kx_system.specs.Processor.{processor_step}

-- the rules refuse it so, and the processor is then where they say
abbrev pub Declines : Processor → Command → Fault → Processor → Type 0
Declines before what refusal after = processor_step before (Commands what) ≡ record {
  state = after;
  messages = [];
  note = Declined refusal;
}

-- the fault is the one that the rules have; for want of memory, which may come in its place, the
-- processor is as before
abbrev pub IsRefused : Processor → Command → ClientFault → Processor → Type 0
IsRefused before what fault.NotReady after = Declines before what model.NotReady after
IsRefused before what fault.InFlight after = Declines before what model.InFlight after
IsRefused before what fault.WindowFull after = Declines before what model.WindowFull after
IsRefused before what fault.Failed after = Declines before what model.Failed after
IsRefused before what fault.NotTransactional after =
    Declines before what model.NotTransactional after
IsRefused before what fault.UsedUp after = Declines before what model.UsedUp after
IsRefused before what fault.MustAbort after = Declines before what model.MustAbort after
IsRefused before what fault.TooLarge after = Declines before what model.TooLarge after
IsRefused before what fault.Memory after = after ≡ before

-- it hasn't failed, its client's rules have nothing against the command, and something is sent
pub record MaySend (p : Processor) (what : Command) : Type 0 where
  pub not_failed : has_failed p ≡ false
  pub sends : HandsOut (command p.client what)

-- the message carries a page
pub record HasPage (reply : Message) : Type 0 where
  pub from : ℤ
  pub page : Fetched
  pub is : page_in from reply ≡ Ok page

-- nothing is unanswered and no refusal comes first, so that the next request is made
pub record AsksNext (p : Processor) : Type 0 where
  pub not_failed : has_failed p ≡ false
  pub not_waiting : is_waiting p.client ≡ false
  pub has_id : is_none p.client.held ≡ false
  pub fitted : is_overflown p.processing.stage ≡ false
