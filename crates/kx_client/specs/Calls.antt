-- What a client answers if it refuses a command.
use Rattle.std.specs.Prelude.{◌≡◌, ◌<◌, ℕ, ℤ, pos, negsuc, List, [], ◌∷◌, length}
use Rattle.std.specs.Prelude.{if◌then◌else◌}
use Rattle.kx_client.specs.declared.fault.ClientFault.{ClientFault}
use Rattle.kx_client.specs.declared.fault.ClientFault.TheVariants as fault
use Rattle.kx_model.specs.Client as model
use Rattle.kx_model.specs.Client.{Client, Command, Commanded, Declines, Does, SendOffsets, command}
use Rattle.kx_model.specs.Client.{FetchPage}
use Rattle.kx_message.specs.declared.payload.PartitionOffset.{PartitionOffset}

abbrev pub number_of : ClientFault → ℕ
number_of fault.NotReady = 1
number_of fault.InFlight = 2
number_of fault.WindowFull = 3
number_of fault.Failed = 4
number_of fault.NotTransactional = 5
number_of fault.UsedUp = 6
number_of fault.MustAbort = 7
number_of fault.TooLarge = 8
number_of fault.Memory = 9

-- the rules have nothing against the command, and it sends something
abbrev pub HandsOut : Commanded → Type 0
HandsOut (Declines fault) = ⊥
HandsOut (Does client sent) = 0 < length sent

-- the fault is the one that the rules have; memory is refused only if they have none, and only
-- for what is to be handed out
abbrev pub IsRefused : ClientFault → Commanded → Type 0
IsRefused fault.NotReady answer = answer ≡ Declines model.NotReady
IsRefused fault.InFlight answer = answer ≡ Declines model.InFlight
IsRefused fault.WindowFull answer = answer ≡ Declines model.WindowFull
IsRefused fault.Failed answer = answer ≡ Declines model.Failed
IsRefused fault.NotTransactional answer = answer ≡ Declines model.NotTransactional
IsRefused fault.UsedUp answer = answer ≡ Declines model.UsedUp
IsRefused fault.MustAbort answer = answer ≡ Declines model.MustAbort
IsRefused fault.TooLarge answer = answer ≡ Declines model.TooLarge
IsRefused fault.Memory answer = HandsOut answer

-- what a commit of offsets comes to, of which there is at least one
abbrev pub commanded_offsets : Client → List PartitionOffset → Commanded
commanded_offsets c [] = Declines model.NotReady
commanded_offsets c (offset ∷ more) = command c (SendOffsets offset more)

-- what a fetch of a page comes to; none begins below offset 0
abbrev pub commanded_page : Client → ℕ → ℤ → Commanded
commanded_page c partition (pos from) = command c (FetchPage partition from)
commanded_page c partition (negsuc below) =
    if c.failed then Declines model.Failed else Declines model.NotReady
