-- What is printed of a step, and of what is read of nodes.
use Rattle.std.specs.Prelude.{ℕ, ℤ, ◌+◌, List, [], ◌∷◌, ◌++◌, codes, decimal, flat_map}
use Rattle.std.specs.Prelude.{Option, None, Some}
use Rattle.std.specs.Fmt.{signed_decimal}
use Rattle.kx_client.specs.declared.fault.ClientFault.{ClientFault}
use Rattle.kx_client.specs.declared.fault.ClientFault.TheVariants as fault
use Rattle.kx_machine.specs.declared.taken.Note.{Note}
use Rattle.kx_machine.specs.declared.taken.Note.TheVariants as note
use Rattle.kx_message.specs.Prints.{code_word, message_text, node_text}
use Rattle.kx_message.specs.Ranges.{partition_text}
use Rattle.kx_message.specs.Receiver.{receiver_of}
use Rattle.kx_message.specs.declared.code.ErrorCode.{ErrorCode}
use Rattle.kx_message.specs.declared.message.Message.{Message}
use Rattle.kx_message.specs.declared.message.NodeId.{NodeId}
use Rattle.kx_message.specs.declared.outcome.Outcome.TheVariants.{Abort, Commit}
use Rattle.kx_model.specs.Coordinator.{Row, State, Empty, Ongoing, Prepare, Complete}
use Rattle.kx_text.specs.Pages.{answer_text, newline}

-- nothing was handed out, or there is nothing to show
abbrev pub dash_text : List ℕ
dash_text = codes "-" ++ newline

------ a step

-- a message that a node hands out, with its number among all that were handed out
abbrev pub message_line : ℕ → NodeId → Message → List ℕ
message_line number from m =
    codes "#" ++ decimal number ++ codes " " ++ node_text from ++ codes ">"
    ++ node_text (receiver_of m) ++ codes " " ++ message_text m ++ newline

-- the same, if there is such a message
abbrev pub optional_line : ℕ → NodeId → Option Message → List ℕ
optional_line number from None = []
optional_line number from (Some m) = message_line number from m

-- messages that a node hands out, of which the first has this number
abbrev pub message_lines : ℕ → NodeId → List Message → List ℕ
message_lines number from [] = []
message_lines number from (m ∷ messages) =
    message_line number from m ++ message_lines (number + 1) from messages

abbrev pub messages_text : ℕ → NodeId → List Message → List ℕ
messages_text number from [] = dash_text
messages_text number from (m ∷ messages) = message_lines number from (m ∷ messages)

abbrev pub fault_name : ClientFault → List ℕ
fault_name fault.NotReady = codes "NotReady"
fault_name fault.InFlight = codes "InFlight"
fault_name fault.WindowFull = codes "WindowFull"
fault_name fault.Failed = codes "Failed"
fault_name fault.NotTransactional = codes "NotTransactional"
fault_name fault.UsedUp = codes "UsedUp"
fault_name fault.MustAbort = codes "MustAbort"
fault_name fault.TooLarge = codes "TooLarge"
fault_name fault.Memory = codes "Memory"

-- a command that is refused
abbrev pub declined_text : ClientFault → List ℕ
declined_text fault = codes "refused " ++ fault_name fault ++ newline

-- the answer to the drop of a member
abbrev pub code_text : ErrorCode → List ℕ
code_text code = codes "code " ++ code_word code ++ newline

-- what a step prints, by its note and the text of what it hands out
abbrev pub step_text : Note → List ℕ → List ℕ
step_text note.Done messages = messages
step_text (note.Refused fault) messages = declined_text fault
step_text (note.Put answer) messages = answer_text answer
step_text (note.Code code) messages = code_text code
step_text (note.Closed closing) messages = messages
step_text note.UsedUp messages = messages

------ what is read of nodes

-- the code, and a group's committed offset
abbrev pub group_text : ErrorCode → ℤ → List ℕ
group_text code offset = code_word code ++ codes " " ++ signed_decimal offset ++ newline

abbrev pub state_number : State → ℕ
state_number Empty = 0
state_number Ongoing = 1
state_number (Prepare Commit) = 2
state_number (Prepare Abort) = 3
state_number (Complete Commit) = 4
state_number (Complete Abort) = 5

-- each behind a comma
abbrev pub more_partitions : List ℕ → List ℕ
more_partitions partitions = flat_map (λ p. codes "," ++ partition_text p) partitions

-- partitions parted by commas
abbrev pub partitions_text : List ℕ → List ℕ
partitions_text [] = codes "-"
partitions_text (p ∷ partitions) = partition_text p ++ more_partitions partitions

abbrev pub row_line : Row → List ℕ
row_line r =
    r.txn ++ codes " " ++ decimal r.id ++ codes " " ++ decimal r.epoch ++ codes " "
    ++ decimal (state_number r.state) ++ codes " " ++ partitions_text r.partitions ++ newline

abbrev pub rows_text : List Row → List ℕ
rows_text [] = dash_text
rows_text (r ∷ rows) = flat_map row_line (r ∷ rows)
