-- What is printed of a file that holds record batches one after the other, as a segment of a log
-- does (Kafka's message format, "Record Batch", "Record", "Control Records").
use Rattle.std.specs.Prelude.{◌≡◌, ◌⊎◌, ◌<◌, ◌/◌, ◌%◌, ℕ, ℤ, ◌+ℤ◌, Bool, true, false, Result, Ok, Err}
use Rattle.std.specs.Prelude.{List, [], ◌∷◌, ◌++◌, length, drop, flat_map, slice_index}
use Rattle.std.specs.Prelude.{Option, None, Some, codes, decimal}
use Rattle.std.specs.Fmt.{signed_decimal}
use Rattle.std.specs.Io.KnownBytes.{Appends}
use Rattle.kx_message.specs.declared.outcome.Outcome.{Outcome}
use Rattle.kx_message.specs.Codes.{outcome_text}
use Rattle.kx_batch.specs.Record.{Record}
use Rattle.kx_batch.specs.Batch.{Batch, Spelled, batch_at, is_control, is_transactional}
use Rattle.kx_batch.specs.Marker.{end_marker_of}
use Rattle.kx_batch.specs.declared.fault.BatchFault.{BatchFault}
use Rattle.kx_batch.specs.declared.fault.BatchFault.TheVariants as fault
use Rattle.kx_text.specs.Pages.{newline}
use Rattle.kx_text.specs.Writing.{IsBroken, ThenFlushed}
use Rattle.kx_text.specs.declared.dump.DumpFault.{DumpFault}
use Rattle.kx_text.specs.declared.dump.DumpFault.TheVariants as dump_fault

------ a line

-- the digit of a number below 16
abbrev pub digit_of : ℕ → ℕ
digit_of n = slice_index (codes "0123456789abcdef") n

-- each byte as two digits, the high four bits first
abbrev pub hex_of : List ℕ → List ℕ
hex_of bytes = flat_map (λ byte. digit_of (byte / 16) ∷ digit_of (byte % 16) ∷ []) bytes

-- a key or a value; an empty one would leave no word on the line
abbrev pub field_text : Option (List ℕ) → List ℕ
field_text None = codes "null"
field_text (Some []) = codes "-"
field_text (Some (byte ∷ bytes)) = hex_of (byte ∷ bytes)

-- a record of a batch with this base offset
abbrev pub record_line : ℤ → Record → List ℕ
record_line base r =
    codes "record " ++ signed_decimal (base +ℤ r.offset_delta) ++ codes " "
    ++ field_text r.key ++ codes " " ++ field_text r.value ++ newline

-- what a marker, the control bit and the transactional bit say, in this order
abbrev pub kind_by : Option (Outcome × ℤ) → Bool → Bool → List ℕ
kind_by (Some marker) control transactional = outcome_text marker.0
kind_by None true transactional = codes "control"
kind_by None false true = codes "txn"
kind_by None false false = codes "plain"

abbrev pub kind_of : Batch → List ℕ
kind_of batch = kind_by (end_marker_of batch) (is_control batch) (is_transactional batch)

-- who wrote a batch: the producer's id and epoch, and the batch's base sequence
abbrev pub producer_text : Batch → List ℕ
producer_text batch =
    signed_decimal batch.producer_id ++ codes " " ++ signed_decimal batch.producer_epoch
    ++ codes " " ++ signed_decimal batch.base_sequence

-- the line in front of a batch's records
abbrev pub batch_line : Batch → List ℕ
batch_line batch =
    codes "batch " ++ signed_decimal batch.base_offset ++ codes " "
    ++ decimal (length batch.records) ++ codes " " ++ producer_text batch
    ++ codes " " ++ kind_of batch ++ newline

abbrev pub fault_name : BatchFault → List ℕ
fault_name fault.Short = codes "Short"
fault_name fault.Magic = codes "Magic"
fault_name fault.Length = codes "Length"
fault_name fault.Crc = codes "Crc"
fault_name fault.Compressed = codes "Compressed"
fault_name fault.Records = codes "Records"
fault_name fault.TooLarge = codes "TooLarge"

-- no batch stands at this place
abbrev pub fault_line : ℕ → BatchFault → List ℕ
fault_line place fault =
    codes "fault " ++ decimal place ++ codes " " ++ fault_name fault ++ newline

------ a file

-- the bytes are these batches, one after the other, and then the rest
abbrev pub AreBatches : List Spelled → List ℕ → List ℕ → Type 0
AreBatches [] bytes rest = bytes ≡ rest
AreBatches (batch ∷ batches) bytes rest =
    (behind : List ℕ) × (batch_at bytes ≡ Ok (batch, behind)) × AreBatches batches behind rest

abbrev pub batch_text_of : Batch → List ℕ
batch_text_of batch = batch_line batch ++ flat_map (record_line batch.base_offset) batch.records

abbrev pub dump_text : List Spelled → List ℕ
dump_text batches = flat_map (λ b. batch_text_of b.batch) batches

-- the bytes are batches and nothing else, and their text was written
abbrev pub IsDumped : List ℕ → Option (List ℕ) → Option (List ℕ) → Type 0
IsDumped bytes old new =
    (batches : List Spelled) × AreBatches batches bytes [] × Appends old new (dump_text batches)

-- the bytes up to the place are batches, and behind it they are none, for this reason; the text of
-- those batches was written, and then the place and the reason
pub record IsDumpedUpTo (bytes : List ℕ) (place : ℕ) (fault : BatchFault)
    (old new : Option (List ℕ)) : Type 0 where
  pub batches : List Spelled
  pub within : place < length bytes
  pub are : AreBatches batches bytes (drop place bytes)
  pub none : batch_at (drop place bytes) ≡ Err fault
  pub written : Appends old new (dump_text batches ++ fault_line place fault)

-- the dump of some bytes is this text: what an empty writer holds after it, at the end of the bytes
-- or at the first place where no batch is
abbrev pub HasDump : List ℕ → List ℕ → Type 0
HasDump bytes text =
    IsDumped bytes (Some []) (Some text)
    ⊎ ((place : ℕ) × (fault : BatchFault) × IsDumpedUpTo bytes place fault (Some []) (Some text))

-- a front of the bytes' dump is written, and not all of it
abbrev pub IsDumpedInPart : List ℕ → Option (List ℕ) → Option (List ℕ) → Type 0
IsDumpedInPart bytes old new = (text : List ℕ) × HasDump bytes text × IsBroken text old new

-- what was written when a dump came to its end
abbrev pub Dumps : List ℕ → Option (List ℕ) → Option (List ℕ) → Result (Unit {0}) DumpFault
    → Type 0
Dumps bytes old new (Ok done) = IsDumped bytes old new
Dumps bytes old new (Err (dump_fault.Batch place fault)) = IsDumpedUpTo bytes place fault old new
Dumps bytes old new (Err dump_fault.Write) = IsDumpedInPart bytes old new
-- a dump asks for no memory
Dumps bytes old new (Err dump_fault.Memory) = ⊥

-- a dump, and a flush after it
abbrev pub DumpsFlushed : List ℕ → Option (List ℕ) → Option (List ℕ)
    → Result (Unit {0}) DumpFault → Type 0
DumpsFlushed bytes old new = ThenFlushed (Dumps bytes old new) dump_fault.Write
