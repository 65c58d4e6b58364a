-- What is printed of a put, of a refusal, and of a page that was fetched.
use Rattle.std.specs.Prelude.{ℕ, ℤ, pos, ◌+ℤ◌, List, [], ◌++◌, ◌∷◌, Option, None, Some, flat_map}
use Rattle.std.specs.Prelude.{codes, decimal, int_lt, if◌then◌else◌}
use Rattle.std.specs.Fmt.{signed_decimal}
use Rattle.kx_message.specs.declared.code.ErrorCode.{ErrorCode}
use Rattle.kx_message.specs.declared.code.ErrorCode.TheVariants.{InvalidTxnState}
use Rattle.kx_message.specs.Codes.{number_of}
use Rattle.kx_batch.specs.Record.{Record}
use Rattle.kx_batch.specs.Batch.{Batch, is_control}
use Rattle.kx_model.specs.Page.{Page}
use Rattle.kx_model.specs.Reading.{Shown, committed_records}
use Rattle.kx_partition.specs.declared.answer.Produced.{Produced}
use Rattle.kx_partition.specs.declared.answer.Produced.TheVariants as answer
use Rattle.kx_text.specs.declared.mode.Mode.{Mode}
use Rattle.kx_text.specs.declared.mode.Mode.TheVariants.{All, Committed}

abbrev pub newline : List ℕ
newline = 10 ∷ []

abbrev pub refused_text : ErrorCode → List ℕ
refused_text code = codes "refused " ++ decimal (number_of code) ++ newline

abbrev pub offset_text : ℤ → List ℕ
offset_text offset = codes "offset " ++ signed_decimal offset ++ newline

-- the answer to a put
abbrev pub answer_text : Produced → List ℕ
answer_text (answer.Appended offset) = offset_text offset
answer_text (answer.Duplicate offset) = offset_text offset
answer_text answer.Unverified = refused_text InvalidTxnState
answer_text (answer.Refused code) = refused_text code

-- the answer to a put for which memory was refused
abbrev pub lost_text : List ℕ
lost_text = codes "lost" ++ newline

abbrev pub value_text : Option (List ℕ) → List ℕ
value_text None = []
value_text (Some value) = value

-- the value of a record, and its offset
abbrev pub value_line : ℤ → Option (List ℕ) → List ℕ
value_line offset value = signed_decimal offset ++ codes " " ++ value_text value ++ newline

-- a record at this offset, if that is at or above `from`
abbrev pub record_text : ℤ → ℤ → Record → List ℕ
record_text from offset r = if int_lt offset from then [] else value_line offset r.value

-- the records of a batch; those of a control batch are shown to nobody
abbrev pub batch_lines : ℤ → Batch → List ℕ
batch_lines from batch =
    if is_control batch then []
    else flat_map (λ r. record_text from (batch.base_offset +ℤ r.offset_delta) r) batch.records

-- records with their offsets
abbrev pub shown_lines : List Shown → List ℕ
shown_lines records = flat_map (λ s. value_line s.offset s.shown.value) records

-- the records of a page that a fetch shows: all from an offset on, or the committed ones
abbrev pub page_lines : ℤ → Mode → Page → List ℕ
page_lines from All page = flat_map (λ stored. batch_lines from stored.batch) page.batches
page_lines from Committed page = shown_lines (committed_records page)

-- where a page ends, the last stable offset, and the end of the log
abbrev pub end_text : ℤ → ℤ → ℤ → List ℕ
end_text next stable end =
    codes "next " ++ signed_decimal next ++ codes " lso " ++ signed_decimal stable
    ++ codes " end " ++ signed_decimal end ++ newline

abbrev pub page_text : ℤ → Mode → Page → List ℕ
page_text from mode page =
    page_lines from mode page ++ end_text (pos page.next) (pos page.stable) (pos page.end)
