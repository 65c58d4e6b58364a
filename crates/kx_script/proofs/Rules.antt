-- All rules at once, for computing worked scripts: a word for `unfolding` lines, whose value says
-- nothing.
use Rattle.std.proofs.Common.{Bool, List, []}
use Rattle.std.specs.Fmt.{digits}
use Rattle.kx_varint.specs.BigEndian.{unsigned_text, signed_text}
use Rattle.kx_varint.specs.Varint.{groups_of, shortest_text}
use Rattle.kx_varint.specs.Text.{varint_at, many}
use Rattle.kx_message.specs.Prints as prints
use Rattle.kx_message.specs.Reader.{signed, taken}
use Rattle.kx_message.specs.Values.{name_with}
use Rattle.kx_batch.specs.Crc.{crc32c_of}
use Rattle.kx_batch.specs.Batch.{checked, batch_at, with_base}
use Rattle.kx_batch.specs.Build.{body_text, record_text, fields_text, whole_text}
use Rattle.kx_batch.specs.Field.{nullable_at}
use Rattle.kx_batch.specs.Record.{header_at, body_in, record_at, placed_at}
use Rattle.kx_batch.specs.Marker.{marker_in}
use Rattle.kx_model.specs.Client.{command}
use Rattle.kx_model.specs.Coordinator.{last_row, first_row, next_id, coordinator_epoch}
use Rattle.kx_model.specs.Log.{entry_in}
use Rattle.kx_model.specs.Producers.{epoch_of, batches_of}
use Rattle.kx_model.specs.Transactions.{unclosed_from}
use Rattle.kx_model.specs.Produce.{judge, judge_text, marked_by, judge_marker}
use Rattle.kx_model.specs.Replies.{take_reply}
use Rattle.kx_model.specs.Page.{aborted, page, fetched}
use Rattle.kx_model.specs.Reading.{read_from, visible}
use Rattle.kx_model.specs.Groups.{fact_of, members, generation, group_offset, marked_offset}
use Rattle.kx_model.specs.Groups.{is_pending}
use Rattle.kx_model.specs.World.{step}
use Rattle.kx_log.specs.Row.{row_from}
use Rattle.kx_system.specs.Processor.{processor_step, takes}
use Rattle.kx_system.specs.System.{system_step}
use Rattle.kx_text.specs.Words.{number_below, words_of}

unfoldable pub rules : List Bool
unfolding digits unsigned_text signed_text groups_of shortest_text varint_at many name_with
    crc32c_of checked batch_at with_base body_text record_text fields_text whole_text nullable_at
    header_at body_in record_at placed_at marker_in command take_reply last_row first_row next_id
    coordinator_epoch epoch_of batches_of unclosed_from judge judge_text marked_by judge_marker
    aborted page fetched read_from visible fact_of members generation group_offset marked_offset
    is_pending step entry_in prints.header_at signed taken number_below words_of row_from takes
    processor_step system_step
rules = []
