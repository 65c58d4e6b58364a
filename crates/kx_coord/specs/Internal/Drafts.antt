-- Entries that are decided, in the words of the definitions.
use Rattle.std.specs.Prelude.{ℕ, List}
use Rattle.kx_model.specs.Coordinator as model
use Rattle.kx_model.specs.Coordinator.{TxnEntry, with_one}
use Rattle.kx_txnlog.specs.Entry.{row_of}
use Rattle.kx_coord.specs.declared.draft.Draft.{Draft}
use Rattle.kx_coord.specs.declared.draft.Draft.TheVariants as draft
use Rattle.kx_coord.specs.declared.draft.Listed.{Listed}
use Rattle.kx_coord.specs.declared.draft.Listed.TheVariants as listed
use Rattle.kx_coord.specs.declared.draft.RowDraft.{RowDraft}

-- the partitions that a row lists, which has these
abbrev pub listed_by : List ℕ → Listed → List ℕ
listed_by own listed.Own = own
listed_by own (listed.Before partitions) = partitions.now
listed_by own (listed.With partitions partition) = with_one partition partitions.now

abbrev pub drafted : RowDraft → model.Row
drafted d = record (row_of d.row) { partitions = listed_by d.row.partitions d.listed }

-- what the entry notes
abbrev pub note_drafted : Draft → TxnEntry
note_drafted (draft.Allot id) = model.Allot id
note_drafted (draft.Row row) = model.Written (drafted row)
