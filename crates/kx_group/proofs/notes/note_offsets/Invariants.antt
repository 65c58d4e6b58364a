use Rattle.kx_group.proofs.Noting.{IsNoting}
use Rattle.kx_group.proofs.notes.note_offsets.Given as goal

abbrev pub invariant-loop-record : goal.invariant-loop-record
invariant-loop-record l =
    IsNoting l.fn.records l.record-iterator l.id l.at l.initial.commits l.commits
