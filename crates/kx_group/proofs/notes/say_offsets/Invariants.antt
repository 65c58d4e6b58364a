use Rattle.std.proofs.Common.{◌≡◌, true}
use Rattle.std.specs.List.{AllByRecursion}
use Rattle.kx_model.specs.Groups.{fact_of}
use Rattle.kx_group.specs.Log.{is_offset}
use Rattle.kx_group.proofs.notes.say_offsets.Given as goal

abbrev pub invariant-loop-record : goal.invariant-loop-record
invariant-loop-record l =
    (AllByRecursion (λ r. is_offset (fact_of r) ≡ true) l.record-iterator
    → AllByRecursion (λ r. is_offset (fact_of r) ≡ true) l.fn.records)
    × (AllByRecursion (λ r. is_offset (fact_of r) ≡ true) l.fn.records
    → AllByRecursion (λ r. is_offset (fact_of r) ≡ true) l.record-iterator)
