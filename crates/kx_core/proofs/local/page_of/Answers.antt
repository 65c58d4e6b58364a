use Rattle.std.specs.Int.{w64}
use Rattle.std.proofs.lemmas.Int.{to_z-of_z}
use Rattle.kx_core.proofs.Showing.{answers, log_at_server, shows}
use Rattle.kx_core.proofs.local.page_of.Goals as goal

pub returns-clause-answer : goal.returns-clause-answer
returns-clause-answer c = λ w number at.
    answers w number c.args.max c.args.from c.args.committed c.partition.result.now.batches
    c.fetch.result
    (log_at_server w number at c.partition.result.now.batches c.partition.ensures.log)
    (rw (to_z-of_z w64 c.args.from c.ranges.from) at c.fetch.ensures.answer)

pub returns-clause-visible : goal.returns-clause-visible
returns-clause-visible c = λ w number keeps at yes.
    shows w number c.args.max c.args.from c.args.committed c.partition.result.now.batches
    c.fetch.result keeps
    (log_at_server w number at c.partition.result.now.batches c.partition.ensures.log) yes
    (rw (to_z-of_z w64 c.args.from c.ranges.from) at c.fetch.ensures.answer)
