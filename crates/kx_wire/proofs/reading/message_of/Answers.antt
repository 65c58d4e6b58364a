use Rattle.kx_wire.specs.Reading.{fields_at}
use Rattle.kx_wire.proofs.reading.message_of.Goals as goal

pub returns-in-5-clause-read : goal.returns-in-5-clause-read
unfolding fields_at
returns-in-5-clause-read c = rw c.in-5.is c.produce.ensures

pub returns-in-12-clause-read : goal.returns-in-12-clause-read
unfolding fields_at
returns-in-12-clause-read c = rw c.in-12.is c.fetch_reply.ensures

pub returns-in-17-clause-read : goal.returns-in-17-clause-read
unfolding fields_at
returns-in-17-clause-read c = rw c.in-17.is c.txn_offset_commit.ensures
