use Rattle.std.specs.Prelude.{nat_lt}
use Rattle.kx_broker.proofs.OffsetsTaking.{delivered_any}
use Rattle.kx_broker.proofs.offsets.OffsetsMachine.deliver.Goals as goal

pub returns-clause-taken : goal.returns-clause-taken
returns-clause-taken g c =
    delivered_any c.args.self.now c.serve.new.self c.args.message.now c.in_ok-messages.messages
    (nat_lt c.failures-before.result c.failures.result) c.in_ok-messages.ensures.ok
    (λ i. nat_lt (c.failures-before.ensures i) (c.failures.ensures i))
