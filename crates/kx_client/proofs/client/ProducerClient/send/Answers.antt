use Rattle.std.proofs.Common.{rules, tests}
use Rattle.kx_client.proofs.Sending.{sent}
use Rattle.kx_client.proofs.client.ProducerClient.send.Goals as goal

pub returns : goal.returns
returns c =
    sent c.args.self.now c.args.partition c.args.values.now.first c.args.values.now.more
    c.in-Some.held c.count.result c.in-Some-numbers.numbers.next c.in_ok-batch.batch
    c.ask_with.new.self c.in_ok-ask_with.field-0 (search (rules, tests)) (search (rules, tests))
    (search (rules, tests)) (search (rules, tests)) (search (rules, tests)) (search (rules, tests))
    (search (rules, tests)) (search (rules, tests)) (search (rules, tests)) (search (rules, tests))
    (search (rules, tests)) (search (rules, tests))
