use Rattle.std.proofs.Common.{◌++◌}
use Rattle.std.specs.Prelude.{codes}
use Rattle.std.proofs.lemmas.Result.{IfOk-weaker}
use Rattle.kx_notices.proofs.Joined.{joined}
use Rattle.kx_notices.specs.Texts.{counted, topic_text}
use Rattle.kx_notices.proofs.line.put_made.Goals as goal

pub returns : goal.returns
returns c =
    let old = c.args.out.now.items in
    let topic = topic_text c.args.topic.now in
    let count = counted c.args.partitions (codes " partition") (codes " partitions") in
    let e0 = joined old (topic) (codes " made, ") _ _ c.in_ok-put_topic.ensures (c.in_ok-put.ensures) in
    IfOk-weaker c.put_count.result _ _
    (λ u e. joined old (topic ++ codes " made, ") (count) _ _ e0 (e)) c.put_count.ensures
