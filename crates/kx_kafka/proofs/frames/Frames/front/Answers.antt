use Rattle.std.proofs.Common.{◌≡◌, rules}
use Rattle.kx_kafka.specs.Frames.{frame_at, Whole}
use Rattle.kx_kafka.proofs.frames.Frames.front.Goals as goal

pub returns-in-Some : goal.returns-in-Some
returns-in-Some c =
    let e : frame_at c.args.self.now ≡ Whole c.in-Some.text.now c.in-Some.field-0-1.now =
    search rules in
    (c.in-Some.field-0-1.now, e)
