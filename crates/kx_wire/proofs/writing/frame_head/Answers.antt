use Rattle.kx_wire.proofs.FrameLaws.{frame_again}
use Rattle.kx_wire.proofs.writing.frame_head.Goals as goal

pub returns-clause-reads : goal.returns-clause-reads
returns-clause-reads c = λ rest.
    frame_again c.args.message.now rest
    (record { ranges = c.in_ok-put_fields.ensures.within; fits = c.requires })
