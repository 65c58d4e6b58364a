use Rattle.std.proofs.Common.{List, inl, refl, subst}
use Rattle.kx_message.specs.declared.message.Message.{Message}
use Rattle.kx_stream.specs.Sending.{Written}
use Rattle.kx_stream.proofs.serving.serve_one.Goals as goal

pub returns-in-Ok : goal.returns-in-Ok
returns-in-Ok g c =
    let old = g.W.Write.contents c.args.writer.now in
    let new = g.W.Write.contents c.send_all-written.new.writer in
    record {
      handed = c.in-Ok.taken.messages;
      answers = inl (record { taken = c.in-Ok.taken; messages = refl; step = c.in-Ok.ensures });
      written = subst (λ (ms : List Message). Written ms old new c.send_all-written.result)
          c.as_slice.ensures c.send_all-written.ensures;
    }
