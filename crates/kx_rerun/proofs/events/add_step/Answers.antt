use Rattle.std.proofs.Common.{◌∙◌, ◌++◌, List, ap}
use Rattle.std.proofs.lemmas.Result.{on_ok_weaker}
use Rattle.kx_message.specs.declared.message.Message.{Message}
use Rattle.kx_rerun.proofs.Turning.{is_step}
use Rattle.kx_rerun.proofs.events.add_step.Goals as goal

pub returns : goal.returns
returns g c =
    on_ok_weaker c.add_all.result (λ sent j x at told turn. record {
      event = c.in_ok-event_of.field-0;
      is = is_step g.F.Process.image_of c.args.run.now.traces c.args.turn x turn
          c.in-Some-Some.trace.now c.in-Some-Some.ensures.some c.args.sent.now c.node.result
          c.in-Some-Some.step.now c.in-Some-Some-2.store c.in_ok-event_of.field-0
          c.node.ensures c.in-Some-Some.ensures' c.in-Some-Some-2.ensures
          c.in_ok-event_of.ensures;
      events_are = c.in_ok-push.ensures.items;
      sent = sent ∙ ap (λ (ms : List Message). c.args.sent.now ++ ms)
          (c.as_slice.ensures ∙ ap (λ t. t.messages) (c.in-Some-Some-2.ensures' j x at told));
    }) c.add_all.ensures
