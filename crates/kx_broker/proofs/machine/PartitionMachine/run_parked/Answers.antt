use Rattle.std.proofs.Common.{◌∙◌, ap, subst, sym}
use Rattle.kx_broker.specs.Serving.{IsServed, Serving}
use Rattle.kx_broker.proofs.Messages.{IsHeld, all_wait, resumed_all}
use Rattle.kx_broker.proofs.Served.{as_seen, serving}
use Rattle.kx_group.proofs.Answers.{on_any}
use Rattle.kx_log.specs.LogState.{LogState}
use Rattle.kx_message.specs.declared.code.ErrorCode.TheVariants.{NoError}
use Rattle.kx_model.specs.PartitionNode.{on_add_reply}
use Rattle.kx_broker.proofs.machine.PartitionMachine.run_parked.Goals as goal

pub returns-in_err-replies-clause-err : goal.returns-in_err-replies-clause-err
returns-in_err-replies-clause-err g c = λ number p is.
    let inside = c.self.inside in
    let old = serving inside.number inside.partition inside.guard in
    let stands : IsServed number p old =
    subst (λ (o : Serving). IsServed number p o) (sym c.self.view_is) is in
    let held = c.args.held.now in
    let all = all_wait number p old stands held c.parked-requests.result.now
    c.parked-requests.ensures.value in
    on_any c.from_residual-in_err-replies.result
    (ap (λ (l : LogState). serving inside.number l inside.guard)
    (c.in_err-replies.ensures.err number held all) ∙ c.self.view_is)

pub returns-clause-ok : goal.returns-clause-ok
returns-clause-ok g c = λ number p is.
    let inside = c.self.inside in
    let old = serving inside.number inside.partition inside.guard in
    let new = serving inside.number c.resume.new.partition c.reply-answered.new.self in
    let held = c.args.held.now in
    let requests = c.parked-requests.result.now in
    let known : IsHeld inside.partition = record {
      placed = c.end-end.ensures.log;
      grown = c.end-end.ensures.grown;
      holds = c.end-end.ensures.store;
    } in
    as_seen (IsServed number) p old c.args.self.now new
    (λ store. on_add_reply number p store held NoError) c.in_ok-replies.replies.items
    c.from_vec.result c.self.view_is c.from_vec.ensures
    (λ stands.
    let all = all_wait number p old stands held requests c.parked-requests.ensures.value in
    resumed_all number p old stands held c.reply-answered.new.self c.reply-answered.ensures.others
    requests c.resume.new.partition c.in_ok-replies.replies.items known
    c.parked-requests.ensures.value (c.in_ok-replies.ensures.ok number held all)) is
