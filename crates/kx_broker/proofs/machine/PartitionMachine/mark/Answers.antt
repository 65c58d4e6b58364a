use Rattle.std.proofs.Common.{◌≡◌, ◌∙◌, ◌∷◌, [], ap, subst, rules}
use Rattle.std.specs.Int.{w32}
use Rattle.std.specs.Int.RustNames.{FitsSigned}
use Rattle.std.proofs.lemmas.Int.{to_z-of_z}
use Rattle.kx_broker.specs.Serving.{IsServed}
use Rattle.kx_broker.proofs.Messages.{IsHeld, marked_as}
use Rattle.kx_broker.proofs.Served.{as_seen, serving}
use Rattle.kx_message.specs.Messages as the
use Rattle.kx_model.specs.Log.{MarkerFits}
use Rattle.kx_model.specs.PartitionNode.{marker_of, on_marker}
use Rattle.kx_partition.specs.Answer.{IsMarked}
use Rattle.kx_broker.proofs.machine.PartitionMachine.mark.Goals as goal

pub returns-clause-ok : goal.returns-clause-ok
returns-clause-ok g c = λ number p is.
    let inside = c.self.inside in
    let it = c.args.it.now in
    let m = marker_of it.held it.coordinator_epoch it.outcome in
    let fits : MarkerFits m = search rules in
    let epoch : FitsSigned w32 it.coordinator_epoch = search rules in
    let answer = subst (λ z. IsMarked (marker_of it.held z it.outcome) inside.partition
    c.marker.new.self c.in_ok-code.code) (to_z-of_z w32 it.coordinator_epoch epoch)
    c.in_ok-code.ensures.answer in
    let old = serving inside.number inside.partition inside.guard in
    let new = serving inside.number c.marker.new.self inside.guard in
    let known : IsHeld inside.partition = record {
      placed = c.end-end.ensures.log;
      grown = c.end-end.ensures.grown;
      holds = c.end-end.ensures.store;
    } in
    let own : inside.number ≡ number =
    ap (λ s. s.number) c.self.view_is ∙ is.number_is in
    as_seen (IsServed number) p old c.args.self.now new
    (λ store. on_marker number p store it.txn it.held m)
    (the.MarkerReply number it.txn it.held c.in_ok-code.code ∷ []) c.one.result c.self.view_is
    (c.one.ensures
    ∙ ap (λ n. the.MarkerReply n it.txn it.held c.in_ok-code.code ∷ []) own)
    (λ stands. marked_as number p old stands known it.txn it.held m c.marker.new.self
    c.in_ok-code.code fits answer) is
