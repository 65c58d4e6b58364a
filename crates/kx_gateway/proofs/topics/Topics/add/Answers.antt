use Rattle.std.proofs.Common.{◌≡◌, ◌∙◌, ap, None, List, sym, subst}
use Rattle.kx_gateway.specs.Topics.{Entry, IsTable, add_fault}
use Rattle.kx_gateway.proofs.Tables.{table_push}
use Rattle.kx_gateway.proofs.topics.Topics.add.Goals as goal

pub invariant_of-self-2 : goal.invariant_of-self-2
invariant_of-self-2 c =
    let free : add_fault c.args.self.now c.args.name.now c.args.count ≡ None =
    sym c.fault_of.ensures ∙ c.in_default.is in
    subst IsTable (sym c.in_ok-push_topic.ensures.pushed)
    (table_push c.self.inside.topics.items
    (record { name = c.args.name.now; count = c.args.count }) c.self.invariant
    (ap (λ (t : List Entry). add_fault t c.args.name.now c.args.count) c.self.view_is ∙ free))
