use Rattle.std.proofs.Common.{◌≡◌, ◌∙◌, ℕ, Some, ap, subst, sym, arith, refl, length}
use Rattle.std.specs.Prelude.{slice_get}
use Rattle.std.proofs.lemmas.Option.{slice_get_read}
use Rattle.kx_core.specs.World.{StandFor, given}
use Rattle.kx_core.proofs.Standing.{by_no_partition, by_server, false_true, matched, past_if}
use Rattle.kx_core.proofs.Standing.{serves_still, there_too}
use Rattle.kx_machine.specs.Meaning.{AtPartition}
use Rattle.kx_machine.specs.declared.taken.Taken.{Taken}
use Rattle.kx_core.proofs.nodes.Nodes.hand_partition.Goals as goal

pub returns-in_default-clause-stand : goal.returns-in_default-clause-stand
returns-in_default-clause-stand g c = λ w h.
    by_no_partition g.C.Machine.stands g.P.Machine.stands g.O.Machine.stands _ w c.args.number
    c.args.mode (given c.args.handed) c.nothing.result
    (subst (λ nodes. StandFor g.C.Machine.stands g.P.Machine.stands g.O.Machine.stands nodes w)
    (sym c.self.view_is) h) c.requires
    (past_if c.self.inside.partitions.items c.from.result c.args.number
    (λ lt. false_true (c.in_default.ensures.variant.1
    (omega (arith, lt, c.self.inside.partitions.ok.0)))) (c.from.ensures ∙ c.get.ensures.value))
    (ap (λ (t : Taken). t.messages) c.nothing.ensures)
    (ap (λ (t : Taken). t.note) c.nothing.ensures)
    (ap (λ (t : Taken). t.failed) c.nothing.ensures)

pub returns-clause-stand : goal.returns-clause-stand
returns-clause-stand g c = λ w h.
    let servers = c.self.inside.partitions.items in
    let server = c.in-Some.server.now in
    let number = c.args.number in
    let same = c.from.ensures ∙ c.get.ensures.value in
    let stand = subst (λ nodes.
    StandFor g.C.Machine.stands g.P.Machine.stands g.O.Machine.stands nodes w)
    (sym c.self.view_is) h in
    let at = subst (λ (k : ℕ). slice_get servers k ≡ Some server) same
    (slice_get_read servers (length servers) c.from.result server refl
    (omega (arith, c.in-Some.ensures.variant.0 refl, c.self.inside.partitions.ok.0))
    c.in-Some.ensures.value) in
    let there = there_too w.partitions servers number server stand.count at in
    matched c.hand.result (c.hand.ensures (AtPartition number there.0)
    (stand.partitions number there.0 server there.1 at))
    (λ taken t. by_server g.C.Machine.stands g.P.Machine.stands g.O.Machine.stands _ w number
    c.from.result c.args.mode (given c.args.handed) there.0 c.hand.new.machine taken stand
    c.requires same there.1 t)
    (λ refused t. serves_still g.C.Machine.stands g.P.Machine.stands g.O.Machine.stands _ w number
    c.from.result there.0 c.hand.new.machine stand same there.1 t)
