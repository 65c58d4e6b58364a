use Rattle.std.proofs.Common.{◌≡◌, ◌∙◌, All, List, ap, sym, subst}
use Rattle.std.proofs.lemmas.Result.{err_from_is_err_and}
use Rattle.kx_audit.specs.Arrivals.{arrivals}
use Rattle.kx_audit.specs.Merged.{arrived_at}
use Rattle.kx_audit.specs.Refused.{HaveOrder, IsRefusedWith}
use Rattle.kx_audit.specs.Replayed.{traces_of, trails_of}
use Rattle.kx_audit.specs.Run.{IsFound}
use Rattle.kx_audit.specs.Schedule.{AllFit}
use Rattle.kx_audit.specs.declared.clients.Clients.{Clients}
use Rattle.kx_message.specs.declared.message.Message.{Message}
use Rattle.kx_nodes.specs.Replay.{Traced}
use Rattle.kx_outside.specs.Requests.{IsRequest}
use Rattle.kx_system.specs.System.{System}
use Rattle.kx_audit.proofs.Yes.{is_found, ran}
use Rattle.kx_audit.proofs.verdict.find.Goals as goal

pub check_origins-requires : goal.check_origins-requires
check_origins-requires g c = rw c.as_slice-2.ensures.value c.in_ok-nodes.ensures.replayed

pub returns-in_err-check_origins-clause-refused : goal.returns-in_err-check_origins-clause-refused
returns-in_err-check_origins-clause-refused g c =
    let making = g.B.Tells.making in
    let out = c.from_residual-in_err-check_origins in
    let p = err_from_is_err_and out.result out.ensures.1 in
    let refused = rw c.as_slice-2.ensures.value
    at c.in_err-check_origins.ensures.refused c.args.receipts.now in
    rw (p.1, p.2) (subst (λ (l : List (Traced _)).
    IsRefusedWith (arrivals c.args.clients (trails_of making l)) (trails_of making l)
    c.args.receipts.now c.in_err-check_origins.field-0.0) c.in_ok-nodes.ensures.traces_are refused)

pub returns-in_err-merge-clause-refused : goal.returns-in_err-merge-clause-refused
returns-in_err-merge-clause-refused g c =
    let making = g.B.Tells.making in
    let out = c.from_residual-in_err-merge in
    let p = err_from_is_err_and out.result out.ensures.1 in
    let refused = c.in_err-merge.ensures.refused c.args.receipts.now in
    rw (p.1, p.2) (subst (λ (l : List (Traced _)).
    IsRefusedWith (arrivals c.args.clients (trails_of making l)) (trails_of making l)
    c.args.receipts.now c.in_err-merge.field-0.0) c.in_ok-nodes.ensures.traces_are refused)

pub check_receipts-requires-clause-replayed : goal.check_receipts-requires-clause-replayed
check_receipts-requires-clause-replayed g c =
    rw (c.as_slice-3.ensures.value, c.into_parts-nodes.ensures.nodes)
    c.into_parts-nodes.ensures.merging.replayed

pub check_receipts-requires-clause-ordered : goal.check_receipts-requires-clause-ordered
check_receipts-requires-clause-ordered g c =
    let making = g.B.Tells.making in
    let traces : traces_of c.in_ok-merge.field-0.nodes ≡ traces_of c.in_ok-nodes.nodes.items =
    c.in_ok-merge.ensures.traces in
    rw (c.as_slice-3.ensures.value, c.into_parts-nodes.ensures.nodes)
    (subst (λ (l : List (Traced _)). HaveOrder (arrivals c.args.clients (trails_of making l))
    (trails_of making l)) (sym traces)
    c.in_ok-merge.ensures.ordered)

pub returns-in_err-check_receipts-clause-refused : goal.returns-in_err-check_receipts-clause-refused
returns-in_err-check_receipts-clause-refused g c =
    let making = g.B.Tells.making in
    let out = c.from_residual-in_err-check_receipts in
    let p = err_from_is_err_and out.result out.ensures.1 in
    let traces : traces_of c.in_ok-merge.field-0.nodes ≡ c.args.traces.items =
    c.in_ok-merge.ensures.traces ∙ c.in_ok-nodes.ensures.traces_are in
    let refused = rw (c.as_slice-3.ensures.value, c.into_parts-nodes.ensures.nodes)
    at c.in_err-check_receipts.ensures.refused in
    rw (p.1, p.2) (subst (λ (l : List (Traced _)).
    IsRefusedWith (arrivals c.args.clients (trails_of making l)) (trails_of making l)
    c.args.receipts.now c.in_err-check_receipts.field-0.0) traces refused)

pub of-requires : goal.of-requires
of-requires g c =
    rw (c.into_parts-nodes.ensures.nodes, c.into_parts-nodes.ensures.turns)
    c.into_parts-nodes.ensures.merging.turns_there

pub returns-clause-run : goal.returns-clause-run
returns-clause-run g c =
    let making = g.B.Tells.making in
    let m = c.in_ok-merge.field-0 in
    let parts = c.into_parts-nodes.ensures in
    let traces : traces_of m.nodes ≡ c.as_slice.result.now =
    c.in_ok-merge.ensures.traces ∙ c.in_ok-nodes.ensures.traces_are
    ∙ sym c.as_slice.ensures.value in
    let fit = subst (λ (l : List (Traced _)). AllFit (trails_of making l)) (sym traces)
    c.traces_fit.ensures in
    let named = rw (c.as_slice-3.ensures.value, parts.nodes)
    at c.in_ok-check_receipts.ensures.named in
    let count = rw (c.as_slice-3.ensures.value, parts.nodes)
    at c.in_ok-check_receipts.ensures.count in
    let stands = g.B.Machine.Machine.stands in
    let found = is_found making stands m c.args.receipts.now parts.merging
    c.in_ok-merge.ensures.done fit named count c.in_ok-check_receipts.ensures.distinct in
    let all : traces_of m.nodes ≡ c.args.traces.items =
    c.in_ok-merge.ensures.traces ∙ c.in_ok-nodes.ensures.traces_are in
    let arrived : arrived_at making m.clients m.nodes
    ≡ arrivals c.args.clients (trails_of making c.args.traces.items) =
    ap (λ (x : Clients). arrivals x (trails_of making (traces_of m.nodes)))
    c.in_ok-merge.ensures.clients
    ∙ ap (λ (l : List (Traced _)). arrivals c.args.clients (trails_of making l)) all in
    rw (c.of.ensures, parts.nodes, parts.turns)
    (subst (λ (ms : List Message). (s : System)
    × IsFound ms making stands (ran making stands m c.args.receipts.now parts.merging
    c.in_ok-merge.ensures.done) c.args.receipts.now s) arrived found)

pub returns-clause-fit : goal.returns-clause-fit
returns-clause-fit g c =
    let making = g.B.Tells.making in
    subst (λ (l : List (Traced _)). All IsRequest (arrivals c.args.clients (trails_of making l)))
    c.in_ok-nodes.ensures.traces_are c.in_ok-merge.ensures.fit
