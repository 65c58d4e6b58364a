use Rattle.std.proofs.Common.{◌≡◌, ◌∙◌, List, ap, rules, subst}
use Rattle.std.specs.Prelude.{IsFalse, IsTrue}
use Rattle.kx_audit.specs.Arrivals.{arrivals}
use Rattle.kx_audit.specs.Merged.{Merged}
use Rattle.kx_audit.specs.Refused.{AreStuck, HaveOrder}
use Rattle.kx_audit.specs.Replayed.{traces_of, trails_of}
use Rattle.kx_audit.specs.declared.clients.Clients.{Clients}
use Rattle.kx_nodes.specs.Replay.{Traced}
use Rattle.kx_audit.proofs.Done.{have_order}
use Rattle.kx_audit.proofs.Stuck.{are_stuck}
use Rattle.kx_audit.proofs.verdict.merge.Goals as goal

pub start-requires-clause-arrived : goal.start-requires-clause-arrived
start-requires-clause-arrived g c =
    rw c.as_slice.ensures.value at c.in_ok-arrived.ensures.value

pub returns-clause-fit : goal.returns-clause-fit
returns-clause-fit g c = rw c.as_slice.ensures.value at c.in_ok-arrived.ensures.fit

pub returns-then-not-is_done-clause-refused : goal.returns-then-not-is_done-clause-refused
returns-then-not-is_done-clause-refused g c = λ _.
    let making = g.B.Tells.making in
    let m = c.in_ok-merged.merged in
    let traces : traces_of m.nodes ≡ traces_of c.args.nodes.items =
    c.in_ok-merged.ensures.traces
    ∙ ap (λ (n : Merged _ _). traces_of n.nodes) c.start.ensures in
    let clients : m.clients ≡ c.args.clients =
    c.in_ok-merged.ensures.clients ∙ ap (λ (n : Merged _ _). n.clients) c.start.ensures in
    let undone : IsFalse c.is_done.result = search rules in
    let stuck = are_stuck making g.B.Machine.Machine.stands m c.is_done.ensures.merging
    c.in_ok-merged.ensures.none (c.is_done.ensures.undone undone) in
    record {
      apart = c.requires.apart;
      origins = c.requires.origins;
      stuck = subst (λ (l : List (Traced _)). AreStuck
          (arrivals c.args.clients (trails_of making l)) (trails_of making l)) traces
          (subst (λ (x : Clients). AreStuck (arrivals x (trails_of making (traces_of m.nodes)))
          (trails_of making (traces_of m.nodes))) clients stuck);
    }

pub returns-clause-done : goal.returns-clause-done
returns-clause-done g c =
    let done : IsTrue c.is_done.result = search rules in c.is_done.ensures.done done

pub returns-clause-ordered : goal.returns-clause-ordered
returns-clause-ordered g c =
    let making = g.B.Tells.making in
    let m = c.in_ok-merged.merged in
    let traces : traces_of m.nodes ≡ traces_of c.args.nodes.items =
    c.in_ok-merged.ensures.traces
    ∙ ap (λ (n : Merged _ _). traces_of n.nodes) c.start.ensures in
    let clients : m.clients ≡ c.args.clients =
    c.in_ok-merged.ensures.clients ∙ ap (λ (n : Merged _ _). n.clients) c.start.ensures in
    let done : IsTrue c.is_done.result = search rules in
    subst (λ (l : List (Traced _)). HaveOrder (arrivals c.args.clients (trails_of making l))
    (trails_of making l)) traces
    (subst (λ (x : Clients). HaveOrder (arrivals x (trails_of making (traces_of m.nodes)))
    (trails_of making (traces_of m.nodes))) clients
    (have_order making g.B.Machine.Machine.stands m c.is_done.ensures.merging
    (c.is_done.ensures.done done)))
