use Rattle.std.proofs.Common.{◌≡◌, ◌+◌, ◌++◌, ◌∷◌, ◌∙◌, ℕ, All, List, [], ap, arith, suc, sym}
use Rattle.std.proofs.Common.{length, subst, take}
use Rattle.std.proofs.Math.Seq.{take-suc}
use Rattle.std.proofs.lemmas.List.{take_all}
use Rattle.std.proofs.lemmas.List.Elements.{All-append}
use Rattle.kx_audit.specs.Arrivals.{arrivals, requests_in}
use Rattle.kx_audit.specs.Merged.{arrived_at}
use Rattle.kx_audit.specs.Replayed.{Progress, traces_of, trails_of}
use Rattle.kx_audit.specs.declared.clients.Clients.{Clients}
use Rattle.kx_audit.proofs.Requests.{requests_are, requests_at, requests_push}
use Rattle.kx_message.specs.declared.message.Message.{Message}
use Rattle.kx_nodes.specs.declared.trace.Step.{Step}
use Rattle.kx_outside.specs.Requests.{IsRequest}
use Rattle.kx_audit.proofs.arrivals.arrived.Goals as goal

pub loop-node-preserved : goal.loop-node-preserved
loop-node-preserved g c =
    let nodes = c.args.nodes.now in
    let i = c.loop-node.node-index in
    let p = c.node-item.result in
    let own = c.in_ok-add_requests-in-Outside.ensures in
    let one : i + 1 ≡ suc i = omega arith in
    let next : take (i + 1) nodes ≡ take i nodes ++ p ∷ [] =
    ap (λ (n : ℕ). take n nodes) one ∙ take-suc nodes i p (omega (arith, c.loop-node-test.true))
    ∙ ap (λ (q : Progress _ _). take i nodes ++ q ∷ []) (sym c.node-item.is) in
    let all : requests_at (take (i + 1) nodes)
    ≡ requests_at (take i nodes) ++ requests_in p.trace.steps =
    ap (λ (l : List (Progress _ _)). requests_at l) next ∙ requests_push (take i nodes) p in
    record {
      value = own.value
          ∙ ap (λ (s : List Step). c.loop-node.all ++ requests_in s) c.steps.ensures
          ∙ ap (λ (ms : List Message). ms ++ requests_in p.trace.steps)
          c.loop-node.invariant.value ∙ sym all;
      fit = subst (All IsRequest) (sym all)
          (All-append IsRequest (requests_at (take i nodes)) (requests_in p.trace.steps)
          c.loop-node.invariant.fit
          (subst (λ (s : List Step). All IsRequest (requests_in s)) c.steps.ensures own.fit));
    }

pub returns-after-loop-node-clause-value : goal.returns-after-loop-node-clause-value
returns-after-loop-node-clause-value g c =
    let making = g.B.Tells.making in
    let nodes = c.args.nodes.now in
    c.loop-node.invariant.value
    ∙ ap (λ (l : List (Progress _ _)). requests_at l)
    (take_all c.loop-node.node-index nodes (omega (arith, c.loop-node-test.false)))
    ∙ requests_are making nodes
    ∙ ap (λ (x : Clients). arrivals x (trails_of making (traces_of nodes))) (sym c.in-Outside.is)

pub returns-after-loop-node-clause-fit : goal.returns-after-loop-node-clause-fit
returns-after-loop-node-clause-fit g c =
    let making = g.B.Tells.making in
    let nodes = c.args.nodes.now in
    let all : requests_at (take c.loop-node.node-index nodes)
    ≡ arrived_at making c.args.clients nodes =
    ap (λ (l : List (Progress _ _)). requests_at l)
    (take_all c.loop-node.node-index nodes (omega (arith, c.loop-node-test.false)))
    ∙ requests_are making nodes
    ∙ ap (λ (x : Clients). arrivals x (trails_of making (traces_of nodes)))
    (sym c.in-Outside.is) in
    subst (All IsRequest) all c.loop-node.invariant.fit
