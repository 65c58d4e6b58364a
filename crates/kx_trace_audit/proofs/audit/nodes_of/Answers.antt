use Rattle.std.proofs.Common.{◌≡◌, ◌+◌, ◌++◌, ◌∷◌, ◌∙◌, [], ℕ, List, ap, arith, length, refl, rules, subst, sym, take}
use Rattle.std.proofs.Math.Seq.{take-length}
use Rattle.std.proofs.lemmas.List.{take_more}
use Rattle.std.proofs.lemmas.Option.{slice_get_read}
use Rattle.kx_follow.specs.Following.{Followed}
use Rattle.kx_trace_audit.specs.Beginnings.{AreNodesOf, StandsAsBegun}
use Rattle.kx_trace_audit.specs.declared.servers.TraceOf.{TraceOf}
use Rattle.kx_trace_audit.proofs.Records.{refused_so}
use Rattle.kx_trace_audit.proofs.Traces.{no_nodes, not_begun, one_node_more}
use Rattle.kx_trace_audit.proofs.audit.nodes_of.Goals as goal

pub loop-one-init : goal.loop-one-init
loop-one-init g c = record {
  nodes = (
    [],
    no_nodes g.B.Tells.making g.B.Machine.Machine.stands c.new-nodes.result.items (search rules),
  );
}

pub loop-one-preserved : goal.loop-one-preserved
loop-one-preserved g c =
    let making = g.B.Tells.making in
    let stands = g.B.Machine.Machine.stands in
    let of = c.args.of.now in
    let i = c.loop-one.one-index in
    let t = c.one-item.result in
    let node = c.new-node.result in
    let before = c.loop-one.invariant.nodes in
    let own = subst (λ m. StandsAsBegun stands t m) (sym c.new-node.ensures.machine)
    c.in_ok-machine.ensures in
    let starts = before.0 ++ own.start ∷ [] in
    record {
      nodes = (
        starts,
        subst (λ (ns : List (Followed _ _)). AreNodesOf making stands (take (i + 1) of) starts ns)
            (sym c.in_default.ensures.items)
            (subst (λ (ts : List TraceOf). AreNodesOf making stands ts starts
            (c.loop-one.nodes.items ++ node ∷ []))
            (ap (λ (x : TraceOf). take i of ++ x ∷ []) c.one-item.is
            ∙ sym (take_more of i t (omega arith)))
            (one_node_more making stands (take i of) before.0 c.loop-one.nodes.items t own.start
            node before.1 (record {
              making_is = ap making c.new-node.ensures.made ∙ c.of.ensures;
              begins = own.begins;
              stands_so = own.stands_so;
            }))),
      );
    }

pub returns : goal.returns
returns g c =
    let making = g.B.Tells.making in
    let stands = g.B.Machine.Machine.stands in
    let of = c.args.of.now in
    let all : c.loop-one.one-index ≡ length of =
    omega (arith, c.loop-one-test.false, c.loop-one.auto.one-index-end) in
    let nodes = c.loop-one.invariant.nodes in (
      nodes.0,
      subst (λ (ts : List TraceOf). AreNodesOf making stands ts nodes.0 c.loop-one.nodes.items)
          (ap (λ (i : ℕ). take i of) all ∙ take-length of) nodes.1,
    )

pub returns-in_err-machine : goal.returns-in_err-machine
returns-in_err-machine g c =
    let of = c.args.of.now in
    let i = c.loop-one.one-index in
    let t = c.one-item.result in
    let why = c.in_err-machine.field-0.0 in
    refused_so c.from_residual.result why c.from_residual.ensures.1 _ _
    (not_begun of i t why (slice_get_read of (length of) i t refl c.loop-one-test.true c.one-item.is)
    c.in_err-machine.ensures)
