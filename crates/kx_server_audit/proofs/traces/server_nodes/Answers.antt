use Rattle.std.proofs.Common.{◌≡◌, ◌∙◌, ◌∷◌, ◌++◌, ℕ, List, [], Result, ap, arith, map, subst, sym}
use Rattle.std.proofs.lemmas.List.FromFn.{map-range_with_len_more}
use Rattle.std.specs.List.{range_with_len}
use Rattle.std.specs.Result.{OkIff}
use Rattle.kx_message.specs.Ranges.{IsPartition, data_partitions, offsets_partition}
use Rattle.kx_message.specs.declared.fault.ValueFault.{ValueFault}
use Rattle.kx_trace.specs.declared.node.TracedNode.{TracedNode}
use Rattle.kx_trace.specs.declared.node.TracedNode.TheVariants.{Coordinator, Partition}
use Rattle.kx_server_audit.proofs.traces.server_nodes.Goals as goal

pub loop-number-preserved : goal.loop-number-preserved
loop-number-preserved c =
    let n = c.loop-number.number in
    let more = map-range_with_len_more (λ (x : ℕ). Partition x) 0 n n (omega arith) in
    let made = subst (λ (r : Result ℕ ValueFault). OkIff r (IsPartition n) n)
    c.unwrap-partition.ensures c.try_from.ensures.0 in
    c.in_ok-push-2.ensures.items
    ∙ ap (λ (x : ℕ). c.loop-number.nodes.items ++ Partition x ∷ []) made.1
    ∙ ap (λ (l : List TracedNode). l ++ Partition n ∷ []) c.loop-number.invariant
    ∙ ap (λ (l : List TracedNode). Coordinator ∷ l) (sym more)

pub returns : goal.returns
returns c =
    let all : c.loop-number.number ≡ data_partitions =
    omega (arith, c.loop-number-test.false, c.loop-number.auto.number-end) in
    c.in_ok-push-3.ensures.items
    ∙ ap (λ (l : List TracedNode). l ++ Partition offsets_partition ∷ []) (c.loop-number.invariant
    ∙ ap (λ (n : ℕ). Coordinator ∷ map Partition (range_with_len 0 n)) all)
