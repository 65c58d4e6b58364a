use Rattle.std.proofs.Common.{◌≡◌, ◌∙◌, ◌++◌, ◌∷◌, [], ℕ, List, ap, arith, length, map, take}
use Rattle.std.proofs.Math.Seq.{take-length}
use Rattle.kx_trace_audit.specs.Readings.{Reading, begun}
use Rattle.kx_trace_audit.proofs.Mapped.{one_more}
use Rattle.kx_trace_audit.proofs.audit.readings.Goals as goal

pub loop-one-preserved : goal.loop-one-preserved
loop-one-preserved c =
    let of = c.args.of.now in
    let i = c.loop-one.one-index in
    record {
      traces = c.in_ok-push.ensures.items
          ∙ ap (λ (rs : List Reading). rs ++ c.new.result ∷ []) c.loop-one.invariant.traces
          ∙ ap (λ (r : Reading). map begun (take i of) ++ r ∷ [])
          (c.new.ensures ∙ ap begun c.one-item.is)
          ∙ one_more begun of i c.one-item.result (omega arith);
    }

pub returns : goal.returns
returns c =
    let of = c.args.of.now in
    let all : c.loop-one.one-index ≡ length of =
    omega (arith, c.loop-one-test.false, c.loop-one.auto.one-index-end) in
    c.loop-one.invariant.traces ∙ ap (λ (i : ℕ). map begun (take i of)) all
    ∙ ap (map begun) (take-length of)
