use Rattle.std.proofs.Common.{◌≡◌, ◌++◌, ◌∷◌, ◌∙◌, [], ℕ, ap, arith, length, refl, subst, sym, take}
use Rattle.std.proofs.Math.Seq.{take-length}
use Rattle.std.proofs.lemmas.List.{take_more}
use Rattle.std.proofs.lemmas.Option.{slice_get_read}
use Rattle.std.proofs.lemmas.Result.{err_from_is_err_and}
use Rattle.kx_server_audit.specs.Finding.{AreSeen}
use Rattle.kx_server_audit.specs.Internal.{AreBad, HasBadLog}
use Rattle.kx_server_audit.specs.declared.denial.Denial.TheVariants.{OtherLog}
use Rattle.kx_trace.specs.declared.node.TracedNode.{TracedNode}
use Rattle.kx_server_audit.proofs.Comparing.{if_no}
use Rattle.kx_server_audit.proofs.Finding.{bad_before, heads_stay, none_seen, seen_next}
use Rattle.kx_server_audit.proofs.folder.note_logs.Goals as goal

pub loop-node-init : goal.loop-node-init
loop-node-init g c = record {
  heads = refl;
  seen = none_seen (g.F.ServerFiles.left c.args.files.now) c.args.of.now.items;
}

pub loop-node-preserved : goal.loop-node-preserved
loop-node-preserved g c =
    let left = g.F.ServerFiles.left c.args.files.now in
    let nodes = c.args.nodes.now in
    let i = c.loop-node.node-index in
    let node = c.node-item.result in
    let bytes = c.in_ok-bytes.bytes.items in
    let old = c.loop-node.of.items in
    let new = c.note_log.new.of.items in
    let noted = c.in_ok-note_log.ensures.noted in
    record {
      heads = heads_stay node bytes old new noted ∙ c.loop-node.invariant.heads;
      seen = subst (AreSeen left new)
          (ap (λ (x : TracedNode). take i nodes ++ x ∷ []) c.node-item.is
          ∙ sym (take_more nodes i node (omega (arith, c.loop-node-test.true))))
          (seen_next left node bytes c.in_ok-bytes.ensures old (take i nodes) new noted
          c.loop-node.invariant.seen);
    }

pub returns-clause-seen : goal.returns-clause-seen
returns-clause-seen g c =
    let left = g.F.ServerFiles.left c.args.files.now in
    let nodes = c.args.nodes.now in
    let all : c.loop-node.node-index ≡ length nodes =
    omega (arith, c.loop-node-test.false, c.loop-node.auto.node-index-end) in
    subst (AreSeen left c.loop-node.of.items)
    (ap (λ (i : ℕ). take i nodes) all ∙ take-length nodes) c.loop-node.invariant.seen

pub returns-in_err-note_log-clause-no : goal.returns-in_err-note_log-clause-no
returns-in_err-note_log-clause-no g c =
    let left = g.F.ServerFiles.left c.args.files.now in
    let nodes = c.args.nodes.now in
    let i = c.loop-node.node-index in
    let node = c.node-item.result in
    let bytes = c.in_ok-bytes.bytes.items in
    let of = c.args.of.now.items in
    let now = c.loop-node.of.items in
    let out = err_from_is_err_and c.from_residual-in_err-note_log.result
    c.from_residual-in_err-note_log.ensures.1 in
    rw (out.1, out.2) (if_no _ (λ d. (d ≡ OtherLog node) × AreBad now node bytes)
    (HasBadLog left nodes of) (λ d h. record {
      number = i;
      node = node;
      there = slice_get_read nodes (length nodes) i node refl c.loop-node-test.true c.node-item.is;
      denial_is = h.0;
      bytes = bytes;
      bytes_are = c.in_ok-bytes.ensures;
      bad = bad_before of now node bytes c.loop-node.invariant.heads h.1;
    }) c.in_err-note_log.ensures.no)
