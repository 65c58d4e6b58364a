use Rattle.std.proofs.Common.{◌≡◌, ◌∙◌, ℕ, List, Option, Some, ap, length, refl, slice_get, subst, sym}
use Rattle.std.proofs.lemmas.Option.{same_Some, slice_get_read, slice_get_within}
use Rattle.kx_server_audit.specs.Internal.{NotedAt}
use Rattle.kx_server_audit.specs.Logs.{HasWhole}
use Rattle.kx_trace_audit.specs.declared.servers.TraceOf.{TraceOf}
use Rattle.kx_server_audit.proofs.folder.note_log.Goals as goal

pub returns-in-Some-2-clause-noted : goal.returns-in-Some-2-clause-noted
returns-in-Some-2-clause-noted c =
    let old = c.args.of.now.items in
    let k = c.in-Some.trace in
    let t = c.index_mut.result.now in
    let node = c.args.node.now in
    let found = c.in-Some.ensures in
    let first = subst (λ (l : List TraceOf). slice_get l k ≡ Some found.0) c.as_slice.ensures.value
    found.1 in
    let there = slice_get_read old (length old) k t refl (slice_get_within old k found.0 first)
    c.index_mut.ensures.value in
    let same : t ≡ found.0 = same_Some t found.0 (sym there ∙ first) in
    NotedAt k t c.in-Some-2.len there (ap (λ (x : TraceOf). x.node) same ∙ found.2)
    (subst (λ (o : Option ℕ). HasWhole node c.args.bytes.items o) c.in-Some-2.is c.in_ok-len.ensures)
    refl
