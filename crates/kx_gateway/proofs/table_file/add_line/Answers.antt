use Rattle.std.proofs.Common.{◌≡◌, ◌+◌, length, arith, subst, sym}
use Rattle.kx_gateway.specs.declared.table_file.TopicsFault.{TopicsFault}
use Rattle.kx_gateway.specs.TableFile.{Refuses}
use Rattle.kx_gateway.proofs.Lines.{refuses, unread}
use Rattle.kx_gateway.proofs.table_file.add_line.Goals as goal

pub returns-in_default : goal.returns-in_default
returns-in_default c = (
  c.count.ensures.table,
  omega (arith, c.count.ensures.counted),
  unread c.args.topics.now c.args.line.now c.count.ensures.table c.in_default.ensures,
)

pub returns-in-Err : goal.returns-in-Err
returns-in-Err c =
    let table = c.args.topics.now in
    let number = c.count.result + 1 in
    let counted : number ≡ length table + 1 = omega (arith, c.count.ensures.counted) in
    subst (λ (f : TopicsFault). Refuses table c.args.line.now f) (sym c.line_fault.ensures)
    (refuses table c.args.line.now c.in-Some.name.now c.in-Some.count number c.in-Err.fault counted
    c.count.ensures.table c.in-Some.ensures.0 c.in-Some.ensures.1 (omega (arith, c.in-Some.ensures.2))
    c.in-Err.ensures.fault)
