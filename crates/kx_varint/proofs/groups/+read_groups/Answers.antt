use Rattle.std.proofs.Common.{◌≡◌, ◌≤◌, ◌<◌, ◌+◌, arith}
use Rattle.kx_varint.proofs.Bounds.{limit_step, low_below}
use Rattle.kx_varint.proofs.groups.+read_groups.Goals as goal

pub returns-then-first-lt128-clause-bound : goal.returns-then-first-lt128-clause-bound
returns-then-first-lt128-clause-bound t c =
    let last : c.args.most ≡ 1 → c.in-Some.first.now ≤ c.args.top =
    elim c.else-most-eq1.branch [
      | goal.else-most-eq1-via-then-most-eq1+else-first-top w ↦ λ _. omega arith
      | goal.else-most-eq1-via-else-most-eq1 w ↦ λ e. omega arith
    ] in
    let b = low_below c.in-Some.first.now c.args.top c.args.most c.requires.some
    (omega arith) last in
    omega (arith, c.from.ensures)

pub read_groups-requires : goal.read_groups-requires
read_groups-requires t c =
    let many : 1 < c.args.most =
    elim c.else-most-eq1.branch [
      | goal.else-most-eq1-via-then-most-eq1+else-first-top w ↦ omega arith
      | goal.else-most-eq1-via-else-most-eq1 w ↦ omega arith
    ] in (
      omega arith,
      (
        omega arith,
        (
          omega arith,
          omega (arith, limit_step (c.args.top + 1) c.args.most many),
        ),
      ),
    )

pub overflow_mul-result : goal.overflow_mul-result
overflow_mul-result t c =
    let many : 1 < c.args.most =
    elim c.else-most-eq1.branch [
      | goal.else-most-eq1-via-then-most-eq1+else-first-top w ↦ omega arith
      | goal.else-most-eq1-via-else-most-eq1 w ↦ omega arith
    ] in
    omega (arith, limit_step (c.args.top + 1) c.args.most many, c.in_ok-high.ensures.bound)

pub overflow_add-result : goal.overflow_add-result
overflow_add-result t c =
    let many : 1 < c.args.most =
    elim c.else-most-eq1.branch [
      | goal.else-most-eq1-via-then-most-eq1+else-first-top w ↦ omega arith
      | goal.else-most-eq1-via-else-most-eq1 w ↦ omega arith
    ] in
    omega (
      arith,
      limit_step (c.args.top + 1) c.args.most many,
      c.in_ok-high.ensures.bound,
      c.from-2.ensures,
    )

pub returns-clause-bound : goal.returns-clause-bound
returns-clause-bound t c =
    let many : 1 < c.args.most =
    elim c.else-most-eq1.branch [
      | goal.else-most-eq1-via-then-most-eq1+else-first-top w ↦ omega arith
      | goal.else-most-eq1-via-else-most-eq1 w ↦ omega arith
    ] in
    omega (
      arith,
      limit_step (c.args.top + 1) c.args.most many,
      c.in_ok-high.ensures.bound,
      c.from-2.ensures,
    )
