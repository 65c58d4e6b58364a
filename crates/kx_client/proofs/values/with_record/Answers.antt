use Rattle.std.proofs.Common.{ℕ, ◌+◌, ap, arith}
use Rattle.kx_client.proofs.Sizes.{record_long}
use Rattle.kx_client.proofs.values.with_record.Goals as goal

pub returns-then-value-gt-BATCH_LIMIT : goal.returns-then-value-gt-BATCH_LIMIT
returns-then-value-gt-BATCH_LIMIT c =
    omega (arith, record_long c.args.at c.args.value.now, c.if-value-gt-BATCH_LIMIT.true)

pub returns : goal.returns
returns c = (
  ap (λ (n : ℕ). c.args.len + n) c.record_len.ensures.value,
  omega (arith, c.if-grown-gt-BATCH_LIMIT.false),
  omega (
    arith,
    record_long c.args.at c.args.value.now,
    c.record_len.ensures.value,
    c.requires.place,
  ),
)
