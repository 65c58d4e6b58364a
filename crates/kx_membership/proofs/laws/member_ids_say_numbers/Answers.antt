use Rattle.std.proofs.Common.{arith, sym, ◌∙◌}
use Rattle.std.specs.Prelude.{decimal}
use Rattle.std.proofs.lemmas.Fmt.{decimal_injective}
use Rattle.kx_membership.proofs.Numbers.{last_part, no_dash}
use Rattle.kx_membership.proofs.laws.member_ids_say_numbers.Goals as goal

pub returns-clause-one : goal.returns-clause-one
returns-clause-one c = λ id m n small also one other.
    decimal_injective m n (omega arith) (omega arith)
    (last_part one.0 other.0 (decimal m) (decimal n) (no_dash m (omega arith))
    (no_dash n (omega arith)) (sym one.1 ∙ other.1))
