use Rattle.std.proofs.Common.{rules, ◌≤ℤ◌, pos, refl, arith}
use Rattle.std.specs.Int.{w32}
use Rattle.std.specs.Int.RustNames.{FitsSigned}
use Rattle.std.proofs.lemmas.Int.{ints, to_z-of_z}
use Rattle.kx_verify.proofs.Pairs.{commit_pair}
use Rattle.kx_verify.proofs.request.Request.of_offsets.Goals as goal

pub invariant_of-result : goal.invariant_of-result
invariant_of-result c =
    let it = c.args.commit in
    let fits = c.commits_fit.ensures in
    let seq : FitsSigned w32 it.first_sequence = fits.sequence in
    let le : pos 0 ≤ℤ it.first_sequence =
    omega (arith, ints, c.if-commit-lt0.false, to_z-of_z w32 it.first_sequence seq) in
    record {
      own = commit_pair it.group it.held it.first_sequence it.offsets le fits;
      fits = fits;
    }

pub returns : goal.returns
returns c =
    (record { request = refl; held = (invariant_of-result c).own }, refl, search rules)
