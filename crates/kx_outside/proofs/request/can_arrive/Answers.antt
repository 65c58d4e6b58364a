use Rattle.std.proofs.Common.{◌≡◌, ◌&&◌, ◌<◌, ◌∙◌, Bool, false, length, nat_lt, sym, true}
use Rattle.std.proofs.Common.{ap, arith}
use Rattle.std.proofs.lemmas.Bool.Decides.{nat_tests}
use Rattle.std.specs.Prelude.{ℕ, ◌↔◌, IsTrue}
use Rattle.kx_message.specs.Fields.{fields_of}
use Rattle.kx_message.specs.Sizes.{longest_frame}
use Rattle.kx_outside.specs.Requests.{arrives}
use Rattle.kx_outside.proofs.request.can_arrive.Goals as goal

-- a test of a number is whether it is below the limit
is_test : (b : Bool) (n limit : ℕ) → (IsTrue b ↔ (n < limit)) → b ≡ nat_lt n limit
is_test b n limit h = grind (arith, nat_tests, h)

pub returns-then-is_request-clause-value : goal.returns-then-is_request-clause-value
unfolding arrives
returns-then-is_request-clause-value c =
    let size = length (fields_of c.args.message.now) in
    is_test c.fits.result size longest_frame c.fits.ensures
    ∙ ap (λ b. b && nat_lt size longest_frame) (sym c.if-is_request.true ∙ c.is_request.ensures)

pub returns-else-is_request-clause-value : goal.returns-else-is_request-clause-value
unfolding arrives
returns-else-is_request-clause-value c =
    let size = length (fields_of c.args.message.now) in
    c.if-is_request.false
    ∙ ap (λ b. b && nat_lt size longest_frame) (sym c.if-is_request.false ∙ c.is_request.ensures)
