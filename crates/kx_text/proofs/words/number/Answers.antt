use Rattle.std.proofs.Common.{◌≡◌, ◌<◌, ◌≤◌, ◌+◌, ◌-◌, ◌*◌, ◌^◌, ℕ, Bool, true, false, cond, ◌&&◌}
use Rattle.std.proofs.Common.{None, Some, length, drop, get_or, sym, ap, ◌∙◌, arith}
use Rattle.std.specs.Char.{is_ascii_digit}
use Rattle.std.specs.Str.{all_ascii_digits}
use Rattle.std.specs.Str.Parse.{digits_value}
use Rattle.std.proofs.lemmas.Bool.{lt-ltb}
use Rattle.std.proofs.lemmas.Bool.Decides.{nat_tests}
use Rattle.std.proofs.lemmas.List.{at_drop_all}
use Rattle.kx_text.specs.Words.{below}
use Rattle.kx_text.proofs.Numbers.{read, read-further, read-stops, below-large}
use Rattle.kx_text.proofs.words.number.Goals as goal

pub loop-byte-init : goal.loop-byte-init
loop-byte-init c =
    let word = c.args.word.now in
    let some : 0 < length word = grind (arith, nat_tests) in
    record {
      same = sym (ap (λ (b : Bool). below (2 ^ 64)
          (cond (b && all_ascii_digits word) (Some (digits_value 10 word)) None))
          (lt-ltb 0 (length word) some));
      fits = omega arith;
    }

pub returns-then-not-is_ascii_digit : goal.returns-then-not-is_ascii_digit
returns-then-not-is_ascii_digit c =
    let e : is_ascii_digit (get_or c.args.word.now c.loop-byte.byte-index 0) ≡ false =
    sym c.is_ascii_digit.ensures.value ∙ c.if-not-is_ascii_digit.true in
    sym (ap (below (2 ^ 64)) (read-stops c.loop-byte.number c.loop-byte.byte-index
    c.args.word.now c.loop-byte-test.true e)) ∙ c.loop-byte.invariant.same

pub returns-in_err-checked_mul : goal.returns-in_err-checked_mul
returns-in_err-checked_mul c =
    let n = c.loop-byte.number in
    let i = c.loop-byte.byte-index in
    let word = c.args.word.now in
    let e : is_ascii_digit (get_or word i 0) ≡ true =
    sym c.is_ascii_digit.ensures.value ∙ c.if-not-is_ascii_digit.false in
    let large : 2 ^ 64 ≤ n * 10 + (get_or word i 0 - 48) =
    omega (arith, c.in_err-checked_mul.ensures) in
    c.from_residual.ensures
    ∙ sym (below-large (2 ^ 64) (n * 10 + (get_or word i 0 - 48)) (drop (i + 1) word) large)
    ∙ sym (ap (below (2 ^ 64)) (read-further n i word c.loop-byte-test.true e))
    ∙ c.loop-byte.invariant.same

pub returns-in_err-number : goal.returns-in_err-number
returns-in_err-number c =
    let n = c.loop-byte.number in
    let i = c.loop-byte.byte-index in
    let word = c.args.word.now in
    let e : is_ascii_digit (get_or word i 0) ≡ true =
    sym c.is_ascii_digit.ensures.value ∙ c.if-not-is_ascii_digit.false in
    let large : 2 ^ 64 ≤ n * 10 + (get_or word i 0 - 48) =
    omega (arith, c.in_err-number.ensures, c.in_ok-checked_mul.ensures.1, c.from.ensures) in
    c.from_residual-in_err-number.ensures
    ∙ sym (below-large (2 ^ 64) (n * 10 + (get_or word i 0 - 48)) (drop (i + 1) word) large)
    ∙ sym (ap (below (2 ^ 64)) (read-further n i word c.loop-byte-test.true e))
    ∙ c.loop-byte.invariant.same

pub loop-byte-preserved : goal.loop-byte-preserved
loop-byte-preserved c =
    let n = c.loop-byte.number in
    let i = c.loop-byte.byte-index in
    let word = c.args.word.now in
    let e : is_ascii_digit (get_or word i 0) ≡ true =
    sym c.is_ascii_digit.ensures.value ∙ c.if-not-is_ascii_digit.false in
    let next : c.in_ok-number.number ≡ n * 10 + (get_or word i 0 - 48) =
    omega (arith, c.in_ok-number.ensures.1, c.in_ok-checked_mul.ensures.1, c.from.ensures) in
    record {
      same = ap (λ (m : ℕ). below (2 ^ 64) (read m (drop (i + 1) word))) next
          ∙ sym (ap (below (2 ^ 64)) (read-further n i word c.loop-byte-test.true e))
          ∙ c.loop-byte.invariant.same;
      fits = omega (arith, c.in_ok-number.ensures.0, c.in_ok-number.ensures.1);
    }

pub returns : goal.returns
returns c =
    let n = c.loop-byte.number in
    let word = c.args.word.now in
    let fits : n < 2 ^ 64 = c.loop-byte.invariant.fits in
    sym (ap (λ (b : Bool). cond b (Some n) None) (lt-ltb n (2 ^ 64) fits))
    ∙ sym (ap (below (2 ^ 64)) (at_drop_all (read n) word c.loop-byte.byte-index
    c.loop-byte-test.false))
    ∙ c.loop-byte.invariant.same
