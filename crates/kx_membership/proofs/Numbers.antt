-- The number in the id of a member.
use Rattle.std.proofs.Common.{◌≡◌, ◌≢◌, ℕ, ◌+◌, ◌%◌, ◌<◌, ◌≤◌, ◌^◌, Bool, true, false, ◌||◌}
use Rattle.std.proofs.Common.{List, [], ◌∷◌, ◌++◌, length, get_or, take, drop}
use Rattle.std.proofs.Common.{Result, Ok, Err, refl, sym, ap, ◌∙◌, subst, arith, eqb, suc, zero}
use Rattle.std.specs.Prelude.{decimal, MatchOption, IsUtf8}
use Rattle.std.specs.Result.{result_ok}
use Rattle.std.specs.Str.Parse.{AllDigits, ParsesUnsigned, digits_value}
use Rattle.std.proofs.lemmas.Bool.Decides.{nat_tests}
use Rattle.std.proofs.lemmas.List.{drop_more, take-append-drop}
use Rattle.std.proofs.lemmas.List.Folds.{list_any-append}
use Rattle.std.proofs.lemmas.Fmt.{IsAscii-decimal, decimal-digits_value, decimal_by_steps}
use Rattle.std.proofs.lemmas.Fmt.{decimal_digit, decimal_injective, decimal_nonempty, digits_decimal}
use Rattle.std.proofs.lemmas.Fmt.{digits_value-decimal, first_decimal}
use Rattle.std.proofs.lemmas.Str.{IsUtf8-from_ascii}
use Rattle.std.proofs.lemmas.Str.Parse.{IsNumeralModel, not_in_digits, numerals_by_value, parse_plain}
use Rattle.std.proofs.lemmas.Str.Parse.{tells_digits}
use Rattle.kx_membership.specs.MemberId.{IsIdOf, has_dash}

own : IsNumeralModel (AllDigits 10) (digits_value 10)
own = numerals_by_value (AllDigits 10) tells_digits

or_true : (b : Bool) → (b || true) ≡ true
or_true true = refl
or_true false = refl

has_dash_in : (before digits : List ℕ) → has_dash (before ++ 45 ∷ digits) ≡ true
has_dash_in [] digits = refl
has_dash_in (b ∷ before) digits = rw (has_dash_in before digits) (or_true (eqb b 45))

no_dash_step : (ds : List ℕ) (d : ℕ) → has_dash ds ≡ false → 45 < d → has_dash (ds ++ d ∷ []) ≡ false
no_dash_step ds d h above =
    let last : has_dash (d ∷ []) ≡ false = grind (arith, nat_tests) in
    list_any-append (λ b. eqb b 45) ds (d ∷ []) ∙ rw (h, last) refl

-- decimal digits have no dash
pub no_dash : (n : ℕ) → n < 2 ^ 64 → has_dash (decimal n) ≡ false
no_dash = decimal_by_steps (λ n ds. has_dash ds ≡ false) (λ n small. no_dash_step [] (48 + n) refl (omega arith))
    (λ n ds large before. no_dash_step ds (48 + n % 10) before (omega arith))

-- what stands after the last dash
pub last_part : (a b c d : List ℕ) → has_dash c ≡ false → has_dash d ≡ false
    → a ++ 45 ∷ c ≡ b ++ 45 ∷ d → c ≡ d
last_part [] [] c d no_c no_d e = cc
last_part [] (y ∷ b) c d no_c no_d e =
    let tail : c ≡ b ++ 45 ∷ d = cc in
    let there : has_dash c ≡ true = rw tail (has_dash_in b d) in
    absurd (cc)
last_part (x ∷ a) [] c d no_c no_d e =
    let tail : a ++ 45 ∷ c ≡ d = cc in
    let there : has_dash d ≡ true = rw (← tail) (has_dash_in a c) in
    absurd (cc)
last_part (x ∷ a) (y ∷ b) c d no_c no_d e =
    let tail : a ++ 45 ∷ c ≡ b ++ 45 ∷ d = cc in
    last_part a b c d no_c no_d tail

-- what is read backwards up to a dash
pub at_dash : (id : List ℕ) (at : ℕ) → at < length id → get_or id at 0 ≡ 45
    → id ≡ take at id ++ 45 ∷ drop (at + 1) id
at_dash id at within dash =
    sym (take-append-drop at id) ∙ ap (λ t. take at id ++ t)
    (rw dash at (drop_more id at 0 within))

-- digits don't begin with a plus
pub no_plus : (n : ℕ) (digits : List ℕ) → n < 2 ^ 32 → decimal n ≡ digits
    → get_or digits 0 0 ≡ 43 → ⊥
no_plus n digits small is plus =
    not_in_digits own (decimal n) 43 (digits_decimal own n (omega arith)) (λ range. omega arith) 0
    (decimal_nonempty n (omega arith)) (rw is plus)

zero_first : (n : ℕ) → n < 2 ^ 32 → get_or (decimal n) 0 0 ≡ 48 → 1 < length (decimal n) → ⊥
zero_first zero small first more =
    let one : decimal 0 ≡ 48 ∷ [] = decimal_digit 0 (omega arith) in
    let short : length (decimal 0) ≡ 1 = ap length one in
    omega arith
zero_first (suc n) small first more =
    let above : 48 < get_or (decimal (suc n)) 0 0 = first_decimal (suc n) (omega arith) (omega arith) in
    omega arith

pub are_text : (n : ℕ) (digits : List ℕ) → n < 2 ^ 32 → decimal n ≡ digits → IsUtf8 digits
are_text n digits small is =
    rw is at (IsUtf8-from_ascii (decimal n) (IsAscii-decimal n (omega arith)))

-- nor with a zero, but for that of 0
pub no_zero : (n : ℕ) (digits : List ℕ) → n < 2 ^ 32 → decimal n ≡ digits
    → get_or digits 0 0 ≡ 48 → 1 < length digits → ⊥
no_zero n digits small is first more = zero_first n small (rw is first) (rw is more)

-- what is read of digits without a sign and leading zeros
pub read : {E : Type 0} (digits : List ℕ) (r : Result ℕ E) → ParsesUnsigned 32 10 digits r
    → get_or digits 0 0 ≢ 43 → (get_or digits 0 0 ≡ 48 → length digits ≤ 1)
    → MatchOption (result_ok r) ((n : ℕ) → n < 2 ^ 32 → decimal n ≡ digits → ⊥)
    (λ n. (n < 2 ^ 32) × (decimal n ≡ digits))
read {E = E} digits (Ok n) parsed signless canonical =
    let p = parse_plain own {E = E} 32 digits (Ok n) parsed signless in
    let nonempty : 0 < length digits = p.0.1 in
    let fits : digits_value 10 digits < 2 ^ 32 = p.0.2 in
    let is : decimal (digits_value 10 digits) ≡ digits =
    decimal-digits_value own digits p.0.0 nonempty
    (λ first. let one : length digits ≤ 1 = canonical first in omega arith) (omega arith) in
    let same : n ≡ digits_value 10 digits = p.1 in
    (rw same fits, rw same is)
read {E = E} digits (Err err) parsed signless canonical =
    let p = parse_plain own {E = E} 32 digits (Err err) parsed signless in
    λ n small is.
    let all : AllDigits 10 digits = subst (AllDigits 10) is (digits_decimal own n (omega arith)) in
    let nonempty : 0 < length digits = rw is at (decimal_nonempty n (omega arith)) in
    let value : digits_value 10 digits ≡ n = rw is at (digits_value-decimal own n (omega arith)) in
    p (all, nonempty, rw value small)

-- the id of a member says its number
pub same_number : (id before digits : List ℕ) (m n : ℕ) → id ≡ before ++ 45 ∷ digits
    → has_dash digits ≡ false → decimal m ≡ digits → m < 2 ^ 32 → n < 2 ^ 32 → IsIdOf id n → m ≡ n
same_number id before digits m n split no_more is small also (client, named) =
    let same : digits ≡ decimal n =
    last_part before client digits (decimal n) no_more (no_dash n (omega arith)) (sym split ∙ named) in
    decimal_injective m n (omega arith) (omega arith) (is ∙ same)

pub id_of_digits : (id before digits : List ℕ) (n : ℕ) → id ≡ before ++ 45 ∷ digits
    → has_dash digits ≡ false → n < 2 ^ 32 → IsIdOf id n → decimal n ≡ digits
id_of_digits id before digits n split no_more small (client, named) =
    sym (last_part before client digits (decimal n) no_more (no_dash n (omega arith))
    (sym split ∙ named))

pub no_id : (id : List ℕ) (n : ℕ) → has_dash id ≡ false → IsIdOf id n → ⊥
no_id id n no_dash_there (client, named) =
    let there : has_dash id ≡ true = ap has_dash named ∙ has_dash_in client (decimal n) in
    absurd (cc)
