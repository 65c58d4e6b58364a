-- Texts and numbers stand for the ids and timeouts that the core takes, and no others.
use Rattle.std.proofs.Common.{◌≡◌, ◌<◌, ℕ, List, length, Bool, true, false, Result, Ok, Err}
use Rattle.std.proofs.Common.{refl, arith}
use Rattle.std.specs.Prelude.{OkIff}
use Rattle.std.specs.Bool.{Decides}
use Rattle.std.specs.Char.{IsAsciiGraphic}
use Rattle.std.specs.Result.{result_ok}
use Rattle.std.proofs.lemmas.Bool.{and_from, and_parts}
use Rattle.std.proofs.lemmas.Bool.Decides.{Decides-ltb, nat_tests}
use Rattle.std.proofs.lemmas.List.Sums.{AllPass-from_list_all, list_all-from_AllPass}
use Rattle.kx_message.specs.Ranges.{IsName, IsTimeout}
use Rattle.kx_message.specs.Values.{is_graphic, is_name, is_timeout, name_with, timeout_with}
use Rattle.kx_message.specs.Values.{where_true}
use Rattle.kx_message.specs.declared.fault.ValueFault.{ValueFault}

-- what a conversion answers
found_where : {A : Type 0} (b : Bool) (P : Type 0) (v : A) (r : Result A ValueFault)
    → Decides b P → OkIff r P v → result_ok r ≡ where_true b v
found_where b P v (Ok x) d h = rw (d.1 h.0, h.1) refl
found_where true P v (Err e) d h = absurd (h (d.0 refl))
found_where false P v (Err e) d h = refl

of_graphic : (n : ℕ) → Decides (is_graphic n) (IsAsciiGraphic n)
of_graphic n = (λ e. grind (arith, nat_tests), λ p. grind (arith, nat_tests))

name_of : (t : List ℕ) → is_name t ≡ true → IsName t
name_of t e =
    let parts = and_parts _ _ e in
    let size = and_parts _ _ parts.0 in
    let some : 0 < length t = (Decides-ltb 0 (length t)).0 size.0 in
    let most : length t < 65 = (Decides-ltb (length t) 65).0 size.1 in
    record {
      nonempty = omega arith;
      fits = omega arith;
      graphic = λ k d lt. (of_graphic _).0 (AllPass-from_list_all is_graphic t parts.1 k d lt);
    }

name_passes : (t : List ℕ) → IsName t → is_name t ≡ true
name_passes t h =
    and_from _ _
    (and_from _ _ ((Decides-ltb 0 (length t)).1 (omega (arith, h.nonempty)))
    ((Decides-ltb (length t) 65).1 (omega (arith, h.fits))))
    (list_all-from_AllPass is_graphic t (λ k d lt. (of_graphic _).1 (h.graphic k d lt)))

pub found_name : (t : List ℕ) (r : Result (List ℕ) ValueFault) → OkIff r (IsName t) t
    → result_ok r ≡ name_with t
unfolding name_with
found_name t r h = found_where (is_name t) (IsName t) t r (name_of t, name_passes t) h

of_timeout : (n : ℕ) → Decides (is_timeout n) (IsTimeout n)
of_timeout n = (λ e. grind (arith, nat_tests), λ p. grind (arith, nat_tests))

pub found_timeout : (n : ℕ) (r : Result ℕ ValueFault) → OkIff r (IsTimeout n) n
    → result_ok r ≡ timeout_with n
found_timeout n r h = found_where (is_timeout n) (IsTimeout n) n r (of_timeout n) h
