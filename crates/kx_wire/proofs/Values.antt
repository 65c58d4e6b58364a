-- Numbers and texts stand for the values that they are read as, and no others.
use Rattle.std.proofs.Common.{◌≡◌, ℕ, zero, suc, ℤ, pos, negsuc, ◌<◌, List, [], ◌∷◌, length}
use Rattle.std.proofs.Common.{Bool, true, false, cond, Option, Some, None, Result, Ok, Err}
use Rattle.std.proofs.Common.{refl, sym, ap, ◌∙◌, subst, arith, inl, inr, ◌⊎◌}
use Rattle.std.specs.Prelude.{◌==◌, OkIff}
use Rattle.std.specs.Bool.{Decides}
use Rattle.std.specs.List.{find}
use Rattle.std.specs.Char.{IsAsciiGraphic}
use Rattle.std.specs.Result.{result_ok}
use Rattle.std.proofs.lemmas.Bool.Decides.{Decides-ltb, nat_tests}
use Rattle.std.proofs.lemmas.Bool.{and_from, and_parts, eqb-true}
use Rattle.std.proofs.lemmas.List.Sums.{AllPass-from_list_all, list_all-from_AllPass}
use Rattle.kx_message.specs.Ranges.{IsPartition, IsTimeout, IsName, IsOffsetCount}
use Rattle.kx_message.specs.Codes.{number_of, IsOutcomeOfByte, IsCodeOfNumber}
use Rattle.kx_message.specs.Values.{where_true, is_partition, is_timeout, is_name, is_graphic}
use Rattle.kx_message.specs.Values.{is_offset_count, name_with, code_with, all_codes, outcome_with}
use Rattle.kx_message.specs.declared.fault.ValueFault.{ValueFault}
use Rattle.kx_message.specs.declared.code.ErrorCode.{ErrorCode}
use Rattle.kx_message.specs.declared.code.ErrorCode.TheVariants as code
use Rattle.kx_message.specs.declared.outcome.Outcome.{Outcome}
use Rattle.kx_message.specs.declared.outcome.Outcome.TheVariants.{Abort, Commit}

-- ---- a test

pub true_takes : {A : Type 0} (b : Bool) (P : Type 0) (x y : A) → Decides b P
    → where_true b x ≡ Some y → P × (x ≡ y)
true_takes false P x y d e = absurd cc
true_takes true P x y d e = (d.0 refl, cc)

pub true_again : {A : Type 0} (b : Bool) (P : Type 0) (x : A) → Decides b P → P
    → where_true b x ≡ Some x
true_again b P x d p = rw (d.1 p) refl

-- what a conversion answers, as an option
pub found_where : {A : Type 0} (b : Bool) (P : Type 0) (v : A) (r : Result A ValueFault)
    → Decides b P → OkIff r P v → result_ok r ≡ where_true b v
found_where b P v (Ok x) d h = rw (d.1 h.0, h.1) refl
found_where true P v (Err e) d h = absurd (h (d.0 refl))
found_where false P v (Err e) d h = refl

pub of_partition : (n : ℕ) → Decides (is_partition n) (IsPartition n)
of_partition n = (λ e. grind (arith, nat_tests), λ p. grind (arith, nat_tests))

pub of_timeout : (n : ℕ) → Decides (is_timeout n) (IsTimeout n)
of_timeout n = (λ e. grind (arith, nat_tests), λ p. grind (arith, nat_tests))

pub of_offset_count : (n : ℕ) → Decides (is_offset_count n) (IsOffsetCount n)
of_offset_count n = (λ e. grind (arith, nat_tests), λ p. grind (arith, nat_tests))

of_graphic : (n : ℕ) → Decides (is_graphic n) (IsAsciiGraphic n)
of_graphic n = (λ e. grind (arith, nat_tests), λ p. grind (arith, nat_tests))

name_of : (t : List ℕ) → is_name t ≡ true → IsName t
name_of t e =
    let parts = and_parts _ _ e in
    let size = and_parts _ _ parts.0 in
    let some : 0 < length t = (Decides-ltb 0 (length t)).0 size.0 in
    let most : length t < 65 = (Decides-ltb (length t) 65).0 size.1 in
    record {
      nonempty = omega arith;
      fits = omega arith;
      graphic = λ k d lt. (of_graphic _).0 (AllPass-from_list_all is_graphic t parts.1 k d lt);
    }

of_name-again : (t : List ℕ) → IsName t → is_name t ≡ true
of_name-again t h =
    and_from _ _
    (and_from _ _ ((Decides-ltb 0 (length t)).1 (omega (arith, h.nonempty)))
    ((Decides-ltb (length t) 65).1 (omega (arith, h.fits))))
    (list_all-from_AllPass is_graphic t (λ k d lt. (of_graphic _).1 (h.graphic k d lt)))

pub of_name : (t : List ℕ) → Decides (is_name t) (IsName t)
of_name t = (name_of t, of_name-again t)

pub found_name : (t : List ℕ) (r : Result (List ℕ) ValueFault) → OkIff r (IsName t) t
    → result_ok r ≡ name_with t
unfolding name_with
found_name t r h = found_where (is_name t) (IsName t) t r (of_name t) h

-- ---- codes and outcomes

pub code_again : (c : ErrorCode) → code_with (pos (number_of c)) ≡ Some c
unfolding code_with
code_again code.NoError = refl
code_again code.OffsetOutOfRange = refl
code_again code.CorruptMessage = refl
code_again code.UnknownTopicOrPartition = refl
code_again code.MessageTooLarge = refl
code_again code.IllegalGeneration = refl
code_again code.UnknownMemberId = refl
code_again code.OutOfOrderSequenceNumber = refl
code_again code.InvalidProducerEpoch = refl
code_again code.InvalidTxnState = refl
code_again code.InvalidProducerIdMapping = refl
code_again code.ConcurrentTransactions = refl
code_again code.TransactionCoordinatorFenced = refl
code_again code.KafkaStorageError = refl
code_again code.UnsupportedCompressionType = refl
code_again code.InvalidRecord = refl
code_again code.UnstableOffsetCommit = refl
code_again code.ProducerFenced = refl

chosen : {A : Type 0} (b : Bool) (x y : A) (o : Option A) → cond b (Some x) o ≡ Some y
    → ((b ≡ true) × (x ≡ y)) ⊎ (o ≡ Some y)
chosen true x y o e = inl (refl, cc)
chosen false x y o e = inr e

find_takes : (n : ℕ) (cs : List ErrorCode) (c : ErrorCode)
    → find (λ c. number_of c == n) cs ≡ Some c → number_of c ≡ n
find_takes n [] c e = absurd cc
find_takes n (d ∷ cs) c e =
    elim (chosen (number_of d == n) d c (find (λ c. number_of c == n) cs) e) [
      | inl h ↦ subst (λ x. number_of x ≡ n) h.1 (eqb-true (number_of d) n h.0)
      | inr h ↦ find_takes n cs c h
    ]

pub code_takes : (z : ℤ) (c : ErrorCode) → code_with z ≡ Some c → pos (number_of c) ≡ z
unfolding code_with
code_takes (pos n) c e = ap (λ k. pos k) (find_takes n all_codes c e)
code_takes (negsuc n) c e = absurd cc

no_code : (z : ℤ) (o : Option ErrorCode) → code_with z ≡ o
    → ((c : ErrorCode) → pos (number_of c) ≡ z → ⊥) → None ≡ o
no_code z None e h = refl
no_code z (Some c) e h = absurd (h c (code_takes z c e))

pub found_code : (z : ℤ) (r : Result ErrorCode ValueFault) → IsCodeOfNumber z r
    → result_ok r ≡ code_with z
found_code z (Ok c) h = sym (code_again c) ∙ ap code_with h
found_code z (Err e) h = no_code z (code_with z) refl h.0

pub found_outcome : (n : ℕ) (r : Result Outcome ValueFault) → IsOutcomeOfByte n r
    → result_ok r ≡ outcome_with n
found_outcome n (Ok Abort) h = ap outcome_with h
found_outcome n (Ok Commit) h = ap outcome_with h
found_outcome zero (Err e) h = absurd (h.0 Abort refl)
found_outcome (suc zero) (Err e) h = absurd (h.0 Commit refl)
found_outcome (suc (suc n)) (Err e) h = refl
