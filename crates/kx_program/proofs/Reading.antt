-- Numbers that options have.
use Rattle.std.proofs.Common.{◌≡◌, ℕ, Option, None, Some, Result, Ok, Err}
use Rattle.std.proofs.Common.{MatchOption, refl, subst, sym, arith}
use Rattle.std.specs.Str.Parse.{ParsesUnsigned}
use Rattle.clap.specs.Words.{ReadsOne, Text}
use Rattle.kx_program.specs.Tasks.{Writes}

-- what is read of a text
reads_text : {E : Type 0} (gives : Text → Result ℕ E → Type 0) (bits : ℕ) (text : Text)
    (read : Option ℕ) → ((r : Result ℕ E) → gives text r → ParsesUnsigned bits 10 text r)
    → ReadsOne gives text read
    → MatchOption read ((n : ℕ) → Writes bits (Some text) n → ⊥) (Writes bits (Some text))
reads_text gives bits text (Some n) parses reads =
    let (p, is) = parses (Ok n) reads in (p.0, omega (arith, is, p.1), is)
reads_text gives bits text None parses reads =
    λ n writes. parses (Err reads.0) reads.1 (writes.0, omega (arith, writes.1, writes.2))

-- what is read of an option
pub reads_option : {E : Type 0} (gives : Text → Result ℕ E → Type 0) (bits : ℕ)
    (text : Option Text) (read : Option ℕ)
    → ((t : Text) (r : Result ℕ E) → gives t r → ParsesUnsigned bits 10 t r)
    → (text ≡ None → read ≡ None) → ((t : Text) → text ≡ Some t → ReadsOne gives t read)
    → MatchOption read ((n : ℕ) → Writes bits text n → ⊥) (Writes bits text)
reads_option gives bits None read parses none value =
    subst (λ (r : Option ℕ). MatchOption r ((n : ℕ) → Writes bits None n → ⊥) (Writes bits None))
    (sym (none refl)) (λ n writes. writes)
reads_option gives bits (Some text) read parses none value =
    reads_text gives bits text read (parses text) (value text refl)
