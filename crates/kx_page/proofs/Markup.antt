-- Values have no markup.
use Rattle.std.proofs.Common.{◌≡◌, ◌∙◌, ◌++◌, ◌∷◌, [], ℕ, false, List, cond, refl, ap}
use Rattle.std.proofs.Common.{arith}
use Rattle.std.specs.Prelude.{nat_lt, ◌==◌, ◌||◌, ◌/◌, ◌%◌}
use Rattle.std.proofs.lemmas.Bool.{cond_both}
use Rattle.std.proofs.lemmas.Bool.Decides.{nat_tests}
use Rattle.std.proofs.lemmas.List.Elements.{filter-append}
use Rattle.kx_page.specs.Pieces.{digit_of, escaped, escaped_byte, hex_byte, is_markup, markup_of}

-- a character that is no markup leaves none
left_out : (c : ℕ) (rest : List ℕ) → is_markup c ≡ false → markup_of rest ≡ []
    → markup_of (c ∷ rest) ≡ []
left_out c rest e h = ap (λ t. cond t (c ∷ markup_of rest) (markup_of rest)) e ∙ h

digit_is_none : (n : ℕ) → is_markup (digit_of n) ≡ false
digit_is_none n = cond_both (nat_lt n 10) _ _ (λ d. is_markup d ≡ false)
    (λ e. grind (arith, nat_tests)) (λ e. grind (arith, nat_tests))

silent_hex : (byte : ℕ) → markup_of (hex_byte byte) ≡ []
silent_hex byte =
    let low = digit_of (byte % 16) in
    let high = digit_of (byte / 16) in
    left_out high (low ∷ []) (digit_is_none (byte / 16))
    (left_out low [] (digit_is_none (byte % 16)) refl)

silent_byte : (byte : ℕ) → markup_of (escaped_byte byte) ≡ []
silent_byte byte =
    let Silent : List ℕ → Type 0 = λ r. markup_of r ≡ [] in
    cond_both (byte == 60) _ _ Silent (λ e. refl) (λ e.
    cond_both (byte == 62) _ _ Silent (λ f. refl) (λ f.
    cond_both (byte == 38) _ _ Silent (λ h. refl) (λ h.
    cond_both (byte == 34) _ _ Silent (λ k. refl) (λ k.
    cond_both (byte == 39) _ _ Silent (λ l. refl) (λ l.
    cond_both (nat_lt byte 32 || nat_lt 126 byte) _ _ Silent
    (λ n. silent_hex byte)
    (λ n. left_out byte [] (grind (arith, nat_tests)) refl))))))

pub silent : (value : List ℕ) → markup_of (escaped value) ≡ []
silent [] = refl
silent (byte ∷ value) =
    filter-append is_markup (escaped_byte byte) (escaped value)
    ∙ ap (λ xs. xs ++ markup_of (escaped value)) (silent_byte byte) ∙ silent value
