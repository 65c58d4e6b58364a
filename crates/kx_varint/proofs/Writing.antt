-- The shortest spelling.
use Rattle.std.proofs.Common.{◌≡◌, ℕ, zero, suc, ℤ, pos, negsuc, ◌+◌, ◌-◌, ◌*◌, ◌/◌, ◌%◌, ◌^◌, ◌<◌}
use Rattle.std.proofs.Common.{◌≤◌, List, [], ◌∷◌, ◌++◌, length, take, refl, sym, ap, ◌∙◌, subst}
use Rattle.std.proofs.Common.{append_assoc, arith, inl, inr}
use Rattle.std.specs.Prelude.{slice_set}
use Rattle.std.proofs.lemmas.Bool.{cases_lt, lt-ltb, le-ltb}
use Rattle.std.proofs.lemmas.List.{take_more_set}
use Rattle.std.proofs.lemmas.Nat.{shr_below}
use Rattle.std.specs.Int.{w32, w64}
use Rattle.std.specs.Int.RustNames.{FitsSigned}
use Rattle.kx_varint.specs.Varint.{Shape, IsGroups, groups_sum, zigzag, groups_of, shortest_text}
use Rattle.kx_varint.specs.Varint.{IsShortest}
use Rattle.kx_varint.proofs.Bounds.{limit_step}
use Rattle.kx_varint.proofs.Laws.{Fits, last_fits, last_cons, groups_cons}

pub groups_of_small : (fuel n : ℕ) → n < 128 → groups_of fuel n ≡ n ∷ []
unfolding groups_of
groups_of_small zero n small = refl
groups_of_small (suc fuel) n small = rw (lt-ltb n 128 small) refl

groups_of_large : (fuel n : ℕ) → 128 ≤ n → groups_of (suc fuel) n
    ≡ (n % 128 + 128) ∷ groups_of fuel (n / 128)
unfolding groups_of
groups_of_large fuel n large = rw (le-ltb n 128 large) refl

-- ---- a loop that writes them

pub written_more : (text : List ℕ) (len n : ℕ) → length text ≡ 10 → len ≤ 8 → 128 ≤ n
    → take (len + 1) (slice_set text len (n % 128 + 128)) ++ groups_of (9 - (len + 1)) (n / 128)
    ≡ take len text ++ groups_of (9 - len) n
written_more text len n size room large =
    let e : 9 - len ≡ suc (9 - (len + 1)) = omega arith in
    let within : len < length text = omega arith in
    ap (λ (x : List ℕ). x ++ groups_of (9 - (len + 1)) (n / 128))
    (take_more_set text len (n % 128 + 128) within)
    ∙ append_assoc (take len text) ((n % 128 + 128) ∷ []) (groups_of (9 - (len + 1)) (n / 128))
    ∙ ap (λ (x : List ℕ). take len text ++ x)
    (sym (ap (λ k. groups_of k n) e ∙ groups_of_large (9 - (len + 1)) n large))

pub left_more : (len n : ℕ) → len ≤ 8 → n < 2 ^ (64 - 7 * len) → n / 128 < 2 ^ (64 - 7 * (len + 1))
left_more len n room h =
    let e : 64 - 7 * len ≡ (64 - 7 * (len + 1)) + 7 = omega arith in
    shr_below n (64 - 7 * (len + 1)) 7 (subst (λ k. n < 2 ^ k) e h)

-- the room for one more
pub room_more : (len n : ℕ) → len ≤ 9 → n < 2 ^ (64 - 7 * len) → 128 ≤ n → len ≤ 8
room_more len n room h large =
    elim (cases_lt len 9) [
      | inl lt ↦ omega arith
      | inr le ↦
          let e : 64 - 7 * len ≡ 1 = omega arith in
          let f : n < 2 ^ 1 = subst (λ k. n < 2 ^ k) e h in
          absurd (omega arith)
    ]

pub written_all : (text : List ℕ) (len n : ℕ) → length text ≡ 10 → len ≤ 9 → n < 128
    → take (len + 1) (slice_set text len n) ≡ take len text ++ groups_of (9 - len) n
written_all text len n size room small =
    let within : len < length text = omega arith in
    take_more_set text len n within ∙ ap (λ (x : List ℕ). take len text ++ x)
    (sym (groups_of_small (9 - len) n small))

-- ---- a loop that counts them

pub counted_more : (more n : ℕ) → more ≤ 8 → 128 ≤ n
    → more + 1 + length (groups_of (9 - (more + 1)) (n / 128))
    ≡ more + length (groups_of (9 - more) n)
counted_more more n room large =
    let e : 9 - more ≡ suc (9 - (more + 1)) = omega arith in
    let f : length (groups_of (9 - more) n) ≡ suc (length (groups_of (9 - (more + 1)) (n / 128))) =
    ap length (ap (λ k. groups_of k n) e ∙ groups_of_large (9 - (more + 1)) n large) in
    omega arith

pub counted_all : (more n : ℕ) → n < 128 → more + 1 ≡ more + length (groups_of (9 - more) n)
counted_all more n small =
    let f : length (groups_of (9 - more) n) ≡ 1 = ap length (groups_of_small (9 - more) n small) in
    omega arith

-- ---- they spell the number

pub Fits_of : (fuel most top n : ℕ) → 0 < most → top < 128 → most ≤ suc fuel
    → n < (top + 1) * 128 ^ (most - 1) → Fits most top (groups_of fuel n)
    × (groups_sum (groups_of fuel n) ≡ n)
unfolding groups_of
Fits_of zero most top n some low deep h =
    let e : most ≡ 1 = omega arith in
    let f : n < (top + 1) * 128 ^ 0 = subst (λ (m : ℕ). n < (top + 1) * 128 ^ (m - 1)) e h in
    (last_fits most top n some (omega arith) (λ _. omega arith), omega arith)
Fits_of (suc fuel) most top n some low deep h =
    elim (cases_lt n 128) [
      | inl small ↦
          let last : most ≡ 1 → n ≤ top = λ e. let f : n < (top + 1) * 128 ^ 0 =
          subst (λ (m : ℕ). n < (top + 1) * 128 ^ (m - 1)) e h in omega arith in
          rw (lt-ltb n 128 small) (last_fits most top n some small last, omega arith)
      | inr large ↦
          let many : 1 < most = elim (cases_lt 1 most) [
            | inl lt ↦ lt
            | inr le ↦
                let e : most ≡ 1 = omega arith in
                let f : n < (top + 1) * 128 ^ 0 =
                subst (λ (m : ℕ). n < (top + 1) * 128 ^ (m - 1)) e h in absurd (omega arith)
          ] in
          let less : n / 128 < (top + 1) * 128 ^ (most - 1 - 1) =
          omega (arith, limit_step (top + 1) most many) in
          let inner = Fits_of fuel (most - 1) top (n / 128) (omega arith) low (omega arith) less in
          let t = groups_of fuel (n / 128) in
          rw (le-ltb n 128 large) (
            record {
              groups = groups_cons (n % 128 + 128) t (omega arith) (omega arith) inner.0.groups;
              count = omega (arith, inner.0.count);
              last = rw (last_cons (n % 128 + 128) t most many) inner.0.last;
            },
            omega (arith, inner.1),
          )
    ]

-- ---- and no shorter text does

pub least_of : (fuel n : ℕ) (u : List ℕ) → IsGroups u → groups_sum u ≡ n
    → length (groups_of fuel n) ≤ length u
unfolding groups_of
least_of fuel n [] h e = absurd h
least_of zero n (b ∷ u) h e = omega arith
least_of (suc fuel) n (b ∷ []) h e = rw (lt-ltb n 128 (omega arith)) (omega arith)
least_of (suc fuel) n (b ∷ c ∷ u) h e =
    elim (cases_lt n 128) [
      | inl small ↦ rw (lt-ltb n 128 small) (omega arith)
      | inr large ↦ rw (le-ltb n 128 large) (omega
          (arith, least_of fuel (n / 128) (c ∷ u) h.2 (omega arith)))
    ]

pub shortest : (s : Shape) (n : ℤ) → 0 < s.most → s.top < 128 → s.most ≤ 10
    → zigzag n < (s.top + 1) * 128 ^ (s.most - 1) → IsShortest s n (shortest_text n)
unfolding shortest_text
shortest s n some low deep h =
    let f = Fits_of 9 s.most s.top (zigzag n) some low deep h in
    record {
      spells = record { groups = f.0.groups; count = f.0.count; top = f.0.last; sum = f.1 };
      least = λ u spells. least_of 9 (zigzag n) u spells.groups spells.sum;
    }

pub varint_fits : (n : ℤ) → FitsSigned w32 n → zigzag n < 16 * 128 ^ 4
varint_fits (pos n) h = omega arith
varint_fits (negsuc n) h = omega arith

pub varlong_fits : (n : ℤ) → FitsSigned w64 n → zigzag n < 2 * 128 ^ 9
varlong_fits (pos n) h = omega arith
varlong_fits (negsuc n) h = omega arith
