-- What is read is spelled so, and what is spelled so is read.
use Rattle.std.proofs.Common.{◌≡◌, ℕ, suc, ℤ, pos, negsuc, ◌+◌, ◌-◌, ◌*◌, ◌%◌, ◌<◌, ◌≤◌, ◌⊎◌, ◌↔◌}
use Rattle.std.proofs.Common.{Bool, true, false, cond, eqb, ltb, ◌&&◌, List, [], ◌∷◌, ◌++◌, length}
use Rattle.std.proofs.Common.{take, drop, get_or, Result, Ok, Err, refl, sym, ap, ◌∙◌, subst}
use Rattle.std.proofs.Common.{add-one, arith, lit<, inl, inr}
use Rattle.std.specs.Prelude.{IfOk}
use Rattle.std.proofs.lemmas.Bool.{cases_lt, cases_eq, ltb-true, ltb-false, lt-ltb, le-ltb, eq-eqb}
use Rattle.std.proofs.lemmas.Bool.{ne_eqb}
use Rattle.std.proofs.lemmas.List.{length-append, length-take, take-append-drop, take_at}
use Rattle.std.proofs.lemmas.List.{get_or_past}
use Rattle.std.proofs.Math.Seq.{get_or-append_seam}
use Rattle.kx_varint.specs.declared.fault.VarFault.{VarFault}
use Rattle.kx_varint.specs.declared.fault.VarFault.TheVariants.{Short, TooLong}
use Rattle.kx_varint.specs.Text.{IsBytes}
use Rattle.kx_varint.specs.Varint.{Shape, IsGroups, groups_sum, zigzag, unzigzag, Spells, IsStart}
use Rattle.kx_varint.specs.Varint.{groups_at, with_low, signed, value_at, Reads}

-- ---- signs

pub zigzag_back : (n : ℤ) → unzigzag (zigzag n) ≡ n
zigzag_back (pos n) =
    let even : eqb (2 * n % 2) 0 ≡ true = eq-eqb (2 * n % 2) 0 (omega arith) in
    rw even (ap pos (omega arith))
zigzag_back (negsuc n) =
    let odd : eqb ((2 * n + 1) % 2) 0 ≡ false = ne_eqb ((2 * n + 1) % 2) 0 (omega arith) in
    rw odd (ap negsuc (omega arith))

pub zigzag_of : (m : ℕ) → zigzag (unzigzag m) ≡ m
zigzag_of m =
    elim (cases_eq (m % 2) 0) [
      | inl even ↦ rw (eq-eqb (m % 2) 0 even) (omega arith)
      | inr odd ↦ rw (ne_eqb (m % 2) 0 odd) (omega arith)
    ]

-- ---- groups

IsBytes-rest : (b : ℕ) (bytes : List ℕ) → IsBytes (b ∷ bytes) → IsBytes bytes
IsBytes-rest b bytes h i = h (suc i)

-- groups, as many as there may be, the one at the last place up to top
pub record Fits (most top : ℕ) (t : List ℕ) : Type 0 where
  pub groups : IsGroups t
  pub count : length t ≤ most
  pub last : get_or t (most - 1) 0 ≤ top

pub last_cons : (b : ℕ) (t : List ℕ) (m : ℕ) → 1 < m
    → get_or (b ∷ t) (m - 1) 0 ≡ get_or t (m - 1 - 1) 0
last_cons b t m many =
    let e : m - 1 ≡ suc (m - 1 - 1) = omega arith in
    ap (λ i. get_or (b ∷ t) i 0) e

pub groups_cons : (b : ℕ) (t : List ℕ) → 128 ≤ b → b < 256 → IsGroups t → IsGroups (b ∷ t)
groups_cons b [] low high h = absurd h
groups_cons b (c ∷ t) low high h = (low, high, h)

-- a group that is not the last one, and the others
pub record Front (b : ℕ) (t : List ℕ) : Type 0 where
  pub low : 128 ≤ b
  pub high : b < 256
  pub others : IsGroups t

Fits_front : (most top b c : ℕ) (t : List ℕ) → Fits most top (b ∷ c ∷ t) → (1 < most)
    × Front b (c ∷ t) × Fits (most - 1) top (c ∷ t)
Fits_front most top b c t h =
    let many : 1 < most = omega (arith, h.count) in (
      many,
      record { low = h.groups.0; high = h.groups.1; others = h.groups.2 },
      record {
        groups = h.groups.2;
        count = omega (arith, h.count);
        last = rw (← last_cons b (c ∷ t) most many) h.last;
      },
    )

-- the two tests
no_fault : (most top b : ℕ) → (most ≡ 1 → b ≤ top) → (eqb most 1 && ltb top b) ≡ false
no_fault most top b h =
    elim (cases_eq most 1) [
      | inl one ↦ rw (eq-eqb most 1 one, le-ltb top b (h one)) refl
      | inr other ↦ rw (ne_eqb most 1 other) refl
    ]

low_from : (most top b : ℕ) → (eqb most 1 && ltb top b) ≡ false → most ≡ 1 → b ≤ top
low_from most top b e one = ltb-false top b (rw (eq-eqb most 1 one) at e)

pub last_fits : (most top b : ℕ) → 0 < most → b < 128 → (most ≡ 1 → b ≤ top)
    → Fits most top (b ∷ [])
last_fits most top b some low h =
    record {
      groups = low;
      count = omega arith;
      last = elim (cases_lt 1 most) [
        | inl many ↦ rw (last_cons b [] most many) (omega arith)
        | inr one ↦ let e : most ≡ 1 = omega arith in
            subst (λ (m : ℕ). get_or (b ∷ []) (m - 1) 0 ≤ top) (sym e) (h e)
      ];
    }

fits_last : (most top b : ℕ) → Fits most top (b ∷ []) → most ≡ 1 → b ≤ top
fits_last most top b h one = subst (λ (m : ℕ). get_or (b ∷ []) (m - 1) 0 ≤ top) one h.last

pub groups_again : (most top : ℕ) (t rest : List ℕ) → Fits most top t
    → groups_at most top (t ++ rest) ≡ Ok (groups_sum t, length t)
groups_again most top [] rest h = absurd h.groups
groups_again most top (b ∷ []) rest h =
    rw (no_fault most top b (fits_last most top b h), lt-ltb b 128 h.groups)
    (ap (λ n. Ok (n, 1)) (omega (arith, h.groups)))
groups_again most top (b ∷ c ∷ t) rest h =
    let f = Fits_front most top b c t h in
    rw (no_fault most top b (λ e. omega arith), le-ltb b 128 f.1.low)
    (ap (with_low b) (groups_again (most - 1) top (c ∷ t) rest f.2)
    ∙ ap (λ (k : ℕ). Ok (groups_sum (b ∷ c ∷ t), k)) (add-one (suc (length t))))

-- what goes on is read as too short
pub groups_start : (most top : ℕ) (bytes more : List ℕ) → 0 < length more
    → Fits most top (bytes ++ more) → groups_at most top bytes ≡ Err Short
groups_start most top [] more some h = refl
groups_start most top (b ∷ bytes) [] some h = absurd (omega arith)
groups_start most top (b ∷ []) (c ∷ more) some h =
    let f = Fits_front most top b c more h in
    rw (no_fault most top b (λ e. omega arith), le-ltb b 128 f.1.low) refl
groups_start most top (b ∷ a ∷ bytes) (c ∷ more) some h =
    let f = Fits_front most top b a (bytes ++ c ∷ more) h in
    rw (no_fault most top b (λ e. omega arith), le-ltb b 128 f.1.low)
    (ap (with_low b) (groups_start (most - 1) top (a ∷ bytes) (c ∷ more) some f.2))

-- ---- what reading met

pub record Met (most top : ℕ) (bytes : List ℕ) (r : ℕ × ℕ) (t rest : List ℕ) : Type 0 where
  pub parts : bytes ≡ t ++ rest
  pub fits : Fits most top t
  pub is : r ≡ (groups_sum t, length t)

-- each byte at least 128, and room for more
pub record Open (most : ℕ) (bytes : List ℕ) : Type 0 where
  pub room : length bytes < most
  pub goes_on : (more : List ℕ) → IsGroups more → IsGroups (bytes ++ more)

abbrev done : ℕ × ℕ → Result (ℕ × ℕ) VarFault
done x = Ok x

ok_fst : (x y : ℕ × ℕ) → done x ≡ done y → x ≡ y
ok_fst x y e = cc

-- which branch gave this
pub chosen : {A : Type 0} (b : Bool) (x y z : A) → cond b x y ≡ z
    → ((b ≡ true) × (x ≡ z)) ⊎ ((b ≡ false) × (y ≡ z))
chosen true x y z e = inl (refl, e)
chosen false x y z e = inr (refl, e)

with_low_ok : (b : ℕ) (x : Result (ℕ × ℕ) VarFault) (r : ℕ × ℕ) → with_low b x ≡ Ok r → (q : ℕ × ℕ)
    × (x ≡ Ok q) × (r ≡ (b % 128 + 128 * q.0, q.1 + 1))
with_low_ok b (Ok q) r e = (q, refl, sym (ok_fst _ _ e))
with_low_ok b (Err f) r e = absurd cc

with_low_short : (b : ℕ) (x : Result (ℕ × ℕ) VarFault) → with_low b x ≡ Err Short → x ≡ Err Short
with_low_short b (Ok q) e = absurd cc
with_low_short b (Err f) e = cc

Met_more : (most top b : ℕ) (bytes : List ℕ) (q : ℕ × ℕ) (t rest : List ℕ) → 0 < most → 128 ≤ b
    → b < 256 → (most ≡ 1 → ⊥) → Met (most - 1) top bytes q t rest
    → Met most top (b ∷ bytes) (b % 128 + 128 * q.0, q.1 + 1) (b ∷ t) rest
Met_more most top b bytes q t rest some low high many m =
    record {
      parts = ap (λ (x : List ℕ). b ∷ x) m.parts;
      fits = record {
        groups = groups_cons b t low high m.fits.groups;
        count = omega (arith, m.fits.count, many);
        last = let h : 1 < most = omega (arith, many) in
            rw (last_cons b t most h) m.fits.last;
      };
      is = ap (λ (p : ℕ × ℕ). (b % 128 + 128 * p.0, p.1 + 1)) m.is
          ∙ ap (λ (k : ℕ). (groups_sum (b ∷ t), k)) (add-one (length t));
    }

pub groups_takes : (most top : ℕ) (bytes : List ℕ) (r : ℕ × ℕ) → 0 < most → top < 128
    → IsBytes bytes → groups_at most top bytes ≡ Ok r → (t : List ℕ) × (rest : List ℕ)
    × Met most top bytes r t rest
groups_takes most top [] r some low fits e = absurd cc
groups_takes most top (b ∷ bytes) r some low fits e =
    elim (chosen (eqb most 1 && ltb top b) (Err TooLong)
    (cond (ltb b 128) (Ok (b, 1)) (with_low b (groups_at (most - 1) top bytes))) (Ok r) e) [
      | inl fault ↦ absurd cc
      | inr fine ↦ elim (chosen (ltb b 128) (Ok (b, 1))
          (with_low b (groups_at (most - 1) top bytes)) (Ok r) fine.1) [
            | inl last ↦
                let small : b < 128 = ltb-true b 128 last.0 in (
                  b ∷ [],
                  bytes,
                  record {
                    parts = refl;
                    fits = last_fits most top b some small (low_from most top b fine.0);
                    is = sym (ok_fst _ _ last.1) ∙ ap (λ (n : ℕ). (n, 1)) (omega arith);
                  },
                )
            | inr more ↦
                let large : 128 ≤ b = ltb-false b 128 more.0 in
                let many : most ≡ 1 → ⊥ = λ one. omega (arith, low_from most top b fine.0 one) in
                let q = with_low_ok b (groups_at (most - 1) top bytes) r more.1 in
                let inner = groups_takes (most - 1) top bytes q.0 (omega (arith, many)) low
                (IsBytes-rest b bytes fits) q.1 in (
                  b ∷ inner.0,
                  inner.1,
                  subst (λ (p : ℕ × ℕ). Met most top (b ∷ bytes) p
                      (b ∷ inner.0) inner.1) (sym q.2)
                      (Met_more most top b bytes q.0 inner.0 inner.1 some large
                      (fits 0) many inner.2),
                )
          ]
    ]

Open_more : (most b : ℕ) (bytes : List ℕ) → 0 < most → 128 ≤ b → b < 256 → Open (most - 1) bytes
    → Open most (b ∷ bytes)
Open_more most b bytes some low high o = record {
  room = omega (arith, o.room);
  goes_on = λ more g. groups_cons b (bytes ++ more) low high (o.goes_on more g);
}

pub groups_short : (most top : ℕ) (bytes : List ℕ) → 0 < most → top < 128 → IsBytes bytes
    → groups_at most top bytes ≡ Err Short → Open most bytes
groups_short most top [] some low fits e = record { room = some; goes_on = λ more g. g }
groups_short most top (b ∷ bytes) some low fits e =
    elim (chosen (eqb most 1 && ltb top b) (Err TooLong)
    (cond (ltb b 128) (Ok (b, 1)) (with_low b (groups_at (most - 1) top bytes)))
    (Err Short) e) [
      | inl fault ↦ absurd cc
      | inr fine ↦ elim (chosen (ltb b 128) (Ok (b, 1))
          (with_low b (groups_at (most - 1) top bytes)) (Err Short) fine.1) [
            | inl last ↦ absurd cc
            | inr more ↦
                let large : 128 ≤ b = ltb-false b 128 more.0 in
                let many : most ≡ 1 → ⊥ = λ one. omega (arith, low_from most top b fine.0 one) in
                Open_more most b bytes some large (fits 0)
                (groups_short (most - 1) top bytes (omega (arith, many)) low
                (IsBytes-rest b bytes fits) (with_low_short b
                (groups_at (most - 1) top bytes) more.1))
          ]
    ]

-- ---- numbers

pub Spells_from : (s : Shape) (t : List ℕ) → Fits s.most s.top t
    → Spells s (unzigzag (groups_sum t)) t
Spells_from s t f = record {
  groups = f.groups;
  count = f.count;
  top = f.last;
  sum = sym (zigzag_of (groups_sum t));
}

pub Fits_from : (s : Shape) (n : ℤ) (t : List ℕ) → Spells s n t → Fits s.most s.top t
Fits_from s n t h = record { groups = h.groups; count = h.count; last = h.top }

-- what is spelled is read, whatever follows it
pub value_again : (s : Shape) (n : ℤ) (t rest : List ℕ) → Spells s n t
    → value_at s (t ++ rest) ≡ Ok (n, length t)
value_again s n t rest h =
    ap signed (groups_again s.most s.top t rest (Fits_from s n t h))
    ∙ ap (λ (m : ℤ). Ok (m, length t)) (ap unzigzag h.sum ∙ zigzag_back n)

-- what is read is spelled so
pub record Spelled (s : Shape) (bytes : List ℕ) (n : ℤ) (k : ℕ) (t rest : List ℕ) : Type 0 where
  pub parts : bytes ≡ t ++ rest
  pub spells : Spells s n t
  pub count : k ≡ length t

signed_ok : (x : Result (ℕ × ℕ) VarFault) (r : ℤ × ℕ) → signed x ≡ Ok r → (q : ℕ × ℕ) × (x ≡ Ok q)
    × (r ≡ (unzigzag q.0, q.1))
signed_ok (Ok q) r e = (q, refl, cc)
signed_ok (Err f) r e = absurd cc

signed_short : (x : Result (ℕ × ℕ) VarFault) → signed x ≡ Err Short → x ≡ Err Short
signed_short (Ok q) e = absurd cc
signed_short (Err f) e = cc

pub value_takes : (s : Shape) (bytes : List ℕ) (r : ℤ × ℕ) → 0 < s.most → s.top < 128
    → IsBytes bytes → value_at s bytes ≡ Ok r → (t : List ℕ) × (rest : List ℕ)
    × Spelled s bytes r.0 r.1 t rest
value_takes s bytes r some low fits e =
    let q = signed_ok (groups_at s.most s.top bytes) r e in
    let m = groups_takes s.most s.top bytes q.0 some low fits q.1 in
    let is : r ≡ (unzigzag (groups_sum m.0), length m.0) =
    q.2 ∙ ap (λ (p : ℕ × ℕ). (unzigzag p.0, p.1)) m.2.is in (
      m.0,
      m.1,
      subst (λ (p : ℤ × ℕ). Spelled s bytes p.0 p.1 m.0 m.1) (sym is)
          (record { parts = m.2.parts; spells = Spells_from s m.0 m.2.fits; count = refl }),
    )

-- a 0 after fewer bytes than m + 1 leaves 0 at place m
zero_last : (bytes : List ℕ) (m top : ℕ) → length bytes ≤ m → get_or (bytes ++ 0 ∷ []) m 0 ≤ top
zero_last bytes m top h =
    elim (cases_eq m (length bytes)) [
      | inl e ↦ rw (e, get_or-append_seam bytes 0 [] 0) (omega arith)
      | inr ne ↦ rw (get_or_past (bytes ++ 0 ∷ []) m 0
          (omega (arith, length-append bytes (0 ∷ [])))) (omega arith)
    ]

front_is : (bytes t rest : List ℕ) (k : ℕ) → bytes ≡ t ++ rest → k ≡ length t → take k bytes ≡ t
front_is bytes t rest k e f = rw (e, f) (take_at t rest (length t) refl)

found : (s : Shape) (bytes : List ℕ) (r : Result (ℤ × ℕ) VarFault) → 0 < s.most → s.top < 128
    → IsBytes bytes → r ≡ value_at s bytes → IfOk r
    (λ x. (x.1 ≤ length bytes) × Spells s x.0 (take x.1 bytes))
found s bytes (Ok x) some low fits e =
    let v = value_takes s bytes x some low fits (sym e) in
    let front : take x.1 bytes ≡ v.0 = front_is bytes v.0 v.1 x.1 v.2.parts v.2.count in
    (omega (arith, v.2.count, length-append v.0 v.1, ap length v.2.parts), rw front v.2.spells)
found s bytes (Err f) some low fits e = tt

only : (s : Shape) (bytes : List ℕ) (n : ℤ) (k : ℕ) → k ≤ length bytes → Spells s n (take k bytes)
    → value_at s bytes ≡ Ok (n, k)
only s bytes n k within h =
    let again = value_again s n (take k bytes) (drop k bytes) h in
    let len : length (take k bytes) ≡ k = omega (arith, length-take k bytes) in
    rw (take-append-drop k bytes) at again ∙ ap (λ (m : ℕ). Ok (n, m)) len

short : (s : Shape) (bytes : List ℕ) → 0 < s.most → s.top < 128 → IsBytes bytes
    → (value_at s bytes ≡ Err Short) ↔ IsStart s bytes
short s bytes some low fits = (
  λ e.
      let o = groups_short s.most s.top bytes some low fits
      (signed_short (groups_at s.most s.top bytes) e) in
      let t = bytes ++ 0 ∷ [] in (
        unzigzag (groups_sum t),
        0 ∷ [],
        lit< tt,
        Spells_from s t (record {
          groups = o.goes_on (0 ∷ []) (lit< tt);
          count = omega (arith, o.room, length-append bytes (0 ∷ []));
          last = zero_last bytes (s.most - 1) s.top (omega (arith, o.room));
        }),
      ),
  λ h. ap signed (groups_start s.most s.top bytes h.1 h.2 (Fits_from s h.0 (bytes ++ h.1) h.3)),
)

pub reads : (s : Shape) (bytes : List ℕ) (r : Result (ℤ × ℕ) VarFault) → 0 < s.most → s.top < 128
    → IsBytes bytes → r ≡ value_at s bytes → Reads s bytes r
reads s bytes r some low fits e = record {
  found = found s bytes r some low fits e;
  only = λ n k within h. e ∙ only s bytes n k within h;
  short = (
    λ h. (short s bytes some low fits).0 (sym e ∙ h),
    λ h. e
        ∙ (short s bytes some low fits).1 h,
  );
  exact = e;
}
