-- What is read is spelled so, and what is spelled so is read: the tools.
use Rattle.std.proofs.Common.{◌≡◌, ℕ, zero, suc, ℤ, ◌+◌, ◌<◌}
use Rattle.std.proofs.Common.{List, [], ◌∷◌, ◌++◌, length, drop, get_or}
use Rattle.std.proofs.Common.{Option, Some, None, Result, Ok, Err, refl, sym, ap, ◌∙◌, subst}
use Rattle.std.proofs.Common.{append_assoc, arith, inl, inr}
use Rattle.std.proofs.lemmas.Bool.{cases_lt}
use Rattle.std.proofs.lemmas.List.{drop_at, append-nil}
use Rattle.std.proofs.lemmas.List.{get_or-append-add, get_or_append_left, get_or_past}
use Rattle.kx_varint.specs.declared.fault.VarFault.{VarFault}
use Rattle.kx_varint.specs.Varint.{Shape, Spells, value_at}
use Rattle.kx_varint.proofs.Laws.{value_again, value_takes}
use Rattle.kx_varint.specs.Text.{IsBytes, ◌⊳◌, Several, ◌>>=◌, after, varint_at, many}

pub IsBytes-back : (bytes front back : List ℕ) → bytes ≡ front ++ back → IsBytes bytes
    → IsBytes back
IsBytes-back bytes front back e h i =
    let at : get_or bytes (length front + i) 0 ≡ get_or back i 0 =
    ap (λ (x : List ℕ). get_or x (length front + i) 0) e ∙ get_or-append-add front back i 0 in
    rw (← at) (h (length front + i))

pub IsBytes-front : (bytes front back : List ℕ) → bytes ≡ front ++ back → IsBytes bytes
    → IsBytes front
IsBytes-front bytes front back e h i =
    elim (cases_lt i (length front)) [
      | inl lt ↦ rw (sym (ap (λ (x : List ℕ). get_or x i 0) e
          ∙ get_or_append_left front back 0 i lt)) (h i)
      | inr le ↦ rw (get_or_past front i 0 le) (omega arith)
    ]

-- what a reader took from the front
pub record Took {A : Type 0} (P : A → List ℕ → Type 0) (bytes : List ℕ) (a : A)
    (rest : List ℕ) : Type 0 where
  pub text : List ℕ
  pub is : P a text
  pub parts : bytes ≡ text ++ rest
  pub fits : IsBytes rest

pub record Agrees {A : Type 0} (P : A → List ℕ → Type 0)
    (R : List ℕ → Option (A × List ℕ)) : Type 0 where
  pub takes : (bytes : List ℕ) (x : A × List ℕ) → IsBytes bytes → R bytes ≡ Some x
      → Took P bytes x.0 x.1
  pub again : (a : A) (t rest : List ℕ) → P a t → R (t ++ rest) ≡ Some (a, rest)

pub some_bind : {A B : Type 0} (o : Option A) (f : A → Option B) (y : B) → (o >>= f) ≡ Some y
    → (x : A) × (o ≡ Some x) × (f x ≡ Some y)
some_bind None f y e = absurd cc
some_bind (Some x) f y e = (x, refl, e)

abbrev some : {A : Type 0} → A → Option A
some x = Some x

pub some_is : {A : Type 0} (x y : A) → some x ≡ some y → x ≡ y
some_is x y e = cc

-- ---- a part, and what comes after it

pub join : {A : Type 0} {P : A → List ℕ → Type 0} {Q : List ℕ
    → Type 0} {bytes : List ℕ} {a : A} {rest : List ℕ} → Took P bytes a rest → Q rest
    → (P a ⊳ Q) bytes
join {rest = rest} t q = record {
  front = t.text;
  back = rest;
  first = t.is;
  second = q;
  parts = t.parts;
}

pub run : {A : Type 0} {P : A → List ℕ → Type 0} {R : List ℕ → Option (A × List ℕ)} {Q : List ℕ
    → Type 0} (g : Agrees P R) (a : A) (t : List ℕ) (j : (P a ⊳ Q) t) → R t ≡ Some (a, j.back)
run {R = R} g a t j = ap R j.parts ∙ g.again a j.front j.back j.first

pub run_with : {A : Type 0} {P : A → List ℕ → Type 0} {R : List ℕ
    → Option (A × List ℕ)} {Q : List ℕ → Type 0} (g : Agrees P R) (a : A) (t rest : List ℕ)
    (j : (P a ⊳ Q) t) → R (t ++ rest) ≡ Some (a, j.back ++ rest)
run_with {R = R} g a t rest j = ap (λ (x : List ℕ). R (x ++ rest)) j.parts
    ∙ ap R (append_assoc j.front j.back rest) ∙ g.again a j.front (j.back ++ rest) j.first

-- ---- numbers

rest_is : (bytes t rest : List ℕ) (k : ℕ) → bytes ≡ t ++ rest → k ≡ length t → drop k bytes ≡ rest
rest_is bytes t rest k e f = rw (e, f) (drop_at t rest (length t) refl)

after_ok : (bytes : List ℕ) (r : Result (ℤ × ℕ) VarFault) (x : ℤ × List ℕ) → after bytes r ≡ Some x
    → (y : ℤ × ℕ) × (r ≡ Ok y) × ((y.0, drop y.1 bytes) ≡ x)
after_ok bytes (Ok y) x e = (y, refl, some_is _ _ e)
after_ok bytes (Err f) x e = absurd cc

varint_takes : (s : Shape) → 0 < s.most → s.top < 128 → (bytes : List ℕ) (x : ℤ × List ℕ)
    → IsBytes bytes → varint_at s bytes ≡ Some x → Took (Spells s) bytes x.0 x.1
unfolding varint_at
varint_takes s some low bytes x fits e =
    let o = after_ok bytes (value_at s bytes) x e in
    let v = value_takes s bytes o.0 some low fits o.1 in
    let rest : drop o.0.1 bytes ≡ v.1 = rest_is bytes v.0 v.1 o.0.1 v.2.parts v.2.count in
    let is : (o.0.0, v.1) ≡ x = ap (λ (r : List ℕ). (o.0.0, r)) (sym rest) ∙ o.2 in
    subst (λ (y : ℤ × List ℕ). Took (Spells s) bytes y.0 y.1) is
    (record {
      text = v.0;
      is = v.2.spells;
      parts = v.2.parts;
      fits = IsBytes-back bytes v.0 v.1 v.2.parts fits;
    })

varint_again : (s : Shape) (n : ℤ) (t rest : List ℕ) → Spells s n t
    → varint_at s (t ++ rest) ≡ Some (n, rest)
unfolding varint_at
varint_again s n t rest h = ap (after (t ++ rest)) (value_again s n t rest h)
    ∙ ap (λ (r : List ℕ). Some (n, r)) (drop_at t rest (length t) refl)

pub varint_agrees : (s : Shape) → 0 < s.most → s.top < 128 → Agrees (Spells s) (varint_at s)
varint_agrees s some low = record { takes = varint_takes s some low; again = varint_again s }

-- ---- two parts

pub both : {A B : Type 0} {P : A → List ℕ → Type 0} {Q : B → List ℕ
    → Type 0} {bytes : List ℕ} {a : A} {mid : List ℕ} {b : B} {rest : List ℕ} → Took P bytes a mid
    → Took Q mid b rest → (x : List ℕ) × (bytes ≡ x ++ rest) × (P a ⊳ Q b) x
both {rest = rest} t u = (
  t.text ++ u.text,
  t.parts ∙ ap (λ (x : List ℕ). t.text ++ x) u.parts
      ∙ sym (append_assoc t.text u.text rest),
  record { front = t.text; back = u.text; first = t.is; second = u.is; parts = refl },
)

pub then : {P Q : List ℕ → Type 0} (x y : List ℕ) → P x → Q y → (P ⊳ Q) (x ++ y)
then x y p q = record { front = x; back = y; first = p; second = q; parts = refl }

-- ---- several, which the bytes end with

pub many_takes : {A : Type 0} (P : ℕ → A → List ℕ → Type 0)
    (read : ℕ → List ℕ → Option (A × List ℕ)) → ((i : ℕ) → Agrees (P i) (read i))
    → (i n : ℕ) (bytes : List ℕ) (xs : List A) → IsBytes bytes → many read i n bytes ≡ Some xs
    → Several P i xs bytes × (length xs ≡ n)
unfolding many
many_takes P read g i zero [] xs fits e = subst (λ ys. Several P i ys [] × (length ys ≡ 0))
    (some_is [] xs e) (refl, refl)
many_takes P read g i zero (b ∷ bytes) xs fits e = absurd cc
many_takes P read g i (suc n) bytes xs fits e =
    let a = some_bind (read i bytes) (λ x. many read (i + 1) n x.1 >>= λ ys. Some
    (x.0 ∷ ys)) xs e in
    let b = some_bind (many read (i + 1) n a.0.1) (λ ys. Some (a.0.0 ∷ ys)) xs a.2 in
    let t = (g i).takes bytes a.0 fits a.1 in
    let others = many_takes P read g (i + 1) n a.0.1 b.0 t.fits b.1 in
    subst (λ ys. Several P i ys bytes × (length ys ≡ suc n)) (some_is (a.0.0 ∷ b.0) xs b.2)
    (join t others.0, ap suc others.1)

pub many_again : {A : Type 0} (P : ℕ → A → List ℕ → Type 0)
    (read : ℕ → List ℕ → Option (A × List ℕ)) → ((i : ℕ) → Agrees (P i) (read i))
    → (i : ℕ) (xs : List A) (t : List ℕ) → Several P i xs t → many read i (length xs) t ≡ Some xs
unfolding many
many_again P read g i [] t h = ap (many read i 0) h
many_again P read g i (x ∷ xs) t h = rw (
  run (g i) x t h,
  many_again P read g (i + 1) xs h.back h.second,
) refl

pub several_push : {A : Type 0} (P : ℕ → A → List ℕ → Type 0) (i : ℕ) (xs : List A) (t : List ℕ)
    (x : A) (u : List ℕ) → Several P i xs t → P (i + length xs) x u
    → Several P i (xs ++ x ∷ []) (t ++ u)
several_push P i [] t x u h p =
    let at : P i x u = subst (λ (k : ℕ). P k x u) (omega arith) p in
    record {
      front = u;
      back = [];
      first = at;
      second = refl;
      parts = ap (λ (y : List ℕ). y ++ u) h ∙ sym (append-nil u);
    }
several_push P i (y ∷ xs) t x u h p =
    let at : P (i + 1 + length xs) x u = subst (λ (k : ℕ). P k x u) (omega arith) p in
    record {
      front = h.front;
      back = h.back ++ u;
      first = h.first;
      second = several_push P (i + 1) xs h.back x u h.second at;
      parts = ap (λ (z : List ℕ). z ++ u) h.parts ∙ append_assoc h.front h.back u;
    }
