-- A reader and what a text is agree: what is read is spelled so, what is spelled so is read whatever
-- follows it, and of a text that is cut short the reader says so. The tools.
use Rattle.std.proofs.Common.{◌≡◌, ℕ, zero, suc, ◌<◌, Bool, true, false, cond}
use Rattle.std.proofs.Common.{List, [], ◌∷◌, ◌++◌, length, Result, Ok, Err, refl, sym, ap, ◌∙◌}
use Rattle.std.proofs.Common.{subst, append_assoc, arith, ◌⊎◌, inl, inr}
use Rattle.std.proofs.lemmas.List.{length-append}
use Rattle.kx_varint.specs.Text.{IsBytes, ◌⊳◌}
use Rattle.kx_varint.proofs.Agree.{IsBytes-back, IsBytes-front, Took}
use Rattle.kx_kafka_types.specs.declared.fault.KafkaFault.{KafkaFault}
use Rattle.kx_kafka_types.specs.declared.fault.KafkaFault.TheVariants as fault
use Rattle.kx_kafka_types.specs.Reading.{Reader, ◌>>=◌, goes_on, gives, fails, judged, repeated}
use Rattle.kx_kafka_types.specs.Spelling.{Either, Each}

pub record Agrees {A : Type 0} (P : A → List ℕ → Type 0) (R : Reader A) : Type 0 where
  pub takes : (bytes : List ℕ) (x : A × List ℕ) → IsBytes bytes → R bytes ≡ Ok x
      → Took P bytes x.0 x.1
  pub again : (a : A) (t rest : List ℕ) → P a t → R (t ++ rest) ≡ Ok (a, rest)
  pub cuts : (a : A) (t more : List ℕ) → IsBytes (t ++ more) → 0 < length more → P a (t ++ more)
      → R t ≡ Err fault.Short

------ results

abbrev ok_of : {A : Type 0} → A → Result A KafkaFault
ok_of x = Ok x

pub ok_is : {A : Type 0} (x y : A) → ok_of x ≡ ok_of y → x ≡ y
ok_is x y e = cc

pub ok_bind : {A B : Type 0} (o : Result (A × List ℕ) KafkaFault) (next : A → Reader B)
    (y : B × List ℕ) → goes_on next o ≡ Ok y
    → (x : A × List ℕ) × (o ≡ Ok x) × (next x.0 x.1 ≡ Ok y)
ok_bind (Ok x) next y e = (x, refl, e)
ok_bind (Err f) next y e = absurd cc

------ a text in two parts that is cut somewhere

pub record InFront (t front : List ℕ) : Type 0 where
  pub left : List ℕ
  pub some : 0 < length left
  pub is : front ≡ t ++ left

pub record Behind (t more front back : List ℕ) : Type 0 where
  pub over : List ℕ
  pub is : t ≡ front ++ over
  pub rest : back ≡ over ++ more

tails : (x y : ℕ) (s t : List ℕ) → x ∷ s ≡ y ∷ t → (x ≡ y) × (s ≡ t)
tails x y s t e = (cc, cc)

divide_on : (x y : ℕ) (t more front back : List ℕ) → x ≡ y
    → (InFront t front ⊎ Behind t more front back)
    → (InFront (x ∷ t) (y ∷ front) ⊎ Behind (x ∷ t) more (y ∷ front) back)
divide_on x y t more front back e (inl h) = inl (record {
  left = h.left;
  some = h.some;
  is = let f = h.is in cc;
})
divide_on x y t more front back e (inr h) = inr (record {
  over = h.over;
  is = let f = h.is in cc;
  rest = h.rest;
})

pub divide : (t more front back : List ℕ) → t ++ more ≡ front ++ back
    → InFront t front ⊎ Behind t more front back
divide [] more [] back e = inr (record { over = []; is = refl; rest = sym e })
divide [] more (y ∷ front) back e =
    inl (record { left = y ∷ front; some = omega arith; is = refl })
divide (x ∷ t) more [] back e = inr (record { over = x ∷ t; is = refl; rest = sym e })
divide (x ∷ t) more (y ∷ front) back e =
    let h = tails x y (t ++ more) (front ++ back) e in
    divide_on x y t more front back h.0 (divide t more front back h.1)

------ the same relation in other words

pub same : {A : Type 0} {P Q : A → List ℕ → Type 0} {R : Reader A} → Agrees P R
    → ((a : A) (t : List ℕ) → P a t → Q a t) → ((a : A) (t : List ℕ) → Q a t → P a t)
    → Agrees Q R
same g to from = record {
  takes = λ bytes x fits e.
      let t = g.takes bytes x fits e in
      record { text = t.text; is = to x.0 t.text t.is; parts = t.parts; fits = t.fits };
  again = λ a t rest h. g.again a t rest (from a t h);
  cuts = λ a t more fits some h. g.cuts a t more fits some (from a (t ++ more) h);
}

------ one reader after the other

pub after : {A B : Type 0} {P : A → List ℕ → Type 0} {R : Reader A} {next : A → Reader B}
    {Q : A → B → List ℕ → Type 0} → Agrees P R → ((a : A) → Agrees (Q a) (next a))
    → Agrees (λ b text. (a : A) × (P a ⊳ Q a b) text) (R >>= next)
after {A = A} {P = P} {R = R} {next = next} {Q = Q} g h = record {
  takes = λ bytes y fits e.
      let a = ok_bind (R bytes) next y e in
      let t = g.takes bytes a.0 fits a.1 in
      let u = (h a.0.0).takes a.0.1 y t.fits a.2 in
      record {
        text = t.text ++ u.text;
        is = (
          a.0.0,
          record { front = t.text; back = u.text; first = t.is; second = u.is; parts = refl },
        );
        parts = t.parts ∙ ap (λ (x : List ℕ). t.text ++ x) u.parts
            ∙ sym (append_assoc t.text u.text y.1);
        fits = u.fits;
      };
  again = λ b text rest s.
      let j = s.1 in
      ap (λ (x : List ℕ). goes_on next (R (x ++ rest))) j.parts
      ∙ ap (λ (x : List ℕ). goes_on next (R x)) (append_assoc j.front j.back rest)
      ∙ ap (goes_on next) (g.again s.0 j.front (j.back ++ rest) j.first)
      ∙ (h s.0).again b j.back rest j.second;
  cuts = λ b t more fits some s.
      let j = s.1 in
      let front_fits = IsBytes-front (t ++ more) j.front j.back j.parts fits in
      let back_fits = IsBytes-back (t ++ more) j.front j.back j.parts fits in
      elim (divide t more j.front j.back j.parts) [
        | inl d ↦ ap (goes_on next) (g.cuts s.0 t d.left (subst IsBytes d.is front_fits) d.some
            (subst (P s.0) d.is j.first))
        | inr d ↦ ap (λ (x : List ℕ). goes_on next (R x)) d.is
            ∙ ap (goes_on next) (g.again s.0 j.front d.over j.first)
            ∙ (h s.0).cuts b d.over more (subst IsBytes d.rest back_fits) some
            (subst (Q s.0 b) d.rest j.second)
      ];
}

-- a value that is made of what was read
pub mapped : {A B : Type 0} {P : A → List ℕ → Type 0} {R : Reader A} → Agrees P R
    → (f : A → B)
    → Agrees (λ b text. (a : A) × (f a ≡ b) × P a text) (R >>= λ a. gives (f a))
mapped {A = A} {B = B} {P = P} {R = R} g f = record {
  takes = λ bytes y fits e.
      let a = ok_bind (R bytes) (λ a. gives (f a)) y e in
      let t = g.takes bytes a.0 fits a.1 in
      let is : (f a.0.0, a.0.1) ≡ y = ok_is (f a.0.0, a.0.1) y a.2 in
      subst (λ (z : B × List ℕ). Took (λ b text. (a : A) × (f a ≡ b) × P a text) bytes z.0 z.1) is
      (record {
        text = t.text;
        is = (a.0.0, refl, t.is);
        parts = t.parts;
        fits = t.fits;
      });
  again = λ b text rest s.
      ap (goes_on (λ a. gives (f a))) (g.again s.0 text rest s.2) ∙ ap (λ (c : B). Ok (c, rest)) s.1;
  cuts = λ b t more fits some s. ap (goes_on (λ a. gives (f a))) (g.cuts s.0 t more fits some s.2);
}

------ readers that read nothing

nothing_cut : (t more : List ℕ) → 0 < length more → t ++ more ≡ [] → ⊥
nothing_cut t more some e =
    let h : length (t ++ more) ≡ 0 = ap length e in
    omega (arith, length-append t more)

pub nothing : {B : Type 0} (o : Result B KafkaFault)
    → Agrees (λ b text. (o ≡ Ok b) × (text ≡ [])) (judged o)
nothing {B = B} (Ok x) = record {
  takes = λ bytes y fits e.
      let is : (x, bytes) ≡ y = ok_is (x, bytes) y e in
      subst (λ (z : B × List ℕ). Took (λ b text. (ok_of x ≡ Ok b) × (text ≡ [])) bytes z.0 z.1) is
      (record { text = []; is = (refl, refl); parts = refl; fits = fits });
  again = λ b t rest h.
      ap (λ (s : List ℕ). judged (ok_of x) (s ++ rest)) h.1
      ∙ ap (λ (c : B). Ok (c, rest)) (ok_is x b h.0);
  cuts = λ b t more fits some h. absurd (nothing_cut t more some h.1);
}
nothing {B = B} (Err f) = record {
  takes = λ bytes y fits e. absurd cc;
  again = λ b t rest h. let e = h.0 in absurd cc;
  cuts = λ b t more fits some h. let e = h.0 in absurd cc;
}

pub given : {B : Type 0} (x : B) → Agrees (λ b text. (x ≡ b) × (text ≡ [])) (gives x)
given x = record {
  takes = λ bytes y fits e.
      let g = (nothing (ok_of x)).takes bytes y fits e in
      record { text = g.text; is = (ok_is x y.0 g.is.0, g.is.1); parts = g.parts; fits = g.fits };
  again = λ b t rest h. (nothing (ok_of x)).again b t rest (ap ok_of h.0, h.1);
  cuts = λ b t more fits some h. absurd (nothing_cut t more some h.1);
}

pub never : {B : Type 0} (f : KafkaFault) → Agrees (λ (b : B) text. ⊥) (fails f)
never f = record {
  takes = λ bytes y fits e. absurd cc;
  again = λ b t rest h. absurd h;
  cuts = λ b t more fits some h. absurd h;
}

------ one or the other

pub either : {A : Type 0} {P Q : A → List ℕ → Type 0} {R S : Reader A} (b : Bool) → Agrees P R
    → Agrees Q S → Agrees (λ a text. Either b (P a) (Q a) text) (cond b R S)
either true g h = g
either false g h = h

------ pairs and lists

pub pair : {A B : Type 0} {P : A → List ℕ → Type 0} {Q : B → List ℕ → Type 0} {R : Reader A}
    {S : Reader B} → Agrees P R → Agrees Q S
    → Agrees (λ (v : A × B) text. (P v.0 ⊳ Q v.1) text)
    (R >>= λ x. S >>= λ xs. gives {A = A × B} (x, xs))
pair {A = A} {B = B} {P = P} {Q = Q} g h =
    same (after g (λ x. mapped h (λ xs. (x, xs))))
    (λ v t s.
    let j = s.1 in
    subst (λ (w : A × B). (P w.0 ⊳ Q w.1) t) j.second.1
    (record {
      front = j.front;
      back = j.back;
      first = j.first;
      second = j.second.2;
      parts = j.parts;
    }))
    (λ v t j. (
      v.0,
      record {
        front = j.front;
        back = j.back;
        first = j.first;
        second = (v.1, refl, j.second);
        parts = j.parts;
      },
    ))

abbrev pub SoMany : {A : Type 0} → (A → List ℕ → Type 0) → ℕ → List A → List ℕ → Type 0
SoMany P n xs text = (length xs ≡ n) × Each P xs text

consed : {A : Type 0} (P : A → List ℕ → Type 0) (n : ℕ) (xs : List A) (t : List ℕ)
    → SoMany P (suc n) xs t
    → (x : A) × (P x ⊳ (λ u. (ys : List A) × (x ∷ ys ≡ xs) × SoMany P n ys u)) t
consed P n [] t h = let e = h.0 in absurd (omega arith)
consed P n (x ∷ xs) t h =
    let j = h.1 in
    let e = h.0 in (
      x,
      record {
        front = j.front;
        back = j.back;
        first = j.first;
        second = (xs, refl, (omega arith, j.second));
        parts = j.parts;
      },
    )

pub so_many : {A : Type 0} {P : A → List ℕ → Type 0} {R : Reader A} → Agrees P R → (n : ℕ)
    → Agrees (SoMany P n) (repeated R n)
unfolding repeated
so_many {A = A} {P = P} g zero = same (given []) (λ xs t h.
    subst (λ (ys : List A). SoMany P zero ys t) h.0 (refl, h.1)) (λ xs t h. empty_is P xs t h)
  where
    empty_is : {A : Type 0} (P : A → List ℕ → Type 0) (xs : List A) (t : List ℕ)
        → SoMany P zero xs t → ([] ≡ xs) × (t ≡ [])
    empty_is P [] t h = (refl, h.1)
    empty_is P (x ∷ xs) t h = let e = h.0 in absurd (omega arith)
so_many {A = A} {P = P} g (suc n) =
    same (after g (λ x. mapped (so_many g n) (λ xs. x ∷ xs)))
    (λ xs t s.
    let j = s.1 in
    let ys = j.second.2 in
    subst (λ (zs : List A). SoMany P (suc n) zs t) j.second.1 (
      ap suc ys.0,
      record {
        front = j.front;
        back = j.back;
        first = j.first;
        second = ys.1;
        parts = j.parts;
      },
    ))
    (consed P n)
