-- A reader and a text agree: what is read is spelled so, and what is spelled so is read.
use Rattle.std.proofs.Common.{◌≡◌, ℕ, zero, suc, ℤ, ◌^◌, ◌<◌, ◌≤◌, Bool, true, false}
use Rattle.std.proofs.Common.{cond, ltb, List, [], ◌∷◌, ◌++◌, length, take, drop, Option, Some}
use Rattle.std.proofs.Common.{None}
use Rattle.std.proofs.Common.{Ok, Err, refl, sym, ap, ◌∙◌, subst, append_assoc, arith}
use Rattle.std.specs.List.{flat_map, AllByRecursion}
use Rattle.std.specs.Int.{Width, byte_len, cast_signed, cast_unsigned, to_be_bytes}
use Rattle.std.specs.Int.RustNames.{FitsSigned}
use Rattle.std.proofs.lemmas.Bool.{ltb-false, le-ltb}
use Rattle.std.proofs.lemmas.Int.{to_z-of_z}
use Rattle.std.proofs.lemmas.List.{take_at, drop_at, take-append-drop, length-append, length-take}
use Rattle.std.proofs.lemmas.List.Concat.{flat_map-cons}
use Rattle.kx_varint.specs.declared.fault.VarFault.{VarFault}
use Rattle.kx_varint.specs.declared.fault.VarFault.TheVariants.{Short}
use Rattle.kx_varint.specs.BigEndian.{place_value, unsigned_text}
use Rattle.kx_varint.specs.BigEndian.{signed_text}
use Rattle.kx_varint.specs.Text.{IsBytes}
use Rattle.kx_varint.proofs.FixedWidth.{IsWide, IsBytes-take, IsBytes-drop, below}
use Rattle.kx_message.specs.Reader.{Reader, ◌>>=◌, goes_on, gives, only, found, unsigned, signed}
use Rattle.kx_message.specs.Reader.{taken, repeated}

-- what a reader took from the front
pub record Took (text bytes rest : List ℕ) (F : Type 0) : Type 0 where
  pub parts : bytes ≡ text ++ rest
  pub others : IsBytes rest
  pub fits : F

-- with this text before anything the reader gives this value
pub record Again {A : Type 0} (read : Reader A) (text : List ℕ) (a : A) : Type 0 where
  pub back : (rest : List ℕ) → read (text ++ rest) ≡ Some (a, rest)

pub record Exact {A : Type 0} (text : A → List ℕ) (F : A → Type 0) (read : Reader A) : Type 0 where
  pub takes : (bytes : List ℕ) (x : A × List ℕ) → IsBytes bytes → read bytes ≡ Some x
      → Took (text x.0) bytes x.1 (F x.0)
  pub again : (a : A) → F a → Again read (text a) a

-- ---- one reader after the other

-- behind this front a reader completes what is spelled so
pub record Completes {M : Type 0} (text : M → List ℕ) (F : M → Type 0) (front : List ℕ)
    (read : Reader M) : Type 0 where
  pub takes : (bytes : List ℕ) (x : M × List ℕ) → IsBytes bytes → read bytes ≡ Some x
      → Took (text x.0) (front ++ bytes) x.1 (F x.0)

abbrev some_of : {A : Type 0} → A → Option A
some_of x = Some x

pub some_is : {A : Type 0} (x y : A) → some_of x ≡ some_of y → x ≡ y
some_is x y e = cc

bind_some : {A B : Type 0} (o : Option (A × List ℕ)) (next : A → Reader B) (y : B × List ℕ)
    → goes_on next o ≡ Some y → (x : A × List ℕ) × (o ≡ Some x) × (next x.0 x.1 ≡ Some y)
bind_some None next y e = absurd cc
bind_some (Some x) next y e = (x, refl, e)

pub field : {A M : Type 0} {text : A → List ℕ} {F : A → Type 0} {read : Reader A}
    {whole : M → List ℕ} {G : M → Type 0} {front : List ℕ} {next : A → Reader M}
    → Exact text F read → ((a : A) → F a → Completes whole G (front ++ text a) (next a))
    → Completes whole G front (read >>= next)
field {text = text} {read = read} {whole = whole} {G = G} {front = front} {next = next} g step =
    record {
      takes = λ bytes x fits e.
          let a = bind_some (read bytes) next x e in
          let t = g.takes bytes a.0 fits a.1 in
          let u = (step a.0.0 t.fits).takes a.0.1 x t.others a.2 in
          let joined : front ++ bytes ≡ (front ++ text a.0.0) ++ a.0.1 =
          ap (λ (r : List ℕ). front ++ r) t.parts ∙ sym (append_assoc front (text a.0.0) a.0.1) in
          record { parts = joined ∙ u.parts; others = u.others; fits = u.fits };
    }

pub done : {M : Type 0} {whole : M → List ℕ} {G : M → Type 0} {front : List ℕ} (m : M) → G m
    → front ≡ whole m → Completes whole G front (gives m)
done {M = M} {whole = whole} {G = G} {front = front} m g is = record {
  takes = λ bytes x fits e.
      let same : (m, bytes) ≡ x = some_is (m, bytes) x e in
      subst (λ (y : M × List ℕ). Took (whole y.0) (front ++ bytes) y.1 (G y.0)) same
      (record { parts = ap (λ (t : List ℕ). t ++ bytes) is; others = fits; fits = g });
}

pub took_of : {M : Type 0} {text : M → List ℕ} {F : M → Type 0} {read : Reader M}
    → Completes text F [] read → (bytes : List ℕ) (x : M × List ℕ) → IsBytes bytes
    → read bytes ≡ Some x → Took (text x.0) bytes x.1 (F x.0)
took_of g bytes x fits e = g.takes bytes x fits e

-- and back: a field that is spelled is read, and the next reader goes on
pub then_again : {A M : Type 0} {text : A → List ℕ} {F : A → Type 0} {read : Reader A}
    {t : List ℕ} {m : M} (next : A → Reader M) → Exact text F read → (a : A) → F a
    → Again (next a) t m → Again (read >>= next) (text a ++ t) m
then_again {text = text} {read = read} {t = t} next g a fits h = record {
  back = λ rest. ap (λ b. goes_on next (read b)) (append_assoc (text a) t rest)
      ∙ ap (goes_on next) ((g.again a fits).back (t ++ rest)) ∙ h.back rest;
}

pub last_again : {A M : Type 0} {text : A → List ℕ} {F : A → Type 0} {read : Reader A}
    {m : M} (next : A → Reader M) → Exact text F read → (a : A) → F a
    → Again (next a) [] m → Again (read >>= next) (text a) m
last_again next g a fits h = record {
  back = λ rest. ap (goes_on next) ((g.again a fits).back rest) ∙ h.back rest;
}

pub spelled : {M : Type 0} {read : Reader M} {t u : List ℕ} {m : M} → Again read t m → t ≡ u
    → Again read u m
spelled {read = read} {m = m} h e = subst (λ (v : List ℕ). Again read v m) e h

pub done_again : {M : Type 0} {m : M} → Again (gives m) [] m
done_again = record { back = λ rest. refl }

pub only_again : {M : Type 0} {o : Option M} {m : M} → o ≡ Some m → Again (only o) [] m
only_again e = record { back = λ rest. ap (λ o. only o rest) e }

-- a reader whose value is known by another, as where a number stands for a value
pub record Narrows {A B : Type 0} (of : A → Option B) (back : B → A) (F : A → Type 0)
    (G : B → Type 0) : Type 0 where
  pub takes : (a : A) (b : B) → F a → of a ≡ Some b → (back b ≡ a) × G b
  pub again : (b : B) → G b → of (back b) ≡ Some b
  pub fits : (b : B) → G b → F (back b)

only_takes : {B : Type 0} (o : Option B) (bytes : List ℕ) (x : B × List ℕ)
    → only o bytes ≡ Some x → (o ≡ Some x.0) × (bytes ≡ x.1)
only_takes None bytes x e = absurd cc
only_takes {B = B} (Some b) bytes x e =
    let same : (b, bytes) ≡ x = some_is (b, bytes) x e in
    (ap (λ (y : B × List ℕ). Some y.0) same, ap (λ (y : B × List ℕ). y.1) same)

pub narrowed : {A B : Type 0} {text : A → List ℕ} {F : A → Type 0} {read : Reader A}
    {of : A → Option B} {back : B → A} {G : B → Type 0} → Exact text F read → Narrows of back F G
    → Exact (λ b. text (back b)) G (read >>= λ a. only (of a))
narrowed {text = text} {read = read} {of = of} {back = back} g n = record {
  takes = λ bytes x fits e.
      let a = bind_some (read bytes) (λ a. only (of a)) x e in
      let t = g.takes bytes a.0 fits a.1 in
      let o = only_takes (of a.0.0) a.0.1 x a.2 in
      let b = n.takes a.0.0 x.0 t.fits o.0 in
      record {
        parts = t.parts ∙ ap (λ k. text k ++ a.0.1) (sym b.0)
            ∙ ap (λ (r : List ℕ). text (back x.0) ++ r) o.1;
        others = subst IsBytes o.1 t.others;
        fits = b.1;
      };
  again = λ b fits. last_again _ g (back b) (n.fits b fits) (only_again (n.again b fits));
}

-- ---- ends of a chain

pub last : {A : Type 0} {text whole : A → List ℕ} {F G : A → Type 0} {read : Reader A}
    {front : List ℕ} → Exact text F read → ((a : A) → F a → G a × (front ++ text a ≡ whole a))
    → Completes whole G front read
last {text = text} {whole = whole} {read = read} {front = front} g f = record {
  takes = λ bytes x fits e.
      let t = g.takes bytes x fits e in
      let h = f x.0 t.fits in
      let joined : front ++ bytes ≡ (front ++ text x.0) ++ x.1 =
      ap (λ (r : List ℕ). front ++ r) t.parts ∙ sym (append_assoc front (text x.0) x.1) in
      record { parts = joined ∙ ap (λ (r : List ℕ). r ++ x.1) h.1; others = t.others; fits = h.0 };
}

pub only_done : {M : Type 0} {whole : M → List ℕ} {G : M → Type 0} {front : List ℕ}
    {o : Option M} → ((m : M) → o ≡ Some m → G m × (front ≡ whole m))
    → Completes whole G front (only o)
only_done {M = M} {whole = whole} {G = G} {front = front} {o = o} f = record {
  takes = λ bytes x fits e.
      let p = only_takes o bytes x e in
      let h = f x.0 p.0 in
      record {
        parts = ap (λ (t : List ℕ). t ++ bytes) h.1 ∙ ap (λ (r : List ℕ). whole x.0 ++ r) p.1;
        others = subst IsBytes p.1 fits;
        fits = h.0;
      };
}

-- ---- numbers

found_guard : {A : Type 0} (b : Bool) (d : VarFault) (y x : A × List ℕ)
    → found (cond b (Err d) (Ok y)) ≡ Some x → (b ≡ false) × (y ≡ x)
found_guard true d y x e = absurd cc
found_guard false d y x e = (refl, some_is y x e)

unsigned_takes : (w : Width) → IsWide w → (bytes : List ℕ) (x : ℕ × List ℕ) → IsBytes bytes
    → unsigned w bytes ≡ Some x → Took (unsigned_text w x.0) bytes x.1 (x.0 < 256 ^ byte_len w)
unfolding unsigned unsigned_text
unsigned_takes w wide bytes x fits e =
    let front = take (byte_len w) bytes in
    let g = found_guard (ltb (length bytes) (byte_len w)) Short
    (place_value front, drop (byte_len w) bytes) x e in
    let long : byte_len w ≤ length bytes = ltb-false _ _ g.0 in
    let size : length front ≡ byte_len w = omega (arith, length-take (byte_len w) bytes) in
    let ok : IsBytes front = IsBytes-take (byte_len w) bytes fits in
    subst (λ (y : ℕ × List ℕ). Took (to_be_bytes w y.0) bytes y.1 (y.0 < 256 ^ byte_len w)) g.1
    (record {
      parts = sym (take-append-drop (byte_len w) bytes)
          ∙ ap (λ (t : List ℕ). t ++ drop (byte_len w) bytes) (sym (wide.back front size ok));
      others = IsBytes-drop (byte_len w) bytes fits;
      fits = below w front size ok;
    })

unsigned_again : (w : Width) → IsWide w → (n : ℕ) (rest : List ℕ) → n < 256 ^ byte_len w
    → unsigned w (unsigned_text w n ++ rest) ≡ Some (n, rest)
unfolding unsigned unsigned_text
unsigned_again w wide n rest lt =
    let size = wide.size n in
    let long : ltb (length (to_be_bytes w n ++ rest)) (byte_len w) ≡ false =
    le-ltb _ _ (omega (arith, length-append (to_be_bytes w n) rest)) in
    rw (
      long,
      take_at (to_be_bytes w n) rest (byte_len w) size,
      drop_at (to_be_bytes w n) rest (byte_len w) size,
      wide.again n lt,
    ) refl

pub unsigned_exact : (w : Width) → IsWide w
    → Exact (unsigned_text w) (λ n. n < 256 ^ byte_len w) (unsigned w)
unsigned_exact w wide = record {
  takes = unsigned_takes w wide;
  again = λ n h. record { back = λ rest. unsigned_again w wide n rest h };
}

signed_takes : (w : Width) → IsWide w → (bytes : List ℕ) (x : ℤ × List ℕ) → IsBytes bytes
    → signed w bytes ≡ Some x → Took (signed_text w x.0) bytes x.1 (FitsSigned w x.0)
unfolding signed signed_text
signed_takes w wide bytes x fits e =
    let front = take (byte_len w) bytes in
    let g = found_guard (ltb (length bytes) (byte_len w)) Short
    (cast_signed w (place_value front), drop (byte_len w) bytes) x e in
    let long : byte_len w ≤ length bytes = ltb-false _ _ g.0 in
    let size : length front ≡ byte_len w = omega (arith, length-take (byte_len w) bytes) in
    let ok : IsBytes front = IsBytes-take (byte_len w) bytes fits in
    let lt : place_value front < 256 ^ byte_len w = below w front size ok in
    let same : to_be_bytes w (cast_unsigned w (cast_signed w (place_value front))) ≡ front =
    ap (to_be_bytes w) (wide.unsigned (place_value front) lt) ∙ wide.back front size ok in
    subst (λ (y : ℤ × List ℕ). Took (to_be_bytes w (cast_unsigned w y.0)) bytes y.1
    (FitsSigned w y.0)) g.1
    (record {
      parts = sym (take-append-drop (byte_len w) bytes)
          ∙ ap (λ (t : List ℕ). t ++ drop (byte_len w) bytes) (sym same);
      others = IsBytes-drop (byte_len w) bytes fits;
      fits = wide.fits (place_value front) lt;
    })

signed_again : (w : Width) → IsWide w → (z : ℤ) (rest : List ℕ) → FitsSigned w z
    → signed w (signed_text w z ++ rest) ≡ Some (z, rest)
unfolding signed signed_text
signed_again w wide z rest f =
    let n = cast_unsigned w z in
    let size = wide.size n in
    let long : ltb (length (to_be_bytes w n ++ rest)) (byte_len w) ≡ false =
    le-ltb _ _ (omega (arith, length-append (to_be_bytes w n) rest)) in
    let value : cast_signed w (place_value (to_be_bytes w n)) ≡ z =
    ap (cast_signed w) (wide.again n (wide.within z f)) ∙ to_z-of_z w z f in
    rw (
      long,
      take_at (to_be_bytes w n) rest (byte_len w) size,
      drop_at (to_be_bytes w n) rest (byte_len w) size,
      value,
    ) refl

pub signed_exact : (w : Width) → IsWide w → Exact (signed_text w) (FitsSigned w) (signed w)
signed_exact w wide = record {
  takes = signed_takes w wide;
  again = λ z h. record { back = λ rest. signed_again w wide z rest h };
}

-- ---- so many bytes, and so many of one kind

some_guard : {A : Type 0} (b : Bool) (y x : A) → cond b None (Some y) ≡ Some x
    → (b ≡ false) × (y ≡ x)
some_guard true y x e = absurd cc
some_guard false y x e = (refl, some_is y x e)

taken_takes : (n : ℕ) (bytes : List ℕ) (x : List ℕ × List ℕ) → IsBytes bytes
    → taken n bytes ≡ Some x → Took x.0 bytes x.1 (length x.0 ≡ n)
unfolding taken
taken_takes n bytes x fits e =
    let g = some_guard (ltb (length bytes) n) (take n bytes, drop n bytes) x e in
    let long : n ≤ length bytes = ltb-false _ _ g.0 in
    subst (λ (y : List ℕ × List ℕ). Took y.0 bytes y.1 (length y.0 ≡ n)) g.1 (record {
      parts = sym (take-append-drop n bytes);
      others = IsBytes-drop n bytes fits;
      fits = omega (arith, length-take n bytes);
    })

taken_again : (n : ℕ) (t rest : List ℕ) → length t ≡ n → taken n (t ++ rest) ≡ Some (t, rest)
unfolding taken
taken_again n t rest size =
    let long : ltb (length (t ++ rest)) n ≡ false =
    le-ltb _ _ (omega (arith, length-append t rest)) in
    rw (long, take_at t rest n size, drop_at t rest n size) refl

pub taken_exact : (n : ℕ) → Exact (λ t. t) (λ t. length t ≡ n) (taken n)
taken_exact n = record {
  takes = taken_takes n;
  again = λ t h. record { back = λ rest. taken_again n t rest h };
}

repeated_takes : {A : Type 0} {text : A → List ℕ} {F : A → Type 0} {read : Reader A}
    → Exact text F read → (n : ℕ) → Completes (flat_map text)
    (λ xs. (length xs ≡ n) × AllByRecursion F xs) [] (repeated read n)
unfolding repeated
repeated_takes g zero = done [] (refl, tt) refl
repeated_takes {A = A} {text = text} {F = F} {read = read} g (suc n) = field g (λ x fx. record {
  takes = λ bytes y fits e.
      let a = bind_some (repeated read n bytes) (λ xs. gives (x ∷ xs)) y e in
      let t = (repeated_takes g n).takes bytes a.0 fits a.1 in
      let same : (x ∷ a.0.0, a.0.1) ≡ y = some_is (x ∷ a.0.0, a.0.1) y a.2 in
      subst (λ (z : List A × List ℕ). Took (flat_map text z.0) (text x ++ bytes) z.1
      ((length z.0 ≡ suc n) × AllByRecursion F z.0)) same
      (record {
        parts = ap (λ (r : List ℕ). text x ++ r) t.parts
            ∙ sym (append_assoc (text x) (flat_map text a.0.0) a.0.1)
            ∙ ap (λ (r : List ℕ). r ++ a.0.1) (sym (flat_map-cons text x a.0.0));
        others = t.others;
        fits = (ap suc t.fits.0, (fx, t.fits.1));
      });
})

more_again : {A : Type 0} {read : Reader (List A)} {t : List ℕ} {xs : List A} (x : A)
    → Again read t xs
    → Again (read >>= λ ys. gives (x ∷ ys)) t (x ∷ xs)
more_again x h = record { back = λ rest. ap (goes_on (λ ys. gives (x ∷ ys))) (h.back rest) }

repeated_again : {A : Type 0} {text : A → List ℕ} {F : A → Type 0} {read : Reader A}
    → Exact text F read → (xs : List A) → AllByRecursion F xs
    → Again (repeated read (length xs)) (flat_map text xs) xs
unfolding repeated
repeated_again g [] h = done_again
repeated_again {text = text} {read = read} g (x ∷ xs) h =
    subst (λ (t : List ℕ). Again (repeated read (suc (length xs))) t (x ∷ xs))
    (sym (flat_map-cons text x xs))
    (then_again _ g x h.0 (more_again x (repeated_again g xs h.1)))

pub repeated_exact : {A : Type 0} {text : A → List ℕ} {F : A → Type 0} {read : Reader A}
    → Exact text F read → (n : ℕ)
    → Exact (flat_map text) (λ xs. (length xs ≡ n) × AllByRecursion F xs) (repeated read n)
repeated_exact {text = text} {read = read} g n = record {
  takes = λ bytes x fits e. took_of (repeated_takes g n) bytes x fits e;
  again = λ xs h. subst (λ k. Again (repeated read k) (flat_map text xs) xs) h.0
      (repeated_again g xs h.1);
}
