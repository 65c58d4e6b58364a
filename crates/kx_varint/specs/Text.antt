-- Formats of many fields: texts in parts, and reading them from the front.
use Rattle.std.specs.Prelude.{◌≡◌, ◌<◌, ◌+◌, ℕ, zero, suc, ℤ, List, [], ◌∷◌, ◌++◌, drop}
use Rattle.std.specs.Prelude.{slice_index, Option, Some, None, Result, Ok, Err}
use Rattle.kx_varint.specs.declared.fault.VarFault.{VarFault}
use Rattle.kx_varint.specs.Varint.{Shape, value_at}

------ what a text is

-- each element is a byte
abbrev pub IsBytes : List ℕ → Type 0
IsBytes bytes = (i : ℕ) → slice_index bytes i < 256

-- a first part, and then a second one
infixr 6 ◌⊳◌
pub record ◌⊳◌ (P Q : List ℕ → Type 0) (text : List ℕ) : Type 0 where
  pub front : List ℕ
  pub back : List ℕ
  pub first : P front
  pub second : Q back
  pub parts : text ≡ front ++ back

-- these bytes
abbrev pub Exactly : List ℕ → List ℕ → Type 0
Exactly bytes text = text ≡ bytes

-- one after the other, from place i on
abbrev pub Several : {A : Type 0} → (ℕ → A → List ℕ → Type 0) → ℕ → List A → List ℕ → Type 0
Several P i [] = Exactly []
Several P i (x ∷ xs) = P i x ⊳ Several P (i + 1) xs

------ reading from the front: a value, and the bytes after it

infixl 10 ◌>>=◌
abbrev pub ◌>>=◌ : {A B : Type 0} → Option A → (A → Option B) → Option B
None >>= f = None
(Some x) >>= f = f x

abbrev pub after : List ℕ → Result (ℤ × ℕ) VarFault → Option (ℤ × List ℕ)
after bytes (Ok r) = Some (r.0, drop r.1 bytes)
after bytes (Err fault) = None

-- a varint of this shape
unfoldable pub varint_at : Shape → List ℕ → Option (ℤ × List ℕ)
varint_at shape bytes = after bytes (value_at shape bytes)

-- so many of one kind from place i on, which the bytes end with
unfoldable pub many :
    {A : Type 0} → (ℕ → List ℕ → Option (A × List ℕ)) → ℕ → ℕ → List ℕ → Option (List A)
many read i zero [] = Some []
many read i zero (byte ∷ bytes) = None
many read i (suc n) bytes = do
  x ← read i bytes
  xs ← many read (i + 1) n x.1
  Some (x.0 ∷ xs)

-- what a view of them stands for
abbrev pub or_none : {A : Type 0} → Option (List A) → List A
or_none None = []
or_none (Some xs) = xs
