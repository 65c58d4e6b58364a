-- A loop that reads several of one kind.
use Rattle.std.proofs.Common.{◌≡◌, ℕ, suc, ◌+◌, ◌-◌, ◌<◌, ◌≤◌, List, [], ◌∷◌, ◌++◌}
use Rattle.std.proofs.Common.{Option, Some, None, refl, sym, ap, ◌∙◌, append_assoc, arith}
use Rattle.std.proofs.lemmas.List.{append-nil}
use Rattle.kx_message.specs.Reader.{Reader, gives, goes_on, repeated}

-- what was read before, and then these
abbrev pub with_front : {A : Type 0} → List A → Option (List A × List ℕ) → Option (List A × List ℕ)
with_front front None = None
with_front front (Some x) = Some (front ++ x.0, x.1)

pub starts : {A : Type 0} (o : Option (List A × List ℕ)) → with_front [] o ≡ o
starts None = refl
starts (Some x) = refl

regroup : {A : Type 0} (front : List A) (x : A) (o : Option (List A × List ℕ))
    → with_front front (goes_on (λ xs. gives (x ∷ xs)) o) ≡ with_front (front ++ x ∷ []) o
regroup front x None = refl
regroup front x (Some y) = ap (λ xs. Some (xs, y.1)) (sym (append_assoc front (x ∷ []) y.0))

pub turn : {A : Type 0} (read : Reader A) (front : List A) (count i : ℕ) (bytes : List ℕ) (x : A)
    (after : List ℕ) (total : Option (List A × List ℕ)) → i < count → read bytes ≡ Some (x, after)
    → with_front front (repeated read (count - i) bytes) ≡ total
    → with_front (front ++ x ∷ []) (repeated read (count - (i + 1)) after) ≡ total
unfolding repeated
turn read front count i bytes x after total lt h so_far =
    let k : count - i ≡ suc (count - (i + 1)) = omega arith in
    let one : with_front front (repeated read (count - i) bytes)
    ≡ with_front (front ++ x ∷ []) (repeated read (count - (i + 1)) after) =
    rw (k, h) (regroup front x (repeated read (count - (i + 1)) after)) in
    sym one ∙ so_far

pub stops : {A : Type 0} (read : Reader A) (front : List A) (count i : ℕ) (bytes : List ℕ)
    (total : Option (List A × List ℕ)) → i < count → read bytes ≡ None
    → with_front front (repeated read (count - i) bytes) ≡ total → total ≡ None
unfolding repeated
stops read front count i bytes total lt h so_far =
    let k : count - i ≡ suc (count - (i + 1)) = omega arith in
    let one : with_front front (repeated read (count - i) bytes) ≡ None = rw (k, h) refl in
    sym so_far ∙ one

pub ends : {A : Type 0} (read : Reader A) (front : List A) (count i : ℕ) (bytes : List ℕ)
    (total : Option (List A × List ℕ)) → count ≤ i
    → with_front front (repeated read (count - i) bytes) ≡ total → total ≡ Some (front, bytes)
unfolding repeated
ends read front count i bytes total le so_far =
    let k : count - i ≡ 0 = omega arith in
    let one : with_front front (repeated read (count - i) bytes) ≡ Some (front, bytes) =
    rw k (ap (λ xs. Some (xs, bytes)) (append-nil front)) in
    sym so_far ∙ one
