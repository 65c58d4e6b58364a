-- Several of one kind, read in a loop, and read again one after the other.
use Rattle.std.proofs.Common.{◌≡◌, ℕ, zero, suc, ◌+◌, ◌-◌, ◌<◌, ◌≤◌, List, [], ◌∷◌, ◌++◌, length}
use Rattle.std.proofs.Common.{Result, Ok, Err, IsOk, refl, sym, ap, ◌∙◌, subst, append_assoc, arith}
use Rattle.std.proofs.lemmas.List.{append-nil}
use Rattle.kx_kafka_types.specs.declared.version.Version.{Version}
use Rattle.kx_kafka_types.specs.declared.fault.KafkaFault.{KafkaFault}
use Rattle.kx_kafka_types.specs.Schema.{Fields, Values}
use Rattle.kx_kafka_types.specs.Reading.{Reader, goes_on, gives, repeated, fields_at}
use Rattle.kx_kafka_types.specs.Rows.{list_of}

------ a loop

-- what was read before, and then these
abbrev pub with_front : {A : Type 0} → List A → Result (List A × List ℕ) KafkaFault
    → Result (List A × List ℕ) KafkaFault
with_front front (Ok x) = Ok (front ++ x.0, x.1)
with_front front (Err f) = Err f

pub starts : {A : Type 0} (o : Result (List A × List ℕ) KafkaFault) → with_front [] o ≡ o
starts (Ok x) = refl
starts (Err f) = refl

regroup : {A : Type 0} (front : List A) (x : A) (o : Result (List A × List ℕ) KafkaFault)
    → with_front front (goes_on (λ xs. gives (x ∷ xs)) o) ≡ with_front (front ++ x ∷ []) o
regroup front x (Err f) = refl
regroup front x (Ok y) = ap (λ xs. Ok (xs, y.1)) (sym (append_assoc front (x ∷ []) y.0))

-- a loop that stands behind some elements
pub record Behind {A : Type 0} (read : Reader A) (total : Result (List A × List ℕ) KafkaFault)
    (left : ℕ) (bytes : List ℕ) : Type 0 where
  pub front : List A
  pub so_far : with_front front (repeated read left bytes) ≡ total

pub begins : {A : Type 0} (read : Reader A) (count i : ℕ) (bytes : List ℕ) → i ≡ 0
    → Behind read (repeated read count bytes) (count - i) bytes
begins read count i bytes e =
    let k : count - i ≡ count = omega arith in
    record { front = []; so_far = rw k (starts (repeated read count bytes)) }

pub turn : {A : Type 0} (read : Reader A) (total : Result (List A × List ℕ) KafkaFault)
    (count i : ℕ) (bytes : List ℕ) (x : A) (after : List ℕ) → i < count
    → read bytes ≡ Ok (x, after) → Behind read total (count - i) bytes
    → Behind read total (count - (i + 1)) after
unfolding repeated
turn read total count i bytes x after lt h b =
    let k : count - i ≡ suc (count - (i + 1)) = omega arith in
    let one : with_front b.front (repeated read (count - i) bytes)
    ≡ with_front (b.front ++ x ∷ []) (repeated read (count - (i + 1)) after) =
    rw (k, h) (regroup b.front x (repeated read (count - (i + 1)) after)) in
    record { front = b.front ++ x ∷ []; so_far = sym one ∙ b.so_far }

pub stops : {A : Type 0} (read : Reader A) (total : Result (List A × List ℕ) KafkaFault)
    (count i : ℕ) (bytes : List ℕ) (f : KafkaFault) → i < count → read bytes ≡ Err f
    → Behind read total (count - i) bytes → total ≡ Err f
unfolding repeated
stops read total count i bytes f lt h b =
    let k : count - i ≡ suc (count - (i + 1)) = omega arith in
    let one : with_front b.front (repeated read (count - i) bytes) ≡ Err f = rw (k, h) refl in
    sym b.so_far ∙ one

list_is : {A : Type 0} (o : Result (List A × List ℕ) KafkaFault) (xs : List A) (rest : List ℕ)
    → o ≡ Ok (xs, rest) → o ≡ Ok (list_of o, rest)
list_is o xs rest e = e ∙ ap (λ ys. Ok (ys, rest)) (sym (ap list_of e))

pub ends : {A : Type 0} (read : Reader A) (total : Result (List A × List ℕ) KafkaFault)
    (count i : ℕ) (bytes : List ℕ) → count ≤ i → Behind read total (count - i) bytes
    → total ≡ Ok (list_of total, bytes)
unfolding repeated
ends read total count i bytes le b =
    let k : count - i ≡ 0 = omega arith in
    let one : with_front b.front (repeated read (count - i) bytes) ≡ Ok (b.front, bytes) =
    rw k (ap (λ xs. Ok (xs, bytes)) (append-nil b.front)) in
    list_is total b.front bytes (sym b.so_far ∙ one)

pub is_ok : {A : Type 0} (o : Result (List A × List ℕ) KafkaFault) (x : List A × List ℕ)
    → o ≡ Ok x → IsOk o
is_ok o x e = rw e refl

------ one after the other

pub none_left : {A : Type 0} (read : Reader A) (n : ℕ) (bytes : List ℕ) → n ≡ 0
    → list_of (repeated read n bytes) ≡ []
unfolding repeated
none_left read n bytes e = rw e refl

list_with : {A : Type 0} (x : A) (o : Result (List A × List ℕ) KafkaFault)
    → IsOk (goes_on (λ xs. gives (x ∷ xs)) o)
    → list_of (goes_on (λ xs. gives (x ∷ xs)) o) ≡ x ∷ list_of o
list_with x (Ok y) h = refl
list_with x (Err f) h = cc

ok_with : {A : Type 0} (x : A) (o : Result (List A × List ℕ) KafkaFault)
    → IsOk (goes_on (λ xs. gives (x ∷ xs)) o) → IsOk o
ok_with x (Ok y) h = refl
ok_with x (Err f) h = h

pub record Steps (fields : Fields) (v : Version) (left : ℕ) (bytes : List ℕ) (x : Values fields)
    (rest : List ℕ) : Type 0 where
  pub first : list_of (repeated (fields_at v fields) left bytes)
      ≡ x ∷ list_of (repeated (fields_at v fields) (left - 1) rest)
  pub there : IsOk (repeated (fields_at v fields) (left - 1) rest)

pub steps : (fields : Fields) (v : Version) (left : ℕ) (bytes : List ℕ) (x : Values fields)
    (rest : List ℕ) → 0 < left → IsOk (repeated (fields_at v fields) left bytes)
    → fields_at v fields bytes ≡ Ok (x, rest) → Steps fields v left bytes x rest
unfolding repeated
steps fields v left bytes x rest some h e =
    let read = fields_at v fields in
    let k : left ≡ suc (left - 1) = omega arith in
    let one : repeated read left bytes
    ≡ goes_on (λ xs. gives (x ∷ xs)) (repeated read (left - 1) rest) =
    ap (λ n. repeated read n bytes) k ∙ ap (goes_on (λ y. (λ bs. goes_on (λ xs. gives (y ∷ xs)) (repeated read (left - 1) bs)))) e in
    let h' : IsOk (goes_on (λ xs. gives (x ∷ xs)) (repeated read (left - 1) rest)) =
    subst IsOk one h in
    record {
      first = ap list_of one ∙ list_with x (repeated read (left - 1) rest) h';
      there = ok_with x (repeated read (left - 1) rest) h';
    }

pub stuck : {A : Type 0} (read : Reader A) (left : ℕ) (bytes : List ℕ) (f : KafkaFault) → 0 < left
    → IsOk (repeated read left bytes) → read bytes ≡ Err f → ⊥
unfolding repeated
stuck {A = A} read left bytes f some h e =
    let k : left ≡ suc (left - 1) = omega arith in
    let one : repeated read left bytes ≡ Err f =
    ap (λ n. repeated read n bytes) k ∙ ap (goes_on (λ y. (λ bs. goes_on (λ xs. gives (y ∷ xs)) (repeated read (left - 1) bs)))) e in
    let no : IsOk {T = List A × List ℕ} (Err f) = subst IsOk one h in cc

count_with : {A : Type 0} (x : A) (n : ℕ) (o : Result (List A × List ℕ) KafkaFault)
    → (IsOk o → length (list_of o) ≡ n) → IsOk (goes_on (λ xs. gives (x ∷ xs)) o)
    → length (list_of (goes_on (λ xs. gives (x ∷ xs)) o)) ≡ suc n
count_with x n (Ok y) k h = ap suc (k refl)
count_with x n (Err f) k h = cc

count_from : {A : Type 0} (read : Reader A) (n : ℕ) (o : Result (A × List ℕ) KafkaFault)
    → ((bytes : List ℕ) → IsOk (repeated read n bytes) → length (list_of (repeated read n bytes)) ≡ n)
    → IsOk (goes_on (λ x. (λ bytes. goes_on (λ xs. gives (x ∷ xs)) (repeated read n bytes))) o)
    → length (list_of (goes_on (λ x. (λ bytes. goes_on (λ xs. gives (x ∷ xs)) (repeated read n bytes))) o)) ≡ suc n
count_from read n (Ok x) k h = count_with x.0 n (repeated read n x.1) (k x.1) h
count_from read n (Err f) k h = cc

pub count_is : {A : Type 0} (read : Reader A) (n : ℕ) (bytes : List ℕ)
    → IsOk (repeated read n bytes) → length (list_of (repeated read n bytes)) ≡ n
unfolding repeated
count_is read zero bytes h = refl
count_is read (suc n) bytes h = count_from read n (read bytes) (count_is read n) h
