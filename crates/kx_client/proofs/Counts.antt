-- The counts of unanswered batches follow what waits.
use Rattle.std.proofs.Common.{◌≡◌, ◌+◌, ◌<◌, ◌≤◌, ℕ, Bool, true, false, cond, List, [], ◌∷◌, ◌++◌}
use Rattle.std.proofs.Common.{refl}
use Rattle.std.proofs.Common.{ap, arith}
use Rattle.std.specs.Prelude.{count_by, nat_le}
use Rattle.std.proofs.lemmas.Bool.Decides.{nat_tests}
use Rattle.std.proofs.lemmas.List.Sums.{sum_by-append, sum_by-cons, sum_by_push}
use Rattle.kx_message.specs.Ranges.{IsPartition}
use Rattle.kx_message.specs.declared.message.Message.{Message}
use Rattle.kx_client.specs.Internal.{AreCounted, carried_to, count_in}
use Rattle.kx_model.specs.Client.{carries_to, window}

abbrev one_where : Bool → ℕ
one_where b = cond b 1 0

count_push : (p : ℕ) (ms : List Message) (m : Message)
    → count_by (carries_to p) (ms ++ m ∷ []) ≡ count_by (carries_to p) ms + carried_to p m
count_push p ms m = sum_by_push (λ x. cond (carries_to p x) 1 0) ms m

count_out : (p : ℕ) (front : List Message) (m : Message) (back : List Message)
    → count_by (carries_to p) (front ++ m ∷ back)
    ≡ count_by (carries_to p) (front ++ back) + carried_to p m
count_out p front m back =
    let one : Message → ℕ = λ x. cond (carries_to p x) 1 0 in
    omega (
      arith,
      sum_by-append one front (m ∷ back),
      sum_by-cons one m back,
      sum_by-append one front back,
    )

pub not_full : (n : ℕ) → nat_le window n ≡ false → n < window
not_full n e = grind (arith, nat_tests)

pub counted_push : (counts more : List ℕ) (ms : List Message) (m : Message)
    → AreCounted counts ms
    → ((p : ℕ) → IsPartition p → count_in more p ≡ count_in counts p + carried_to p m)
    → ((p : ℕ) → carries_to p m ≡ true → nat_le window (count_by (carries_to p) ms) ≡ false)
    → AreCounted more (ms ++ m ∷ [])
counted_push counts more ms m h one room = record {
  each = λ p is. omega (arith, one p is, h.each p is, count_push p ms m);
  few = λ p. by p (carries_to p m) refl;
}
  where
    by : (p : ℕ) (b : Bool) → carries_to p m ≡ b
        → count_by (carries_to p) (ms ++ m ∷ []) ≤ window
    by p true e =
        omega (
          arith,
          count_push p ms m,
          ap (λ b. one_where b) e,
          not_full (count_by (carries_to p) ms) (room p e),
        )
    by p false e =
        omega (arith, count_push p ms m, ap (λ b. one_where b) e, h.few p)

pub counted_out : (counts fewer : List ℕ) (front : List Message) (m : Message)
    (back : List Message) → AreCounted counts (front ++ m ∷ back)
    → ((p : ℕ) → IsPartition p → count_in fewer p + carried_to p m ≡ count_in counts p)
    → AreCounted fewer (front ++ back)
counted_out counts fewer front m back h one = record {
  each = λ p is. omega (arith, one p is, h.each p is, count_out p front m back);
  few = λ p. omega (arith, h.few p, count_out p front m back);
}

-- a partition to which one is carried has one
pub one_counted : (counts : List ℕ) (front : List Message) (m : Message) (back : List Message)
    (p : ℕ) → AreCounted counts (front ++ m ∷ back) → IsPartition p → carries_to p m ≡ true
    → 0 < count_in counts p
one_counted counts front m back p h is e =
    omega (arith, h.each p is, count_out p front m back, ap (λ b. one_where b) e)
