-- The numbers of requests rise, so a reply answers one of them at most.
use Rattle.std.proofs.Common.{◌≡◌, ◌+◌, ◌<◌, ◌≤◌, ℕ, Bool, true, false, not, cond, ◌&&◌, ◌==◌, List}
use Rattle.std.proofs.Common.{[]}
use Rattle.std.proofs.Common.{◌∷◌, ◌++◌, ◌||◌, filter, refl, sym, ap, ◌∙◌, arith, subst, length}
use Rattle.std.proofs.Common.{get_or}
use Rattle.std.proofs.Common.{take, drop, append_assoc, inl, inr, zero, suc, nat_lt}
use Rattle.std.specs.List.{list_any}
use Rattle.std.specs.List.Sorted.{IsPartitionedBy}
use Rattle.std.proofs.lemmas.Bool.{cases_lt}
use Rattle.std.proofs.lemmas.Bool.Decides.{Decides-eqb, Decides-ltb, nat_tests}
use Rattle.std.proofs.lemmas.List.{take-append-drop, take_more}
use Rattle.std.proofs.lemmas.List.Elements.{filter-append}
use Rattle.kx_message.specs.Fields.{kind_of}
use Rattle.kx_message.specs.declared.message.Message.{Message}
use Rattle.kx_client.specs.Internal.{AreNumbered, IsAwaitedAt, IsUnawaited}
use Rattle.kx_model.specs.Replies.{correlation_of, is_answer_to}

pub numbered_push : (low : ℕ) (ms : List Message) (m : Message) (next : ℕ)
    → AreNumbered low ms next → correlation_of m ≡ next
    → AreNumbered low (ms ++ m ∷ []) (next + 1)
numbered_push low [] m next h e = (omega (arith, h, e), omega (arith, e))
numbered_push low (x ∷ ms) m next h e =
    (h.0, numbered_push (correlation_of x + 1) ms m next h.1 e)

numbered_low : (low other : ℕ) (ms : List Message) (next : ℕ) → other ≤ low
    → AreNumbered low ms next → AreNumbered other ms next
numbered_low low other [] next le h = omega (arith, h, le)
numbered_low low other (x ∷ ms) next le h = (omega (arith, h.0, le), h.1)

pub numbered_out : (low : ℕ) (front : List Message) (m : Message) (back : List Message) (next : ℕ)
    → AreNumbered low (front ++ m ∷ back) next → AreNumbered low (front ++ back) next
numbered_out low [] m back next h =
    numbered_low (correlation_of m + 1) low back next (omega (arith, h.0)) h.1
numbered_out low (x ∷ front) m back next h =
    (h.0, numbered_out (correlation_of x + 1) front m back next h.1)

below : (low : ℕ) (front : List Message) (m : Message) (back : List Message) (next : ℕ)
    → AreNumbered low (front ++ m ∷ back) next → low ≤ correlation_of m
below low [] m back next h = h.0
below low (x ∷ front) m back next h =
    omega (arith, h.0, below (correlation_of x + 1) front m back next h.1)

at_least : (low : ℕ) (ms : List Message) (next : ℕ) → AreNumbered low ms next → (k : ℕ)
    (d : Message) → k < length ms → low ≤ correlation_of (get_or ms k d)
at_least low [] next h k d lt = absurd (omega arith)
at_least low (x ∷ ms) next h zero d lt = h.0
at_least low (x ∷ ms) next h (suc k) d lt =
    omega (arith, h.0, at_least (correlation_of x + 1) ms next h.1 k d (omega arith))

pub rises : (low : ℕ) (ms : List Message) (next : ℕ) → AreNumbered low ms next → (i j : ℕ)
    (d : Message) → i < j → j < length ms
    → correlation_of (get_or ms i d) < correlation_of (get_or ms j d)
rises low [] next h i j d lt len = absurd (omega arith)
rises low (x ∷ ms) next h i zero d lt len = absurd (omega arith)
rises low (x ∷ ms) next h zero (suc j) d lt len =
    omega (arith, at_least (correlation_of x + 1) ms next h.1 j d (omega arith))
rises low (x ∷ ms) next h (suc i) (suc j) d lt len =
    rises (correlation_of x + 1) ms next h.1 i j d (omega arith) (omega arith)

at_least_number : (n number : ℕ) → nat_lt n number ≡ false → number ≤ n
at_least_number n number e = grind (arith, nat_tests)

-- a list around one of its places
pub split_at : (ms : List Message) (place : ℕ) (m : Message) → place < length ms
    → get_or ms place m ≡ m → take place ms ++ m ∷ drop (place + 1) ms ≡ ms
split_at ms place m there is =
    sym (append_assoc (take place ms) (m ∷ []) (drop (place + 1) ms))
    ∙ ap (λ (xs : List Message). xs ++ drop (place + 1) ms) (sym (take_more ms place m there
    ∙ ap (λ (x : Message). take place ms ++ x ∷ []) is)) ∙ take-append-drop (place + 1) ms

-- those below a number come first
pub below_first : (number : ℕ) (ms : List Message) (next : ℕ) → AreNumbered 0 ms next
    → IsPartitionedBy (λ m. nat_lt (correlation_of m) number) ms
below_first number ms next h i j d le len e =
    let high : correlation_of (get_or ms j d) < number = (Decides-ltb _ _).0 e in
    elim (cases_lt i j) [
      | inl lt ↦ (Decides-ltb _ _).1 (omega (arith, rises 0 ms next h i j d lt len, high))
      | inr ge ↦ let at : i ≡ j = omega arith in
          ap (λ (n : ℕ). nat_lt (correlation_of (get_or ms n d)) number) at ∙ e
    ]

or_true : (a : Bool) → (a || true) ≡ true
or_true true = refl
or_true false = refl

and_false : (a b : Bool) → b ≡ false → (a && b) ≡ false
and_false true b e = e
and_false false b e = refl

differ : (m n : ℕ) (b : Bool) → (m == n) ≡ b → (m ≡ n → ⊥) → b ≡ false
differ m n true e apart = absurd (apart ((Decides-eqb m n).0 e))
differ m n false e apart = refl

module _ (reply : Message) where
  abbrev pub stays : Message → Bool
  stays m = not (is_answer_to reply m)

  other : (m : Message) → (correlation_of reply ≡ correlation_of m → ⊥)
      → is_answer_to reply m ≡ false
  other m apart =
      and_false (kind_of reply == kind_of m + 1) (correlation_of reply == correlation_of m)
      (differ (correlation_of reply) (correlation_of m) _ refl apart)

  other_stays : (m : Message) → (correlation_of reply ≡ correlation_of m → ⊥)
      → stays m ≡ true
  other_stays m apart = ap not (other m apart)

  kept : (m : Message) (ms : List Message) → stays m ≡ true → filter stays ms ≡ ms
      → filter stays (m ∷ ms) ≡ m ∷ ms
  kept m ms e rest =
      ap (λ b. cond b (m ∷ filter stays ms) (filter stays ms)) e
      ∙ ap (λ (xs : List Message). m ∷ xs) rest

  keeps_back : (low : ℕ) (ms : List Message) (next : ℕ) → AreNumbered low ms next
      → correlation_of reply < low → filter stays ms ≡ ms
  keeps_back low [] next h lt = refl
  keeps_back low (x ∷ ms) next h lt =
      kept x ms (other_stays x (λ e. omega (arith, h.0, lt, e)))
      (keeps_back (correlation_of x + 1) ms next h.1 (omega (arith, h.0, lt)))

  keeps_front : (low : ℕ) (front : List Message) (m : Message) (back : List Message) (next : ℕ)
      → AreNumbered low (front ++ m ∷ back) next → correlation_of reply ≡ correlation_of m
      → filter stays front ≡ front
  keeps_front low [] m back next h is = refl
  keeps_front low (x ∷ front) m back next h is =
      kept x front (other_stays x (λ e.
      omega (arith, below (correlation_of x + 1) front m back next h.1, is, e)))
      (keeps_front (correlation_of x + 1) front m back next h.1 is)

  answers : (m : Message) (a b : Bool) → (a && b) ≡ true → b ≡ true
  answers m true b e = e
  answers m false b e = absurd cc

  -- the one that it answers goes, and the others stay
  pub settled : (front : List Message) (m : Message) (back : List Message) (low next : ℕ)
      → AreNumbered low (front ++ m ∷ back) next → is_answer_to reply m ≡ true
      → filter stays (front ++ m ∷ back) ≡ front ++ back
  settled front m back low next h e =
      let same : correlation_of reply ≡ correlation_of m =
      (Decides-eqb (correlation_of reply) (correlation_of m)).0
      (answers m (kind_of reply == kind_of m + 1) (correlation_of reply == correlation_of m) e) in
      filter-append stays front (m ∷ back)
      ∙ ap (λ (xs : List Message). xs ++ filter stays (m ∷ back))
      (keeps_front low front m back next h same)
      ∙ ap (λ b. front ++ cond (not b) (m ∷ filter stays back) (filter stays back)) e
      ∙ ap (λ (xs : List Message). front ++ xs)
      (keeps_back (correlation_of m + 1) back next (behind low front h)
      (omega (arith, same)))
    where
      behind : (low : ℕ) (front : List Message) → AreNumbered low (front ++ m ∷ back) next
          → AreNumbered (correlation_of m + 1) back next
      behind low [] h = h.1
      behind low (x ∷ front) h = behind (correlation_of x + 1) front h.1

  -- it is found, at the place of its number

  found_some : (front : List Message) (m : Message) (back : List Message)
      → is_answer_to reply m ≡ true → list_any (is_answer_to reply) (front ++ m ∷ back) ≡ true
  found_some [] m back e = ap (λ b. b || list_any (is_answer_to reply) back) e
  found_some (x ∷ front) m back e =
      ap (λ b. is_answer_to reply x || b) (found_some front m back e)
      ∙ or_true (is_answer_to reply x)

  pub awaited_at : (ms : List Message) (next place : ℕ) (m : Message) → AreNumbered 0 ms next
      → place < length ms → get_or ms place m ≡ m → is_answer_to reply m ≡ true
      → IsAwaitedAt reply ms place
  awaited_at ms next place m h there is e =
      let front = take place ms in
      let back = drop (place + 1) ms in
      let split : front ++ m ∷ back ≡ ms = split_at ms place m there is in
      let numbered : AreNumbered 0 (front ++ m ∷ back) next =
      subst (λ (xs : List Message). AreNumbered 0 xs next) (sym split) h in
      record {
        there = there;
        some = ap (list_any (is_answer_to reply)) (sym split) ∙ found_some front m back e;
        others = ap (filter stays) (sym split) ∙ settled front m back 0 next numbered e;
      }

  -- if none answers, all stay
  pub unawaited : (ms : List Message)
      → ((k : ℕ) (d : Message) → k < length ms → is_answer_to reply (get_or ms k d) ≡ false)
      → IsUnawaited reply ms
  unawaited [] h = record { none = refl; all = refl }
  unawaited (x ∷ ms) h =
      let rest = unawaited ms (λ k d lt. h (suc k) d (omega arith)) in
      let first : is_answer_to reply x ≡ false = h 0 x (omega arith) in
      record {
        none = ap (λ b. b || list_any (is_answer_to reply) ms) first ∙ rest.none;
        all = kept x ms (ap not first) rest.all;
      }

  -- none answers if the one at the place of its number, if there is one, doesn't
  pub none_at : (ms : List Message) (next place : ℕ) → AreNumbered 0 ms next
      → ((k : ℕ) (d : Message) → k < place → k < length ms
      → correlation_of (get_or ms k d) < correlation_of reply)
      → ((k : ℕ) (d : Message) → place ≤ k → k < length ms
      → correlation_of reply ≤ correlation_of (get_or ms k d))
      → ((d : Message) → place < length ms → is_answer_to reply (get_or ms place d) ≡ false)
      → IsUnawaited reply ms
  none_at ms next place h before behind here =
      unawaited ms (λ k d lt. elim (cases_lt k place) [
        | inl low ↦ other (get_or ms k d) (λ e. omega (arith, before k d low lt, e))
        | inr le ↦ elim (cases_lt place k) [
          | inl high ↦ other (get_or ms k d) (λ e. omega (
            arith,
            behind place d (omega arith) (omega arith),
            rises 0 ms next h place k d high lt,
            e,
          ))
          | inr same ↦ let at : place ≡ k = omega arith in
              ap (λ (n : ℕ). is_answer_to reply (get_or ms n d)) (sym at)
              ∙ here d (omega arith)
        ]
      ])

  -- the same, by the tests of a search
  pub unawaited_from : (ms : List Message) (next place number : ℕ) → AreNumbered 0 ms next
      → correlation_of reply ≡ number
      → ((k : ℕ) (d : Message) → k < place → k < length ms
      → nat_lt (correlation_of (get_or ms k d)) number ≡ true)
      → ((k : ℕ) (d : Message) → place ≤ k → k < length ms
      → nat_lt (correlation_of (get_or ms k d)) number ≡ false)
      → ((d : Message) → place < length ms → is_answer_to reply (get_or ms place d) ≡ false)
      → IsUnawaited reply ms
  unawaited_from ms next place number h is before behind here =
      none_at ms next place h
      (λ k d low lt. let b = (Decides-ltb (correlation_of (get_or ms k d)) number).0
      (before k d low lt) in omega (arith, b, is))
      (λ k d le lt. let b = at_least_number (correlation_of (get_or ms k d)) number
      (behind k d le lt) in omega (arith, b, is)) here

-- what stands at a place doesn't depend on what stands for none
same_at : (ms : List Message) (place : ℕ) (m d : Message) → place < length ms
    → get_or ms place m ≡ m → get_or ms place d ≡ m
same_at [] place m d lt e = absurd (omega arith)
same_at (x ∷ ms) zero m d lt e = e
same_at (x ∷ ms) (suc k) m d lt e = same_at ms k m d (omega arith) e

-- the request at the place doesn't answer
pub not_here : (reply : Message) (ms : List Message) (place : ℕ) (m : Message)
    → get_or ms place m ≡ m → is_answer_to reply m ≡ false → (d : Message)
    → place < length ms → is_answer_to reply (get_or ms place d) ≡ false
not_here reply ms place m at e d lt = ap (is_answer_to reply) (same_at ms place m d lt at) ∙ e
