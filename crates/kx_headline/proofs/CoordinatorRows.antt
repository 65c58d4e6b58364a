-- The rows of the coordinator's log: the last and the first one that pass a test are there, and
-- which rows end a transaction.
use Rattle.std.proofs.Common.{◌≡◌, ℕ, ◌+◌, ◌<◌, Bool, true, false, ◌&&◌, List, [], ◌∷◌, ◌++◌}
use Rattle.std.proofs.Common.{Option, Some, None, ◌==◌, Contains, refl, sym, ap, ◌∙◌, subst}
use Rattle.std.proofs.Common.{⊎_elim, arith, cond}
use Rattle.std.specs.Prelude.{bytes_eq, is_some}
use Rattle.std.specs.Option.{option_or}
use Rattle.std.proofs.lemmas.Bool.{and_parts, cond_both, or_cases}
use Rattle.std.proofs.lemmas.Bool.Decides.{nat_tests}
use Rattle.std.proofs.lemmas.Slice.Eq.{bytes_eq-Decides}
use Rattle.kx_message.specs.declared.outcome.Outcome.{Outcome}
use Rattle.kx_model.specs.Coordinator.{Row, TxnEntry, CoordinatorEpoch, Allot, Written, State}
use Rattle.kx_model.specs.Coordinator.{Empty}
use Rattle.kx_model.specs.Coordinator.{Ongoing, Prepare, Complete, above, above_ids, ends}
use Rattle.kx_model.specs.Coordinator.{first_row, is, is_complete, last_row, next_id}
use Rattle.kx_message.specs.Ranges.{last_epoch}
use Rattle.kx_model.specs.Coordinator.{outcome_of, row_if, row_of}
use Rattle.kx_model.proofs.Notes.{first_row-append, last_row-push}
use Rattle.kx_laws.proofs.Membership.{cons_cases, contains_head, contains_tail, no_element}

------ the rows that are found

-- a row that is found is there, and passes
abbrev pub IsFound : (Row → Bool) → List TxnEntry → Option Row → Type 0
IsFound test log None = (r : Row) → Contains log (Written r) → test r ≡ false
IsFound test log (Some r) = Contains log (Written r) × (test r ≡ true)

same_written : (r s : Row) → Written r ≡ Written s → r ≡ s
same_written r s e = cc

-- none passes if the first note is no row, or one that doesn't pass
none_before : (test : Row → Bool) (log : List TxnEntry) (n : TxnEntry)
    → ((r : Row) → n ≡ Written r → test r ≡ false)
    → ((r : Row) → Contains log (Written r) → test r ≡ false)
    → (r : Row) → Contains (n ∷ log) (Written r) → test r ≡ false
none_before test log n here there r c = ⊎_elim (here r) (there r) (cons_cases n (Written r) log c)

last_with : (test : Row → Bool) (log : List TxnEntry) (o : Option Row) → IsFound test log o
    → (n : TxnEntry) → IsFound test (n ∷ log) (option_or o (row_if test n))
last_with test log (Some r) h n = (contains_tail n (Written r) log h.0, h.1)
last_with test log None h (CoordinatorEpoch k) =
    none_before test log (CoordinatorEpoch k) (λ r e. absurd cc) h
last_with test log None h (Allot id) = none_before test log (Allot id) (λ r e. absurd cc) h
last_with test log None h (Written r) =
    cond_both (test r) (Some r) None (IsFound test (Written r ∷ log))
    (λ e. (contains_head (Written r) log, e))
    (λ e. none_before test log (Written r)
    (λ s w. subst (λ x. test x ≡ false) (same_written r s w) e) h)

pub last_row_found : (test : Row → Bool) (log : List TxnEntry) → IsFound test log
    (last_row test log)
unfolding last_row
last_row_found test [] = λ r c. absurd (no_element (Written r) c)
last_row_found test (n ∷ log) = last_with test log (last_row test log) (last_row_found test log) n

first_with : (test : Row → Bool) (log : List TxnEntry) (o : Option Row) → IsFound test log o
    → (n : TxnEntry) → IsFound test (n ∷ log) (option_or (row_if test n) o)
first_with test log (Some r) h (CoordinatorEpoch k) =
    (contains_tail (CoordinatorEpoch k) (Written r) log h.0, h.1)
first_with test log (Some r) h (Allot id) = (contains_tail (Allot id) (Written r) log h.0, h.1)
first_with test log None h (CoordinatorEpoch k) =
    none_before test log (CoordinatorEpoch k) (λ r e. absurd cc) h
first_with test log None h (Allot id) = none_before test log (Allot id) (λ r e. absurd cc) h
first_with test log (Some q) h (Written r) =
    cond_both (test r) (Some r) None (λ o. IsFound test (Written r ∷ log) (option_or o (Some q)))
    (λ e. (contains_head (Written r) log, e))
    (λ e. (contains_tail (Written r) (Written q) log h.0, h.1))
first_with test log None h (Written r) =
    cond_both (test r) (Some r) None (λ o. IsFound test (Written r ∷ log) (option_or o None))
    (λ e. (contains_head (Written r) log, e))
    (λ e. none_before test log (Written r)
    (λ s w. subst (λ x. test x ≡ false) (same_written r s w) e) h)

pub first_row_found : (test : Row → Bool) (log : List TxnEntry)
    → IsFound test log (first_row test log)
unfolding first_row
first_row_found test [] = λ r c. absurd (no_element (Written r) c)
first_row_found test (n ∷ log) =
    first_with test log (first_row test log) (first_row_found test log) n

------ the row of a transactional id

pub same_txn : (r : Row) (txn : List ℕ) → bytes_eq r.txn txn ≡ true → r.txn ≡ txn
same_txn r txn h = (bytes_eq-Decides r.txn txn).0 h

pub first_row-push : (test : Row → Bool) (log : List TxnEntry) (note : TxnEntry)
    → first_row test (log ++ note ∷ []) ≡ option_or (first_row test log) (row_if test note)
unfolding first_row
first_row-push test log note =
    first_row-append test log (note ∷ [])
    ∙ ap (option_or (first_row test log)) (or_none (row_if test note))
  where
    or_none : (o : Option Row) → option_or o None ≡ o
    or_none None = refl
    or_none (Some r) = refl

pub row_of-other : (log : List TxnEntry) (note : TxnEntry) (txn : List ℕ)
    → row_if (λ r. bytes_eq r.txn txn) note ≡ None
    → row_of (log ++ note ∷ []) txn ≡ row_of log txn
row_of-other log note txn h =
    last_row-push (λ r. bytes_eq r.txn txn) log note
    ∙ ap (λ o. option_or o (row_of log txn)) h

pub row_of-own : (log : List TxnEntry) (r : Row) → row_of (log ++ Written r ∷ []) r.txn ≡ Some r
row_of-own log r =
    let own : bytes_eq r.txn r.txn ≡ true = (bytes_eq-Decides r.txn r.txn).1 refl in
    last_row-push (λ q. bytes_eq q.txn r.txn) log (Written r)
    ∙ ap (λ b. option_or (cond b (Some r) None) (row_of log r.txn)) own

pub row_of-written : (log : List TxnEntry) (r : Row) (txn : List ℕ) → (r.txn ≡ txn → ⊥)
    → row_of (log ++ Written r ∷ []) txn ≡ row_of log txn
row_of-written log r txn differ =
    row_of-other log (Written r) txn
    (cond_both (bytes_eq r.txn txn) (Some r) None (λ o. o ≡ None)
    (λ e. absurd (differ (same_txn r txn e))) (λ e. refl))

pub row_of-found : (log : List TxnEntry) (txn : List ℕ) (s : Row) → row_of log txn ≡ Some s
    → Contains log (Written s) × (s.txn ≡ txn)
row_of-found log txn s h =
    let f = subst (IsFound (λ r. bytes_eq r.txn txn) log) h
    (last_row_found (λ r. bytes_eq r.txn txn) log) in
    (f.0, same_txn s txn f.1)

-- it is the row of its own transactional id
pub row_of-own_txn : (log : List TxnEntry) (txn : List ℕ) (r : Row) → row_of log txn ≡ Some r
    → row_of log r.txn ≡ Some r
row_of-own_txn log txn r h = ap (row_of log) (row_of-found log txn r h).1 ∙ h

------ rows that end a transaction

pub data Ends (id epoch : ℕ) (r : Row) : Type 0 where
  one_higher : r.id ≡ id → r.epoch ≡ epoch + 1 → is_some (outcome_of r.state) ≡ true
      → Ends id epoch r
  replaced : epoch ≡ 32766 → r.previous ≡ Some id → r.epoch ≡ 0 → is_complete r.state ≡ true
      → Ends id epoch r

pub is_tells : (o : Option ℕ) (n : ℕ) → is o n ≡ true → o ≡ Some n
is_tells None n h = cc
is_tells (Some m) n h = grind (arith, nat_tests)

pub ends_tells : (id epoch : ℕ) (r : Row) → ends id epoch r ≡ true → Ends id epoch r
ends_tells id epoch r h = ⊎_elim own other (or_cases _ _ h)
  where
    own : (r.id == id && r.epoch == epoch + 1 && is_some (outcome_of r.state)) ≡ true
        → Ends id epoch r
    own a =
        let b = and_parts (r.id == id && r.epoch == epoch + 1) _ a in
        let c = and_parts (r.id == id) _ b.0 in
        one_higher (grind (arith, nat_tests, c.0)) (grind (arith, nat_tests, c.1)) b.1

    other : (epoch == last_epoch && is r.previous id && r.epoch == 0 && is_complete r.state)
        ≡ true → Ends id epoch r
    other a =
        let b = and_parts (epoch == last_epoch && is r.previous id && r.epoch == 0) _ a in
        let c = and_parts (epoch == last_epoch && is r.previous id) _ b.0 in
        let d = and_parts (epoch == last_epoch) _ c.0 in
        replaced (grind (arith, nat_tests, d.0)) (is_tells r.previous id d.1)
        (grind (arith, nat_tests, c.1)) b.1

pub ends_own : (id epoch : ℕ) (r : Row) → r.id ≡ id → r.epoch ≡ epoch + 1
    → is_some (outcome_of r.state) ≡ true → ends id epoch r ≡ true
ends_own id epoch r a b c = grind (arith, nat_tests)

pub outcome_some : (st : State) → is_some (outcome_of st) ≡ true
    → (o : Outcome) × (outcome_of st ≡ Some o)
outcome_some Empty h = absurd cc
outcome_some Ongoing h = absurd cc
outcome_some (Prepare o) h = (o, refl)
outcome_some (Complete o) h = (o, refl)

complete_decided : (st : State) → is_complete st ≡ true → is_some (outcome_of st) ≡ true
complete_decided Empty h = cc
complete_decided Ongoing h = cc
complete_decided (Prepare o) h = refl
complete_decided (Complete o) h = refl

pub ends_decided : (id epoch : ℕ) (r : Row) → ends id epoch r ≡ true
    → is_some (outcome_of r.state) ≡ true
ends_decided id epoch r h = by (ends_tells id epoch r h)
  where
    by : Ends id epoch r → is_some (outcome_of r.state) ≡ true
    by (one_higher a b c) = c
    by (replaced a b c d) = complete_decided r.state d

-- an undecided row ends nothing
pub not_decided : (id epoch : ℕ) (r : Row) → is_some (outcome_of r.state) ≡ false
    → ends id epoch r ≡ true → ⊥
not_decided id epoch r un h = let dec = ends_decided id epoch r h in cc

------ the ids that a row names

-- the row names the id as its own, its previous or its next one
pub data Names (r : Row) (id : ℕ) : Type 0 where
  own : r.id ≡ id → Names r id
  previous : r.previous ≡ Some id → Names r id
  next : r.next ≡ Some id → Names r id

pub row_below : (r : Row) (id : ℕ) → Names r id → id < above_ids (Written r)
row_below r id (own e) = grind arith
row_below r id (previous e) = let f : above r.previous ≡ id + 1 = ap above e in grind arith
row_below r id (next e) = let f : above r.next ≡ id + 1 = ap above e in grind arith

-- what the log has of a note is below the next id
pub above_below : (log : List TxnEntry) (note : TxnEntry) (id : ℕ) → Contains log note
    → id < above_ids note → id < next_id log
unfolding next_id
above_below [] note id c b = absurd (no_element note c)
above_below (n ∷ log) note id c b =
    ⊎_elim
    (λ e. let h : id < above_ids n = subst (λ x. id < above_ids x) (sym e) b in grind arith)
    (λ c. let h = above_below log note id c b in grind arith) (cons_cases n note log c)

pub above_own : (log : List TxnEntry) (s : Row) (id : ℕ) → Contains log (Written s) → Names s id
    → id < next_id log
above_own log s id c n = above_below log (Written s) id c (row_below s id n)
