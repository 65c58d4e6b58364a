-- What always holds of the coordinator's log, and what a row has to meet to keep it.
use Rattle.std.proofs.Common.{◌≡◌, ◌⊎◌, ℕ, ◌<◌, ◌≤◌, true, cond, List, [], ◌∷◌, ◌++◌, Option, Some}
use Rattle.std.proofs.Common.{None}
use Rattle.std.proofs.Common.{Bool, Contains, refl, sym, ap, ◌∙◌, subst, inl, inr, ⊎_elim, arith}
use Rattle.std.specs.Option.{option_or}
use Rattle.std.specs.Prelude.{bytes_eq}
use Rattle.std.proofs.lemmas.Bool.{cases_Bool}
use Rattle.std.proofs.lemmas.List.Elements.{Contains-push_cases}
use Rattle.std.proofs.lemmas.Slice.Eq.{bytes_eq-Decides}
use Rattle.std.proofs.lemmas.Bool.Decides.{not_from_Decides}
use Rattle.kx_message.specs.declared.outcome.Outcome.{Outcome}
use Rattle.kx_model.specs.Coordinator.{Row, TxnEntry, Written, Prepare, decision, ends, first_row}
use Rattle.kx_model.specs.Coordinator.{outcome_in, outcome_of, row_if, row_of}
use Rattle.kx_model.proofs.Notes.{decision_stays}
use Rattle.kx_headline.proofs.CoordinatorRows.{Names, ends_decided, first_row-push, outcome_some}
use Rattle.kx_headline.proofs.CoordinatorRows.{row_of-other, row_of-own, row_of-written}

-- the pair (id, epoch) of r isn't above that of s
pub data NotPast (r s : Row) : Type 0 where
  newer_id : r.id < s.id → NotPast r s
  same_id : r.id ≡ s.id → r.epoch ≤ s.epoch → NotPast r s

-- the numbers of a row: its previous id is below its own, its next id above and named at the spent
-- epoch alone, which only a transaction that ends can have
pub record Shape (r : Row) : Type 0 where
  pub previous_below : (id : ℕ) → r.previous ≡ Some id → id < r.id
  pub next_above : (id : ℕ) → r.next ≡ Some id → r.id < id
  pub next_only : (id : ℕ) → r.next ≡ Some id → r.epoch ≡ 32767
  pub ending : (o : Outcome) → r.state ≡ Prepare o → (1 ≤ r.epoch) × (r.epoch ≤ 32767)
  pub resting : ((o : Outcome) → r.state ≡ Prepare o → ⊥) → r.epoch ≤ 32766

pub record Sound (log : List TxnEntry) : Type 0 where
  -- the last row of a transactional id is past all its rows
  pub current : (r : Row) → Contains log (Written r)
      → (s : Row) × (row_of log r.txn ≡ Some s) × NotPast r s
  -- an id belongs to one transactional id
  pub one_txn : (r s : Row) (id : ℕ) → Contains log (Written r) → Contains log (Written s)
      → Names r id → Names s id → r.txn ≡ s.txn
  pub shape : (r : Row) → Contains log (Written r) → Shape r
  -- all rows that end a transaction agree with its decision
  pub decided : (r : Row) (id epoch : ℕ) → Contains log (Written r) → ends id epoch r ≡ true
      → decision log id epoch ≡ outcome_of r.state

-- what a row has to meet to be written next
pub record Fits (log : List TxnEntry) (r : Row) : Type 0 where
  pub past : (s : Row) → row_of log r.txn ≡ Some s → NotPast s r
  pub its_own : (s : Row) (id : ℕ) → Contains log (Written s) → Names r id → Names s id
      → s.txn ≡ r.txn
  pub shape : Shape r
  pub decides : (id epoch : ℕ) → ends id epoch r ≡ true
      → (first_row (ends id epoch) log ≡ None) ⊎ (decision log id epoch ≡ outcome_of r.state)

not_past_trans : (a b c : Row) → NotPast a b → NotPast b c → NotPast a c
not_past_trans a b c (newer_id x) (newer_id y) = newer_id (omega arith)
not_past_trans a b c (newer_id x) (same_id y z) = newer_id (omega arith)
not_past_trans a b c (same_id x w) (newer_id y) = newer_id (omega arith)
not_past_trans a b c (same_id x w) (same_id y z) = same_id (omega arith) (omega arith)

pub not_past_self : (a : Row) → NotPast a a
not_past_self a = same_id refl (omega arith)

pub same_or_not : (a b : List ℕ) → (a ≡ b) ⊎ (a ≡ b → ⊥)
same_or_not a b =
    ⊎_elim (λ e. inl ((bytes_eq-Decides a b).0 e))
    (λ e. inr (not_from_Decides (bytes_eq a b) (bytes_eq-Decides a b) e))
    (cases_Bool (bytes_eq a b))

------ one row more

module _ (log : List TxnEntry) (r : Row) where
  pub old_or_new : (q : Row) → Contains (log ++ Written r ∷ []) (Written q)
      → Contains log (Written q) ⊎ (r ≡ q)
  old_or_new q c = ⊎_elim inl (λ e. inr cc) (Contains-push_cases log (Written r) (Written q) c)

  module _ (sound : Sound log) (fits : Fits log r) where
    abbrev IsCurrent : Row → Type 0
    IsCurrent q = (s : Row) × (row_of (log ++ Written r ∷ []) q.txn ≡ Some s) × NotPast q s

    current_old : (q : Row) → Contains log (Written q) → IsCurrent q
    current_old q c =
        let (s, found, np) = sound.current q c in
        ⊎_elim (λ same. (
          r,
          subst (λ t. row_of (log ++ Written r ∷ []) t ≡ Some r) same (row_of-own log r),
          not_past_trans q s r np
              (fits.past s (subst (λ t. row_of log t ≡ Some s) (sym same) found)),
        ))
        (λ differ. (s, row_of-written log r q.txn differ ∙ found, np)) (same_or_not r.txn q.txn)

    current_next : (q : Row) → Contains (log ++ Written r ∷ []) (Written q) → IsCurrent q
    current_next q c =
        ⊎_elim (current_old q)
        (λ e. subst IsCurrent e (r, row_of-own log r, not_past_self r)) (old_or_new q c)

    one_txn_next : (p q : Row) (id : ℕ) → Contains (log ++ Written r ∷ []) (Written p)
        → Contains (log ++ Written r ∷ []) (Written q) → Names p id → Names q id → p.txn ≡ q.txn
    one_txn_next p q id a b m n = by (old_or_new p a) (old_or_new q b)
      where
        by : Contains log (Written p) ⊎ (r ≡ p) → Contains log (Written q) ⊎ (r ≡ q)
            → p.txn ≡ q.txn
        by (inl pa) (inl qb) = sound.one_txn p q id pa qb m n
        by (inl pa) (inr e) =
            fits.its_own p id pa (subst (λ x. Names x id) (sym e) n) m ∙ ap (λ x. x.txn) e
        by (inr d) (inl qb) =
            sym (fits.its_own q id qb (subst (λ x. Names x id) (sym d) m) n ∙ ap (λ x. x.txn) d)
        by (inr d) (inr e) = ap (λ x. x.txn) (sym d ∙ e)

    abbrev IsDecided : Row → ℕ → ℕ → Type 0
    IsDecided q id epoch = decision (log ++ Written r ∷ []) id epoch ≡ outcome_of q.state

    stays : (q : Row) (id epoch : ℕ) → ends id epoch q ≡ true
        → decision log id epoch ≡ outcome_of q.state → IsDecided q id epoch
    stays q id epoch e d =
        let (o, is_o) = outcome_some q.state (ends_decided id epoch q e) in
        decision_stays log (Written r ∷ []) id epoch o (d ∙ is_o) ∙ sym is_o

    decided_new : (id epoch : ℕ) → ends id epoch r ≡ true → IsDecided r id epoch
    decided_new id epoch e =
        ⊎_elim
        (λ none. ap outcome_in (first_row-push (ends id epoch) log (Written r)
        ∙ ap (λ o. option_or o (row_if (ends id epoch) (Written r))) none
        ∙ ap (λ b. cond b (Some r) None) e))
        (λ d. stays r id epoch e d) (fits.decides id epoch e)

    decided_next : (q : Row) (id epoch : ℕ) → Contains (log ++ Written r ∷ []) (Written q)
        → ends id epoch q ≡ true → IsDecided q id epoch
    decided_next q id epoch c h =
        ⊎_elim (λ c. stays q id epoch h (sound.decided q id epoch c h))
        (λ e. subst (λ x. ends id epoch x ≡ true → IsDecided x id epoch) e
        (decided_new id epoch) h) (old_or_new q c)

    pub sound_written : Sound (log ++ Written r ∷ [])
    sound_written = record {
      current = current_next;
      one_txn = one_txn_next;
      shape = λ q c. ⊎_elim (sound.shape q) (λ e. subst Shape e fits.shape) (old_or_new q c);
      decided = decided_next;
    }

------ a note that is no row

module _ (log : List TxnEntry) (note : TxnEntry) (sound : Sound log)
    (no_row : (r : Row) → note ≡ Written r → ⊥)
    (no_test : (test : Row → Bool) → row_if test note ≡ None) where
  only_old : (q : Row) → Contains (log ++ note ∷ []) (Written q) → Contains log (Written q)
  only_old q c =
      ⊎_elim (λ c. c) (λ e. absurd (no_row q e)) (Contains-push_cases log note (Written q) c)

  same_decision : (id epoch : ℕ) → decision (log ++ note ∷ []) id epoch ≡ decision log id epoch
  same_decision id epoch =
      ap outcome_in (first_row-push (ends id epoch) log note
      ∙ ap (option_or (first_row (ends id epoch) log)) (no_test (ends id epoch))
      ∙ or_none (first_row (ends id epoch) log))
    where
      or_none : (o : Option Row) → option_or o None ≡ o
      or_none None = refl
      or_none (Some r) = refl

  pub sound_other : Sound (log ++ note ∷ [])
  sound_other = record {
    current = λ q c. let (s, found, np) = sound.current q (only_old q c) in
        (s, row_of-other log note q.txn (no_test _) ∙ found, np);
    one_txn = λ p q id a b. sound.one_txn p q id (only_old p a) (only_old q b);
    shape = λ q c. sound.shape q (only_old q c);
    decided = λ q id epoch c e. same_decision id epoch
        ∙ sound.decided q id epoch (only_old q c) e;
  }
