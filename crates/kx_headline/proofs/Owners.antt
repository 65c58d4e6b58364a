-- Rows that give one pair of id and epoch have one owner, also the row that ends the pair's
-- transaction; and no row names an id that was allotted.
use Rattle.std.proofs.Common.{◌≡◌, ◌⊎◌, ℕ, ◌+◌, ◌<◌, ◌≤◌, true, false, List, [], ◌∷◌, ◌++◌, Some}
use Rattle.std.proofs.Common.{None, pos, ◌+ℤ◌}
use Rattle.std.proofs.Common.{Contains, refl, sym, ap, ◌∙◌, subst, inl, inr, ⊎_elim, arith}
use Rattle.std.specs.Prelude.{is_some}
use Rattle.std.proofs.lemmas.List.Elements.{Contains-push_cases}
use Rattle.kx_message.specs.declared.message.Message.{Message}
use Rattle.kx_message.specs.declared.outcome.Outcome.{Outcome}
use Rattle.kx_message.specs.declared.outcome.Outcome.TheVariants.{Abort}
use Rattle.kx_model.specs.Coordinator.{Row, TxnEntry, CoordinatorEpoch, Allot, Written, Cause}
use Rattle.kx_model.specs.Coordinator.{ByEnd}
use Rattle.kx_model.specs.Coordinator.{Complete, Prepare, coordinator_epoch, ends}
use Rattle.kx_model.specs.Coordinator.{next_id, outcome_of, row_of}
use Rattle.kx_model.specs.Requests.{completed, first_use, prepared, with_added}
use Rattle.kx_headline.proofs.CoordinatorFollows.{Follows, opens, allots, begins, adds, prepares}
use Rattle.kx_headline.proofs.CoordinatorFollows.{takes_over, gives_up, completes, IsSettled}
use Rattle.kx_headline.proofs.CoordinatorFollows.{Raised, higher, anew, Completed, stays, gives_way}
use Rattle.kx_headline.proofs.CoordinatorFollows.{behind, completed_ends, ending_range, given_up}
use Rattle.kx_headline.proofs.CoordinatorFollows.{is_completed, is_raised, is_taken_over}
use Rattle.kx_headline.proofs.CoordinatorFollows.{not_prepare, prepared_next, taken_over, there}
use Rattle.kx_headline.proofs.CoordinatorFollows.{fresh, undecided}
use Rattle.kx_headline.proofs.CoordinatorGrows.{History, none, more, history_sound, no_first_row}
use Rattle.kx_headline.proofs.CoordinatorRows.{IsFound, Ends, one_higher, replaced, Names, own}
use Rattle.kx_headline.proofs.CoordinatorRows.{previous, next, above_below, above_own, ends_tells}
use Rattle.kx_headline.proofs.CoordinatorRows.{first_row_found, not_decided}
use Rattle.kx_headline.proofs.CoordinatorSound.{NotPast, newer_id, same_id, Sound, old_or_new}

-- the row gives its owner the pair, now or when its markers are answered
pub data Pairs (r : Row) (id epoch : ℕ) : Type 0 where
  has_now : r.id ≡ id → r.epoch ≡ epoch → Pairs r id epoch
  promised : r.next ≡ Some id → epoch ≡ 0 → Pairs r id epoch

pub record OneOwner (log : List TxnEntry) : Type 0 where
  pub one : (r s : Row) (id epoch : ℕ) → Contains log (Written r) → Contains log (Written s)
      → Pairs r id epoch → Pairs s id epoch → r.owner ≡ s.owner
  pub ended : (r s : Row) (id epoch : ℕ) → Contains log (Written r) → Contains log (Written s)
      → ends id epoch r ≡ true → Pairs s id epoch → s.owner ≡ r.owner

-- what a row has to meet
record Keeps (log : List TxnEntry) (n : Row) : Type 0 where
  pairs : (q : Row) (id epoch : ℕ) → Contains log (Written q) → Pairs n id epoch
      → Pairs q id epoch → q.owner ≡ n.owner
  ends_it : (q : Row) (id epoch : ℕ) → Contains log (Written q) → ends id epoch n ≡ true
      → Pairs q id epoch → q.owner ≡ n.owner
  ended_by : (q : Row) (id epoch : ℕ) → Contains log (Written q) → ends id epoch q ≡ true
      → Pairs n id epoch → n.owner ≡ q.owner

module _ (log : List TxnEntry) (n : Row) (ow : OneOwner log) (k : Keeps log n) where
  one_next : (r s : Row) (id epoch : ℕ) → Contains log (Written r) ⊎ (n ≡ r)
      → Contains log (Written s) ⊎ (n ≡ s) → Pairs r id epoch → Pairs s id epoch
      → r.owner ≡ s.owner
  one_next r s id epoch (inl c) (inl d) x y = ow.one r s id epoch c d x y
  one_next r s id epoch (inl c) (inr e) x y =
      k.pairs r id epoch c (subst (λ z. Pairs z id epoch) (sym e) y) x ∙ ap (λ z. z.owner) e
  one_next r s id epoch (inr e) (inl d) x y =
      sym (k.pairs s id epoch d (subst (λ z. Pairs z id epoch) (sym e) x) y
      ∙ ap (λ z. z.owner) e)
  one_next r s id epoch (inr e) (inr f) x y = ap (λ z. z.owner) (sym e ∙ f)

  ended_next : (r s : Row) (id epoch : ℕ) → Contains log (Written r) ⊎ (n ≡ r)
      → Contains log (Written s) ⊎ (n ≡ s) → ends id epoch r ≡ true → Pairs s id epoch
      → s.owner ≡ r.owner
  ended_next r s id epoch (inl c) (inl d) x y = ow.ended r s id epoch c d x y
  ended_next r s id epoch (inl c) (inr e) x y =
      sym (ap (λ z. z.owner) e)
      ∙ k.ended_by r id epoch c x (subst (λ z. Pairs z id epoch) (sym e) y)
  ended_next r s id epoch (inr e) (inl d) x y =
      k.ends_it s id epoch d (subst (λ z. ends id epoch z ≡ true) (sym e) x) y
      ∙ ap (λ z. z.owner) e
  ended_next r s id epoch (inr e) (inr f) x y = ap (λ z. z.owner) (sym f ∙ e)

  written_owner : OneOwner (log ++ Written n ∷ [])
  written_owner = record {
    one = λ r s id epoch c d.
        one_next r s id epoch (old_or_new log n r c) (old_or_new log n s d);
    ended = λ r s id epoch c d.
        ended_next r s id epoch (old_or_new log n r c) (old_or_new log n s d);
  }

module _ {log : List TxnEntry} (sound : Sound log) where
  new_id : (q : Row) (id epoch : ℕ) → Contains log (Written q) → next_id log ≡ id
      → Pairs q id epoch → ⊥
  new_id q id epoch c e (has_now a b) =
      let below = above_own log q id c (own a) in omega arith
  new_id q id epoch c e (promised a b) =
      let below = above_own log q id c (next a) in omega arith

  new_ended : (q : Row) (id epoch : ℕ) → Contains log (Written q) → next_id log ≡ id
      → Ends id epoch q → ⊥
  new_ended q id epoch c e (one_higher a b d) =
      let below = above_own log q id c (own a) in omega arith
  new_ended q id epoch c e (replaced a b d f) =
      let below = above_own log q id c (previous b) in omega arith

  module _ (ow : OneOwner log) {s : Row} (found : row_of log s.txn ≡ Some s) where
    here : Contains log (Written s)
    here = there sound found

    -- the next pair of its id stands nowhere, and nothing has ended it
    no_such : (q : Row) (id epoch : ℕ) → Contains log (Written q) → s.id ≡ id
        → s.epoch + 1 ≡ epoch → Pairs q id epoch → ⊥
    no_such q id epoch c i e (has_now a b) =
        at (behind sound found q s.id c (own (a ∙ sym i)) (own refl))
      where
        at : NotPast q s → ⊥
        at (newer_id x) = omega arith
        at (same_id x y) = omega arith
    no_such q id epoch c i e (promised a b) = omega arith

    not_ended : (q : Row) (id epoch : ℕ) → Contains log (Written q) → s.id ≡ id
        → s.epoch + 1 ≡ epoch → ends id epoch q ≡ true → ⊥
    not_ended q id epoch c i e h =
        let first = undecided sound found epoch (omega arith) in
        let f = subst (IsFound (ends s.id epoch) log) first
        (first_row_found (ends s.id epoch) log)
        q c in
        let g : ends s.id epoch q ≡ true = ap (λ x. ends x epoch q) i ∙ h in
        absurd cc

    keeps_adds : (start partition : ℕ) → Keeps log (with_added s start partition)
    keeps_adds start partition = record {
      pairs = λ q id epoch c x y. ow.one q s id epoch c here y (as_s x);
      ends_it = λ q id epoch c x y.
          absurd (not_decided id epoch (with_added s start partition) refl x);
      ended_by = λ q id epoch c x y. ow.ended q s id epoch c here x (as_s y);
    }
      where
        as_s : {id epoch : ℕ} → Pairs (with_added s start partition) id epoch → Pairs s id epoch
        as_s (has_now a b) = has_now a b
        as_s (promised a b) = promised a b

    keeps_prepares : (o : Outcome) (cause : Cause) → Keeps log (prepared log s o cause)
    keeps_prepares o cause = record {
      pairs = λ q id epoch c x y. absurd (no_pair q id epoch c x y);
      ends_it = λ q id epoch c x y.
          at q id epoch c (ends_tells id epoch (prepared log s o cause) x) y;
      ended_by = λ q id epoch c x y. absurd (un q id epoch c x y);
    }
      where
        no_pair : (q : Row) (id epoch : ℕ) → Contains log (Written q)
            → Pairs (prepared log s o cause) id epoch → Pairs q id epoch → ⊥
        no_pair q id epoch c (has_now a b) y = no_such q id epoch c a b y
        no_pair q id epoch c (promised a b) y =
            new_id q id epoch c (prepared_next log s o cause id a).1 y

        un : (q : Row) (id epoch : ℕ) → Contains log (Written q) → ends id epoch q ≡ true
            → Pairs (prepared log s o cause) id epoch → ⊥
        un q id epoch c x (has_now a b) = not_ended q id epoch c a b x
        un q id epoch c x (promised a b) =
            new_ended q id epoch c (prepared_next log s o cause id a).1 (ends_tells id epoch q x)

        at : (q : Row) (id epoch : ℕ) → Contains log (Written q)
            → Ends id epoch (prepared log s o cause) → Pairs q id epoch → q.owner ≡ s.owner
        at q id epoch c (one_higher a b d) y =
            ow.one q s id epoch c here y (has_now a (omega arith))
        at q id epoch c (replaced a b d e) y = absurd cc

    -- an undecided row may change the owner; any other keeps it
    module _ (r : Row) (unnamed : r.next ≡ None) (resting : IsSettled s.state)
        (either : (is_some (outcome_of r.state) ≡ false) ⊎ (r.owner ≡ s.owner)) where
      low : s.epoch ≤ 32766
      low = (sound.shape s here).resting (not_prepare s.state resting)

      raised_pair : (q : Row) (id epoch : ℕ) → Contains log (Written q) → Raised log s r
          → Pairs r id epoch → Pairs q id epoch → ⊥
      raised_pair q id epoch c up (promised g h) y = cc
      raised_pair q id epoch c (higher a b d e) (has_now g h) y =
          no_such q id epoch c (sym a ∙ g) (sym b ∙ h) y
      raised_pair q id epoch c (anew a b d e) (has_now g h) y = new_id q id epoch c (sym a ∙ g) y

      raised_unended : (q : Row) (id epoch : ℕ) → Contains log (Written q) → Raised log s r
          → ends id epoch q ≡ true → Pairs r id epoch → ⊥
      raised_unended q id epoch c up x (promised g h) = cc
      raised_unended q id epoch c (higher a b d e) x (has_now g h) =
          not_ended q id epoch c (sym a ∙ g) (sym b ∙ h) x
      raised_unended q id epoch c (anew a b d e) x (has_now g h) =
          new_ended q id epoch c (sym a ∙ g) (ends_tells id epoch q x)

      raised_ends_it : (q : Row) (id epoch : ℕ) → Contains log (Written q) → Raised log s r
          → Ends id epoch r → Pairs q id epoch → q.owner ≡ s.owner
      raised_ends_it q id epoch c (higher a b d e) (one_higher g h i) y =
          ow.one q s id epoch c here y (has_now (sym a ∙ g) (omega arith))
      raised_ends_it q id epoch c (higher a b d e) (replaced g h i j) y = absurd (omega arith)
      raised_ends_it q id epoch c (anew a b d e) (one_higher g h i) y = absurd (omega arith)
      raised_ends_it q id epoch c (anew a b d e) (replaced g h i j) y =
          let same : s.id ≡ id = cc in
          ow.one q s id epoch c here y (has_now same (let l = low in omega arith))

      keeps_raised : Raised log s r → Keeps log r
      keeps_raised up = record {
        pairs = λ q id epoch c x y. absurd (raised_pair q id epoch c up x y);
        ends_it = λ q id epoch c x y.
            ⊎_elim (λ un. absurd (not_decided id epoch r un x))
            (λ same. raised_ends_it q id epoch c up (ends_tells id epoch r x) y
            ∙ sym same) either;
        ended_by = λ q id epoch c x y. absurd (raised_unended q id epoch c up x y);
      }

    module _ (r : Row) (o : Outcome) (was : s.state ≡ Prepare o) (unnamed : r.next ≡ None)
        (same : r.owner ≡ s.owner) where
      completed_pair : (id epoch : ℕ) → Completed log s r → Pairs r id epoch
          → Pairs s id epoch ⊎ (next_id log ≡ id)
      completed_pair id epoch done (promised g h) = absurd cc
      completed_pair id epoch (stays a b d e) (has_now g h) =
          inl (has_now (sym a ∙ g) (sym b ∙ h))
      completed_pair id epoch (gives_way (inl n) b d e) (has_now g h) =
          inl (promised (n ∙ ap Some g) (sym h ∙ d))
      completed_pair id epoch (gives_way (inr n) b d e) (has_now g h) = inr (n ∙ g)

      keeps_completed : Completed log s r → Keeps log r
      keeps_completed done = record {
        pairs = λ q id epoch c x y.
            ⊎_elim (λ z. ow.one q s id epoch c here y z ∙ sym same)
            (λ e. absurd (new_id q id epoch c e y)) (completed_pair id epoch done x);
        ends_it = λ q id epoch c x y.
            ow.ended s q id epoch here c
            (completed_ends sound found r o was done id epoch (ends_tells id epoch r x)) y
            ∙ sym same;
        ended_by = λ q id epoch c x y.
            ⊎_elim (λ z. same ∙ ow.ended q s id epoch c here x z)
            (λ e. absurd (new_ended q id epoch c e (ends_tells id epoch q x)))
            (completed_pair id epoch done y);
      }

  keeps_first : (txn : List ℕ) (client timeout : ℕ)
      → Keeps log (first_use log client txn timeout)
  keeps_first txn client timeout = record {
    pairs = λ q id epoch c x y. absurd (no_pair q id epoch c x y);
    ends_it = λ q id epoch c x y.
        absurd (not_decided id epoch (first_use log client txn timeout) refl x);
    ended_by = λ q id epoch c x y. absurd (un q id epoch c x y);
  }
    where
      no_pair : (q : Row) (id epoch : ℕ) → Contains log (Written q)
          → Pairs (first_use log client txn timeout) id epoch → Pairs q id epoch → ⊥
      no_pair q id epoch c (has_now a b) y = new_id q id epoch c a y
      no_pair q id epoch c (promised a b) y = cc

      un : (q : Row) (id epoch : ℕ) → Contains log (Written q) → ends id epoch q ≡ true
          → Pairs (first_use log client txn timeout) id epoch → ⊥
      un q id epoch c x (has_now a b) = new_ended q id epoch c a (ends_tells id epoch q x)
      un q id epoch c x (promised a b) = cc

-- a note that is no row
no_row_owner : (log : List TxnEntry) (note : TxnEntry) → OneOwner log
    → ((r : Row) → note ≡ Written r → ⊥) → OneOwner (log ++ note ∷ [])
no_row_owner log note ow no_row = record {
  one = λ r s id epoch c d. ow.one r s id epoch (old r c) (old s d);
  ended = λ r s id epoch c d. ow.ended r s id epoch (old r c) (old s d);
}
  where
    old : (r : Row) → Contains (log ++ note ∷ []) (Written r) → Contains log (Written r)
    old r c =
        ⊎_elim (λ c. c) (λ e. absurd (no_row r e)) (Contains-push_cases log note (Written r) c)

-- each note that may be written keeps one owner to a pair
owner_next : {sent : List Message} {log : List TxnEntry} {note : TxnEntry} → Sound log →
    OneOwner log
    → Follows sent log note → OneOwner (log ++ note ∷ [])
owner_next {log = log} sound ow (opens low) =
    no_row_owner log (CoordinatorEpoch (coordinator_epoch log +ℤ pos 1)) ow (λ r e. cc)
owner_next {log = log} sound ow (allots c t m) =
    no_row_owner log (Allot (next_id log)) ow (λ r e. cc)
owner_next {log = log} sound ow (begins txn c t first m) =
    written_owner log (first_use log c.client txn t) ow (keeps_first sound txn c.client t)
owner_next {log = log} sound ow (adds s start p found active m) =
    written_owner log (with_added s start p) ow (keeps_adds sound ow found start p)
owner_next {log = log} sound ow (prepares s o cause found going why) =
    written_owner log (prepared log s o cause) ow (keeps_prepares sound ow found o cause)
owner_next {log = log} sound ow (takes_over s c t found resting above m) =
    let r = taken_over log s c.client t in
    written_owner log r ow
    (keeps_raised sound ow found r refl resting (inl refl) (is_taken_over log s c.client t))
owner_next {log = log} sound ow (gives_up s c found resting m) =
    let r = given_up log s in
    written_owner log r ow
    (keeps_raised sound ow found r refl resting (inr refl)
    (is_raised log s (Complete Abort) ByEnd))
owner_next {log = log} sound ow (completes s o found was m) =
    let r = completed log s o in
    written_owner log r ow
    (keeps_completed sound ow found r o was refl refl
    (is_completed log s o (ending_range sound found r o was).1))

pub one_owner : {sent : List Message} {log : List TxnEntry} → History sent log → OneOwner log
one_owner none = record {
  one = λ r s id epoch c. absurd (no_first_row r c);
  ended = λ r s id epoch c. absurd (no_first_row r c);
}
one_owner (more mid note g n) = owner_next (history_sound g) (one_owner g) n.follows

------ ids that were allotted

-- an id that the new row names is named by an older row, or is the next id
new_names : {sent : List Message} {log : List TxnEntry} {note : TxnEntry} → Sound log
    → Follows sent log note → (r : Row) → note ≡ Written r → (id : ℕ) → Names r id
    → ((s : Row) × Contains log (Written s) × Names s id) ⊎ (next_id log ≡ id)
new_names {sent = sent} {log = log} sound f r e id n = by f e
  where
    Old : Type 0
    Old = (s : Row) × Contains log (Written s) × Names s id

    first : (txn : List ℕ) (client timeout : ℕ) → Names (first_use log client txn timeout) id
        → Old ⊎ (next_id log ≡ id)
    first txn client timeout (own a) = inr a
    first txn client timeout (previous a) = absurd cc
    first txn client timeout (next a) = absurd cc

    added : (s : Row) (start p : ℕ) → Contains log (Written s) → Names (with_added s start p) id
        → Old ⊎ (next_id log ≡ id)
    added s start p c (own a) = inl (s, c, own a)
    added s start p c (previous a) = inl (s, c, previous a)
    added s start p c (next a) = inl (s, c, next a)

    prepares_names : (s : Row) (o : Outcome) (cause : Cause) → Contains log (Written s)
        → Names (prepared log s o cause) id → Old ⊎ (next_id log ≡ id)
    prepares_names s o cause c (own a) = inl (s, c, own a)
    prepares_names s o cause c (previous a) = inl (s, c, previous a)
    prepares_names s o cause c (next a) = inr (prepared_next log s o cause id a).1

    raises : (s q : Row) → Contains log (Written s) → Raised log s q → q.next ≡ None
        → Names q id → Old ⊎ (next_id log ≡ id)
    raises s q c up un (next a) = absurd cc
    raises s q c (higher a b d e) un (own g) = inl (s, c, own (sym a ∙ g))
    raises s q c (higher a b d e) un (previous g) = inl (s, c, previous (sym e ∙ g))
    raises s q c (anew a b d e) un (own g) = inr (sym a ∙ g)
    raises s q c (anew a b d e) un (previous g) = let h : s.id ≡ id = cc in inl (s, c, own h)

    finishes : (s q : Row) → Contains log (Written s) → Completed log s q → q.next ≡ None
        → Names q id → Old ⊎ (next_id log ≡ id)
    finishes s q c done un (next a) = absurd cc
    finishes s q c (stays a b d e) un (own g) = inl (s, c, own (sym a ∙ g))
    finishes s q c (stays a b d e) un (previous g) = inl (s, c, previous (sym e ∙ g))
    finishes s q c (gives_way (inl h) b d e) un (own g) = inl (s, c, next (h ∙ ap Some g))
    finishes s q c (gives_way (inr h) b d e) un (own g) = inr (h ∙ g)
    finishes s q c (gives_way a b d e) un (previous g) =
        let h : s.id ≡ id = cc in inl (s, c, own h)

    as_new : (q : Row) → Written q ≡ Written r → Names q id
    as_new q same = let h : q ≡ r = cc in subst (λ x. Names x id) (sym h) n

    by : {note : TxnEntry} → Follows sent log note → note ≡ Written r → Old ⊎ (next_id log ≡ id)
    by (opens low) same = absurd cc
    by (allots c t m) same = absurd cc
    by (begins txn c t un m) same =
        first txn c.client t (as_new (first_use log c.client txn t) same)
    by (adds s start p found active m) same =
        added s start p (there sound found) (as_new (with_added s start p) same)
    by (prepares s o cause found going why) same =
        prepares_names s o cause (there sound found) (as_new (prepared log s o cause) same)
    by (takes_over s c t found resting above m) same =
        let q = taken_over log s c.client t in
        raises s q (there sound found) (is_taken_over log s c.client t) refl (as_new q same)
    by (gives_up s c found resting m) same =
        let q = given_up log s in
        raises s q (there sound found) (is_raised log s (Complete Abort) ByEnd) refl
        (as_new q same)
    by (completes s o found was m) same =
        let q = completed log s o in
        finishes s q (there sound found)
        (is_completed log s o (ending_range sound found q o was).1) refl (as_new q same)

pub new_allotment : {sent : List Message} {log : List TxnEntry} {note : TxnEntry} →
    Follows sent log note
    → (id : ℕ) → note ≡ Allot id → next_id log ≡ id
new_allotment (opens low) id e = absurd cc
new_allotment (allots c t m) id e = cc
new_allotment (begins txn c t un m) id e = absurd cc
new_allotment (adds s start p found active m) id e = absurd cc
new_allotment (prepares s o cause found going why) id e = absurd cc
new_allotment (takes_over s c t found resting above m) id e = absurd cc
new_allotment (gives_up s c found resting m) id e = absurd cc
new_allotment (completes s o found was m) id e = absurd cc

pub allotted_below : (log : List TxnEntry) (id : ℕ) → Contains log (Allot id) → id < next_id log
allotted_below log id c = above_below log (Allot id) id c (omega arith)

-- no row names an id that was allotted
abbrev pub Unnamed : List TxnEntry → Type 0
Unnamed log = (id : ℕ) → Contains log (Allot id) → (r : Row) → Contains log (Written r)
    → Names r id → ⊥

unnamed_next : {sent : List Message} (log : List TxnEntry) (note : TxnEntry) → Sound log
    → Follows sent log note → Unnamed log → Unnamed (log ++ note ∷ [])
unnamed_next log note sound f ih id c r d n =
    by (Contains-push_cases log note (Allot id) c) (Contains-push_cases log note (Written r) d)
  where
    by : Contains log (Allot id) ⊎ (note ≡ Allot id)
        → Contains log (Written r) ⊎ (note ≡ Written r) → ⊥
    by (inl c) (inl d) = ih id c r d n
    by (inl c) (inr e) =
        ⊎_elim (λ s. ih id c s.0 s.1 s.2)
        (λ same. let below = allotted_below log id c in omega arith) (new_names sound f r e id n)
    by (inr e) (inl d) = fresh sound r id d (new_allotment f id e) n
    by (inr e) (inr g) = let h : Allot id ≡ Written r = sym e ∙ g in cc

pub unnamed : {sent : List Message} {log : List TxnEntry} → History sent log → Unnamed log
unnamed none id c r d n = no_first_row r d
unnamed (more mid note g x) id c r d n =
    unnamed_next mid note (history_sound g) x.follows (unnamed g) id c r d n
