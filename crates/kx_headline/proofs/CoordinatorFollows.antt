-- What the coordinator may write next, one case for each transition of a transactional id and by
-- which message of all that were sent, and that each case keeps its log sound.
use Rattle.std.proofs.Common.{◌≡◌, ◌≢◌, ◌⊎◌, ℕ, ◌+◌, ◌<◌, ◌≤◌, Bool, true, false, List, []}
use Rattle.std.proofs.Common.{◌∷◌, ◌++◌}
use Rattle.std.proofs.Common.{Option, Some, None, ◌==◌, Contains, refl, sym, ap, ◌∙◌, subst, inl}
use Rattle.std.proofs.Common.{inr, pos, ◌+ℤ◌, ◌<ℤ◌}
use Rattle.std.proofs.Common.{arith, nat_lt, cond}
use Rattle.std.specs.Prelude.{unwrap_or, is_some}
use Rattle.std.proofs.lemmas.Bool.{cond_both}
use Rattle.std.proofs.lemmas.Bool.Decides.{nat_tests}
use Rattle.std.proofs.lemmas.List.Elements.{Contains-append_left, Contains-push}
use Rattle.std.specs.List.{list_any}
use Rattle.kx_message.specs.declared.requests.Caller.{Caller}
use Rattle.kx_message.specs.declared.code.ErrorCode.TheVariants.{NoError}
use Rattle.kx_message.specs.declared.message.Message.{Message}
use Rattle.kx_message.specs.Messages as the
use Rattle.kx_message.specs.declared.outcome.Outcome.{Outcome}
use Rattle.kx_message.specs.declared.outcome.Outcome.TheVariants.{Abort}
use Rattle.kx_model.specs.Coordinator.{Row, TxnEntry, CoordinatorEpoch, Allot, Written, State}
use Rattle.kx_model.specs.Coordinator.{Empty}
use Rattle.kx_model.specs.Coordinator.{Ongoing, Prepare, Complete, Cause, ByInit, ByEnd}
use Rattle.kx_model.specs.Coordinator.{ByExpiry, ByMarkers, coordinator_epoch, decision, ends}
use Rattle.kx_model.specs.Coordinator.{first_row, next_id, outcome_of}
use Rattle.kx_message.specs.Ranges.{last_epoch, spent_epoch}
use Rattle.kx_model.specs.Coordinator.{row_of, with_one}
use Rattle.kx_model.specs.Markers.{greatest_epoch}
use Rattle.kx_model.specs.Requests.{completed, first_use, own_pair, prepared, raised, with_added}
use Rattle.kx_headline.proofs.CoordinatorRows.{IsFound, Ends, one_higher, replaced, Names, own}
use Rattle.kx_headline.proofs.CoordinatorRows.{previous, next, above_own, ends_own, ends_tells}
use Rattle.kx_headline.proofs.CoordinatorRows.{first_row_found, not_decided, row_of-found}
use Rattle.kx_headline.proofs.CoordinatorSound.{NotPast, newer_id, same_id, Shape, Sound, Fits}
use Rattle.kx_headline.proofs.CoordinatorSound.{sound_other, sound_written}
use Rattle.kx_laws.proofs.Membership.{any_holds}

------ what may be written

-- a state outside a transaction
pub data IsSettled : State → Type 0 where
  empty : IsSettled Empty
  complete : (o : Outcome) → IsSettled (Complete o)

pub data IsActive : State → Type 0 where
  ongoing : IsActive Ongoing
  settled : {st : State} → IsSettled st → IsActive st

-- why a transaction ends, among the messages that were sent: its client asks, a later client comes,
-- or it lasts too long
pub data Reason (sent : List Message) (s : Row) : Outcome → Cause → Type 0 where
  by_end : (o : Outcome) (caller : Caller)
      → Contains sent (the.EndTxn caller s.txn (own_pair s) o) → Reason sent s o ByEnd
  by_init : Reason sent s Abort ByInit
  by_expiry : Reason sent s Abort ByExpiry

pub lists_added : (p : ℕ) (ps : List ℕ) → Contains (with_one p ps) p
lists_added p ps =
    cond_both (list_any (λ q. q == p) ps) ps (ps ++ p ∷ []) (λ qs. Contains qs p) (λ l.
    let (q, c, t) = any_holds (λ q. q == p) ps l in
    let same : q ≡ p = grind (arith, nat_tests) in
    subst (Contains ps) same c)
    (λ l. Contains-push ps p)

pub lists_still : (p : ℕ) (ps : List ℕ) (q : ℕ) → Contains ps q → Contains (with_one p ps) q
lists_still p ps q c =
    cond_both (list_any (λ q. q == p) ps) ps (ps ++ p ∷ []) (λ qs. Contains qs q)
    (λ l. c)
    (λ l. Contains-append_left ps (p ∷ []) q c)

abbrev pub taken_over : List TxnEntry → Row → ℕ → ℕ → Row
taken_over log s client timeout =
    record (raised log s Empty ByInit) { owner = client; timeout = timeout }

abbrev pub given_up : List TxnEntry → Row → Row
given_up log s = raised log s (Complete Abort) ByEnd

pub data Follows (sent : List Message) (log : List TxnEntry) : TxnEntry → Type 0 where
  opens : coordinator_epoch log <ℤ greatest_epoch
      → Follows sent log (CoordinatorEpoch (coordinator_epoch log +ℤ pos 1))
  allots : (caller : Caller) (timeout : ℕ)
      → Contains sent (the.InitProducerId caller None timeout)
      → Follows sent log (Allot (next_id log))
  begins : (txn : List ℕ) (caller : Caller) (timeout : ℕ) → row_of log txn ≡ None
      → Contains sent (the.InitProducerId caller (Some txn) timeout)
      → Follows sent log (Written (first_use log caller.client txn timeout))
  adds : (s : Row) (start partition : ℕ) → row_of log s.txn ≡ Some s → IsActive s.state
      → Contains sent (the.AddPartition s.txn (own_pair s) partition)
      → Follows sent log (Written (with_added s start partition))
  prepares : (s : Row) (o : Outcome) (cause : Cause) → row_of log s.txn ≡ Some s
      → s.state ≡ Ongoing → Reason sent s o cause
      → Follows sent log (Written (prepared log s o cause))
  takes_over : (s : Row) (caller : Caller) (timeout : ℕ) → row_of log s.txn ≡ Some s
      → IsSettled s.state → s.owner < caller.client
      → Contains sent (the.InitProducerId caller (Some s.txn) timeout)
      → Follows sent log (Written (taken_over log s caller.client timeout))
  gives_up : (s : Row) (caller : Caller) → row_of log s.txn ≡ Some s → IsSettled s.state
      → Contains sent (the.EndTxn caller s.txn (own_pair s) Abort)
      → Follows sent log (Written (given_up log s))
  completes : (s : Row) (o : Outcome) → row_of log s.txn ≡ Some s → s.state ≡ Prepare o
      → ((p : ℕ) → Contains s.partitions p
      → Contains sent (the.MarkerReply p s.txn (own_pair s) NoError))
      → Follows sent log (Written (completed log s o))

-- what may be written may be written when more was sent
pub follows_later : {sent later : List Message} {log : List TxnEntry} {note : TxnEntry}
    → ((m : Message) → Contains sent m → Contains later m) → Follows sent log note
    → Follows later log note
follows_later up (opens e) = opens e
follows_later up (allots c t m) = allots c t (up _ m)
follows_later up (begins txn c t none m) = begins txn c t none (up _ m)
follows_later up (adds s start p found active m) = adds s start p found active (up _ m)
follows_later {sent} {later} up (prepares s o cause found going why) =
    prepares s o cause found going (by why)
  where
    by : {o : Outcome} {cause : Cause} → Reason sent s o cause → Reason later s o cause
    by (by_end o c m) = by_end o c (up _ m)
    by by_init = by_init
    by by_expiry = by_expiry
follows_later up (takes_over s c t found resting above m) =
    takes_over s c t found resting above (up _ m)
follows_later up (gives_up s c found resting m) = gives_up s c found resting (up _ m)
follows_later up (completes s o found was m) = completes s o found was (λ p c. up _ (m p c))

pub not_prepare : (st : State) → IsSettled st → (o : Outcome) → st ≡ Prepare o → ⊥
not_prepare Empty h o e = cc
not_prepare (Complete p) h o e = cc
not_prepare Ongoing h o e = cc
not_prepare (Prepare p) h o e = elim h [ ]

pub not_ongoing : (st : State) → IsSettled st → st ≡ Ongoing → ⊥
not_ongoing Empty h e = cc
not_ongoing (Complete p) h e = cc
not_ongoing Ongoing h e = elim h [ ]
not_ongoing (Prepare p) h e = cc

pub active_not_prepare : (st : State) → IsActive st → (o : Outcome) → st ≡ Prepare o → ⊥
active_not_prepare st ongoing o e = cc
active_not_prepare st (settled h) o e = not_prepare st h o e

------ rows that go on from the last one

-- the pair of a row one epoch higher, or of a new id
pub data Raised (log : List TxnEntry) (s r : Row) : Type 0 where
  higher : r.id ≡ s.id → r.epoch ≡ s.epoch + 1 → s.epoch < 32766 → r.previous ≡ s.previous
      → Raised log s r
  anew : r.id ≡ next_id log → r.epoch ≡ 0 → r.previous ≡ Some s.id → 32766 ≤ s.epoch
      → Raised log s r

pub is_raised : (log : List TxnEntry) (s : Row) (state : State) (cause : Cause)
    → Raised log s (raised log s state cause)
is_raised log s state cause = by (nat_lt s.epoch last_epoch) refl
  where
    by : (low : Bool) → nat_lt s.epoch last_epoch ≡ low → Raised log s (record s {
      id = cond low s.id (next_id log);
      epoch = cond low (s.epoch + 1) 0;
      previous = cond low s.previous (Some s.id);
      next = None;
      state = state;
      cause = cause;
      partitions = [];
    })
    by true e = higher refl refl (grind (arith, nat_tests)) refl
    by false e = anew refl refl refl (grind (arith, nat_tests))

pub is_taken_over : (log : List TxnEntry) (s : Row) (client timeout : ℕ)
    → Raised log s (taken_over log s client timeout)
is_taken_over log s client timeout = by (is_raised log s Empty ByInit)
  where
    by : Raised log s (raised log s Empty ByInit) → Raised log s (taken_over log s client timeout)
    by (higher a b c d) = higher a b c d
    by (anew a b c d) = anew a b c d

-- the pair of a row that is complete, under its own id or the one that takes its place
pub data Completed (log : List TxnEntry) (s r : Row) : Type 0 where
  stays : r.id ≡ s.id → r.epoch ≡ s.epoch → s.epoch ≤ 32766 → r.previous ≡ s.previous
      → Completed log s r
  gives_way : (s.next ≡ Some r.id) ⊎ (next_id log ≡ r.id) → s.epoch ≡ 32767 → r.epoch ≡ 0
      → r.previous ≡ Some s.id → Completed log s r

pub is_completed : (log : List TxnEntry) (s : Row) (o : Outcome) → s.epoch ≤ 32767
    → Completed log s (completed log s o)
is_completed log s o top = by (s.epoch == spent_epoch) refl
  where
    new_id : (n : Option ℕ)
        → (n ≡ Some (unwrap_or n (next_id log))) ⊎ (next_id log ≡ unwrap_or n (next_id log))
    new_id None = inr refl
    new_id (Some n) = inl refl

    by : (spent : Bool) → (s.epoch == spent_epoch) ≡ spent → Completed log s (record s {
      id = cond spent (unwrap_or s.next (next_id log)) s.id;
      epoch = cond spent 0 s.epoch;
      previous = cond spent (Some s.id) s.previous;
      next = None;
      state = Complete o;
      cause = ByMarkers;
      partitions = [];
    })
    by true e = gives_way (new_id s.next) (grind (arith, nat_tests)) refl refl
    by false e =
        let other : s.epoch ≢ 32767 = grind (arith, nat_tests) in
        stays refl refl (omega arith) refl

pub prepared_next : (log : List TxnEntry) (s : Row) (o : Outcome) (cause : Cause) (id : ℕ)
    → (prepared log s o cause).next ≡ Some id → (s.epoch ≡ 32766) × (next_id log ≡ id)
prepared_next log s o cause id =
    cond_both (s.epoch == last_epoch) (Some (next_id log)) None
    (λ x. x ≡ Some id → (s.epoch ≡ 32766) × (next_id log ≡ id))
    (λ e h. (grind (arith, nat_tests), cc)) (λ e h. absurd cc)

------ each case fits

module _ {log : List TxnEntry} (sound : Sound log) where
  pub fresh : (q : Row) (id : ℕ) → Contains log (Written q) → next_id log ≡ id → Names q id → ⊥
  fresh q id c e n = let below = above_own log q id c n in omega arith

  module _ {s : Row} (found : row_of log s.txn ≡ Some s) where
    pub there : Contains log (Written s)
    there = (row_of-found log s.txn s found).0

    -- each row of this transactional id isn't past the last one
    pub behind : (q : Row) (id : ℕ) → Contains log (Written q) → Names q id → Names s id
        → NotPast q s
    behind q id c n m =
        let (t, t_found, np) = sound.current q c in
        let e : q.txn ≡ s.txn = sound.one_txn q s id c there n m in
        let same : t ≡ s = some_same (sym t_found ∙ ap (row_of log) e ∙ found) in
        subst (NotPast q) same np
      where
        some_same : {t : Row} → Some t ≡ Some s → t ≡ s
        some_same h = cc

    -- no row ends its id at its epoch or above
    ends_below : (epoch : ℕ) → s.epoch ≤ epoch → (q : Row) → Contains log (Written q)
        → Ends s.id epoch q → ⊥
    ends_below epoch le q c (one_higher a b d) = not_it (behind q s.id c (own a) (own refl))
      where
        not_it : NotPast q s → ⊥
        not_it (newer_id x) = omega arith
        not_it (same_id x y) = omega arith
    ends_below epoch le q c (replaced a b d e) =
        not_it ((sound.shape q c).previous_below s.id b) (behind q s.id c (previous b) (own refl))
      where
        not_it : s.id < q.id → NotPast q s → ⊥
        not_it lower (newer_id x) = omega arith
        not_it lower (same_id x y) = omega arith

    pub undecided : (epoch : ℕ) → s.epoch ≤ epoch → first_row (ends s.id epoch) log ≡ None
    undecided epoch le =
        at (first_row (ends s.id epoch) log) (first_row_found (ends s.id epoch) log)
      where
        at : (o : Option Row) → IsFound (ends s.id epoch) log o → o ≡ None
        at None h = refl
        at (Some q) h = absurd (ends_below epoch le q h.0 (ends_tells s.id epoch q h.1))

    names_last : (q : Row) (id : ℕ) → Contains log (Written q) → Names s id → Names q id
        → q.txn ≡ s.txn
    names_last q id c m n = sound.one_txn q s id c there n m

    pub same_last : (t : Row) → row_of log s.txn ≡ Some t → t ≡ s
    same_last t h = let e : Some t ≡ Some s = sym h ∙ found in cc

    past_last : (r : Row) → r.txn ≡ s.txn → NotPast s r → (t : Row) → row_of log r.txn ≡ Some t
        → NotPast t r
    past_last r same np t h =
        subst (λ x. NotPast x r) (sym (same_last t (ap (row_of log) (sym same) ∙ h))) np

    pub own_below : s.id < next_id log
    own_below = above_own log s s.id there (own refl)

    fits_adds : (start partition : ℕ) → IsActive s.state → Fits log (with_added s start partition)
    fits_adds start partition active = record {
      past = past_last (with_added s start partition) refl (same_id refl (omega arith));
      its_own = λ q id c n m. names_last q id c (as_s n) m;
      shape = record {
        previous_below = (sound.shape s there).previous_below;
        next_above = (sound.shape s there).next_above;
        next_only = (sound.shape s there).next_only;
        ending = λ o e. absurd cc;
        resting = λ n. (sound.shape s there).resting (active_not_prepare s.state active);
      };
      decides = λ id epoch e.
          absurd (not_decided id epoch (with_added s start partition) refl e);
    }
      where
        as_s : {id : ℕ} → Names (with_added s start partition) id → Names s id
        as_s (own e) = own e
        as_s (previous e) = previous e
        as_s (next e) = next e

    module _ (o : Outcome) (cause : Cause) (going : s.state ≡ Ongoing) where
      going_low : s.epoch ≤ 32766
      going_low = (sound.shape s there).resting (λ p e. absurd cc)

      belongs_prepared : (q : Row) (id : ℕ) → Contains log (Written q)
          → Names (prepared log s o cause) id → Names q id → q.txn ≡ s.txn
      belongs_prepared q id c (own e) m = names_last q id c (own e) m
      belongs_prepared q id c (previous e) m = names_last q id c (previous e) m
      belongs_prepared q id c (next e) m =
          absurd (fresh q id c (prepared_next log s o cause id e).1 m)

      shape_prepared : Shape (prepared log s o cause)
      shape_prepared = record {
        previous_below = (sound.shape s there).previous_below;
        next_above = λ id e.
            let f = (prepared_next log s o cause id e).1 in let b = own_below in omega arith;
        next_only = λ id e. let f = (prepared_next log s o cause id e).0 in omega arith;
        ending = λ p e. (omega arith, let l = going_low in omega arith);
        resting = λ no_end. absurd (no_end o refl);
      }

      decides_prepared : (id epoch : ℕ) → Ends id epoch (prepared log s o cause)
          → first_row (ends id epoch) log ≡ None
      decides_prepared id epoch (one_higher a b c) =
          subst (λ i. first_row (ends i epoch) log ≡ None) a (undecided epoch (omega arith))
      decides_prepared id epoch (replaced a b c d) = absurd cc

      fits_prepares : Fits log (prepared log s o cause)
      fits_prepares = record {
        past = past_last (prepared log s o cause) refl (same_id refl (omega arith));
        its_own = belongs_prepared;
        shape = shape_prepared;
        decides = λ id epoch e.
            inl (decides_prepared id epoch (ends_tells id epoch (prepared log s o cause) e));
      }

    -- a row one epoch higher, or of a new id, outside a transaction
    module _ (r : Row) (same : r.txn ≡ s.txn) (none : r.next ≡ None) (resting : IsSettled s.state)
        (now : IsSettled r.state) where
      resting_low : s.epoch ≤ 32766
      resting_low = (sound.shape s there).resting (not_prepare s.state resting)

      past_raised : Raised log s r → NotPast s r
      past_raised (higher a b c d) = same_id (sym a) (omega arith)
      past_raised (anew a b c d) = newer_id (let h = own_below in omega arith)

      belongs_raised : (q : Row) (id : ℕ) → Contains log (Written q) → Raised log s r
          → Names r id → Names q id → q.txn ≡ s.txn
      belongs_raised q id c up (next f) m = absurd cc
      belongs_raised q id c (higher a b d e) (own f) m = names_last q id c (own (sym a ∙ f)) m
      belongs_raised q id c (higher a b d e) (previous f) m =
          names_last q id c (previous (sym e ∙ f)) m
      belongs_raised q id c (anew a b d e) (own f) m = absurd (fresh q id c (sym a ∙ f) m)
      belongs_raised q id c (anew a b d e) (previous f) m =
          let g : s.id ≡ id = cc in names_last q id c (own g) m

      below_raised : Raised log s r → (id : ℕ) → r.previous ≡ Some id → id < r.id
      below_raised (higher a b c d) id f =
          let g = (sound.shape s there).previous_below id (sym d ∙ f) in omega arith
      below_raised (anew a b c d) id f =
          let g : s.id ≡ id = cc in let h = own_below in omega arith

      low_raised : Raised log s r → r.epoch ≤ 32766
      low_raised (higher a b c d) = omega arith
      low_raised (anew a b c d) = omega arith

      undecided_raised : (id epoch : ℕ) → Raised log s r → Ends id epoch r
          → first_row (ends id epoch) log ≡ None
      undecided_raised id epoch (higher a b c d) (one_higher f g h) =
          subst (λ i. first_row (ends i epoch) log ≡ None) (sym a
          ∙ f) (undecided epoch (omega arith))
      undecided_raised id epoch (higher a b c d) (replaced f g h i) = absurd (omega arith)
      undecided_raised id epoch (anew a b c d) (one_higher f g h) = absurd (omega arith)
      undecided_raised id epoch (anew a b c d) (replaced f g h i) =
          let j : s.id ≡ id = cc in
          subst (λ i. first_row (ends i epoch) log ≡ None) j
          (undecided epoch (let l = resting_low in omega arith))

      fits_raised : Raised log s r → Fits log r
      fits_raised up = record {
        past = past_last r same (past_raised up);
        its_own = λ q id c n m. belongs_raised q id c up n m ∙ sym same;
        shape = record {
          previous_below = below_raised up;
          next_above = λ id f. absurd cc;
          next_only = λ id f. absurd cc;
          ending = λ o f. absurd (not_prepare r.state now o f);
          resting = λ f. low_raised up;
        };
        decides = λ id epoch e. inl (undecided_raised id epoch up (ends_tells id epoch r e));
      }

    -- a row whose markers are all answered
    module _ (r : Row) (o : Outcome) (was : s.state ≡ Prepare o) where
      was_decided : is_some (outcome_of s.state) ≡ true
      was_decided = ap (λ st. is_some (outcome_of st)) was

      pub ending_range : (1 ≤ s.epoch) × (s.epoch ≤ 32767)
      ending_range = (sound.shape s there).ending o was

      -- it ends what the row before it ends
      pub completed_ends : Completed log s r → (id epoch : ℕ) → Ends id epoch r
          → ends id epoch s ≡ true
      completed_ends (stays a b c d) id epoch (one_higher f g h) =
          ends_own id epoch s (sym a ∙ f) (omega arith) was_decided
      completed_ends (stays a b c d) id epoch (replaced f g h i) =
          absurd (let k = ending_range in omega arith)
      completed_ends (gives_way a b c d) id epoch (one_higher f g h) = absurd (omega arith)
      completed_ends (gives_way a b c d) id epoch (replaced f g h i) =
          let j : s.id ≡ id = cc in ends_own id epoch s j (omega arith) was_decided

      pub decides_completed : Completed log s r → (id epoch : ℕ) → Ends id epoch r
          → decision log id epoch ≡ Some o
      decides_completed done id epoch e =
          sound.decided s id epoch there (completed_ends done id epoch e) ∙ ap outcome_of was

      past_completed : Completed log s r → NotPast s r
      past_completed (stays a b c d) = same_id (sym a) (omega arith)
      past_completed (gives_way (inl n) b c d) =
          newer_id ((sound.shape s there).next_above r.id n)
      past_completed (gives_way (inr n) b c d) = newer_id (let h = own_below in omega arith)

      belongs_completed : (q : Row) (id : ℕ) → Contains log (Written q) → Completed log s r
          → r.next ≡ None → Names r id → Names q id → q.txn ≡ s.txn
      belongs_completed q id c done none (next f) m = absurd cc
      belongs_completed q id c (stays a b d e) none (own f) m =
          names_last q id c (own (sym a ∙ f)) m
      belongs_completed q id c (stays a b d e) none (previous f) m =
          names_last q id c (previous (sym e ∙ f)) m
      belongs_completed q id c (gives_way (inl n) b d e) none (own f) m =
          names_last q id c (next (n ∙ ap Some f)) m
      belongs_completed q id c (gives_way (inr n) b d e) none (own f) m =
          absurd (fresh q id c (n ∙ f) m)
      belongs_completed q id c (gives_way a b d e) none (previous f) m =
          let g : s.id ≡ id = cc in names_last q id c (own g) m

      below_completed : Completed log s r → (id : ℕ) → r.previous ≡ Some id → id < r.id
      below_completed (stays a b c d) id f =
          let g = (sound.shape s there).previous_below id (sym d ∙ f) in omega arith
      below_completed (gives_way (inl n) b c d) id f =
          let g : s.id ≡ id = cc in
          subst (λ i. i < r.id) g ((sound.shape s there).next_above r.id n)
      below_completed (gives_way (inr n) b c d) id f =
          let g : s.id ≡ id = cc in let h = own_below in omega arith

      low_completed : Completed log s r → r.epoch ≤ 32766
      low_completed (stays a b c d) = omega arith
      low_completed (gives_way a b c d) = omega arith

      fits_completed : Completed log s r → r.txn ≡ s.txn → r.next ≡ None → r.state ≡ Complete o
          → Fits log r
      fits_completed done same none now = record {
        past = past_last r same (past_completed done);
        its_own = λ q id c n m. belongs_completed q id c done none n m ∙ sym same;
        shape = record {
          previous_below = below_completed done;
          next_above = λ id f. absurd cc;
          next_only = λ id f. absurd cc;
          ending = λ p f. absurd cc;
          resting = λ f. low_completed done;
        };
        decides = λ id epoch e.
            inr (decides_completed done id epoch (ends_tells id epoch r e)
            ∙ sym (ap outcome_of now));
      }

  fits_begins : (txn : List ℕ) (client timeout : ℕ) → row_of log txn ≡ None
      → Fits log (first_use log client txn timeout)
  fits_begins txn client timeout none = record {
    past = λ t h. absurd cc;
    its_own = belongs;
    shape = record {
      previous_below = λ id f. absurd cc;
      next_above = λ id f. absurd cc;
      next_only = λ id f. absurd cc;
      ending = λ o f. absurd cc;
      resting = λ f. omega arith;
    };
    decides = λ id epoch e.
        absurd (not_decided id epoch (first_use log client txn timeout) refl e);
  }
    where
      belongs : (q : Row) (id : ℕ) → Contains log (Written q)
          → Names (first_use log client txn timeout) id → Names q id → q.txn ≡ txn
      belongs q id c (own e) m = absurd (fresh q id c e m)
      belongs q id c (previous e) m = absurd cc
      belongs q id c (next e) m = absurd cc

-- each note that may be written keeps the log sound
pub sound_next : {sent : List Message} {log : List TxnEntry} {note : TxnEntry} → Sound log
    → Follows sent log note → Sound (log ++ note ∷ [])
sound_next {log} sound (opens e) =
    sound_other log (CoordinatorEpoch (coordinator_epoch log +ℤ pos 1)) sound (λ r e. cc)
    (λ test. refl)
sound_next {log} sound (allots c t m) =
    sound_other log (Allot (next_id log)) sound (λ r e. cc) (λ test. refl)
sound_next {log} sound (begins txn c t none m) =
    sound_written log (first_use log c.client txn t) sound (fits_begins sound txn c.client t none)
sound_next {log} sound (adds s start p found active m) =
    sound_written log (with_added s start p) sound (fits_adds sound found start p active)
sound_next {log} sound (prepares s o cause found going why) =
    sound_written log (prepared log s o cause) sound (fits_prepares sound found o cause going)
sound_next {log} sound (takes_over s c t found resting above m) =
    sound_written log (taken_over log s c.client t) sound
    (fits_raised sound found (taken_over log s c.client t) refl refl resting empty
    (is_taken_over log s c.client t))
sound_next {log} sound (gives_up s c found resting m) =
    sound_written log (given_up log s) sound
    (fits_raised sound found (given_up log s) refl refl resting (complete Abort)
    (is_raised log s (Complete Abort) ByEnd))
sound_next {log} sound (completes s o found was m) =
    sound_written log (completed log s o) sound
    (fits_completed sound found (completed log s o) o was
    (is_completed log s o (ending_range sound found (completed log s o) o was).1) refl refl refl)
