-- Whatever a request, a marker's reply or an expiry makes the coordinator write may be written
-- next, and what a request is answered rests on a row of the log.
use Rattle.std.proofs.Common.{◌≡◌, ◌≢◌, ℕ, ◌+◌, ◌<◌, Bool, true, false, not, ◌&&◌, ◌||◌, cond}
use Rattle.std.proofs.Common.{List, []}
use Rattle.std.proofs.Common.{◌∷◌, ◌++◌, Option, Some, None, ◌==◌, nat_lt, Contains, All, refl, sym}
use Rattle.std.proofs.Common.{ap}
use Rattle.std.proofs.Common.{◌∙◌, subst, ⊎_elim, IfSome, arith, filter_map, find}
use Rattle.std.proofs.Common.{bytes_eq}
use Rattle.std.specs.List.{cons_option, list_all, list_any}
use Rattle.std.proofs.lemmas.Bool.{and_from, and_parts, cond_both, not-false, or_parts, or_right}
use Rattle.std.specs.Prelude.{is_some, option_map, unwrap_or, ◌≤◌}
use Rattle.std.proofs.lemmas.Bool.Decides.{nat_tests}
use Rattle.std.proofs.lemmas.List.Elements.{All-contains, All-push, Contains-push}
use Rattle.std.proofs.lemmas.Slice.Eq.{bytes_eq-Decides}
use Rattle.kx_message.specs.declared.requests.Caller.{Caller}
use Rattle.kx_message.specs.declared.code.ErrorCode.{ErrorCode}
use Rattle.kx_message.specs.declared.code.ErrorCode.TheVariants.{NoError, InvalidProducerEpoch}
use Rattle.kx_message.specs.declared.code.ErrorCode.TheVariants.{InvalidTxnState, ProducerFenced}
use Rattle.kx_message.specs.declared.code.ErrorCode.TheVariants.{InvalidProducerIdMapping}
use Rattle.kx_message.specs.declared.code.ErrorCode.TheVariants.{ConcurrentTransactions}
use Rattle.kx_message.specs.declared.message.Held.{Held}
use Rattle.kx_message.specs.declared.message.Message.{Message}
use Rattle.kx_message.specs.Messages as the
use Rattle.kx_message.specs.declared.outcome.Outcome.{Outcome}
use Rattle.kx_message.specs.declared.outcome.Outcome.TheVariants.{Abort, Commit}
use Rattle.kx_model.specs.Coordinator.{Row, TxnEntry, Allot, Written, State, Empty, Ongoing}
use Rattle.kx_model.specs.Coordinator.{Prepare}
use Rattle.kx_model.specs.Coordinator.{Complete, ByInit, ByEnd, ByExpiry, ends, is}
use Rattle.kx_model.specs.Coordinator.{is_complete}
use Rattle.kx_model.specs.Coordinator.{lists, next_id, outcome_of, row_of, rows, same_outcome}
use Rattle.kx_message.specs.Ranges.{last_epoch, spent_epoch}
use Rattle.kx_model.specs.Coordinator.{txns}
use Rattle.kx_model.specs.Markers.{Answered, Settled, Ignored, Noted, Completes, answered_at}
use Rattle.kx_model.specs.Markers.{expire}
use Rattle.kx_model.specs.Markers.{is_answered, is_overdue, is_overdue_in, noting, same_answered}
use Rattle.kx_model.specs.Markers.{settle, settle_at, settle_in}
use Rattle.kx_model.specs.Requests.{Answer, add, add_at, add_in, asked_again, completed}
use Rattle.kx_model.specs.Requests.{end_at, end_in, end_row, end_txn, fences_owner, first_use}
use Rattle.kx_model.specs.Requests.{ended_as, has_outcome, held_after, init, init_at, init_row}
use Rattle.kx_model.specs.Requests.{is_old}
use Rattle.kx_model.specs.Requests.{is_own}
use Rattle.kx_model.specs.Requests.{is_prepared, newcomer, nothing_sent, or_answer, own_pair}
use Rattle.kx_model.specs.Requests.{prepared, refused_first, refuses, repeats, writes, with_added}
use Rattle.kx_headline.proofs.CoordinatorFollows
use Rattle.kx_headline.proofs.CoordinatorFollows.{Follows, IsSettled, empty, complete, IsActive}
use Rattle.kx_headline.proofs.CoordinatorFollows.{ongoing, settled, allots, begins, adds, prepares}
use Rattle.kx_headline.proofs.CoordinatorFollows.{gives_up, completes, by_end, by_init, by_expiry}
use Rattle.kx_headline.proofs.CoordinatorFollows.{given_up, is_raised, lists_added, taken_over}
use Rattle.kx_headline.proofs.CoordinatorFollows.{Raised, higher, anew, there, not_prepare}
use Rattle.kx_headline.proofs.CoordinatorRows.{ends_own, row_of-found, row_of-own_txn}
use Rattle.kx_headline.proofs.CoordinatorSound.{Shape, Sound}
use Rattle.kx_laws.proofs.Lists.{list_all_tells}
use Rattle.kx_laws.proofs.Membership.{find_tells}
use Rattle.kx_laws.proofs.Membership.{any_holds, cons_cases, no_element}

------ what an answer does

-- the log with the note that an answer appends
abbrev pub log_after : List TxnEntry → Option TxnEntry → List TxnEntry
log_after log None = log
log_after log (Some note) = log ++ note ∷ []

-- its note may be written, and so much is said where its code is 0
pub record Does (sent : List Message) (log : List TxnEntry)
    (Says : Option TxnEntry → Option Held → Type 0) (a : Answer) : Type 0 where
  pub follows : IfSome a.note (Follows sent log)
  pub says : a.code ≡ NoError → Says a.note a.held

refused : {sent : List Message} {log : List TxnEntry} {Says : Option TxnEntry → Option Held →
    Type 0}
    (code : ErrorCode) → code ≢ NoError → Does sent log Says (refuses code)
refused code h = record { follows = tt; says = λ e. absurd (h e) }

------ a client asks for an id and an epoch

-- a row of the transactional id has the pair, and its owner is the client; or, without one, the id
-- is allotted now
pub data InitSays (log : List TxnEntry) (client : ℕ) (txn : Option (List ℕ)) :
    Option TxnEntry → Option Held → Type 0 where
  owned : (note : Option TxnEntry) (r : Row) → Contains (log_after log note) (Written r)
      → r.owner ≡ client → txn ≡ Some r.txn → InitSays log client txn note (Some (own_pair r))
  allotted : txn ≡ None → InitSays log client txn (Some (Allot (next_id log)))
      (Some (record { id = next_id log; epoch = 0 }))

module _ (sent : List Message) (log : List TxnEntry) (caller : Caller) (timeout : ℕ) where
  abbrev pub InitDoes : Option (List ℕ) → Answer → Type 0
  InitDoes txn a = Does sent log (InitSays log caller.client txn) a

  module _ (r : Row) (found : row_of log r.txn ≡ Some r)
      (m : Contains sent (the.InitProducerId caller (Some r.txn) timeout)) where
    again : (st : State) → caller.client ≡ r.owner → InitDoes (Some r.txn) (asked_again r st)
    again Empty same = record {
      follows = tt;
      says = λ e. owned None r (row_of-found log r.txn r found).0 (sym same) refl;
    }
    again Ongoing same = refused InvalidTxnState (λ e. cc)
    again (Prepare o) same = refused InvalidTxnState (λ e. cc)
    again (Complete o) same = refused InvalidTxnState (λ e. cc)

    takes : IsSettled r.state → r.owner < caller.client
        → InitDoes (Some r.txn) (writes (taken_over log r caller.client timeout))
    takes resting above = record {
      follows =
          CoordinatorFollows.takes_over r caller timeout found resting above m;
      says = λ e. owned (Some (Written (taken_over log r caller.client timeout)))
          (taken_over log r caller.client timeout)
          (Contains-push log (Written (taken_over log r caller.client timeout))) refl refl;
    }

    fences : r.state ≡ Ongoing → InitDoes (Some r.txn) (fences_owner log r)
    fences going = record {
      follows = prepares r Abort ByInit found going by_init;
      says = λ e. absurd cc;
    }

    new : (st : State) → r.state ≡ st → r.owner < caller.client
        → InitDoes (Some r.txn) (newcomer log caller.client timeout r st)
    new Empty e above = takes (subst IsSettled (sym e) empty) above
    new Ongoing e above = fences e
    new (Prepare o) e above = refused ConcurrentTransactions (λ e. cc)
    new (Complete o) e above = takes (subst IsSettled (sym e) (complete o)) above

    row_does : InitDoes (Some r.txn) (init_row log caller.client timeout r)
    row_does =
        cond_both (nat_lt caller.client r.owner) (refuses ProducerFenced)
        (cond (caller.client == r.owner) (asked_again r r.state)
        (newcomer log caller.client timeout r r.state))
        (InitDoes (Some r.txn)) (λ e. refused ProducerFenced (λ e. cc))
        (λ e. cond_both (caller.client == r.owner) (asked_again r r.state)
        (newcomer log caller.client timeout r r.state) (InitDoes (Some r.txn))
        (λ f. again r.state (grind (arith, nat_tests)))
        (λ f. new r.state refl (grind (arith, nat_tests))))

  pub init_does : (txn : Option (List ℕ))
      → Contains sent (the.InitProducerId caller txn timeout)
      → InitDoes txn (init log caller.client txn timeout)
  init_does None m =
      record { follows = allots caller timeout m; says = λ e. allotted refl }
  init_does (Some txn) m = at (row_of log txn) refl
    where
      at : (o : Option Row) → row_of log txn ≡ o
          → InitDoes (Some txn) (init_at log caller.client txn timeout o)
      at None none =
          let first = first_use log caller.client txn timeout in
          record {
            follows = begins txn caller timeout none m;
            says = λ e. owned (Some (Written first)) first
                (Contains-push log (Written first)) refl refl;
          }
      at (Some r) found =
          let same : r.txn ≡ txn = (row_of-found log txn r found).1 in
          subst (λ t. InitDoes (Some t) (init_row log caller.client timeout r)) same
          (row_does r (row_of-own_txn log txn r found)
          (subst (λ t. Contains sent (the.InitProducerId caller (Some t) timeout))
          (sym same) m))

------ what both other requests are refused for first

module _ (r : Row) (held : Held) where
  abbrev Fails : Option ErrorCode → Type 0
  Fails o = IfSome o (λ code. code ≢ NoError)

  first_fails : Fails (refused_first r held)
  first_fails =
      cond_both (is_prepared r.state && is r.next held.id) (Some ConcurrentTransactions) _ Fails
      (λ e h. cc)
      (λ e. cond_both (not (is_own r held || is r.previous held.id))
      (Some InvalidProducerIdMapping)
      _ Fails (λ e h. cc)
      (λ e. cond_both (held.epoch == spent_epoch || (is_own r held && nat_lt r.epoch held.epoch))
      (Some InvalidProducerEpoch) None Fails (λ e h. cc) (λ e. tt)))

  none_else : (b : Bool) (code : ErrorCode) (o : Option ErrorCode) → cond b (Some code) o ≡ None
      → (b ≡ false) × (o ≡ None)
  none_else true code o e = absurd cc
  none_else false code o e = (refl, e)

  -- what is neither refused first nor old is of the row's own pair
  own_passes : refused_first r held ≡ None → is_old r held ≡ false → held ≡ own_pair r
  own_passes first old =
      let early = is_prepared r.state && is r.next held.id in
      let other = not (is_own r held || is r.previous held.id) in
      let high = held.epoch == spent_epoch || (is_own r held && nat_lt r.epoch held.epoch) in
      let last : Option ErrorCode = cond high (Some InvalidProducerEpoch) None in
      let mapped : Option ErrorCode = cond other (Some InvalidProducerIdMapping) last in
      let a = none_else early ConcurrentTransactions mapped first in
      let b = none_else other InvalidProducerIdMapping last a.1 in
      let c = none_else high InvalidProducerEpoch None b.1 in
      let d = or_parts (held.epoch == spent_epoch)
      (is_own r held && nat_lt r.epoch held.epoch) c.0 in
      let e = or_parts (not (is_own r held)) (nat_lt held.epoch r.epoch) old in
      let own : is_own r held ≡ true = not-false (is_own r held) e.0 in
      let low : nat_lt r.epoch held.epoch ≡ false =
      sym (ap (λ x. x && nat_lt r.epoch held.epoch) own) ∙ d.1 in
      let same_id : held.id ≡ r.id = grind (arith, nat_tests, own) in
      let same_epoch : held.epoch ≡ r.epoch = grind (arith, nat_tests, low, e.1) in
      λ i. record { id = same_id i; epoch = same_epoch i }

  or_answer_does : {sent : List Message} {log : List TxnEntry}
      {Says : Option TxnEntry → Option Held → Type 0} (a : Answer)
      → (refused_first r held ≡ None → Does sent log Says a)
      → Does sent log Says (or_answer (refused_first r held) a)
  or_answer_does {sent} {log} {Says} a h = at (refused_first r held) refl first_fails
    where
      at : (o : Option ErrorCode) → refused_first r held ≡ o → Fails o
          → Does sent log Says (or_answer o a)
      at None e f = h e
      at (Some code) e f = refused code f

------ a partition asks to be added to a transaction

-- an ongoing row of the pair lists the partition
pub record Listed (log : List TxnEntry) (partition id epoch : ℕ) : Type 0 where
  pub row : Row
  pub written : Contains log (Written row)
  pub its_id : row.id ≡ id
  pub its_epoch : row.epoch ≡ epoch
  pub going : row.state ≡ Ongoing
  pub listed : Contains row.partitions partition

module _ (sent : List Message) (log : List TxnEntry) (clock : ℕ) (held : Held) (partition : ℕ) where
  abbrev pub AddDoes : Answer → Type 0
  AddDoes a =
      Does sent log (λ note after. Listed (log_after log note) partition held.id held.epoch) a

  module _ (r : Row) (found : row_of log r.txn ≡ Some r) (own : held ≡ own_pair r)
      (m : Contains sent (the.AddPartition r.txn held partition)) where
    adds_it : (start : ℕ) → IsActive r.state → AddDoes (writes (with_added r start partition))
    adds_it start active = record {
      follows = adds r start partition found active
          (subst (λ h. Contains sent (the.AddPartition r.txn h partition)) own m);
      says = λ e. record {
        row = with_added r start partition;
        written = Contains-push log (Written (with_added r start partition));
        its_id = sym (ap (λ h. h.id) own);
        its_epoch = sym (ap (λ h. h.epoch) own);
        going = refl;
        listed = lists_added partition r.partitions;
      };
    }

    lists_it : r.state ≡ Ongoing → lists partition r ≡ true → AddDoes (repeats held)
    lists_it going l =
        let (q, c, t) = any_holds (λ p. p == partition) r.partitions l in
        let same : q ≡ partition = grind (arith, nat_tests) in
        record {
          follows = tt;
          says = λ e. record {
            row = r;
            written = (row_of-found log r.txn r found).0;
            its_id = sym (ap (λ h. h.id) own);
            its_epoch = sym (ap (λ h. h.epoch) own);
            going = going;
            listed = subst (Contains r.partitions) same c;
          };
        }

    add_in_does : (st : State) → r.state ≡ st → AddDoes (add_in clock r held partition st)
    add_in_does Empty e = adds_it clock (settled (subst IsSettled (sym e) empty))
    add_in_does Ongoing e =
        cond_both (lists partition r) (repeats held) (writes (with_added r r.start partition))
        AddDoes (λ l. lists_it e l) (λ l. adds_it r.start (subst IsActive (sym e) ongoing))
    add_in_does (Prepare o) e = refused ConcurrentTransactions (λ e. cc)
    add_in_does (Complete o) e = adds_it clock (settled (subst IsSettled (sym e) (complete o)))

  pub add_does : (txn : List ℕ) → Contains sent (the.AddPartition txn held partition)
      → AddDoes (add log clock txn held partition)
  add_does txn m = at (row_of log txn) refl
    where
      row : (r : Row) → row_of log txn ≡ Some r → AddDoes (add_at clock (Some r) held partition)
      row r found =
          let same : r.txn ≡ txn = (row_of-found log txn r found).1 in
          let last = add_in clock r held partition r.state in
          or_answer_does r held (cond (is_old r held) (refuses ProducerFenced) last)
          (λ first. cond_both (is_old r held) (refuses ProducerFenced) last AddDoes
          (λ old. refused ProducerFenced (λ e. cc))
          (λ old. add_in_does r (row_of-own_txn log txn r found) (own_passes r held first old)
          (subst (λ t. Contains sent (the.AddPartition t held partition)) (sym same) m) r.state
          refl))

      at : (o : Option Row) → row_of log txn ≡ o → AddDoes (add_at clock o held partition)
      at None none = refused InvalidProducerIdMapping (λ e. cc)
      at (Some r) found = row r found

------ a client ends its transaction

-- the pair that a row gives whoever ended the transaction before it: its own, or the next one
pub data Gives (r : Row) : Held → Type 0 where
  gives_own : Gives r (own_pair r)
  gives_next : Gives r (held_after r)

-- a row of the transactional id ends the transaction of this pair so, and gives the one after it
pub data EndSays (log : List TxnEntry) (txn : List ℕ) (held : Held) (outcome : Outcome) :
    Option TxnEntry → Option Held → Type 0 where
  ended : (note : Option TxnEntry) (r : Row) (given : Held) → Contains (log_after log note)
      (Written r)
      → r.txn ≡ txn → ends held.id held.epoch r ≡ true → Gives r given
      → outcome_of r.state ≡ Some outcome → given ≡ held_after r
      → EndSays log txn held outcome note (Some given)

ended_gives : (r : Row) (st : State) → Gives r (ended_as r st)
ended_gives r Empty = gives_own
ended_gives r Ongoing = gives_own
ended_gives r (Prepare outcome) = gives_next
ended_gives r (Complete outcome) = gives_own

same_outcomes : (a b : Outcome) → same_outcome a b ≡ true → a ≡ b
same_outcomes Abort Abort e = refl
same_outcomes Commit Commit e = refl
same_outcomes Abort Commit e = absurd cc
same_outcomes Commit Abort e = absurd cc

has_decided : (outcome : Outcome) (st : State) → has_outcome outcome st ≡ true
    → outcome_of st ≡ Some outcome
has_decided outcome Empty e = absurd cc
has_decided outcome Ongoing e = absurd cc
has_decided outcome (Prepare o) e = ap Some (same_outcomes o outcome e)
has_decided outcome (Complete o) e = ap Some (same_outcomes o outcome e)

-- a row whose transaction doesn't wait for its markers names no next id
no_next : (r : Row) → Shape r → ((o : Outcome) → r.state ≡ Prepare o → ⊥) → r.next ≡ None
no_next r shape rests = by r.next refl
  where
    by : (o : Option ℕ) → r.next ≡ o → o ≡ None
    by None e = refl
    by (Some id) e =
        let high = shape.next_only id e in
        let low = shape.resting rests in
        absurd (omega (arith, high, low))

-- so what its end is answered when it is asked again is the pair after it
ended_after : (r : Row) → Shape r → (outcome : Outcome) (st : State) → r.state ≡ st
    → has_outcome outcome st ≡ true → ended_as r st ≡ held_after r
ended_after r shape outcome Empty e h = absurd cc
ended_after r shape outcome Ongoing e h = absurd cc
ended_after r shape outcome (Prepare o) e h = refl
ended_after r shape outcome (Complete o) e h =
    let none = no_next r shape (λ p f. complete_waits (sym e ∙ f)) in
    after_no_next r.next (sym none)
  where
    complete_waits : {p : Outcome} → Complete o ≡ Prepare p → ⊥
    complete_waits e = cc

    after_no_next : (next : Option ℕ) → None ≡ next → own_pair r ≡ record {
      id = unwrap_or next r.id;
      epoch = cond (is_some next) 0 r.epoch;
    }
    after_no_next None e = refl
    after_no_next (Some id) e = absurd cc

-- a row that is raised ends the transaction of the one before
raised_ends : (log : List TxnEntry) (s r : Row) → Raised log s r → s.epoch ≤ 32766
    → r.state ≡ Complete Abort → ends s.id s.epoch r ≡ true
raised_ends log s r (higher a b c d) low now =
    ends_own s.id s.epoch r a b (ap (λ st. is_some (outcome_of st)) now)
raised_ends log s r (anew a b c d) low now =
    let last : s.epoch ≡ 32766 = omega arith in
    let done : is_complete r.state ≡ true = ap is_complete now in
    let was : is r.previous s.id ≡ true = ap (λ o. is o s.id) c ∙ grind (arith, nat_tests) in
    let at_last : (s.epoch == last_epoch) ≡ true = grind (arith, nat_tests) in
    let at_first : (r.epoch == 0) ≡ true = grind (arith, nat_tests) in
    or_right _ _ (and_from _ _ (and_from _ _ (and_from _ _ at_last was) at_first) done)

module _ (sent : List Message) (log : List TxnEntry) (sound : Sound log) (caller : Caller)
    (held : Held) (outcome : Outcome) where
  abbrev pub EndDoes : List ℕ → Answer → Type 0
  EndDoes txn a = Does sent log (EndSays log txn held outcome) a

  module _ (r : Row) (found : row_of log r.txn ≡ Some r)
      (m : Contains sent (the.EndTxn caller r.txn held outcome)) where
    its_row : Contains log (Written r)
    its_row = (row_of-found log r.txn r found).0

    gives : Abort ≡ outcome → held ≡ own_pair r → IsSettled r.state
        → Contains sent (the.EndTxn caller r.txn held Abort)
        → EndDoes r.txn (writes (given_up log r))
    gives so own resting m = record {
      follows = gives_up r caller found resting
          (subst (λ h. Contains sent (the.EndTxn caller r.txn h Abort)) own m);
      says = λ e. ended (Some (Written (given_up log r))) (given_up log r)
          (held_after (given_up log r))
          (Contains-push log (Written (given_up log r))) refl
          (subst (λ h. ends h.id h.epoch (given_up log r) ≡ true) (sym own)
          (raised_ends log r (given_up log r) (is_raised log r (Complete Abort) ByEnd)
          ((sound.shape r its_row).resting (not_prepare r.state resting)) refl)) gives_next
          (ap Some so) refl;
    }

    nothing : (o : Outcome) → o ≡ outcome → held ≡ own_pair r → IsSettled r.state
        → Contains sent (the.EndTxn caller r.txn held o)
        → EndDoes r.txn (nothing_sent log r o)
    nothing Abort so own resting m = gives so own resting m
    nothing Commit so own resting m = refused InvalidTxnState (λ e. cc)

    prepares_it : held ≡ own_pair r → r.state ≡ Ongoing
        → EndDoes r.txn (writes (prepared log r outcome ByEnd))
    prepares_it own going = record {
      follows = prepares r outcome ByEnd found going (by_end outcome caller
          (subst (λ h. Contains sent (the.EndTxn caller r.txn h outcome)) own m));
      says = λ e. ended (Some (Written (prepared log r outcome ByEnd)))
          (prepared log r outcome ByEnd) (held_after (prepared log r outcome ByEnd))
          (Contains-push log (Written (prepared log r outcome ByEnd))) refl
          (ends_own held.id held.epoch (prepared log r outcome ByEnd)
          (sym (ap (λ h. h.id) own)) (ap (λ h. h.epoch + 1) (sym own)) refl) gives_next refl
          refl;
    }

    in_does : (st : State) → r.state ≡ st → held ≡ own_pair r
        → EndDoes r.txn (end_in log r outcome st)
    in_does Empty e own = nothing outcome refl own (subst IsSettled (sym e) empty) m
    in_does Ongoing e own = prepares_it own e
    in_does (Prepare o) e own = refused ConcurrentTransactions (λ e. cc)
    in_does (Complete o) e own =
        nothing outcome refl own (subst IsSettled (sym e) (complete o)) m

    repeats_it : ends held.id held.epoch r ≡ true → EndDoes r.txn
        (cond (has_outcome outcome r.state) (repeats (ended_as r r.state))
        (refuses InvalidTxnState))
    repeats_it done =
        cond_both (has_outcome outcome r.state) (repeats (ended_as r r.state))
        (refuses InvalidTxnState) (EndDoes r.txn)
        (λ e. record {
          follows = tt;
          says = λ f. ended None r (ended_as r r.state) its_row refl done (ended_gives r r.state)
              (has_decided outcome r.state e)
              (ended_after r (sound.shape r its_row) outcome r.state refl e);
        })
        (λ e. refused InvalidTxnState (λ e. cc))

    end_row_does : refused_first r held ≡ None → EndDoes r.txn (end_row log r held outcome)
    end_row_does first =
        let again : Answer =
        cond (has_outcome outcome r.state) (repeats (ended_as r r.state))
        (refuses InvalidTxnState) in
        let last : Answer = end_in log r outcome r.state in
        cond_both (ends held.id held.epoch r) again
        (cond (is_old r held) (refuses ProducerFenced) last) (EndDoes r.txn) repeats_it
        (λ e. cond_both (is_old r held) (refuses ProducerFenced) last (EndDoes r.txn)
        (λ old. refused ProducerFenced (λ e. cc))
        (λ old. in_does r.state refl (own_passes r held first old)))

  pub end_does : (txn : List ℕ) → Contains sent (the.EndTxn caller txn held outcome)
      → EndDoes txn (end_txn log txn held outcome)
  end_does txn m = at (row_of log txn) refl
    where
      at : (o : Option Row) → row_of log txn ≡ o → EndDoes txn (end_at log o held outcome)
      at None none = refused InvalidProducerIdMapping (λ e. cc)
      at (Some r) found =
          let same : r.txn ≡ txn = (row_of-found log txn r found).1 in
          subst (λ t. EndDoes t (or_answer (refused_first r held) (end_row log r held outcome)))
          same
          (or_answer_does r held (end_row log r held outcome)
          (end_row_does r (row_of-own_txn log txn r found)
          (subst (λ t. Contains sent (the.EndTxn caller t held outcome))
          (sym same) m)))

------ markers answered

-- a reply of code 0 to the marker was sent
abbrev pub IsReplied : List Message → Answered → Type 0
IsReplied sent a = Contains sent (the.MarkerReply a.partition a.txn a.held NoError)

pub same_answered_tells : (a b : Answered) → same_answered a b ≡ true → a ≡ b
same_answered_tells a b h =
    let x = and_parts _ (a.partition == b.partition) h in
    let y = and_parts _ (a.held.epoch == b.held.epoch) x.0 in
    let z = and_parts (bytes_eq a.txn b.txn) (a.held.id == b.held.id) y.0 in
    let txn : a.txn ≡ b.txn = (bytes_eq-Decides a.txn b.txn).0 z.0 in
    let id : a.held.id ≡ b.held.id = grind (arith, nat_tests, z.1) in
    let epoch : a.held.epoch ≡ b.held.epoch = grind (arith, nat_tests, y.1) in
    let partition : a.partition ≡ b.partition = grind (arith, nat_tests, x.1) in
    λ i. record {
      txn = txn i;
      held = record { id = id i; epoch = epoch i };
      partition = partition i;
    }

pub noting_replied : (sent : List Message) (answered : List Answered) (a : Answered)
    → All (IsReplied sent) answered → IsReplied sent a
    → All (IsReplied sent) (noting answered a)
noting_replied sent answered a h here =
    cond_both (list_any (same_answered a) answered) answered (answered ++ a ∷ [])
    (All (IsReplied sent)) (λ e. h) (λ e. All-push (IsReplied sent) answered a h here)

pub data SettleDoes (sent : List Message) (log : List TxnEntry) : Settled → Type 0 where
  ignores : SettleDoes sent log Ignored
  notes : SettleDoes sent log Noted
  writes_row : (row : Row) → Follows sent log (Written row)
      → SettleDoes sent log (Completes row)

module _ (sent : List Message) (log : List TxnEntry) (answered : List Answered) (a : Answered)
    (replied : All (IsReplied sent) answered) (here : IsReplied sent a) where
  all_replied : (r : Row) → list_all (is_answered (noting answered a) r) r.partitions ≡ true
      → (p : ℕ) → Contains r.partitions p → IsReplied sent (answered_at r p)
  all_replied r all p c =
      let there = list_all_tells (is_answered (noting answered a) r) r.partitions p all c in
      let (b, in_it, same) =
      any_holds (same_answered (answered_at r p)) (noting answered a) there in
      subst (IsReplied sent) (sym (same_answered_tells (answered_at r p) b same))
      (All-contains (IsReplied sent) (noting answered a) b
      (noting_replied sent answered a replied here) in_it)

  settle_in_does : (r : Row) → row_of log r.txn ≡ Some r → (st : State) → r.state ≡ st
      → SettleDoes sent log (settle_in log answered a r st)
  settle_in_does r found Empty e = ignores
  settle_in_does r found Ongoing e = ignores
  settle_in_does r found (Prepare o) e =
      let done = list_all (is_answered (noting answered a) r) r.partitions in
      cond_both (r.id == a.held.id && r.epoch == a.held.epoch && lists a.partition r)
      (cond done (Completes (completed log r o)) Noted) Ignored (SettleDoes sent log)
      (λ its. cond_both done (Completes (completed log r o)) Noted (SettleDoes sent log)
      (λ all. writes_row (completed log r o) (completes r o found e (all_replied r all)))
      (λ some. notes)) (λ other. ignores)
  settle_in_does r found (Complete o) e = ignores

  pub settle_does : SettleDoes sent log (settle log answered a)
  settle_does = at (row_of log a.txn) refl
    where
      at : (o : Option Row) → row_of log a.txn ≡ o
          → SettleDoes sent log (settle_at log answered a o)
      at None none = ignores
      at (Some r) found = settle_in_does r (row_of-own_txn log a.txn r found) r.state refl

------ rows, and expiry

-- the rows are last rows
pub rows_last : (log : List TxnEntry) (r : Row) → Contains (rows log) r → row_of log r.txn ≡ Some r
rows_last log r c = among (txns log) c
  where
    at : (txn : List ℕ) (more : List Row) → (Contains more r → row_of log r.txn ≡ Some r)
        → (o : Option Row) → row_of log txn ≡ o → Contains (cons_option o more) r
        → row_of log r.txn ≡ Some r
    at txn more ih None none c = ih c
    at txn more ih (Some q) found c =
        ⊎_elim (λ e. subst (λ x. row_of log x.txn ≡ Some x) e (row_of-own_txn log txn q found)) ih
        (cons_cases q r more c)

    among : (txns : List (List ℕ)) → Contains (filter_map (row_of log) txns) r
        → row_of log r.txn ≡ Some r
    among [] c = absurd (no_element r c)
    among (txn ∷ txns) c =
        at txn (filter_map (row_of log) txns) (among txns) (row_of log txn) refl c

overdue_ongoing : (now : ℕ) (r : Row) (st : State) → is_overdue_in now r st ≡ true → st ≡ Ongoing
overdue_ongoing now r Empty h = absurd cc
overdue_ongoing now r Ongoing h = refl
overdue_ongoing now r (Prepare o) h = absurd cc
overdue_ongoing now r (Complete o) h = absurd cc

pub expire_follows : (sent : List Message) (log : List TxnEntry) (now : ℕ)
    → IfSome (expire log now) (λ r. Follows sent log (Written r))
expire_follows sent log now = at (find (is_overdue now) (rows log)) refl
  where
    at : (o : Option Row) → find (is_overdue now) (rows log) ≡ o
        → IfSome (option_map (λ r. prepared log r Abort ByExpiry) o)
        (λ r. Follows sent log (Written r))
    at None none = tt
    at (Some r) found =
        let (c, overdue) = find_tells (is_overdue now) (rows log) r found in
        prepares r Abort ByExpiry (rows_last log r c) (overdue_ongoing now r r.state overdue)
        by_expiry
