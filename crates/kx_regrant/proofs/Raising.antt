-- The coordinator's pairs rise.
use Rattle.std.proofs.Common.{◌≡◌, ◌∙◌, ℕ, ◌+◌, ◌<◌, ◌≤◌, Bool, true, false, cond, List, [], ◌∷◌}
use Rattle.std.proofs.Common.{Option, Some, None, refl, sym, ap, subst, arith, ◌==◌}
use Rattle.std.specs.Prelude.{bytes_eq, is_some, nat_lt, unwrap_or, ◌&&◌, IfSome}
use Rattle.std.proofs.lemmas.Bool.{and_parts}
use Rattle.std.proofs.lemmas.Bool.Decides.{nat_tests}
use Rattle.std.proofs.lemmas.List.Elements.{Contains-push}
use Rattle.kx_message.specs.declared.code.ErrorCode.TheVariants as code
use Rattle.kx_message.specs.declared.message.Held.{Held}
use Rattle.kx_message.specs.Messages as the
use Rattle.kx_message.specs.Ranges.{last_epoch}
use Rattle.kx_message.specs.declared.requests.Caller.{Caller}
use Rattle.kx_message.specs.declared.message.Message.{Message}
use Rattle.kx_message.specs.declared.outcome.Outcome.{Outcome}
use Rattle.kx_model.specs.Coordinator.{Row, TxnEntry, State, Empty, Ongoing, Prepare}
use Rattle.kx_model.specs.Coordinator.{Complete, Cause, ByInit, next_id, row_of}
use Rattle.kx_model.specs.Open.{AlwaysOpen}
use Rattle.kx_model.specs.Requests.{Answer, asked_again, end_txn, ended_as, first_use, held_after}
use Rattle.kx_model.specs.Requests.{init, init_at, newcomer, own_pair, raised, refuses}
use Rattle.kx_model.specs.Requests.{takes_over}
use Rattle.kx_model.specs.World.{notes}
use Rattle.kx_headline.proofs.CoordinatorAlways.{coordinator_stands_open}
use Rattle.kx_headline.proofs.CoordinatorAlways.{stands_sound}
use Rattle.kx_headline.proofs.CoordinatorFollows.{Follows, sound_next}
use Rattle.kx_headline.proofs.CoordinatorRows.{Ends, IsFound, above_own, ends_tells, last_row_found}
use Rattle.kx_headline.proofs.CoordinatorRows.{own, row_of-found, same_txn}
use Rattle.kx_headline.proofs.CoordinatorSound.{NotPast, Shape, Sound, newer_id, same_id}
use Rattle.kx_headline.proofs.CoordinatorTables.{EndSays, end_does, ended, log_after}
use Rattle.kx_grant.specs.Steps.{IsRaised, rank}
use Rattle.kx_grant.specs.declared.grant.Grant.{Grant}
use Rattle.kx_regrant.specs.Regrant.{core_of, grant_row, granted_again, granted_by, grants, is_grant}

abbrev Over : (List TxnEntry → Type 0) → Type 0
Over Fact = (log : List TxnEntry) → Sound log → Fact log

-- what holds of each sound log holds in each world
pub over_worlds : (Fact : List TxnEntry → Type 0) → Over Fact → AlwaysOpen (λ w. Fact (notes w))
over_worlds Fact h = λ partitions events are.
    h _ (stands_sound (coordinator_stands_open partitions events are))

------ a later client asks for an id

raised_if : (r : Row) (n : ℕ) (b : Bool) → r.epoch ≤ 32766 → r.id < n
    → rank (own_pair r)
    < rank (record { id = cond b r.id n; epoch = cond b (r.epoch + 1) 0 })
raised_if r n true low below = omega arith
raised_if r n false low below = omega (arith, low, below)

-- the row after one that rests is raised
taken : (log : List TxnEntry) (r : Row) (st : State) (cause : Cause) → r.epoch ≤ 32766
    → r.id < next_id log → IsRaised (own_pair r) (held_after (raised log r st cause))
taken log r st cause low below = raised_if r (next_id log) (nat_lt r.epoch last_epoch) low below

-- what an answer of code 0 gives, and that it has that code
granted_is : (a : Answer) (written : Option TxnEntry) (held : Held)
    → a ≡ record { note = written; code = code.NoError; held = Some held }
    → (a.code ≡ code.NoError) × (a.held ≡ Some held)
granted_is a written held e = (ap (λ (x : Answer). x.code) e, ap (λ (x : Answer). x.held) e)

-- the pair that is given is the one after the row that is written
gives : (a : Answer) (next : Held) (written : Option TxnEntry) (held : Held) → a.held ≡ Some next
    → a ≡ record { note = written; code = code.NoError; held = Some held } → next ≡ held
gives a next written held g e =
    let same : Some next ≡ Some held = sym g ∙ (granted_is a written held e).1 in cc

by_newcomer : (log : List TxnEntry) (client timeout : ℕ) (r : Row) (st : State)
    (written : Option TxnEntry) (held : Held)
    → (((o : Outcome) → st ≡ Prepare o → ⊥) → r.epoch ≤ 32766) → r.id < next_id log
    → newcomer log client timeout r st
    ≡ record { note = written; code = code.NoError; held = Some held }
    → IsRaised (ended_as r st) held
by_newcomer log client timeout r Empty written held low below e =
    let next = held_after (raised log r Empty ByInit) in
    let same : next ≡ held =
    gives (takes_over log client timeout r) next written held refl e in
    subst (λ (h : Held). IsRaised (own_pair r) h) same
    (taken log r Empty ByInit (low (λ o f. cc)) below)
by_newcomer log client timeout r Ongoing written held low below e =
    let never : code.ConcurrentTransactions ≡ code.NoError = ap (λ (x : Answer). x.code) e in
    absurd cc
by_newcomer log client timeout r (Prepare o) written held low below e =
    let never : code.ConcurrentTransactions ≡ code.NoError = ap (λ (x : Answer). x.code) e in
    absurd cc
by_newcomer log client timeout r (Complete o) written held low below e =
    let next = held_after (raised log r Empty ByInit) in
    let same : next ≡ held =
    gives (takes_over log client timeout r) next written held refl e in
    subst (λ (h : Held). IsRaised (own_pair r) h) same
    (taken log r Empty ByInit (low (λ p f. cc)) below)

later_only : (b c : Bool) (x y z : Answer) → b ≡ false → c ≡ false → cond b x (cond c y z) ≡ z
later_only true c x y z e f = absurd cc
later_only false true x y z e f = absurd cc
later_only false false x y z e f = refl

pub init_raises : Over (λ log. (client timeout : ℕ) (txn : List ℕ) (r : Row)
    (written : Option TxnEntry) (held : Held) → row_of log txn ≡ Some r → r.owner < client
    → init log client (Some txn) timeout
    ≡ record { note = written; code = code.NoError; held = Some held }
    → IsRaised (core_of r) held)
init_raises log sound client timeout txn r written held found later e =
    let there = (row_of-found log txn r found).0 in
    let not_below : nat_lt client r.owner ≡ false = grind (arith, nat_tests, later) in
    let not_owner : (client == r.owner) ≡ false = grind (arith, nat_tests, later) in
    let new : init log client (Some txn) timeout ≡ newcomer log client timeout r r.state =
    ap (init_at log client txn timeout) found
    ∙ later_only (nat_lt client r.owner) (client == r.owner) (refuses code.ProducerFenced)
    (asked_again r r.state) (newcomer log client timeout r r.state) not_below not_owner in
    by_newcomer log client timeout r r.state written held (sound.shape r there).resting
    (above_own log r r.id there (own refl)) (sym new ∙ e)

pub first_is_new : (log : List TxnEntry) (client timeout : ℕ) (txn : List ℕ)
    (written : Option TxnEntry) (held : Held) → row_of log txn ≡ None
    → init log client (Some txn) timeout
    ≡ record { note = written; code = code.NoError; held = Some held }
    → held.id ≡ next_id log
first_is_new log client timeout txn written held none e =
    let first : init log client (Some txn) timeout ≡ init_at log client txn timeout None =
    ap (init_at log client txn timeout) none in
    let next = held_after (first_use log client txn timeout) in
    let same : next ≡ held =
    gives (init_at log client txn timeout None) next written held refl (sym first ∙ e) in
    sym (ap (λ (h : Held). h.id) same)

------ a client ends its transaction

-- the pair after a row that ends a transaction is above the transaction's
after_end : (id epoch : ℕ) (r : Row) → Shape r → Ends id epoch r
    → IsRaised (record { id = id; epoch = epoch }) (held_after r)
after_end id epoch r shape ends = by r.next refl ends
  where
    by : (next : Option ℕ) → r.next ≡ next → Ends id epoch r
        → IsRaised (record { id = id; epoch = epoch })
        (record { id = unwrap_or next r.id; epoch = cond (is_some next) 0 r.epoch })
    by None none (Ends.one_higher a b c) = omega (arith, a, b)
    by None none (Ends.replaced a b c d) =
        let below = shape.previous_below id b in omega (arith, a, c, below)
    by (Some n) some (Ends.one_higher a b c) =
        let above = shape.next_above n some in
        let last = shape.next_only n some in
        omega (arith, a, b, above, last)
    by (Some n) some (Ends.replaced a b c d) =
        let above = shape.next_above n some in
        let below = shape.previous_below id b in
        omega (arith, a, above, below)

-- a sound log after an answer
sound_after : (log : List TxnEntry) (sent : List Message) (written : Option TxnEntry) → Sound log
    → IfSome written (Follows sent log) → Sound (log_after log written)
sound_after log sent None sound f = sound
sound_after log sent (Some written) sound f = sound_next sound f

says_raised : (log : List TxnEntry) (txn : List ℕ) (held next : Held) (outcome : Outcome)
    (written : Option TxnEntry) → Sound (log_after log written)
    → EndSays log txn held outcome written (Some next) → IsRaised held next
says_raised log txn held next outcome written sound (ended n r given there same e g decided is_after) =
    subst (λ (h : Held). IsRaised held h) (sym is_after)
    (after_end held.id held.epoch r (sound.shape r there) (ends_tells held.id held.epoch r e))

pub end_raises : Over (λ log. (txn : List ℕ) (held next : Held) (outcome : Outcome)
    (written : Option TxnEntry)
    → end_txn log txn held outcome
    ≡ record { note = written; code = code.NoError; held = Some next }
    → IsRaised held next)
end_raises log sound txn held next outcome written e =
    let caller : Caller = record { client = 0; correlation = 0 } in
    let asked = the.EndTxn caller txn held outcome in
    let does = end_does (asked ∷ []) log sound caller held outcome txn (Contains-push [] asked) in
    let says : EndSays log txn held outcome written (Some next) =
    subst (λ (a : Answer). EndSays log txn held outcome a.note a.held) e
    (does.says (ap (λ (x : Answer). x.code) e)) in
    let follows : IfSome written (Follows (asked ∷ []) log) =
    subst (λ (a : Answer). IfSome a.note (Follows (asked ∷ []) log)) e does.follows in
    says_raised log txn held next outcome written (sound_after log (asked ∷ []) written sound follows)
    says

------ what is read from the log

grants_empty : (cause : Cause) (st : State) → is_grant cause st ≡ true → st ≡ Empty
grants_empty ByInit Empty e = refl
grants_empty cause st e = absurd cc

-- no pair of a row is above the one with which the coordinator goes on
not_above : (q s : Row) → Shape s → q.epoch ≤ 32766 → NotPast q s
    → rank (own_pair q) ≤ rank (core_of s)
not_above q s shape low past = by s.state
  where
    own_first : rank (own_pair q) ≤ rank (own_pair s)
    own_first = within past
      where
        within : NotPast q s → rank (own_pair q) ≤ rank (own_pair s)
        within (newer_id a) = omega (arith, a, low)
        within (same_id a b) = omega (arith, a, b)

    next_first : (next : Option ℕ) → s.next ≡ next
        → rank (own_pair s) ≤ rank (record {
          id = unwrap_or next s.id;
          epoch = cond (is_some next) 0 s.epoch;
        })
    next_first None e = omega arith
    next_first (Some n) e =
        let above = shape.next_above n e in
        let last = shape.next_only n e in
        omega (arith, above, last)

    by : (st : State) → rank (own_pair q) ≤ rank (ended_as s st)
    by Empty = own_first
    by Ongoing = own_first
    by (Prepare o) =
        let here = own_first in
        let next = next_first s.next refl in
        omega (arith, here, next)
    by (Complete o) = own_first

is_read : (log : List TxnEntry) (txn : List ℕ) → Sound log → (granting last : Option Row)
    → grant_row log txn ≡ granting → row_of log txn ≡ last → (g : Grant)
    → granted_by granting last ≡ Some g → rank g.granted ≤ rank g.core
is_read log txn sound None last e f g h = absurd cc
is_read log txn sound (Some q) None e f g h = absurd cc
is_read log txn sound (Some q) (Some s) e f g h =
    let test : Row → Bool = λ r. bytes_eq r.txn txn && grants r in
    let found = subst (IsFound test log) e (last_row_found test log) in
    let parts = and_parts (bytes_eq q.txn txn) (grants q) found.1 in
    let empty : q.state ≡ Empty = grants_empty q.cause q.state parts.1 in
    let low : q.epoch ≤ 32766 =
    (sound.shape q found.0).resting (λ o p. never o (sym empty ∙ p)) in
    let current = sound.current q found.0 in
    let same : row_of log q.txn ≡ Some s = ap (row_of log) (same_txn q txn parts.0) ∙ f in
    let one : current.0 ≡ s = only (sym current.1 ∙ same) in
    let past : NotPast q s = subst (NotPast q) one current.2 in
    let there = (row_of-found log txn s f).0 in
    let is : g.granted ≡ own_pair q = ap (λ (x : Grant). x.granted) (sym (only h)) in
    let core : g.core ≡ core_of s = ap (λ (x : Grant). x.core) (sym (only h)) in
    let within = not_above q s (sound.shape s there) low past in
    subst (λ (a : Held). rank a ≤ rank g.core) (sym is)
    (subst (λ (b : Held). rank (own_pair q) ≤ rank b) (sym core) within)
  where
    never : (o : Outcome) → Empty ≡ Prepare o → ⊥
    never o e = absurd cc

    only : {A : Type 0} {x y : A} → Some x ≡ Some y → x ≡ y
    only e = cc

pub read_behind : Over (λ log. (txn : List ℕ) (g : Grant) → granted_again log txn ≡ Some g
    → rank g.granted ≤ rank g.core)
read_behind log sound txn g h =
    is_read log txn sound (grant_row log txn) (row_of log txn) refl refl g h
