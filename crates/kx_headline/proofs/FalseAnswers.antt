-- Worlds in which an answer of code 0 is false, each of which `AnswersHold` refuses.
use Rattle.std.proofs.Common.{◌≡◌, ◌⊎◌, ⊎_elim, ℕ, pos, List, [], ◌∷◌, Option, Some, None, Contains}
use Rattle.std.proofs.Common.{refl, sym, ap, ◌∙◌}
use Rattle.std.specs.Prelude.{codes}
use Rattle.kx_message.specs.Messages as the
use Rattle.kx_message.specs.Messages.{caller_with}
use Rattle.kx_message.specs.declared.code.ErrorCode.TheVariants.{NoError}
use Rattle.kx_message.specs.declared.message.Held.{Held}
use Rattle.kx_message.specs.declared.message.Message.{Message}
use Rattle.kx_message.specs.declared.message.Message.TheVariants as msg
use Rattle.kx_message.specs.declared.outcome.Outcome.{Outcome}
use Rattle.kx_message.specs.declared.outcome.Outcome.TheVariants.{Abort, Commit}
use Rattle.kx_message.specs.declared.requests.Caller.{Caller}
use Rattle.kx_model.specs.Answers.{AnswersHold}
use Rattle.kx_model.specs.Coordinator.{Row, CoordinatorEpoch, Written, Complete, ByEnd, decision}
use Rattle.kx_model.specs.Coordinator.{first_row}
use Rattle.kx_model.specs.Disk.{made}
use Rattle.kx_model.specs.Log.{Placed, Stored}
use Rattle.kx_model.specs.PartitionNode.{Partition}
use Rattle.kx_model.specs.Produce.{stored_at}
use Rattle.kx_model.specs.Step.{plain_text}
use Rattle.kx_model.specs.World.{World, notes, start}
use Rattle.kx_laws.proofs.Membership.{cons_cases, contains_head, contains_tail, no_element}

-- a message is the only one of a list, or isn't in it
only : (m n : Message) → Contains (m ∷ []) n → m ≡ n
only m n c = ⊎_elim (λ e. e) (λ none. absurd (no_element n none)) (cons_cases m n [] c)

second : (m n : Message) → Contains (m ∷ n ∷ []) n
second m n = contains_tail m n (n ∷ []) (contains_head n [])

abbrev who : Caller
who = caller_with 9 4

abbrev text : List ℕ
text = plain_text (codes "x" ∷ [])

------ batches

abbrev asked : Message
asked = the.Produce who None 0 text

-- answered 0, and nothing is appended
nothing_appended : AnswersHold (record (start 1) {
  sent = asked ∷ the.ProduceReply who 0 NoError (pos 0) ∷ [];
}) → ⊥
nothing_appended h =
    let a = h.produced who 0 (pos 0) (second asked (the.ProduceReply who 0 NoError (pos 0))) in
    no_element _ a.stands.there

-- answered with another offset than that at which it stands
abbrev with_batch : Partition
with_batch = record { disk = made (stored_at 0 text ∷ []); parked = [] }

same_place : (a b : Placed Stored) → Contains (a ∷ []) b → a ≡ b
same_place a b c = ⊎_elim (λ e. e) (λ none. absurd (no_element b none)) (cons_cases a b [] c)

another_offset : AnswersHold (record (start 1) {
  partitions = with_batch ∷ [];
  sent = asked ∷ the.ProduceReply who 0 NoError (pos 1) ∷ [];
}) → ⊥
another_offset h =
    let a = h.produced who 0 (pos 1) (second asked (the.ProduceReply who 0 NoError (pos 1))) in
    let place = same_place (record { offset = 0; item = stored_at 0 text })
    (record { offset = a.offset; item = a.stands.stored }) a.stands.there in
    let zero_it : 0 ≡ a.offset = ap (λ (p : Placed Stored). p.offset) place in
    one_not_zero (a.is ∙ ap pos (sym zero_it))
  where
    one_not_zero : pos 1 ≡ pos 0 → ⊥
    one_not_zero e = cc

-- answered to a client that never asked
never_asked : AnswersHold (record (start 1) {
  partitions = with_batch ∷ [];
  sent = the.ProduceReply who 0 NoError (pos 0) ∷ [];
}) → ⊥
never_asked h =
    let reply = the.ProduceReply who 0 NoError (pos 0) in
    let a = h.produced who 0 (pos 0) (contains_head reply []) in
    no_request a.txn a.batch (only reply (the.Produce who a.txn 0 a.batch) a.sent)
  where
    no_request : (txn : Option (List ℕ)) (batch : List ℕ)
        → the.ProduceReply who 0 NoError (pos 0) ≡ the.Produce who txn 0 batch → ⊥
    no_request txn batch e = cc

-- offsets that aren't appended
abbrev pair : Held
pair = record { id = 0; epoch = 0 }

abbrev offered : Message
offered = the.TxnOffsetCommit who (codes "a") (codes "g") 9 (pos 1) pair (pos 0)
    (record { partition = 0; offset = pos 1 } ∷ [])

no_offsets : AnswersHold (record (start 1) {
  sent = offered ∷ the.OffsetsReply who NoError ∷ [];
}) → ⊥
no_offsets h =
    let a = h.committed who (second offered (the.OffsetsReply who NoError)) in
    no_element _ a.stands.there

------ an end

-- a transaction that was aborted
abbrev aborted : Row
aborted = record {
  txn = codes "a";
  id = 0;
  epoch = 1;
  previous = None;
  next = None;
  state = Complete Abort;
  cause = ByEnd;
  owner = 9;
  timeout = 60000;
  start = 0;
  partitions = [];
}

abbrev wants_commit : Message
wants_commit = the.EndTxn who (codes "a") pair Commit

abbrev says_done : Message
says_done = the.EndReply who NoError (Some (record { id = 0; epoch = 1 }))

abbrev aborted_world : World
aborted_world = record (start 1) {
  coordinator = record {
    disk = made (CoordinatorEpoch (pos 1) ∷ Written aborted ∷ []);
    clock = 0;
    answered = [];
  };
  sent = wants_commit ∷ says_done ∷ [];
}

is_aborted : decision (notes aborted_world) 0 0 ≡ Some Abort
unfolding first_row
is_aborted = refl

abbrev held_of : Message → Held
held_of (msg.EndTxn it) = it.held
held_of m = pair

abbrev outcome_of : Message → Outcome
outcome_of (msg.EndTxn it) = it.outcome
outcome_of m = Commit

-- its commit is answered with 0
commit_of_an_abort : AnswersHold aborted_world → ⊥
commit_of_an_abort h =
    let (held, answered, a) = h.ended who (Some (record { id = 0; epoch = 1 }))
    (second wants_commit says_done) in
    by a.txn a.held a.outcome a.decided
    (cons_cases wants_commit (the.EndTxn who a.txn a.held a.outcome) (says_done ∷ []) a.sent)
  where
    no_outcome : Some Abort ≡ Some Commit → ⊥
    no_outcome e = cc

    no_request : (txn : List ℕ) (held : Held) (outcome : Outcome)
        → says_done ≡ the.EndTxn who txn held outcome → ⊥
    no_request txn held outcome e = cc

    by : (txn : List ℕ) (held : Held) (outcome : Outcome)
        → decision (notes aborted_world) held.id held.epoch ≡ Some outcome
        → (wants_commit ≡ the.EndTxn who txn held outcome)
        ⊎ Contains (says_done ∷ []) (the.EndTxn who txn held outcome) → ⊥
    by txn held outcome decided which =
        ⊎_elim
        (λ e. let same_pair : pair ≡ held = ap held_of e in
        let same_outcome : Commit ≡ outcome = ap outcome_of e in
        no_outcome (sym is_aborted
        ∙ ap (λ (p : Held). decision (notes aborted_world) p.id p.epoch) same_pair
        ∙ decided ∙ ap Some (sym same_outcome)))
        (λ c. no_request txn held outcome (only says_done (the.EndTxn who txn held outcome) c))
        which
