-- What the calls of the example promise: each by the definitions of the crate that it calls.
use Rattle.std.specs.Prelude.{◌≡◌, ◌≢◌, ℕ, ℤ, pos, Bool, true, false, List, [], ◌∷◌, Some, None, Ok}
use Rattle.kx_batch.specs.Batch.{Batch}
use Rattle.kx_batch.specs.Build.{made, pushed}
use Rattle.kx_coord.specs.Calls.{IsOpen, Responds}
use Rattle.kx_coord.specs.CoordinatorState.{CoordinatorState}
use Rattle.kx_log.specs.LogState.{LogState}
use Rattle.kx_log.specs.Store.{AppendsWork, LoadsWork, StoreState}
use Rattle.kx_message.specs.Messages as the
use Rattle.kx_message.specs.declared.code.ErrorCode.{ErrorCode}
use Rattle.kx_message.specs.declared.code.ErrorCode.TheVariants.{NoError}
use Rattle.kx_message.specs.declared.message.Held.{Held}
use Rattle.kx_message.specs.declared.message.Message.{Message}
use Rattle.kx_message.specs.declared.message.Message.TheVariants as msg
use Rattle.kx_message.specs.declared.requests.AddPartition.{AddPartition}
use Rattle.kx_model.specs.Log.{Stored, entries}
use Rattle.kx_model.specs.Page.{Fetched, answer_to}
use Rattle.kx_model.specs.Reading.{Shown}
use Rattle.kx_model.specs.Requests as model
use Rattle.kx_partition.specs.Answer.{IsProduced}
use Rattle.kx_partition.specs.Fetch.{committed_between}
use Rattle.kx_partition.specs.declared.answer.Produced.{Produced}
use Rattle.kx_partition.specs.declared.answer.Produced.TheVariants as produced

-- a transactional batch of one record, without a key
abbrev pub batch_with : Held → ℤ → List ℕ → Batch
batch_with held first value =
    made (pos 16) (pos held.id) (pos held.epoch) first (pushed 0 None (Some value) [] ∷ [])

-- the records of the page that a fetch answers with, as the log commits them
pub record ReadsCommitted (log : List Stored) (from : ℤ) (shown : List Shown) : Type 0 where
  pub page : Fetched
  pub answer : answer_to log from 65536 true ≡ Ok page
  pub reads : shown ≡ committed_between (entries log) from page.next

-- a store in memory that has no bytes
abbrev pub no_bytes : StoreState
no_bytes = record { bytes = []; failures = 0; appends = AppendsWork; loads = LoadsWork }

-- the coordinator of an empty log, opened at time 0
pub record IsNew (coordinator : CoordinatorState) : Type 0 where
  pub sent : List Message
  pub opened : IsOpen no_bytes 0 coordinator sent

abbrev pub is_yes : ErrorCode → Bool
is_yes NoError = true
is_yes other = false

-- the first message says yes to a partition that asked to be listed
abbrev pub says_listed : List Message → Bool
says_listed (msg.AddReply it ∷ rest) = is_yes it.code
says_listed other = false

-- a partition asked to be listed, and whether it is
pub record Asks (old new : CoordinatorState) (request : AddPartition) (listed : Bool)
    : Type 0 where
  pub replies : List Message
  pub responds : Responds old new
      (model.add old.log.notes old.clock request.txn request.held request.partition)
      (λ code after. the.AddReply request.partition request.txn request.held code) replies
  pub says : says_listed replies ≡ listed

-- a batch is answered without the coordinator; or the coordinator is asked, and the batch is
-- judged again as verified, or stays unverified
pub data IsAppendedBy (old_co new_co : CoordinatorState) (request : AddPartition) (text : List ℕ)
    (old new : LogState) : Produced → Type 0 where
  AtOnce : (answer : Produced) → answer ≢ produced.Unverified → new_co ≡ old_co
      → IsProduced text false old new answer
      → IsAppendedBy old_co new_co request text old new answer
  Listed : (answer : Produced) → IsProduced text false old old produced.Unverified
      → Asks old_co new_co request true → IsProduced text true old new answer
      → IsAppendedBy old_co new_co request text old new answer
  NotListed : IsProduced text false old new produced.Unverified
      → Asks old_co new_co request false
      → IsAppendedBy old_co new_co request text old new produced.Unverified
