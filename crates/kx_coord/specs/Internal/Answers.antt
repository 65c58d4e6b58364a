-- What the code decides about a request, in the words of the definitions.
use Rattle.std.specs.Prelude.{◌≡◌, ◌≤◌, ◌⊎◌, ℕ, Bool, true, false, List, Option}
use Rattle.std.specs.Prelude.{Some, None, MatchOption}
use Rattle.kx_message.specs.Messages as the
use Rattle.kx_message.specs.declared.code.ErrorCode.{ErrorCode}
use Rattle.kx_message.specs.declared.code.ErrorCode.TheVariants.{KafkaStorageError}
use Rattle.kx_message.specs.declared.message.Held.{Held}
use Rattle.kx_model.specs.Coordinator as model
use Rattle.kx_model.specs.Coordinator.{TxnEntry, State, Empty, Ongoing, Prepare, Complete}
use Rattle.kx_model.specs.Coordinator.{Written, next_id}
use Rattle.kx_model.specs.CoordinatorNode.{Reply, has_no_id, id_limit}
use Rattle.kx_model.specs.Requests as requests
use Rattle.kx_txnlog.specs.Entry.{note_of, row_of}
use Rattle.kx_txnlog.specs.declared.entry.Entry.{Entry}
use Rattle.kx_txnlog.specs.declared.entry.Row.{Row}
use Rattle.kx_coord.specs.Calls.{IsToAppend}
use Rattle.kx_coord.specs.CoordinatorState.{CoordinatorState}
use Rattle.kx_coord.specs.Internal.Drafts.{drafted, note_drafted}
use Rattle.kx_coord.specs.declared.answer.Answer.{Answer}
use Rattle.kx_coord.specs.declared.answer.Answer.TheVariants as answer
use Rattle.kx_coord.specs.declared.answer.ReplyTo.{ReplyTo}
use Rattle.kx_coord.specs.declared.answer.ReplyTo.TheVariants as to
use Rattle.kx_coord.specs.declared.answer.Response.{Response}
use Rattle.kx_coord.specs.declared.draft.RowDraft.{RowDraft}

-- the next id of a log, or none if ids are used up
abbrev pub IsNextId : List TxnEntry → Option ℕ → Type 0
IsNextId log next = MatchOption next (id_limit ≤ next_id log) (λ id. id ≡ next_id log)

-- a row was made, or an id is missing for it
abbrev pub IsMade : model.Row → Option Row → Type 0
IsMade r made = MatchOption made (has_no_id (Written r) ≡ true) (λ row. row_of row ≡ r)

-- a row was decided, or an id is missing for it
abbrev pub IsDrafted : model.Row → Option RowDraft → Type 0
IsDrafted r made = MatchOption made (has_no_id (Written r) ≡ true) (λ row. drafted row ≡ r)

-- the answer, if an entry needs an id and none is left
pub record NeedsId (a : requests.Answer) : Type 0 where
  pub note : TxnEntry
  pub is : a.note ≡ Some note
  pub none : has_no_id note ≡ true

abbrev pub IsAnswer : Answer → requests.Answer → Type 0
IsAnswer (answer.Replies code held) a = a ≡ record { note = None; code = code; held = held }
IsAnswer answer.UsedUp a = NeedsId a
IsAnswer (answer.Writes entry code held) a =
    a ≡ record { note = Some (note_drafted entry); code = code; held = held }

-- nothing is appended: an id is missing for the entry, or the log is closed
pub record IsUnwritten (co : CoordinatorState) (a : requests.Answer) (code : ErrorCode)
    (held : Option Held) : Type 0 where
  pub note : TxnEntry
  pub is : a.note ≡ Some note
  pub why : (has_no_id note ≡ true) ⊎ (co.log.closed ≡ true)
  pub code_is : code ≡ KafkaStorageError
  pub none : held ≡ None

abbrev pub RespondsWith : Option Entry → ErrorCode → Option Held → CoordinatorState
    → requests.Answer → Type 0
RespondsWith None code held co a =
    (a ≡ record { note = None; code = code; held = held }) ⊎ IsUnwritten co a code held
RespondsWith (Some entry) code held co a =
    (a ≡ record { note = Some (note_of entry); code = code; held = held }) × IsToAppend co a

-- what is done about a request that is answered so
abbrev pub IsResponse : CoordinatorState → requests.Answer → Response → Type 0
IsResponse co a r = RespondsWith r.entry r.code r.held co a

-- whom a request is answered
abbrev pub reply_by : ReplyTo → Reply
reply_by (to.Init caller) = the.InitReply caller
reply_by (to.End caller) = the.EndReply caller
reply_by (to.Add it) = λ code after. the.AddReply it.partition it.txn it.held code

-- nothing is under way, and no markers are on their way
abbrev pub is_settled : State → Bool
is_settled Empty = true
is_settled Ongoing = false
is_settled (Prepare outcome) = false
is_settled (Complete outcome) = true
