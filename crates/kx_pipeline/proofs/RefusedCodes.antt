-- A text is never refused for what its sender is to a group: a refusal with such a code is of the
-- member or of its generation.
use Rattle.std.proofs.Common.{◌≡◌, ◌+◌, ℕ, ℤ, pos, Bool, true, false, not, ◌&&◌, ◌||◌, cond, List}
use Rattle.std.proofs.Common.{Option, Some, None, Result, Ok, Err, length, ltb, leb, refl, ap, ◌∙◌}
use Rattle.std.proofs.Common.{subst}
use Rattle.std.specs.Ordering.{int_eq}
use Rattle.std.proofs.lemmas.Bool.{cond_both}
use Rattle.kx_message.specs.declared.code.ErrorCode.{ErrorCode}
use Rattle.kx_message.specs.declared.code.ErrorCode.TheVariants.{ConcurrentTransactions}
use Rattle.kx_message.specs.declared.code.ErrorCode.TheVariants.{IllegalGeneration, InvalidRecord}
use Rattle.kx_message.specs.declared.code.ErrorCode.TheVariants.{InvalidProducerEpoch}
use Rattle.kx_message.specs.declared.code.ErrorCode.TheVariants.{InvalidTxnState, KafkaStorageError}
use Rattle.kx_message.specs.declared.code.ErrorCode.TheVariants.{MessageTooLarge, UnknownMemberId}
use Rattle.kx_message.specs.declared.code.ErrorCode.TheVariants.{OutOfOrderSequenceNumber}
use Rattle.kx_batch.specs.Batch.{Spelled, batch_at, batch_limit}
use Rattle.kx_batch.specs.declared.fault.BatchFault.{BatchFault}
use Rattle.kx_batch.specs.declared.fault.BatchFault.TheVariants.{Short, Magic, Length, Crc}
use Rattle.kx_batch.specs.declared.fault.BatchFault.TheVariants.{Compressed, Records, TooLarge}
use Rattle.kx_model.specs.Groups.{generation, is_member, judge_offsets}
use Rattle.kx_model.specs.Log.{Entry, Plain, Data, Control, Placed, Sequenced, end, entry_in}
use Rattle.kx_model.specs.Produce.{Verdict, Next, Duplicate, Unverified, Refused, code_of}
use Rattle.kx_model.specs.Produce.{greatest_offset, has_earlier_open, if_room, is_below}
use Rattle.kx_model.specs.Produce.{is_out_of_order, is_outside, is_plain, is_sequenced, judge}
use Rattle.kx_model.specs.Produce.{judge_batch, judge_entry, judge_new, judge_read, judge_text}
use Rattle.kx_model.specs.Produce.{open_limit, opens, or_duplicate, same_batch}
use Rattle.kx_model.specs.Producers.{epoch_of, remembered}
use Rattle.kx_model.specs.Transactions.{open_transactions}
use Rattle.kx_headline.proofs.Codes.{OfNoGroup}
use Rattle.kx_pipeline.proofs.Generations.{accepts}

-- a refusal whose code says nothing of a group
abbrev SpeaksOfNone : Verdict → Type 0
SpeaksOfNone Next = Unit {0}
SpeaksOfNone (Duplicate offset) = Unit {0}
SpeaksOfNone Unverified = Unit {0}
SpeaksOfNone (Refused code) = OfNoGroup code

fault_code : (fault : BatchFault) → OfNoGroup (code_of fault)
fault_code Short = tt
fault_code Magic = tt
fault_code Length = tt
fault_code Crc = tt
fault_code Compressed = tt
fault_code Records = tt
fault_code TooLarge = tt

module _ (log : List Entry) (verified : Bool) where
  refused_or : (b : Bool) (code : ErrorCode) (v : Verdict) → OfNoGroup code → SpeaksOfNone v
      → SpeaksOfNone (cond b (Refused code) v)
  refused_or true code v some rest = some
  refused_or false code v some rest = rest

  or_refused : (b : Bool) (code : ErrorCode) (v : Verdict) → OfNoGroup code → SpeaksOfNone v
      → SpeaksOfNone (cond b v (Refused code))
  or_refused true code v some rest = rest
  or_refused false code v some rest = some

  room_speaks : (count : ℕ) → SpeaksOfNone (if_room log count)
  room_speaks count =
      refused_or (ltb greatest_offset (end log + count)) KafkaStorageError Next tt tt

  new_speaks : (batch : Sequenced) → SpeaksOfNone (judge_new log verified batch)
  new_speaks batch =
      let fits = if_room log (length batch.records) in
      let first = opens log batch in
      let verify : Verdict = cond (first && not verified) Unverified fits in
      let outside : Verdict = cond (is_outside log batch) (Refused InvalidTxnState) verify in
      let many = leb open_limit (length (open_transactions log)) in
      let full : Verdict = cond (first && many) (Refused ConcurrentTransactions) outside in
      let earlier : Verdict =
      cond (has_earlier_open log batch) (Refused ConcurrentTransactions) full in
      refused_or (is_out_of_order log batch) OutOfOrderSequenceNumber earlier tt
      (refused_or (has_earlier_open log batch) ConcurrentTransactions full tt
      (refused_or (first && many) ConcurrentTransactions outside tt
      (refused_or (is_outside log batch) InvalidTxnState verify tt
      (cond_both (first && not verified) Unverified fits (SpeaksOfNone)
      (λ e. tt) (λ e. room_speaks (length batch.records))))))

  duplicate_speaks : (found : Option (Placed Sequenced)) (v : Verdict) → SpeaksOfNone v
      → SpeaksOfNone (or_duplicate found v)
  duplicate_speaks None v rest = rest
  duplicate_speaks (Some p) v rest = tt

  entry_speaks : (entry : Entry) → SpeaksOfNone (judge_entry log verified entry)
  unfolding judge
  entry_speaks (Plain records) = room_speaks (length records)
  entry_speaks (Control marker) = tt
  entry_speaks (Data batch) =
      let found = same_batch batch (remembered log batch.id batch.epoch) in
      refused_or (is_below batch.epoch (epoch_of log batch.id)) InvalidProducerEpoch
      (or_duplicate found (judge_new log verified batch)) tt
      (duplicate_speaks found (judge_new log verified batch) (new_speaks batch))

  read_speaks : (r : Result (Spelled × List ℕ) BatchFault)
      → SpeaksOfNone (judge_read log verified r)
  read_speaks (Err fault) = fault_code fault
  read_speaks (Ok found) =
      let batch = found.0.batch in
      refused_or (ltb 0 (length found.1)) InvalidRecord (judge_batch log verified batch) tt
      (or_refused (is_plain batch || is_sequenced batch) InvalidRecord
      (judge_entry log verified (entry_in batch)) tt (entry_speaks (entry_in batch)))

  text_speaks : (text : List ℕ) → SpeaksOfNone (judge_text log verified text)
  unfolding judge_text
  text_speaks text =
      refused_or (ltb batch_limit (length text)) MessageTooLarge
      (judge_read log verified (batch_at text)) tt (read_speaks (batch_at text))

-- what a refusal says: the group doesn't take the member at its generation, or it is of no group
pub data RefusedFor (log : List Entry) (group : List ℕ) (member : ℕ) (named : ℤ)
    (code : ErrorCode) : Type 0 where
  not_taken : accepts log group member named ≡ false → RefusedFor log group member named code
  another : OfNoGroup code → RefusedFor log group member named code

pub offsets_refused : (log : List Entry) (verified : Bool) (group : List ℕ) (member : ℕ)
    (named : ℤ) (text : List ℕ) (code : ErrorCode)
    → judge_offsets log verified group member named text ≡ Refused code
    → RefusedFor log group member named code
offsets_refused log verified group member named text code e =
    by (is_member log group member) refl (int_eq named (pos (generation log group))) refl e
  where
    by : (a : Bool) → is_member log group member ≡ a → (b : Bool)
        → int_eq named (pos (generation log group)) ≡ b
        → cond (not a) (Refused UnknownMemberId)
        (cond (not b) (Refused IllegalGeneration) (judge_text log verified text)) ≡ Refused code
        → RefusedFor log group member named code
    by false f b g same = not_taken (ap (λ x. x && int_eq named (pos (generation log group))) f)
    by true f false g same =
        not_taken (ap (λ x. x && int_eq named (pos (generation log group))) f ∙ g)
    by true f true g same =
        another (subst SpeaksOfNone same (text_speaks log verified text))

-- what is taken comes from a member of the present generation
pub taken_accepts : (log : List Entry) (verified : Bool) (group : List ℕ) (member : ℕ)
    (named : ℤ) (text : List ℕ) → judge_offsets log verified group member named text ≡ Next
    → accepts log group member named ≡ true
taken_accepts log verified group member named text e =
    by (is_member log group member) refl (int_eq named (pos (generation log group))) refl e
  where
    by : (a : Bool) → is_member log group member ≡ a → (b : Bool)
        → int_eq named (pos (generation log group)) ≡ b
        → cond (not a) (Refused UnknownMemberId)
        (cond (not b) (Refused IllegalGeneration) (judge_text log verified text)) ≡ Next
        → accepts log group member named ≡ true
    by false f b g same = absurd cc
    by true f false g same = absurd cc
    by true f true g same = ap (λ x. x && int_eq named (pos (generation log group))) f ∙ g
