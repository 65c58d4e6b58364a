-- What a partition's verdict on a request tells.
use Rattle.std.proofs.Common.{◌≡◌, ◌+◌, ℕ, pos, Bool, true, false, not, ◌&&◌, ◌||◌, cond, List}
use Rattle.std.proofs.Common.{Option, Some, None, Result, Ok, Err, length, ltb, leb, refl}
use Rattle.std.specs.Prelude.{◌≢◌}
use Rattle.std.specs.Ordering.{int_eq}
use Rattle.std.proofs.lemmas.Bool.{cond_both}
use Rattle.kx_message.specs.declared.code.ErrorCode.{ErrorCode}
use Rattle.kx_message.specs.declared.code.ErrorCode.TheVariants.{NoError, ConcurrentTransactions}
use Rattle.kx_message.specs.declared.code.ErrorCode.TheVariants.{IllegalGeneration, InvalidRecord}
use Rattle.kx_message.specs.declared.code.ErrorCode.TheVariants.{InvalidProducerEpoch}
use Rattle.kx_message.specs.declared.code.ErrorCode.TheVariants.{InvalidTxnState, KafkaStorageError}
use Rattle.kx_message.specs.declared.code.ErrorCode.TheVariants.{MessageTooLarge, UnknownMemberId}
use Rattle.kx_message.specs.declared.code.ErrorCode.TheVariants.{OutOfOrderSequenceNumber}
use Rattle.kx_batch.specs.Batch.{Spelled, batch_at, batch_limit}
use Rattle.kx_batch.specs.declared.fault.BatchFault.{BatchFault}
use Rattle.kx_batch.specs.declared.fault.BatchFault.TheVariants.{Short, Magic, Length, Crc}
use Rattle.kx_batch.specs.declared.fault.BatchFault.TheVariants.{Compressed, Records, TooLarge}
use Rattle.kx_model.specs.Groups.{generation, is_member}
use Rattle.kx_model.specs.Log.{Entry, Plain, Data, Control, Placed, Sequenced, end, entry_in}
use Rattle.kx_model.specs.Produce.{Verdict, Next, Duplicate, Unverified, Refused, code_of}
use Rattle.kx_model.specs.Produce.{greatest_offset, has_earlier_open, if_room, is_below}
use Rattle.kx_model.specs.Produce.{is_out_of_order, is_outside, is_plain, is_sequenced, judge}
use Rattle.kx_model.specs.Produce.{judge_batch, judge_entry, judge_new, judge_read, judge_text}
use Rattle.kx_model.specs.Produce.{open_limit, opens, or_duplicate, same_batch}
use Rattle.kx_model.specs.Producers.{epoch_of, remembered}
use Rattle.kx_model.specs.Transactions.{open_transactions}
use Rattle.kx_model.specs.Verification.{Request, Target, ToPartition, ToGroup, judge_request}
use Rattle.kx_model.specs.Verification.{judge_target}

-- what is verified is never asked about, and a refusal has a code
abbrev pub Tells : Bool → Verdict → Type 0
Tells verified Next = Unit {0}
Tells verified (Duplicate offset) = Unit {0}
Tells verified Unverified = verified ≡ false
Tells verified (Refused code) = code ≢ NoError

asks_unverified : (first verified : Bool) → (first && not verified) ≡ true → verified ≡ false
asks_unverified true true e = absurd cc
asks_unverified true false e = refl
asks_unverified false verified e = absurd cc

fault_tells : (fault : BatchFault) → code_of fault ≢ NoError
fault_tells Short = λ e. cc
fault_tells Magic = λ e. cc
fault_tells Length = λ e. cc
fault_tells Crc = λ e. cc
fault_tells Compressed = λ e. cc
fault_tells Records = λ e. cc
fault_tells TooLarge = λ e. cc

module _ (log : List Entry) (verified : Bool) where
  refused_or : (b : Bool) (code : ErrorCode) (v : Verdict) → code ≢ NoError → Tells verified v
      → Tells verified (cond b (Refused code) v)
  refused_or true code v some rest = some
  refused_or false code v some rest = rest

  or_refused : (b : Bool) (code : ErrorCode) (v : Verdict) → code ≢ NoError → Tells verified v
      → Tells verified (cond b v (Refused code))
  or_refused true code v some rest = rest
  or_refused false code v some rest = some

  room_tells : (count : ℕ) → Tells verified (if_room log count)
  room_tells count =
      refused_or (ltb greatest_offset (end log + count)) KafkaStorageError Next (λ e. cc) tt

  new_tells : (batch : Sequenced) → Tells verified (judge_new log verified batch)
  new_tells batch =
      let fits = if_room log (length batch.records) in
      let first = opens log batch in
      let verify : Verdict = cond (first && not verified) Unverified fits in
      let outside : Verdict = cond (is_outside log batch) (Refused InvalidTxnState) verify in
      let many = leb open_limit (length (open_transactions log)) in
      let full : Verdict = cond (first && many) (Refused ConcurrentTransactions) outside in
      let earlier : Verdict =
      cond (has_earlier_open log batch) (Refused ConcurrentTransactions) full in
      refused_or (is_out_of_order log batch) OutOfOrderSequenceNumber earlier (λ e. cc)
      (refused_or (has_earlier_open log batch) ConcurrentTransactions full (λ e. cc)
      (refused_or (first && many) ConcurrentTransactions outside (λ e. cc)
      (refused_or (is_outside log batch) InvalidTxnState verify (λ e. cc)
      (cond_both (first && not verified) Unverified fits (Tells verified)
      (asks_unverified first verified) (λ e. room_tells (length batch.records))))))

  duplicate_tells : (found : Option (Placed Sequenced)) (v : Verdict) → Tells verified v
      → Tells verified (or_duplicate found v)
  duplicate_tells None v rest = rest
  duplicate_tells (Some p) v rest = tt

  entry_tells : (entry : Entry) → Tells verified (judge_entry log verified entry)
  unfolding judge
  entry_tells (Plain records) = room_tells (length records)
  entry_tells (Control marker) = λ e. cc
  entry_tells (Data batch) =
      let found = same_batch batch (remembered log batch.id batch.epoch) in
      refused_or (is_below batch.epoch (epoch_of log batch.id)) InvalidProducerEpoch
      (or_duplicate found (judge_new log verified batch)) (λ e. cc)
      (duplicate_tells found (judge_new log verified batch) (new_tells batch))

  read_tells : (r : Result (Spelled × List ℕ) BatchFault)
      → Tells verified (judge_read log verified r)
  read_tells (Err fault) = fault_tells fault
  read_tells (Ok found) =
      let batch = found.0.batch in
      refused_or (ltb 0 (length found.1)) InvalidRecord (judge_batch log verified batch) (λ e. cc)
      (or_refused (is_plain batch || is_sequenced batch) InvalidRecord
      (judge_entry log verified (entry_in batch)) (λ e. cc) (entry_tells (entry_in batch)))

  pub text_tells : (text : List ℕ) → Tells verified (judge_text log verified text)
  unfolding judge_text
  text_tells text =
      refused_or (ltb batch_limit (length text)) MessageTooLarge
      (judge_read log verified (batch_at text)) (λ e. cc) (read_tells (batch_at text))

  target_tells : (text : List ℕ) (target : Target)
      → Tells verified (judge_target log verified text target)
  target_tells text (ToPartition partition) = text_tells text
  target_tells text (ToGroup group member named) =
      let judged = judge_text log verified text in
      let of_now = int_eq named (pos (generation log group)) in
      let current : Verdict = cond (not of_now) (Refused IllegalGeneration) judged in
      refused_or (not (is_member log group member)) UnknownMemberId current (λ e. cc)
      (refused_or (not of_now) IllegalGeneration judged (λ e. cc) (text_tells text))

  pub request_tells : (r : Request) → Tells verified (judge_request log verified r)
  request_tells r = target_tells r.text r.target
