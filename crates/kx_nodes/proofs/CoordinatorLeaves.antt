-- What a step of the coordinator but a restart leaves of its log: an entry that it fails to append
-- has no epoch.
use Rattle.std.proofs.Common.{◌≡◌, ℕ, ℤ, max, List, [], ◌∷◌, Option, Some, None, refl}
use Rattle.std.specs.Prelude.{◌==◌, nat_lt, if◌then◌else◌}
use Rattle.kx_message.specs.Messages as the
use Rattle.kx_message.specs.declared.code.ErrorCode.{ErrorCode}
use Rattle.kx_message.specs.declared.code.ErrorCode.TheVariants as code
use Rattle.kx_message.specs.declared.message.Held.{Held}
use Rattle.kx_message.specs.declared.message.Message.{Message}
use Rattle.kx_message.specs.declared.message.Message.TheVariants as msg
use Rattle.kx_message.specs.declared.outcome.Outcome.{Outcome}
use Rattle.kx_message.specs.declared.outcome.Outcome.TheVariants.{Abort, Commit}
use Rattle.kx_model.specs.Coordinator.{TxnEntry, Row, State, Empty, Ongoing, Prepare, Complete}
use Rattle.kx_model.specs.Coordinator.{Written}
use Rattle.kx_model.specs.Coordinator.{ends, epoch_after, lists, row_of}
use Rattle.kx_model.specs.CoordinatorNode.{Coordinator, coordinator_takes}
use Rattle.kx_model.specs.CoordinatorNode.{expires_row, has_no_id, notes_of, on_marker_reply}
use Rattle.kx_model.specs.CoordinatorNode.{on_settled, Reply, replies, writes}
use Rattle.kx_model.specs.Disk.{Store, appended}
use Rattle.kx_model.specs.Markers.{Answered, Settled, Ignored, Noted, Completes, expire, settle}
use Rattle.kx_model.specs.Requests as requests
use Rattle.kx_model.specs.Requests.{Answer, add, add_in, asked_again, end_in, end_row, end_txn}
use Rattle.kx_model.specs.Requests.{ended_as, has_outcome, init, init_row, is_old, newcomer}
use Rattle.kx_model.specs.Requests.{nothing_sent, or_answer, refused_first, refuses, repeats}
use Rattle.kx_model.specs.Requests.{with_added}
use Rattle.kx_model.specs.Step.{Input, Comes, Commands, Expires, Reminds, Drops, Puts, Restarts}
use Rattle.kx_model.specs.Step.{coordinator_step}
use Rattle.kx_nodes.proofs.Disks.{by_test}
use Rattle.kx_nodes.proofs.Leaving.{IsPlain, Leaves, append_leaves, keeps}

-- the entry leaves the coordinator's epoch as it is
abbrev pub KeepsEpoch : TxnEntry → Type 0
KeepsEpoch note = (epoch : ℤ) → epoch_after epoch note ≡ epoch

------ what answers append

abbrev MayKeep : Option TxnEntry → Type 0
MayKeep None = Unit {0}
MayKeep (Some note) = KeepsEpoch note

abbrev Fine : Answer → Type 0
Fine a = MayKeep a.note

asked_fine : (r : Row) (state : State) → Fine (asked_again r state)
asked_fine r Empty = tt
asked_fine r Ongoing = tt
asked_fine r (Prepare outcome) = tt
asked_fine r (Complete outcome) = tt

newcomer_fine : (log : List TxnEntry) (client timeout : ℕ) (r : Row) (state : State)
    → Fine (newcomer log client timeout r state)
newcomer_fine log client timeout r Empty = λ e. refl
newcomer_fine log client timeout r Ongoing = λ e. refl
newcomer_fine log client timeout r (Prepare outcome) = tt
newcomer_fine log client timeout r (Complete outcome) = λ e. refl

init_at_fine : (log : List TxnEntry) (client : ℕ) (txn : List ℕ) (timeout : ℕ) (row : Option Row)
    → Fine (requests.init_at log client txn timeout row)
init_at_fine log client txn timeout None = λ e. refl
init_at_fine log client txn timeout (Some r) =
    by_test (nat_lt client r.owner) (λ b. Fine (if b then refuses code.ProducerFenced
    else if client == r.owner then asked_again r r.state
    else newcomer log client timeout r r.state)) tt
    (by_test (client == r.owner) (λ b. Fine (if b then asked_again r r.state
    else newcomer log client timeout r r.state))
    (asked_fine r r.state) (newcomer_fine log client timeout r r.state))

init_fine : (log : List TxnEntry) (client : ℕ) (txn : Option (List ℕ)) (timeout : ℕ)
    → Fine (init log client txn timeout)
init_fine log client None timeout = λ e. refl
init_fine log client (Some txn) timeout = init_at_fine log client txn timeout (row_of log txn)

or_fine : (refused : Option ErrorCode) (a : Answer) → Fine a → Fine (or_answer refused a)
or_fine None a fine = fine
or_fine (Some code) a fine = tt

add_in_fine : (clock : ℕ) (r : Row) (held : Held) (partition : ℕ) (state : State)
    → Fine (add_in clock r held partition state)
add_in_fine clock r held partition Empty = λ e. refl
add_in_fine clock r held partition Ongoing =
    by_test (lists partition r) (λ b. Fine (if b then repeats held
    else requests.writes (with_added r r.start partition))) tt (λ e. refl)
add_in_fine clock r held partition (Prepare outcome) = tt
add_in_fine clock r held partition (Complete outcome) = λ e. refl

add_at_fine : (clock : ℕ) (row : Option Row) (held : Held) (partition : ℕ)
    → Fine (requests.add_at clock row held partition)
add_at_fine clock None held partition = tt
add_at_fine clock (Some r) held partition =
    or_fine (refused_first r held) _
    (by_test (is_old r held) (λ b. Fine (if b then refuses code.ProducerFenced
    else add_in clock r held partition r.state)) tt (add_in_fine clock r held partition r.state))

nothing_fine : (log : List TxnEntry) (r : Row) (outcome : Outcome) → Fine
    (nothing_sent log r outcome)
nothing_fine log r Abort = λ e. refl
nothing_fine log r Commit = tt

end_in_fine : (log : List TxnEntry) (r : Row) (outcome : Outcome) (state : State)
    → Fine (end_in log r outcome state)
end_in_fine log r outcome Empty = nothing_fine log r outcome
end_in_fine log r outcome Ongoing = λ e. refl
end_in_fine log r outcome (Prepare decided) = tt
end_in_fine log r outcome (Complete decided) = nothing_fine log r outcome

end_row_fine : (log : List TxnEntry) (r : Row) (held : Held) (outcome : Outcome)
    → Fine (end_row log r held outcome)
end_row_fine log r held outcome =
    by_test (ends held.id held.epoch r) (λ b. Fine (if b
    then (if has_outcome outcome r.state then repeats (ended_as r r.state)
    else refuses code.InvalidTxnState)
    else if is_old r held then refuses code.ProducerFenced
    else end_in log r outcome r.state))
    (by_test (has_outcome outcome r.state) (λ b. Fine (if b then repeats (ended_as r r.state)
    else refuses code.InvalidTxnState)) tt tt)
    (by_test (is_old r held) (λ b. Fine (if b then refuses code.ProducerFenced
    else end_in log r outcome r.state)) tt (end_in_fine log r outcome r.state))

end_at_fine : (log : List TxnEntry) (row : Option Row) (held : Held) (outcome : Outcome)
    → Fine (requests.end_at log row held outcome)
end_at_fine log None held outcome = tt
end_at_fine log (Some r) held outcome =
    or_fine (refused_first r held) (end_row log r held outcome) (end_row_fine log r held outcome)

------ steps

module _ (store : Store) where
  abbrev Goes : Coordinator → Coordinator → Type 0
  Goes co after = Leaves KeepsEpoch store co.disk after.disk

  rests : (co : Coordinator) → Goes co co
  rests co = keeps KeepsEpoch store co.disk

  writes_leave : (co : Coordinator) (note : TxnEntry) (done failed : List Message) → KeepsEpoch note
      → Goes co (writes co store note done failed).0
  writes_leave co note done failed kept =
      by_test (has_no_id note) (λ b. Leaves KeepsEpoch store co.disk
      (if b then co.disk else appended co.disk store note))
      (rests co) (append_leaves KeepsEpoch store co.disk note kept)

  replies_leave : (co : Coordinator) (a : Answer) (reply : Reply) (note : Option TxnEntry)
      → MayKeep note → Goes co (replies co store a reply note).0
  replies_leave co a reply None kept = rests co
  replies_leave co a reply (Some note) kept =
      writes_leave co note (reply a.code a.held ∷ []) (reply code.KafkaStorageError None ∷ []) kept

  settled_leaves : (co : Coordinator) (a : Answered) (settled : Settled)
      → Goes co (on_settled co store a settled).0
  settled_leaves co a Ignored = rests co
  settled_leaves co a Noted = rests co
  settled_leaves co a (Completes row) = writes_leave co (Written row) [] [] (λ e. refl)

  marker_reply_leaves : (co : Coordinator) (a : Answered) (code : ErrorCode)
      → Goes co (on_marker_reply co store a code).0
  marker_reply_leaves co a code.NoError =
      settled_leaves co a (settle (notes_of co) co.answered a)
  marker_reply_leaves co a code = rests co

  takes_leave : (co : Coordinator) (m : Message) → Goes co (coordinator_takes co store m).0
  takes_leave co (msg.InitProducerId it) =
      let a = init (notes_of co) it.caller.client it.txn it.timeout in
      replies_leave co a (the.InitReply it.caller) a.note
      (init_fine (notes_of co) it.caller.client it.txn it.timeout)
  takes_leave co (msg.EndTxn it) =
      let a = end_txn (notes_of co) it.txn it.held it.outcome in
      replies_leave co a (the.EndReply it.caller) a.note
      (end_at_fine (notes_of co) (row_of (notes_of co) it.txn) it.held it.outcome)
  takes_leave co (msg.AddPartition it) =
      let a = add (notes_of co) co.clock it.txn it.held it.partition in
      replies_leave co a (λ code after. the.AddReply it.partition it.txn it.held code) a.note
      (add_at_fine co.clock (row_of (notes_of co) it.txn) it.held it.partition)
  takes_leave co (msg.MarkerReply it) =
      marker_reply_leaves co
      (record { txn = it.txn; held = it.held; partition = it.partition }) it.code
  takes_leave co m = rests co

  expires_leave : (co : Coordinator) (row : Option Row) → Goes co (expires_row co store row).0
  expires_leave co None = rests co
  expires_leave co (Some row) = writes_leave co (Written row) [] [] (λ e. refl)

  pub coordinator_leaves : (co : Coordinator) (input : Input) → IsPlain input
      → Leaves KeepsEpoch store co.disk (coordinator_step co store input).state.disk
  coordinator_leaves co (Comes m) plain = takes_leave co m
  coordinator_leaves co (Expires now) plain =
      expires_leave (record co { clock = max co.clock now }) (expire (notes_of co) now)
  coordinator_leaves co Reminds plain = rests co
  coordinator_leaves co (Commands what) plain = rests co
  coordinator_leaves co (Drops group member) plain = rests co
  coordinator_leaves co (Puts value more) plain = rests co
  coordinator_leaves co (Restarts now) plain = absurd plain
