-- What a partition's step but a restart leaves of its log.
use Rattle.std.proofs.Common.{ℕ, List, [], ◌∷◌, Option, Some, None, Err, true, false}
use Rattle.std.specs.Prelude.{◌==◌, if◌then◌else◌}
use Rattle.kx_message.specs.Ranges.{offsets_partition}
use Rattle.kx_message.specs.declared.code.ErrorCode.{ErrorCode}
use Rattle.kx_message.specs.declared.code.ErrorCode.TheVariants as code
use Rattle.kx_message.specs.declared.message.Held.{Held}
use Rattle.kx_message.specs.declared.message.Message.{Message}
use Rattle.kx_message.specs.declared.message.Message.TheVariants as msg
use Rattle.kx_model.specs.Disk.{Store}
use Rattle.kx_model.specs.Groups.{Membership, Already, Refuses, Changes, judge_drop, judge_join}
use Rattle.kx_model.specs.Groups.{judge_leave, membership_text}
use Rattle.kx_model.specs.Log.{Marker, Stored}
use Rattle.kx_model.specs.PartitionNode.{Partition, Served, answers_request, at_end, changed}
use Rattle.kx_model.specs.PartitionNode.{data_takes, entries_of, fetch_reply, marked_with}
use Rattle.kx_model.specs.PartitionNode.{marker_of, offsets_takes, on_add_reply}
use Rattle.kx_model.specs.PartitionNode.{on_fetch, on_marker, on_request, parks, partition_takes}
use Rattle.kx_model.specs.PartitionNode.{puts, refused_produce, resumes, taken}
use Rattle.kx_model.specs.Produce.{Appends, Answers, MarkerVerdict, Verdict, Next, Duplicate}
use Rattle.kx_model.specs.Produce.{Unverified, Refused, judge_marker, judge_text, stored_at}
use Rattle.kx_model.specs.Produce.{text_of}
use Rattle.kx_model.specs.Step.{Input, Comes, Commands, Expires, Reminds, Drops, Puts, Restarts}
use Rattle.kx_model.specs.Step.{partition_step, plain_text}
use Rattle.kx_model.specs.Verification.{Parked, Request, judge_request, pair_of, parked_for}
use Rattle.kx_model.specs.Verification.{request_of, without}
use Rattle.kx_nodes.proofs.Disks.{by_test}
use Rattle.kx_nodes.proofs.Leaving.{IsPlain, Leaves, append_leaves, keeps, leaves_both}

-- a partition may fail to append any batch
abbrev pub Any : Stored → Type 0
Any batch = Unit {0}

module _ (number : ℕ) (store : Store) where
  abbrev Goes : Partition → Partition → Type 0
  Goes p after = Leaves Any store p.disk after.disk

  rests : (p : Partition) → Goes p p
  rests p = keeps Any store p.disk

  appends_leave : (p : Partition) (text : List ℕ)
      → Goes p (taken p store text Next).partition
  appends_leave p text = append_leaves Any store p.disk (stored_at (at_end p) text) tt

  taken_leave : (p : Partition) (text : List ℕ) (verdict : Verdict)
      → Goes p (taken p store text verdict).partition
  taken_leave p text Next = appends_leave p text
  taken_leave p text (Duplicate offset) = rests p
  taken_leave p text Unverified = rests p
  taken_leave p text (Refused code) = rests p

  puts_leave : (p : Partition) (text : List ℕ) → Goes p (puts p store text).partition
  puts_leave p text = taken_leave p text (judge_text (entries_of p) true text)

  ------ requests

  parks_leave : (p : Partition) (r : Request) (txn : Option (List ℕ)) (held : Option Held)
      → Goes p (parks number p r txn held).0
  parks_leave p r (Some txn) (Some held) = rests p
  parks_leave p r (Some txn) None = rests p
  parks_leave p r None held = rests p

  pub answers_leave : (p : Partition) (r : Request) (verdict : Verdict)
      → Goes p (answers_request number p store r verdict).0
  answers_leave p r Next = appends_leave p r.text
  answers_leave p r (Duplicate offset) = rests p
  answers_leave p r Unverified = parks_leave p r r.txn (pair_of r)
  answers_leave p r (Refused code) = rests p

  request_leaves : (p : Partition) (r : Option Request) → Goes p (on_request number p store r).0
  request_leaves p None = rests p
  request_leaves p (Some r) = answers_leave p r (judge_request (entries_of p) false r)

  resumes_leave : (p : Partition) (parked : List Parked) → Goes p (resumes number p store parked).0
  resumes_leave p [] = rests p
  resumes_leave p (parked ∷ rest) =
      let r = parked.request in
      let verdict = judge_request (entries_of p) true r in
      let one = answers_request number p store r verdict in
      leaves_both Any store p.disk one.0.disk (resumes number one.0 store rest).0.disk
      (answers_leave p r verdict) (resumes_leave one.0 rest)

  add_reply_leaves : (p : Partition) (held : Held) (code : ErrorCode)
      → Goes p (on_add_reply number p store held code).0
  add_reply_leaves p held code.NoError =
      resumes_leave (record p { parked = without p.parked held }) (parked_for p.parked held)
  add_reply_leaves p held code = rests p

  ------ markers and groups

  marked_leaves : (p : Partition) (marker : Marker) (verdict : MarkerVerdict)
      → Goes p (marked_with p store marker verdict).partition
  marked_leaves p marker (Answers code) = rests p
  marked_leaves p marker Appends = appends_leave p (text_of marker)

  changed_leaves : (p : Partition) (membership : Membership)
      → Goes p (changed p store membership).partition
  changed_leaves p Already = rests p
  changed_leaves p (Refuses code) = rests p
  changed_leaves p (Changes fact) = puts_leave p (membership_text fact)

  ------ messages

  takes_leave : (p : Partition) (m : Message) → Goes p (partition_takes number p store m).0
  takes_leave p (msg.AddReply it) =
      by_test (it.partition == number)
      (λ b. Goes p (if b then on_add_reply number p store it.held it.code else (p, [])).0)
      (add_reply_leaves p it.held it.code) (rests p)
  takes_leave p (msg.WriteMarker it) =
      let marker = marker_of it.held it.coordinator_epoch it.outcome in
      by_test (it.partition == number)
      (λ b. Goes p (if b then on_marker number p store it.txn it.held marker else (p, [])).0)
      (marked_leaves p marker (judge_marker (entries_of p) marker)) (rests p)
  takes_leave p (msg.Fetch it) =
      by_test (it.partition == number)
      (λ b. Goes p (if b then on_fetch number p it.caller it.from it.max it.committed
      else (p, fetch_reply it.caller it.partition (Err code.UnknownTopicOrPartition) ∷ [])).0)
      (rests p) (rests p)
  takes_leave p m = rests p

  data_leaves : (p : Partition) (m : Message) → Goes p (data_takes number p store m).0
  data_leaves p (msg.Produce it) =
      let r = request_of (msg.Produce it) in
      by_test (it.partition == number) (λ b. Goes p (if b then on_request number p store r
      else (p, refused_produce it.caller it.partition ∷ [])).0)
      (request_leaves p r) (rests p)
  data_leaves p m = takes_leave p m

-- the offsets partition
module _ (store : Store) where
  abbrev Serves : Partition → Served → Type 0
  Serves p served = Leaves Any store p.disk served.0.disk

  offsets_leave : (p : Partition) (m : Message) → Serves p (offsets_takes p store m)
  offsets_leave p (msg.TxnOffsetCommit it) =
      request_leaves offsets_partition store p (request_of (msg.TxnOffsetCommit it))
  offsets_leave p (msg.Join it) =
      changed_leaves offsets_partition store p
      (judge_join (entries_of p) it.group it.caller.client)
  offsets_leave p (msg.Leave it) =
      changed_leaves offsets_partition store p
      (judge_leave (entries_of p) it.group it.caller.client)
  offsets_leave p (msg.OffsetFetch it) = keeps Any store p.disk
  offsets_leave p (msg.Produce it) =
      by_test (it.partition == offsets_partition) (λ b. Serves p (if b then (p, [])
      else (p, refused_produce it.caller it.partition ∷ [])))
      (keeps Any store p.disk) (keeps Any store p.disk)
  offsets_leave p m = takes_leave offsets_partition store p m

module _ (number : ℕ) (store : Store) where
  pub partition_leaves : (p : Partition) (input : Input) → IsPlain input
      → Leaves Any store p.disk (partition_step number p store input).state.disk
  partition_leaves p (Comes m) plain =
      by_test (number == offsets_partition) (λ b. Leaves Any store p.disk
      (if b then offsets_takes p store m else data_takes number p store m).0.disk)
      (offsets_leave store p m) (data_leaves number store p m)
  partition_leaves p (Drops group member) plain =
      let membership = judge_drop (entries_of p) group member in
      by_test (number == offsets_partition) (λ b. Leaves Any store p.disk
      (if b then (changed p store membership).partition else p).disk)
      (changed_leaves number store p membership) (keeps Any store p.disk)
  partition_leaves p (Puts value more) plain =
      let text = plain_text (value ∷ more) in
      by_test (number == offsets_partition) (λ b. Leaves Any store p.disk
      (if b then p else (puts p store text).partition).disk)
      (keeps Any store p.disk) (puts_leave number store p text)
  partition_leaves p (Commands what) plain = keeps Any store p.disk
  partition_leaves p (Expires now) plain = keeps Any store p.disk
  partition_leaves p Reminds plain = keeps Any store p.disk
  partition_leaves p (Restarts now) plain = absurd plain
