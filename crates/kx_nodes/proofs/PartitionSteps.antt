-- Two partitions that differ at most by what stands behind their logs, after the same step but a
-- restart, with stores that may do different things.
use Rattle.std.proofs.Common.{◌≡◌, ℕ, Bool, List, [], ◌∷◌, ◌++◌, Option, Some, None, refl}
use Rattle.std.proofs.Common.{sym, ap, subst, pos, negsuc, true, false, Err}
use Rattle.std.specs.Prelude.{◌==◌, not, if◌then◌else◌}
use Rattle.kx_message.specs.Ranges.{offsets_partition}
use Rattle.kx_message.specs.declared.code.ErrorCode.{ErrorCode}
use Rattle.kx_message.specs.declared.code.ErrorCode.TheVariants as code
use Rattle.kx_message.specs.declared.message.Held.{Held}
use Rattle.kx_message.specs.declared.message.Message.{Message}
use Rattle.kx_message.specs.declared.message.Message.TheVariants as msg
use Rattle.kx_message.specs.Messages as the
use Rattle.kx_model.specs.Disk.{Disk, Store, works}
use Rattle.kx_model.specs.Groups.{Membership, Already, Refuses, Changes, judge_drop, judge_join}
use Rattle.kx_model.specs.Groups.{judge_leave, membership_text}
use Rattle.kx_model.specs.Log.{Marker, Stored}
use Rattle.kx_model.specs.PartitionNode.{Partition, Served, Taken, answers_request, appends, at_end}
use Rattle.kx_model.specs.PartitionNode.{changed, data_takes, entries_of, join_reply, marked_with}
use Rattle.kx_model.specs.PartitionNode.{marker_of, node_takes, offsets_takes, on_add_reply}
use Rattle.kx_model.specs.PartitionNode.{fetch_reply, on_fetch, on_marker, on_request, parks}
use Rattle.kx_model.specs.PartitionNode.{partition_takes, puts}
use Rattle.kx_model.specs.PartitionNode.{refused_produce, replied, resumes, taken}
use Rattle.kx_model.specs.Produce.{Appends, Answers, MarkerVerdict, Verdict, Next, Duplicate}
use Rattle.kx_model.specs.Produce.{Unverified, Refused, judge_marker, judge_text, stored_at}
use Rattle.kx_model.specs.Produce.{text_of}
use Rattle.kx_model.specs.Step.{Coded, Comes, Done, Drops, NodeStep, PutAt, Puts}
use Rattle.kx_model.specs.Step.{partition_step, plain_text, serves}
use Rattle.kx_model.specs.Verification.{Parked, Request, judge_request, pair_of, parked_for}
use Rattle.kx_model.specs.Verification.{request_of, without}
use Rattle.kx_nodes.proofs.Disks.{Alike, Apart, Append, Compared, MayHide, append}
use Rattle.kx_nodes.proofs.Disks.{append_compared, append_disk, append_hiding, behind, by_test}
use Rattle.kx_nodes.proofs.Disks.{mapped}
use Rattle.kx_nodes.proofs.Leaving.{still, was_open}
use Rattle.kx_nodes.proofs.PartitionLeaves.{Any, answers_leave}

-- the partition, with this behind its log
abbrev pub but : Partition → Option Stored → Partition
but p hidden = record p { disk = behind p.disk hidden }

abbrev MayBe : Partition → Option Stored → Type 0
MayBe p hidden = MayHide p.disk hidden

abbrev taken_disk : Taken → Disk Stored
taken_disk t = t.partition.disk

abbrev taken_hiding : Taken → Option Stored → Taken
taken_hiding t hidden = record t { partition = but t.partition hidden }

abbrev Takens : Partition → Store → Store → Taken → Taken → Type 0
Takens p store other one two = Compared taken_disk taken_hiding p.disk store other one two

abbrev served_disk : Served → Disk Stored
served_disk s = s.0.disk

abbrev served_hiding : Served → Option Stored → Served
served_hiding s hidden = (but s.0 hidden, s.1)

abbrev Serveds : Partition → Store → Store → Served → Served → Type 0
Serveds p store other one two = Compared served_disk served_hiding p.disk store other one two

abbrev pub step_disk : NodeStep Partition → Disk Stored
step_disk s = s.state.disk

abbrev pub step_hiding : NodeStep Partition → Option Stored → NodeStep Partition
step_hiding s hidden = record s { state = but s.state hidden }

abbrev pub Steps : Partition → Store → Store → NodeStep Partition → NodeStep Partition → Type 0
Steps p store other one two = Compared step_disk step_hiding p.disk store other one two

-- a reply to what was taken
served_by : (f : Taken → Served) → ((t : Taken) → served_disk (f t) ≡ taken_disk t)
    → ((t : Taken) (hidden : Option Stored)
    → f (taken_hiding t hidden) ≡ served_hiding (f t) hidden)
    → (p : Partition) (store other : Store) (one two : Taken) → Takens p store other one two
    → Serveds p store other (f one) (f two)
served_by f same commutes p store other one two are =
    mapped taken_disk taken_hiding served_disk served_hiding f same commutes p.disk store other one
    two are

-- what an append leaves of a partition
abbrev appended_to : Partition → Append Stored → Taken
appended_to p w = record {
  partition = record p { disk = w.0 };
  code = if w.1 then code.NoError else code.KafkaStorageError;
  offset = if w.1 then pos (at_end p) else negsuc 0;
}

module _ (number : ℕ) (store other : Store) where
  appends_alike : (p : Partition) (hidden : Option Stored) (text : List ℕ) → MayBe p hidden
      → Takens p store other (appends p store text) (appends (but p hidden) other text)
  appends_alike p hidden text may =
      let item = stored_at (at_end p) text in
      mapped append_disk append_hiding taken_disk taken_hiding (appended_to p) (λ r. refl)
      (λ r h. refl) p.disk store other (append p.disk store item)
      (append (behind p.disk hidden) other item)
      (append_compared p.disk hidden store other item may)

  taken_alike : (p : Partition) (hidden : Option Stored) (text : List ℕ) (verdict : Verdict)
      → MayBe p hidden
      → Takens p store other (taken p store text verdict) (taken (but p hidden) other text verdict)
  taken_alike p hidden text Next may = appends_alike p hidden text may
  taken_alike p hidden text (Duplicate offset) may = Alike hidden refl may
  taken_alike p hidden text Unverified may = Alike hidden refl may
  taken_alike p hidden text (Refused code) may = Alike hidden refl may

  puts_alike : (p : Partition) (hidden : Option Stored) (text : List ℕ) → MayBe p hidden
      → Takens p store other (puts p store text) (puts (but p hidden) other text)
  puts_alike p hidden text may =
      taken_alike p hidden text (judge_text (entries_of p) true text) may

  ------ requests

  parks_alike : (p : Partition) (hidden : Option Stored) (r : Request) (txn : Option (List ℕ))
      (held : Option Held) → MayBe p hidden
      → Serveds p store other (parks number p r txn held) (parks number (but p hidden) r txn held)
  parks_alike p hidden r (Some txn) (Some held) may = Alike hidden refl may
  parks_alike p hidden r (Some txn) None may = Alike hidden refl may
  parks_alike p hidden r None held may = Alike hidden refl may

  answers_alike : (p : Partition) (hidden : Option Stored) (r : Request) (verdict : Verdict)
      → MayBe p hidden
      → Serveds p store other (answers_request number p store r verdict)
      (answers_request number (but p hidden) other r verdict)
  answers_alike p hidden r Next may =
      served_by (replied r) (λ t. refl) (λ t h. refl) p store other (taken p store r.text Next)
      (taken (but p hidden) other r.text Next) (taken_alike p hidden r.text Next may)
  answers_alike p hidden r (Duplicate offset) may = Alike hidden refl may
  answers_alike p hidden r Unverified may = parks_alike p hidden r r.txn (pair_of r) may
  answers_alike p hidden r (Refused code) may = Alike hidden refl may

  request_alike : (p : Partition) (hidden : Option Stored) (r : Option Request) → MayBe p hidden
      → Serveds p store other (on_request number p store r)
      (on_request number (but p hidden) other r)
  request_alike p hidden None may = Alike hidden refl may
  request_alike p hidden (Some r) may =
      answers_alike p hidden r (judge_request (entries_of p) false r) may

------ requests that are parked

module _ (number : ℕ) (store : Store) where
  -- the verdict on a request that was verified
  abbrev again : Partition → Parked → Verdict
  again p parked = judge_request (entries_of p) true parked.request

  abbrev first : Partition → Parked → Served
  first p parked = answers_request number p store parked.request (again p parked)

  resumes_still : (p : Partition) (parked : List Parked) → p.disk.closed ≡ not (works store)
      → (resumes number p store parked).0.disk.closed ≡ not (works store)
  resumes_still p [] is = is
  resumes_still p (parked ∷ rest) is =
      resumes_still (first p parked).0 rest
      (still Any store p.disk (first p parked).0.disk
      (answers_leave number store p parked.request (again p parked)) is)

-- the others run behind the first one
abbrev behind_first : Served → Served → Served
behind_first one more = (more.0, one.1 ++ more.1)

module _ (number : ℕ) (store other : Store) where
  abbrev Resume : List Parked → Type 0
  Resume rest = (p : Partition) (hidden : Option Stored) → MayBe p hidden
      → Serveds p store other (resumes number p store rest)
      (resumes number (but p hidden) other rest)

  -- the rest, behind a first one that is alike
  rest_alike : (p : Partition) (rest : List Parked) (one : Served) (hidden : Option Stored)
      → (one.0.disk.closed ≡ false → p.disk.closed ≡ false)
      → Serveds one.0 store other (resumes number one.0 store rest)
      (resumes number (but one.0 hidden) other rest)
      → Serveds p store other (behind_first one (resumes number one.0 store rest))
      (behind_first (served_hiding one hidden) (resumes number (but one.0 hidden) other rest))
  rest_alike p rest one hidden was (Alike h e may) = Alike h (ap (behind_first one) e) may
  rest_alike p rest one hidden was (Apart opened a b differ) = Apart (was opened) a b differ

  rest_compared : (p : Partition) (rest : List Parked) → Resume rest → (one two : Served)
      → (one.0.disk.closed ≡ false → p.disk.closed ≡ false) → Serveds p store other one two
      → Serveds p store other (behind_first one (resumes number one.0 store rest))
      (behind_first two (resumes number two.0 other rest))
  rest_compared p rest more one two was (Alike hidden e may) =
      subst (λ (s : Served). Serveds p store other
      (behind_first one (resumes number one.0 store rest))
      (behind_first s (resumes number s.0 other rest))) (sym e)
      (rest_alike p rest one hidden was (more one.0 hidden may))
  rest_compared p rest more one two was (Apart opened a b differ) =
      Apart opened (resumes_still number store one.0 rest a)
      (resumes_still number other two.0 rest b) differ

  resumes_alike : (parked : List Parked) → Resume parked
  resumes_alike [] p hidden may = Alike hidden refl may
  resumes_alike (parked ∷ rest) p hidden may =
      let r = parked.request in
      let verdict = judge_request (entries_of p) true r in
      let one = answers_request number p store r verdict in
      let two = answers_request number (but p hidden) other r verdict in
      rest_compared p rest (resumes_alike rest) one two
      (was_open Any store p.disk one.0.disk (answers_leave number store p r verdict))
      (answers_alike number store other p hidden r verdict may)

  add_reply_alike : (p : Partition) (hidden : Option Stored) (held : Held) (code : ErrorCode)
      → MayBe p hidden
      → Serveds p store other (on_add_reply number p store held code)
      (on_add_reply number (but p hidden) other held code)
  add_reply_alike p hidden held code.NoError may =
      resumes_alike (parked_for p.parked held) (record p { parked = without p.parked held }) hidden
      may
  add_reply_alike p hidden held code may = Alike hidden refl may

  ------ markers and groups

  marked_alike : (p : Partition) (hidden : Option Stored) (marker : Marker)
      (verdict : MarkerVerdict) → MayBe p hidden
      → Takens p store other (marked_with p store marker verdict)
      (marked_with (but p hidden) other marker verdict)
  marked_alike p hidden marker (Answers code) may = Alike hidden refl may
  marked_alike p hidden marker Appends may =
      appends_alike number store other p hidden (text_of marker) may

  marker_alike : (p : Partition) (hidden : Option Stored) (txn : List ℕ) (held : Held)
      (marker : Marker) → MayBe p hidden
      → Serveds p store other (on_marker number p store txn held marker)
      (on_marker number (but p hidden) other txn held marker)
  marker_alike p hidden txn held marker may =
      let verdict = judge_marker (entries_of p) marker in
      served_by (λ t. (t.partition, the.MarkerReply number txn held t.code ∷ [])) (λ t. refl)
      (λ t h. refl) p store other (marked_with p store marker verdict)
      (marked_with (but p hidden) other marker verdict) (marked_alike p hidden marker verdict may)

  pub changed_alike : (p : Partition) (hidden : Option Stored) (membership : Membership)
      → MayBe p hidden
      → Takens p store other (changed p store membership)
      (changed (but p hidden) other membership)
  changed_alike p hidden Already may = Alike hidden refl may
  changed_alike p hidden (Refuses code) may = Alike hidden refl may
  changed_alike p hidden (Changes fact) may =
      puts_alike number store other p hidden (membership_text fact) may

  ------ messages

  takes_alike : (p : Partition) (hidden : Option Stored) (m : Message) → MayBe p hidden
      → Serveds p store other (partition_takes number p store m)
      (partition_takes number (but p hidden) other m)
  takes_alike p hidden (msg.AddReply it) may =
      by_test (it.partition == number) (λ b. Serveds p store other
      (if b then on_add_reply number p store it.held it.code else (p, []))
      (if b then on_add_reply number (but p hidden) other it.held it.code else (but p hidden, [])))
      (add_reply_alike p hidden it.held it.code may) (Alike hidden refl may)
  takes_alike p hidden (msg.WriteMarker it) may =
      let marker = marker_of it.held it.coordinator_epoch it.outcome in
      by_test (it.partition == number) (λ b. Serveds p store other
      (if b then on_marker number p store it.txn it.held marker else (p, []))
      (if b then on_marker number (but p hidden) other it.txn it.held marker
      else (but p hidden, [])))
      (marker_alike p hidden it.txn it.held marker may) (Alike hidden refl may)
  takes_alike p hidden (msg.Fetch it) may =
      by_test (it.partition == number) (λ b. Serveds p store other
      (if b then on_fetch number p it.caller it.from it.max it.committed
      else (p, fetch_reply it.caller it.partition (Err code.UnknownTopicOrPartition) ∷ []))
      (if b then on_fetch number (but p hidden) it.caller it.from it.max it.committed
      else (
        but p hidden,
        fetch_reply it.caller it.partition (Err code.UnknownTopicOrPartition) ∷ [],
      )))
      (Alike hidden refl may) (Alike hidden refl may)
  takes_alike p hidden m may = Alike hidden refl may

  data_alike : (p : Partition) (hidden : Option Stored) (m : Message) → MayBe p hidden
      → Serveds p store other (data_takes number p store m)
      (data_takes number (but p hidden) other m)
  data_alike p hidden (msg.Produce it) may =
      let r = request_of (msg.Produce it) in
      by_test (it.partition == number) (λ b. Serveds p store other
      (if b then on_request number p store r
      else (p, refused_produce it.caller it.partition ∷ []))
      (if b then on_request number (but p hidden) other r
      else (but p hidden, refused_produce it.caller it.partition ∷ [])))
      (request_alike number store other p hidden r may) (Alike hidden refl may)
  data_alike p hidden m may = takes_alike p hidden m may

-- the offsets partition
module _ (store other : Store) where
  offsets_alike : (p : Partition) (hidden : Option Stored) (m : Message) → MayBe p hidden
      → Serveds p store other (offsets_takes p store m) (offsets_takes (but p hidden) other m)
  offsets_alike p hidden (msg.TxnOffsetCommit it) may =
      request_alike offsets_partition store other p hidden (request_of (msg.TxnOffsetCommit it)) may
  offsets_alike p hidden (msg.Join it) may =
      let membership = judge_join (entries_of p) it.group it.caller.client in
      served_by (λ t. (
        t.partition,
        join_reply it.caller it.group (entries_of t.partition) t.code ∷ [],
      ))
      (λ t. refl) (λ t h. refl) p store other (changed p store membership)
      (changed (but p hidden) other membership)
      (changed_alike offsets_partition store other p hidden membership may)
  offsets_alike p hidden (msg.Leave it) may =
      let membership = judge_leave (entries_of p) it.group it.caller.client in
      served_by (λ t. (t.partition, the.LeaveReply it.caller t.code ∷ []))
      (λ t. refl) (λ t h. refl) p store other (changed p store membership)
      (changed (but p hidden) other membership)
      (changed_alike offsets_partition store other p hidden membership may)
  offsets_alike p hidden (msg.OffsetFetch it) may = Alike hidden refl may
  offsets_alike p hidden (msg.Produce it) may =
      by_test (it.partition == offsets_partition) (λ b. Serveds p store other
      (if b then (p, []) else (p, refused_produce it.caller it.partition ∷ []))
      (if b then (but p hidden, [])
      else (but p hidden, refused_produce it.caller it.partition ∷ [])))
      (Alike hidden refl may) (Alike hidden refl may)
  offsets_alike p hidden m may = takes_alike offsets_partition store other p hidden m may

-- a drop, and a batch that is put, by whether the partition is that of offsets
abbrev dropped_by : Bool → Partition → Taken → NodeStep Partition
dropped_by offsets p t = record {
  state = if offsets then t.partition else p;
  messages = [];
  note = if offsets then Coded t.code else Done;
}

abbrev put_by : Bool → Partition → Taken → NodeStep Partition
put_by offsets p t = record {
  state = if offsets then p else t.partition;
  messages = [];
  note = if offsets then Done else PutAt t.code t.offset;
}

module _ (number : ℕ) (store other : Store) where
  node_alike : (p : Partition) (hidden : Option Stored) (m : Message) → MayBe p hidden
      → Serveds p store other (node_takes number p store m)
      (node_takes number (but p hidden) other m)
  node_alike p hidden m may =
      by_test (number == offsets_partition) (λ b. Serveds p store other
      (if b then offsets_takes p store m else data_takes number p store m)
      (if b then offsets_takes (but p hidden) other m
      else data_takes number (but p hidden) other m))
      (offsets_alike store other p hidden m may) (data_alike number store other p hidden m may)

  ------ steps

  pub comes_alike : (p : Partition) (hidden : Option Stored) (m : Message) → MayBe p hidden
      → Steps p store other (partition_step number p store (Comes m))
      (partition_step number (but p hidden) other (Comes m))
  comes_alike p hidden m may =
      mapped served_disk served_hiding step_disk step_hiding (λ s. serves s.0 s.1) (λ s. refl)
      (λ s h. refl) p.disk store other (node_takes number p store m)
      (node_takes number (but p hidden) other m) (node_alike p hidden m may)

  pub drops_alike : (p : Partition) (hidden : Option Stored) (group : List ℕ) (member : ℕ)
      → MayBe p hidden
      → Steps p store other (partition_step number p store (Drops group member))
      (partition_step number (but p hidden) other (Drops group member))
  drops_alike p hidden group member may =
      let membership = judge_drop (entries_of p) group member in
      let one = changed p store membership in
      let two = changed (but p hidden) other membership in
      by_test (number == offsets_partition) (λ b. Steps p store other
      (dropped_by b p one) (dropped_by b (but p hidden) two))
      (mapped taken_disk taken_hiding step_disk step_hiding
      (λ t. record { state = t.partition; messages = []; note = Coded t.code }) (λ t. refl)
      (λ t h. refl) p.disk store other one two
      (changed_alike number store other p hidden membership may))
      (Alike hidden refl may)

  pub puts_step_alike : (p : Partition) (hidden : Option Stored) (value : List ℕ)
      (more : List (List ℕ)) → MayBe p hidden
      → Steps p store other (partition_step number p store (Puts value more))
      (partition_step number (but p hidden) other (Puts value more))
  puts_step_alike p hidden value more may =
      let text = plain_text (value ∷ more) in
      let one = puts p store text in
      let two = puts (but p hidden) other text in
      by_test (number == offsets_partition) (λ b. Steps p store other
      (put_by b p one) (put_by b (but p hidden) two))
      (Alike hidden refl may)
      (mapped taken_disk taken_hiding step_disk step_hiding
      (λ t. record { state = t.partition; messages = []; note = PutAt t.code t.offset }) (λ t. refl)
      (λ t h. refl) p.disk store other one two (puts_alike number store other p hidden text may))
