-- Two coordinators that differ at most by what stands behind their logs, after the same step but a
-- restart, with stores that may do different things.
use Rattle.std.proofs.Common.{◌≡◌, ℕ, max, Bool, false, List, [], ◌∷◌, ◌++◌, Option}
use Rattle.std.proofs.Common.{Some, None, refl}
use Rattle.std.specs.Prelude.{◌&&◌, not, if◌then◌else◌}
use Rattle.kx_message.specs.declared.code.ErrorCode.{ErrorCode}
use Rattle.kx_message.specs.declared.code.ErrorCode.TheVariants as code
use Rattle.kx_message.specs.declared.message.Message.{Message}
use Rattle.kx_message.specs.declared.message.Message.TheVariants as msg
use Rattle.kx_message.specs.Messages as the
use Rattle.kx_model.specs.Coordinator.{TxnEntry, Row, Written, coordinator_epoch}
use Rattle.kx_model.specs.CoordinatorNode.{Coordinator, Coordinated, Reply, completes}
use Rattle.kx_model.specs.CoordinatorNode.{coordinator_takes, expires, expires_row, has_no_id}
use Rattle.kx_model.specs.CoordinatorNode.{notes_of, on_marker_reply, on_settled, replies, writes}
use Rattle.kx_model.specs.Disk.{Disk, Store}
use Rattle.kx_model.specs.Markers.{Answered, Settled, Ignored, Noted, Completes, expire}
use Rattle.kx_model.specs.Markers.{markers_after, settle, without_row}
use Rattle.kx_model.specs.Requests.{Answer, add, end_txn, init}
use Rattle.kx_model.specs.Step.{Comes, Done, Expires, NodeStep, coordinates}
use Rattle.kx_model.specs.Step.{coordinator_step}
use Rattle.kx_nodes.proofs.Disks.{Alike, Append, Compared, MayHide, append, append_compared}
use Rattle.kx_nodes.proofs.Disks.{append_disk, append_hiding, behind, by_test, mapped}

-- the coordinator, with this behind its log
abbrev pub but : Coordinator → Option TxnEntry → Coordinator
but co hidden = record co { disk = behind co.disk hidden }

abbrev MayBe : Coordinator → Option TxnEntry → Type 0
MayBe co hidden = MayHide co.disk hidden

abbrev done_disk : Coordinated → Disk TxnEntry
done_disk s = s.0.disk

abbrev done_hiding : Coordinated → Option TxnEntry → Coordinated
done_hiding s hidden = (but s.0 hidden, s.1)

abbrev Dones : Coordinator → Store → Store → Coordinated → Coordinated → Type 0
Dones co store other one two = Compared done_disk done_hiding co.disk store other one two

abbrev pub step_disk : NodeStep Coordinator → Disk TxnEntry
step_disk s = s.state.disk

abbrev pub step_hiding : NodeStep Coordinator → Option TxnEntry → NodeStep Coordinator
step_hiding s hidden = record s { state = but s.state hidden }

abbrev pub Steps : Coordinator → Store → Store → NodeStep Coordinator → NodeStep Coordinator
    → Type 0
Steps co store other one two = Compared step_disk step_hiding co.disk store other one two

-- what is written, by whether the entry is not to be, and by what appending it leaves
abbrev written_by : Bool → Coordinator → List Message → List Message → Append TxnEntry → Coordinated
written_by barred co done failed w = (
  record co { disk = if barred then co.disk else w.0 },
  if not barred && w.1 then done else failed,
)

-- a row that is complete
abbrev completed_by : Bool → Coordinator → Row → List Message → Append TxnEntry → Coordinated
completed_by barred co row done w = (
  record (written_by barred co done [] w).0 {
    answered = if not barred && w.1 then without_row co.answered row else co.answered;
  },
  (written_by barred co done [] w).1,
)

module _ (store other : Store) where
  -- what is made of the append of an entry
  appended_by : (co : Coordinator) (hidden : Option TxnEntry) (note : TxnEntry)
      (f : Append TxnEntry → Coordinated) → ((w : Append TxnEntry) → done_disk (f w) ≡ w.0)
      → ((w : Append TxnEntry) (h : Option TxnEntry) → f (append_hiding w h) ≡ done_hiding (f w) h)
      → MayBe co hidden
      → Dones co store other (f (append co.disk store note))
      (f (append (behind co.disk hidden) other note))
  appended_by co hidden note f same commutes may =
      mapped append_disk append_hiding done_disk done_hiding f same commutes co.disk store other
      (append co.disk store note) (append (behind co.disk hidden) other note)
      (append_compared co.disk hidden store other note may)

  writes_alike : (co : Coordinator) (hidden : Option TxnEntry) (note : TxnEntry)
      (done failed : List Message) → MayBe co hidden
      → Dones co store other (writes co store note done failed)
      (writes (but co hidden) other note done failed)
  writes_alike co hidden note done failed may =
      let all = done ++ markers_after (coordinator_epoch (notes_of co)) note in
      by_test (has_no_id note) (λ b. Dones co store other
      (written_by b co all failed (append co.disk store note))
      (written_by b (but co hidden) all failed (append (behind co.disk hidden) other note)))
      (Alike hidden refl may)
      (appended_by co hidden note (written_by false co all failed) (λ w. refl) (λ w h. refl) may)

  replies_alike : (co : Coordinator) (hidden : Option TxnEntry) (a : Answer) (reply : Reply)
      (note : Option TxnEntry) → MayBe co hidden
      → Dones co store other (replies co store a reply note)
      (replies (but co hidden) other a reply note)
  replies_alike co hidden a reply None may = Alike hidden refl may
  replies_alike co hidden a reply (Some note) may =
      writes_alike co hidden note (reply a.code a.held ∷ [])
      (reply code.KafkaStorageError None ∷ []) may

  completes_alike : (co : Coordinator) (hidden : Option TxnEntry) (row : Row) → MayBe co hidden
      → Dones co store other (completes co store row) (completes (but co hidden) other row)
  completes_alike co hidden row may =
      let note = Written row in
      let all = [] ++ markers_after (coordinator_epoch (notes_of co)) note in
      by_test (has_no_id note) (λ b. Dones co store other
      (completed_by b co row all (append co.disk store note))
      (completed_by b (but co hidden) row all (append (behind co.disk hidden) other note)))
      (Alike hidden refl may)
      (appended_by co hidden note (completed_by false co row all) (λ w. refl) (λ w h. refl) may)

  settled_alike : (co : Coordinator) (hidden : Option TxnEntry) (a : Answered) (settled : Settled)
      → MayBe co hidden
      → Dones co store other (on_settled co store a settled)
      (on_settled (but co hidden) other a settled)
  settled_alike co hidden a Ignored may = Alike hidden refl may
  settled_alike co hidden a Noted may = Alike hidden refl may
  settled_alike co hidden a (Completes row) may = completes_alike co hidden row may

  marker_reply_alike : (co : Coordinator) (hidden : Option TxnEntry) (a : Answered)
      (code : ErrorCode) → MayBe co hidden
      → Dones co store other (on_marker_reply co store a code)
      (on_marker_reply (but co hidden) other a code)
  marker_reply_alike co hidden a code.NoError may =
      settled_alike co hidden a (settle (notes_of co) co.answered a) may
  marker_reply_alike co hidden a code may = Alike hidden refl may

  takes_alike : (co : Coordinator) (hidden : Option TxnEntry) (m : Message) → MayBe co hidden
      → Dones co store other (coordinator_takes co store m)
      (coordinator_takes (but co hidden) other m)
  takes_alike co hidden (msg.InitProducerId it) may =
      let a = init (notes_of co) it.caller.client it.txn it.timeout in
      replies_alike co hidden a (the.InitReply it.caller) a.note may
  takes_alike co hidden (msg.EndTxn it) may =
      let a = end_txn (notes_of co) it.txn it.held it.outcome in
      replies_alike co hidden a (the.EndReply it.caller) a.note may
  takes_alike co hidden (msg.AddPartition it) may =
      let a = add (notes_of co) co.clock it.txn it.held it.partition in
      replies_alike co hidden a (λ code after. the.AddReply it.partition it.txn it.held code) a.note
      may
  takes_alike co hidden (msg.MarkerReply it) may =
      marker_reply_alike co hidden
      (record { txn = it.txn; held = it.held; partition = it.partition }) it.code may
  takes_alike co hidden m may = Alike hidden refl may

  expires_row_alike : (co : Coordinator) (hidden : Option TxnEntry) (row : Option Row)
      → MayBe co hidden
      → Dones co store other (expires_row co store row) (expires_row (but co hidden) other row)
  expires_row_alike co hidden None may = Alike hidden refl may
  expires_row_alike co hidden (Some row) may = writes_alike co hidden (Written row) [] [] may

  ------ steps

  -- a step of what was done
  step_done : (co : Coordinator) (one two : Coordinated) → Dones co store other one two
      → Steps co store other (coordinates one Done) (coordinates two Done)
  step_done co one two are =
      mapped done_disk done_hiding step_disk step_hiding (λ s. coordinates s Done) (λ s. refl)
      (λ s h. refl) co.disk store other one two are

  pub comes_alike : (co : Coordinator) (hidden : Option TxnEntry) (m : Message) → MayBe co hidden
      → Steps co store other (coordinator_step co store (Comes m))
      (coordinator_step (but co hidden) other (Comes m))
  comes_alike co hidden m may =
      step_done co (coordinator_takes co store m) (coordinator_takes (but co hidden) other m)
      (takes_alike co hidden m may)

  pub expires_alike : (co : Coordinator) (hidden : Option TxnEntry) (now : ℕ) → MayBe co hidden
      → Steps co store other (coordinator_step co store (Expires now))
      (coordinator_step (but co hidden) other (Expires now))
  expires_alike co hidden now may =
      step_done co (expires co now store) (expires (but co hidden) now other)
      (expires_row_alike (record co { clock = max co.clock now }) hidden
      (expire (notes_of co) now) may)
