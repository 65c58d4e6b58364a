-- What a step does to a node's log and to what stands behind it, and what its mark tells of that.
use Rattle.std.proofs.Common.{◌≡◌, ◌∙◌, ℕ, ℤ, pos, ◌+ℤ◌, Bool, true, false, List, [], ◌++◌}
use Rattle.std.proofs.Common.{Option, Some, None, refl, sym, ap, subst, append-nil}
use Rattle.std.specs.Prelude.{◌&&◌, not, is_none, is_some, int_lt, option_to_list}
use Rattle.std.specs.Prelude.{if◌then◌else◌}
use Rattle.kx_machine.specs.Meaning.{NodeState, AtCoordinator, AtPartition, AtClient}
use Rattle.kx_machine.specs.Meaning.{AtProcessor, hides, is_closed, of_kind, taken_of}
use Rattle.kx_model.specs.Coordinator.{TxnEntry, CoordinatorEpoch, coordinator_epoch}
use Rattle.kx_model.specs.CoordinatorNode.{Coordinator}
use Rattle.kx_model.specs.Disk.{Store, Works, Fails, CannotLoad, Reopening, Reopens}
use Rattle.kx_model.specs.Disk.{CannotRead, CannotWrite, left_behind, reopening, reread}
use Rattle.kx_model.specs.Markers.{greatest_epoch, reopen}
use Rattle.kx_model.specs.PartitionNode.{Partition}
use Rattle.kx_model.specs.Step.{Input, Comes, Commands, Expires, Reminds, Drops, Puts, Restarts}
use Rattle.kx_model.specs.Step.{NodeStep, coordinator_step, partition_step}
use Rattle.kx_model.proofs.Notes.{coordinator_epoch-push}
use Rattle.kx_system.specs.Processor.{Processor, processor_step}
use Rattle.kx_nodes.specs.Alike.{bare}
use Rattle.kx_nodes.specs.Replay.{mark_of}
use Rattle.kx_nodes.specs.declared.mark.Mark.{Mark}
use Rattle.kx_nodes.specs.declared.mark.Mark.TheVariants as mark
use Rattle.kx_nodes.proofs.CoordinatorLeaves.{KeepsEpoch, coordinator_leaves}
use Rattle.kx_nodes.proofs.CoordinatorTells.{Reads, coordinator_plain, never_shut, opening}
use Rattle.kx_nodes.proofs.CoordinatorTells.{restarted}
use Rattle.kx_nodes.proofs.Leaving.{IsPlain, Keeps, Leaves, Shuts}
use Rattle.kx_nodes.proofs.PartitionLeaves.{Any, partition_leaves}
use Rattle.kx_nodes.proofs.PartitionTells.{partition_plain}
use Rattle.kx_nodes.proofs.Telling.{Plain, done_is, done_mark, fails_plain, found_mark, mark_if}
use Rattle.kx_nodes.proofs.Telling.{mark_plain, never_unread}
use Rattle.kx_nodes.proofs.Traces.{after, answer}

-- a restart that reads the log finds the coordinator's epochs used up
abbrev pub used_up : NodeState → Bool
used_up (AtCoordinator co) = is_none (reopen (reread co.disk))
used_up (AtPartition number p) = false
used_up (AtClient c) = false
used_up (AtProcessor p) = false

-- the log, and what is behind it, as before
pub record IsStill (before after : NodeState) : Type 0 where
  pub closed : is_closed after ≡ is_closed before
  pub hidden : hides after ≡ hides before
  pub epochs : used_up after ≡ used_up before

-- the mark of an append that failed
abbrev pub is_left : Mark → Bool
is_left mark.Failed = true
is_left (mark.Unwritten found) = true
is_left other = false

-- the log is open after the step; or what is behind it stayed; or a store that failed left it
pub data Way (store : Store) (m : Mark) (before after : NodeState) : Type 0 where
  Opens : is_closed after ≡ false → Way store m before after
  Stays : hides after ≡ hides before → used_up after ≡ used_up before → is_left m ≡ false
      → Way store m before after
  Left : (whole : Bool) → store ≡ Fails whole → hides after ≡ whole
      → (used_up (bare after) ≡ true → used_up after ≡ true) → is_left m ≡ true
      → Way store m before after

hid_is : {A : Type 0} (whole : Bool) (item : A) → is_some (left_behind (Fails whole) item) ≡ whole
hid_is true item = refl
hid_is false item = refl

------ steps but restarts

plain_mark : (a : NodeState) (input : Input) (s : NodeStep NodeState) → IsPlain input
    → Plain s.note
    → mark_of (taken_of a input s) ≡ mark_if (not (is_closed a) && is_closed s.state)
plain_mark a (Restarts now) s plain clear = absurd plain
plain_mark a (Comes m) s plain clear =
    mark_plain s.note clear _ ∙ ap mark_if (fails_plain s.note clear a s)
plain_mark a (Commands what) s plain clear =
    mark_plain s.note clear _ ∙ ap mark_if (fails_plain s.note clear a s)
plain_mark a (Expires now) s plain clear =
    mark_plain s.note clear _ ∙ ap mark_if (fails_plain s.note clear a s)
plain_mark a Reminds s plain clear =
    mark_plain s.note clear _ ∙ ap mark_if (fails_plain s.note clear a s)
plain_mark a (Drops group member) s plain clear =
    mark_plain s.note clear _ ∙ ap mark_if (fails_plain s.note clear a s)
plain_mark a (Puts value more) s plain clear =
    mark_plain s.note clear _ ∙ ap mark_if (fails_plain s.note clear a s)

-- a step from a log that is closed, and one that closes it
closed_unmarked : (was is : Bool) → was ≡ true → is_left (mark_if (not was && is)) ≡ false
closed_unmarked true is e = refl
closed_unmarked false is e = cc

closing_marked : (was is : Bool) → was ≡ false → is ≡ true
    → is_left (mark_if (not was && is)) ≡ true
closing_marked false true e f = refl
closing_marked true is e f = cc
closing_marked false false e f = cc

module _ (a : NodeState) (store : Store) (input : Input) where
  abbrev pub shown : Mark
  shown = mark_of (answer a store input)

  abbrev IsWay : Type 0
  IsWay = Way store shown a (after a store input)

  -- by whether the log was closed
  by_closed : (was : Bool) → is_closed a ≡ was
      → shown ≡ mark_if (not (is_closed a) && is_closed (after a store input))
      → (is_closed a ≡ true → IsStill a (after a store input))
      → (is_closed a ≡ false → IsWay) → IsWay
  by_closed true is e still opened =
      Stays (still is).hidden (still is).epochs
      (ap is_left e ∙ closed_unmarked (is_closed a) (is_closed (after a store input)) is)
  by_closed false is e still opened = opened is

-- a partition
partition_still : (number : ℕ) (p : Partition) (q : Partition) (store : Store)
    → Leaves Any store p.disk q.disk → p.disk.closed ≡ true
    → IsStill (AtPartition number p) (AtPartition number q)
partition_still number p q store (Keeps e same) is = record {
  closed = e;
  hidden = ap (λ disk. is_some disk.hidden) (same is);
  epochs = refl;
}
partition_still number p q store (Shuts whole item opened fails may shut left) is = cc

partition_opened : (number : ℕ) (p q : Partition) (store : Store) (m : Mark)
    → Leaves Any store p.disk q.disk → p.disk.closed ≡ false
    → m ≡ mark_if (not p.disk.closed && q.disk.closed)
    → Way store m (AtPartition number p) (AtPartition number q)
partition_opened number p q store m (Keeps e same) is marked = Opens (e ∙ is)
partition_opened number p q store m (Shuts whole item opened fails may shut left) is marked =
    Left whole fails (ap is_some left ∙ hid_is whole item) (λ e. e)
    (ap is_left marked ∙ closing_marked p.disk.closed q.disk.closed opened shut)

-- the coordinator
abbrev reopen_by : ℤ → Option TxnEntry
reopen_by epoch =
    if int_lt epoch greatest_epoch then Some (CoordinatorEpoch (epoch +ℤ pos 1)) else None

epoch_same : (kept : List TxnEntry) (whole : Bool) (item : TxnEntry) → KeepsEpoch item
    → coordinator_epoch (kept ++ []) ≡ coordinator_epoch (kept ++ option_to_list (left_behind
    (Fails whole) item))
epoch_same kept false item keeps = refl
epoch_same kept true item keeps =
    ap coordinator_epoch (append-nil kept) ∙ sym (keeps (coordinator_epoch kept))
    ∙ sym (coordinator_epoch-push kept item)

used_up_same : (log more : List TxnEntry) → coordinator_epoch log ≡ coordinator_epoch more
    → is_none (reopen log) ≡ is_none (reopen more)
used_up_same log more e = ap (λ epoch. is_none (reopen_by epoch)) e

coordinator_still : (co q : Coordinator) (store : Store)
    → Leaves KeepsEpoch store co.disk q.disk → co.disk.closed ≡ true
    → IsStill (AtCoordinator co) (AtCoordinator q)
coordinator_still co q store (Keeps e same) is = record {
  closed = e;
  hidden = ap (λ disk. is_some disk.hidden) (same is);
  epochs = ap (λ disk. is_none (reopen (reread disk))) (same is);
}
coordinator_still co q store (Shuts whole item opened fails may shut left) is = cc

coordinator_opened : (co q : Coordinator) (store : Store) (m : Mark)
    → Leaves KeepsEpoch store co.disk q.disk → co.disk.closed ≡ false
    → m ≡ mark_if (not co.disk.closed && q.disk.closed)
    → Way store m (AtCoordinator co) (AtCoordinator q)
coordinator_opened co q store m (Keeps e same) is marked = Opens (e ∙ is)
coordinator_opened co q store m (Shuts whole item opened fails may shut left) is marked =
    let kept = q.disk.kept in
    Left whole fails (ap is_some left ∙ hid_is whole item)
    (λ e. used_up_same (kept ++ option_to_list q.disk.hidden) (kept ++ [])
    (ap (λ hidden. coordinator_epoch (kept ++ option_to_list hidden)) left
    ∙ sym (epoch_same kept whole item may)) ∙ e)
    (ap is_left marked ∙ closing_marked co.disk.closed q.disk.closed opened shut)

-- a log that is closed stays as it is
pub closed_still : (a : NodeState) (store : Store) (input : Input) → IsPlain input
    → is_closed a ≡ true → IsStill a (after a store input)
closed_still (AtCoordinator co) store input plain is =
    coordinator_still co (coordinator_step co store input).state store
    (coordinator_leaves store co input plain) is
closed_still (AtPartition number p) store input plain is =
    partition_still number p (partition_step number p store input).state store
    (partition_leaves number store p input plain) is
closed_still (AtClient c) store input plain is = cc
closed_still (AtProcessor p) store input plain is = cc

plain_way : (a : NodeState) (store : Store) (input : Input) → IsPlain input
    → Way store (mark_of (answer a store input)) a (after a store input)
plain_way (AtCoordinator co) store input plain =
    let s = coordinator_step co store input in
    let marked = plain_mark (AtCoordinator co) input (of_kind AtCoordinator s) plain
    (coordinator_plain co store input plain) in
    by_closed (AtCoordinator co) store input co.disk.closed refl marked
    (closed_still (AtCoordinator co) store input plain)
    (λ is. coordinator_opened co s.state store _ (coordinator_leaves store co input plain) is
    marked)
plain_way (AtPartition number p) store input plain =
    let s = partition_step number p store input in
    let marked = plain_mark (AtPartition number p) input (of_kind (AtPartition number) s) plain
    (partition_plain number p store input plain) in
    by_closed (AtPartition number p) store input p.disk.closed refl marked
    (closed_still (AtPartition number p) store input plain)
    (λ is. partition_opened number p s.state store _ (partition_leaves number store p input plain)
    is marked)
plain_way (AtClient c) store input plain = Opens refl
plain_way (AtProcessor p) store input plain = Opens refl

------ restarts

opening_way : (co : Coordinator) (now : ℕ) (store : Store) (entry : Option TxnEntry)
    → Reads (reopening store) → reopen (reread co.disk) ≡ entry
    → Way store (mark_of (restarted co now (opening co now (reopening store) entry)))
    (AtCoordinator co) (AtCoordinator (opening co now (reopening store) entry).state)
opening_way co now CannotLoad entry reads is = absurd reads
opening_way co now Works None reads is = Stays refl refl refl
opening_way co now (Fails whole) None reads is = Stays refl refl refl
opening_way co now Works (Some note) reads is = Opens refl
opening_way co now (Fails whole) (Some note) reads is =
    let log = reread co.disk in
    Left whole refl (hid_is whole note)
    (λ e. let never : is_none (Some note) ≡ true =
    ap is_none (sym is) ∙ ap (λ l. is_none (reopen l)) (sym (append-nil log)) ∙ e in cc)
    refl

restart_way : (a : NodeState) (store : Store) (now : ℕ)
    → Way store (mark_of (answer a store (Restarts now))) a (after a store (Restarts now))
restart_way (AtCoordinator co) CannotLoad now = Stays refl refl refl
restart_way (AtCoordinator co) Works now =
    opening_way co now Works (reopen (reread co.disk)) tt refl
restart_way (AtCoordinator co) (Fails whole) now =
    opening_way co now (Fails whole) (reopen (reread co.disk)) tt refl
restart_way (AtPartition number p) CannotLoad now = Stays refl refl refl
restart_way (AtPartition number p) Works now = Opens refl
restart_way (AtPartition number p) (Fails whole) now = Opens refl
restart_way (AtClient c) store now = Opens refl
restart_way (AtProcessor p) store now = Opens refl

-- each step does one of the three
pub way : (a : NodeState) (store : Store) (input : Input)
    → Way store (mark_of (answer a store input)) a (after a store input)
way a store (Restarts now) = restart_way a store now
way a store input = plain_way a store input tt

-- what the mark of a restart tells
abbrev pub Told : Mark → NodeState → Type 0
Told mark.Worked a = hides a ≡ false
Told mark.Found a = hides a ≡ true
Told (mark.Unwritten found) a = hides a ≡ found
Told mark.UsedUp a = used_up a ≡ true
Told mark.Unread a = Unit {0}
Told mark.Failed a = ⊥

found_told : (a : NodeState) (found : Bool) → hides a ≡ found → Told (found_mark found) a
found_told a true is = is
found_told a false is = is

done_told : (a : NodeState) (closed : Bool) → Told (done_mark closed (hides a)) a
done_told a closed =
    subst (λ m. Told m a) (sym (done_is closed (hides a))) (found_told a (hides a) refl)

opening_told : (co : Coordinator) (now : ℕ) (how : Reopening) (entry : Option TxnEntry) → Reads how
    → reopen (reread co.disk) ≡ entry
    → Told (mark_of (restarted co now (opening co now how entry))) (AtCoordinator co)
opening_told co now CannotRead entry reads is = absurd reads
opening_told co now Reopens None reads is = ap is_none is
opening_told co now (CannotWrite whole) None reads is = ap is_none is
opening_told co now Reopens (Some note) reads is = done_told (AtCoordinator co) co.disk.closed
opening_told co now (CannotWrite whole) (Some note) reads is = refl

processor_told : (p : Processor) (store : Store) (now : ℕ)
    → Told (mark_of (answer (AtProcessor p) store (Restarts now))) (AtProcessor p)
unfolding processor_step
processor_told p store now = refl

pub restart_told : (a : NodeState) (store : Store) (now : ℕ)
    → Told (mark_of (answer a store (Restarts now))) a
restart_told (AtCoordinator co) CannotLoad now = tt
restart_told (AtCoordinator co) Works now =
    opening_told co now Reopens (reopen (reread co.disk)) tt refl
restart_told (AtCoordinator co) (Fails whole) now =
    opening_told co now (CannotWrite whole) (reopen (reread co.disk)) tt refl
restart_told (AtPartition number p) CannotLoad now = tt
restart_told (AtPartition number p) Works now = done_told (AtPartition number p) p.disk.closed
restart_told (AtPartition number p) (Fails whole) now =
    done_told (AtPartition number p) p.disk.closed
restart_told (AtClient c) store now = refl
restart_told (AtProcessor p) store now = processor_told p store now

-- a log that was closed stays as it is where a restart couldn't read it
pub unread_still : (a : NodeState) (store : Store) (now : ℕ) → is_closed a ≡ true
    → mark_of (answer a store (Restarts now)) ≡ mark.Unread
    → IsStill a (after a store (Restarts now))
unread_still (AtCoordinator co) CannotLoad now is unread =
    record { closed = sym is; hidden = refl; epochs = refl }
unread_still (AtCoordinator co) Works now is unread =
    absurd (never_shut co now Reopens (reopen (reread co.disk)) tt unread)
unread_still (AtCoordinator co) (Fails whole) now is unread =
    absurd (never_shut co now (CannotWrite whole) (reopen (reread co.disk)) tt unread)
unread_still (AtPartition number p) CannotLoad now is unread =
    record { closed = sym is; hidden = refl; epochs = refl }
unread_still (AtPartition number p) Works now is unread =
    absurd (never_unread p.disk.closed (is_some p.disk.hidden) unread)
unread_still (AtPartition number p) (Fails whole) now is unread =
    absurd (never_unread p.disk.closed (is_some p.disk.hidden) unread)
unread_still (AtClient c) store now is unread = cc
unread_still (AtProcessor p) store now is unread = cc
