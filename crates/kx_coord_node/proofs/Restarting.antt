-- A restart: what is read again, and what the machine answers.
use Rattle.std.proofs.Common.{◌≡◌, ◌∙◌, ◌⊎◌, ◌-◌, ℕ, Bool, true, false, not, List, [], ◌∷◌}
use Rattle.std.proofs.Common.{◌++◌, length, length-append, refl, sym, ap, subst, inl, inr}
use Rattle.std.proofs.Common.{Option, Some, None, arith, nat_lt, is_some, pos}
use Rattle.std.specs.Prelude.{◌==◌, ◌&&◌, if◌then◌else◌, is_none, option_to_list}
use Rattle.std.proofs.lemmas.Bool.Decides.{nat_tests}
use Rattle.std.proofs.lemmas.List.{append-nil}
use Rattle.kx_log.specs.Opening.{OpenFailed}
use Rattle.kx_log.specs.Store.{MayAppend, MayLeave, StoreState}
use Rattle.kx_machine.specs.Meaning.{AtClient, AtCoordinator, AtPartition, AtProcessor, of_kind}
use Rattle.kx_machine.specs.Meaning.{appended_bytes, entry_bytes, note_bytes, taken_of}
use Rattle.kx_machine.specs.declared.taken.Closing.TheVariants.{Read, Write}
use Rattle.kx_machine.specs.declared.taken.Note as answer
use Rattle.kx_machine.specs.declared.taken.Note.TheVariants as note
use Rattle.kx_machine.specs.declared.taken.Taken.{Taken}
use Rattle.kx_message.specs.declared.message.Message.{Message}
use Rattle.kx_model.specs.Coordinator.{TxnEntry, CoordinatorEpoch, coordinator_epoch}
use Rattle.kx_model.specs.CoordinatorNode.{Coordinator, new_coordinator, opened, opens}
use Rattle.kx_model.specs.Disk.{Store, Works, Fails, CannotLoad, CannotWrite}
use Rattle.kx_model.specs.Disk.{Reopens, reread}
use Rattle.kx_model.specs.Markers.{Answered, all_markers, reopen}
use Rattle.kx_model.specs.Step.{NodeStep, Restarts, RunsOut, Done, Unwritten}
use Rattle.kx_model.specs.Step.{coordinates, coordinator_step}
use Rattle.kx_txnlog.specs.Layout.{entry_text}
use Rattle.kx_txnlog.specs.LogState.{LogState}
use Rattle.kx_txnlog.specs.Opening.{AreIn, Holds, IsDamaged, IsOpened, IsRight, IsWrong}
use Rattle.kx_txnlog.specs.Reading.{ReadNotes, notes_from, notes_in}
use Rattle.kx_txnlog.specs.declared.fault.EntryFault.{EntryFault}
use Rattle.kx_txnlog.specs.declared.fault.EntryFault.TheVariants.{Short, Length, Kind, Field}
use Rattle.kx_txnlog.specs.declared.fault.EntryFault.TheVariants.{Memory}
use Rattle.kx_coord.specs.Calls.{IsCutTo, IsOpen, Reads, RestartBreaks, closed_on, on_store}
use Rattle.kx_coord.specs.Calls as calls
use Rattle.kx_coord.specs.CoordinatorState.{CoordinatorState}
use Rattle.kx_coord.specs.Noted.{SameAnswered}
use Rattle.kx_coord_node.specs.Stands.{Keeps, RunsAs, Stands, Takes, opened_coordinator}
use Rattle.kx_coord_node.proofs.Logs.{read_as}
use Rattle.kx_coord_node.proofs.Steps.{stored_left, stored_whole}
use Rattle.kx_coord_node.proofs.Stores.{entry_size, left, none_appended, readable, reopened}
use Rattle.kx_coord_node.proofs.Stores.{unread}
use Rattle.kx_coord_node.proofs.Taking.{at_coordinator, never_both}

------ what is read again

-- what a restart reads is what the definitions' does
read_same : (co : Coordinator) (old : CoordinatorState) (store : StoreState) (notes : List TxnEntry)
    → RunsAs co old → IsOpened old.log.store store notes → notes ≡ reread co.disk
read_same co old store notes runs opened = opened.notes_are.notes_are ∙ runs.stored.notes_are

holds_read : (old new : StoreState) (notes : List TxnEntry) → IsOpened old new notes
    → Holds new.bytes notes
holds_read old new notes opened =
    subst (λ (bytes : List ℕ). Holds bytes notes)
    (sym (ap (λ (s : StoreState). s.bytes) opened.store)) opened.notes_are.front

none_answered : (xs : List Answered) → xs ≡ [] → SameAnswered xs []
none_answered xs none =
    subst (λ (l : List Answered). SameAnswered l []) (sym none) (record {
      same = λ a. refl;
      once = λ a. omega arith;
    })

-- it is as before, with what is torn at the end of its store cut off
cut_to : (co : Coordinator) (old new : CoordinatorState) (notes : List TxnEntry) → RunsAs co old
    → IsOpened old.log.store new.log.store notes → new ≡ on_store old new.log.store
    → RunsAs co new
cut_to co old new notes runs opened rest =
    let held = (holds_read old.log.store new.log.store notes opened).notes_are in
    record {
      notes = ap (λ (c : CoordinatorState). c.log.notes) rest ∙ runs.notes;
      closed = ap (λ (c : CoordinatorState). c.log.closed) rest ∙ runs.closed;
      clock = ap (λ (c : CoordinatorState). c.clock) rest ∙ runs.clock;
      answered = subst (λ (l : List Answered). SameAnswered l co.answered)
          (sym (ap (λ (c : CoordinatorState). c.answered) rest)) runs.answered;
      stored = record {
        notes_are = ap (λ (r : ReadNotes). r.notes) held
            ∙ read_same co old new.log.store notes runs opened;
        right = subst IsRight (sym (ap (λ (r : ReadNotes). r.fault) held)) tt;
      };
      behind = runs.behind;
    }

------ it is open again

found_one : (kept : List TxnEntry) (hidden : Option TxnEntry) (note : TxnEntry)
    → nat_lt 1 (length ((kept ++ option_to_list hidden) ++ note ∷ []) - length kept)
    ≡ is_some hidden
found_one kept None note = grind (arith, nat_tests, length-append)
found_one kept (Some x) note = grind (arith, nat_tests, length-append)

-- it has what was read, and the entry of its opening
runs_open : (store : StoreState) (log : List TxnEntry) (now : ℕ) (new : CoordinatorState)
    (handed : List Message) → (o : IsOpen store now new handed) → o.read.notes ≡ log
    → RunsAs (opened log now o.note Reopens).0 new
runs_open store log now new handed o same =
    let more : o.read.notes ++ o.note ∷ [] ≡ log ++ o.note ∷ [] =
    ap (λ (ns : List TxnEntry). ns ++ o.note ∷ []) same in
    record {
      notes = ap (λ (l : LogState). l.notes) o.log.rest ∙ more;
      closed = ap (λ (l : LogState). l.closed) o.log.rest ∙ o.reads.not_closed;
      clock = o.clock;
      answered = none_answered new.answered o.answered;
      stored = read_as new.log.store.bytes new.log.store.bytes (o.read.notes ++ o.note ∷ [])
          ((log ++ o.note ∷ []) ++ []) refl (more ∙ sym (append-nil (log ++ o.note ∷ [])))
          (stored_whole o.read new.log o.note
          (holds_read store o.read.store o.read.notes o.reads.opened) o.log);
      behind = λ e. refl;
    }

-- it stands for the coordinator of its log
pub stands_open : (store : StoreState) (now : ℕ) (new : CoordinatorState) (handed : List Message)
    → IsOpen store now new handed → RunsAs (opened_coordinator new.log.notes now) new
stands_open store now new handed o =
    let notes : new.log.notes ≡ o.read.notes ++ o.note ∷ [] =
    ap (λ (l : LogState). l.notes) o.log.rest in
    subst (λ (log : List TxnEntry). RunsAs (opened_coordinator log now) new) (sym notes)
    (runs_open store o.read.notes now new handed o refl)

-- an empty store is read as an empty log, whose opening has the first epoch
no_notes : (bytes : List ℕ) (len : ℕ) (notes : List TxnEntry) → AreIn bytes len notes → bytes ≡ []
    → notes ≡ []
unfolding notes_from
no_notes bytes len notes are none = are.notes_are ∙ ap (λ b. (notes_in b).notes) none

first_epoch : (note : TxnEntry) → reopen [] ≡ Some note → note ≡ CoordinatorEpoch (pos 1)
unfolding coordinator_epoch
first_epoch note e =
    let first : Some (CoordinatorEpoch (pos 1)) ≡ Some note = e in
    let same : note ≡ CoordinatorEpoch (pos 1) = cc in same

pub made_open : (store : StoreState) (new : CoordinatorState) (handed : List Message)
    → IsOpen store 0 new handed → store.bytes ≡ [] → RunsAs new_coordinator new
made_open store new handed o none =
    let opened_so = o.reads.opened in
    let empty = no_notes store.bytes opened_so.len o.read.notes opened_so.notes_are none in
    let first = first_epoch o.note (ap reopen (sym empty) ∙ o.reads.next) in
    subst (λ (note : TxnEntry). RunsAs (opened [] 0 note Reopens).0 new) first
    (runs_open store [] 0 new handed o empty)

reopens_step : (co : Coordinator) (now : ℕ) (note : TxnEntry) → reopen (reread co.disk) ≡ Some note
    → coordinator_step co Works (Restarts now)
    ≡ coordinates (opened (reread co.disk) now note Reopens) Done
reopens_step co now note e =
    ap (λ (o : Option TxnEntry). coordinates (opens co now Reopens o)
    (if is_none o then RunsOut else Done)) e

abbrev answer_at : Coordinator → ℕ → NodeStep Coordinator → Taken
answer_at co now s = taken_of (AtCoordinator co) (Restarts now) (of_kind AtCoordinator s)

-- what is answered to a restart
abbrev restarted : List Message → answer.Note → Bool → Bool → Taken
restarted messages note failed found = record {
  messages = messages;
  note = note;
  failed = failed;
  found = found;
}

never_open : (b : Bool) → (not b && false) ≡ false
never_open true = refl
never_open false = refl

pub takes_open : (old new : CoordinatorState) (now : ℕ) (handed : List Message) (t : Taken)
    → IsOpen old.log.store now new handed
    → t ≡ record {
      messages = handed;
      note = note.Done;
      failed = false;
      found = nat_lt 1 (length new.log.notes - length old.log.notes);
    } → Takes (Restarts now) old new t
takes_open old new now handed t o is =
    at_coordinator (Restarts now) old new t (λ co runs.
    let opened_so = o.reads.opened in
    let same = read_same co old o.read.store o.read.notes runs opened_so in
    let step = reopens_step co now o.note (ap reopen (sym same) ∙ o.reads.next) in
    let runs_now = runs_open old.log.store (reread co.disk) now new handed o same in
    let log : List TxnEntry = reread co.disk ++ o.note ∷ [] in
    let notes : new.log.notes ≡ log = runs_now.notes in
    record {
      store = Works;
      allowed = reopened old.log.store.appends old.log.store.loads
          (entry_bytes (AtCoordinator co) (Restarts now))
          (subst (λ (s : StoreState). MayAppend s.appends) opened_so.store o.log.store.may)
          opened_so.may;
      stands = subst (λ (s : NodeStep Coordinator). RunsAs s.state new) (sym step) runs_now;
      answer = is
          ∙ ap (λ (ms : List Message). restarted ms note.Done false
          (nat_lt 1 (length new.log.notes - length old.log.notes)))
          (o.handed ∙ ap all_markers notes)
          ∙ ap (λ (found : Bool). restarted (all_markers log) note.Done false found)
          (ap (λ (ns : List TxnEntry). nat_lt 1 (length ns - length old.log.notes)) notes
          ∙ ap (λ (ns : List TxnEntry). nat_lt 1 (length log - length ns)) runs.notes
          ∙ found_one co.disk.kept co.disk.hidden o.note)
          ∙ ap (λ (failed : Bool). restarted (all_markers log) note.Done failed
          (is_some co.disk.hidden)) (sym (never_open co.disk.closed))
          ∙ sym (ap (answer_at co now) step);
    })

------ its epoch couldn't be written

found_behind : (kept : List TxnEntry) (hidden : Option TxnEntry)
    → nat_lt 0 (length (kept ++ option_to_list hidden) - length kept) ≡ is_some hidden
found_behind kept None = grind (arith, nat_tests, length-append)
found_behind kept (Some x) = grind (arith, nat_tests, length-append)

unwritten_step : (co : Coordinator) (now : ℕ) (whole : Bool) (note : TxnEntry)
    → reopen (reread co.disk) ≡ Some note
    → coordinator_step co (Fails whole) (Restarts now)
    ≡ coordinates (opened (reread co.disk) now note (CannotWrite whole)) Unwritten
unwritten_step co now whole note e =
    ap (λ (o : Option TxnEntry). coordinates (opens co now (CannotWrite whole) o)
    (if is_none o then RunsOut else Unwritten)) e

pub takes_unwritten : (old new : CoordinatorState) (now : ℕ) (t : Taken)
    → RestartBreaks old new now
    → t ≡ record {
      messages = [];
      note = note.Closed Write;
      failed = true;
      found = nat_lt 0 (length new.log.notes - length old.log.notes);
    } → Takes (Restarts now) old new t
takes_unwritten old new now t b is =
    at_coordinator (Restarts now) old new t (λ co runs.
    let opened_so = b.reads.opened in
    let same = read_same co old b.read.store b.read.notes runs opened_so in
    let next : reopen (reread co.disk) ≡ Some b.note =
    ap reopen (sym same) ∙ b.reads.next in
    let kept = b.log.store.kept in
    let whole = kept == length (entry_text b.note) in
    let each : (all : Bool) → coordinator_step co (Fails all) (Restarts now)
    ≡ coordinates (opened (reread co.disk) now b.note (CannotWrite all)) Unwritten =
    λ all. unwritten_step co now all b.note next in
    let step = each whole in
    let entry : entry_bytes (AtCoordinator co) (Restarts now) ≡ Some (length (entry_text b.note)) =
    λ i. appended_bytes (note_bytes (each false i).state.disk.hidden)
    (note_bytes (each true i).state.disk.hidden) in
    let notes : new.log.notes ≡ reread co.disk =
    ap (λ (l : LogState). l.notes) b.log.rest ∙ same in
    let behind = option_to_list (if whole then Some b.note else None) in
    let size = entry_size b.note b.log.ranges in
    let runs_now : RunsAs (opened (reread co.disk) now b.note (CannotWrite whole)).0 new = record {
      notes = notes;
      closed = ap (λ (l : LogState). l.closed) b.log.rest;
      clock = b.clock;
      answered = none_answered new.answered b.answered;
      stored = read_as new.log.store.bytes new.log.store.bytes (b.read.notes ++ behind)
          (reread co.disk ++ behind) refl (ap (λ (ns : List TxnEntry). ns ++ behind) same)
          (stored_left b.read new.log b.note
          (holds_read old.log.store b.read.store b.read.notes opened_so) b.log);
      behind = λ e. let no : true ≡ false = e in absurd cc;
    } in
    record {
      store = Fails whole;
      allowed = left old.log.store.appends old.log.store.loads kept (length (entry_text b.note))
          (entry_bytes (AtCoordinator co) (Restarts now)) entry
          (subst (λ (s : StoreState). MayLeave s.appends (length (entry_text b.note)) kept)
          opened_so.store b.log.store.may) size.0 size.1;
      stands = subst (λ (s : NodeStep Coordinator). RunsAs s.state new) (sym step) runs_now;
      answer = is
          ∙ ap (λ (found : Bool). restarted [] (note.Closed Write) true found)
          (ap (λ (ns : List TxnEntry). nat_lt 0 (length ns - length old.log.notes)) notes
          ∙ ap (λ (ns : List TxnEntry). nat_lt 0 (length (reread co.disk) - length ns)) runs.notes
          ∙ found_behind co.disk.kept co.disk.hidden)
          ∙ sym (ap (answer_at co now) step);
    })

-- how many entries more there are
pub grown_so : (old new : CoordinatorState) (least before more : ℕ)
    → before ≡ length old.log.notes → more ≡ length new.log.notes - before
    → nat_lt least more ≡ nat_lt least (length new.log.notes - length old.log.notes)
grown_so old new least before more was is =
    ap (nat_lt least) (is ∙ ap (λ n. length new.log.notes - n) was)

------ it couldn't be read

pub takes_unread : (old new : CoordinatorState) (now : ℕ) (t : Taken)
    → OpenFailed old.log.store new.log.store → new ≡ closed_on old new.log.store
    → t ≡ record { messages = []; note = note.Closed Read; failed = true; found = false }
    → Takes (Restarts now) old new t
takes_unread old new now t failed rest is =
    at_coordinator (Restarts now) old new t (λ co runs. record {
      store = CannotLoad;
      allowed = unread old.log.store.appends old.log.store.loads
          (entry_bytes (AtCoordinator co) (Restarts now)) failed.may;
      stands = record {
        notes = ap (λ (c : CoordinatorState). c.log.notes) rest ∙ runs.notes;
        closed = ap (λ (c : CoordinatorState). c.log.closed) rest;
        clock = ap (λ (c : CoordinatorState). c.clock) rest ∙ runs.clock;
        answered = subst (λ (l : List Answered). SameAnswered l co.answered)
            (sym (ap (λ (c : CoordinatorState). c.answered) rest)) runs.answered;
        stored = read_as old.log.store.bytes new.log.store.bytes (reread co.disk) (reread co.disk)
            (ap (λ (s : StoreState). s.bytes) failed.rest) refl runs.stored;
        behind = λ e. let no : true ≡ false = e in absurd cc;
      };
      answer = is;
    })

right_or_wrong : (fault : Option EntryFault) → IsRight fault → IsWrong fault → ⊥
right_or_wrong None right wrong = wrong
right_or_wrong (Some Short) right wrong = wrong
right_or_wrong (Some Length) right wrong = right
right_or_wrong (Some Kind) right wrong = right
right_or_wrong (Some Field) right wrong = right
right_or_wrong (Some Memory) right wrong = right

-- what its store holds is never damaged
pub takes_damaged : (old new : CoordinatorState) (now place : ℕ) (t : Taken)
    → IsDamaged old.log.store.bytes place → Takes (Restarts now) old new t
takes_damaged old new now place t damaged =
    at_coordinator (Restarts now) old new t (λ co runs.
    absurd (right_or_wrong (notes_in old.log.store.bytes).fault runs.stored.right damaged.wrong))

------ no epoch is left

runs_out_step : (co : Coordinator) (now : ℕ) (store : Store) → reopen (reread co.disk) ≡ None
    → (store ≡ CannotLoad → ⊥)
    → coordinator_step co store (Restarts now) ≡ coordinates (co, []) RunsOut
runs_out_step co now Works e reads =
    ap (λ (o : Option TxnEntry). coordinates (opens co now Reopens o)
    (if is_none o then RunsOut else Done)) e
runs_out_step co now (Fails whole) e reads =
    ap (λ (o : Option TxnEntry). coordinates (opens co now (CannotWrite whole) o)
    (if is_none o then RunsOut else Unwritten)) e
runs_out_step co now CannotLoad e reads = absurd (reads refl)

pub takes_used_up : (old new : CoordinatorState) (now : ℕ) (t : Taken)
    → calls.RunsOut old.log.store new.log.store → new ≡ on_store old new.log.store
    → t ≡ record { messages = []; note = note.UsedUp; failed = false; found = false }
    → Takes (Restarts now) old new t
takes_used_up old new now t out rest is =
    at_coordinator (Restarts now) old new t (λ co runs.
    let last : reopen (reread co.disk) ≡ None =
    ap reopen (sym (read_same co old new.log.store out.notes runs out.opened)) ∙ out.last in
    let none : entry_bytes (AtCoordinator co) (Restarts now) ≡ None =
    none_appended (λ store. (coordinator_step co store (Restarts now)).state) co.disk.hidden
    (λ whole. ap (λ (x : NodeStep Coordinator). x.state.disk.hidden)
    (runs_out_step co now (Fails whole) last (λ e. absurd cc))) in
    let s = readable old.log.store.appends old.log.store.loads
    (entry_bytes (AtCoordinator co) (Restarts now)) none out.opened.may in
    let step = runs_out_step co now s.0 last s.2 in
    record {
      store = s.0;
      allowed = s.1;
      stands = subst (λ (x : NodeStep Coordinator). RunsAs x.state new) (sym step)
          (cut_to co old new out.notes runs out.opened rest);
      answer = is
          ∙ ap (λ (failed : Bool). restarted [] note.UsedUp failed false)
          (sym (never_both co.disk.closed))
          ∙ sym (ap (answer_at co now) step);
    })

------ want of memory

pub keeps_cut : (old new : CoordinatorState)
    → (new ≡ old) ⊎ (IsCutTo old.log.store new.log.store × (new ≡ on_store old new.log.store))
    → Keeps old new
keeps_cut old new (inl same) state stands = subst (Stands state) (sym same) stands
keeps_cut old new (inr cut) (AtCoordinator co) runs =
    cut_to co old new cut.0.notes runs cut.0.opened cut.1
keeps_cut old new (inr cut) (AtPartition number p) runs = absurd runs
keeps_cut old new (inr cut) (AtClient c) runs = absurd runs
keeps_cut old new (inr cut) (AtProcessor p) runs = absurd runs
