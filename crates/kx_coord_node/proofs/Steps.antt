-- A step that appends an entry first, as the definitions have it.
use Rattle.std.proofs.Common.{◌≡◌, ◌∙◌, ℕ, Bool, true, false, not, List, [], ◌∷◌, ◌++◌, take}
use Rattle.std.proofs.Common.{length, refl, sym, ap, subst, inl, inr, max, Option, Some, None}
use Rattle.std.specs.Prelude.{◌==◌, ◌&&◌, ◌||◌, if◌then◌else◌, option_to_list}
use Rattle.std.proofs.lemmas.List.{append-nil}
use Rattle.kx_log.specs.Store.{StoreState}
use Rattle.kx_machine.specs.Meaning.{appended_bytes, note_bytes}
use Rattle.kx_message.specs.declared.code.ErrorCode.TheVariants.{KafkaStorageError}
use Rattle.kx_message.specs.declared.message.Message.{Message}
use Rattle.kx_model.specs.Coordinator.{TxnEntry, Row, Written, coordinator_epoch}
use Rattle.kx_model.specs.CoordinatorNode.{Coordinated, Coordinator, Reply, expires, expires_row}
use Rattle.kx_model.specs.CoordinatorNode.{has_no_id, is_appended, notes_of, replies, replies_with}
use Rattle.kx_model.specs.CoordinatorNode.{writes}
use Rattle.kx_model.specs.Disk.{Disk, Store, Works, Fails, CannotLoad, appended, is_written}
use Rattle.kx_model.specs.Disk.{left_behind, works}
use Rattle.kx_model.specs.Disk as disk
use Rattle.kx_model.specs.Markers.{Answered, expire, markers_after}
use Rattle.kx_model.specs.Requests.{Answer}
use Rattle.kx_txnlog.specs.Layout.{entry_text}
use Rattle.kx_txnlog.specs.LogState.{AppendBreaks, IsAppendedTo, LogState}
use Rattle.kx_txnlog.specs.Opening.{Holds}
use Rattle.kx_coord.specs.Calls.{Expires, ExpiresBy, Hands, HasId, HasNoId, IsWritten, Responds}
use Rattle.kx_coord.specs.Calls.{RespondsBy, handed_out}
use Rattle.kx_coord.specs.CoordinatorState.{CoordinatorState}
use Rattle.kx_coord.specs.Noted.{SameAnswered}
use Rattle.kx_coord_node.specs.Stands.{MayDo, ReadAs, RunsAs}
use Rattle.kx_coord_node.proofs.Logs.{read_as, read_left, read_whole}
use Rattle.kx_coord_node.proofs.Stores.{bytes_in, entry_size, left, left_within, none_appended}
use Rattle.kx_coord_node.proofs.Stores.{some_store, wrote}

-- what the store holds, if the log isn't closed
abbrev pub IsHeld : CoordinatorState → Type 0
IsHeld c = c.log.closed ≡ false → Holds c.log.store.bytes c.log.notes

-- a step of the definitions, in which the store did what it may
pub record Does (step : Store → Coordinated) (old new : CoordinatorState) (handed : List Message)
    : Type 0 where
  pub store : Store
  pub allowed : MayDo old (bytes_in (λ at. (step at).0)) store
  pub stands : RunsAs (step store).0 new
  pub handed_is : handed ≡ (step store).1

-- the store isn't touched
pub rests : (co : Coordinator) (old new : CoordinatorState) (handed out : List Message)
    (step : Store → Coordinated) → RunsAs co old → new ≡ old → handed ≡ out
    → ((store : Store) → step store ≡ (co, out)) → Does step old new handed
rests co old new handed out step runs same is steps =
    let after = λ (store : Store). (step store).0 in
    let s = some_store old.log.store.appends old.log.store.loads (bytes_in after)
    (none_appended after co.disk.hidden
    (λ whole. ap (λ (x : Coordinated). x.0.disk.hidden) (steps (Fails whole)))) in
    record {
      store = s.0;
      allowed = s.1;
      stands = subst (λ (x : Coordinated). RunsAs x.0 new) (sym (steps s.0))
          (subst (RunsAs co) (sym same) runs);
      handed_is = is ∙ sym (ap (λ (x : Coordinated). x.1) (steps s.0));
    }

-- what appends an entry first, and whether it was appended
abbrev pub Writes : Coordinator → CoordinatorState → CoordinatorState → TxnEntry → List Message
    → List Message → List Message → Bool → Type 0
Writes co old new note done failed handed written =
    (does : Does (λ store. writes co store note done failed) old new handed)
    × (is_appended co does.store note ≡ written)

------ what the definitions write

-- by whether an id is missing for it
abbrev written_by : Coordinator → Store → TxnEntry → List Message → List Message → Bool →
    Coordinated
written_by co store note done failed lacks = (
  record co { disk = if lacks then co.disk else appended co.disk store note },
  if not lacks && is_written co.disk store
      then done ++ markers_after (coordinator_epoch (notes_of co)) note else failed,
)

written_at : (co : Coordinator) (store : Store) (note : TxnEntry) (done failed : List Message)
    (lacks : Bool) → has_no_id note ≡ lacks
    → writes co store note done failed ≡ written_by co store note done failed lacks
written_at co store note done failed lacks e = ap (written_by co store note done failed) e

-- by whether it is closed
abbrev appended_by : Disk TxnEntry → Store → TxnEntry → Bool → Disk TxnEntry
appended_by d store note closed = record {
  kept = if not closed && works store then d.kept ++ note ∷ [] else d.kept;
  hidden = if closed then d.hidden else left_behind store note;
  closed = closed || not (works store);
}

closed_by : (d : Disk TxnEntry) (store : Store) (note : TxnEntry) (closed : Bool) → closed ≡ true
    → appended_by d store note closed ≡ record d { closed = closed }
closed_by d store note true e = refl
closed_by d store note false e = let no : false ≡ true = e in absurd cc

-- nothing is written to a log that is closed
closed_disk : (d : Disk TxnEntry) (store : Store) (note : TxnEntry) → d.closed ≡ true
    → appended d store note ≡ d
closed_disk d store note e = closed_by d store note d.closed e

writes_closed : (co : Coordinator) (store : Store) (note : TxnEntry) (done failed : List Message)
    (lacks : Bool) → co.disk.closed ≡ true
    → written_by co store note done failed lacks ≡ (co, failed)
writes_closed co store note done failed true e = refl
writes_closed co store note done failed false e =
    let kept = closed_disk co.disk store note e in
    ap (λ (d : Disk TxnEntry). (
      record co { disk = d },
      if is_written co.disk store
          then done ++ markers_after (coordinator_epoch (notes_of co)) note else failed,
    )) kept
    ∙ ap (λ (closed : Bool). (
      co,
      if not closed && works store
          then done ++ markers_after (coordinator_epoch (notes_of co)) note else failed,
    )) e

abbrev with_entry : Coordinator → TxnEntry → Coordinator
with_entry co note = record co { disk = disk.made (co.disk.kept ++ note ∷ []) }

works_by : (d : Disk TxnEntry) (store : Store) (note : TxnEntry) (closed : Bool) → closed ≡ false
    → works store ≡ true
    → appended_by d store note closed ≡ disk.made (d.kept ++ note ∷ [])
works_by d store note true e w = let no : true ≡ false = e in absurd cc
works_by d Works note false e w = refl
works_by d CannotLoad note false e w = refl
works_by d (Fails whole) note false e w = let no : false ≡ true = w in absurd cc

writes_all : (co : Coordinator) (store : Store) (note : TxnEntry) (done failed : List Message)
    → co.disk.closed ≡ false → works store ≡ true
    → written_by co store note done failed false
    ≡ (with_entry co note, done ++ markers_after (coordinator_epoch (notes_of co)) note)
writes_all co store note done failed e w =
    ap (λ (d : Disk TxnEntry). (
      record co { disk = d },
      if is_written co.disk store
          then done ++ markers_after (coordinator_epoch (notes_of co)) note else failed,
    ))
    (works_by co.disk store note co.disk.closed e w)
    ∙ ap (λ (b : Bool). (
      with_entry co note,
      if not b && works store
          then done ++ markers_after (coordinator_epoch (notes_of co)) note else failed,
    )) e
    ∙ ap (λ (b : Bool). (
      with_entry co note,
      if b
          then done ++ markers_after (coordinator_epoch (notes_of co)) note else failed,
    )) w

abbrev left_at : Disk TxnEntry → Bool → TxnEntry → Disk TxnEntry
left_at d whole note = record {
  kept = d.kept;
  hidden = if whole then Some note else None;
  closed = true;
}

abbrev with_behind : Coordinator → Bool → TxnEntry → Coordinator
with_behind co whole note = record co { disk = left_at co.disk whole note }

fails_by : (d : Disk TxnEntry) (whole : Bool) (note : TxnEntry) (closed : Bool) → closed ≡ false
    → appended_by d (Fails whole) note closed ≡ left_at d whole note
fails_by d whole note true e = let no : true ≡ false = e in absurd cc
fails_by d whole note false e = refl

writes_none : (co : Coordinator) (whole : Bool) (note : TxnEntry) (done failed : List Message)
    → co.disk.closed ≡ false
    → written_by co (Fails whole) note done failed false ≡ (with_behind co whole note, failed)
writes_none co whole note done failed e =
    ap (λ (d : Disk TxnEntry). (
      record co { disk = d },
      if is_written co.disk (Fails whole)
          then done ++ markers_after (coordinator_epoch (notes_of co)) note else failed,
    ))
    (fails_by co.disk whole note co.disk.closed e)
    ∙ ap (λ (b : Bool). (
      with_behind co whole note,
      if not b && false
          then done ++ markers_after (coordinator_epoch (notes_of co)) note else failed,
    )) e

------ what the running one writes

-- but for its log it is as before
abbrev OnLog : CoordinatorState → CoordinatorState → Type 0
OnLog old new = new ≡ record old { log = new.log }

clock_stays : (co : Coordinator) (old new : CoordinatorState) → RunsAs co old → OnLog old new
    → new.clock ≡ co.clock
clock_stays co old new runs rest = ap (λ (c : CoordinatorState). c.clock) rest ∙ runs.clock

answers_stay : (co : Coordinator) (old new : CoordinatorState) → RunsAs co old → OnLog old new
    → SameAnswered new.answered co.answered
answers_stay co old new runs rest =
    subst (λ (l : List Answered). SameAnswered l co.answered)
    (sym (ap (λ (c : CoordinatorState). c.answered) rest)) runs.answered

-- an entry was appended to a log
pub stored_whole : (old new : LogState) (note : TxnEntry) → Holds old.store.bytes old.notes
    → IsAppendedTo note old new → ReadAs new.store.bytes (old.notes ++ note ∷ [])
stored_whole old new note holds done =
    read_as (old.store.bytes ++ entry_text note) new.store.bytes (old.notes ++ note ∷ [])
    (old.notes ++ note ∷ []) (ap (λ (s : StoreState). s.bytes) done.store.is) refl
    (read_whole old.store.bytes old.notes note holds done.ranges)

-- an append failed
pub stored_left : (old new : LogState) (note : TxnEntry) → Holds old.store.bytes old.notes
    → (breaks : AppendBreaks note old new)
    → ReadAs new.store.bytes (old.notes ++ option_to_list (if breaks.store.kept
    == length (entry_text note) then Some note else None))
stored_left old new note holds breaks =
    let text = entry_text note in
    let kept = breaks.store.kept in
    let found = old.notes ++ option_to_list (if kept == length text then Some note else None) in
    read_as (old.store.bytes ++ take kept text) new.store.bytes found found
    (ap (λ (s : StoreState). s.bytes) breaks.store.rest) refl
    (read_left old.store.bytes old.notes note kept holds breaks.ranges
    (left_within old.store.appends kept (length text) breaks.store.may))

runs_on : (co : Coordinator) (old new : CoordinatorState) (note : TxnEntry) → RunsAs co old
    → IsHeld old → IsAppendedTo note old.log new.log → OnLog old new
    → RunsAs (with_entry co note) new
runs_on co old new note runs holds done rest =
    let more : old.log.notes ++ note ∷ [] ≡ co.disk.kept ++ note ∷ [] =
    ap (λ (ns : List TxnEntry). ns ++ note ∷ []) runs.notes in
    record {
      notes = ap (λ (l : LogState). l.notes) done.rest ∙ more;
      closed = ap (λ (l : LogState). l.closed) done.rest ∙ done.not_closed;
      clock = clock_stays co old new runs rest;
      answered = answers_stay co old new runs rest;
      stored = read_as new.log.store.bytes new.log.store.bytes (old.log.notes ++ note ∷ [])
          ((co.disk.kept ++ note ∷ []) ++ []) refl
          (more ∙ sym (append-nil (co.disk.kept ++ note ∷ [])))
          (stored_whole old.log new.log note (holds done.not_closed) done);
      behind = λ e. refl;
    }

breaks_off : (co : Coordinator) (old new : CoordinatorState) (note : TxnEntry) → RunsAs co old
    → IsHeld old → (breaks : AppendBreaks note old.log new.log) → OnLog old new
    → RunsAs (with_behind co (breaks.store.kept == length (entry_text note)) note) new
breaks_off co old new note runs holds breaks rest =
    let behind = option_to_list (if breaks.store.kept == length (entry_text note) then Some note
    else None) in
    record {
      notes = ap (λ (l : LogState). l.notes) breaks.rest ∙ runs.notes;
      closed = ap (λ (l : LogState). l.closed) breaks.rest;
      clock = clock_stays co old new runs rest;
      answered = answers_stay co old new runs rest;
      stored = read_as new.log.store.bytes new.log.store.bytes (old.log.notes ++ behind)
          (co.disk.kept ++ behind) refl (ap (λ (ns : List TxnEntry). ns ++ behind) runs.notes)
          (stored_left old.log new.log note (holds breaks.not_closed) breaks);
      behind = λ e. let no : true ≡ false = e in absurd cc;
    }

-- what goes out with an entry that was appended
abbrev owed : Coordinator → TxnEntry → List Message → List Message
owed co note done = done ++ markers_after (coordinator_epoch (notes_of co)) note

appended_all : (co : Coordinator) (store : Store) (note : TxnEntry) → has_no_id note ≡ false
    → co.disk.closed ≡ false → works store ≡ true → is_appended co store note ≡ true
appended_all co store note has not_closed w =
    ap (λ b. not b && is_written co.disk store) has
    ∙ ap (λ b. not b && works store) not_closed ∙ w

appended_none : (co : Coordinator) (whole : Bool) (note : TxnEntry) → has_no_id note ≡ false
    → co.disk.closed ≡ false → is_appended co (Fails whole) note ≡ false
appended_none co whole note has not_closed =
    ap (λ b. not b && is_written co.disk (Fails whole)) has
    ∙ ap (λ b. not b && false) not_closed

appended_closed : (co : Coordinator) (store : Store) (note : TxnEntry) → co.disk.closed ≡ true
    → is_appended co store note ≡ false
appended_closed co store note closed =
    ap (λ b. not (has_no_id note) && (not b && works store)) closed ∙ never (not (has_no_id note))
  where
    never : (b : Bool) → (b && false) ≡ false
    never true = refl
    never false = refl

appended_lacking : (co : Coordinator) (store : Store) (note : TxnEntry) → has_no_id note ≡ true
    → is_appended co store note ≡ false
appended_lacking co store note lacks = ap (λ b. not b && is_written co.disk store) lacks

pub appends : (co : Coordinator) (old new : CoordinatorState) (note : TxnEntry)
    (done failed handed : List Message) → RunsAs co old → IsHeld old → has_no_id note ≡ false
    → IsAppendedTo note old.log new.log → OnLog old new → handed ≡ owed co note done
    → Writes co old new note done failed handed true
appends co old new note done failed handed runs holds has written rest out =
    let s = wrote old.log.store.appends old.log.store.loads
    (bytes_in (λ store. (writes co store note done failed).0)) written.store.may in
    let step = written_at co s.0 note done failed false has
    ∙ writes_all co s.0 note done failed (sym runs.closed ∙ written.not_closed) s.2 in
    let does : Does (λ store. writes co store note done failed) old new handed = record {
      store = s.0;
      allowed = s.1;
      stands = subst (λ (x : Coordinated). RunsAs x.0 new) (sym step)
          (runs_on co old new note runs holds written rest);
      handed_is = out ∙ sym (ap (λ (x : Coordinated). x.1) step);
    } in
    (does, appended_all co s.0 note has (sym runs.closed ∙ written.not_closed) s.2)

breaks : (co : Coordinator) (old new : CoordinatorState) (note : TxnEntry)
    (done failed handed : List Message) → RunsAs co old → IsHeld old → has_no_id note ≡ false
    → AppendBreaks note old.log new.log → OnLog old new → handed ≡ failed
    → Writes co old new note done failed handed false
breaks co old new note done failed handed runs holds has broken rest out =
    let size = entry_size note broken.ranges in
    let whole = broken.store.kept == length (entry_text note) in
    let each : (all : Bool) → writes co (Fails all) note done failed
    ≡ (with_behind co all note, failed) =
    λ all. written_at co (Fails all) note done failed false has
    ∙ writes_none co all note done failed (sym runs.closed ∙ broken.not_closed) in
    let step = each whole in
    let entry : bytes_in (λ store. (writes co store note done failed).0)
    ≡ Some (length (entry_text note)) =
    λ i. appended_bytes (note_bytes (each false i).0.disk.hidden)
    (note_bytes (each true i).0.disk.hidden) in
    let does : Does (λ store. writes co store note done failed) old new handed = record {
      store = Fails whole;
      allowed = left old.log.store.appends old.log.store.loads broken.store.kept
          (length (entry_text note)) (bytes_in (λ store. (writes co store note done failed).0))
          entry broken.store.may size.0 size.1;
      stands = subst (λ (x : Coordinated). RunsAs x.0 new) (sym step)
          (breaks_off co old new note runs holds broken rest);
      handed_is = out ∙ sym (ap (λ (x : Coordinated). x.1) step);
    } in
    (does, appended_none co whole note has (sym runs.closed ∙ broken.not_closed))

-- it isn't written: the log was closed before, or is closed now
pub written_not : (co : Coordinator) (old new : CoordinatorState) (note : TxnEntry)
    (done failed handed : List Message) → RunsAs co old → IsHeld old
    → IsWritten old new note false → handed ≡ failed
    → Writes co old new note done failed handed false
written_not co old new note done failed handed runs holds (inl stays) out =
    let closed : co.disk.closed ≡ true = sym runs.closed ∙ stays.0 in
    let does = rests co old new handed failed (λ store. writes co store note done failed) runs
    stays.1 out (λ store. writes_closed co store note done failed (has_no_id note) closed) in
    (does, appended_closed co does.store note closed)
written_not co old new note done failed handed runs holds (inr fails) out =
    breaks co old new note done failed handed runs holds fails.0 fails.1.log fails.1.rest out

-- an id is missing for it
pub lacks_id : (co : Coordinator) (old new : CoordinatorState) (note : TxnEntry)
    (done failed handed : List Message) → RunsAs co old → has_no_id note ≡ true → new ≡ old
    → handed ≡ failed → Writes co old new note done failed handed false
lacks_id co old new note done failed handed runs lacks same out =
    let does = rests co old new handed failed (λ store. writes co store note done failed) runs
    same out (λ store. written_at co store note done failed true lacks) in
    (does, appended_lacking co does.store note lacks)

hands_by : (co : Coordinator) (old new : CoordinatorState) (note : TxnEntry)
    (done failed handed : List Message) (written : Bool) → RunsAs co old → IsHeld old
    → IsWritten old new note written
    → handed ≡ handed_out written (coordinator_epoch old.log.notes) note done failed
    → Does (λ store. writes co store note done failed) old new handed
hands_by co old new note done failed handed true runs holds w out =
    let to = out
    ∙ ap (λ (ns : List TxnEntry). done ++ markers_after (coordinator_epoch ns) note) runs.notes in
    (appends co old new note done failed handed runs holds w.0 w.1.log w.1.rest to).0
hands_by co old new note done failed handed false runs holds w out =
    (written_not co old new note done failed handed runs holds w out).0

-- a call that appends an entry first
pub hands : (co : Coordinator) (old new : CoordinatorState) (note : TxnEntry)
    (done failed handed : List Message) → RunsAs co old → IsHeld old
    → Hands old new note done failed handed
    → Does (λ store. writes co store note done failed) old new handed
hands co old new note done failed handed runs holds (HasNoId lacks same out) =
    (lacks_id co old new note done failed handed runs lacks same out).0
hands co old new note done failed handed runs holds (HasId written w out) =
    hands_by co old new note done failed handed written runs holds w out

------ requests

responds_by : (co : Coordinator) (old new : CoordinatorState) (a : Answer) (reply : Reply)
    (handed : List Message) (note : Option TxnEntry) → RunsAs co old → IsHeld old
    → RespondsBy old new a reply handed note
    → Does (λ store. replies co store a reply note) old new handed
responds_by co old new a reply handed None runs holds r =
    rests co old new handed (reply a.code a.held ∷ []) (λ store. replies co store a reply None)
    runs r.0 r.1 (λ store. refl)
responds_by co old new a reply handed (Some note) runs holds r =
    hands co old new note (reply a.code a.held ∷ []) (reply KafkaStorageError None ∷ []) handed
    runs holds r

-- a request was answered
pub responds : (co : Coordinator) (old new : CoordinatorState) (a : Answer) (reply : Reply)
    (handed : List Message) → RunsAs co old → IsHeld old → Responds old new a reply handed
    → Does (λ store. replies_with co store reply a) old new handed
responds co old new a reply handed runs holds r =
    responds_by co old new a reply handed a.note runs holds r

------ time

expires_by : (co : Coordinator) (old new : CoordinatorState) (handed : List Message)
    (row : Option Row) → RunsAs co old → IsHeld old → ExpiresBy old new handed row
    → Does (λ store. expires_row co store row) old new handed
expires_by co old new handed None runs holds e =
    rests co old new handed [] (λ store. expires_row co store None) runs e.0 e.1 (λ store. refl)
expires_by co old new handed (Some row) runs holds e =
    hands co old new (Written row) [] [] handed runs holds e

-- it is this moment
pub expires_so : (co : Coordinator) (old new : CoordinatorState) (now : ℕ) (handed : List Message)
    → RunsAs co old → IsHeld old → Expires old new now handed
    → Does (λ store. expires co now store) old new handed
expires_so co old new now handed runs holds e =
    let later : CoordinatorState = record old { clock = max old.clock now } in
    let on : RunsAs (record co { clock = max co.clock now }) later = record {
      notes = runs.notes;
      closed = runs.closed;
      clock = ap (λ c. max c now) runs.clock;
      answered = runs.answered;
      stored = runs.stored;
      behind = runs.behind;
    } in
    let done = expires_by (record co { clock = max co.clock now }) later new handed
    (expire (notes_of co) now) on holds
    (subst (λ (ns : List TxnEntry). ExpiresBy later new handed (expire ns now)) runs.notes e) in
    record {
      store = done.store;
      allowed = done.allowed;
      stands = done.stands;
      handed_is = done.handed_is;
    }
