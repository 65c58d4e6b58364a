-- A reply to a marker, as the definitions have it.
use Rattle.std.proofs.Common.{◌≡◌, ◌∙◌, ℤ, Bool, true, false, not, List, [], refl, sym, ap}
use Rattle.std.proofs.Common.{subst, Option, Some, None}
use Rattle.std.specs.Prelude.{◌==◌, ◌&&◌, if◌then◌else◌}
use Rattle.std.specs.List.{list_all}
use Rattle.kx_message.specs.declared.code.ErrorCode.{ErrorCode}
use Rattle.kx_message.specs.declared.code.ErrorCode.TheVariants as code
use Rattle.kx_model.specs.Coordinator.{TxnEntry, Row, State, Empty, Ongoing, Prepare, Complete}
use Rattle.kx_model.specs.Coordinator.{Written}
use Rattle.kx_model.specs.Coordinator.{coordinator_epoch, lists, row_of}
use Rattle.kx_model.specs.CoordinatorNode.{Coordinator, completes, notes_of}
use Rattle.kx_model.specs.CoordinatorNode.{on_marker_reply, on_settled, writes}
use Rattle.kx_model.specs.Disk.{reread}
use Rattle.kx_model.specs.Markers.{Answered, Settled, Completes, Ignored, Noted, is_answered}
use Rattle.kx_model.specs.Markers.{markers_of, noting, settle, settle_at, settle_in}
use Rattle.kx_model.specs.Markers.{without_row}
use Rattle.kx_model.specs.Requests.{completed}
use Rattle.kx_coord.specs.Calls.{CompletesRow, IsComplete, NeedsId, Settles, SettlesBy, StaysOpen}
use Rattle.kx_txnlog.specs.LogState.{LogState}
use Rattle.kx_coord.specs.CoordinatorState.{CoordinatorState}
use Rattle.kx_coord.specs.Noted.{SameAnswered}
use Rattle.kx_coord_node.specs.Stands.{ReadAs, RunsAs}
use Rattle.kx_coord_node.proofs.Same.{same_noting, same_without, settle_same}
use Rattle.kx_coord_node.proofs.Steps.{Does, IsHeld, Writes, appends, lacks_id, rests}
use Rattle.kx_coord_node.proofs.Steps.{written_not}
use Rattle.kx_coord_node.proofs.Stores.{bytes_in, none_appended, some_store}

------ a row that is complete owes nothing

-- what is settled hands nothing out
abbrev Quiet : Settled → Type 0
Quiet Ignored = Unit {0}
Quiet Noted = Unit {0}
Quiet (Completes row) = (epoch : ℤ) → markers_of epoch row ≡ []

quiet_if : (b c : Bool) (row : Row) → ((epoch : ℤ) → markers_of epoch row ≡ [])
    → Quiet (if b then (if c then Completes row else Noted) else Ignored)
quiet_if true true row none = none
quiet_if true false row none = tt
quiet_if false c row none = tt

quiet_in : (log : List TxnEntry) (answered : List Answered) (a : Answered) (r : Row) (state : State)
    → Quiet (settle_in log answered a r state)
quiet_in log answered a r Empty = tt
quiet_in log answered a r Ongoing = tt
quiet_in log answered a r (Prepare outcome) =
    quiet_if (r.id == a.held.id && r.epoch == a.held.epoch && lists a.partition r)
    (list_all (is_answered (noting answered a) r) r.partitions) (completed log r outcome)
    (λ epoch. refl)
quiet_in log answered a r (Complete outcome) = tt

quiet_at : (log : List TxnEntry) (answered : List Answered) (a : Answered) (o : Option Row)
    → Quiet (settle_at log answered a o)
quiet_at log answered a None = tt
quiet_at log answered a (Some r) = quiet_in log answered a r r.state

quiet : (log : List TxnEntry) (answered : List Answered) (a : Answered) → Quiet
    (settle log answered a)
quiet log answered a = quiet_at log answered a (row_of log a.txn)

------ completing a row

-- the answers that are left
abbrev answers_left : Coordinator → Row → Bool → List Answered
answers_left co row written = if written then without_row co.answered row else co.answered

-- other answers are noted
answers_change : (co : Coordinator) (mid new : CoordinatorState) (xs : List Answered)
    → RunsAs co mid → SameAnswered new.answered xs
    → new ≡ record mid { answered = new.answered } → RunsAs (record co { answered = xs }) new
answers_change co mid new xs runs same rest = record {
  notes = ap (λ (c : CoordinatorState). c.log.notes) rest ∙ runs.notes;
  closed = ap (λ (c : CoordinatorState). c.log.closed) rest ∙ runs.closed;
  clock = ap (λ (c : CoordinatorState). c.clock) rest ∙ runs.clock;
  answered = same;
  stored = subst (λ (l : LogState). ReadAs l.store.bytes (reread co.disk))
      (sym (ap (λ (c : CoordinatorState). c.log) rest)) runs.stored;
  behind = runs.behind;
}

completed_by : (co : Coordinator) (old mid new : CoordinatorState) (row : Row) (written : Bool)
    → Writes co old mid (Written row) [] [] [] written
    → SameAnswered new.answered (answers_left co row written)
    → new ≡ record mid { answered = new.answered }
    → Does (λ store. completes co store row) old new []
completed_by co old mid new row written w same rest =
    let does = w.0 in
    let after = writes co does.store (Written row) [] [] in
    record {
      store = does.store;
      allowed = does.allowed;
      stands = subst
          (λ (b : Bool). RunsAs (record after.0 { answered = answers_left co row b }) new)
          (sym w.1) (answers_change after.0 mid new (answers_left co row written) does.stands same
          rest);
      handed_is = does.handed_is;
    }

completes_so : (co : Coordinator) (old new : CoordinatorState) (row : Row)
    → ((epoch : ℤ) → markers_of epoch row ≡ []) → RunsAs co old → IsHeld old
    → CompletesRow old new row → Does (λ store. completes co store row) old new []
completes_so co old new row none runs holds (NeedsId lacks same) =
    completed_by co old new new row false
    (lacks_id co old new (Written row) [] [] [] runs lacks same refl)
    (subst (λ (c : CoordinatorState). SameAnswered c.answered co.answered) (sym same)
    runs.answered) refl
completes_so co old new row none runs holds (IsComplete has done left rest) =
    completed_by co old (record old { log = new.log }) new row true
    (appends co old (record old { log = new.log }) (Written row) [] [] [] runs holds has done refl
    (sym (none (coordinator_epoch (notes_of co)))))
    (record {
      same = λ a. left.same a ∙ same_without old.answered co.answered row runs.answered.same a;
      once = left.once;
    }) rest
completes_so co old new row none runs holds (StaysOpen not) =
    let w = written_not co old new (Written row) [] [] [] runs holds not refl in
    completed_by co old new new row false w w.0.stands.answered refl

------ a reply

settles_by : (co : Coordinator) (old new : CoordinatorState) (a : Answered) (s : Settled)
    → Quiet s → RunsAs co old → IsHeld old → SettlesBy old new a s
    → Does (λ store. on_settled co store a s) old new []
settles_by co old new a Ignored none runs holds same =
    rests co old new [] [] (λ store. on_settled co store a Ignored) runs same refl (λ store. refl)
settles_by co old new a Noted none runs holds noted =
    let after = record co { answered = noting co.answered a } in
    let s = some_store old.log.store.appends old.log.store.loads (bytes_in (λ store. after))
    (none_appended (λ store. after) co.disk.hidden (λ whole. refl)) in
    let same : SameAnswered new.answered (noting co.answered a) = record {
      same = λ b. noted.0.same b
          ∙ same_noting old.answered co.answered a runs.answered.same b;
      once = noted.0.once;
    } in
    record {
      store = s.0;
      allowed = s.1;
      stands = answers_change co old new (noting co.answered a) runs same noted.1;
      handed_is = refl;
    }
settles_by co old new a (Completes row) none runs holds done =
    completes_so co old new row none runs holds done

-- a marker was answered with this code
pub settles : (co : Coordinator) (old new : CoordinatorState) (a : Answered) (c : ErrorCode)
    → RunsAs co old → IsHeld old → Settles old new a c
    → Does (λ store. on_marker_reply co store a c) old new []
settles co old new a code.NoError runs holds s =
    let here : settle old.log.notes old.answered a ≡ settle (notes_of co) co.answered a =
    ap (λ (log : List TxnEntry). settle log old.answered a) runs.notes
    ∙ settle_same (notes_of co) old.answered co.answered a runs.answered.same in
    settles_by co old new a (settle (notes_of co) co.answered a)
    (quiet (notes_of co) co.answered a) runs holds
    (subst (λ (x : Settled). SettlesBy old new a x) here s)
settles co old new a c runs holds same =
    rests co old new [] [] (λ store. (co, [])) runs same refl (λ store. refl)
