-- Inputs that open nothing again: what the machine answers to them.
use Rattle.std.proofs.Common.{◌≡◌, ◌∙◌, ℕ, Bool, true, false, not, List, [], refl, sym, ap, subst}
use Rattle.std.proofs.Common.{Option}
use Rattle.std.specs.Prelude.{◌&&◌}
use Rattle.kx_message.specs.Messages as the
use Rattle.kx_message.specs.declared.message.Message.{Message}
use Rattle.kx_message.specs.declared.message.Message.TheVariants as msg
use Rattle.kx_message.specs.declared.requests.AddPartition.{AddPartition}
use Rattle.kx_message.specs.declared.requests.EndTxn.{EndTxn}
use Rattle.kx_message.specs.declared.requests.InitProducerId.{InitProducerId}
use Rattle.kx_message.specs.declared.replies.MarkerReply.{MarkerReply}
use Rattle.kx_machine.specs.Meaning.{AtCoordinator, AtPartition, AtClient, AtProcessor, IsTaken}
use Rattle.kx_machine.specs.Meaning.{appended_bytes, finds, note_bytes, of_kind, taken_of}
use Rattle.kx_machine.specs.declared.taken.Note.TheVariants as note
use Rattle.kx_machine.specs.declared.taken.Taken.{Taken}
use Rattle.kx_model.specs.Coordinator.{TxnEntry}
use Rattle.kx_model.specs.CoordinatorNode.{Coordinated, Coordinator, coordinator_takes, expires}
use Rattle.kx_model.specs.CoordinatorNode.{notes_of, reminds}
use Rattle.kx_model.specs.Disk.{Store, Fails}
use Rattle.kx_model.specs.Markers.{remind}
use Rattle.kx_model.specs.Requests.{add, end_txn, init}
use Rattle.kx_model.specs.Step.{Input, Comes, Expires, Reminds, NodeStep, Done, coordinates}
use Rattle.kx_model.specs.Step.{coordinator_step}
use Rattle.kx_coord.specs.Calls.{Responds, Settles}
use Rattle.kx_coord.specs.Calls as calls
use Rattle.kx_coord.specs.CoordinatorState.{CoordinatorState}
use Rattle.kx_coord.specs.Noted.{answered}
use Rattle.kx_coord_node.specs.Stands.{MayDo, RunsAs, Stands, Takes}
use Rattle.kx_coord_node.proofs.Same.{remind_same}
use Rattle.kx_coord_node.proofs.Settling.{settles}
use Rattle.kx_coord_node.proofs.Steps.{Does, IsHeld, expires_so, responds, rests}

-- only a coordinator is stood for
pub at_coordinator : (input : Input) (old new : CoordinatorState) (t : Taken)
    → ((co : Coordinator) → RunsAs co old
    → IsTaken (AtCoordinator co) input (MayDo old) (λ s. Stands s new) t)
    → Takes input old new t
at_coordinator input old new t by (AtCoordinator co) runs = by co runs
at_coordinator input old new t by (AtPartition number p) runs = absurd runs
at_coordinator input old new t by (AtClient c) runs = absurd runs
at_coordinator input old new t by (AtProcessor p) runs = absurd runs

pub never_both : (b : Bool) → (not b && b) ≡ false
never_both true = refl
never_both false = refl

-- what is answered beside these messages
abbrev pub answer_of : CoordinatorState → CoordinatorState → List Message → Taken
answer_of old new handed = record {
  messages = handed;
  note = note.Done;
  failed = not old.log.closed && new.log.closed;
  found = false;
}

-- what is answered if the log was closed before, or wasn't
pub answered_so : (old new : CoordinatorState) (handed : List Message) (was : Bool) (t : Taken)
    → t ≡ record {
      messages = handed;
      note = note.Done;
      failed = not was && new.log.closed;
      found = false;
    } → was ≡ old.log.closed → t ≡ answer_of old new handed
answered_so old new handed was t is same =
    is ∙ ap (λ (b : Bool). record {
      messages = handed;
      note = note.Done;
      failed = not b && new.log.closed;
      found = false;
    }) same

-- a step that is the definitions'
taken : (co : Coordinator) (old new : CoordinatorState) (input : Input)
    (step : Store → Coordinated) (handed : List Message) (t : Taken) → RunsAs co old
    → ((store : Store) → coordinator_step co store input ≡ coordinates (step store) Done)
    → finds (AtCoordinator co) input Done ≡ false → Does step old new handed
    → t ≡ answer_of old new handed
    → IsTaken (AtCoordinator co) input (MayDo old) (λ s. Stands s new) t
taken co old new input step handed t runs steps none does is =
    let store = does.store in
    let before = AtCoordinator co in
    record {
      store = store;
      allowed = subst (λ (z : Option ℕ). MayDo old z store)
          (sym (λ i. appended_bytes (note_bytes (steps (Fails false) i).state.disk.hidden)
          (note_bytes (steps (Fails true) i).state.disk.hidden))) does.allowed;
      stands = subst (λ (s : NodeStep Coordinator). RunsAs s.state new) (sym (steps store))
          does.stands;
      answer = is
          ∙ ap (λ (ms : List Message). answer_of old new ms) does.handed_is
          ∙ ap (λ (b : Bool). record {
            messages = (step store).1;
            note = note.Done;
            failed = not b && new.log.closed;
            found = false;
          }) runs.closed
          ∙ ap (λ (b : Bool). record {
            messages = (step store).1;
            note = note.Done;
            failed = not co.disk.closed && b;
            found = false;
          }) does.stands.closed
          ∙ ap (λ (b : Bool). record {
            messages = (step store).1;
            note = note.Done;
            failed = not co.disk.closed && (step store).0.disk.closed;
            found = b;
          }) (sym none)
          ∙ sym (ap (λ (s : NodeStep Coordinator). taken_of before input (of_kind AtCoordinator s))
          (steps store));
    }

------ requests

pub takes_init : (old new : CoordinatorState) (it : InitProducerId) (handed : List Message)
    (t : Taken) → IsHeld old
    → Responds old new (init old.log.notes it.caller.client it.txn it.timeout)
    (the.InitReply it.caller) handed
    → t ≡ answer_of old new handed → Takes (Comes (msg.InitProducerId it)) old new t
takes_init old new it handed t holds r is =
    at_coordinator (Comes (msg.InitProducerId it)) old new t (λ co runs.
    taken co old new (Comes (msg.InitProducerId it))
    (λ store. coordinator_takes co store (msg.InitProducerId it)) handed t runs (λ store. refl) refl
    (responds co old new (init (notes_of co) it.caller.client it.txn it.timeout)
    (the.InitReply it.caller) handed runs holds
    (subst (λ (ns : List TxnEntry). Responds old new (init ns it.caller.client it.txn it.timeout)
    (the.InitReply it.caller) handed) runs.notes r)) is)

pub takes_end : (old new : CoordinatorState) (it : EndTxn) (handed : List Message)
    (t : Taken) → IsHeld old
    → Responds old new (end_txn old.log.notes it.txn it.held it.outcome) (the.EndReply it.caller)
    handed
    → t ≡ answer_of old new handed → Takes (Comes (msg.EndTxn it)) old new t
takes_end old new it handed t holds r is =
    at_coordinator (Comes (msg.EndTxn it)) old new t (λ co runs.
    taken co old new (Comes (msg.EndTxn it))
    (λ store. coordinator_takes co store (msg.EndTxn it)) handed t runs (λ store. refl) refl
    (responds co old new (end_txn (notes_of co) it.txn it.held it.outcome)
    (the.EndReply it.caller) handed runs holds
    (subst (λ (ns : List TxnEntry). Responds old new (end_txn ns it.txn it.held it.outcome)
    (the.EndReply it.caller) handed) runs.notes r)) is)

pub takes_add : (old new : CoordinatorState) (it : AddPartition) (handed : List Message)
    (t : Taken) → IsHeld old
    → Responds old new (add old.log.notes old.clock it.txn it.held it.partition)
    (λ code after. the.AddReply it.partition it.txn it.held code) handed
    → t ≡ answer_of old new handed → Takes (Comes (msg.AddPartition it)) old new t
takes_add old new it handed t holds r is =
    at_coordinator (Comes (msg.AddPartition it)) old new t (λ co runs.
    taken co old new (Comes (msg.AddPartition it))
    (λ store. coordinator_takes co store (msg.AddPartition it)) handed t runs (λ store. refl) refl
    (responds co old new (add (notes_of co) co.clock it.txn it.held it.partition)
    (λ code after. the.AddReply it.partition it.txn it.held code) handed runs holds
    (subst (λ (ns : List TxnEntry). Responds old new (add ns co.clock it.txn it.held it.partition)
    (λ code after. the.AddReply it.partition it.txn it.held code) handed) runs.notes
    (subst (λ (now : ℕ). Responds old new (add old.log.notes now it.txn it.held it.partition)
    (λ code after. the.AddReply it.partition it.txn it.held code) handed) runs.clock r))) is)

------ replies to markers

pub takes_reply : (old new : CoordinatorState) (it : MarkerReply) (handed : List Message)
    (t : Taken) → IsHeld old → Settles old new (answered it.txn it.held it.partition) it.code
    → handed ≡ [] → t ≡ answer_of old new handed
    → Takes (Comes (msg.MarkerReply it)) old new t
takes_reply old new it handed t holds s none is =
    at_coordinator (Comes (msg.MarkerReply it)) old new t (λ co runs.
    taken co old new (Comes (msg.MarkerReply it))
    (λ store. coordinator_takes co store (msg.MarkerReply it)) [] t runs (λ store. refl) refl
    (settles co old new (answered it.txn it.held it.partition) it.code runs holds s)
    (is ∙ ap (λ (ms : List Message). answer_of old new ms) none))

------ time and reminders

pub takes_time : (old new : CoordinatorState) (now : ℕ) (handed : List Message) (t : Taken)
    → IsHeld old → calls.Expires old new now handed → t ≡ answer_of old new handed
    → Takes (Expires now) old new t
takes_time old new now handed t holds e is =
    at_coordinator (Expires now) old new t (λ co runs.
    taken co old new (Expires now) (λ store. expires co now store) handed t runs (λ store. refl)
    refl (expires_so co old new now handed runs holds e) is)

pub takes_reminder : (old : CoordinatorState) (handed : List Message) (t : Taken)
    → handed ≡ remind old.log.notes old.answered → t ≡ answer_of old old handed
    → Takes Reminds old old t
takes_reminder old handed t handed_is is =
    at_coordinator Reminds old old t (λ co runs.
    taken co old old Reminds (λ store. reminds co) handed t runs (λ store. refl) refl
    (rests co old old handed (remind (notes_of co) co.answered) (λ store. reminds co) runs refl
    (handed_is ∙ ap (λ (log : List TxnEntry). remind log old.answered) runs.notes
    ∙ remind_same (notes_of co) old.answered co.answered runs.answered.same)
    (λ store. refl)) is)

------ what isn't for it

abbrev pub IsIdle : Input → Type 0
IsIdle input = ((co : Coordinator) (store : Store) → coordinator_step co store input
    ≡ coordinates (co, []) Done)
    × ((co : Coordinator) → finds (AtCoordinator co) input Done ≡ false)

pub takes_nothing : (input : Input) (old : CoordinatorState) (t : Taken) → IsIdle input
    → t ≡ record { messages = []; note = note.Done; failed = false; found = false }
    → Takes input old old t
takes_nothing input old t idle is =
    at_coordinator input old old t (λ co runs.
    taken co old old input (λ store. (co, [])) [] t runs (idle.0 co) (idle.1 co)
    (rests co old old [] [] (λ store. (co, [])) runs refl refl (λ store. refl))
    (is ∙ ap (λ (b : Bool). record {
      messages = [];
      note = note.Done;
      failed = b;
      found = false;
    }) (sym (never_both old.log.closed))))

-- a message that is for another node
pub takes_other : (m : Message) (old : CoordinatorState) (t : Taken)
    → ((it : InitProducerId) → m ≡ msg.InitProducerId it → ⊥)
    → ((it : AddPartition) → m ≡ msg.AddPartition it → ⊥)
    → ((it : EndTxn) → m ≡ msg.EndTxn it → ⊥)
    → ((it : MarkerReply) → m ≡ msg.MarkerReply it → ⊥)
    → t ≡ record { messages = []; note = note.Done; failed = false; found = false }
    → Takes (Comes m) old old t
takes_other (msg.InitProducerId it) old t no_init no_add no_end no_reply is =
    absurd (no_init it refl)
takes_other (msg.AddPartition it) old t no_init no_add no_end no_reply is =
    absurd (no_add it refl)
takes_other (msg.EndTxn it) old t no_init no_add no_end no_reply is = absurd (no_end it refl)
takes_other (msg.MarkerReply it) old t no_init no_add no_end no_reply is =
    absurd (no_reply it refl)
takes_other m old t no_init no_add no_end no_reply is =
    takes_nothing (Comes m) old t (λ co store. refl, λ co. refl) is
