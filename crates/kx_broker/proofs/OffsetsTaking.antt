-- A step of the server of the offsets partition as one that a machine makes.
use Rattle.std.proofs.Common.{◌≡◌, ◌⊎◌, inl, inr, ℕ, Bool, true, false, List, []}
use Rattle.std.proofs.Common.{refl, sym, ap}
use Rattle.std.proofs.Common.{◌∙◌, subst}
use Rattle.std.specs.Prelude.{not, ◌&&◌}
use Rattle.kx_broker.specs.Offsets.{DropsMember, KeepsOffsets, StandsForGroups}
use Rattle.kx_broker.specs.Serving.{MayDo, Restarts, Serves, Serving, has_failed}
use Rattle.kx_broker.specs.declared.restart.Restarted.TheVariants as restarted
use Rattle.kx_broker.proofs.Stores.{any_allowed, none_taken}
use Rattle.kx_client.specs.declared.values.Values.{Values}
use Rattle.kx_machine.specs.Meaning.{AtClient, AtCoordinator, AtPartition, AtProcessor, IsTaken}
use Rattle.kx_machine.specs.Meaning.{NodeState}
use Rattle.kx_machine.specs.Meaning.{command_of, entry_bytes, finds, input_of, node_step}
use Rattle.kx_machine.specs.Meaning.{taken_of}
use Rattle.kx_machine.specs.declared.input.Command as running
use Rattle.kx_machine.specs.declared.input.Input as given
use Rattle.kx_machine.specs.declared.input.Input.TheVariants as input
use Rattle.kx_machine.specs.declared.taken.Closing.TheVariants.{Read}
use Rattle.kx_machine.specs.declared.taken.Note.TheVariants as note
use Rattle.kx_message.specs.Ranges.{offsets_partition}
use Rattle.kx_message.specs.declared.code.ErrorCode.{ErrorCode}
use Rattle.kx_message.specs.declared.message.Message.{Message}
use Rattle.kx_model.specs.Client.{Command}
use Rattle.kx_model.specs.Disk.{Store, reopening}
use Rattle.kx_model.specs.Groups.{judge_drop}
use Rattle.kx_model.specs.PartitionNode.{Partition, changed, entries_of, offsets_takes}
use Rattle.kx_model.specs.PartitionNode.{partition_restarts}
use Rattle.kx_model.specs.Step as step
use Rattle.kx_model.specs.Step.{Input, Comes, Commands, Expires, Reminds, Drops, Done}

abbrev here : Partition → NodeState
here p = AtPartition offsets_partition p

no_change : (closed : Bool) → false ≡ (not closed && closed)
no_change true = refl
no_change false = refl

module _ (p : Partition) (old new : Serving) where
  -- a message came
  delivered : (m : Message) (messages : List Message) (failed : Bool)
      → Serves KeepsOffsets p old new (λ store. offsets_takes p store m) messages
      → failed ≡ has_failed old new
      → IsTaken (here p) (Comes m) (MayDo old) (λ s. StandsForGroups s new)
      (record { messages = messages; note = note.Done; failed = failed; found = false })
  delivered m messages failed s is_failed =
      let fails = is_failed ∙ s.answers.1 in
      record {
        store = s.store;
        allowed = s.allowed;
        stands = (refl, s.stands);
        answer = λ i. record {
          messages = s.answers.0 i;
          note = note.Done;
          failed = fails i;
          found = false;
        };
      }

  -- a member was dropped
  was_dropped : (group : List ℕ) (member : ℕ) (c : ErrorCode) (failed : Bool)
      → DropsMember KeepsOffsets p old new
      (λ store. changed p store (judge_drop (entries_of p) group member)) c
      → failed ≡ has_failed old new
      → IsTaken (here p) (Drops group member) (MayDo old) (λ s. StandsForGroups s new)
      (record { messages = []; note = note.Code c; failed = failed; found = false })
  was_dropped group member c failed s is_failed =
      let fails = is_failed ∙ s.answers.1 in
      record {
        store = s.store;
        allowed = s.allowed;
        stands = (refl, s.stands);
        answer = λ i. record {
          messages = [];
          note = note.Code (s.answers.0 i);
          failed = fails i;
          found = false;
        };
      }

  -- it was opened again
  was_read : (now : ℕ) (found failed : Bool)
      → Restarts KeepsOffsets p old new (restarted.Read found) → failed ≡ has_failed old new
      → IsTaken (here p) (step.Restarts now) (MayDo old) (λ s. StandsForGroups s new)
      (record { messages = []; note = note.Done; failed = failed; found = found })
  was_read now found failed s is_failed =
      let after = partition_restarts p (reopening s.store) in
      let fails = is_failed ∙ s.answers.2 in
      record {
        store = s.store;
        allowed = s.allowed;
        stands = (refl, s.stands);
        answer = (λ i. record {
          messages = [];
          note = note.Done;
          failed = fails i;
          found = s.answers.1 i;
        }) ∙ λ i. taken_of (here p) (step.Restarts now) (record {
          state = here after;
          messages = [];
          note = sym s.answers.0 i;
        });
      }

  -- it couldn't be
  was_unread : (now : ℕ) (failed : Bool) → Restarts KeepsOffsets p old new restarted.Unread
      → failed ≡ has_failed old new
      → IsTaken (here p) (step.Restarts now) (MayDo old) (λ s. StandsForGroups s new)
      (record { messages = []; note = note.Closed Read; failed = failed; found = false })
  was_unread now failed s is_failed =
      let after = partition_restarts p (reopening s.store) in
      let fails = is_failed ∙ s.answers.1 in
      record {
        store = s.store;
        allowed = s.allowed;
        stands = (refl, s.stands);
        answer = (λ i. record {
          messages = [];
          note = note.Closed Read;
          failed = fails i;
          found = false;
        }) ∙ λ i. taken_of (here p) (step.Restarts now) (record {
          state = here after;
          messages = [];
          note = sym s.answers.0 i;
        });
      }

-- what isn't for the offsets partition
pub data IsOther : Input → Type 0 where
  OtherCommand : (what : Command) → IsOther (Commands what)
  OtherExpire : (now : ℕ) → IsOther (Expires now)
  OtherRemind : IsOther Reminds
  OtherPut : (value : List ℕ) (more : List (List ℕ)) → IsOther (step.Puts value more)

module _ (p : Partition) (old : Serving) (is : KeepsOffsets p old) where
  rests_at : (asked : Input) → ((store : Store) → node_step (here p) store asked
      ≡ record { state = here p; messages = []; note = Done })
      → finds (here p) asked Done ≡ false
      → IsTaken (here p) asked (MayDo old) (λ s. StandsForGroups s old)
      (record { messages = []; note = note.Done; failed = false; found = false })
  rests_at asked rests never =
      let any = any_allowed old.log.store.appends old.log.store.loads (entry_bytes (here p) asked)
      (none_taken (here p) (here p) asked
      (λ store. ap (λ (s : step.NodeStep NodeState). s.state) (rests store))) in
      let at = rests any.store in
      let stays = no_change p.disk.closed in
      record {
        store = any.store;
        allowed = any.allowed;
        stands = subst (λ (s : step.NodeStep NodeState). StandsForGroups s.state old) (sym at)
            (refl, is);
        answer = (λ i. record {
          messages = [];
          note = note.Done;
          failed = stays i;
          found = sym never i;
        }) ∙ ap (taken_of (here p) asked) (sym at);
      }

  rests_here : (asked : Input) → IsOther asked
      → IsTaken (here p) asked (MayDo old) (λ s. StandsForGroups s old)
      (record { messages = []; note = note.Done; failed = false; found = false })
  rests_here asked (OtherCommand what) = rests_at (Commands what) (λ store. refl) refl
  rests_here asked (OtherExpire now) = rests_at (Expires now) (λ store. refl) refl
  rests_here asked OtherRemind = rests_at Reminds (λ store. refl) refl
  rests_here asked (OtherPut value more) = rests_at (step.Puts value more) (λ store. refl) refl

------ whatever it stands for

-- it stands for the node of the offsets partition alone
pub at_partition : (old : Serving) (Goal : NodeState → Type 0)
    → ((p : Partition) → KeepsOffsets p old → Goal (here p))
    → (state : NodeState) → StandsForGroups state old → Goal state
at_partition old Goal by (AtCoordinator co) stands = absurd stands
at_partition old Goal by (AtClient client) stands = absurd stands
at_partition old Goal by (AtProcessor processor) stands = absurd stands
at_partition old Goal by (AtPartition number p) stands =
    subst (λ n. Goal (AtPartition n p)) (sym stands.0) (by p stands.1)

module _ (old new : Serving) where
  pub delivered_any : (m : Message) (messages : List Message) (failed : Bool)
      → ((p : Partition) → KeepsOffsets p old
      → Serves KeepsOffsets p old new (λ store. offsets_takes p store m) messages)
      → failed ≡ has_failed old new → (state : NodeState) → StandsForGroups state old
      → IsTaken state (Comes m) (MayDo old) (λ s. StandsForGroups s new)
      (record { messages = messages; note = note.Done; failed = failed; found = false })
  delivered_any m messages failed serves same =
      at_partition old (λ state. IsTaken state (Comes m) (MayDo old) (λ s. StandsForGroups s new)
      (record { messages = messages; note = note.Done; failed = failed; found = false }))
      (λ p is. delivered p old new m messages failed (serves p is) same)

  pub dropped_any : (group : List ℕ) (member : ℕ) (c : ErrorCode) (failed : Bool)
      → ((p : Partition) → KeepsOffsets p old → DropsMember KeepsOffsets p old new
      (λ store. changed p store (judge_drop (entries_of p) group member)) c)
      → failed ≡ has_failed old new → (state : NodeState) → StandsForGroups state old
      → IsTaken state (Drops group member) (MayDo old) (λ s. StandsForGroups s new)
      (record { messages = []; note = note.Code c; failed = failed; found = false })
  dropped_any group member c failed drops same =
      at_partition old (λ state. IsTaken state (Drops group member) (MayDo old)
      (λ s. StandsForGroups s new)
      (record { messages = []; note = note.Code c; failed = failed; found = false }))
      (λ p is. was_dropped p old new group member c failed (drops p is) same)

  pub read_any : (now : ℕ) (found failed : Bool)
      → ((p : Partition) → KeepsOffsets p old
      → Restarts KeepsOffsets p old new (restarted.Read found))
      → failed ≡ has_failed old new → (state : NodeState) → StandsForGroups state old
      → IsTaken state (step.Restarts now) (MayDo old) (λ s. StandsForGroups s new)
      (record { messages = []; note = note.Done; failed = failed; found = found })
  read_any now found failed restarts same =
      at_partition old (λ state. IsTaken state (step.Restarts now) (MayDo old)
      (λ s. StandsForGroups s new)
      (record { messages = []; note = note.Done; failed = failed; found = found }))
      (λ p is. was_read p old new now found failed (restarts p is) same)

  pub unread_any : (now : ℕ) (failed : Bool)
      → ((p : Partition) → KeepsOffsets p old
      → Restarts KeepsOffsets p old new restarted.Unread)
      → failed ≡ has_failed old new → (state : NodeState) → StandsForGroups state old
      → IsTaken state (step.Restarts now) (MayDo old) (λ s. StandsForGroups s new)
      (record { messages = []; note = note.Closed Read; failed = failed; found = false })
  unread_any now failed restarts same =
      at_partition old (λ state. IsTaken state (step.Restarts now) (MayDo old)
      (λ s. StandsForGroups s new)
      (record { messages = []; note = note.Closed Read; failed = failed; found = false }))
      (λ p is. was_unread p old new now failed (restarts p is) same)

  pub still_any : ((p : Partition) → KeepsOffsets p old → KeepsOffsets p new)
      → (state : NodeState) → StandsForGroups state old → StandsForGroups state new
  still_any still =
      at_partition old (λ state. StandsForGroups state new) (λ p is. (refl, still p is))

pub rests_any : (old : Serving) (asked : Input) → IsOther asked → (state : NodeState)
    → StandsForGroups state old → IsTaken state asked (MayDo old) (λ s. StandsForGroups s old)
    (record { messages = []; note = note.Done; failed = false; found = false })
rests_any old asked other =
    at_partition old (λ state. IsTaken state asked (MayDo old) (λ s. StandsForGroups s old)
    (record { messages = []; note = note.Done; failed = false; found = false }))
    (λ p is. rests_here p old is asked other)

-- an input is one of these
pub is_other : (i : given.Input)
    → ((x : Values) × (i ≡ input.Put x)) ⊎ (((x : running.Command) × (i ≡ input.Command x))
    ⊎ (((x : ℕ) × (i ≡ input.Expire x)) ⊎ (i ≡ input.Remind)))
    → IsOther (input_of i)
is_other i (inl h) =
    subst (λ (j : given.Input). IsOther (input_of j)) (sym h.1) (OtherPut h.0.first h.0.more)
is_other i (inr (inl h)) =
    subst (λ (j : given.Input). IsOther (input_of j)) (sym h.1) (OtherCommand (command_of h.0))
is_other i (inr (inr (inl h))) =
    subst (λ (j : given.Input). IsOther (input_of j)) (sym h.1) (OtherExpire h.0)
is_other i (inr (inr (inr e))) =
    subst (λ (j : given.Input). IsOther (input_of j)) (sym e) OtherRemind
