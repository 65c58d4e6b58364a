-- A step of the server as one that a machine makes.
use Rattle.std.proofs.Common.{◌≡◌, ◌⊎◌, inl, inr, ◌==◌, ℕ, Bool, true, false, cond, List, [], ◌∷◌}
use Rattle.std.proofs.Common.{refl, sym, ap, Option}
use Rattle.std.proofs.Common.{◌∙◌, subst}
use Rattle.std.specs.Prelude.{not, ◌&&◌}
use Rattle.kx_broker.specs.Serving.{IsServed, MayDo, Puts, Restarts, Serves, Serving, StandsFor}
use Rattle.kx_broker.specs.Serving.{closes, has_failed}
use Rattle.kx_broker.specs.declared.restart.Restarted.TheVariants as restarted
use Rattle.kx_broker.proofs.Stores.{any_allowed, as_allowed, none_taken}
use Rattle.kx_machine.specs.Meaning.{AtClient, AtCoordinator, AtPartition, AtProcessor, IsTaken}
use Rattle.kx_machine.specs.Meaning.{NodeState}
use Rattle.kx_machine.specs.Meaning.{entry_bytes, finds, node_step}
use Rattle.kx_machine.specs.Meaning.{command_of, input_of, taken_of}
use Rattle.kx_machine.specs.declared.input.Command as running
use Rattle.kx_machine.specs.declared.input.Input as given
use Rattle.kx_machine.specs.declared.input.Input.TheVariants as input
use Rattle.kx_machine.specs.declared.taken.Closing.TheVariants.{Read}
use Rattle.kx_machine.specs.declared.taken.Taken.{Taken}
use Rattle.kx_machine.specs.declared.taken.Note.TheVariants as note
use Rattle.kx_message.specs.Ranges.{offsets_partition}
use Rattle.kx_message.specs.declared.message.Message.{Message}
use Rattle.kx_model.specs.Disk.{Store, reopening}
use Rattle.kx_model.specs.Groups.{judge_drop}
use Rattle.kx_model.specs.PartitionNode.{Partition, Served, changed, data_takes, entries_of}
use Rattle.kx_model.specs.PartitionNode.{node_takes, offsets_takes, partition_restarts, puts}
use Rattle.kx_model.specs.Client.{Command}
use Rattle.kx_model.specs.Step as step
use Rattle.kx_model.specs.Step.{Input, Comes, Commands, Expires, Reminds, Drops, NodeStep}
use Rattle.kx_model.specs.Step.{StepNote, Coded, Done, PutAt, plain_text}
use Rattle.kx_partition.specs.declared.answer.Produced.{Produced}

no_change : (closed : Bool) → false ≡ (not closed && closed)
no_change true = refl
no_change false = refl

module _ (number : ℕ) (p : Partition) (old new : Serving)
    (own : (number == offsets_partition) ≡ false) where
  abbrev before : NodeState
  before = AtPartition number p

  -- a message came
  pub delivered : (m : Message) (messages : List Message) (failed : Bool)
      → Serves (IsServed number) p old new (λ store. data_takes number p store m) messages
      → failed ≡ has_failed old new
      → IsTaken before (Comes m) (MayDo old) (λ s. StandsFor s new)
      (record { messages = messages; note = note.Done; failed = failed; found = false })
  delivered m messages failed s is_failed =
      let each : (store : Store) → node_takes number p store m ≡ data_takes number p store m =
      λ store. ap (λ b. cond b (offsets_takes p store m) (data_takes number p store m)) own in
      let at : node_takes number p s.store m ≡ data_takes number p s.store m = each s.store in
      let handed = s.answers.0 ∙ ap (λ (x : Served). x.1) (sym at) in
      let fails = is_failed ∙ s.answers.1 ∙ ap (λ (x : Served). closes p x.0) (sym at) in
      record {
        store = s.store;
        allowed = as_allowed old.log.store.appends old.log.store.loads s.store
            (λ store. (data_takes number p store m).0) (λ store. (node_takes number p store m).0)
            (λ store. ap (λ (x : Served). x.0) (each store)) s.allowed;
        stands = (own, subst (λ (x : Served). IsServed number x.0 new) (sym at) s.stands);
        answer = λ i. record {
          messages = handed i;
          note = note.Done;
          failed = fails i;
          found = false;
        };
      }

  -- a batch of no producer was put
  pub was_put : (value : List ℕ) (more : List (List ℕ)) (answer : Produced) (failed : Bool)
      → Puts (IsServed number) p old new (λ store. puts p store (plain_text (value ∷ more))) answer
      → failed ≡ has_failed old new
      → IsTaken before (step.Puts value more) (MayDo old) (λ s. StandsFor s new)
      (record { messages = []; note = note.Put answer; failed = failed; found = false })
  was_put value more answer failed s is_failed =
      let t = puts p s.store (plain_text (value ∷ more)) in
      let state : cond (number == offsets_partition) p t.partition ≡ t.partition =
      ap (λ b. cond b p t.partition) own in
      let told : cond (number == offsets_partition) Done (PutAt t.code t.offset)
      ≡ PutAt t.code t.offset = ap (λ b. cond b Done (PutAt t.code t.offset)) own in
      let fails = is_failed ∙ s.answers.1 in
      record {
        store = s.store;
        allowed = as_allowed old.log.store.appends old.log.store.loads s.store
            (λ store. (puts p store (plain_text (value ∷ more))).partition)
            (λ store. cond (number == offsets_partition) p
            (puts p store (plain_text (value ∷ more))).partition)
            (λ store. ap (λ b. cond b p (puts p store (plain_text (value ∷ more))).partition) own)
            s.allowed;
        stands = (own, subst (λ (q : Partition). IsServed number q new) (sym state) s.stands);
        answer = (λ i. record {
          messages = [];
          note = note.Put (s.answers.0 i);
          failed = fails i;
          found = false;
        }) ∙ λ i. taken_of before (step.Puts value more) (record {
          state = AtPartition number (sym state i);
          messages = [];
          note = sym told i;
        });
      }

  -- it was opened again
  pub was_read : (now : ℕ) (found failed : Bool)
      → Restarts (IsServed number) p old new (restarted.Read found) → failed ≡ has_failed old new
      → IsTaken before (step.Restarts now) (MayDo old) (λ s. StandsFor s new)
      (record { messages = []; note = note.Done; failed = failed; found = found })
  was_read now found failed s is_failed =
      let after = partition_restarts p (reopening s.store) in
      let fails = is_failed ∙ s.answers.2 in
      record {
        store = s.store;
        allowed = s.allowed;
        stands = (own, s.stands);
        answer = (λ i. record {
          messages = [];
          note = note.Done;
          failed = fails i;
          found = s.answers.1 i;
        }) ∙ λ i. taken_of before (step.Restarts now) (record {
          state = AtPartition number after;
          messages = [];
          note = sym s.answers.0 i;
        });
      }

  -- it couldn't be
  pub was_unread : (now : ℕ) (failed : Bool) → Restarts (IsServed number) p old new restarted.Unread
      → failed ≡ has_failed old new
      → IsTaken before (step.Restarts now) (MayDo old) (λ s. StandsFor s new)
      (record { messages = []; note = note.Closed Read; failed = failed; found = false })
  was_unread now failed s is_failed =
      let after = partition_restarts p (reopening s.store) in
      let fails = is_failed ∙ s.answers.1 in
      record {
        store = s.store;
        allowed = s.allowed;
        stands = (own, s.stands);
        answer = (λ i. record {
          messages = [];
          note = note.Closed Read;
          failed = fails i;
          found = false;
        }) ∙ λ i. taken_of before (step.Restarts now) (record {
          state = AtPartition number after;
          messages = [];
          note = sym s.answers.0 i;
        });
      }

module _ (number : ℕ) (p : Partition) (old : Serving)
    (own : (number == offsets_partition) ≡ false) (is : IsServed number p old) where
  -- what isn't for a data partition
  rests_at : (asked : Input) → ((store : Store) → node_step (AtPartition number p) store asked
      ≡ record { state = AtPartition number p; messages = []; note = Done })
      → finds (AtPartition number p) asked Done ≡ false
      → IsTaken (AtPartition number p) asked (MayDo old) (λ s. StandsFor s old)
      (record { messages = []; note = note.Done; failed = false; found = false })
  rests_at asked rests never =
      let here = AtPartition number p in
      let any = any_allowed old.log.store.appends old.log.store.loads (entry_bytes here asked)
      (none_taken here here asked (λ store. ap (λ (s : NodeStep NodeState). s.state) (rests store)))
      in
      let at = rests any.store in
      let stays = no_change p.disk.closed in
      record {
        store = any.store;
        allowed = any.allowed;
        stands = subst (λ (s : NodeStep NodeState). StandsFor s.state old) (sym at) (own, is);
        answer = (λ i. record {
          messages = [];
          note = note.Done;
          failed = stays i;
          found = sym never i;
        }) ∙ ap (taken_of (AtPartition number p) asked) (sym at);
      }

  pub commanded : (what : Command) → IsTaken (AtPartition number p) (Commands what) (MayDo old)
      (λ s. StandsFor s old)
      (record { messages = []; note = note.Done; failed = false; found = false })
  commanded what = rests_at (Commands what) (λ store. refl) refl

  pub expired : (now : ℕ) → IsTaken (AtPartition number p) (Expires now) (MayDo old)
      (λ s. StandsFor s old)
      (record { messages = []; note = note.Done; failed = false; found = false })
  expired now = rests_at (Expires now) (λ store. refl) refl

  pub reminded : IsTaken (AtPartition number p) Reminds (MayDo old) (λ s. StandsFor s old)
      (record { messages = []; note = note.Done; failed = false; found = false })
  reminded = rests_at Reminds (λ store. refl) refl

  -- the members of groups are the offsets partition's
  pub not_dropped : (group : List ℕ) (member : ℕ)
      → IsTaken (AtPartition number p) (Drops group member) (MayDo old) (λ s. StandsFor s old)
      (record { messages = []; note = note.Done; failed = false; found = false })
  not_dropped group member =
      rests_at (Drops group member)
      (λ store. let t = changed p store (judge_drop (entries_of p) group member) in
      λ i. record {
        state = AtPartition number (cond (own i) t.partition p);
        messages = [];
        note = cond (own i) (Coded t.code) Done;
      }) refl

------ whatever it stands for

module _ (old new : Serving) where
  pub delivered_any : (m : Message) (messages : List Message) (failed : Bool)
      → ((number : ℕ) (p : Partition) → IsServed number p old
      → Serves (IsServed number) p old new (λ store. data_takes number p store m) messages)
      → failed ≡ has_failed old new → (state : NodeState) → StandsFor state old
      → IsTaken state (Comes m) (MayDo old) (λ s. StandsFor s new)
      (record { messages = messages; note = note.Done; failed = failed; found = false })
  delivered_any m messages failed serves same (AtCoordinator co) stands = absurd stands
  delivered_any m messages failed serves same (AtClient client) stands = absurd stands
  delivered_any m messages failed serves same (AtProcessor processor) stands = absurd stands
  delivered_any m messages failed serves same (AtPartition number p) stands =
      delivered number p old new stands.0 m messages failed (serves number p stands.1) same

  pub put_any : (value : List ℕ) (more : List (List ℕ)) (answer : Produced) (failed : Bool)
      → ((number : ℕ) (p : Partition) → IsServed number p old
      → Puts (IsServed number) p old new (λ store. puts p store (plain_text (value ∷ more))) answer)
      → failed ≡ has_failed old new → (state : NodeState) → StandsFor state old
      → IsTaken state (step.Puts value more) (MayDo old) (λ s. StandsFor s new)
      (record { messages = []; note = note.Put answer; failed = failed; found = false })
  put_any value more answer failed serves same (AtCoordinator co) stands = absurd stands
  put_any value more answer failed serves same (AtClient client) stands = absurd stands
  put_any value more answer failed serves same (AtProcessor processor) stands = absurd stands
  put_any value more answer failed serves same (AtPartition number p) stands =
      was_put number p old new stands.0 value more answer failed (serves number p stands.1) same

  pub read_any : (now : ℕ) (found failed : Bool)
      → ((number : ℕ) (p : Partition) → IsServed number p old
      → Restarts (IsServed number) p old new (restarted.Read found))
      → failed ≡ has_failed old new → (state : NodeState) → StandsFor state old
      → IsTaken state (step.Restarts now) (MayDo old) (λ s. StandsFor s new)
      (record { messages = []; note = note.Done; failed = failed; found = found })
  read_any now found failed serves same (AtCoordinator co) stands = absurd stands
  read_any now found failed serves same (AtClient client) stands = absurd stands
  read_any now found failed serves same (AtProcessor processor) stands = absurd stands
  read_any now found failed serves same (AtPartition number p) stands =
      was_read number p old new stands.0 now found failed (serves number p stands.1) same

  pub unread_any : (now : ℕ) (failed : Bool)
      → ((number : ℕ) (p : Partition) → IsServed number p old
      → Restarts (IsServed number) p old new restarted.Unread)
      → failed ≡ has_failed old new → (state : NodeState) → StandsFor state old
      → IsTaken state (step.Restarts now) (MayDo old) (λ s. StandsFor s new)
      (record { messages = []; note = note.Closed Read; failed = failed; found = false })
  unread_any now failed serves same (AtCoordinator co) stands = absurd stands
  unread_any now failed serves same (AtClient client) stands = absurd stands
  unread_any now failed serves same (AtProcessor processor) stands = absurd stands
  unread_any now failed serves same (AtPartition number p) stands =
      was_unread number p old new stands.0 now failed (serves number p stands.1) same

  pub still_any : ((number : ℕ) (p : Partition) → IsServed number p old → IsServed number p new)
      → (state : NodeState) → StandsFor state old → StandsFor state new
  still_any still (AtCoordinator co) stands = stands
  still_any still (AtClient client) stands = stands
  still_any still (AtProcessor processor) stands = stands
  still_any still (AtPartition number p) stands = (stands.0, still number p stands.1)

-- what isn't for a data partition
pub data IsOther : Input → Type 0 where
  OtherCommand : (what : Command) → IsOther (Commands what)
  OtherExpire : (now : ℕ) → IsOther (Expires now)
  OtherRemind : IsOther Reminds
  OtherDrop : (group : List ℕ) (member : ℕ) → IsOther (Drops group member)

pub rests_any : (old : Serving) (asked : Input) → IsOther asked → (state : NodeState)
    → StandsFor state old → IsTaken state asked (MayDo old) (λ s. StandsFor s old)
    (record { messages = []; note = note.Done; failed = false; found = false })
rests_any old asked other (AtCoordinator co) stands = absurd stands
rests_any old asked other (AtClient client) stands = absurd stands
rests_any old asked other (AtProcessor processor) stands = absurd stands
rests_any old asked (OtherCommand what) (AtPartition number p) stands =
    commanded number p old stands.0 stands.1 what
rests_any old asked (OtherExpire now) (AtPartition number p) stands =
    expired number p old stands.0 stands.1 now
rests_any old asked OtherRemind (AtPartition number p) stands =
    reminded number p old stands.0 stands.1
rests_any old asked (OtherDrop group member) (AtPartition number p) stands =
    not_dropped number p old stands.0 stands.1 group member

-- an input is one of these
pub is_other : (i : given.Input)
    → ((x : running.Command) × (i ≡ input.Command x)) ⊎ (((x : ℕ) × (i ≡ input.Expire x))
    ⊎ ((i ≡ input.Remind) ⊎ ((x : List ℕ) × (y : ℕ) × (i ≡ input.Drop x y))))
    → IsOther (input_of i)
is_other i (inl h) =
    subst (λ (j : given.Input). IsOther (input_of j)) (sym h.1) (OtherCommand (command_of h.0))
is_other i (inr (inl h)) =
    subst (λ (j : given.Input). IsOther (input_of j)) (sym h.1) (OtherExpire h.0)
is_other i (inr (inr (inl e))) =
    subst (λ (j : given.Input). IsOther (input_of j)) (sym e) OtherRemind
is_other i (inr (inr (inr h))) =
    subst (λ (j : given.Input). IsOther (input_of j)) (sym h.2) (OtherDrop h.0 h.1)

-- the same of what is seen
pub taken_as : (state : NodeState) (May : Option ℕ → Store → Type 0) (Stands : NodeState → Type 0)
    (asked seen : Input) (taken told : Taken) → seen ≡ asked → told ≡ taken
    → IsTaken state asked May Stands taken → IsTaken state seen May Stands told
taken_as state May Stands asked seen taken told e f h =
    subst (λ (i : Input). IsTaken state i May Stands told) (sym e)
    (subst (λ (t : Taken). IsTaken state asked May Stands t) (sym f) h)
