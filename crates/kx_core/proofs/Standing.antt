-- Nodes that take what they are handed stand for a world of the definitions after it.
use Rattle.std.proofs.Common.{◌≡◌, ◌≢◌, ◌<◌, ◌≤◌, ◌++◌, ◌==◌, ℕ, Bool, true, false, cond, List, []}
use Rattle.std.proofs.Common.{◌∷◌, refl, sym, ap, ◌∙◌, subst, length, Option, Some, None}
use Rattle.std.proofs.Common.{arith, inl, inr, nat_le, zero, suc, append-nil, not, ◌&&◌}
use Rattle.std.specs.Prelude.{slice_get, slice_set, IfSome, MatchResult, Result, Ok, Err}
use Rattle.std.proofs.lemmas.Bool.{cases_lt}
use Rattle.std.proofs.lemmas.Bool.Decides.{Decides-eqb, nat_tests}
use Rattle.std.proofs.lemmas.Option.{slice_get_past}
use Rattle.kx_batch.specs.Batch.{batch_limit}
use Rattle.kx_core.specs.Clients.{client_in, clients_in, with_one}
use Rattle.kx_client_node.specs.Clients.{any_store}
use Rattle.kx_client_node.specs.declared.any_client.AnyClient.{AnyClient}
use Rattle.kx_core.specs.World.{IsHanded, Nodes, StandFor, bytes_at, bytes_for, closed_in, fails_at}
use Rattle.kx_core.specs.World.{fails_by, is_closed, partition_node}
use Rattle.kx_machine.specs.Meaning as meaning
use Rattle.kx_machine.specs.Meaning.{AtClient, AtCoordinator, AtPartition, IsTaken, NodeState}
use Rattle.kx_machine.specs.Meaning.{fails, node_step, note_of, taken_of}
use Rattle.kx_machine.specs.Stores.{FailsWith, IsMode}
use Rattle.kx_machine.specs.declared.machine.StoreMode.{StoreMode}
use Rattle.kx_machine.specs.declared.machine.StoreMode.TheVariants as mode
use Rattle.kx_machine.specs.declared.taken.Note.TheVariants as noted
use Rattle.kx_machine.specs.declared.taken.Taken.{Taken}
use Rattle.kx_message.specs.Ranges.{offsets_partition}
use Rattle.kx_message.specs.declared.message.NodeId.{NodeId}
use Rattle.kx_message.specs.declared.message.NodeId.TheVariants as node
use Rattle.kx_model.specs.Client.{Client}
use Rattle.kx_model.specs.Disk.{Store, Works, Fails, CannotLoad}
use Rattle.kx_model.specs.PartitionNode.{Partition}
use Rattle.kx_model.specs.Step.{Done, Declined, PutAt, Coded, Unread, Unwritten, RunsOut, StepNote}
use Rattle.kx_model.specs.Step.{Input, NodeStep, client_step, partition_step}
use Rattle.kx_model.specs.World.{Stepped, World, at_client, at_partition, clock_after, handed}
use Rattle.kx_model.specs.World.{partition_at}

------ stores

not_zero : (n : ℕ) → batch_limit ≤ n → n ≡ 0 → ⊥
not_zero n le none = omega (arith, le, none)

at_most : (a b : ℕ) → nat_le a b ≡ true → a ≤ b
at_most a b e = grind (arith, nat_tests)

not_at_most : (a b : ℕ) → nat_le a b ≡ false → a ≤ b → ⊥
not_at_most a b e le = grind (arith, nat_tests)

any_fit : (keep : ℕ) (b : Bool) (size : Option ℕ) → size ≡ None
    → IfSome size (λ bytes. b ≡ nat_le bytes keep)
any_fit keep b size nothing =
    subst (λ (z : Option ℕ). IfSome z (λ bytes. b ≡ nat_le bytes keep)) (sym nothing) tt

whole_if : (keep : ℕ) (b : Bool) (size : Option ℕ) → size ≡ None → nat_le batch_limit keep ≡ b
    → FailsWith keep size (Fails b)
whole_if keep true size nothing e = (
  λ none. absurd (not_zero keep (at_most _ _ e) none),
  λ le. refl,
  any_fit keep true size nothing,
)
whole_if keep false size nothing e =
    (λ none. refl, λ le. absurd (not_at_most _ _ e le), any_fit keep false size nothing)

-- there is a store of each mode, if nothing is appended
pub a_store : (m : StoreMode) (size : Option ℕ) → size ≡ None
    → (store : Store) × IsMode m size store
a_store mode.Works size nothing = (Works, refl)
a_store (mode.Fails keep) size nothing = (
  Fails (nat_le batch_limit keep),
  whole_if keep (nat_le batch_limit keep) size nothing refl,
)
a_store mode.CannotLoad size nothing = (CannotLoad, refl)

------ whether a store fails

-- what doesn't change isn't closed by it
pub not_both : (b : Bool) → false ≡ (not b && b)
not_both true = refl
not_both false = refl

fails_alike : (before : NodeState) (s : NodeStep NodeState) (n : StepNote)
    → fails before s n ≡ fails_by n (not (meaning.is_closed before) && meaning.is_closed s.state)
fails_alike before s Done = refl
fails_alike before s (Declined f) = refl
fails_alike before s (PutAt code offset) = refl
fails_alike before s (Coded code) = refl
fails_alike before s Unread = refl
fails_alike before s Unwritten = refl
fails_alike before s RunsOut = refl

-- a node says whether its store failed, by what became of it
pub told : (before : NodeState) (store : Store) (input : Input) (taken : Taken)
    → taken ≡ taken_of before input (node_step before store input)
    → taken.failed ≡ fails_by (node_step before store input).note
    (not (meaning.is_closed before) && meaning.is_closed (node_step before store input).state)
told before store input taken is =
    ap (λ (x : Taken). x.failed) is
    ∙ fails_alike before (node_step before store input) (node_step before store input).note

------ lists

pub false_true : false ≡ true → ⊥
false_true e = absurd cc

get_set : {A : Type 0} (xs : List A) (i : ℕ) (y z : A) → slice_get (slice_set xs i y) i ≡ Some z
    → z ≡ y
get_set [] i y z is = absurd cc
get_set (x ∷ xs) zero y z is = cc
get_set (x ∷ xs) (suc i) y z is = get_set xs i y z is

get_new : {A : Type 0} (xs : List A) (i : ℕ) (x y : A) → slice_get xs i ≡ Some x
    → slice_get (slice_set xs i y) i ≡ Some y
get_new [] i x y is = absurd cc
get_new (z ∷ xs) zero x y is = refl
get_new (z ∷ xs) (suc i) x y is = get_new xs i x y is

get_other : {A : Type 0} (xs : List A) (i j : ℕ) (y : A) → (j ≡ i → ⊥)
    → slice_get (slice_set xs i y) j ≡ slice_get xs j
get_other [] i j y apart = refl
get_other (x ∷ xs) zero zero y apart = absurd (apart refl)
get_other (x ∷ xs) zero (suc j) y apart = refl
get_other (x ∷ xs) (suc i) zero y apart = refl
get_other (x ∷ xs) (suc i) (suc j) y apart =
    get_other xs i j y (λ e. apart (ap (λ (n : ℕ). suc n) e))

length_set : {A : Type 0} (xs : List A) (i : ℕ) (y : A) → length (slice_set xs i y) ≡ length xs
length_set [] i y = refl
length_set (x ∷ xs) zero y = refl
length_set (x ∷ xs) (suc i) y = omega (arith, length_set xs i y)

pub past_none : {A : Type 0} (xs : List A) (i : ℕ) → slice_get xs i ≡ None → length xs ≤ i
past_none [] i e = omega arith
past_none (x ∷ xs) zero e = absurd cc
past_none (x ∷ xs) (suc i) e = omega (arith, past_none xs i e)

pub there_too : {A : Type 0} {B : Type 0} (xs : List A) (ys : List B) (i : ℕ) (y : B)
    → length xs ≡ length ys → slice_get ys i ≡ Some y → (x : A) × (slice_get xs i ≡ Some x)
there_too [] [] i y same is = absurd cc
there_too [] (z ∷ ys) i y same is = absurd (omega (arith, same))
there_too (x ∷ xs) [] i y same is = absurd (omega (arith, same))
there_too (x ∷ xs) (z ∷ ys) zero y same is = (x, refl)
there_too (x ∷ xs) (z ∷ ys) (suc i) y same is = there_too xs ys i y (omega (arith, same)) is

pub past_if : {A : Type 0} (xs : List A) (i number : ℕ) → (i < length xs → ⊥) → i ≡ number
    → slice_get xs number ≡ None
past_if xs i number apart same = slice_get_past xs number (elim (cases_lt number (length xs)) [
  | inl lt ↦ absurd (apart (omega (arith, same, lt)))
  | inr le ↦ le
])

set_same : {A : Type 0} (xs : List A) (i : ℕ) (x : A) → slice_get xs i ≡ Some x
    → slice_set xs i x ≡ xs
set_same [] i x is = refl
set_same (y ∷ xs) zero x is = let same : y ≡ x = cc in ap (λ z. z ∷ xs) (sym same)
set_same (y ∷ xs) (suc i) x is = ap (λ zs. y ∷ zs) (set_same xs i x is)

-- what is told of a result is told of it in other words
pub matched : {A B : Type 0} {P Q : A → Type 0} {R S : B → Type 0} (r : Result A B)
    → MatchResult r P R → ((a : A) → P a → Q a) → ((b : B) → R b → S b) → MatchResult r Q S
matched (Ok a) h f g = f a h
matched (Err b) h f g = g b h

------ what the definitions do

other_number : (n m : ℕ) (b : Bool) → (n == m) ≡ b → n ≢ m → b ≡ false
other_number n m true e apart = absurd (apart ((Decides-eqb n m).0 e))
other_number n m false e apart = refl

not_offsets : (n : ℕ) → n ≢ offsets_partition → (n == offsets_partition) ≡ false
not_offsets n apart = other_number n offsets_partition (n == offsets_partition) refl apart

abbrev after_partition : World → ℕ → NodeStep Partition → Stepped
after_partition w number s = (
  record w {
    partitions = slice_set w.partitions number s.state;
    sent = w.sent ++ s.messages;
  },
  s.note,
)

handed_data : (w : World) (n : ℕ) (store : Store) (input : Input) (p : Partition)
    → n ≢ offsets_partition → slice_get w.partitions n ≡ Some p
    → handed w (node.Partition n) store input
    ≡ after_partition w n (partition_step n p store input)
handed_data w n store input p apart is =
    let s = partition_step n p store input in
    ap (at_partition w n store input)
    (ap (λ b. cond b (Some w.offsets) (slice_get w.partitions n)) (not_offsets n apart) ∙ is)
    ∙ ap (λ b. (
      record w {
        offsets = cond b s.state w.offsets;
        partitions = cond b w.partitions (slice_set w.partitions n s.state);
        sent = w.sent ++ s.messages;
      },
      s.note,
    )) (not_offsets n apart)

data_at : (w : World) (n : ℕ) → n ≢ offsets_partition
    → partition_at w n ≡ slice_get w.partitions n
data_at w n apart =
    ap (λ b. cond b (Some w.offsets) (slice_get w.partitions n)) (not_offsets n apart)

-- whether the store of a data partition fails
fails_data : (w : World) (n : ℕ) (p : Partition) (s : NodeStep Partition)
    → n ≢ offsets_partition → slice_get w.partitions n ≡ Some p
    → fails_by s.note (not p.disk.closed && s.state.disk.closed)
    ≡ fails_at w (node.Partition n) (after_partition w n s)
fails_data w n p s apart is =
    let before : closed_in (partition_at w n) ≡ p.disk.closed =
    ap closed_in (data_at w n apart ∙ is) in
    let after : closed_in (partition_at (after_partition w n s).0 n) ≡ s.state.disk.closed =
    ap closed_in (data_at (after_partition w n s).0 n apart
    ∙ get_new w.partitions n p s.state is) in
    ap (λ b. fails_by s.note (not b && s.state.disk.closed)) (sym before)
    ∙ ap (λ b. fails_by s.note (not (closed_in (partition_at w n)) && b)) (sym after)

handed_to_none : (w : World) (n : ℕ) (store : Store) (input : Input) → n ≢ offsets_partition
    → slice_get w.partitions n ≡ None → handed w (node.Partition n) store input ≡ (w, Done)
handed_to_none w n store input apart is =
    ap (at_partition w n store input)
    (ap (λ b. cond b (Some w.offsets) (slice_get w.partitions n)) (not_offsets n apart) ∙ is)

------ nodes

module _ {C P O F : Type 0} (Coordinates : NodeState → C → Type 0) (Serves : NodeState → P → Type 0)
    (Groups : NodeState → O → Type 0) where
  abbrev Stand : Nodes C P O F → World → Type 0
  Stand = StandFor Coordinates Serves Groups

  -- nothing changes, and nothing is handed out
  pub rests : (nodes : Nodes C P O F) (w : World) (to : NodeId) (m : StoreMode) (input : Input)
      (taken : Taken) → Stand nodes w → bytes_at w to input ≡ None
      → ((store : Store) → handed w to store input ≡ (w, Done))
      → taken.messages ≡ [] → taken.note ≡ noted.Done → taken.failed ≡ false
      → IsHanded w to m input (Stand nodes) taken
  rests nodes w to m input taken h nothing same none done works =
      let store = a_store m (bytes_at w to input) nothing in record {
        store = store.0;
        allowed = store.1;
        stand = subst (λ (x : Stepped). Stand nodes x.0) (sym (same store.0)) h;
        sent = ap (λ (x : Stepped). x.0.sent) (same store.0)
            ∙ sym (ap (λ ms. w.sent ++ ms) none ∙ append-nil w.sent);
        note_is = done ∙ ap (λ (x : Stepped). note_of x.1) (sym (same store.0));
        failed_is = works ∙ not_both (is_closed w to)
            ∙ ap (fails_at w to) (sym (same store.0));
      }

  pub by_coordinator : (nodes : Nodes C P O F) (w : World) (m : StoreMode) (input : Input)
      (after : C) (clock : ℕ) (taken : Taken) → Stand nodes w
      → IsTaken (AtCoordinator w.coordinator) input (IsMode m) (λ s. Coordinates s after) taken
      → clock ≡ clock_after nodes.clock input
      → IsHanded w node.Coordinator m input
      (Stand (record nodes { coordinator = after; clock = clock })) taken
  by_coordinator nodes w m input after clock taken h t now = record {
    store = t.store;
    allowed = t.allowed;
    stand = record {
      coordinator = t.stands;
      count = h.count;
      few = h.few;
      partitions = h.partitions;
      offsets = h.offsets;
      clients = h.clients;
      clock = now ∙ ap (λ (n : ℕ). clock_after n input) h.clock;
    };
    sent = ap (λ ms. w.sent ++ ms) (sym (ap (λ (x : Taken). x.messages) t.answer));
    note_is = ap (λ (x : Taken). x.note) t.answer;
    failed_is = told (AtCoordinator w.coordinator) t.store input taken t.answer;
  }

  pub by_offsets : (nodes : Nodes C P O F) (w : World) (m : StoreMode) (input : Input) (after : O)
      (taken : Taken) → Stand nodes w
      → IsTaken (AtPartition offsets_partition w.offsets) input (IsMode m) (λ s. Groups s after)
      taken
      → IsHanded w (node.Partition offsets_partition) m input
      (Stand (record nodes { offsets = after })) taken
  by_offsets nodes w m input after taken h t = record {
    store = t.store;
    allowed = t.allowed;
    stand = record {
      coordinator = h.coordinator;
      count = h.count;
      few = h.few;
      partitions = h.partitions;
      offsets = t.stands;
      clients = h.clients;
      clock = h.clock;
    };
    sent = ap (λ ms. w.sent ++ ms) (sym (ap (λ (x : Taken). x.messages) t.answer));
    note_is = ap (λ (x : Taken). x.note) t.answer;
    failed_is =
        told (AtPartition offsets_partition w.offsets) t.store input taken t.answer;
  }

  served : (nodes : Nodes C P O F) (w : World) (number : ℕ) (p : Partition) (after : P)
      → Stand nodes w → Serves (AtPartition number p) after → (other : ℕ) (q : Partition)
      (server : P) → slice_get (slice_set w.partitions number p) other ≡ Some q
      → slice_get (slice_set nodes.partitions number after) other ≡ Some server
      → Serves (AtPartition other q) server
  served nodes w number p after h serves other q server is runs =
      by_number (other == number) refl
    where
      by_number : (b : Bool) → (other == number) ≡ b → Serves (AtPartition other q) server
      by_number true e =
          let same : other ≡ number = (Decides-eqb other number).0 e in
          let one : slice_get (slice_set w.partitions number p) number ≡ Some q =
          subst (λ (k : ℕ). slice_get (slice_set w.partitions number p) k ≡ Some q) same is in
          let two : slice_get (slice_set nodes.partitions number after) number ≡ Some server =
          subst (λ (k : ℕ). slice_get (slice_set nodes.partitions number after) k ≡ Some server)
          same runs in
          subst (λ (k : ℕ). Serves (AtPartition k q) server) (sym same)
          (subst (λ (x : Partition). Serves (AtPartition number x) server)
          (sym (get_set w.partitions number p q one))
          (subst (Serves (AtPartition number p))
          (sym (get_set nodes.partitions number after server two)) serves))
      by_number false e =
          let apart : other ≡ number → ⊥ = λ same.
          absurd (cc (e, (Decides-eqb other number).1 same))
          in
          h.partitions other q server (sym (get_other w.partitions number other p apart) ∙ is)
          (sym (get_other nodes.partitions number other after apart) ∙ runs)

  pub by_partition : (nodes : Nodes C P O F) (w : World) (number : ℕ) (m : StoreMode)
      (input : Input) (p : Partition) (after : P) (taken : Taken) → Stand nodes w
      → number ≢ offsets_partition → slice_get w.partitions number ≡ Some p
      → IsTaken (AtPartition number p) input (IsMode m) (λ s. Serves s after) taken
      → IsHanded w (node.Partition number) m input
      (Stand (record nodes { partitions = slice_set nodes.partitions number after })) taken
  by_partition nodes w number m input p after taken h apart is t =
      let s = partition_step number p t.store input in
      let done = handed_data w number t.store input p apart is in
      let here = data_at w number apart ∙ is in record {
        store = t.store;
        allowed = subst
            (λ (o : Option Partition).
            IsMode m (bytes_for (partition_node number o) input) t.store) (sym here) t.allowed;
        stand = subst (λ (x : Stepped). Stand
            (record nodes { partitions = slice_set nodes.partitions number after }) x.0) (sym done)
            (record {
              coordinator = h.coordinator;
              count = length_set w.partitions number s.state ∙ h.count
                  ∙ sym (length_set nodes.partitions number after);
              few = subst (λ (n : ℕ). n < offsets_partition)
                  (sym (length_set w.partitions number s.state)) h.few;
              partitions = served nodes w number s.state after h t.stands;
              offsets = h.offsets;
              clients = h.clients;
              clock = h.clock;
            });
        sent = ap (λ (x : Stepped). x.0.sent) done
            ∙ ap (λ ms. w.sent ++ ms) (sym (ap (λ (x : Taken). x.messages) t.answer));
        note_is = ap (λ (x : Taken). x.note) t.answer
            ∙ sym (ap (λ (x : Stepped). note_of x.1) done);
        failed_is = told (AtPartition number p) t.store input taken t.answer
            ∙ fails_data w number p s apart is
            ∙ ap (fails_at w (node.Partition number)) (sym done);
      }

  -- the same, if the place among the servers is named otherwise
  pub by_server : (nodes : Nodes C P O F) (w : World) (number place : ℕ) (m : StoreMode)
      (input : Input) (p : Partition) (after : P) (taken : Taken) → Stand nodes w
      → number ≢ offsets_partition → place ≡ number → slice_get w.partitions number ≡ Some p
      → IsTaken (AtPartition number p) input (IsMode m) (λ s. Serves s after) taken
      → IsHanded w (node.Partition number) m input
      (Stand (record nodes { partitions = slice_set nodes.partitions place after })) taken
  by_server nodes w number place m input p after taken h apart same is t =
      subst (λ (k : ℕ). IsHanded w (node.Partition number) m input
      (Stand (record nodes { partitions = slice_set nodes.partitions k after })) taken) (sym same)
      (by_partition nodes w number m input p after taken h apart is t)

  -- a server still stands for the partition for which it stood
  pub serves_still : (nodes : Nodes C P O F) (w : World) (number place : ℕ) (p : Partition)
      (after : P) → Stand nodes w → place ≡ number → slice_get w.partitions number ≡ Some p
      → Serves (AtPartition number p) after
      → Stand (record nodes { partitions = slice_set nodes.partitions place after }) w
  serves_still nodes w number place p after h same is serves =
      subst (λ (k : ℕ). Stand (record nodes { partitions = slice_set nodes.partitions k after }) w)
      (sym same) (record {
        coordinator = h.coordinator;
        count = h.count ∙ sym (length_set nodes.partitions number after);
        few = h.few;
        partitions = λ other q server there runs. served nodes w number p after h serves other q
            server (ap (λ (xs : List Partition). slice_get xs other)
            (set_same w.partitions number p is)
            ∙ there) runs;
        offsets = h.offsets;
        clients = h.clients;
        clock = h.clock;
      })

  pub by_no_partition : (nodes : Nodes C P O F) (w : World) (number : ℕ) (m : StoreMode)
      (input : Input) (taken : Taken) → Stand nodes w → number ≢ offsets_partition
      → slice_get nodes.partitions number ≡ None → taken.messages ≡ []
      → taken.note ≡ noted.Done → taken.failed ≡ false
      → IsHanded w (node.Partition number) m input (Stand nodes) taken
  by_no_partition nodes w number m input taken h apart is none done works =
      let past = past_none nodes.partitions number is in
      let absent : slice_get w.partitions number ≡ None =
      slice_get_past w.partitions number (omega (arith, past, h.count)) in
      rests nodes w (node.Partition number) m input taken h
      (ap (λ (o : Option Partition). bytes_for (partition_node number o) input)
      (data_at w number apart ∙ absent))
      (λ store. handed_to_none w number store input apart absent) none done works

  ------ clients

  pub by_client : (nodes : Nodes C P O F) (w : World) (number : ℕ) (m : StoreMode) (input : Input)
      (c : Client) (after : NodeState) (new : List (AnyClient F)) (taken : Taken) → Stand nodes w
      → client_in w.clients number ≡ Some c
      → IsTaken (AtClient c) input any_store (λ s. s ≡ after) taken
      → clients_in new ≡ with_one w.clients (client_step c input).state
      → IsHanded w (node.Client number) m input (Stand (record nodes { clients = new })) taken
  by_client nodes w number m input c after new taken h is t new_is =
      let store = a_store m None refl in
      let done : handed w (node.Client number) store.0 input
      ≡ at_client w input (Some c) = ap (at_client w input) is in record {
        store = store.0;
        allowed = store.1;
        stand = subst (λ (x : Stepped). Stand (record nodes { clients = new }) x.0) (sym done)
            (record {
              coordinator = h.coordinator;
              count = h.count;
              few = h.few;
              partitions = h.partitions;
              offsets = h.offsets;
              clients = new_is;
              clock = h.clock;
            });
        sent = ap (λ (x : Stepped). x.0.sent) done
            ∙ ap (λ ms. w.sent ++ ms) (sym (ap (λ (x : Taken). x.messages) t.answer));
        note_is = ap (λ (x : Taken). x.note) t.answer
            ∙ sym (ap (λ (x : Stepped). note_of x.1) done);
        failed_is = told (AtClient c) t.store input taken t.answer
            ∙ ap (fails_at w (node.Client number)) (sym done);
      }

  pub by_no_client : (nodes : Nodes C P O F) (w : World) (number : ℕ) (m : StoreMode)
      (input : Input) (taken : Taken) → Stand nodes w → client_in w.clients number ≡ None
      → taken.messages ≡ [] → taken.note ≡ noted.Done → taken.failed ≡ false
      → IsHanded w (node.Client number) m input (Stand nodes) taken
  by_no_client nodes w number m input taken h absent none done works =
      rests nodes w (node.Client number) m input taken h refl
      (λ store. ap (at_client w input) absent) none done works
