-- Each reply of the offsets partition that is new in a turn says what its log was in that turn.
use Rattle.std.proofs.Common.{◌≡◌, ◌≢◌, ◌⊎◌, ℕ, Bool, true, false, List, [], ◌∷◌, ◌++◌, Some, ◌==◌}
use Rattle.std.proofs.Common.{Contains, All, refl, sym, ap, ◌∙◌, subst, arith, inl, inr, ⊎_elim}
use Rattle.std.proofs.Common.{append-nil, cond}
use Rattle.std.specs.Prelude.{IfSome}
use Rattle.std.proofs.lemmas.Bool.{cond_both}
use Rattle.std.proofs.lemmas.Bool.Decides.{nat_tests}
use Rattle.std.proofs.lemmas.List.Elements.{All-contains, All-nil, All-weaker}
use Rattle.std.proofs.lemmas.List.Elements.{Contains-append_cases}
use Rattle.kx_message.specs.Ranges.{offsets_partition}
use Rattle.kx_message.specs.declared.message.Message.{Message}
use Rattle.kx_message.specs.declared.message.Message.TheVariants as msg
use Rattle.kx_model.specs.Disk.{GrowsTo}
use Rattle.kx_model.proofs.NodeSteps.{same}
use Rattle.kx_model.specs.Coordinator.{TxnEntry}
use Rattle.kx_model.specs.CoordinatorNode.{notes_of}
use Rattle.kx_model.specs.Log.{Stored}
use Rattle.kx_model.specs.Groups.{judge_drop}
use Rattle.kx_model.specs.PartitionNode.{Partition, Served, changed, data_takes, entries_of}
use Rattle.kx_model.specs.PartitionNode.{node_takes, offsets_takes, partition_restarts, puts}
use Rattle.kx_model.specs.Step.{plain_text}
use Rattle.kx_model.specs.Verification.{Parked, Request, Target, ToGroup, ToPartition, partition_of}
use Rattle.kx_model.specs.World.{World, log_at, log_in, notes, partition_at, with_partition}
use Rattle.kx_headline.proofs.CoordinatorAlways.{turn_does}
use Rattle.kx_headline.proofs.CoordinatorDoes as coordinator
use Rattle.kx_headline.proofs.CoordinatorDoes.{IsCoordinators, Out}
use Rattle.kx_headline.proofs.EventDoes.{PartitionTurn, Turn, clients, coordinators, drops, making}
use Rattle.kx_headline.proofs.EventDoes.{nobodys, partitions, puts_values, restarts}
use Rattle.kx_headline.proofs.PartitionHolds.{PartitionHolds, Waiting, WasAsked}
use Rattle.kx_headline.proofs.MarkersFit.{markers_fit}
use Rattle.kx_headline.proofs.PartitionsAlways.{PartitionsStand, turn_holds}
use Rattle.kx_headline.proofs.SentKinds
use Rattle.kx_headline.proofs.SentKinds.{IsClients, WaitsForOwn, client_sends}
use Rattle.kx_laws.proofs.Membership.{find_tells}
use Rattle.kx_pipeline.proofs.OffsetsSay.{CodeOfNone, IsBatchRequest, IsCommit, OfAnother, Says}
use Rattle.kx_pipeline.proofs.OffsetsSay.{commit_is, data_says, offsets_say}

------ messages of others

coordinators_another : (m : Message) → IsCoordinators m → OfAnother m
coordinators_another m coordinator.marker = tt
coordinators_another m coordinator.add_reply = tt
coordinators_another m coordinator.init_reply = tt
coordinators_another m coordinator.end_reply = tt

clients_another : (m : Message) → IsClients m → OfAnother m
clients_another m SentKinds.init = tt
clients_another m SentKinds.ends = tt
clients_another m SentKinds.produce = tt
clients_another m SentKinds.commit = tt
clients_another m SentKinds.join = tt
clients_another m SentKinds.leave = tt
clients_another m SentKinds.fetches = tt
clients_another m SentKinds.fetches_offset = tt

another_says : (sent : List Message) (start later : List Stored) (m : Message) → OfAnother m
    → Says sent start later m
another_says sent start later (msg.OffsetsReply it) o = absurd o
another_says sent start later (msg.JoinReply it) o = absurd o
another_says sent start later (msg.OffsetFetchReply it) o = absurd o
another_says sent start later m o = tt

code_of_none : (sent : List Message) (log : List TxnEntry) (m : Message)
    → coordinator.Says sent log m → CodeOfNone m
code_of_none sent log (msg.AddReply it) said = said.1
code_of_none sent log m said = tt

------ a partition's turn

module _ (w : World) (h : PartitionsStand w) where
  said_of_none : (m : Message) → Contains w.sent m → CodeOfNone m
  said_of_none m there =
      code_of_none w.sent (notes w) m
      (All-contains (coordinator.Says w.sent (notes w)) w.sent m h.coordinator.says there)

  abbrev SaysIn : ℕ → Partition → Served → Type 0
  SaysIn number p s =
      (number ≡ offsets_partition → All (Says w.sent p.disk.kept s.0.disk.kept) s.1)
      × (number ≢ offsets_partition → All OfAnother s.1)

  silent : (number : ℕ) (p q : Partition) → SaysIn number p (q, [])
  silent number p q = (
    λ e. All-nil (Says w.sent p.disk.kept q.disk.kept),
    λ e. All-nil OfAnother,
  )

  batch_request : (number : ℕ) → number ≢ offsets_partition → (r : Request)
      → WasAsked w.sent number r → IsBatchRequest r
  batch_request number differs r asked = by r.target refl
    where
      by : (t : Target) → r.target ≡ t → (partition : ℕ) × (r.target ≡ ToPartition partition)
      by (ToPartition partition) e = (partition, e)
      by (ToGroup group member generation) e =
          absurd (differs (sym asked.here ∙ ap partition_of e))

  takes_say : (number : ℕ) (p : Partition) → PartitionHolds w.sent number p
      → (store : _) (m : Message) → Contains w.sent m
      → SaysIn number p (node_takes number p store m)
  takes_say number p holds store m there = (
    λ e. cond_both (number == offsets_partition) (offsets_takes p store m)
        (data_takes number p store m)
        (λ (s : Served). All (Says w.sent p.disk.kept s.0.disk.kept) s.1)
        (λ b. offsets_say w.sent p.disk.kept p store refl
        (All-weaker (Waiting w.sent number) (λ (x : Parked). IsCommit w.sent p.disk.kept x.request)
        (λ x a. commit_is w.sent p.disk.kept x.request
        (subst (λ n. WasAsked w.sent n x.request) e a.request)) p.parked holds.parked) m there
        (said_of_none m there))
        (λ b. absurd (grind (arith, nat_tests, e, b))),
    λ n. cond_both (number == offsets_partition) (offsets_takes p store m)
        (data_takes number p store m) (λ (s : Served). All OfAnother s.1)
        (λ b. absurd (n (grind (arith, nat_tests, b))))
        (λ b. data_says number p store
        (All-weaker (Waiting w.sent number) (λ (x : Parked). IsBatchRequest x.request)
        (λ x a. batch_request number n x.request a.request) p.parked holds.parked) m
        (said_of_none m there)),
  )

  turn_says : (number : ℕ) (p : Partition) (s : Served) → PartitionHolds w.sent number p
      → PartitionTurn w number p s → SaysIn number p s
  turn_says number p s holds (PartitionTurn.takes store m c) = takes_say number p holds store m c
  turn_says number p s holds (drops group member store at a b) =
      silent number p (changed p store (judge_drop (entries_of p) group member)).partition
  turn_says number p s holds (puts_values value values store at fits) =
      silent number p (puts p store (plain_text (value ∷ values))).partition
  turn_says number p s holds (restarts how) = silent number p (partition_restarts p how)
  turn_says number p s holds PartitionTurn.passes = silent number p p

  ------ any turn

  abbrev New : World → Message → Type 0
  New later m =
      Contains w.sent m
      ⊎ Says w.sent (log_at w offsets_partition) (log_at later offsets_partition) m

  among : (later : World) (messages : List Message) → All OfAnother messages → (m : Message)
      → Contains (w.sent ++ messages) m → New later m
  among later messages others m there =
      ⊎_elim inl
      (λ new. inr (another_says w.sent (log_at w offsets_partition)
      (log_at later offsets_partition) m (All-contains OfAnother messages m others new)))
      (Contains-append_cases w.sent messages m there)

  partition_new : (number : ℕ) (p : Partition) (s : Served) → partition_at w number ≡ Some p
      → SaysIn number p s → (m : Message) → Contains (w.sent ++ s.1) m
      → New (with_partition w number s) m
  partition_new number p s there says m c = by (number == offsets_partition) refl
    where
      offsets_new : number ≡ offsets_partition → Contains s.1 m → New (with_partition w number s) m
      offsets_new e new =
          let said = All-contains (Says w.sent p.disk.kept s.0.disk.kept) s.1 m (says.0 e) new in
          let before : log_at w offsets_partition ≡ p.disk.kept =
          ap (λ n. log_at w n) (sym e) ∙ ap log_in there in
          let after : log_at (with_partition w number s) offsets_partition ≡ s.0.disk.kept =
          ap (λ n. log_at (with_partition w n s) offsets_partition) e in
          inr (subst (λ l. Says w.sent l (log_at (with_partition w number s) offsets_partition) m)
          (sym before)
          (subst (λ l. Says w.sent p.disk.kept l m) (sym after) said))

      by : (b : Bool) → (number == offsets_partition) ≡ b → New (with_partition w number s) m
      by true e =
          ⊎_elim inl (offsets_new (grind (arith, nat_tests, e)))
          (Contains-append_cases w.sent s.1 m c)
      by false e =
          among (with_partition w number s) s.1
          (says.1 (λ same. grind (arith, nat_tests, e, same))) m c

  pub new_says : (later : World) → Turn w later → (m : Message) → Contains later.sent m
      → New later m
  new_says later nobodys m c = inl c
  new_says later (coordinators clock s turn) m c =
      let d = turn_does w s h.coordinator.coordinator turn in
      among later s.1
      (All-weaker (Out d.client w.sent (notes w) (notes_of s.0)) OfAnother
      (λ m o. coordinators_another m o.kind) s.1 d.out) m c
  new_says later (partitions number p s there turn) m c =
      let holds = subst (λ o. IfSome o (PartitionHolds w.sent number)) there (h.holds number) in
      partition_new number p s there (turn_says number p s holds turn) m c
  new_says later (clients c after messages there turn) m at =
      let here = (find_tells (λ d. d.number == c.number) w.clients c there).0 in
      let waits = All-contains WaitsForOwn w.clients c h.coordinator.waiting here in
      among later messages
      (All-weaker IsClients OfAnother clients_another messages
      (client_sends w c after messages turn waits).1) m at
  new_says later (making number txn timeout new a b d) m c = inl c

  ------ logs grow

  grows_in : (number : ℕ) (p : Partition) (s : Served) → partition_at w number ≡ Some p
      → GrowsTo p.disk.kept s.0.disk.kept
      → GrowsTo (log_at w offsets_partition) (log_at (with_partition w number s) offsets_partition)
  grows_in number p s there g = by (number == offsets_partition) refl
    where
      by : (b : Bool) → (number == offsets_partition) ≡ b
          → GrowsTo (log_at w offsets_partition)
          (log_at (with_partition w number s) offsets_partition)
      by true e =
          let at : number ≡ offsets_partition = grind (arith, nat_tests, e) in
          let before : log_at w offsets_partition ≡ p.disk.kept =
          ap (λ n. log_at w n) (sym at) ∙ ap log_in there in
          let after : log_at (with_partition w number s) offsets_partition ≡ s.0.disk.kept =
          ap (λ n. log_at (with_partition w n s) offsets_partition) at in
          record { more = g.more; parts = after ∙ g.parts ∙ ap (λ l. l ++ g.more) (sym before) }
      by false e = record {
        more = [];
        parts = ap (λ b. (cond b s.0 w.offsets).disk.kept) e
            ∙ sym (append-nil (log_at w offsets_partition));
      }

  pub offsets_grow : (later : World) → Turn w later
      → GrowsTo (log_at w offsets_partition) (log_at later offsets_partition)
  offsets_grow later nobodys = same (log_at w offsets_partition)
  offsets_grow later (coordinators clock s turn) = same (log_at w offsets_partition)
  offsets_grow later (partitions number p s there turn) =
      let holds = subst (λ o. IfSome o (PartitionHolds w.sent number)) there (h.holds number) in
      grows_in number p s there
      (turn_holds w number p (markers_fit w h.coordinator) holds s turn).grows
  offsets_grow later (clients c after messages there turn) = same (log_at w offsets_partition)
  offsets_grow later (making number txn timeout new a b d) = same (log_at w offsets_partition)
