-- The server stands for the node of the definitions after a step, as it did before it.
use Rattle.std.proofs.Common.{◌≡◌, ◌≤◌, ℕ, ℤ, Bool, true, false, List, [], ◌∷◌}
use Rattle.std.proofs.Common.{refl, sym, ap, ◌∙◌, subst, arith}
use Rattle.std.specs.Prelude.{nat_lt, not, ◌&&◌}
use Rattle.std.proofs.lemmas.Bool.Decides.{nat_tests}
use Rattle.kx_broker.specs.Serving.{AllWait, IsDisk, IsServedBy, Puts, Restarts, Serves}
use Rattle.kx_broker.specs.Serving.{Serving, bytes_in, closes}
use Rattle.kx_broker.specs.declared.restart.Restarted.{Restarted}
use Rattle.kx_broker.proofs.Appending.{Comes}
use Rattle.kx_broker.proofs.Parked.{all_later}
use Rattle.kx_broker.proofs.Stores.{any_allowed, as_allowed, none_appended}
use Rattle.kx_log.specs.LogState.{LogState}
use Rattle.kx_machine.specs.Meaning.{produced_of}
use Rattle.kx_message.specs.declared.code.ErrorCode.{ErrorCode}
use Rattle.kx_message.specs.declared.message.Message.{Message}
use Rattle.kx_model.specs.Disk.{Store}
use Rattle.kx_model.specs.Log.{Stored}
use Rattle.kx_model.specs.PartitionNode.{Partition, Served, Taken, entries_of}
use Rattle.kx_model.specs.Producers.{expected}
use Rattle.kx_model.specs.Verification.{Parked, Request}
use Rattle.kx_partition.specs.declared.answer.Produced.{Produced}
use Rattle.kx_verify.specs.Guard.{SameParked}

-- as the fields of a server are seen
abbrev pub serving : ℕ → LogState → List Parked → Serving
serving number log parked = record { number = number; log = log; parked = parked }

not_above : (n : ℕ) → nat_lt n n ≡ false
not_above n = grind (arith, nat_tests)

no_change : (closed : Bool) → false ≡ (not closed && closed)
no_change true = refl
no_change false = refl

module _ (Fits : List Stored → Type 0) (Here : Request → Type 0) (number : ℕ) (p : Partition)
    (old : Serving) (is : IsServedBy Fits Here number p old) where
  abbrev Stands : Partition → Serving → Type 0
  Stands = IsServedBy Fits Here number

  -- with another log
  pub served_with : (q : Partition) (log : LogState) → IsDisk Fits q.disk log → q.parked ≡ p.parked
      → ((id epoch : ℕ) → expected (entries_of p) id epoch ≤ expected (entries_of q) id epoch)
      → Stands q (serving old.number log old.parked)
  served_with q log disk parked later = record {
    number_is = is.number_is;
    disk = disk;
    parked = subst (SameParked old.parked) (sym parked) is.parked;
    waits = subst (AllWait Here (entries_of q)) (sym parked)
        (all_later Here (entries_of p) (entries_of q) later p.parked is.waits);
  }

  -- with other parked requests
  pub served_parking : (parked given : List Parked) → SameParked given parked
      → AllWait Here (entries_of p) parked
      → Stands (record p { parked = parked }) (serving old.number old.log given)
  served_parking parked given same waits = record {
    number_is = is.number_is;
    disk = is.disk;
    parked = same;
    waits = waits;
  }

  -- a step that changes nothing
  pub rests_with : (step : Store → Served) (messages : List Message)
      → ((store : Store) → step store ≡ (p, messages)) → Serves Stands p old old step messages
  rests_with step messages rests =
      let after = λ (store : Store). (step store).0 in
      let any = any_allowed old.log.store.appends old.log.store.loads (bytes_in after)
      (none_appended after p (λ store. ap (λ (s : Served). s.0) (rests store))) in
      let at = rests any.store in
      record {
        store = any.store;
        allowed = any.allowed;
        stands = subst (λ (s : Served). Stands s.0 old) (sym at) is;
        answers = (
          ap (λ (s : Served). s.1) (sym at),
          not_above old.log.store.failures ∙ no_change p.disk.closed
              ∙ ap (λ (s : Served). closes p s.0) (sym at),
        );
      }

  module _ (log : LogState) (step : Store → Taken) (code : ErrorCode) (offset : ℤ)
      (c : Comes Fits p old.log log step code offset) where
    -- a step that hands out one message, by a code and an offset
    pub serves_by : (given : Store → Served) (f : ErrorCode → ℤ → Message)
        → ((store : Store) → given store
        ≡ ((step store).partition, f (step store).code (step store).offset ∷ []))
        → Serves Stands p old (serving old.number log old.parked) given (f code offset ∷ [])
    serves_by given f is_given =
        let at = is_given c.store in
        record {
          store = c.store;
          allowed = as_allowed old.log.store.appends old.log.store.loads c.store
              (λ store. (step store).partition) (λ store. (given store).0)
              (λ store. ap (λ (s : Served). s.0) (is_given store)) c.allowed;
          stands = subst (λ (s : Served). Stands s.0 (serving old.number log old.parked)) (sym at)
              (served_with (step c.store).partition log c.disk c.parked c.later);
          answers = (
            (λ i. f (c.code_is i) (c.offset_is i) ∷ []) ∙ ap (λ (s : Served). s.1) (sym at),
            c.fails ∙ ap (λ (s : Served). closes p s.0) (sym at),
          );
        }

    -- the put of a batch of no producer
    pub puts_by : (answer : Produced) → answer ≡ produced_of code offset
        → Puts Stands p old (serving old.number log old.parked) step answer
    puts_by answer is_it = record {
      store = c.store;
      allowed = c.allowed;
      stands = served_with (step c.store).partition log c.disk c.parked c.later;
      answers = (is_it ∙ λ i. produced_of (c.code_is i) (c.offset_is i), c.fails);
    }

------ what is seen of a server from outside

module _ (Stands : Partition → Serving → Type 0) (p : Partition) where
  -- the same step in other words
  pub as_step : (old new : Serving) (step other : Store → Served) (messages : List Message)
      → ((store : Store) → other store ≡ step store) → Serves Stands p old new step messages
      → Serves Stands p old new other messages
  as_step old new step other messages same s =
      let at = sym (same s.store) in
      record {
        store = s.store;
        allowed = as_allowed old.log.store.appends old.log.store.loads s.store
            (λ store. (step store).0) (λ store. (other store).0)
            (λ store. ap (λ (x : Served). x.0) (same store)) s.allowed;
        stands = subst (λ (x : Served). Stands x.0 new) at s.stands;
        answers = (
          s.answers.0 ∙ ap (λ (x : Served). x.1) at,
          s.answers.1 ∙ ap (λ (x : Served). closes p x.0) at,
        );
      }

  -- of the server as it is seen
  pub as_seen : (old seen new : Serving) (step : Store → Served) (messages given : List Message)
      → old ≡ seen → given ≡ messages → (Stands p old → Serves Stands p old new step messages)
      → Stands p seen → Serves Stands p seen new step given
  as_seen old seen new step messages given e same f is =
      subst (λ (o : Serving). Serves Stands p o new step given) e
      (subst (λ (m : List Message). Serves Stands p old new step m) (sym same)
      (f (subst (Stands p) (sym e) is)))

  pub puts_seen : (old seen new : Serving) (step : Store → Taken) (answer : Produced)
      → old ≡ seen → (Stands p old → Puts Stands p old new step answer) → Stands p seen
      → Puts Stands p seen new step answer
  puts_seen old seen new step answer e f is =
      subst (λ (o : Serving). Puts Stands p o new step answer) e
      (f (subst (Stands p) (sym e) is))

  pub restarts_seen : (old seen new : Serving) (what : Restarted) → old ≡ seen
      → (Stands p old → Restarts Stands p old new what) → Stands p seen
      → Restarts Stands p seen new what
  restarts_seen old seen new what e f is =
      subst (λ (o : Serving). Restarts Stands p o new what) e
      (f (subst (Stands p) (sym e) is))
