-- A processor's turns, as those of a machine.
use Rattle.std.proofs.Common.{◌≡◌, ◌∙◌, ◌⊎◌, ◌≤◌, ℕ, Bool, true, false, cond, List, [], ◌∷◌, length}
use Rattle.std.proofs.Common.{refl, sym, ap, subst, ⊎_elim, is_none, not, ◌&&◌}
use Rattle.std.proofs.Common.{arith, ◌==◌}
use Rattle.std.proofs.lemmas.Bool.Decides.{nat_tests}
use Rattle.kx_client.specs.declared.fault.ClientFault.TheVariants as fault
use Rattle.kx_client.specs.declared.values.Values.{Values}
use Rattle.kx_machine.specs.Meaning.{AtProcessor, IsTaken, command_of, command_of_offsets, input_of}
use Rattle.kx_machine.specs.declared.input.Command.{Command}
use Rattle.kx_machine.specs.declared.input.Command.TheVariants as told
use Rattle.kx_machine.specs.declared.input.Input.{Input}
use Rattle.kx_machine.specs.declared.input.Input.TheVariants as input
use Rattle.kx_machine.specs.declared.taken.Note.TheVariants as note
use Rattle.kx_machine.specs.declared.taken.Taken.{Taken}
use Rattle.kx_message.specs.declared.message.Message.{Message}
use Rattle.kx_message.specs.declared.outcome.Outcome.{Outcome}
use Rattle.kx_message.specs.declared.payload.PartitionOffset.{PartitionOffset}
use Rattle.kx_model.specs.Client as model
use Rattle.kx_model.specs.Disk.{Works}
use Rattle.kx_model.specs.Step.{Comes, Commands}
use Rattle.kx_processor.specs.Calls.{IsRefused}
use Rattle.kx_client_node.specs.Clients.{any_store, foreign_fault}
use Rattle.kx_system.specs.Processor.{Processor, foreign, has_failed, needs_transactions, obeys}
use Rattle.kx_system.specs.Processor.{processor_step, takes}

------ commands that aren't its own

-- it is a command of another kind of client
abbrev is_foreign : model.Command → Bool
is_foreign model.Init = false
is_foreign model.Resend = false
is_foreign model.Poll = false
is_foreign what = true

module _ (p : Processor) where
  -- a processor's step of such a command
  record Steps (what : model.Command) : Type 0 where
    pub is : processor_step p (Commands what) ≡ obeys p p.processing.stage (foreign p what)

  steps : (what : model.Command) → is_foreign what ≡ true → Steps what
  unfolding processor_step
  steps model.Begin e = record { is = refl }
  steps (model.Send partition value more) e = record { is = refl }
  steps (model.JoinGroup group) e = record { is = refl }
  steps model.LeaveGroup e = record { is = refl }
  steps (model.SendOffsets offset more) e = record { is = refl }
  steps (model.End outcome) e = record { is = refl }
  steps (model.FetchPage partition from) e = record { is = refl }
  steps (model.FetchOffset group partition) e = record { is = refl }
  steps model.Init e = absurd cc
  steps model.Resend e = absurd cc
  steps model.Poll e = absurd cc

  -- what it is declined for, by the two checks
  abbrev by_checks : Bool → Bool → model.Commanded
  by_checks failed lacking =
      cond failed (model.Declines model.Failed)
      (cond lacking (model.Declines model.NotTransactional) (model.Declines model.NotReady))

  -- it is refused by the first check that fits
  pub declined : (what : model.Command) → is_foreign what ≡ true
      → IsRefused p what (foreign_fault p (needs_transactions what)) p
  declined what own =
      by (has_failed p) (needs_transactions what && is_none p.client.txn) refl refl
    where
      by : (failed lacking : Bool) → has_failed p ≡ failed
          → (needs_transactions what && is_none p.client.txn) ≡ lacking
          → IsRefused p what
          (cond failed fault.Failed (cond lacking fault.NotTransactional fault.NotReady)) p
      by true lacking e f =
          (steps what own).is
          ∙ λ i. obeys p p.processing.stage (by_checks (e i) (f i))
      by false true e f =
          (steps what own).is
          ∙ λ i. obeys p p.processing.stage (by_checks (e i) (f i))
      by false false e f =
          (steps what own).is
          ∙ λ i. obeys p p.processing.stage (by_checks (e i) (f i))

  -- of the program's commands, those of transactions, offsets and the others
  pub of_transactions : (what : Command)
      → (what ≡ told.Begin) ⊎ ((outcome : Outcome) × (what ≡ told.End outcome))
      → IsRefused p (command_of what) (foreign_fault p true) p
  of_transactions what h =
      ⊎_elim (λ e. at told.Begin e (declined model.Begin refl))
      (λ e. at (told.End e.0) e.1 (declined (model.End e.0) refl)) h
    where
      at : (known : Command) → what ≡ known
          → IsRefused p (command_of known) (foreign_fault p true) p
          → IsRefused p (command_of what) (foreign_fault p true) p
      at known e is =
          subst (λ c. IsRefused p (command_of c) (foreign_fault p true) p) (sym e) is

  pub of_offsets : (offsets : List PartitionOffset) (b : Bool) → 1 ≤ length offsets
      → b ≡ (length offsets == 0)
      → IsRefused p (command_of_offsets offsets) (foreign_fault p (not b)) p
  of_offsets [] b some is = absurd (omega (arith, some))
  of_offsets (offset ∷ more) b some is =
      let none : b ≡ false = is ∙ grind (arith, nat_tests) in
      subst (λ c. IsRefused p (model.SendOffsets offset more) (foreign_fault p (not c)) p)
      (sym none) (declined (model.SendOffsets offset more) refl)

  pub of_others : (what : Command)
      → ((partition : ℕ) × (values : Values) × (what ≡ told.Send partition values))
      ⊎ (((group : List ℕ) × (what ≡ told.Join group)) ⊎ (what ≡ told.Leave))
      → IsRefused p (command_of what) (foreign_fault p false) p
  of_others what h =
      ⊎_elim (λ e. at (told.Send e.0 e.1) e.2
      (declined (model.Send e.0 e.1.first e.1.more) refl))
      (λ r. ⊎_elim (λ e. at (told.Join e.0) e.1 (declined (model.JoinGroup e.0) refl))
      (λ e. at told.Leave e (declined model.LeaveGroup refl)) r) h
    where
      at : (known : Command) → what ≡ known
          → IsRefused p (command_of known) (foreign_fault p false) p
          → IsRefused p (command_of what) (foreign_fault p false) p
      at known e is =
          subst (λ c. IsRefused p (command_of c) (foreign_fault p false) p) (sym e) is

------ what else it is handed

abbrev pub silent : Taken
silent = record { messages = []; note = note.Done; failed = false; found = false }

pub answered : (none : List Message) (taken : Taken) → none ≡ []
    → taken ≡ record { messages = none; note = note.Done; failed = false; found = false }
    → taken ≡ silent
answered none taken is e =
    e ∙ λ i. record { messages = is i; note = note.Done; failed = false; found = false }

-- a message comes
pub delivered : (p after : Processor) (m : Message) (taken : Taken) → after ≡ takes p m
    → taken ≡ silent
    → IsTaken (AtProcessor p) (Comes m) any_store (λ state. state ≡ AtProcessor after) taken
unfolding processor_step
delivered p after m taken is answers = record {
  store = Works;
  allowed = tt;
  stands = ap AtProcessor (sym is);
  answer = answers;
}

-- what isn't for it changes nothing
pub rests : (p : Processor) (given : Input) (taken : Taken)
    → ((now : ℕ) × (given ≡ input.Expire now)) ⊎ ((given ≡ input.Remind)
    ⊎ (((group : List ℕ) × (member : ℕ) × (given ≡ input.Drop group member))
    ⊎ (((values : Values) × (given ≡ input.Put values))
    ⊎ ((now : ℕ) × (given ≡ input.Restart now)))))
    → taken ≡ silent
    → IsTaken (AtProcessor p) (input_of given) any_store (λ state. state ≡ AtProcessor p) taken
unfolding processor_step
rests p given taken h answers =
    ⊎_elim (λ e. at (input.Expire e.0) e.1
    (record { store = Works; allowed = tt; stands = refl; answer = answers }))
    (λ r. ⊎_elim (λ e. at input.Remind e
    (record { store = Works; allowed = tt; stands = refl; answer = answers }))
    (λ r. ⊎_elim (λ e. at (input.Drop e.0 e.1) e.2
    (record { store = Works; allowed = tt; stands = refl; answer = answers }))
    (λ r. ⊎_elim (λ e. at (input.Put e.0) e.1
    (record { store = Works; allowed = tt; stands = refl; answer = answers }))
    (λ e. at (input.Restart e.0) e.1
    (record { store = Works; allowed = tt; stands = refl; answer = answers })) r) r) r) h
  where
    at : (known : Input) → given ≡ known
        → IsTaken (AtProcessor p) (input_of known) any_store (λ state. state ≡ AtProcessor p)
        taken
        → IsTaken (AtProcessor p) (input_of given) any_store (λ state. state ≡ AtProcessor p)
        taken
    at known e is = subst (λ i. IsTaken (AtProcessor p) (input_of i) any_store
        (λ state. state ≡ AtProcessor p) taken) (sym e) is
