-- A client keeps its number, whatever it takes, and so does a processor.
use Rattle.std.proofs.Common.{◌≡◌, ◌&&◌, Bool, true, false, cond, List, [], ◌∷◌, not, refl}
use Rattle.std.specs.Prelude.{is_none}
use Rattle.std.proofs.lemmas.Bool.{cond_both}
use Rattle.kx_model.specs.Client as model
use Rattle.kx_model.specs.Client.{Client, Command, Commanded, Does, Declines}
use Rattle.kx_model.specs.Replies.{is_awaited}
use Rattle.kx_model.specs.Step as step
use Rattle.kx_model.specs.Step.{Input, commanded, client_step}
use Rattle.kx_system.proofs.ClientNumbers.{Kept, all_kept, number_kept, told_number, unless_kept}
use Rattle.kx_system.specs.Processor.{Processor, Stage, foreign, has_failed, is_overflown}
use Rattle.kx_system.specs.Processor.{at_stage, is_waiting, needs_transactions, next_commands}
use Rattle.kx_system.specs.Processor.{obeys, processor_command, processor_step, stage_told, takes}
use Rattle.kx_system.specs.Processor.{told_all}

module _ (c : Client) where
  by_commanded : (done : Commanded) → Kept c done → (commanded c done).state.number ≡ c.number
  by_commanded (Declines fault) h = refl
  by_commanded (Does after sent) h = h

  pub step_number : (input : Input) → (client_step c input).state.number ≡ c.number
  step_number (step.Comes m) = told_number c m
  step_number (step.Commands what) = by_commanded _ (number_kept c what)
  step_number (step.Expires now) = refl
  step_number step.Reminds = refl
  step_number (step.Drops group member) = refl
  step_number (step.Puts value more) = refl
  step_number (step.Restarts now) = refl

module _ (p : Processor) where
  abbrev c : Client
  c = p.client

  asked : (b : Bool) → Kept c (cond b (Does c []) (told_all c (next_commands c p.processing
      p.processing.stage)))
  asked true = refl
  asked false = told_kept (next_commands c p.processing p.processing.stage)
    where
      told_kept : (commands : List Command) → Kept c (told_all c commands)
      told_kept [] = refl
      told_kept (what ∷ more) = all_kept c what more

  foreign_kept : (what : Command) → Kept c (foreign p what)
  foreign_kept what = unless_kept c (
      (has_failed p, model.Failed)
      ∷ (needs_transactions what && is_none c.txn, model.NotTransactional) ∷ [])
      (Declines model.NotReady) tt

  answer_kept : (what : Command) → Kept c (processor_command p what)
  answer_kept model.Poll = unless_kept c (
      (has_failed p, model.Failed)
      ∷ (not (is_waiting c) && is_none c.held, model.NotReady)
      ∷ (not (is_waiting c) && is_overflown p.processing.stage, model.TooLarge) ∷ [])
      _ (asked (is_waiting c))
  answer_kept model.Init =
      unless_kept c ((has_failed p, model.Failed) ∷ []) _ (number_kept c model.Init)
  answer_kept model.Resend =
      unless_kept c ((has_failed p, model.Failed) ∷ []) _ (number_kept c model.Resend)
  answer_kept model.Begin = foreign_kept model.Begin
  answer_kept (model.Send partition value more) = foreign_kept (model.Send partition value more)
  answer_kept (model.JoinGroup group) = foreign_kept (model.JoinGroup group)
  answer_kept model.LeaveGroup = foreign_kept model.LeaveGroup
  answer_kept (model.SendOffsets offset more) = foreign_kept (model.SendOffsets offset more)
  answer_kept (model.End outcome) = foreign_kept (model.End outcome)
  answer_kept (model.FetchPage partition from) = foreign_kept (model.FetchPage partition from)
  answer_kept (model.FetchOffset group partition) =
      foreign_kept (model.FetchOffset group partition)

  by_obeyed : (stage : Stage) (done : Commanded) → Kept c done
      → (obeys p stage done).state.client.number ≡ c.number
  by_obeyed stage (Declines fault) h = refl
  by_obeyed stage (Does after sent) h = h

  -- and so does a processor
  pub turn_number : (input : Input) → (processor_step p input).state.client.number ≡ c.number
  unfolding processor_step takes
  turn_number (step.Comes m) = told_number c m
  turn_number (step.Commands what) = by_obeyed _ _ (answer_kept what)
  turn_number (step.Expires now) = refl
  turn_number step.Reminds = refl
  turn_number (step.Drops group member) = refl
  turn_number (step.Puts value more) = refl
  turn_number (step.Restarts now) = refl

  by_obeyed_too : (stage : Stage) (done : Commanded)
      → (obeys p stage done).state.processing.number ≡ p.processing.number
  by_obeyed_too stage (Declines fault) = refl
  by_obeyed_too stage (Does after sent) = refl

  -- as what it is beside its client
  pub processing_number : (input : Input)
      → (processor_step p input).state.processing.number ≡ p.processing.number
  unfolding processor_step takes
  processing_number (step.Comes m) =
      cond_both (is_awaited c m) (at_stage p.processing (stage_told p.processing m)) p.processing
      (λ q. q.number ≡ p.processing.number) (λ e. refl) (λ e. refl)
  processing_number (step.Commands what) = by_obeyed_too _ _
  processing_number (step.Expires now) = refl
  processing_number step.Reminds = refl
  processing_number (step.Drops group member) = refl
  processing_number (step.Puts value more) = refl
  processing_number (step.Restarts now) = refl
