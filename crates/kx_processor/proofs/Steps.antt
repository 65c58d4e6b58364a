-- What a processor does and declines, by what its client does.
use Rattle.std.proofs.Common.{◌≡◌, ◌∙◌, ℕ, Bool, true, false, cond, ◌∷◌, [], List, ap, refl, sym}
use Rattle.std.proofs.Common.{subst, Option, Some, None, is_some, is_none, not, ◌&&◌, ◌||◌, Result}
use Rattle.std.proofs.Common.{Ok, Err, filter}
use Rattle.std.specs.Prelude.{MatchResult}
use Rattle.std.specs.List.{list_any}
use Rattle.std.proofs.lemmas.Bool.{cond_both}
use Rattle.kx_client.specs.Calls as client
use Rattle.kx_client.specs.declared.fault.ClientFault.{ClientFault}
use Rattle.kx_client.specs.declared.fault.ClientFault.TheVariants as fault
use Rattle.kx_message.specs.declared.message.Held.{Held}
use Rattle.kx_message.specs.declared.message.Message.{Message}
use Rattle.kx_model.specs.Client as model
use Rattle.kx_model.specs.Client.{Client, Command, Commanded, Declines, Does, Init, Poll, Resend}
use Rattle.kx_model.specs.Client.{command, is_ending, is_init, is_spent}
use Rattle.kx_model.specs.Replies.{is_answer_to, is_awaited, take_reply, told}
use Rattle.kx_model.specs.Step.{Commands, serves}
use Rattle.kx_processor.specs.Calls as call
use Rattle.kx_processor.specs.Calls.{IsRefused, MaySend}
use Rattle.kx_processor.specs.Internal.{IsRefusedOrUnlisted}
use Rattle.kx_system.specs.Processor.{Aborting, Committing, Fetching, Joining, Locating, Overflown}
use Rattle.kx_system.specs.Processor.{Processor, Stage, Stopped, Writing, at_stage, has_failed}
use Rattle.kx_system.specs.Processor.{is_overflown, is_waiting, next_commands, obeys}
use Rattle.kx_system.specs.Processor.{Images, processor_step, stage_refused, stage_sent}
use Rattle.kx_system.specs.Processor.{stage_told, takes, told_all}
use Rattle.kx_system.proofs.ClientNumbers.{Kept, all_kept, number_kept, told_number}
use Rattle.kx_processor.specs.Running.{Running, processing_of, processor_of}

------ refusals

-- a refusal that doesn't say that an image fits no batch leaves the processor as it was
module _ (p : Processor) (what : Command) (stage : Stage) (answer : Commanded)
    (is : processor_step p (Commands what) ≡ obeys p stage answer)
    (other : answer ≡ Declines model.TooLarge
    → stage_refused model.TooLarge p.processing.stage ≡ p.processing.stage) where
  pub declined : (f : ClientFault) → client.IsRefused f answer → IsRefused p what f p
  declined fault.NotReady h = is ∙ ap (obeys p stage) h
  declined fault.InFlight h = is ∙ ap (obeys p stage) h
  declined fault.WindowFull h = is ∙ ap (obeys p stage) h
  declined fault.Failed h = is ∙ ap (obeys p stage) h
  declined fault.NotTransactional h = is ∙ ap (obeys p stage) h
  declined fault.UsedUp h = is ∙ ap (obeys p stage) h
  declined fault.MustAbort h = is ∙ ap (obeys p stage) h
  declined fault.TooLarge h =
      is ∙ ap (obeys p stage) h
      ∙ ap (λ s. record {
        state = record p { processing = at_stage p.processing s };
        messages = [];
        note = Rattle.kx_model.specs.Step.Declined model.TooLarge;
      }) (other h)
  declined fault.Memory h = refl

------ init and resend

module _ (p : Processor) where
  pub init_failed : has_failed p ≡ true → call.Declines p Init model.Failed p
  unfolding processor_step
  init_failed e =
      ap (λ b. obeys p p.processing.stage
      (cond b (Declines model.Failed) (command p.client Init))) e

  pub resend_failed : has_failed p ≡ true → call.Declines p Resend model.Failed p
  unfolding processor_step
  resend_failed e =
      ap (λ b. obeys p p.processing.stage
      (cond b (Declines model.Failed) (command p.client Resend))) e

  init_own : has_failed p ≡ false
      → processor_step p (Commands Init) ≡ obeys p p.processing.stage (command p.client Init)
  unfolding processor_step
  init_own e =
      ap (λ b. obeys p p.processing.stage
      (cond b (Declines model.Failed) (command p.client Init))) e

  resend_own : has_failed p ≡ false
      → processor_step p (Commands Resend) ≡ obeys p p.processing.stage (command p.client Resend)
  unfolding processor_step
  resend_own e =
      ap (λ b. obeys p p.processing.stage
      (cond b (Declines model.Failed) (command p.client Resend))) e

  -- neither says that a batch is too large
  record Fits (answer : Commanded) : Type 0 where
    pub fits : answer ≡ Declines model.TooLarge → ⊥

  init_fits : Fits (command p.client Init)
  unfolding command
  init_fits =
      let c = p.client in
      cond_both c.failed _ _ Fits (λ e. record { fits = λ h. absurd cc })
      (λ e. cond_both (is_some c.held || is_ending c) _ _ Fits
      (λ e. record { fits = λ h. absurd cc })
      (λ e. cond_both (not (list_any is_init c.waiting) && is_spent c) _ _ Fits
      (λ e. record { fits = λ h. absurd cc })
      (λ e. cond_both (list_any is_init c.waiting) _ _ Fits
      (λ e. record { fits = λ h. absurd cc }) (λ e. record { fits = λ h. absurd cc }))))

  resend_fits : Fits (command p.client Resend)
  unfolding command
  resend_fits =
      cond_both p.client.failed _ _ Fits (λ e. record { fits = λ h. absurd cc })
      (λ e. record { fits = λ h. absurd cc })

  pub init_does : (sent : Message) (after : Client) → has_failed p ≡ false
      → command p.client Init ≡ Does after (sent ∷ [])
      → processor_step p (Commands Init) ≡ serves (record p { client = after }) (sent ∷ [])
  init_does sent after e does = init_own e ∙ ap (obeys p p.processing.stage) does

  pub init_declined : (f : ClientFault) → has_failed p ≡ false
      → client.IsRefused f (command p.client Init) → IsRefused p Init f p
  init_declined f e h =
      declined p Init p.processing.stage (command p.client Init) (init_own e)
      (λ large. absurd (init_fits.fits large)) f h

  pub resend_does : (sent : List Message) → has_failed p ≡ false
      → command p.client Resend ≡ Does p.client sent
      → processor_step p (Commands Resend) ≡ serves p sent
  resend_does sent e does = resend_own e ∙ ap (obeys p p.processing.stage) does

  pub resend_declined : (f : ClientFault) → has_failed p ≡ false
      → client.IsRefused f (command p.client Resend) → IsRefused p Resend f p
  resend_declined f e h =
      declined p Resend p.processing.stage (command p.client Resend) (resend_own e)
      (λ large. absurd (resend_fits.fits large)) f h

------ polls

-- the answer of a poll, by what is looked at, in its order
abbrev poll_by : Processor → Bool → Bool → Bool → Bool → Commanded
poll_by p failed waiting none overflown =
    cond failed (Declines model.Failed)
    (cond (not waiting && none) (Declines model.NotReady)
    (cond (not waiting && overflown) (Declines model.TooLarge)
    (cond waiting (Does p.client [])
    (told_all p.client (next_commands p.client p.processing p.processing.stage)))))

abbrev stage_by : Processor → Bool → Stage
stage_by p waiting = cond waiting p.processing.stage (stage_sent p.processing.stage)

module _ (p : Processor) where
  by_parts : (failed waiting none overflown : Bool) → has_failed p ≡ failed
      → is_waiting p.client ≡ waiting → is_none p.client.held ≡ none
      → is_overflown p.processing.stage ≡ overflown
      → processor_step p (Commands Poll)
      ≡ obeys p (stage_by p waiting) (poll_by p failed waiting none overflown)
  unfolding processor_step
  by_parts failed waiting none overflown e f g h =
      λ i. obeys p (stage_by p (f i)) (poll_by p (e i) (f i) (g i) (h i))

  pub poll_failed : has_failed p ≡ true → call.Declines p Poll model.Failed p
  poll_failed e =
      by_parts true (is_waiting p.client) (is_none p.client.held)
      (is_overflown p.processing.stage) e refl refl refl

  pub poll_waits : has_failed p ≡ false → is_waiting p.client ≡ true
      → processor_step p (Commands Poll) ≡ serves p []
  poll_waits e f =
      by_parts false true (is_none p.client.held) (is_overflown p.processing.stage) e f refl refl

  pub poll_not_ready : has_failed p ≡ false → is_waiting p.client ≡ false
      → is_none p.client.held ≡ true → call.Declines p Poll model.NotReady p
  poll_not_ready e f g =
      by_parts false false true (is_overflown p.processing.stage) e f g refl

  pub poll_overflown : has_failed p ≡ false → is_waiting p.client ≡ false
      → is_none p.client.held ≡ false → p.processing.stage ≡ Overflown
      → call.Declines p Poll model.TooLarge
      (record p { processing = at_stage p.processing Stopped })
  poll_overflown e f g h =
      by_parts false false false true e f g (ap is_overflown h)
      ∙ ap (λ s. record {
        state = record p { processing = at_stage p.processing (stage_refused model.TooLarge s) };
        messages = [];
        note = Rattle.kx_model.specs.Step.Declined model.TooLarge;
      }) h

  idle : has_failed p ≡ false → is_waiting p.client ≡ false → is_none p.client.held ≡ false
      → is_overflown p.processing.stage ≡ false
      → processor_step p (Commands Poll) ≡ obeys p (stage_sent p.processing.stage)
      (told_all p.client (next_commands p.client p.processing p.processing.stage))
  idle e f g h = by_parts false false false false e f g h

  pub poll_does : (sent : List Message) (after : Client) → has_failed p ≡ false
      → is_waiting p.client ≡ false → is_none p.client.held ≡ false
      → is_overflown p.processing.stage ≡ false
      → told_all p.client (next_commands p.client p.processing p.processing.stage)
      ≡ Does after sent
      → processor_step p (Commands Poll) ≡ serves (record {
        client = after;
        processing = at_stage p.processing (stage_sent p.processing.stage);
      }) sent
  poll_does sent after e f g h does =
      idle e f g h ∙ ap (obeys p (stage_sent p.processing.stage)) does

  kept : (stage : Stage) → is_overflown stage ≡ false
      → stage_refused model.TooLarge stage ≡ stage
  kept Joining e = refl
  kept (Locating input left) e = refl
  kept (Fetching input left offset) e = refl
  kept (Writing input left next batches) e = refl
  kept (Committing left) e = refl
  kept (Aborting sequel) e = refl
  kept Overflown e = absurd cc
  kept Stopped e = refl

  pub poll_declined : (f : ClientFault) → has_failed p ≡ false → is_waiting p.client ≡ false
      → is_none p.client.held ≡ false → is_overflown p.processing.stage ≡ false
      → client.IsRefused f
      (told_all p.client (next_commands p.client p.processing p.processing.stage))
      → IsRefused p Poll f p
  poll_declined f e g h o refused =
      declined p Poll (stage_sent p.processing.stage)
      (told_all p.client (next_commands p.client p.processing p.processing.stage))
      (idle e g h o) (λ large. kept p.processing.stage o) f refused

------ running processors

abbrev pub running : {P : Type 0} → List ℕ → ℕ → P → Stage → Client → Running P
running group inputs process stage c = record {
  client = c;
  group = group;
  inputs = inputs;
  process = process;
  stage = stage;
}

-- what a client's answer to a command comes to
abbrev pub Answers : {A : Type 0} → (A → List Message) → Client → Client → Commanded
    → Result A ClientFault → Type 0
Answers messages before after answer result = MatchResult result
    (λ sent. answer ≡ Does after (messages sent))
    (λ f. client.IsRefused f answer × (after ≡ before))

kept_number : (c after : Client) (answer : Commanded) (sent : List Message) → Kept c answer
    → answer ≡ Does after sent → after.number ≡ c.number
kept_number c after answer sent kept is = subst (Kept c) is kept

module _ {P : Type 0} (image_of : P → Images) (r : Running P) where
  -- the same with another client, which has its number
  with_number : (after : Client) (stage : Stage) → after.number ≡ r.client.number
      → processor_of image_of (record r { client = after; stage = stage }) ≡ record {
        client = after;
        processing = at_stage (processing_of image_of r) stage;
      }
  with_number after stage same =
      λ i. record {
        client = after;
        processing = record (at_stage (processing_of image_of r) stage) { number = same i };
      }

  pub init_answers : (after : Client) (result : Result Message ClientFault)
      → has_failed (processor_of image_of r) ≡ false
      → Answers (λ sent. sent ∷ []) r.client after (command r.client Init) result
      → MatchResult result
      (λ sent. processor_step (processor_of image_of r) (Commands Init)
      ≡ serves (processor_of image_of (record r { client = after })) (sent ∷ []))
      (λ f. IsRefused (processor_of image_of r) Init f
      (processor_of image_of (record r { client = after }))
      × (record r { client = after } ≡ r))
  init_answers after (Ok sent) e does =
      init_does (processor_of image_of r) sent after e does
      ∙ ap (λ p. serves p (sent ∷ []))
      (sym (with_number after r.stage
      (kept_number r.client after (command r.client Init) (sent ∷ [])
      (number_kept r.client Init) does)))
  init_answers after (Err f) e (refused, same) = (
    subst (λ c. IsRefused (processor_of image_of r) Init f
        (processor_of image_of (record r { client = c }))) (sym same)
        (init_declined (processor_of image_of r) f e refused),
    ap (λ c. record r { client = c }) same,
  )

  pub resend_answers : {A : Type 0} (items : A → List Message) (result : Result A ClientFault)
      → has_failed (processor_of image_of r) ≡ false
      → MatchResult result (λ sent. command r.client Resend ≡ Does r.client (items sent))
      (λ f. client.IsRefused f (command r.client Resend))
      → MatchResult result
      (λ sent. processor_step (processor_of image_of r) (Commands Resend)
      ≡ serves (processor_of image_of r) (items sent))
      (λ f. IsRefused (processor_of image_of r) Resend f (processor_of image_of r))
  resend_answers items (Ok sent) e does =
      resend_does (processor_of image_of r) (items sent) e does
  resend_answers items (Err f) e refused =
      resend_declined (processor_of image_of r) f e refused

------ out of memory, which comes only for what is sent

-- a fault; of a success any
abbrev fault_in : {A : Type 0} → Result A ClientFault → ClientFault
fault_in (Ok sent) = fault.Memory
fault_in (Err f) = f

module _ {P : Type 0} (image_of : P → Images) (r : Running P) where
  pub init_memory : (after : Client) (result : Result Message ClientFault)
      → has_failed (processor_of image_of r) ≡ false
      → Answers (λ sent. sent ∷ []) r.client after (command r.client Init) result
      → result ≡ Err fault.Memory → MaySend (processor_of image_of r) Init
  init_memory after (Ok sent) e does is = absurd cc
  init_memory after (Err f) e (refused, same) is = record {
    not_failed = e;
    sends = subst (λ other. client.IsRefused other (command r.client Init)) (ap fault_in is)
        refused;
  }

  pub resend_memory : {A : Type 0} (items : A → List Message) (result : Result A ClientFault)
      → has_failed (processor_of image_of r) ≡ false
      → MatchResult result (λ sent. command r.client Resend ≡ Does r.client (items sent))
      (λ f. client.IsRefused f (command r.client Resend))
      → result ≡ Err fault.Memory → MaySend (processor_of image_of r) Resend
  resend_memory items (Ok sent) e does is = absurd cc
  resend_memory items (Err f) e refused is = record {
    not_failed = e;
    sends = subst (λ other. client.IsRefused other (command r.client Resend)) (ap fault_in is)
        refused;
  }

------ replies

module _ {P : Type 0} (image_of : P → Images) (r : Running P) where
  pub not_awaited : (reply : Message) → is_awaited r.client reply ≡ false
      → processor_of image_of r ≡ takes (processor_of image_of r) reply
  unfolding takes take_reply
  not_awaited reply e =
      let p = processor_of image_of r in
      sym (λ i. record {
        client = cond (e i) (told r.client (record r.client {
          waiting = filter (λ m. not (is_answer_to reply m)) r.client.waiting;
        }) reply) r.client;
        processing = cond (e i) (at_stage p.processing (stage_told p.processing reply))
            p.processing;
      })

  pub awaited : (reply : Message) (after : Client) (stage : Stage)
      → is_awaited r.client reply ≡ true → after ≡ take_reply r.client reply
      → stage ≡ stage_told (processing_of image_of r) reply
      → processor_of image_of (record r { client = after; stage = stage })
      ≡ takes (processor_of image_of r) reply
  unfolding takes
  awaited reply after stage e is leads =
      let p = processor_of image_of r in
      with_number image_of r after stage
      (ap (λ (c : Client). c.number) is ∙ told_number r.client reply)
      ∙ λ i. record {
        client = is i;
        processing = cond (sym e i) (at_stage p.processing (leads i)) p.processing;
      }

------ polls of running processors

pub no_id : (held : Option Held) → is_some held ≡ false → is_none held ≡ true
no_id None e = refl
no_id (Some held) e = absurd cc

pub an_id : (held : Option Held) → is_some held ≡ true → is_none held ≡ false
an_id None e = absurd cc
an_id (Some held) e = refl

pub overflown : (stage : Stage) → is_overflown stage ≡ true → stage ≡ Overflown
overflown Joining e = absurd cc
overflown (Locating input left) e = absurd cc
overflown (Fetching input left offset) e = absurd cc
overflown (Writing input left next batches) e = absurd cc
overflown (Committing left) e = absurd cc
overflown (Aborting sequel) e = absurd cc
overflown Overflown e = refl
overflown Stopped e = absurd cc

told_kept : (c : Client) (commands : List Command) → Kept c (told_all c commands)
told_kept c [] = refl
told_kept c (what ∷ more) = all_kept c what more

module _ {P : Type 0} (image_of : P → Images) (r after : Running P)
    (own : has_failed (processor_of image_of r) ≡ false) (idle : is_waiting r.client ≡ false)
    (id : is_none r.client.held ≡ false) (fitted : is_overflown r.stage ≡ false) where
  next : Commanded
  next = told_all r.client (next_commands r.client (processing_of image_of r) r.stage)

  -- what the rules refuse, or memory
  not_done : (f : ClientFault) → IsRefusedOrUnlisted f next
      → IsRefused (processor_of image_of r) Poll f (processor_of image_of r)
  unfolding next
  not_done fault.Memory h = refl
  not_done fault.NotReady h =
      poll_declined (processor_of image_of r) fault.NotReady own idle id fitted h
  not_done fault.InFlight h =
      poll_declined (processor_of image_of r) fault.InFlight own idle id fitted h
  not_done fault.WindowFull h =
      poll_declined (processor_of image_of r) fault.WindowFull own idle id fitted h
  not_done fault.Failed h =
      poll_declined (processor_of image_of r) fault.Failed own idle id fitted h
  not_done fault.NotTransactional h =
      poll_declined (processor_of image_of r) fault.NotTransactional own idle id fitted h
  not_done fault.UsedUp h =
      poll_declined (processor_of image_of r) fault.UsedUp own idle id fitted h
  not_done fault.MustAbort h =
      poll_declined (processor_of image_of r) fault.MustAbort own idle id fitted h
  not_done fault.TooLarge h =
      poll_declined (processor_of image_of r) fault.TooLarge own idle id fitted h

  pub poll_answers : {A : Type 0} (items : A → List Message) (result : Result A ClientFault)
      → MatchResult result
      (λ sent. (told_all r.client (next_commands r.client (processing_of image_of r) r.stage)
      ≡ Does after.client (items sent))
      × (after ≡ record r { client = after.client; stage = stage_sent r.stage }))
      (λ f. IsRefusedOrUnlisted f
      (told_all r.client (next_commands r.client (processing_of image_of r) r.stage))
      × (after ≡ r))
      → MatchResult result
      (λ sent. processor_step (processor_of image_of r) (Commands Poll)
      ≡ serves (processor_of image_of after) (items sent))
      (λ f. IsRefused (processor_of image_of r) Poll f (processor_of image_of after))
  unfolding next
  poll_answers items (Ok sent) (does, is) =
      poll_does (processor_of image_of r) (items sent) after.client own idle id fitted does
      ∙ ap (λ p. serves p (items sent))
      (sym (ap (processor_of image_of) is
      ∙ with_number image_of r after.client (stage_sent r.stage)
      (kept_number r.client after.client next (items sent)
      (told_kept r.client (next_commands r.client (processing_of image_of r) r.stage)) does)))
  poll_answers items (Err f) (refused, same) =
      subst (λ s. IsRefused (processor_of image_of r) Poll f (processor_of image_of s))
      (sym same) (not_done f refused)
