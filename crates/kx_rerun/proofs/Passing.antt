-- One more step is added to the events.
use Rattle.std.proofs.Common.{◌≡◌, ◌≤◌, ◌<◌, ◌∙◌, ◌++◌, ◌+◌, zero, suc, ℕ, List, [], ◌∷◌, Some, refl}
use Rattle.std.proofs.Common.{sym, ap, subst, take, append-nil, length, arith}
use Rattle.std.specs.Prelude.{slice_get}
use Rattle.std.proofs.lemmas.List.{append_assoc, take_all}
use Rattle.kx_audit.specs.Rerun.{behind_at}
use Rattle.kx_audit.specs.Told.{Told, told_messages}
use Rattle.kx_audit.specs.declared.turn.Turn.{Turn}
use Rattle.kx_audit.proofs.Auditing.{messages_push}
use Rattle.kx_audit.proofs.Rerunning.{take_next}
use Rattle.kx_core.specs.declared.event.Event as happening
use Rattle.kx_message.specs.declared.message.Message.{Message}
use Rattle.kx_nodes.specs.Again.{mode_for}
use Rattle.kx_nodes.specs.Replay.{Traced}
use Rattle.kx_rerun.specs.Stepping.{AddsEvent, AreSteps, IsStepOf}

-- an element that is there
pub some_at : {A : Type 0} (xs : List A) (n : ℕ) → n < length xs
    → (x : A) × (slice_get xs n ≡ Some x)
some_at [] n lt = absurd (omega (arith, lt))
some_at (x ∷ xs) zero lt = (x, refl)
some_at (x ∷ xs) (suc n) lt = some_at xs n (omega (arith, lt))

-- the events are these, and then the steps at these turns
pub record Passing {B F : Type 0} (traces : List (Traced B)) (turns : List Turn)
    (told : List Told) (made events : List (happening.Event F)) (sent : List Message)
    : Type 0 where
  pub steps : List (happening.Event F)
  pub events_are : events ≡ made ++ steps
  pub are : AreSteps traces [] turns told steps
  pub sent_is : sent ≡ told_messages told

module _ {B F : Type 0} (traces : List (Traced B)) where
  steps_push : (sent : List Message) (turns : List Turn) (told : List Told)
      (es : List (happening.Event F)) (turn : Turn) (x : Told) (e : happening.Event F)
      → AreSteps traces sent turns told es
      → IsStepOf (sent ++ told_messages told) x.node x.step.input
      (mode_for x.step (behind_at traces turn)) e
      → AreSteps traces sent (turns ++ turn ∷ []) (told ++ x ∷ []) (es ++ e ∷ [])
  steps_push sent [] [] [] turn x e are is = (
    subst (λ (ms : List Message). IsStepOf ms x.node x.step.input
        (mode_for x.step (behind_at traces turn)) e) (append-nil sent) is,
    tt,
  )
  steps_push sent [] [] (f ∷ es) turn x e are is = absurd are
  steps_push sent [] (y ∷ told) es turn x e are is = absurd are
  steps_push sent (t ∷ turns) [] es turn x e are is = absurd are
  steps_push sent (t ∷ turns) (y ∷ told) [] turn x e are is = absurd are
  steps_push sent (t ∷ turns) (y ∷ told) (f ∷ es) turn x e are is = (
    are.0,
    steps_push (sent ++ y.taken.messages) turns told es turn x e are.1
        (subst (λ (ms : List Message). IsStepOf ms x.node x.step.input
        (mode_for x.step (behind_at traces turn)) e)
        (sym (append_assoc sent y.taken.messages (told_messages told))) is),
  )

  pub passing_more : (turns : List Turn) (told : List Told) (n : ℕ) (turn : Turn) (x : Told)
      (made events more : List (happening.Event F)) (sent later : List Message)
      → slice_get turns n ≡ Some turn → slice_get told n ≡ Some x
      → Passing traces (take n turns) (take n told) made events sent
      → AddsEvent (behind_at traces turn) x sent later events more
      → Passing traces (take (n + 1) turns) (take (n + 1) told) made more later
  passing_more turns told n turn x made events more sent later at there passing adds =
      let longer = take_next turns n turn at in
      let longest = take_next told n x there in
      record {
        steps = passing.steps ++ adds.event ∷ [];
        events_are = adds.events_are
            ∙ ap (λ (l : List (happening.Event F)). l ++ adds.event ∷ []) passing.events_are
            ∙ append_assoc made passing.steps (adds.event ∷ []);
        are = subst (λ (l : List Turn). AreSteps traces [] l (take (n + 1) told)
            (passing.steps ++ adds.event ∷ [])) (sym longer)
            (subst (λ (l : List Told). AreSteps traces [] (take n turns ++ turn ∷ []) l
            (passing.steps ++ adds.event ∷ [])) (sym longest)
            (steps_push [] (take n turns) (take n told) passing.steps turn x adds.event passing.are
            (subst (λ (ms : List Message). IsStepOf ms x.node x.step.input
            (mode_for x.step (behind_at traces turn)) adds.event) passing.sent_is adds.is)));
        sent_is = adds.sent
            ∙ ap (λ (ms : List Message). ms ++ x.taken.messages) passing.sent_is
            ∙ sym (messages_push (take n told) x)
            ∙ sym (ap told_messages longest);
      }

  -- all of them
  pub passing_all : (turns : List Turn) (told : List Told) (n : ℕ)
      (made events : List (happening.Event F)) (sent : List Message)
      → length turns ≤ n → length told ≤ n
      → Passing traces (take n turns) (take n told) made events sent
      → Passing traces turns told made events sent
  passing_all turns told n made events sent one other passing =
      subst (λ (l : List Turn). Passing traces l told made events sent)
      (take_all n turns one)
      (subst (λ (l : List Told). Passing traces (take n turns) l made events sent)
      (take_all n told other) passing)
