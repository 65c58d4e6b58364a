-- What is printed of what happened, and what it leaves.
use Rattle.std.proofs.Common.{◌≡◌, ℕ, List, length, drop, Option, Some, Ok, true, refl, ap}
use Rattle.std.proofs.Common.{◌∙◌, subst, inl, inr}
use Rattle.std.specs.Io.KnownBytes.{Appends}
use Rattle.kx_core.specs.Local.{IsLocal}
use Rattle.kx_core.specs.World.{Steps, open_store_fails, place_of, store_fails}
use Rattle.kx_core.specs.declared.event.Happened.{Happened}
use Rattle.kx_machine.specs.Meaning.{note_of}
use Rattle.kx_machine.specs.declared.taken.Note.{Note}
use Rattle.kx_message.specs.declared.message.NodeId.{NodeId}
use Rattle.kx_pipeline.specs.OpenSystems.{Inside, OpenSystemEvent, open_system_step}
use Rattle.kx_processor.specs.Prefixed.{images_of}
use Rattle.kx_script.specs.Printing.{messages_text, step_text}
use Rattle.kx_script.specs.Running.{Means, StandsFor, StandsIn}
use Rattle.kx_script.specs.Script.{Answered, State, event_text, happens}
use Rattle.kx_script.specs.Session.{Session, marks_after, session_after}
use Rattle.kx_script.specs.declared.event.EventAt.{EventAt}
use Rattle.kx_script.specs.declared.marks.Marks.{Marks}
use Rattle.kx_script.specs.declared.world.Running.{Running}
use Rattle.kx_system.specs.System.{System, SystemEvent, system_step}
use Rattle.kx_text.specs.Pages.{lost_text}

-- a node took its step, which was printed, and its mark was taken back if its append failed
pub happens_so : (s : Session) (event : SystemEvent) (read : EventAt) (after : Running)
    (before : Marks) (h : Happened) (first : ℕ) (old new : Option (List ℕ))
    → Means s.system read event
    → Steps images_of s.system read.event (IsLocal images_of after.world) h
    → before ≡ s.marks → after.marks ≡ marks_after before read.place h.failed
    → first ≡ length s.system.world.sent
    → ((t : System) → IsLocal images_of after.world t → Appends old new
    (step_text h.note (messages_text first read.place (drop first t.world.sent))))
    → Answered (StandsIn (Some after)) (Some (happens s event)) (Some (Some s)) old new (Ok true)
happens_so s event read after before h first old new m k b marks f a =
    let is : k.happened ≡ Inside event = m.only k.happened k.is in
    let next : System = (system_step s.system event).0 in
    let sent = next.world.sent in
    let note : Note = note_of (system_step s.system event).1 in
    let stands : IsLocal images_of after.world next =
    subst (λ (e : OpenSystemEvent). IsLocal images_of after.world
    (open_system_step s.system e).0) is k.stands in
    let note_is : h.note ≡ note =
    k.note_is ∙ ap (λ (e : OpenSystemEvent). note_of (open_system_step s.system e).1) is in
    let failed_is : h.failed ≡ store_fails s.system event =
    k.failed_is ∙ ap (open_store_fails s.system) is in (
      event_text s.system event,
      Some (session_after s event),
      inl refl,
      (
        stands,
        marks ∙ ap (λ (x : Marks). marks_after x read.place h.failed) b
            ∙ ap (λ (p : NodeId). marks_after s.marks p h.failed) m.place_is
            ∙ ap (marks_after s.marks (place_of event)) failed_is,
      ),
      subst (Appends old new)
          (ap (λ (n : Note). step_text n (messages_text first read.place (drop first sent)))
          note_is
          ∙ ap (λ (p : NodeId). step_text note (messages_text first p (drop first sent)))
          m.place_is
          ∙ ap (λ (k : ℕ). step_text note (messages_text k (place_of event) (drop k sent))) f)
          (a next stands),
    )

-- memory was refused, and nothing happened
pub lost_so : (s : Session) (wanted : Option (List ℕ × State)) (after : Running)
    (old new : Option (List ℕ)) → StandsFor after s → Appends old new lost_text
    → Answered (StandsIn (Some after)) wanted (Some (Some s)) old new (Ok true)
lost_so s wanted after old new st a = (lost_text, Some s, inr (refl, refl), st, a)
