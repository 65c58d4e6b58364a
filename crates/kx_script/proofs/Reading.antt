-- What was read of words, by the event that it means.
use Rattle.std.proofs.Common.{◌≡◌, ℕ, Option, Some, ap, ◌∙◌, subst}
use Rattle.kx_message.specs.Receiver.{receiver_of}
use Rattle.kx_message.specs.declared.message.Message.{Message}
use Rattle.kx_message.specs.declared.message.NodeId.{NodeId}
use Rattle.kx_model.specs.Disk.{Store}
use Rattle.kx_model.specs.World.{Deliver}
use Rattle.kx_script.specs.Running.{IsRead, Means}
use Rattle.kx_script.specs.Session.{Session, delivers, mark_at, store_at, store_of}
use Rattle.kx_script.specs.declared.event.EventAt.{EventAt}
use Rattle.kx_script.specs.declared.marks.Marks.{Marks}
use Rattle.kx_script.specs.declared.order.Left.{Left}
use Rattle.kx_system.specs.System.{System, SystemEvent, Happens}

pub is_read : {s : System} {wanted : Option SystemEvent} {read : EventAt} {event : SystemEvent}
    → Means s read event → wanted ≡ Some event → IsRead s wanted read
is_read {s} {wanted} {read} {event} m e = record { event = event; is = e; means = m }

-- the message that comes is this one, by the mark of the node that it is for
pub it_delivers : (s : Session) (number : ℕ) (m : Message) (to : NodeId) (marks : Marks)
    (mark : Option Left) (read : EventAt) → to ≡ receiver_of m → mark ≡ mark_at marks to
    → marks ≡ s.marks → Means s.system read (Happens (Deliver number to (store_of mark)))
    → Means s.system read (delivers s number m)
it_delivers s number m to marks mark read t k e h =
    let store : store_of mark ≡ store_at s (receiver_of m) =
    ap store_of (k ∙ ap (λ (n : NodeId). mark_at marks n) t
    ∙ ap (λ (ms : Marks). mark_at ms (receiver_of m)) e) in
    subst (λ (event : SystemEvent). Means s.system read event)
    (ap (λ (n : NodeId). Happens (Deliver number n (store_of mark))) t
    ∙ ap (λ (st : Store). Happens (Deliver number (receiver_of m) st)) store) h
