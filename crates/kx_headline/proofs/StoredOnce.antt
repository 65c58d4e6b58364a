-- Each batch stands at most once in its log, as it was sent, and once if its transaction commits:
-- given what clients keep to.
use Rattle.std.proofs.Common.{◌≡◌, ℕ, true}
use Rattle.std.proofs.Common.{Some, Contains}
use Rattle.std.proofs.Common.{sym, ap, ◌∙◌, subst}
use Rattle.kx_message.specs.declared.message.Message.{Message}
use Rattle.kx_message.specs.declared.outcome.Outcome.TheVariants.{Commit}
use Rattle.kx_batch.specs.Batch.{batch_of}
use Rattle.kx_model.specs.Coordinator.{decision}
use Rattle.kx_model.specs.Headline.{IsStoredOnce, StandsAt, is_stored_as}
use Rattle.kx_model.specs.Log.{Data, Sequenced, Stored, entries}
use Rattle.kx_model.specs.Log.{entry_in, entry_of}
use Rattle.kx_model.specs.Produce.{stored_at}
use Rattle.kx_model.specs.Verification.{Request, partition_of}
use Rattle.kx_model.specs.Verification.{request_of}
use Rattle.kx_model.specs.World.{World, log_at, notes}
use Rattle.kx_headline.proofs.WorldReaders.{grown_at}
use Rattle.kx_headline.proofs.MarkersFit.{markers_fit}
use Rattle.kx_headline.proofs.PartitionsAlways.{PartitionsHold, PartitionsStand}
use Rattle.kx_laws.proofs.Duplicates.{StoredLike}
use Rattle.kx_headline.proofs.PartitionHolds.{MarkersFit}
use Rattle.kx_headline.proofs.PartitionPromises.{IsStored}
use Rattle.kx_laws.proofs.Sequences.{grown_ordered}
use Rattle.kx_headline.proofs.StoredRequests.{place_of, same_tells, stored_as, stored_request}

------ what clients keep to

-- a partition has promised that the request's batch stands
pub record IsAnswered (w : World) (r : Request) : Type 0 where
  pub partition : ℕ
  pub stored : IsStored w.sent partition (log_at w partition) r.caller

pub record ClientsKeep (w : World) : Type 0 where
  -- batches of one id, epoch and first sequence, sent to one partition, are one batch
  pub one_batch : (m n : Message) (r s : Request) (d e : Sequenced) → Contains w.sent m
      → Contains w.sent n → request_of m ≡ Some r → request_of n ≡ Some s
      → partition_of r.target ≡ partition_of s.target → entry_in (batch_of r.text) ≡ Data d
      → entry_in (batch_of s.text) ≡ Data e → d.id ≡ e.id → d.epoch ≡ e.epoch → d.first ≡ e.first
      → r.text ≡ s.text
  -- a client's correlation is that of one request
  pub one_request : (m n : Message) (r s : Request) → Contains w.sent m → Contains w.sent n
      → request_of m ≡ Some r → request_of n ≡ Some s → r.caller ≡ s.caller → r ≡ s
  -- what is decided to commit has each of its batches answered
  pub answered : (m : Message) (r : Request) (d : Sequenced) → Contains w.sent m
      → request_of m ≡ Some r → entry_in (batch_of r.text) ≡ Data d
      → decision (notes w) d.id d.epoch ≡ Some Commit → IsAnswered w r

------ in a world

module _ (w : World) (all : PartitionsHold w) (fit : MarkersFit w.sent) (clients : ClientsKeep w)
    (m : Message) (r : Request) (d : Sequenced) (handed : Contains w.sent m)
    (is : request_of m ≡ Some r) (reads : entry_in (batch_of r.text) ≡ Data d) where
  abbrev q : ℕ
  q = partition_of r.target

  itself : (offset : ℕ) (stored : Stored) → StandsAt w r offset stored
      → is_stored_as d (entry_of stored) ≡ true → stored ≡ stored_at offset r.text
  itself offset stored c same =
      let e = same_tells d (entry_of stored) same in
      let s = stored_request w all fit q offset stored e.batch c e.is in
      let a = s.asked_for in
      let text : s.request.text ≡ r.text =
      clients.one_batch a.message m s.request r e.batch d a.handed handed a.is is a.here s.reads
      reads e.id e.epoch e.first in
      s.is ∙ ap (stored_at offset) text

  promised : (partition : ℕ)
      → IsStored w.sent partition (log_at w partition) r.caller
      → (offset : ℕ) × StandsAt w r offset (stored_at offset r.text)
  promised partition stored =
      let asked = stored.asked_for in
      let one : stored.request ≡ r =
      clients.one_request asked.message m stored.request r asked.handed handed asked.is is
      stored.its_caller in
      let here : partition ≡ q =
      sym asked.here ∙ ap (λ (x : Request). partition_of x.target) one in
      let like = subst (λ n. StoredLike (entries (log_at w n)) d) here
      (stored.stored d (ap (λ (x : Request). entry_in (batch_of x.text)) one ∙ reads)) in
      let p = place_of w q like.batch like.there in
      let same = itself p.offset p.stored p.there
      (ap (is_stored_as d) p.is ∙ stored_as d like.batch like.id like.epoch like.first) in (
        p.offset,
        subst (StandsAt w r p.offset) {y = stored_at p.offset r.text} same p.there,
      )

  committed : decision (notes w) d.id d.epoch ≡ Some Commit
      → (offset : ℕ) × StandsAt w r offset (stored_at offset r.text)
  committed e =
      let a = clients.answered m r d handed is reads e in
      promised a.partition a.stored

-- each batch sent stands once in a world, if clients keep to that
pub stored_once : (w : World) → PartitionsStand w → ClientsKeep w → (m : Message) (r : Request)
    (d : Sequenced) → Contains w.sent m → request_of m ≡ Some r
    → entry_in (batch_of r.text) ≡ Data d → IsStoredOnce w r d
stored_once w stand clients m r d handed is reads =
    let fit = markers_fit w stand.coordinator in
    let q = partition_of r.target in
    record {
      once = (grown_ordered (log_at w q) (grown_at w q stand.holds fit)).once d;
      itself = itself w stand.holds fit clients m r d handed is reads;
      committed = committed w stand.holds fit clients m r d handed is reads;
    }
