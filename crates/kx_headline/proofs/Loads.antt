-- What a request carries is what its batch reads as, so it carries one load.
use Rattle.std.proofs.Common.{◌≡◌, pos, Some, refl, sym, ap, ◌∙◌, arith}
use Rattle.kx_message.specs.declared.message.Message.{Message}
use Rattle.kx_batch.specs.Batch.{batch_of}
use Rattle.kx_model.specs.Verification.{Request, partition_of, request_of}
use Rattle.kx_laws.proofs.DroppedIds.{same_number}
use Rattle.kx_headline.proofs.ClientRequests.{Carries, Load, with_batch, with_offsets}
use Rattle.kx_headline.proofs.SentBatches.{reads_epoch, reads_id, reads_sequence}

-- the request of a message, and that its batch has the load's numbers
pub record Reads (m : Message) (l : Load) : Type 0 where
  pub request : Request
  pub is : request_of m ≡ Some request
  pub partition : partition_of request.target ≡ l.partition
  pub id : (batch_of request.text).producer_id ≡ pos l.held.id
  pub epoch : (batch_of request.text).producer_epoch ≡ pos l.held.epoch
  pub first : (batch_of request.text).base_sequence ≡ pos l.first

pub carries_reads : (m : Message) (l : Load) → Carries m l → Reads m l
carries_reads m l
    (with_batch caller txn partition transactional held first records fits low)
    =
    record {
      request = _;
      is = refl;
      partition = refl;
      id = reads_id _ (record { sfits = omega (arith, fits.id) });
      epoch = reads_epoch _ (record { sfits = omega (arith, fits.epoch) });
      first = reads_sequence _ (record { sfits = omega (arith, low) });
    }
carries_reads m l
    (with_offsets caller txn group member generation held first offsets fits low)
    =
    record {
      request = _;
      is = refl;
      partition = refl;
      id = reads_id _ (record { sfits = omega (arith, fits.id) });
      epoch = reads_epoch _ (record { sfits = omega (arith, fits.epoch) });
      first = reads_sequence _ (record { sfits = omega (arith, low) });
    }

pub same_request : (r s : Request) → Some r ≡ Some s → r ≡ s
same_request r s e = cc

-- a request carries one load
pub one_load : (m : Message) (l j : Load) → Carries m l → Carries m j → l ≡ j
one_load m l j a b =
    let x = carries_reads m l a in
    let y = carries_reads m j b in
    let same = same_request x.request y.request (sym x.is ∙ y.is) in
    let partition = sym x.partition ∙ ap (λ (r : Request). partition_of r.target) same
    ∙ y.partition in
    let id = same_number l.held.id j.held.id
    (sym x.id ∙ ap (λ (r : Request). (batch_of r.text).producer_id) same ∙ y.id) in
    let epoch = same_number l.held.epoch j.held.epoch
    (sym x.epoch ∙ ap (λ (r : Request). (batch_of r.text).producer_epoch) same ∙ y.epoch) in
    let first = same_number l.first j.first
    (sym x.first ∙ ap (λ (r : Request). (batch_of r.text).base_sequence) same ∙ y.first) in
    λ i. record {
      partition = partition i;
      held = record { id = id i; epoch = epoch i };
      first = first i;
    }
