-- Clients keep to what each batch standing once rests on: from what stands of their requests.
use Rattle.std.proofs.Common.{◌≡◌, ℕ, ℤ, pos, negsuc, Option, Some, None, Contains}
use Rattle.std.proofs.Common.{sym, ap, ◌∙◌, subst}
use Rattle.std.proofs.lemmas.List.Elements.{All-contains}
use Rattle.kx_message.specs.Messages.{caller_with}
use Rattle.kx_message.specs.Ranges.{offsets_partition}
use Rattle.kx_message.specs.declared.code.ErrorCode.TheVariants.{NoError}
use Rattle.kx_message.specs.declared.message.Held.{Held}
use Rattle.kx_message.specs.declared.message.Message.{Message}
use Rattle.kx_message.specs.declared.message.Message.TheVariants as msg
use Rattle.kx_message.specs.Messages as the
use Rattle.kx_message.specs.declared.outcome.Outcome.{Outcome}
use Rattle.kx_message.specs.declared.outcome.Outcome.TheVariants.{Commit}
use Rattle.kx_batch.specs.Batch.{Batch, batch_of}
use Rattle.kx_batch.specs.Marker.{end_marker_of}
use Rattle.kx_model.specs.Client.{Client}
use Rattle.kx_model.specs.Coordinator.{decision}
use Rattle.kx_model.specs.Headline.{StandsOnce}
use Rattle.kx_model.specs.Log.{Data, Sequenced, control_of, data_of, entry_by, entry_in}
use Rattle.kx_model.specs.Replies.{correlation_of}
use Rattle.kx_model.specs.Verification.{Request, partition_of, request_of}
use Rattle.kx_model.specs.World.{World, notes, run, start}
use Rattle.kx_headline.proofs.ClientHolds.{Handed, IsEntitled}
use Rattle.kx_headline.proofs.ClientRequests.{Answered, AreMade, IsIts, IsMade, Knows}
use Rattle.kx_headline.proofs.ClientRequests.{RequestsStand, sender}
use Rattle.kx_headline.proofs.CommitsAsked.{commit_asked}
use Rattle.kx_laws.proofs.DroppedIds.{same_number}
use Rattle.kx_headline.proofs.Loads.{carries_reads, same_request}
use Rattle.kx_laws.proofs.Membership.{map_holds}
use Rattle.kx_headline.proofs.OneHolder.{one_client}
use Rattle.kx_headline.proofs.PartitionsAlways.{PartitionsStand, Promised, partitions_stand_always}
use Rattle.kx_headline.proofs.RequestsAlways.{requests_stand_always}
use Rattle.kx_headline.proofs.StoredOnce.{ClientsKeep, IsAnswered, stored_once}

------ a request by its batch

-- what is data to the rules has a producer's id, epoch and sequence
pub record Numbers (id epoch first : ℤ) (d : Sequenced) : Type 0 where
  pub id_is : id ≡ pos d.id
  pub epoch_is : epoch ≡ pos d.epoch
  pub first_is : first ≡ pos d.first

data_numbers : (id epoch first : ℤ) (v : Batch) (d : Sequenced)
    → data_of id epoch first v ≡ Data d → Numbers id epoch first d
data_numbers (pos id) (pos epoch) (pos first) v d e = record {
  id_is = cc;
  epoch_is = cc;
  first_is = cc;
}
data_numbers (negsuc id) epoch first v d e = absurd cc
data_numbers (pos id) (negsuc epoch) first v d e = absurd cc
data_numbers (pos id) (pos epoch) (negsuc first) v d e = absurd cc

control_numbers : (id epoch : ℤ) (said : Outcome × ℤ) (v : Batch) (d : Sequenced)
    → control_of id epoch said v ≡ Data d → ⊥
control_numbers (pos id) (pos epoch) said v d e = cc
control_numbers (negsuc id) epoch said v d e = cc
control_numbers (pos id) (negsuc epoch) said v d e = cc

pub numbers_of : (v : Batch) (d : Sequenced) → entry_in v ≡ Data d
    → Numbers v.producer_id v.producer_epoch v.base_sequence d
unfolding entry_in
numbers_of v d e = by (end_marker_of v) e
  where
    by : (said : Option (Outcome × ℤ)) → entry_by said v ≡ Data d
        → Numbers v.producer_id v.producer_epoch v.base_sequence d
    by None e = data_numbers v.producer_id v.producer_epoch v.base_sequence v d e
    by (Some said) e = absurd (control_numbers v.producer_id v.producer_epoch said v d e)

-- the client and the correlation of a request are those of its message
request_is : (m : Message) (r : Request) → request_of m ≡ Some r
    → (sender m ≡ Some r.caller.client) × (correlation_of m ≡ r.caller.correlation)
request_is (msg.Produce it) r e = (
  ap (λ (x : Request). Some x.caller.client) (same_request _ r e),
  ap (λ (x : Request). x.caller.correlation) (same_request _ r e),
)
request_is (msg.TxnOffsetCommit it) r e = (
  ap (λ (x : Request). Some x.caller.client) (same_request _ r e),
  ap (λ (x : Request). x.caller.correlation) (same_request _ r e),
)
request_is other r e = absurd cc

------ in a world

module _ (w : World) (h : RequestsStand w) where
  is_made : (m : Message) (r : Request) → Contains w.sent m → request_of m ≡ Some r
      → IsMade w.sent m
  is_made (msg.Produce it) r there e =
      All-contains (AreMade w.sent) w.sent (msg.Produce it) h.made there
  is_made (msg.TxnOffsetCommit it) r there e =
      All-contains (AreMade w.sent) w.sent (msg.TxnOffsetCommit it) h.made there
  is_made other r there e = absurd cc

  -- the client that sent it
  record Sender (m : Message) : Type 0 where
    client : Client
    knows : Knows w.sent client
    its : IsIts w.sent client m

  sent_by : (m : Message) (number : ℕ) → Contains w.sent m → sender m ≡ Some number
      → (s : Sender m) × (s.client.number ≡ number)
  sent_by m number there e =
      let (c, at, same) = map_holds (λ (c : Client). c.number) w.clients number
      (h.known m number there e) in (
        record {
          client = c;
          knows = All-contains (Knows w.sent) w.clients c h.clients at;
          its = (there, e ∙ ap Some (sym same));
        },
        same,
      )

  -- a batch as its client sent it
  record Loaded (m : Message) (r : Request) (d : Sequenced) : Type 0 where
    made : IsMade w.sent m
    partition : partition_of r.target ≡ made.load.partition
    pair : made.load.held ≡ record { id = d.id; epoch = d.epoch }
    first : made.load.first ≡ d.first

  loaded : (m : Message) (r : Request) (d : Sequenced) → Contains w.sent m
      → request_of m ≡ Some r → entry_in (batch_of r.text) ≡ Data d → Loaded m r d
  loaded m r d there is reads =
      let made = is_made m r there is in
      let x = carries_reads m made.load made.carries in
      let same = same_request x.request r (sym x.is ∙ is) in
      let n = numbers_of (batch_of r.text) d reads in
      let id = same_number made.load.held.id d.id
      (sym x.id ∙ ap (λ (q : Request). (batch_of q.text).producer_id) same ∙ n.id_is) in
      let epoch = same_number made.load.held.epoch d.epoch
      (sym x.epoch ∙ ap (λ (q : Request). (batch_of q.text).producer_epoch) same ∙ n.epoch_is) in
      let first = same_number made.load.first d.first
      (sym x.first ∙ ap (λ (q : Request). (batch_of q.text).base_sequence) same ∙ n.first_is) in
      record {
        made = made;
        partition = ap (λ (q : Request). partition_of q.target) (sym same) ∙ x.partition;
        pair = λ i. record { id = id i; epoch = epoch i };
        first = first;
      }

  one_batch : (m n : Message) (r s : Request) (d e : Sequenced) → Contains w.sent m
      → Contains w.sent n → request_of m ≡ Some r → request_of n ≡ Some s
      → partition_of r.target ≡ partition_of s.target → entry_in (batch_of r.text) ≡ Data d
      → entry_in (batch_of s.text) ≡ Data e → d.id ≡ e.id → d.epoch ≡ e.epoch → d.first ≡ e.first
      → r.text ≡ s.text
  one_batch m n r s d e there there' is is' p reads reads' id epoch first =
      let x = loaded m r d there is reads in
      let y = loaded n s e there' is' reads' in
      let pairs : ◌≡◌ {A = Held} (record { id = d.id; epoch = d.epoch })
      (record { id = e.id; epoch = e.epoch }) = λ i. record { id = id i; epoch = epoch i } in
      let held : x.made.load.held ≡ y.made.load.held = x.pair ∙ pairs ∙ sym y.pair in
      let client = one_client w h.holders x.made.client y.made.client y.made.load.held
      (subst (Handed w.sent x.made.client) held x.made.handed) y.made.handed in
      let (u, number) = sent_by m x.made.client there x.made.its_sender in
      let its' : IsIts w.sent u.client n =
      (there', y.made.its_sender ∙ ap Some (sym client ∙ sym number)) in
      let same = u.knows.once m n x.made.load y.made.load u.its its' x.made.carries y.made.carries
      (sym x.partition ∙ p ∙ y.partition) held (x.first ∙ first ∙ sym y.first) in
      ap (λ (q : Request). q.text)
      (same_request r s (sym is ∙ ap request_of same ∙ is'))

  one_request : (m n : Message) (r s : Request) → Contains w.sent m → Contains w.sent n
      → request_of m ≡ Some r → request_of n ≡ Some s → r.caller ≡ s.caller → r ≡ s
  one_request m n r s there there' is is' caller =
      let a = request_is m r is in
      let b = request_is n s is' in
      let (u, number) = sent_by m r.caller.client there a.0 in
      let its' : IsIts w.sent u.client n =
      (there', b.0 ∙ ap Some (sym (ap (λ x. x.client) caller) ∙ sym number)) in
      let same = u.knows.distinct m n u.its its'
      (a.1 ∙ ap (λ x. x.correlation) caller ∙ sym b.1) in
      same_request r s (sym is ∙ ap request_of same ∙ is')

  -- what is decided to commit has each of its batches answered
  all_answered : (m : Message) (r : Request) (d : Sequenced) → Contains w.sent m
      → request_of m ≡ Some r → entry_in (batch_of r.text) ≡ Data d
      → decision (notes w) d.id d.epoch ≡ Some Commit → Answered w.sent m
  all_answered m r d there is reads e =
      let x = loaded m r d there is reads in
      let a = commit_asked w.sent (notes w) h.holders.stands.coordinator.history d.id d.epoch e in
      let pair : Held = record { id = d.id; epoch = d.epoch } in
      let entitled : Handed w.sent a.caller.client pair =
      All-contains (IsEntitled w.sent) w.sent (the.EndTxn a.caller a.txn pair Commit)
      h.holders.entitled a.asked in
      let client = one_client w h.holders a.caller.client x.made.client pair entitled
      (subst (Handed w.sent x.made.client) x.pair x.made.handed) in
      let (u, number) = sent_by m x.made.client there x.made.its_sender in
      u.knows.committed a.caller.correlation a.txn pair
      (subst (λ c. Contains w.sent
      (the.EndTxn (caller_with c a.caller.correlation) a.txn pair Commit))
      (client ∙ sym number) a.asked) m x.made.load u.its x.made.carries x.pair

  module _ (stand : PartitionsStand w) where
    promised : (x : Message) → Contains w.sent x → Promised w x
    promised x there = All-contains (Promised w) w.sent x stand.promised there

    -- its reply of code 0 is a promise
    is_answered : (m : Message) (r : Request) → request_of m ≡ Some r → Answered w.sent m
        → IsAnswered w r
    is_answered (msg.Produce it) r e a =
        let same = same_request _ r e in
        subst (IsAnswered w) same (record {
          partition = a.0;
          stored = promised (the.ProduceReply it.caller a.0 NoError a.1) a.2;
        })
    is_answered
        (msg.TxnOffsetCommit it) r
        e a
        =
        let same = same_request _ r e in
        subst (IsAnswered w) same (record {
          partition = offsets_partition;
          stored = promised (the.OffsetsReply it.caller NoError) a;
        })
    is_answered other r e a = absurd cc

    pub clients_keep : ClientsKeep w
    clients_keep = record {
      one_batch = one_batch;
      one_request = one_request;
      answered = λ m r d there is reads e.
          is_answered m r is (all_answered m r d there is reads e);
    }

pub each_stands_once : StandsOnce
each_stands_once count events fits m r d there is reads =
    let w = run events (start count) in
    let stand = partitions_stand_always count events fits in
    stored_once w stand (clients_keep w (requests_stand_always count events fits) stand) m r d
    there is reads
