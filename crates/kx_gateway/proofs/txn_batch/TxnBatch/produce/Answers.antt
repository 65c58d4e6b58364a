use Rattle.std.proofs.Common.{◌≡◌, ◌∙◌, List, ℕ, Some, subst, ap, FitsSigned, w16, w32, w64, pos}
use Rattle.std.proofs.lemmas.Int.{to_z-of_z}
use Rattle.kx_batch.specs.Producer.{with_producer}
use Rattle.kx_message.specs.declared.requests.Produce.{Produce}
use Rattle.kx_gateway.specs.TxnBatch.{SentBatch, produce_of}
use Rattle.kx_gateway.proofs.txn_batch.TxnBatch.produce.Goals as goal

pub returns : goal.returns
returns c =
    let b = c.self.inside in
    let fits : FitsSigned w32 c.args.first = c.ranges.first in
    let fits_id : FitsSigned w64 c.get.result = record { sfits = c.get.type_inv } in
    let fits_epoch : FitsSigned w16 c.get-2.result = record { sfits = c.get-2.type_inv } in
    let moved = simp to_z-of_z at c.in_ok-text.ensures in
    let text : c.from_vec.result
    ≡ with_producer (pos c.args.held.id) (pos c.args.held.epoch) c.args.first b.text.now =
    c.from_vec.ensures ∙ moved
    ∙ ap (λ z. with_producer z c.get-2.result c.args.first b.text.now) c.get.ensures.value
    ∙ ap (λ z. with_producer (pos c.args.held.id) z c.args.first b.text.now)
    c.get-2.ensures.value in
    let make : List ℕ → Produce = λ t. record {
      caller = c.args.caller;
      txn = Some b.txn;
      partition = b.partition;
      batch = t;
    } in
    subst (λ (s : SentBatch). make c.from_vec.result
    ≡ produce_of s c.args.caller c.args.held c.args.first) c.self.view_is (ap make text)
