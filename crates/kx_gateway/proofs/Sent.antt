-- A batch of a transaction, from what its view says.
use Rattle.std.proofs.Common.{◌≡◌, ℕ, ℤ, List, ◌++◌, length, take, drop, Bool, true, false, Option}
use Rattle.std.proofs.Common.{Some, None, cond, sym, ap, ◌∙◌, arith}
use Rattle.std.proofs.lemmas.List.{append-nil, drop_all, take_all}
use Rattle.kx_batch.specs.Batch.{Spelled, is_transactional}
use Rattle.kx_message.specs.Values.{held_with}
use Rattle.kx_message.specs.declared.message.Held.{Held}
use Rattle.kx_gateway.specs.TxnBatch.{SentBatch, sent_as, sent_by}

-- a list that is put in the place of one as long
pub in_place : (n : ℕ) (new old : List ℕ) → length new ≡ n → length old ≡ n
    → take n (new ++ drop (length new) old) ≡ new
in_place n new old e f =
    ap (λ (t : List ℕ). take n (new ++ t)) (drop_all (length new) old (omega arith))
    ∙ ap (take n) (append-nil new) ∙ take_all n new (omega arith)

sent_if : (b : Bool) (o : Option Held) (txn : List ℕ) (p : ℕ) (x : Spelled) (held : Held)
    → b ≡ true → o ≡ Some held
    → sent_by txn p x (Some held) ≡ cond b (sent_by txn p x o) None
sent_if true o txn p x held e h = ap (sent_by txn p x) (sym h)
sent_if false o txn p x held e h = absurd cc

pub sent_some : (txn : List ℕ) (p : ℕ) (x : Spelled) (held : Held) (first : ℤ) (count : ℕ)
    (text : List ℕ) → is_transactional x.batch ≡ true
    → held_with x.batch.producer_id x.batch.producer_epoch ≡ Some held
    → first ≡ x.batch.base_sequence → count ≡ length x.batch.records → text ≡ x.text
    → Some (record {
      txn = txn;
      partition = p;
      held = held;
      first = first;
      count = count;
      text = text;
    }) ≡ sent_as txn p x
sent_some txn p x held first count text t h f c e =
    let make : ℤ → ℕ → List ℕ → Option SentBatch = λ first count text. Some (record {
      txn = txn;
      partition = p;
      held = held;
      first = first;
      count = count;
      text = text;
    }) in
    ap (λ (z : ℤ). make z count text) f
    ∙ ap (λ n. make x.batch.base_sequence n text) c
    ∙ ap (λ (s : List ℕ). make x.batch.base_sequence (length x.batch.records) s) e
    ∙ sent_if (is_transactional x.batch) (held_with x.batch.producer_id x.batch.producer_epoch)
    txn p x held t h
