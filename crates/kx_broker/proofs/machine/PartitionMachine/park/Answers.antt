use Rattle.std.proofs.Common.{◌≡◌, ◌∙◌, ◌∷◌, [], ℕ, List, Some, ap, refl, subst, sym, false, true}
use Rattle.std.specs.Prelude.{IfOk}
use Rattle.kx_batch.specs.Batch.{IsBatch, batch_of}
use Rattle.kx_broker.specs.Memory.{RequestMayLack}
use Rattle.kx_broker.specs.Serving.{IsServed, Serves, Serving}
use Rattle.kx_broker.proofs.Adding.{may_park, one_batch, one_sequenced}
use Rattle.kx_broker.proofs.Messages.{was_full, was_parked, without_txn}
use Rattle.kx_broker.proofs.Served.{as_seen, serving}
use Rattle.kx_group.proofs.Answers.{on_any}
use Rattle.kx_message.specs.Messages as the
use Rattle.kx_message.specs.declared.message.Held.{Held}
use Rattle.kx_message.specs.declared.message.Message.{Message}
use Rattle.kx_message.specs.declared.message.Message.TheVariants as msg
use Rattle.kx_message.specs.declared.requests.Produce.{Produce}
use Rattle.kx_model.specs.Log.{entries, entry_in}
use Rattle.kx_model.specs.PartitionNode.{on_request}
use Rattle.kx_model.specs.Produce.{Unverified, is_sequenced, judge_text}
use Rattle.kx_model.specs.Verification.{Parked, ToPartition, pair_in, request_of}
use Rattle.kx_verify.specs.Request.{IsParked}
use Rattle.kx_broker.proofs.machine.PartitionMachine.park.Goals as goal
use Rattle.kx_broker.proofs.machine.PartitionMachine.park.Goals.{in-Full, in-Parked}

pub returns-in_default-clause-ok : goal.returns-in_default-clause-ok
returns-in_default-clause-ok g c = λ number p is.
    let old = c.args.self.now in
    let it = c.args.it.now in
    as_seen (IsServed number) p old old old
    (λ store. on_request number p store (request_of (msg.Produce it))) _ c.one.result
    (λ i. old) (c.one.ensures ∙ ap (λ (m : Message). m ∷ []) c.reply.ensures)
    (λ stands. without_txn number p old stands it c.requires.asks c.in_default.is) is

pub held_of-held-requires-clause-batch : goal.held_of-held-requires-clause-batch
held_of-held-requires-clause-batch g c =
    let text = c.args.it.now.batch in
    let one = one_sequenced (entries c.args.self.now.log.batches) text c.requires.asks in
    subst IsBatch (sym c.as_slice.ensures)
    (batch_of text, (one_batch text c.requires.bytes one).0)

pub held_of-held-requires-clause-sequenced : goal.held_of-held-requires-clause-sequenced
held_of-held-requires-clause-sequenced g c =
    let text = c.args.it.now.batch in
    let one = one_sequenced (entries c.args.self.now.log.batches) text c.requires.asks in
    subst (λ t. is_sequenced (batch_of t) ≡ true) (sym c.as_slice.ensures)
    (one_batch text c.requires.bytes one).1

pub ask-requires : goal.ask-requires
ask-requires g c =
    one_sequenced (entries c.args.self.now.log.batches) c.args.it.now.batch c.requires.asks

-- the batch as it is parked
abbrev as_parked : Produce → Held → Parked
as_parked it held = record {
  held = held;
  request = record {
    caller = it.caller;
    txn = it.txn;
    target = ToPartition it.partition;
    text = it.batch;
  };
}

parked_so : (it : Produce) (held : Held) (text : List ℕ) → text ≡ it.batch
    → pair_in (entry_in (batch_of text)) ≡ Some held
    → IsParked (msg.Produce it) (as_parked it held)
parked_so it held text same pair = record {
  request = refl;
  held = ap (λ t. pair_in (entry_in (batch_of t))) (sym same) ∙ pair;
}

pub returns-in_err-ask-clause-err : goal.returns-in_err-ask-clause-err
returns-in_err-ask-clause-err g c =
    let it = c.args.it.now in
    let inside = c.self.inside in
    let held = c.held_of-held.result in
    let parked = parked_so it held c.as_slice.result.now c.as_slice.ensures
    c.held_of-held.ensures in
    on_any c.from_residual.result
    (ap (λ (l : List Parked). serving inside.number inside.partition l)
    (c.in_err-ask.ensures (as_parked it held) parked refl).0 ∙ c.self.view_is)

pub returns-in_err-ask-clause-memory : goal.returns-in_err-ask-clause-memory
returns-in_err-ask-clause-memory g c = λ e.
    let it = c.args.it.now in
    let inside = c.self.inside in
    let held = c.held_of-held.result in
    let parked = parked_so it held c.as_slice.result.now c.as_slice.ensures
    c.held_of-held.ensures in
    let unverified = subst (λ (o : Serving). judge_text (entries o.log.batches) false it.batch
    ≡ Unverified) (sym c.self.view_is) c.requires.asks in
    subst (λ (o : Serving). RequestMayLack o (request_of (msg.Produce it))) c.self.view_is
    (may_park inside.guard inside.partition.closed
    (judge_text (entries inside.partition.batches) false it.batch) (as_parked it held)
    c.in-Some.txn unverified c.in-Some.is parked.held
    (c.in_err-ask.ensures (as_parked it held) parked refl).1)

pub returns-clause-ok : goal.returns-clause-ok
returns-clause-ok g c = λ number p is.
    let it = c.args.it.now in
    let inside = c.self.inside in
    let held = c.held_of-held.result in
    let request = as_parked it held in
    let parked = parked_so it held c.as_slice.result.now c.as_slice.ensures
    c.held_of-held.ensures in
    let old = serving inside.number inside.partition inside.guard in
    let new = serving inside.number inside.partition c.ask.new.guard in
    let unverified = subst (λ (o : Serving). judge_text (entries o.log.batches) false it.batch
    ≡ Unverified) (sym c.self.view_is) c.requires.asks in
    let here = ap (λ (o : Serving). o.number) c.self.view_is ∙ is.number_is in
    let own = c.requires.number ∙ is.number_is in
    let asked = c.in_ok-ask.ensures request parked refl in
    elim c.match-branch-2.branch [
      | in-Parked w ↦
          subst (λ r. IfOk r (Serves (IsServed number) p c.args.self.now new
          (λ store. on_request number p store (request_of (msg.Produce it))))) (sym w.result-is)
          (as_seen (IsServed number) p old c.args.self.now new
          (λ store. on_request number p store (request_of (msg.Produce it))) _
          w.one-in-Parked.result c.self.view_is
          (w.one-in-Parked.ensures ∙ λ i. the.AddPartition c.in-Some.txn held (here i) ∷ [])
          (λ stands. was_parked number p old stands it unverified c.in-Some.txn c.in-Some.is request
          parked c.requires.bytes own c.ask.new.guard asked.1 (sym w.in-Parked.is ∙ asked.0)) is)
      | in-Full w ↦
          subst (λ r. IfOk r (Serves (IsServed number) p c.args.self.now new
          (λ store. on_request number p store (request_of (msg.Produce it))))) (sym w.result-is)
          (as_seen (IsServed number) p old c.args.self.now new
          (λ store. on_request number p store (request_of (msg.Produce it))) _
          w.one-in-Full.result c.self.view_is
          (w.one-in-Full.ensures ∙ ap (λ (m : Message). m ∷ []) w.reply-refusal.ensures)
          (λ stands. was_full number p old stands it unverified c.in-Some.txn c.in-Some.is request
          parked c.requires.bytes own c.ask.new.guard asked.1 (sym w.in-Full.is ∙ asked.0)) is)
    ]
