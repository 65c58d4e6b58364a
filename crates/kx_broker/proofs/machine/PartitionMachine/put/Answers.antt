use Rattle.std.proofs.Common.{◌∷◌, ◌∙◌, ◌+◌, ℕ, ap, not, subst, sym, true}
use Rattle.std.specs.Prelude.{◌&&◌, nat_le}
use Rattle.kx_broker.specs.Serving.{IsServed, Puts, Serving}
use Rattle.kx_broker.proofs.Building.{passes_limit}
use Rattle.kx_broker.proofs.Messages.{IsHeld, put_full, put_next, put_refused, put_served}
use Rattle.kx_broker.proofs.Plain.{length-value_records, plain_built}
use Rattle.kx_broker.proofs.Served.{puts_seen, serving}
use Rattle.kx_group.proofs.Answers.{if_ok}
use Rattle.kx_message.specs.declared.code.ErrorCode.TheVariants.{KafkaStorageError}
use Rattle.kx_model.specs.Log.{end, entries}
use Rattle.kx_model.specs.PartitionNode.{puts}
use Rattle.kx_model.specs.Produce.{greatest_offset}
use Rattle.kx_model.specs.Step.{plain_text}
use Rattle.kx_partition.specs.Answer.{IsProduced, verdict_at}
use Rattle.kx_partition.specs.declared.answer.Produced.TheVariants as produced
use Rattle.kx_varint.specs.Text.{IsBytes}
use Rattle.kx_broker.proofs.machine.PartitionMachine.put.Goals as goal

pub returns-then-not-fit-clause-ok : goal.returns-then-not-fit-clause-ok
returns-then-not-fit-clause-ok g c = λ number p is.
    let values = c.args.values.now.first ∷ c.args.values.now.more in
    put_refused number p c.args.self.now is values
    (passes_limit values (sym c.fit.ensures ∙ c.if-not-fit.true))

pub returns-clause-ok : goal.returns-clause-ok
returns-clause-ok g c = λ number p is.
    let inside = c.self.inside in
    let values = c.args.values.now.first ∷ c.args.values.now.more in
    let old = serving inside.number inside.partition inside.guard in
    let new = serving inside.number c.produce.new.self inside.guard in
    let known : IsHeld inside.partition = record {
      placed = c.end-end.ensures.log;
      grown = c.end-end.ensures.grown;
      holds = c.end-end.ensures.store;
    } in
    let built = c.in_ok-text.ensures in
    let text = c.as_slice-2.ensures.value in
    let bytes = subst IsBytes c.as_slice.ensures.value c.bytes_fit.ensures in
    if_ok c.produce.result c.produce.ensures.answer
    (λ answer h. puts_seen (IsServed number) p old c.args.self.now new
    (λ store. puts p store (plain_text values)) answer c.self.view_is
    (λ stands. put_served number p old stands values c.in_ok-text.text.items c.produce.new.self
    answer known bytes built.0 built.1
    (subst (λ t. IsProduced t true inside.partition c.produce.new.self answer) text h)) is)

pub returns-then-not-can_take-clause-ok : goal.returns-then-not-can_take-clause-ok
returns-then-not-can_take-clause-ok g c = λ number p is.
    let inside = c.self.inside in
    let first = c.args.values.now.first in
    let more = c.args.values.now.more in
    let values = first ∷ more in
    let old = serving inside.number inside.partition inside.guard in
    let known : IsHeld inside.partition = record {
      placed = c.end-end.ensures.log;
      grown = c.end-end.ensures.grown;
      holds = c.end-end.ensures.store;
    } in
    let plain = plain_built first more c.values_fit.ensures
    (sym c.fit.ensures ∙ c.if-not-fit.false) in
    let count = c.count.ensures ∙ sym (length-value_records 0 values) in
    let none = ap (λ (n : ℕ). not inside.partition.closed
    && nat_le (end (entries inside.partition.batches) + n) greatest_offset) (sym count)
    ∙ sym c.can_take.ensures ∙ c.if-not-can_take.true in
    let stands = subst (λ (o : Serving). IsServed number p o) (sym c.self.view_is) is in
    subst (λ (o : Serving). Puts (IsServed number) p o o
    (λ store. puts p store (plain_text values)) (produced.Refused KafkaStorageError))
    c.self.view_is (put_full number p old stands values known plain none)

pub returns-in_err-text-clause-memory : goal.returns-in_err-text-clause-memory
returns-in_err-text-clause-memory g c = λ e.
    let inside = c.self.inside in
    let first = c.args.values.now.first in
    let more = c.args.values.now.more in
    let values = first ∷ more in
    let plain = plain_built first more c.values_fit.ensures
    (sym c.fit.ensures ∙ c.if-not-fit.false) in
    let count = c.count.ensures ∙ sym (length-value_records 0 values) in
    let some = ap (λ (n : ℕ). not inside.partition.closed
    && nat_le (end (entries inside.partition.batches) + n) greatest_offset) (sym count)
    ∙ sym c.can_take.ensures ∙ c.if-not-can_take.false in
    ap (λ (o : Serving). verdict_at o.log true (plain_text values)) (sym c.self.view_is)
    ∙ put_next inside.partition values plain some
