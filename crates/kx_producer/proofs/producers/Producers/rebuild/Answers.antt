use Rattle.std.proofs.Common.{ap, sym, ◌∙◌, take, take_all}
use Rattle.std.specs.FinMap.{empty}
use Rattle.std.proofs.lemmas.List.Sums.{fold_more}
use Rattle.kx_producer.specs.Known.{Table, noted, noted_all}
use Rattle.kx_producer.specs.declared.noted.Noted.{Noted}
use Rattle.kx_producer.proofs.producers.Producers.rebuild.Goals as goal

pub loop-entry-init : goal.loop-entry-init
loop-entry-init c = c.new-producers.ensures

pub loop-entry-preserved : goal.loop-entry-preserved
loop-entry-preserved c =
    let entries = c.args.entries.now in
    let entry = c.entry-item.result in
    let index = c.loop-entry.entry-index in
    c.in_ok-note.ensures.ok
    ∙ ap (noted entry) c.loop-entry.invariant
    ∙ ap (λ e. noted e (noted_all (take index entries))) c.entry-item.is
    ∙ sym (fold_more (λ (table : Table) (e : Noted). noted e table) empty entries index entry
    c.loop-entry-test.true)

pub returns-clause-table : goal.returns-clause-table
returns-clause-table c =
    c.loop-entry.invariant
    ∙ ap noted_all (take_all c.loop-entry.entry-index c.args.entries.now c.loop-entry-test.false)
