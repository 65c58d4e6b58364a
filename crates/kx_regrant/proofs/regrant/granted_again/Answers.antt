use Rattle.std.proofs.Common.{◌≡◌, ◌∙◌, List, ap, map, take}
use Rattle.std.proofs.lemmas.List.{take_all}
use Rattle.kx_txnlog.specs.Entry.{note_of}
use Rattle.kx_txnlog.specs.declared.entry.Entry.{Entry}
use Rattle.kx_regrant.specs.Internal.{seen_in}
use Rattle.kx_regrant.proofs.OnePass.{grant_is, none_in, seen_more}
use Rattle.kx_regrant.proofs.regrant.granted_again.Goals as goal

pub loop-entry-init : goal.loop-entry-init
loop-entry-init c = c.new-seen.ensures ∙ none_in c.args.txn.now

pub loop-entry-preserved : goal.loop-entry-preserved
loop-entry-preserved c =
    seen_more c.args.txn.now c.args.entries.now c.loop-entry.entry-index c.entry-item.result
    c.loop-entry.seen c.note.new.self c.loop-entry-test.true c.entry-item.is
    c.loop-entry.invariant c.note.ensures

pub returns : goal.returns
returns c =
    let whole : take c.loop-entry.entry-index c.args.entries.now ≡ c.args.entries.now =
    take_all c.loop-entry.entry-index c.args.entries.now c.loop-entry-test.false in
    c.grant.ensures
    ∙ grant_is c.args.txn.now (map note_of c.args.entries.now) c.loop-entry.seen
    (c.loop-entry.invariant
    ∙ ap (λ (l : List Entry). seen_in c.args.txn.now (map note_of l)) whole)
