use Rattle.std.proofs.Common.{◌≡◌, ◌∙◌, ◌++◌, OnOk, ap, subst}
use Rattle.std.specs.Int.{w32}
use Rattle.std.proofs.lemmas.Int.{to_z-of_z}
use Rattle.kx_model.specs.Markers.{missing_of}
use Rattle.kx_txnlog.specs.Entry.{row_of}
use Rattle.kx_coord.proofs.HandedOut.{none_answered}
use Rattle.kx_coord.proofs.markers.push_markers.Goals as goal

pub returns : goal.returns
returns c =
    let row = row_of c.args.row.now in
    let epoch = to_z-of_z w32 c.args.epoch c.ranges.epoch in
    let owed = ap (λ e. missing_of e c.new.result row) epoch
    ∙ ap (λ noted. missing_of c.args.epoch noted row) c.new.ensures
    ∙ none_answered c.args.epoch row in
    subst (λ messages. OnOk c.push_missing-2.result
    (c.push_missing-2.new.messages.items ≡ c.args.messages.now.items ++ messages)) owed
    c.push_missing-2.ensures.ok
