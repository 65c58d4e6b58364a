use Rattle.std.proofs.Common.{◌≡◌, None, Some, false, sym, ap, ◌∙◌}
use Rattle.std.specs.Prelude.{bytes_eq, codes, option_map}
use Rattle.kx_wire.proofs.Values.{found_name}
use Rattle.kx_script.proofs.Words.{txn_named}
use Rattle.kx_script.proofs.command.txn_of.Goals as goal

pub returns-in_err-txn : goal.returns-in_err-txn
returns-in_err-txn c =
    let word = c.args.word.now in
    let other : bytes_eq word (codes "-") ≡ false = cc in
    let named = txn_named word c.ok.result other
    (sym (c.ok.ensures.value ∙ found_name word c.try_from.result c.try_from.ensures.0)) in
    let none : c.ok.result ≡ None = cc in
    c.from_residual.ensures ∙ sym (named ∙ ap (option_map Some) none)

pub returns : goal.returns
returns c =
    let word = c.args.word.now in
    let other : bytes_eq word (codes "-") ≡ false = cc in
    let named = txn_named word c.ok.result other
    (sym (c.ok.ensures.value ∙ found_name word c.try_from.result c.try_from.ensures.0)) in
    let some : c.ok.result ≡ Some c.in_ok-txn.txn = cc in
    sym (named ∙ ap (option_map Some) some)
