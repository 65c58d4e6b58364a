use Rattle.std.proofs.Common.{◌≡◌, ◌&&◌, Bool, length, rules, tests, sym, ap, ◌∙◌, leb}
use Rattle.std.specs.List.{list_all}
use Rattle.std.proofs.lemmas.Bool.{lt-ltb, le-leb}
use Rattle.std.proofs.lemmas.Iterator.{YieldsList-from_slice}
use Rattle.std.proofs.lemmas.Iterator.Search.{all_from_yields_List}
use Rattle.kx_text.specs.Words.{is_visible}
use Rattle.kx_text.proofs.words.is_word.Goals as goal

pub returns-then-text-le-LONGEST : goal.returns-then-text-le-LONGEST
returns-then-text-le-LONGEST c =
    let text = c.args.text.now in
    let all : c.all.result ≡ list_all is_visible text = all_from_yields_List is_visible _ _ _
    c.all.ensures.ran (YieldsList-from_slice text cc) (λ x b q k. search (rules, tests)) in
    all ∙ sym (ap (λ (b : Bool). b && leb (length text) 64 && list_all is_visible text)
    (lt-ltb 0 (length text) c.if-text-le-LONGEST.true.0)
    ∙ ap (λ (b : Bool). b && list_all is_visible text)
    (le-leb (length text) 64 c.if-text-le-LONGEST.true.1))
