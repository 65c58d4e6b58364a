use Rattle.std.proofs.Common.{rules, ◌≡◌, ◌+◌, List, [], ◌∷◌, ◌++◌, length, length-append}
use Rattle.std.proofs.Common.{arith, ap, subst, sym, ◌∙◌}
use Rattle.kx_published.specs.declared.book.Opened.{Opened}
use Rattle.kx_serve.proofs.Books.{in_order_more}
use Rattle.kx_serve.specs.Opening.{InOrder}
use Rattle.kx_serve.proofs.server.open_books.Goals as goal

-- src/server.rt:235:5
pub loop-number-preserved : goal.loop-number-preserved
loop-number-preserved c =
    let kept = c.loop-number.invariant in
    let before = c.loop-number.books.items in
    let items : c.push.new.self.items ≡ before ++ c.new.result ∷ [] = search rules in
    let number : c.in-Ok.partition ≡ c.loop-number.number = search rules in
    let opened : c.new.result.partition ≡ c.in-Ok.partition = search rules in
    let next : c.new.result.partition ≡ 0 + length before = omega (arith, number, opened, kept.1) in
    let longer = ap length items ∙ length-append before (c.new.result ∷ []) in (
      subst (λ (books : List Opened). InOrder 0 books) (sym items)
          (in_order_more 0 before c.new.result kept.0 next),
      omega (arith, longer, kept.1),
      search rules,
      kept.3,
    )
