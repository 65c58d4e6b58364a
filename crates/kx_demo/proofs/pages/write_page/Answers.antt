use Rattle.std.proofs.lemmas.Result.{on_ok_weaker}
use Rattle.kx_demo.proofs.pages.write_page.Goals as goal

pub returns-clause-written : goal.returns-clause-written
returns-clause-written g c =
    on_ok_weaker c.write_drawn-wrote.result (λ wrote. (c.in_ok-drawn.drawn, wrote))
    c.write_drawn-wrote.ensures.written
