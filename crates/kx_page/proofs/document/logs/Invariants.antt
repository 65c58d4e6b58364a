use Rattle.std.proofs.Common.{◌≡◌, ◌++◌, take}
use Rattle.kx_page.specs.Page.{logs_of}
use Rattle.kx_page.proofs.document.logs.Given as goal

abbrev pub invariant-loop-given : goal.invariant-loop-given
invariant-loop-given l = l.out.items ≡ l.fn.out.items ++ logs_of (take l.given-index l.fn.all)
