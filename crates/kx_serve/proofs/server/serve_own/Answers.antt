use Rattle.std.proofs.Common.{rules}
use Rattle.std.specs.Prelude.{codes}
use Rattle.std.proofs.KnownBytes.{Appends-trans}
use Rattle.kx_server.specs.Lines.{line_of}
use Rattle.kx_serve.proofs.server.serve_own.Goals as goal

pub returns : goal.returns
returns g c =
    let contents = g.W.Write.contents in
    let served = c.args.options.now.connections in
    let listens = c.in_ok-serve_speaking.ensures in (
      listens.0,
      Appends-trans (contents c.args.out.now) (contents c.serve_speaking.new.out)
          (contents c.tell.new.out) (line_of (codes "listening") listens.0)
          (line_of (codes "served") served) listens.1 (search rules),
    )
