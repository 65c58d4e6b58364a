use Rattle.std.proofs.Common.{Option, refl, subst, sym}
use Rattle.kx_audit.specs.Making.{node_of}
use Rattle.kx_trace_audit.specs.Beginnings.{BeginsAt}
use Rattle.kx_trace_audit.specs.Servers.{making_of}
use Rattle.kx_trace_files.specs.declared.reading.OpenedOn.{OpenedOn}
use Rattle.kx_server_audit.proofs.server_node.ServerNodeServer.begun.Goals as goal

pub returns-in_ok-make-in-None : goal.returns-in_ok-make-in-None
returns-in_ok-make-in-None c =
    let node = c.args.of.now.node in
    let start = node_of (making_of node) in
    record {
      start = start;
      begins = subst (λ (o : Option OpenedOn). BeginsAt node o start) (sym c.in-None.is) refl;
      stands_so = c.in_ok-make-in-None.ensures;
    }
