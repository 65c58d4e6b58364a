use Rattle.std.proofs.Common.{IsTrue, List, subst}
use Rattle.std.proofs.lemmas.Result.{on_ok_weaker}
use Rattle.kx_log.specs.Store.{StoreState}
use Rattle.kx_machines.specs.declared.broker.BrokerMachine.{BrokerMachine}
use Rattle.kx_server_audit.specs.Denials.{IsLogDenied}
use Rattle.kx_server_audit.specs.Telling.{HaveLogs, machines_in}
use Rattle.kx_server_audit.proofs.Comparing.{if_err_no}
use Rattle.kx_server_audit.proofs.server.compare.Goals as goal

pub returns-in_ok-machines-clause-ok : goal.returns-in_ok-machines-clause-ok
returns-in_ok-machines-clause-ok g c =
    let left = g.F.ServerFiles.left c.args.files.now in
    on_ok_weaker c.compare_logs.result (λ all compares.
    subst (λ (ms : List (BrokerMachine StoreState)). HaveLogs left c.args.of.now ms)
    c.in_ok-machines.ensures all) c.compare_logs.ensures.ok

pub returns-in_ok-machines-clause-no : goal.returns-in_ok-machines-clause-no
returns-in_ok-machines-clause-no g c =
    let left = g.F.ServerFiles.left c.args.files.now in
    let of = c.args.of.now in
    if_err_no c.compare_logs.result (IsLogDenied left c.in_ok-machines.machines.items of)
    (λ d. IsTrue c.args.compares_logs × IsLogDenied left (machines_in c.args.audit) of d)
    (λ d h. (
      c.if-compares_logs.true,
      subst (λ (ms : List (BrokerMachine StoreState)). IsLogDenied left ms of d)
          c.in_ok-machines.ensures h,
    )) c.compare_logs.ensures.no
