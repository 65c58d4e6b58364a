use Rattle.std.proofs.Common.{◌∷◌, [], rules}
use Rattle.std.proofs.lemmas.Result.{on_ok_weaker}
use Rattle.kx_server_audit.specs.Denials.{IsLogDenied, IsOtherLogOf}
use Rattle.kx_server_audit.proofs.Comparing.{if_err_no, logs_first, one_denied}
use Rattle.kx_server_audit.proofs.folder.compare_first.Goals as goal

pub returns-in-Some-clause-ok : goal.returns-in-Some-clause-ok
returns-in-Some-clause-ok g c =
    let machine = c.args.machine.now in
    let one = c.in-Some.one.now in
    on_ok_weaker c.compare_log.result
    (logs_first (g.F.ServerFiles.left c.args.files.now) c.args.of.now one machine (search rules))
    c.compare_log.ensures.ok

pub returns-in-Some-clause-no : goal.returns-in-Some-clause-no
returns-in-Some-clause-no g c =
    let left = g.F.ServerFiles.left c.args.files.now in
    let machine = c.args.machine.now in
    let one = c.in-Some.one.now in
    if_err_no c.compare_log.result (IsOtherLogOf left machine one.node)
    (IsLogDenied left (machine ∷ []) c.args.of.now)
    (λ d. one_denied left machine one c.args.of.now d (search rules)) c.compare_log.ensures.no
