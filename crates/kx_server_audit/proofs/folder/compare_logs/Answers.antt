use Rattle.std.proofs.Common.{◌∷◌, ◌∙◌, [], List, ap, slice_get, subst, sym}
use Rattle.std.proofs.lemmas.List.{nil_from_length}
use Rattle.std.proofs.lemmas.Result.{err_from_is_err_and}
use Rattle.kx_log.specs.Store.{StoreState}
use Rattle.kx_machines.specs.declared.broker.BrokerMachine.{BrokerMachine}
use Rattle.kx_server_audit.specs.Denials.{IsLogDenied}
use Rattle.kx_server_audit.specs.Telling.{HaveLogs}
use Rattle.kx_trace_audit.specs.declared.servers.TraceOf.{TraceOf}
use Rattle.kx_server_audit.proofs.Comparing.{after_first, first_denied, if_no, logs_more, logs_none}
use Rattle.kx_server_audit.proofs.Comparing.{next_denied}
use Rattle.kx_server_audit.proofs.folder.compare_logs.Goals as goal

pub loop-machine-init : goal.loop-machine-init
loop-machine-init g c =
    let left = g.F.ServerFiles.left c.args.files.now in
    let all = c.into_iter-machine-iterator.ensures.into_iter_gives.0 in
    record {
      found = λ logs. subst (HaveLogs left c.args.of.now) all logs;
      denied = λ d h.
          subst (λ (ms : List (BrokerMachine StoreState)). IsLogDenied left ms c.args.of.now d) all
          h;
    }

pub loop-machine-preserved : goal.loop-machine-preserved
loop-machine-preserved g c =
    let left = g.F.ServerFiles.left c.args.files.now in
    let machine = c.in-Some.machine in
    let rest = c.next.new.self.rest.items in
    let of = c.loop-machine.left.now in
    let after = c.after_first-left.result.now in
    record {
      found = λ logs. c.loop-machine.invariant.found (logs_more left of machine rest
          c.loop-machine.machine-iterator.rest.items c.in-Some.ensures.steps.0
          c.in_ok-compare_next.ensures.ok
          (subst (λ (ts : List TraceOf). HaveLogs left ts rest) c.after_first-left.ensures logs));
      denied = λ d h. c.loop-machine.invariant.denied d
          (subst (λ (ms : List (BrokerMachine StoreState)). IsLogDenied left ms of d)
          (sym c.in-Some.ensures.steps.0) (next_denied left machine rest of after d
          (λ k t there. after_first of k t
          (sym (ap (λ (l : List TraceOf). slice_get l k) c.after_first-left.ensures) ∙ there)) h));
    }

pub returns-in_err-compare_next-clause-no : goal.returns-in_err-compare_next-clause-no
returns-in_err-compare_next-clause-no g c =
    let left = g.F.ServerFiles.left c.args.files.now in
    let machine = c.in-Some.machine in
    let rest = c.next.new.self.rest.items in
    let of = c.loop-machine.left.now in
    let out = err_from_is_err_and c.from_residual.result c.from_residual.ensures.1 in
    rw (out.1, out.2) (if_no _ (IsLogDenied left (machine ∷ []) of)
    (IsLogDenied left c.args.machines.items c.args.of.now) (λ d h.
    c.loop-machine.invariant.denied d
    (subst (λ (ms : List (BrokerMachine StoreState)). IsLogDenied left ms of d)
    (sym c.in-Some.ensures.steps.0) (first_denied left machine rest of d h)))
    c.in_err-compare_next.ensures.no)

pub returns-clause-ok : goal.returns-clause-ok
returns-clause-ok g c =
    let rest = c.loop-machine.machine-iterator.rest in
    c.loop-machine.invariant.found (logs_none (g.F.ServerFiles.left c.args.files.now) c.loop-machine.left.now
    rest.items (nil_from_length rest.items (sym rest.ok.0 ∙ c.in-None.ensures.steps.0)))
