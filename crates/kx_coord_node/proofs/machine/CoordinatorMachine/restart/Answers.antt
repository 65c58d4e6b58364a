use Rattle.std.proofs.Common.{◌∙◌, ap, subst, Bool, List, [], false, true, nat_lt}
use Rattle.kx_coord.specs.Calls.{RestartRefuses}
use Rattle.kx_coord.specs.CoordinatorState.{CoordinatorState}
use Rattle.kx_coord.specs.declared.fault.RestartFault.{RestartFault}
use Rattle.kx_coord.specs.declared.fault.RestartFault.TheVariants.{Unopened}
use Rattle.kx_log.specs.declared.fault.OpenFault.{OpenFault}
use Rattle.kx_machine.specs.declared.taken.Closing.TheVariants.{Write}
use Rattle.kx_machine.specs.declared.taken.Note.TheVariants as note
use Rattle.kx_machine.specs.declared.taken.Taken.{Taken}
use Rattle.kx_message.specs.declared.message.Message.{Message}
use Rattle.kx_model.specs.Step.{Restarts}
use Rattle.kx_coord_node.specs.Stands.{Takes}
use Rattle.kx_coord_node.proofs.Restarting.{grown_so, takes_open, takes_unwritten, takes_used_up}
use Rattle.kx_coord_node.proofs.machine.CoordinatorMachine.restart.Goals as goal

pub returns-in-Ok : goal.returns-in-Ok
returns-in-Ok g c =
    let old = c.self.inside.coordinator in
    let new = c.restart.new.self in
    let handed = c.in-Ok.messages.items in
    let taken : Taken = record {
      messages = c.from_vec.result;
      note = note.Done;
      failed = false;
      found = nat_lt 1 c.grown.result;
    } in
    subst (λ (s : CoordinatorState). Takes (Restarts c.args.now) s new taken) c.self.view_is
    (takes_open old new c.args.now handed taken c.in-Ok.ensures
    (ap (λ (ms : List Message). record {
      messages = ms;
      note = note.Done;
      failed = false;
      found = nat_lt 1 c.grown.result;
    }) c.from_vec.ensures
    ∙ ap (λ (b : Bool). record {
      messages = handed;
      note = note.Done;
      failed = false;
      found = b;
    }) (grown_so old new 1 c.entry_count-before.result c.grown.result c.entry_count-before.ensures
    c.grown.ensures)))

pub returns-in-Err-Unopened-UsedUp : goal.returns-in-Err-Unopened-UsedUp
returns-in-Err-Unopened-UsedUp g c =
    let old = c.self.inside.coordinator in
    let new = c.restart.new.self in
    let out = subst (λ (f : OpenFault). RestartRefuses old new c.args.now (Unopened f))
    c.in-Err-Unopened-UsedUp.field-0-0-is
    (subst (λ (f : RestartFault). RestartRefuses old new c.args.now f)
    c.in-Err-Unopened-UsedUp.field-0-is c.in-Err-Unopened-UsedUp.ensures) in
    subst (λ (s : CoordinatorState). Takes (Restarts c.args.now) s new c.refusal.result)
    c.self.view_is
    (takes_used_up old new c.args.now c.refusal.result out.0 out.1 c.refusal.ensures)

pub returns-in-Err-Unwritten : goal.returns-in-Err-Unwritten
returns-in-Err-Unwritten g c =
    let old = c.self.inside.coordinator in
    let new = c.restart.new.self in
    let breaks = subst (λ (f : RestartFault). RestartRefuses old new c.args.now f)
    c.in-Err-Unwritten.field-0-is c.in-Err-Unwritten.ensures in
    subst (λ (s : CoordinatorState). Takes (Restarts c.args.now) s new
    c.refusal-in-Err-Unwritten.result) c.self.view_is
    (takes_unwritten old new c.args.now c.refusal-in-Err-Unwritten.result breaks
    (c.refusal-in-Err-Unwritten.ensures
    ∙ ap (λ (b : Bool). record {
      messages = [];
      note = note.Closed Write;
      failed = true;
      found = b;
    }) (grown_so old new 0 c.entry_count-before.result c.grown-found.result
    c.entry_count-before.ensures c.grown-found.ensures)))
