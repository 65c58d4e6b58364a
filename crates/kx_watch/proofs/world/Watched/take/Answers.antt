use Rattle.std.proofs.Common.{◌≡◌, ◌∙◌, Bool, List, ap, false, is_some, subst, sym, true}
use Rattle.std.proofs.lemmas.Result.{on_ok_weaker}
use Rattle.std.specs.Prelude.{OnOk, if◌then◌else◌}
use Rattle.kx_page.specs.declared.run.Step.{Step}
use Rattle.kx_watch.specs.Steps.{AddsSteps, is_outside}
use Rattle.kx_watch.proofs.Counting.{then_more}
use Rattle.kx_watch.proofs.world.Watched.take.Goals as goal

pub returns-in_ok-happen_at_server-in-Some : goal.returns-in_ok-happen_at_server-in-Some
returns-in_ok-happen_at_server-in-Some c =
    let outside : true ≡ is_outside c.args.input.now =
    sym (ap is_some c.in-Some.is) ∙ c.in_ok-request.ensures in
    let first : AddsSteps 1 c.args.self.now c.happen_at_server.new.self = c.in_ok-happen_at_server-in-Some.ensures in
    subst (λ (b : Bool). OnOk c.happen_at_server-in-Some.result
    (AddsSteps (if b then 2 else 1) c.args.self.now c.happen_at_server-in-Some.new.self)) outside
    (on_ok_weaker c.happen_at_server-in-Some.result (λ one. then_more 1 1 _ _ _ first one)
    c.happen_at_server-in-Some.ensures)

pub returns-in_ok-event-in-None : goal.returns-in_ok-event-in-None
returns-in_ok-event-in-None c =
    let inside : false ≡ is_outside c.args.input.now =
    sym (ap is_some c.in-None.is) ∙ c.in_ok-request.ensures in
    subst (λ (b : Bool). OnOk c.happen_at_server-in-None.result
    (AddsSteps (if b then 2 else 1) c.args.self.now c.happen_at_server-in-None.new.self)) inside
    (subst (λ (s : List Step). OnOk c.happen_at_server-in-None.result
    (AddsSteps 1 s c.happen_at_server-in-None.new.self)) c.self-in-None.view_is c.happen_at_server-in-None.ensures)
