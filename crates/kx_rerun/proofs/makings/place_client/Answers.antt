use Rattle.std.proofs.Common.{◌≡◌, ◌∙◌, ◌∷◌, [], subst}
use Rattle.std.proofs.lemmas.Result.{on_ok_weaker}
use Rattle.kx_audit.specs.Making.{client_in}
use Rattle.kx_cluster.specs.Any.{any_making}
use Rattle.kx_rerun.specs.Making.{client_made}
use Rattle.kx_rerun.proofs.Placing.{order_more, order_same}
use Rattle.kx_rerun.proofs.makings.place_client.Goals as goal

pub returns-in-Some-making_event-clause-ordered
    : goal.returns-in-Some-making_event-clause-ordered
returns-in-Some-making_event-clause-ordered g c =
    let making = any_making g.F.Process.image_of in
    let trace = c.in-Some.trace.now in
    let client = client_made g.F.Process.image_of c.in-Some-making_event.event in
    let one : client_in (making trace.made) ≡ client ∷ [] =
    subst (λ m. client_in (making m) ≡ client ∷ []) c.made.ensures
    c.in-Some-making_event.ensures.1 in
    on_ok_weaker c.place.result (λ placed ordered.
    placed ∙ order_more making c.args.run.now.traces c.args.number trace client _
    c.in-Some.ensures.some one ordered) c.place.ensures.placed

pub returns-in-None-clause-ordered : goal.returns-in-None-clause-ordered
returns-in-None-clause-ordered g c =
    let making = any_making g.F.Process.image_of in
    let trace = c.in-Some.trace.now in
    let none : client_in (making trace.made) ≡ [] =
    subst (λ m. client_in (making m) ≡ []) c.made.ensures c.in-None.ensures in
    order_same making c.args.run.now.traces c.args.number trace _ c.in-Some.ensures.some none
