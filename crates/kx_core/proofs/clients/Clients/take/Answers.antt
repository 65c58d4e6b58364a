use Rattle.std.proofs.Common.{◌≡◌, List, Some, ap, refl, rules, subst, sym, ◌∙◌}
use Rattle.std.specs.Prelude.{slice_get, slice_set}
use Rattle.kx_core.specs.Clients.{TakesAt, all_of}
use Rattle.kx_client_node.specs.Clients.{state_of}
use Rattle.kx_client_node.specs.declared.any_client.AnyClient.{AnyClient}
use Rattle.kx_core.proofs.Turns.{refused_at, taken_at}
use Rattle.kx_core.specs.World.{given}
use Rattle.kx_core.proofs.clients.Clients.take.Goals as goal

pub invariant_of-self : goal.invariant_of-self
invariant_of-self g c =
    let image_of = g.F.Process.image_of in
    let place = c.in-Some.place in
    let found = c.in-Some.ensures in
    let there = subst (λ (xs : List (AnyClient _)). slice_get xs place ≡ Some found.0)
    (sym c.self.view_is) found.1 in
    (refused_at image_of c.self.inside.clients.items place c.args.number c.index_mut.result.now
    found.0 c.self.invariant there found.2 c.index_mut.ensures.value c.take.new.machine
    (sym (c.in_err-taken.ensures (state_of image_of c.index_mut.result.now) refl))).0

pub returns-in_err-taken : goal.returns-in_err-taken
returns-in_err-taken g c =
    let image_of = g.F.Process.image_of in
    let place = c.in-Some.place in
    let found = c.in-Some.ensures in
    let there = subst (λ (xs : List (AnyClient _)). slice_get xs place ≡ Some found.0)
    (sym c.self.view_is) found.1 in
    let same = (refused_at image_of c.self.inside.clients.items place c.args.number
    c.index_mut.result.now found.0 c.self.invariant there found.2 c.index_mut.ensures.value
    c.take.new.machine
    (sym (c.in_err-taken.ensures (state_of image_of c.index_mut.result.now) refl))).1
    ∙ ap (all_of image_of) c.self.view_is in search rules

pub invariant_of-self-2 : goal.invariant_of-self-2
invariant_of-self-2 g c =
    let image_of = g.F.Process.image_of in
    let place = c.in-Some.place in
    let found = c.in-Some.ensures in
    let there = subst (λ (xs : List (AnyClient _)). slice_get xs place ≡ Some found.0)
    (sym c.self.view_is) found.1 in
    (taken_at image_of c.self.inside.clients.items place c.args.number c.index_mut.result.now
    found.0 c.self.invariant there found.2 c.index_mut.ensures.value c.take.new.machine
    (given c.args.handed) c.in_ok-taken.taken
    (c.in_ok-taken.ensures (state_of image_of c.index_mut.result.now) refl)).0

pub returns : goal.returns
returns g c =
    let image_of = g.F.Process.image_of in
    let place = c.in-Some.place in
    let found = c.in-Some.ensures in
    let there = subst (λ (xs : List (AnyClient _)). slice_get xs place ≡ Some found.0)
    (sym c.self.view_is) found.1 in
    let taken = (taken_at image_of c.self.inside.clients.items place c.args.number
    c.index_mut.result.now found.0 c.self.invariant there found.2 c.index_mut.ensures.value
    c.take.new.machine (given c.args.handed) c.in_ok-taken.taken
    (c.in_ok-taken.ensures (state_of image_of c.index_mut.result.now) refl)).1 in
    subst (λ (xs : List (AnyClient _)). TakesAt (all_of image_of xs)
    (all_of image_of (slice_set c.self.inside.clients.items place c.take.new.machine))
    c.args.number (given c.args.handed) (Some c.in_ok-taken.taken)) c.self.view_is taken
