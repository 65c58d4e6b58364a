use Rattle.std.proofs.Common.{◌≡◌, ◌<◌, ◌∙◌, ℕ, Bor, List, Option, Some, None, get_or, length, sym}
use Rattle.std.proofs.Common.{subst}
use Rattle.std.specs.Prelude.{IfSome, IsSome, IsSomeAnd, slice_get}
use Rattle.std.proofs.lemmas.Option.{get_or_from_slice_get, slice_get_within}
use Rattle.kx_audit.specs.Run.{Ran}
use Rattle.kx_audit.specs.Told.{Told}
use Rattle.kx_machine.specs.declared.taken.Taken.{Taken}
use Rattle.kx_audit.proofs.Along.{turn_of}
use Rattle.kx_audit.proofs.run.Run.taken.Goals as goal

-- an answer that is there is read
read : (takens : List Taken) (n : ℕ) (o : Option (Bor Taken)) (taken : Taken)
    → slice_get takens n ≡ Some taken → (n < length takens → IsSome o)
    → IfSome o (λ t. t.now ≡ get_or takens n t.now) → IsSomeAnd o (λ t. t.now ≡ taken)
read takens n None taken at some is =
    absurd (let has = some (slice_get_within takens n taken at) in cc)
read takens n (Some t) taken at some is = is ∙ get_or_from_slice_get takens n taken t.now at

pub returns : goal.returns
returns g c =
    let inside = c.self.inside in
    subst (λ (r : Ran _ _). (j : ℕ) (x : Told) → slice_get r.turns j ≡ Some c.args.turn
    → slice_get r.told j ≡ Some x → IsSomeAnd c.get-2.result (λ taken. taken.now ≡ x.taken))
    c.self.view_is
    (λ j x at told.
    let t = turn_of g.B.Tells.making inside.nodes.items inside.turns.items c.self.invariant j
    c.args.turn x at told in
    let node = c.in_ok-get.field-0.now in
    let is = get_or_from_slice_get inside.nodes.items c.args.turn.trace t.node node t.there in
    let found = c.in_ok-get.ensures.lookup.1 in
    let all = c.deref.ensures.value in
    let same : node ≡ t.node = cc in
    let taken = rw (sym same, sym c.takens.ensures) at t.is.taken_is in
    read c.takens.result.now c.args.turn.step c.get-2.result x.taken taken
    c.get-2.ensures.lookup.2 c.get-2.ensures.lookup.1)
