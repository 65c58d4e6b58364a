use Rattle.std.proofs.Common.{◌≡◌, ◌<◌, ◌∙◌, length, Some, sym, ap, subst, refl, arith}
use Rattle.std.specs.Prelude.{ℕ, slice_get, slice_index_or, slice_set, sum_by}
use Rattle.std.proofs.lemmas.Option.{slice_get_read, slice_get_within}
use Rattle.kx_audit.specs.Merged.{MayGo, Merged}
use Rattle.kx_audit.specs.Replayed.{Progress, left, progressed, traces_of}
use Rattle.kx_audit.proofs.Turning.{fewer_set, merging_goes, traces_set}
use Rattle.kx_audit.proofs.auditor.Auditor.go.Goals as goal

module _ {B M : Type 0} (inside : Merged B M) (self : Merged B M) (same : inside ≡ self) (k : ℕ)
    (within : k < length self.nodes)
    (may : (p : Progress B M) → slice_get self.nodes k ≡ Some p → MayGo self.sent p) where
  at_turn : (p : Progress B M) → p ≡ slice_index_or inside.nodes k p
      → slice_get inside.nodes k ≡ Some p
  at_turn p read =
      slice_get_read inside.nodes (length inside.nodes) k p refl
      (subst (λ (m : Merged B M). k < length m.nodes) (sym same) within) read

  may_go : (p : Progress B M) → slice_get inside.nodes k ≡ Some p → MayGo inside.sent p
  may_go p at =
      subst (λ (m : Merged B M). MayGo m.sent p) (sym same)
      (may p (subst (λ (m : Merged B M). slice_get m.nodes k ≡ Some p) same at))

  more_left : (p : Progress B M) → slice_get inside.nodes k ≡ Some p
      → p.done < length p.trace.steps
  more_left p at =
      let m = may_go p at in slice_get_within p.trace.steps p.done m.step m.there

pub taken-requires : goal.taken-requires
taken-requires g c =
    let p = c.index_mut-replayer.result.now in
    let i : Merged _ _ = record {
      clients = c.self.inside.clients;
      nodes = c.self.inside.nodes.items;
      turns = c.self.inside.turns.items;
      sent = c.self.inside.sent;
    } in
    let at = at_turn i c.args.self c.self.view_is c.args.k c.requires.within c.requires.may p
    c.index_mut-replayer.ensures.value in
    rw c.done-step.ensures.value
    (more_left i c.args.self c.self.view_is c.args.k c.requires.within c.requires.may p at)

pub advance-requires : goal.advance-requires
advance-requires g c =
    let p = c.index_mut-replayer.result.now in
    let i : Merged _ _ = record {
      clients = c.self.inside.clients;
      nodes = c.self.inside.nodes.items;
      turns = c.self.inside.turns.items;
      sent = c.self.inside.sent;
    } in
    let at = at_turn i c.args.self c.self.view_is c.args.k c.requires.within c.requires.may p
    c.index_mut-replayer.ensures.value in
    more_left i c.args.self c.self.view_is c.args.k c.requires.within c.requires.may p at

pub invariant_of-result : goal.invariant_of-result
invariant_of-result g c =
    let p = c.index_mut-replayer.result.now in
    let i : Merged _ _ = record {
      clients = c.self.inside.clients;
      nodes = c.self.inside.nodes.items;
      turns = c.self.inside.turns.items;
      sent = c.self.inside.sent;
    } in
    let at = at_turn i c.args.self c.self.view_is c.args.k c.requires.within c.requires.may p
    c.index_mut-replayer.ensures.value in
    let m = may_go i c.args.self c.self.view_is c.args.k c.requires.within c.requires.may p at in
    let answered = rw c.done-step.ensures.value at c.taken.ensures in
    let all = merging_goes g.B.Tells.making g.B.Machine.Machine.stands i c.args.k p m.step
    c.taken.result.now c.self.invariant at m.there answered m.was in
    rw (
      c.in_ok-push.ensures.items,
      c.done-step.ensures.value,
      c.in_ok-add_all.ensures,
      c.as_slice.ensures,
      c.advance.ensures,
    ) all

pub returns-clause-traces : goal.returns-clause-traces
returns-clause-traces g c =
    let p = c.index_mut-replayer.result.now in
    let i : Merged _ _ = record {
      clients = c.self.inside.clients;
      nodes = c.self.inside.nodes.items;
      turns = c.self.inside.turns.items;
      sent = c.self.inside.sent;
    } in
    let at = at_turn i c.args.self c.self.view_is c.args.k c.requires.within c.requires.may p
    c.index_mut-replayer.ensures.value in
    rw (c.advance.ensures) (traces_set i.nodes c.args.k p at
    ∙ ap (λ (m : Merged _ _). traces_of m.nodes) c.self.view_is)

pub returns-clause-fewer : goal.returns-clause-fewer
returns-clause-fewer g c =
    let p = c.index_mut-replayer.result.now in
    let i : Merged _ _ = record {
      clients = c.self.inside.clients;
      nodes = c.self.inside.nodes.items;
      turns = c.self.inside.turns.items;
      sent = c.self.inside.sent;
    } in
    let at = at_turn i c.args.self c.self.view_is c.args.k c.requires.within c.requires.may p
    c.index_mut-replayer.ensures.value in
    let f = fewer_set i.nodes c.args.k p at
    (more_left i c.args.self c.self.view_is c.args.k c.requires.within c.requires.may p at) in
    let s : sum_by left i.nodes ≡ sum_by left c.args.self.nodes =
    ap (λ (m : Merged _ _). sum_by left m.nodes) c.self.view_is in
    rw (c.advance.ensures)
    (let r : sum_by left (slice_set i.nodes c.args.k (progressed p))
    < sum_by left c.args.self.nodes = omega (arith, f, s) in r)
