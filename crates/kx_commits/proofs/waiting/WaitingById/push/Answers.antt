use Rattle.std.proofs.Common.{◌≡◌, ◌∙◌, ◌<◌, ◌++◌, [], ◌∷◌, Some, List, ap, sym, subst}
use Rattle.std.specs.Prelude.{is_some, nat_eq}
use Rattle.std.specs.Map.{lookup}
use Rattle.std.specs.Option.{option_copied_mut}
use Rattle.kx_commits.specs.Kept.{Said}
use Rattle.kx_commits.specs.Table.{Waiting, WaitingTable}
use Rattle.kx_commits.proofs.Waiters.{IsSet, changed_by, known_waiting}
use Rattle.kx_commits.proofs.waiting.WaitingById.push.Goals as goal

pub push-requires : goal.push-requires
push-requires c =
    let here = known_waiting c.self.inside.by_id.entries c.args.id c.args.self.now
    c.unwrap.result.now c.self.view_is
    (sym c.get_mut.ensures.value ∙ ap option_copied_mut c.unwrap.ensures) in
    subst (λ (w : Waiting). 0 < w.room) here c.requires

pub returns-clause-said : goal.returns-clause-said
returns-clause-said c =
    let es = c.self.inside.by_id.entries in
    let found : lookup (nat_eq c.args.id) es ≡ Some c.unwrap.result.now =
    sym c.get_mut.ensures.value ∙ ap option_copied_mut c.unwrap.ensures in
    let here = known_waiting es c.args.id c.args.self.now c.unwrap.result.now c.self.view_is
    found in
    let through = c.get_mut.follows.holds c.push.new.self in
    changed_by c.args.self.now (c.get_mut.follows.lender c.push.new.self).entries c.args.id
    c.push.new.self (λ (all : List Said). all ++ c.args.said ∷ [])
    (subst (λ (t : WaitingTable). IsSet t (c.get_mut.follows.lender c.push.new.self).entries
    c.args.id c.push.new.self) c.self.view_is (through.3 (ap is_some found)).0)
    (c.push.ensures.said ∙ ap (λ (w : Waiting). w.said ++ c.args.said ∷ []) (sym here))
