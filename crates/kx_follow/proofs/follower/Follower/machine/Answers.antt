use Rattle.std.proofs.Common.{◌≡◌, List, ap, length, refl, sym, ◌∙◌}
use Rattle.std.specs.Prelude.{slice_get}
use Rattle.std.proofs.lemmas.Option.{slice_get_read}
use Rattle.kx_follow.specs.Following.{Followed, Following}
use Rattle.kx_follow.proofs.follower.Follower.machine.Goals as goal

pub returns : goal.returns
returns g c =
    let n = c.in_ok-get.field-0.now in
    let nodes = c.deref.result.now in
    let read = c.in_ok-get.ensures.lookup in
    let are : nodes ≡ c.args.self.now.nodes = c.deref.ensures.value
    ∙ ap (λ (f : Following _ _). f.nodes) c.self.view_is in
    let there = slice_get_read nodes (length nodes) c.args.node n refl read.3.0 read.1 in (
      n,
      ap (λ (l : List (Followed _ _)). slice_get l c.args.node) (sym are) ∙ there,
      c.machine.ensures,
    )
