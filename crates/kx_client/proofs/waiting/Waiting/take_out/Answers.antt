use Rattle.std.proofs.Common.{◌≡◌, ◌+◌, ◌++◌, ◌∷◌, List, take, drop, subst, sym, arith, length, ap}
use Rattle.kx_message.specs.declared.message.Message.{Message}
use Rattle.kx_client.specs.Internal.{AreCounted, AreNumbered, HasOneInit}
use Rattle.kx_client.proofs.Counts.{counted_out}
use Rattle.kx_client.proofs.Inits.{one_out}
use Rattle.kx_client.proofs.Numbers.{numbered_out, split_at}
use Rattle.kx_client.proofs.waiting.Waiting.take_out.Goals as goal

pub invariant_of-self : goal.invariant_of-self
invariant_of-self c =
    let ms = c.self.inside.requests.items in
    let place = c.args.place in
    let m = c.index.result.now in
    let front = take place ms in
    let back = drop (place + 1) ms in
    let split : front ++ m ∷ back ≡ ms =
    split_at ms place m (omega (arith, c.requires, ap (λ w. length w.messages) c.self.view_is))
    (sym c.index.ensures) in
    let left : front ++ back ≡ c.remove.new.self.items = sym c.remove.ensures.by_index.2 in (
      subst HasOneInit left
          (one_out front m back (subst HasOneInit (sym split) c.self.invariant.0)),
      subst (λ (xs : List Message). AreNumbered 0 xs c.self.inside.next) left
          (numbered_out 0 front m back c.self.inside.next
          (subst (λ (xs : List Message). AreNumbered 0 xs c.self.inside.next) (sym split)
          c.self.invariant.1)),
      subst (AreCounted c.forget.new.self) left
          (counted_out c.self.inside.windows c.forget.new.self front m back
          (subst (AreCounted c.self.inside.windows) (sym split) c.self.invariant.2)
          c.forget.ensures),
    )
