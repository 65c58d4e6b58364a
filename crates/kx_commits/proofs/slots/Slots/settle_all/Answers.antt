use Rattle.std.proofs.Common.{◌≡◌, ◌∙◌, true, ap}
use Rattle.kx_commits.specs.Kept.{Said}
use Rattle.kx_commits.specs.Table.{has_slot, key_of}
use Rattle.kx_commits.proofs.OneByOne.{settled_more, still_kept}
use Rattle.kx_commits.proofs.slots.Slots.settle_all.Goals as goal

pub settle-requires : goal.settle-requires
settle-requires c =
    c.loop-said.invariant.1 (key_of c.said-item.result)
    ∙ ap (λ (s : Said). has_slot c.args.self.now (key_of s)) c.said-item.is
    ∙ c.requires c.loop-said.said-index c.said-item.result c.loop-said-test.true

pub loop-said-preserved : goal.loop-said-preserved
loop-said-preserved c =
    let said = c.said-item.result in
    let here : has_slot c.loop-said.self (key_of said) ≡ true =
    c.loop-said.invariant.1 (key_of said)
    ∙ ap (λ (s : Said). has_slot c.args.self.now (key_of s)) c.said-item.is
    ∙ c.requires c.loop-said.said-index said c.loop-said-test.true in (
      settled_more c.args.outcome said c.loop-said.self c.settle.new.self c.settle.ensures
          c.args.all.now c.loop-said.said-index c.args.self.now c.loop-said-test.true
          c.said-item.is c.loop-said.invariant.0,
      λ key. still_kept c.args.outcome said c.loop-said.self c.settle.new.self
          c.settle.ensures here key ∙ c.loop-said.invariant.1 key,
    )
