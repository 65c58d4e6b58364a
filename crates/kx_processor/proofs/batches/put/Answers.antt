use Rattle.std.proofs.Common.{◌≡◌, ◌∙◌, subst, ℕ, List, true, false}
use Rattle.std.specs.Prelude.{MatchOption, Option}
use Rattle.kx_client.specs.declared.values.Values.{Values}
use Rattle.kx_system.specs.Processor.{takes_another, with_another}
use Rattle.kx_processor.proofs.LastBatch.{grown, another}
use Rattle.kx_processor.proofs.batches.put.Goals as goal

-- what came of adding an image to the last batch, by what was given back
abbrev Added : Values → Values → List ℕ → Option (List ℕ) → Type 0
Added last now image back = MatchOption back
    ((takes_another last image ≡ true) × (now ≡ with_another last image))
    (λ same. (takes_another last image ≡ false) × (same ≡ image) × (now ≡ last))

-- src/batches.rt:46:1
pub returns-in_ok-push-3 : goal.returns-in_ok-push-3
returns-in_ok-push-3 c =
    let full = subst (Added c.in-Some.last c.add.new.values c.args.image) c.in-Some-back.is
    c.in_ok-back.ensures in
    let own = c.one-in-Some-back.ensures in
    another c.args.batches.now.items c.pop.new.self.items c.push-2.new.self.items
    c.push-in-Some-back.new.self.items c.in-Some.last c.add.new.values c.one-in-Some-back.result
    c.args.image c.in-Some.ensures.items full.0 full.2 c.in_ok-push-2.ensures.items
    c.in_ok-push-3.ensures.items
    (λ i. record { first = (own.first ∙ full.1) i; more = own.more i })

-- src/batches.rt:46:1
pub returns-in_default-back : goal.returns-in_default-back
returns-in_default-back c =
    let taken = subst (Added c.in-Some.last c.add.new.values c.args.image) c.in_default-back.is
    c.in_ok-back.ensures in
    grown c.args.batches.now.items c.pop.new.self.items c.push-2.new.self.items c.in-Some.last
    c.add.new.values c.args.image c.in-Some.ensures.items taken.0 taken.1
    c.in_ok-push-2.ensures.items
