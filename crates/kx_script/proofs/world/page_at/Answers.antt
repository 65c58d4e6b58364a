use Rattle.std.specs.Int.{w64}
use Rattle.std.proofs.lemmas.Int.{to_z-of_z}
use Rattle.kx_script.proofs.Worlds.{refusal}
use Rattle.kx_script.proofs.world.page_at.Goals as goal

pub returns : goal.returns
returns c = λ s h.
    refusal _ _ _ s.world c.args.partition c.fetch.result h.nodes.world.few (c.requires s h)
    (rw (to_z-of_z w64 c.args.from c.ranges.from) at c.fetch.ensures.answer s h)
