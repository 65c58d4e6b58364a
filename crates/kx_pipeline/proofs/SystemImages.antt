-- Over every schedule of a system, the transactions of a group whose members are processors write
-- the images of what they read.
use Rattle.std.proofs.Common.{◌≡◌, ◌<◌, ℕ, ℤ, List, [], ◌∷◌, map, Contains, subst}
use Rattle.kx_message.specs.Ranges.{offsets_partition}
use Rattle.kx_model.specs.Groups.{offsets_in}
use Rattle.kx_model.specs.Headline.{Always, HasOneOutcome}
use Rattle.kx_model.specs.Log.{Sequenced}
use Rattle.kx_model.specs.World.{World, entries_at, log_at, run}
use Rattle.kx_headline.proofs.OverSchedules.{markers_agree}
use Rattle.kx_laws.specs.Grown.{IsGrown}
use Rattle.kx_laws.proofs.GrownLogs.{each_admitted}
use Rattle.kx_system.specs.Events.{events_of}
use Rattle.kx_system.specs.Processor.{Images}
use Rattle.kx_system.specs.System.{IsSystemSchedule, System, SystemEvent, run_system, start_system}
use Rattle.kx_system.specs.System.{system_step}
use Rattle.kx_pipeline.specs.Chain.{read_from}
use Rattle.kx_pipeline.specs.Outputs.{keyless}
use Rattle.kx_pipeline.specs.Premises.{IsPipeline}
use Rattle.kx_pipeline.specs.Written.{WritesImages, all_outputs, all_read, chain_batches, images_in}
use Rattle.kx_pipeline.proofs.AllImages.{all_images}
use Rattle.kx_pipeline.proofs.ChainHolds.{whole_stands}
use Rattle.kx_pipeline.proofs.ChainOrder.{stands_in}
use Rattle.kx_pipeline.proofs.SystemLinks.{Led, group_linked, led_first, led_run, system_chained}
use Rattle.kx_pipeline.proofs.SystemWrites.{one_outcome, writes_always}
use Rattle.kx_pipeline.proofs.WrittenBatches.{outputs_are_all}
use Rattle.kx_pipeline.proofs.WrittenImages.{AllShown, chain_tells, group_writes}

-- given that logs grow over every schedule of a world, and that a step of a system is a run of its
-- world
module _ (grow : Always (λ w. (q : ℕ) → IsGrown (log_at w q)))
    (follows : (s : System) (event : SystemEvent)
    → run (events_of s event) s.world ≡ (system_step s event).0.world) where
  pub system_writes : (count : ℕ) (events : List SystemEvent) → IsSystemSchedule events
      → (group : List ℕ) (inputs : ℕ) (image : Images)
      → IsPipeline (run_system events (start_system count)) group inputs image → (q : ℕ)
      → q < inputs → WritesImages (run_system events (start_system count)) group q inputs image
  system_writes count events fits group inputs image pipeline q low =
      let s = run_system events (start_system count) in
      let l = writes_always grow follows count events fits in
      let led = l.led.led in
      let holds = l.led.holds in
      let grown = subst (λ (w : World). IsGrown (log_at w offsets_partition)) led.is
      (grow count led.events led.scheduled offsets_partition) in
      group_writes s holds l.writes led.processors group inputs image pipeline
      (subst AllShown led.is (outputs_are_all count led.events led.scheduled))
      (one_outcome grow follows count s led) q low
      (whole_stands (read_from s.world.sent group) group q (entries_at s.world offsets_partition)
      (each_admitted (log_at s.world offsets_partition) grown)
      (group_linked s group inputs image pipeline holds q))

  -- each batch of the chain has one offset
  chain_offset : (count : ℕ) (s : System) → Led grow follows count s → (group : List ℕ)
      (inputs : ℕ) (image : Images) → IsPipeline s group inputs image → (q : ℕ)
      → (batch : Sequenced) → Contains (chain_batches s.world group q) batch
      → (offset : ℤ) × (offsets_in group q batch ≡ offset ∷ [])
  chain_offset count s l group inputs image pipeline q batch c =
      let w = s.world in
      let log = entries_at w offsets_partition in
      let led = l.led in
      let links = group_linked s group inputs image pipeline l.holds q in
      let grown = subst (λ (w : World). IsGrown (log_at w offsets_partition)) led.is
      (grow count led.events led.scheduled offsets_partition) in
      let tells = chain_tells w
      (subst HasOneOutcome led.is (markers_agree count led.events led.scheduled)) group q
      (whole_stands (read_from w.sent group) group q log
      (each_admitted (log_at w offsets_partition) grown) links) batch c in
      let d = stands_in group q log batch tells.0 in
      let link = links d.before d.behind batch d.parts d.has in
      (link.offset, link.only)

  -- and so their outputs are the images of all that they have read
  pub system_writes_all : (count : ℕ) (events : List SystemEvent) → IsSystemSchedule events
      → (group : List ℕ) (inputs : ℕ) (image : Images)
      → IsPipeline (run_system events (start_system count)) group inputs image → (q : ℕ)
      → q < inputs
      → all_outputs (run_system events (start_system count)) group q inputs
      ≡ map keyless (images_in (run_system events (start_system count)).world image q
      (all_read (run_system events (start_system count)).world group q))
  system_writes_all count events fits group inputs image pipeline q low =
      let s = run_system events (start_system count) in
      let l = led_run grow follows count events (start_system count) fits
      (led_first grow follows count) in
      all_images s group q inputs image
      (system_writes count events fits group inputs image pipeline q low)
      (system_chained grow follows count events fits group inputs image pipeline q)
      (chain_offset count s l group inputs image pipeline q)
