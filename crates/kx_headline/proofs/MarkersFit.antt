-- Every marker that the coordinator hands out fits the fields of a control batch.
use Rattle.std.proofs.Common.{◌≡◌, ℕ, ℤ, List, refl, ap}
use Rattle.std.proofs.Common.{arith}
use Rattle.std.proofs.lemmas.List.Elements.{All-contains}
use Rattle.kx_message.specs.declared.message.Held.{Held}
use Rattle.kx_message.specs.Messages as the
use Rattle.kx_message.specs.declared.outcome.Outcome.{Outcome}
use Rattle.kx_model.specs.Coordinator.{Row}
use Rattle.kx_model.specs.Log.{MarkerFits}
use Rattle.kx_model.specs.PartitionNode.{marker_of}
use Rattle.kx_model.specs.World.{World, notes}
use Rattle.kx_headline.proofs.CoordinatorAlways.{CoordinatorStands, stands_sound}
use Rattle.kx_headline.proofs.CoordinatorDoes.{Says}
use Rattle.kx_headline.proofs.CoordinatorGrows.{history_in_range}
use Rattle.kx_headline.proofs.CoordinatorRows.{above_own, own}
use Rattle.kx_headline.proofs.PartitionHolds.{MarkersFit}

module _ (w : World) (stands : CoordinatorStands w) where
  by_row : (partition : ℕ) (txn : List ℕ) (held : Held) (coordinator : ℤ) (outcome : Outcome)
      → Says w.sent (notes w) (the.WriteMarker partition txn held coordinator outcome)
      → MarkerFits (marker_of held coordinator outcome)
  by_row partition txn held coordinator outcome marks =
      let r : Row = marks.row in
      let below = above_own (notes w) r r.id marks.written (own refl) in
      let ids = (history_in_range stands.coordinator.history).ids in
      let epoch = ((stands_sound stands).shape r marks.written).ending outcome marks.waits in
      let pair = marks.its_pair in
      let same_id : held.id ≡ r.id = ap (λ (h : Held). h.id) pair in
      let same_epoch : held.epoch ≡ r.epoch = ap (λ (h : Held). h.epoch) pair in
      record {
        id = omega (arith, below, ids, same_id);
        raised = omega (arith, epoch.0, same_epoch);
        epoch = omega (arith, epoch.1, same_epoch);
        coordinator = marks.in_range;
      }

  pub markers_fit : MarkersFit w.sent
  markers_fit partition txn held coordinator outcome c =
      by_row partition txn held coordinator outcome
      (All-contains (Says w.sent (notes w)) w.sent
      (the.WriteMarker partition txn held coordinator outcome) stands.says c)
