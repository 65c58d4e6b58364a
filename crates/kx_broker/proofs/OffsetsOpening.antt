-- Opening the offsets partition finds the log of the definitions, and it is one of groups.
use Rattle.std.proofs.Common.{◌≡◌, inl, inr, ℕ}
use Rattle.std.proofs.Common.{refl, sym, ap, subst}
use Rattle.std.specs.Prelude.{◌≢◌, Result, Ok, Err, MatchResult}
use Rattle.std.specs.declared.alloc.AllocError.{AllocError}
use Rattle.kx_broker.specs.Offsets.{CommitsAt0, IsOffsetsLog, KeepsOffsets}
use Rattle.kx_broker.specs.Serving.{Restarts, Serving}
use Rattle.kx_broker.specs.declared.restart.Restarted.{Restarted}
use Rattle.kx_broker.specs.declared.restart.Restarted.TheVariants as restarted
use Rattle.kx_broker.proofs.Opening.{cut_disk, never_damaged, never_used_up, read_is, unread}
use Rattle.kx_broker.proofs.Opening.{unloaded_still}
use Rattle.kx_broker.proofs.Served.{serving}
use Rattle.kx_group.specs.Opening.{IsNoGroups, NotReloaded}
use Rattle.kx_group.proofs.Growing.{never_unfit}
use Rattle.kx_log.specs.LogState.{LogState}
use Rattle.kx_log.specs.declared.fault.OpenFault.{OpenFault}
use Rattle.kx_log.specs.declared.fault.OpenFault.TheVariants as fault
use Rattle.kx_message.specs.Ranges.{offsets_partition}
use Rattle.kx_model.specs.PartitionNode.{Partition}

module _ (p : Partition) (old : Serving) (is : KeepsOffsets p old) where
  -- its log is one of groups
  never_refused : (new : LogState) (place : ℕ) → IsNoGroups old.log new (fault.Damaged place) → ⊥
  never_refused new place h =
      let same = read_is IsOffsetsLog p.disk old.log is.disk h.content h.store h.opened in
      never_unfit h.content place (subst IsOffsetsLog (sym same) is.disk.fits).groups h.faults

  -- for want of memory it is as before
  still_by : (new : LogState) → NotReloaded old.log new fault.Memory
      → KeepsOffsets p (serving old.number new old.parked)
  still_by new (inl h) =
      unloaded_still IsOffsetsLog (λ log fits. fits.grown) CommitsAt0 offsets_partition p old is
      new h
  still_by new (inr h) = record {
    number_is = is.number_is;
    disk = cut_disk IsOffsetsLog p.disk old.log is.disk h.content h.store h.opened new
        (ap (λ (l : LogState). l.batches) h.rest) (ap (λ (l : LogState). l.closed) h.rest)
        (ap (λ (l : LogState). l.store) h.rest);
    parked = is.parked;
    waits = is.waits;
  }

  -- what comes of a fault of the load
  pub closed_by : (new : LogState) (given : OpenFault) (r : Result Restarted AllocError)
      → MatchResult r (λ done. (done ≡ restarted.Unread) × (given ≢ fault.Memory))
      (λ refused. given ≡ fault.Memory) → NotReloaded old.log new given
      → MatchResult r (Restarts KeepsOffsets p old (serving old.number new old.parked))
      (λ refused. KeepsOffsets p (serving old.number new old.parked))
  closed_by new fault.Device (Ok done) h (inl faults) =
      subst (λ (d : Restarted).
      Restarts KeepsOffsets p old (serving old.number new old.parked) d) (sym h.0)
      (unread IsOffsetsLog (λ log fits. fits.grown) CommitsAt0 offsets_partition p old is new
      faults)
  closed_by new fault.Device (Ok done) h (inr no_groups) = absurd no_groups.faults
  closed_by new (fault.Damaged place) (Ok done) h (inl faults) =
      absurd (never_damaged IsOffsetsLog (λ log fits. fits.grown) p.disk old.log new place is.disk
      faults)
  closed_by new (fault.Damaged place) (Ok done) h (inr no_groups) =
      absurd (never_refused new place no_groups)
  closed_by new fault.Memory (Ok done) h faults = absurd (h.1 refl)
  closed_by new fault.UsedUp (Ok done) h (inl faults) =
      absurd (never_used_up IsOffsetsLog (λ log fits. fits.grown) CommitsAt0 offsets_partition p
      old is new faults)
  closed_by new fault.UsedUp (Ok done) h (inr no_groups) = absurd no_groups.faults
  closed_by new given (Err refused) h faults =
      still_by new (subst (NotReloaded old.log new) h faults)
