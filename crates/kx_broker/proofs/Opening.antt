-- Opening the partition again finds the log of the definitions.
use Rattle.std.proofs.Common.{◌≡◌, inl, inr, ◌<◌, ◌+◌, ℕ, Bool, true, false, List, [], ◌∷◌}
use Rattle.std.proofs.Common.{ℤ, pos, ◌++◌, Option, Some, None, refl, sym, ap, ◌∙◌, subst, arith}
use Rattle.std.proofs.Common.{append-nil}
use Rattle.std.specs.Int.{w64}
use Rattle.std.specs.Prelude.{◌≢◌, ◌&&◌, Result, Ok, Err, MatchResult, is_some, nat_lt, not}
use Rattle.std.specs.Prelude.{option_to_list}
use Rattle.std.proofs.lemmas.Bool.Decides.{nat_tests}
use Rattle.std.proofs.lemmas.List.Elements.{All-nil}
use Rattle.std.specs.declared.alloc.AllocError.{AllocError}
use lib.Signed.{lt_z}
use mir.Val.{of_z, to_z}
use Rattle.kx_broker.specs.Serving.{IsDisk, IsServedBy, Restarts, Serving, Waits}
use Rattle.kx_broker.specs.Serving.{closes, opened_partition}
use Rattle.kx_broker.specs.declared.restart.Restarted.{Restarted}
use Rattle.kx_broker.specs.declared.restart.Restarted.TheVariants as restarted
use Rattle.kx_broker.proofs.Disks.{plain_disk}
use Rattle.kx_broker.proofs.Served.{serving}
use Rattle.kx_broker.proofs.Stores.{CanLoad, loaded, unloaded}
use Rattle.kx_laws.specs.Grown.{IsGrown}
use Rattle.kx_laws.proofs.GrownLogs.{each_stands}
use Rattle.kx_log.proofs.Contents.{same_number}
use Rattle.kx_log.proofs.Reading.{read_again}
use Rattle.kx_log.specs.Log.{IsLog, IsStored, NoTail, ReadLog, Tail, Wrong, log_in, texts}
use Rattle.kx_log.specs.LogState.{LogState, Opens}
use Rattle.kx_log.specs.Opening.{IsOpened, IsRight}
use Rattle.kx_log.specs.Store.{StoreState}
use Rattle.kx_log.specs.declared.fault.OpenFault.{OpenFault}
use Rattle.kx_log.specs.declared.fault.OpenFault.TheVariants as fault
use Rattle.kx_model.specs.Disk.{Disk, Store, Works, Fails, CannotLoad, made, reopening, reread}
use Rattle.kx_model.specs.Log.{Stored, end, entries, entry_of, width}
use Rattle.kx_model.specs.PartitionNode.{Partition, empty_partition}
use Rattle.kx_model.specs.PartitionNode.{partition_restarts, reopened}
use Rattle.kx_model.specs.Step.{Done, partition_note}
use Rattle.kx_model.proofs.Growth.{end-push}
use Rattle.kx_model.proofs.Logs.{entries-push, width-entry_in}
use Rattle.kx_model.specs.Verification.{Parked, Request, parked_for}
use Rattle.kx_partition.proofs.Rebuilding.{none_untaken}
use Rattle.kx_partition.specs.Opening.{ReloadsGrown, RereadFaults}

-- the same bytes hold the same
same_disk : (Fits : List Stored → Type 0) (disk : Disk Stored) (old new : LogState)
    → IsDisk Fits disk old → new.batches ≡ old.batches → new.closed ≡ old.closed
    → new.store.bytes ≡ old.store.bytes → IsDisk Fits disk new
same_disk Fits disk old new is batches closed bytes = record {
  kept = batches ∙ is.kept;
  closed = closed ∙ is.closed;
  shown = is.shown;
  found = ap (λ (b : List ℕ). (log_in b).batches) bytes ∙ is.found;
  tail = subst (λ (b : List ℕ). IsRight (log_in b).tail) (sym bytes) is.tail;
  placed = is.placed;
  fits = is.fits;
}

module _ (Fits : List Stored → Type 0) (disk : Disk Stored) (old : LogState)
    (is : IsDisk Fits disk old) (content : List Stored)
    (store : StoreState) (opened : IsOpened old.store store content) where
  -- what is read is what opening finds
  pub read_is : content ≡ reread disk
  read_is = opened.log_is ∙ is.found

  bytes_are : store.bytes ≡ texts (reread disk)
  bytes_are = ap (λ (s : StoreState). s.bytes) opened.store ∙ ap texts read_is

  -- the log that was read
  pub read_disk : (new : LogState) → new.batches ≡ content → new.closed ≡ false → new.store ≡ store
      → IsDisk Fits (made (reread disk)) new
  read_disk new batches closed same =
      plain_disk Fits (reread disk) new (batches ∙ read_is) closed
      (ap (λ (s : StoreState). s.bytes) same ∙ bytes_are) is.placed is.fits

  -- the log as before, over a store that is cut to what was read
  pub cut_disk : (new : LogState) → new.batches ≡ old.batches → new.closed ≡ old.closed
      → new.store ≡ store → IsDisk Fits disk new
  cut_disk new batches closed same =
      let read : log_in new.store.bytes ≡ record { batches = reread disk; tail = NoTail } =
      ap log_in (ap (λ (s : StoreState). s.bytes) same ∙ bytes_are)
      ∙ read_again (reread disk) is.placed.stored is.placed.stand in
      record {
        kept = batches ∙ is.kept;
        closed = closed ∙ is.closed;
        shown = is.shown;
        found = ap (λ (r : ReadLog). r.batches) read;
        tail = subst (λ (r : ReadLog). IsRight r.tail) (sym read) tt;
        placed = is.placed;
        fits = is.fits;
      }

wrong_is_wrong : (tail : Tail) → tail ≡ Wrong → IsRight tail → ⊥
wrong_is_wrong tail e right = subst IsRight e right

-- its log is refused neither as bytes nor by the tables
pub never_damaged : (Fits : List Stored → Type 0) → ((log : List Stored) → Fits log → IsGrown log)
    → (disk : Disk Stored) (old new : LogState) (place : ℕ) → IsDisk Fits disk old
    → RereadFaults old new (fault.Damaged place) → ⊥
never_damaged Fits grows disk old new place is (inl h) =
    wrong_is_wrong (log_in old.store.bytes).tail h.0.0.wrong is.tail
never_damaged Fits grows disk old new place is (inr h) =
    let same = read_is Fits disk old is h.content h.store h.opened in
    none_untaken h.content place (subst IsGrown (sym same) (grows (reread disk) is.fits)) h.faults

-- an entry behind the log makes it longer
found_is : (kept : List Stored) (hidden : Option Stored) → IsGrown (kept ++ option_to_list hidden)
    → nat_lt (end (entries kept)) (end (entries (kept ++ option_to_list hidden))) ≡ is_some hidden
found_is kept None grown =
    let same = ap (λ (l : List Stored). end (entries l)) (append-nil kept) in
    grind (arith, nat_tests, same)
found_is kept (Some s) grown =
    let stands = each_stands (kept ++ s ∷ []) grown kept s [] refl in
    let longer : end (entries (kept ++ s ∷ [])) ≡ end (entries kept) + width (entry_of s) =
    ap end (entries-push kept s (entry_of s) refl) ∙ end-push (entries kept) (entry_of s) in
    let wide = width-entry_in s.batch in
    let more : end (entries kept) < end (entries (kept ++ s ∷ [])) =
    omega (arith, longer, wide, stands.some) in
    grind (arith, nat_tests, more)

never_closed : (closed : Bool) → (not closed && false) ≡ false
never_closed true = refl
never_closed false = refl

can_load : (p : Partition) (store : Store) → CanLoad store
    → (partition_restarts p (reopening store) ≡ reopened p)
    × (partition_note (reopening store) ≡ Done)
can_load p Works h = (refl, refl)
can_load p (Fails whole) h = (refl, refl)
can_load p CannotLoad h = absurd h

module _ (Fits : List Stored → Type 0) (grows : (log : List Stored) → Fits log → IsGrown log)
    (Here : Request → Type 0) (number : ℕ) (p : Partition) (old : Serving)
    (is : IsServedBy Fits Here number p old) where
  abbrev Stands : Partition → Serving → Type 0
  Stands = IsServedBy Fits Here number

  -- it was read
  pub restarts : (content : List Stored) (between new : LogState) (found : Bool)
      → ReloadsGrown old.log between content
      → new ≡ record between { batches = content; closed = false }
      → found ≡ nat_lt (end (entries old.log.batches)) (end (entries content))
      → Restarts Stands p old (serving old.number new []) (restarted.Read found)
  restarts content between new found h installed is_found =
      let opened = h.reloads.opened in
      let store : new.store ≡ between.store = ap (λ (l : LogState). l.store) installed in
      let l = loaded old.log.store.appends old.log.store.loads None refl opened.may in
      let can = can_load p l.store l.is in
      let disk = read_disk Fits p.disk old.log is.disk content between.store opened new
      (ap (λ (l : LogState). l.batches) installed) (ap (λ (l : LogState). l.closed) installed)
      store in
      let same = read_is Fits p.disk old.log is.disk content between.store opened in
      let failures : new.store.failures ≡ old.log.store.failures =
      ap (λ (s : StoreState). s.failures) (store ∙ opened.store) in
      let kept_up : nat_lt old.log.store.failures new.store.failures ≡ false =
      grind (arith, nat_tests, failures) in
      record {
        store = l.store;
        allowed = l.allowed;
        stands = subst (λ (q : Partition). Stands q (serving old.number new [])) (sym can.0)
            (record {
              number_is = is.number_is;
              disk = disk;
              parked = λ held. refl;
              waits = All-nil (λ q. Waits Here (entries (reread p.disk)) q.held q);
            });
        answers = (
          can.1,
          is_found ∙ (λ i. nat_lt (end (entries (is.disk.kept i))) (end (entries (same i))))
              ∙ found_is p.disk.kept p.disk.hidden (grows (reread p.disk) is.disk.fits),
          kept_up ∙ sym (ap (λ (q : Partition). closes p q) can.0 ∙ never_closed p.disk.closed),
        );
      }

  -- it couldn't be read
  pub unread : (new : LogState) → RereadFaults old.log new fault.Device
      → Restarts Stands p old (serving old.number new old.parked) restarted.Unread
  unread new (inr h) = absurd h.faults
  unread new (inl h) =
      let failed = h.0 in
      let bytes : new.store.bytes ≡ old.log.store.bytes =
      ap (λ (s : StoreState). s.bytes) failed.rest in
      let batches : new.batches ≡ old.log.batches = ap (λ (l : LogState). l.batches) h.1 in
      let closed : new.closed ≡ true = ap (λ (l : LogState). l.closed) h.1 in
      record {
        store = CannotLoad;
        allowed = unloaded old.log.store.appends old.log.store.loads None failed.may;
        stands = record {
          number_is = is.number_is;
          disk = record {
            kept = batches ∙ is.disk.kept;
            closed = closed;
            shown = λ e. absurd cc;
            found = ap (λ (b : List ℕ). (log_in b).batches) bytes ∙ is.disk.found;
            tail = subst (λ (b : List ℕ). IsRight (log_in b).tail) (sym bytes) is.disk.tail;
            placed = is.disk.placed;
            fits = is.disk.fits;
          };
          parked = is.parked;
          waits = is.waits;
        };
        answers = (refl, grind (arith, nat_tests, failed.rose));
      }

  -- a load says of no epochs that they are used up
  pub never_used_up : (new : LogState) → RereadFaults old.log new fault.UsedUp → ⊥
  never_used_up new (inl h) = h.0
  never_used_up new (inr h) = h.faults

  -- for want of memory it is as before
  pub unloaded_still : (new : LogState) → RereadFaults old.log new fault.Memory
      → Stands p (serving old.number new old.parked)
  unloaded_still new h = record {
    number_is = is.number_is;
    disk = still h;
    parked = is.parked;
    waits = is.waits;
  }
    where
      still : RereadFaults old.log new fault.Memory → IsDisk Fits p.disk new
      still (inl h) =
          same_disk Fits p.disk old.log new is.disk (ap (λ (l : LogState). l.batches) h.1)
          (ap (λ (l : LogState). l.closed) h.1) (ap (λ (s : StoreState). s.bytes) h.0)
      still (inr h) =
          cut_disk Fits p.disk old.log is.disk h.content h.store h.opened new
          (ap (λ (l : LogState). l.batches) h.rest) (ap (λ (l : LogState). l.closed) h.rest)
          (ap (λ (l : LogState). l.store) h.rest)

  -- what comes of a fault of the load
  pub unread_by : (new : LogState) (given : OpenFault) (r : Result Restarted AllocError)
      → MatchResult r (λ done. (done ≡ restarted.Unread) × (given ≢ fault.Memory))
      (λ refused. given ≡ fault.Memory) → RereadFaults old.log new given
      → MatchResult r (Restarts Stands p old (serving old.number new old.parked))
      (λ refused. Stands p (serving old.number new old.parked))
  unread_by new fault.Device (Ok done) h faults =
      subst (λ (d : Restarted). Restarts Stands p old (serving old.number new old.parked) d)
      (sym h.0) (unread new faults)
  unread_by new (fault.Damaged place) (Ok done) h faults =
      absurd (never_damaged Fits grows p.disk old.log new place is.disk faults)
  unread_by new fault.Memory (Ok done) h faults = absurd (h.1 refl)
  unread_by new fault.UsedUp (Ok done) h faults = absurd (never_used_up new faults)
  unread_by new given (Err refused) h faults =
      unloaded_still new (subst (RereadFaults old.log new) h faults)

-- a log that was opened stands alone in its store, and nothing is parked
pub opened_server : (Fits : List Stored → Type 0) (Here : Request → Type 0) (number : ℕ)
    (store : StoreState) (log : LogState) (parked : List Parked) → Opens store log
    → IsLog log.batches → Fits log.batches → parked ≡ []
    → IsServedBy Fits Here number (opened_partition log.batches) (serving number log parked)
opened_server Fits Here number store log parked opens placed fits none = record {
  number_is = refl;
  disk = plain_disk Fits log.batches log refl opens.not_closed
      (ap (λ (s : StoreState). s.bytes) opens.opened.store) placed fits;
  parked = λ held. ap (λ (l : List Parked). parked_for l held) none;
  waits = All-nil (λ q. Waits Here (entries log.batches) q.held q);
}

-- an empty store holds no batches
none_held : (store : StoreState) (log : LogState) → Opens store log → store.bytes ≡ []
    → log.batches ≡ []
none_held store log opens empty =
    opens.opened.log_is
    ∙ ap (λ (r : ReadLog). r.batches) (ap log_in empty ∙ read_again [] (All-nil IsStored) tt)

-- on an empty store it stands for the node as it was made
pub made_server : (Stands : Partition → Serving → Type 0) (store : StoreState) (log : LogState)
    (server : Serving) → Opens store log → store.bytes ≡ []
    → Stands (opened_partition log.batches) server → Stands empty_partition server
made_server Stands store log server opens empty stands =
    subst (λ (l : List Stored). Stands (opened_partition l) server)
    (none_held store log opens empty) stands

-- whether the log became longer, as code compares ends
pub found_by : (before after : ℤ) (old new : List Stored) → IsLog old → IsLog new
    → before ≡ pos (end (entries old)) → after ≡ pos (end (entries new))
    → lt_z (to_z w64 (of_z w64 before)) (to_z w64 (of_z w64 after))
    ≡ nat_lt (end (entries old)) (end (entries new))
found_by before after old new placed other is_before is_after =
    let first = same_number before (end (entries old)) is_before placed.room in
    let second = same_number after (end (entries new)) is_after other.room in
    λ i. lt_z (first i) (second i)
