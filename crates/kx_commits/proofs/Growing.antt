-- What one more entry of the log changes in what counts and in what waits; a batch.
use Rattle.std.proofs.Common.{◌≡◌, ◌≤◌, ◌+◌, ◌==◌, ◌&&◌, ◌||◌, ℕ, Bool, true, false, cond}
use Rattle.std.proofs.Common.{Contains, Option, Some, None}
use Rattle.std.proofs.Common.{List, [], ◌∷◌, ◌++◌, filter, length, flat_map, refl, sym, ap, ◌∙◌}
use Rattle.std.proofs.Common.{arith, append_assoc, append-nil, length-append, subst}
use Rattle.std.proofs.Math.Bool.{or-false}
use Rattle.std.proofs.lemmas.Bool.Decides.{nat_tests}
use Rattle.std.proofs.lemmas.Grind.{flat_map-append}
use Rattle.std.proofs.lemmas.List.Elements.{filter-append, filter_agree}
use Rattle.std.proofs.lemmas.Bool.{false_from_ne_true}
use Rattle.kx_batch.specs.Record.{Record}
use Rattle.kx_model.specs.Log.{Control, Data, Entry, Placed, Plain, Sequenced, end, placed, width}
use Rattle.kx_model.specs.Produce.{Next, is_below, judge}
use Rattle.kx_model.specs.Producers.{data_at, data_in}
use Rattle.kx_model.specs.Transactions.{has_commit, is_commit_of, unclosed}
use Rattle.kx_model.specs.Transactions.{unclosed_at, unclosed_from}
use Rattle.kx_model.proofs.Growth.{placed_by-push, unclosed-push}
use Rattle.kx_laws.proofs.ClosedByCommit.{commit_tells}
use Rattle.kx_laws.proofs.LogRules.{AtLeast, batch_tells, marker_epoch, reaches}
use Rattle.kx_laws.proofs.Membership.{any_holds}
use Rattle.kx_commits.specs.Follows.{StandsFor, counting, last_of, pending, said_by}
use Rattle.kx_commits.specs.Follows.{waiting_of}
use Rattle.kx_commits.specs.Kept.{Kept, SameKept, Said, Slot, is_for, noted, noted_all, nothing}
use Rattle.kx_commits.specs.Kept.{waits}
use Rattle.kx_commits.proofs.Lists.{any-push, eqb_swap, filter_true}
use Rattle.kx_commits.proofs.Settling.{slot_is}

------ no entry

pub nothing_stands : StandsFor nothing []
unfolding unclosed_from
nothing_stands = record { slots = λ group partition. refl; waiting = λ id. refl }

pub same_stands : (kept other : Kept) (log : List Entry) → SameKept other kept
    → StandsFor kept log → StandsFor other log
same_stands kept other log same stands = record {
  slots = λ group partition. same.slots group partition ∙ stands.slots group partition;
  waiting = λ id. same.waiting id ∙ stands.waiting id;
}

------ one more entry

module _ (log : List Entry) (entry : Entry) where
  data_in-push : data_in (placed (log ++ entry ∷ [])) ≡ data_in (placed log)
      ++ data_at (end log) entry
  data_in-push =
      let data_of = λ (p : Placed Entry). data_at p.offset p.item in
      let last : Placed Entry = record { offset = end log; item = entry } in
      ap data_in (placed_by-push width 0 (end log) log entry (omega arith))
      ∙ flat_map-append data_of (placed log) (last ∷ [])
      ∙ ap (λ l. data_in (placed log) ++ l) (append-nil (data_at (end log) entry))

  abbrev pub counts_with : Placed Sequenced → Bool
  counts_with p =
      has_commit log p.item.id p.item.epoch || is_commit_of p.item.id p.item.epoch entry

  pub counting-push : counting (log ++ entry ∷ []) ≡ flat_map said_by
      (filter counts_with (data_in (placed log)) ++ filter counts_with (data_at (end log) entry))
  counting-push =
      ap (λ ps. flat_map said_by
      (filter (λ p. has_commit (log ++ entry ∷ []) p.item.id p.item.epoch) ps)) data_in-push
      ∙ ap (flat_map said_by)
      (filter_agree (λ p. has_commit (log ++ entry ∷ []) p.item.id p.item.epoch) counts_with
      (λ p. any-push (is_commit_of p.item.id p.item.epoch) log entry)
      (data_in (placed log) ++ data_at (end log) entry)
      ∙ filter-append counts_with (data_in (placed log)) (data_at (end log) entry))

  -- one that commits nothing
  pub counting_on : ((id epoch : ℕ) → is_commit_of id epoch entry ≡ false)
      → counting (log ++ entry ∷ []) ≡ counting log ++ flat_map said_by
      (filter (λ p. has_commit log p.item.id p.item.epoch) (data_at (end log) entry))
  counting_on none =
      let counts = λ (p : Placed Sequenced). has_commit log p.item.id p.item.epoch in
      let same = filter_agree counts_with counts (λ p.
      ap (λ b. counts p || b) (none p.item.id p.item.epoch) ∙ or-false (counts p)) in
      counting-push
      ∙ flat_map-append said_by (filter counts_with (data_in (placed log)))
      (filter counts_with (data_at (end log) entry))
      ∙ ap (λ ps. flat_map said_by ps ++ flat_map said_by
      (filter counts_with (data_at (end log) entry))) (same (data_in (placed log)))
      ∙ ap (λ ps. counting log ++ flat_map said_by ps) (same (data_at (end log) entry))

------ a batch without a producer

module _ (kept : Kept) (log : List Entry) (records : List Record) where
  unclosed_still : unclosed (log ++ Plain records ∷ []) ≡ unclosed log
  unclosed_still =
      unclosed-push log (Plain records)
      ∙ append-nil (filter (λ p. true) (unclosed log)) ∙ filter_true (unclosed log)

  counting_still : counting (log ++ Plain records ∷ []) ≡ counting log
  counting_still =
      counting_on log (Plain records) (λ id epoch. refl) ∙ append-nil (counting log)

  pub plain_stands : StandsFor kept log → StandsFor kept (log ++ Plain records ∷ [])
  plain_stands stands = record {
    slots = λ group partition. stands.slots group partition
        ∙ sym (slot_is _ _ _ _
        (ap (λ l. last_of (filter (is_for group partition) l)) counting_still)
        (ap (λ ps. length (filter (is_for group partition) (flat_map said_by ps)))
        unclosed_still));
    waiting = λ id. stands.waiting id
        ∙ sym (ap (λ ps. flat_map said_by (filter (λ p. p.item.id == id) ps)) unclosed_still);
  }

------ a batch of a transaction

noted_slot : (id : ℕ) (said : List Said) (kept : Kept) (group : List ℕ) (partition : ℕ)
    → (noted_all id said kept).slot group partition ≡ record {
      committed = (kept.slot group partition).committed;
      pending = (kept.slot group partition).pending + length (filter (is_for group partition) said);
    }
noted_slot id [] kept group partition =
    let slot = kept.slot group partition in
    slot_is slot.committed slot.committed slot.pending (slot.pending + 0) refl (omega arith)
noted_slot id (s ∷ said) kept group partition =
    noted_slot id said (noted id s kept) group partition ∙ by (is_for group partition s)
  where
    slot : Slot
    slot = kept.slot group partition

    its : List Said
    its = filter (is_for group partition) said

    by : (b : Bool) → ◌≡◌ {A = Slot} (record {
      committed = (cond b (waits slot) slot).committed;
      pending = (cond b (waits slot) slot).pending + length its;
    }) (record {
      committed = slot.committed;
      pending = slot.pending + length (cond b (s ∷ its) its);
    })
    by true = slot_is slot.committed slot.committed _ _ refl (omega arith)
    by false = refl

noted_waiting : (id : ℕ) (said : List Said) (kept : Kept) (i : ℕ)
    → (noted_all id said kept).waiting i ≡ cond (i == id) (kept.waiting i ++ said) (kept.waiting i)
noted_waiting id [] kept i = by (i == id)
  where
    by : (b : Bool) → kept.waiting i ≡ cond b (kept.waiting i ++ []) (kept.waiting i)
    by true = sym (append-nil (kept.waiting i))
    by false = refl
noted_waiting id (s ∷ said) kept i = noted_waiting id said (noted id s kept) i ∙ by (i == id)
  where
    by : (b : Bool)
        → cond b (cond b (kept.waiting i ++ s ∷ []) (kept.waiting i) ++ said)
        (cond b (kept.waiting i ++ s ∷ []) (kept.waiting i))
        ≡ cond b (kept.waiting i ++ s ∷ said) (kept.waiting i)
    by true = append_assoc (kept.waiting i) (s ∷ []) said
    by false = refl

no_lower : (epoch n : ℕ) (o : Option ℕ) → is_below epoch o ≡ false → AtLeast n o → n ≤ epoch
no_lower epoch n None e h = absurd h
no_lower epoch n (Some m) e h = grind (arith, nat_tests)

-- the transaction of a batch that is to come next has no commit marker
no_commit_yet : (log : List Entry) (verified : Bool) (batch : Sequenced)
    → judge log verified batch ≡ Next → has_commit log batch.id batch.epoch ≡ false
no_commit_yet log verified batch next =
    false_from_ne_true (has_commit log batch.id batch.epoch) (λ e.
    let (entry, there, is) = any_holds (is_commit_of batch.id batch.epoch) log e in
    let k = commit_tells batch.id batch.epoch entry is in
    let reached = reaches log (Control k.marker) batch.id k.marker.epoch
    (subst (Contains log) k.is there) (marker_epoch k.marker batch.id k.its_id) in
    let low = no_lower batch.epoch k.marker.epoch _
    (batch_tells log verified batch next).current reached in
    omega (arith, low, k.raised))

module _ (kept : Kept) (log : List Entry) (verified : Bool) (batch : Sequenced)
    (next : judge log verified batch ≡ Next) (transactional : batch.transactional ≡ true) where
  abbrev here : Placed Sequenced
  here = record { offset = end log; item = batch }

  unclosed_with : unclosed (log ++ Data batch ∷ []) ≡ unclosed log ++ here ∷ []
  unclosed_with =
      unclosed-push log (Data batch)
      ∙ ap (λ ps. ps ++ unclosed_at (end log) (Data batch) []) (filter_true (unclosed log))
      ∙ ap (λ b. unclosed log ++ cond (b && true) (here ∷ []) []) transactional

  counting_with : counting (log ++ Data batch ∷ []) ≡ counting log
  counting_with =
      counting_on log (Data batch) (λ id epoch. refl)
      ∙ ap (λ b. counting log ++ flat_map said_by (cond b (here ∷ []) []))
      (no_commit_yet log verified batch next)
      ∙ append-nil (counting log)

  pending_with : pending (log ++ Data batch ∷ []) ≡ pending log ++ said_by here
  pending_with =
      ap (flat_map said_by) unclosed_with ∙ flat_map-append said_by (unclosed log) (here ∷ [])
      ∙ ap (λ l. pending log ++ l) (append-nil (said_by here))

  waiting_with : (id : ℕ) → waiting_of (log ++ Data batch ∷ []) id
      ≡ cond (id == batch.id) (waiting_of log id ++ said_by here) (waiting_of log id)
  waiting_with id =
      let its = λ (p : Placed Sequenced). p.item.id == id in
      ap (λ ps. flat_map said_by (filter its ps)) unclosed_with
      ∙ ap (flat_map said_by) (filter-append its (unclosed log) (here ∷ []))
      ∙ ap (λ b. flat_map said_by (filter its (unclosed log) ++ cond b (here ∷ []) []))
      (eqb_swap batch.id id)
      ∙ by (id == batch.id)
    where
      its : Placed Sequenced → Bool
      its p = p.item.id == id

      by : (b : Bool) → flat_map said_by (filter its (unclosed log) ++ cond b (here ∷ []) [])
          ≡ cond b (waiting_of log id ++ said_by here) (waiting_of log id)
      by true =
          flat_map-append said_by (filter its (unclosed log)) (here ∷ [])
          ∙ ap (λ l. waiting_of log id ++ l) (append-nil (said_by here))
      by false = ap (flat_map said_by) (append-nil (filter its (unclosed log)))

  pending_count : (group : List ℕ) (partition : ℕ)
      → length (filter (is_for group partition) (pending (log ++ Data batch ∷ [])))
      ≡ length (filter (is_for group partition) (pending log))
      + length (filter (is_for group partition) (said_by here))
  pending_count group partition =
      let its = is_for group partition in
      ap (λ l. length (filter its l)) pending_with
      ∙ ap length (filter-append its (pending log) (said_by here))
      ∙ length-append (filter its (pending log)) (filter its (said_by here))

  pub batch_stands : StandsFor kept log
      → StandsFor (noted_all batch.id (said_by here) kept) (log ++ Data batch ∷ [])
  batch_stands stands = record {
    slots = λ group partition. noted_slot batch.id (said_by here) kept group partition
        ∙ ap (λ (s : Slot). record {
          committed = s.committed;
          pending = s.pending + length (filter (is_for group partition) (said_by here));
        }) (stands.slots group partition)
        ∙ sym (slot_is _ _ _ _
        (ap (λ l. last_of (filter (is_for group partition) l)) counting_with)
        (pending_count group partition));
    waiting = λ id. noted_waiting batch.id (said_by here) kept id
        ∙ ap (λ l. cond (id == batch.id) (l ++ said_by here) l) (stands.waiting id)
        ∙ sym (waiting_with id);
  }
