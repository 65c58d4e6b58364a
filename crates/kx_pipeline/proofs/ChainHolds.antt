-- The ranges of the batches that are committed follow one another, if each batch with an offset
-- came when no other was pending, and its transaction had read from the committed offset.
use Rattle.std.proofs.Common.{◌≡◌, ℕ, ℤ, pos, ◌+◌, ◌<ℤ◌, Bool, true, false, cond, ◌&&◌, ◌||◌, ◌==◌}
use Rattle.std.proofs.Common.{List, [], ◌∷◌, ◌++◌, filter, flat_map, length, Contains, refl}
use Rattle.std.proofs.Common.{sym, ap}
use Rattle.std.proofs.Common.{◌∙◌, subst, arith, append_assoc, append-nil, nat_lt, ⊎_elim, map}
use Rattle.std.specs.List.{list_any}
use Rattle.std.proofs.lemmas.Bool.{and_from, false_from_ne_true}
use Rattle.std.proofs.lemmas.Bool.Decides.{nat_tests}
use Rattle.std.proofs.lemmas.Grind.{flat_map-append}
use Rattle.std.proofs.lemmas.List.Elements.{Contains-push_cases, filter-append}
use Rattle.std.proofs.lemmas.List.Folds.{list_any-append}
use Rattle.kx_message.specs.declared.outcome.Outcome.TheVariants.{Commit}
use Rattle.kx_model.specs.Coordinator.{same_outcome}
use Rattle.kx_model.specs.Groups.{is_pending, marked_offset, offsets_in}
use Rattle.kx_model.specs.Log.{Entry, Plain, Data, Control, Marker, Placed, Sequenced, end}
use Rattle.kx_model.specs.Transactions.{has_commit, is_commit_of, is_marker_of, unclosed}
use Rattle.kx_system.specs.Processor.{from_offset}
use Rattle.kx_laws.proofs.ClosedByCommit.{commit_tells}
use Rattle.kx_laws.proofs.GrownLogs.{Admits}
use Rattle.kx_laws.proofs.LogRules.{batch_no_lower, closes_its_own, marker_epoch}
use Rattle.kx_laws.proofs.Membership.{any_holds, any_keeps, in_the_middle, no_element, none_holds}
use Rattle.kx_laws.proofs.OpenBatches.{standing_is_listed}
use Rattle.kx_laws.proofs.Splits.{Each}
use Rattle.kx_laws.proofs.StablePart.{first_marker}
use Rattle.kx_pipeline.specs.Chain.{AreLinked, Range, committed_after, committed_by, has_offset}
use Rattle.kx_pipeline.specs.Chain.{is_ended_by, last_end, offset_batch, offset_batches}
use Rattle.kx_pipeline.proofs.ChainOrder.{AreEnded, IsEnded, commit_is, commit_kept}
use Rattle.kx_pipeline.proofs.ChainOrder.{committed_after-push, ended_later, ends_once}
use Rattle.kx_pipeline.proofs.ChainOrder.{StandsIn, filter_alike, filter_none}
use Rattle.kx_pipeline.proofs.ChainOrder.{offset_batches-push, stands_in, uncommitted}
use Rattle.kx_pipeline.proofs.LinkedLogs.{AreLinkedIn, Link}
use Rattle.kx_pipeline.proofs.LinkedRanges.{linked_push, marked_batches, offset_is_last_end}
use Rattle.kx_pipeline.proofs.LinkedRanges.{ranges_in}

not_pending : (log : List Entry) (group : List ℕ) (q : ℕ) → is_pending log group q ≡ false
    → (p : Placed Sequenced) → Contains (unclosed log) p → has_offset group q p.item ≡ false
unfolding is_pending
not_pending log group q e p c =
    none_holds (λ (p : Placed Sequenced). nat_lt 0 (length (offsets_in group q p.item)))
    (unclosed log) p e c

no_marker_no_commit : (id epoch : ℕ) (entry : Entry) → is_marker_of id entry ≡ false
    → is_commit_of id epoch entry ≡ false
no_marker_no_commit id epoch (Plain records) e = refl
no_marker_no_commit id epoch (Data d) e = refl
no_marker_no_commit id epoch (Control m) e =
    ap (λ b. b && m.epoch == epoch + 1 && same_outcome m.outcome Commit) e

-- one entry more commits no more than it does itself
commit-push : (log : List Entry) (entry : Entry) (id epoch : ℕ)
    → is_commit_of id epoch entry ≡ false
    → has_commit (log ++ entry ∷ []) id epoch ≡ has_commit log id epoch
commit-push log entry id epoch e =
    list_any-append (is_commit_of id epoch) log (entry ∷ [])
    ∙ ap (λ b. has_commit log id epoch || (b || false)) e ∙ or_false (has_commit log id epoch)
  where
    or_false : (b : Bool) → (b || false) ≡ b
    or_false true = refl
    or_false false = refl

and_false : (x y : Bool) → y ≡ false → (x && y) ≡ false
and_false true y e = e
and_false false y e = refl

------ what stands of a log

module _ (from_of : Sequenced → ℤ) (group : List ℕ) (q : ℕ) where
  abbrev pub batches : List Entry → List Sequenced
  batches log = offset_batches group q log

  -- in the order of their commit markers
  abbrev pub committed : List Entry → List Sequenced
  committed log = committed_after group q [] log

  abbrev pub committed_ranges : List Entry → List Range
  committed_ranges log = flat_map (ranges_in from_of group q) (committed log)

  -- a batch whose marker is yet to come, and whose range is the next one
  pub record Waits (log : List Entry) (batch : Sequenced) : Type 0 where
    pub before : List Entry
    pub between : List Entry
    pub parts : log ≡ before ++ Data batch ∷ between
    pub unmarked : list_any (is_marker_of batch.id) between ≡ false
    pub no_commit : has_commit log batch.id batch.epoch ≡ false
    pub from_is : from_of batch ≡ pos (from_offset (last_end (committed_ranges log)))
    pub offset : ℤ
    pub only : offsets_in group q batch ≡ offset ∷ []
    pub grows : from_of batch <ℤ offset
    pub transactional : batch.transactional ≡ true

  -- each batch with an offset is ended, or each but the last
  pub data State (log : List Entry) : Type 0 where
    quiet : AreEnded log (batches log) → State log
    one : (earlier : List Sequenced) (batch : Sequenced) → batches log ≡ earlier ++ batch ∷ []
        → AreEnded log earlier → Waits log batch → State log

  -- the commit markers stand in the order of their batches, and the ranges follow one another
  pub record Stands (log : List Entry) : Type 0 where
    pub same : committed log ≡ marked_batches group q log
    pub linked : AreLinked (pos 0) (committed_ranges log)
    pub state : State log

  pub none_stands : Stands []
  none_stands = record {
    same = refl;
    linked = tt;
    state = quiet (λ batch c. absurd (no_element batch c));
  }

  abbrev its_range : Sequenced → ℤ → Range
  its_range batch offset = record { from = from_of batch; end = offset }

  -- the range of a batch with one offset
  one_range : (batch : Sequenced) (offset : ℤ) → offsets_in group q batch ≡ offset ∷ []
      → ranges_in from_of group q batch
      ≡ its_range batch offset ∷ []
  one_range batch offset e =
      ap (map (its_range batch)) e

  -- a batch that waits comes behind those that are committed
  pub linked_with : (log : List Entry) (batch : Sequenced)
      → AreLinked (pos 0) (committed_ranges log) → Waits log batch
      → AreLinked (pos 0) (committed_ranges log ++ ranges_in from_of group q batch)
  linked_with log batch linked w =
      subst (λ l. AreLinked (pos 0) (committed_ranges log ++ l))
      (sym (one_range batch w.offset w.only))
      (linked_push (committed_ranges log) (its_range batch w.offset) linked
      w.from_is w.grows)

------ a log with a part more

module _ (from_of : Sequenced → ℤ) (group : List ℕ) (q : ℕ) (whole : List Entry)
    (each : Each Admits whole) (links : AreLinkedIn from_of whole group q) where
  is_transactional : (log rest : List Entry) → whole ≡ log ++ rest → (batch : Sequenced)
      → Contains (batches from_of group q log) batch → batch.transactional ≡ true
  is_transactional log rest parts batch c =
      let s = stands_in group q log batch c in
      (links s.before (s.behind ++ rest) batch
      (parts ∙ ap (λ l. l ++ rest) s.parts
      ∙ append_assoc s.before (Data batch ∷ s.behind) rest) s.has).transactional

  -- if none is pending, each is ended
  pub all_ended : (log rest : List Entry) → whole ≡ log ++ rest → is_pending log group q ≡ false
      → AreEnded log (batches from_of group q log)
  all_ended log rest parts pending batch c =
      by (list_any (is_marker_of batch.id) s.behind) refl
    where
      s : StandsIn group q log batch
      s = stands_in group q log batch c

      transactional : batch.transactional ≡ true
      transactional = is_transactional log rest parts batch c

      by : (marked : Bool) → list_any (is_marker_of batch.id) s.behind ≡ marked
          → IsEnded log batch
      by false e =
          let p : Placed Sequenced = record { offset = 0 + end s.before; item = batch } in
          let listed = subst (λ l. Contains (unclosed l) p) (sym s.parts)
          (standing_is_listed 0 s.before s.behind batch transactional e) in
          let none = not_pending log group q pending p listed in
          let has = s.has in
          absurd cc
      by true e =
          let f = first_marker batch.id s.behind e in
          let front : List Entry = s.before ++ Data batch ∷ f.between in
          let in_log : log ≡ front ++ Control f.marker ∷ f.after =
          s.parts ∙ ap (λ l. s.before ++ Data batch ∷ l) f.parts
          ∙ sym (append_assoc s.before (Data batch ∷ f.between) (Control f.marker ∷ f.after)) in
          let in_whole : whole ≡ front ++ Control f.marker ∷ (f.after ++ rest) =
          parts ∙ ap (λ l. l ++ rest) in_log
          ∙ append_assoc front (Control f.marker ∷ f.after) rest in
          record {
            marker = f.marker;
            there = subst (λ l. Contains l (Control f.marker)) (sym in_log)
                (in_the_middle front f.after (Control f.marker));
            its_id = f.its_id;
            raised = closes_its_own s.before f.between batch f.marker
                (each front (Control f.marker) (f.after ++ rest) in_whole) transactional
                f.unmarked f.its_id;
          }

  -- what is ended has the same outcome with more behind
  alike : (log more rest : List Entry) → whole ≡ (log ++ more) ++ rest → (batch : Sequenced)
      → IsEnded log batch
      → has_commit (log ++ more) batch.id batch.epoch ≡ has_commit log batch.id batch.epoch
  alike log more rest parts batch ended =
      sym (commit_kept whole (log ++ more) rest each parts batch
      (ended_later log more batch ended))
      ∙ commit_kept whole log (more ++ rest) each (parts ∙ append_assoc log more rest) batch ended

  -- behind a log in which each is ended, the committed offset stays until the next
  offset_stays : (log more rest : List Entry) → whole ≡ (log ++ more) ++ rest
      → AreEnded log (batches from_of group q log) → batches from_of group q more ≡ []
      → marked_offset (log ++ more) group q ≡ marked_offset log group q
  offset_stays log more rest parts ended none =
      let all : batches from_of group q (log ++ more) ≡ batches from_of group q log =
      flat_map-append (offset_batch group q) log more
      ∙ ap (λ l. batches from_of group q log ++ l) none
      ∙ append-nil (batches from_of group q log) in
      let later = λ (batch : Sequenced). has_commit (log ++ more) batch.id batch.epoch in
      let same : marked_batches group q (log ++ more) ≡ marked_batches group q log =
      ap (filter later) all
      ∙ filter_alike later (λ batch. has_commit log batch.id batch.epoch)
      (batches from_of group q log) (λ batch c. alike log more rest parts batch (ended batch c)) in
      offset_is_last_end from_of group q (log ++ more)
      ∙ ap (λ l. last_end (flat_map (ranges_in from_of group q) l)) same
      ∙ sym (offset_is_last_end from_of group q log)

  ------ one entry more

  module _ (log : List Entry) (entry : Entry) (rest : List Entry)
      (parts : whole ≡ log ++ entry ∷ rest) (stands : Stands from_of group q log) where
    may : Admits log entry
    may = each log entry rest parts

    abbrev longer : List Entry
    longer = log ++ entry ∷ []

    whole_is : whole ≡ longer ++ rest
    whole_is = parts ∙ sym (append_assoc log (entry ∷ []) rest)

    later_ended : (list : List Sequenced) → AreEnded log list → AreEnded longer list
    later_ended list ended batch c = ended_later log (entry ∷ []) batch (ended batch c)

    still_waits : (batch : Sequenced) → is_marker_of batch.id entry ≡ false
        → committed from_of group q longer ≡ committed from_of group q log
        → Waits from_of group q log batch → Waits from_of group q longer batch
    still_waits batch other same w = record {
      before = w.before;
      between = w.between ++ entry ∷ [];
      parts = ap (λ l. l ++ entry ∷ []) w.parts
          ∙ append_assoc w.before (Data batch ∷ w.between) (entry ∷ []);
      unmarked = list_any-append (is_marker_of batch.id) w.between (entry ∷ [])
          ∙ ap (λ b. b || (is_marker_of batch.id entry || false)) w.unmarked
          ∙ ap (λ b. b || false) other;
      no_commit = commit-push log entry batch.id batch.epoch
          (no_marker_no_commit batch.id batch.epoch entry other) ∙ w.no_commit;
      from_is = w.from_is
          ∙ ap (λ l. pos (from_offset (last_end (flat_map (ranges_in from_of group q) l))))
          (sym same);
      offset = w.offset;
      only = w.only;
      grows = w.grows;
      transactional = w.transactional;
    }

    -- an entry that is no such batch, and commits none
    module _ (none : offset_batch group q entry ≡ [])
        (commits_none : committed_by group q log entry ≡ [])
        (ends_none : (batch : Sequenced) → Contains (batches from_of group q log) batch
        → is_commit_of batch.id batch.epoch entry ≡ false) where
      same_batches : batches from_of group q longer ≡ batches from_of group q log
      same_batches =
          offset_batches-push group q log entry
          ∙ ap (λ l. batches from_of group q log ++ l) none
          ∙ append-nil (batches from_of group q log)

      same_committed : committed from_of group q longer ≡ committed from_of group q log
      same_committed =
          committed_after-push group q [] log entry
          ∙ ap (λ l. committed from_of group q log ++ l) commits_none
          ∙ append-nil (committed from_of group q log)

      same_marked : marked_batches group q longer ≡ marked_batches group q log
      same_marked =
          let later = λ (batch : Sequenced). has_commit longer batch.id batch.epoch in
          ap (filter later) same_batches
          ∙ filter_alike later (λ batch. has_commit log batch.id batch.epoch)
          (batches from_of group q log)
          (λ batch c. commit-push log entry batch.id batch.epoch (ends_none batch c))

      stands_with : State from_of group q longer → Stands from_of group q longer
      stands_with state = record {
        same = same_committed ∙ stands.same ∙ sym same_marked;
        linked = subst (λ l. AreLinked (pos 0) (flat_map (ranges_in from_of group q) l))
            (sym same_committed) stands.linked;
        state = state;
      }

      quiet_state : AreEnded log (batches from_of group q log) → State from_of group q longer
      quiet_state ended =
          quiet (subst (AreEnded longer) (sym same_batches)
          (later_ended (batches from_of group q log) ended))

      one_state : (earlier : List Sequenced) (batch : Sequenced)
          → batches from_of group q log ≡ earlier ++ batch ∷ [] → AreEnded log earlier
          → Waits from_of group q log batch → is_marker_of batch.id entry ≡ false
          → State from_of group q longer
      one_state earlier batch is ended w other =
          one earlier batch (same_batches ∙ is) (later_ended earlier ended)
          (still_waits batch other same_committed w)

      stays : ((id : ℕ) → is_marker_of id entry ≡ false) → Stands from_of group q longer
      stays other = by stands.state
        where
          by : State from_of group q log → Stands from_of group q longer
          by (quiet ended) = stands_with (quiet_state ended)
          by (one earlier batch is ended w) =
              stands_with (one_state earlier batch is ended w (other batch.id))

  ------ a batch comes

  module _ (log : List Entry) (d : Sequenced) (rest : List Entry)
      (parts : whole ≡ log ++ Data d ∷ rest) (stands : Stands from_of group q log) where
    abbrev with_batch : List Entry
    with_batch = log ++ Data d ∷ []

    -- no marker of its epoch came before
    none_before : has_commit log d.id d.epoch ≡ false
    none_before =
        false_from_ne_true (has_commit log d.id d.epoch)
        (λ e. let (entry, c, t) = any_holds (is_commit_of d.id d.epoch) log e in
        let k = commit_tells d.id d.epoch entry t in
        let low = batch_no_lower log d (Control k.marker) k.marker.epoch
        (each log (Data d) rest parts) (subst (Contains log) k.is c)
        (marker_epoch k.marker d.id k.its_id) in
        omega (arith, low, k.raised))

    none_yet : has_commit with_batch d.id d.epoch ≡ false
    none_yet = commit-push log (Data d) d.id d.epoch refl ∙ none_before

    batch_commits_none : committed from_of group q with_batch ≡ committed from_of group q log
    batch_commits_none =
        committed_after-push group q [] log (Data d) ∙ append-nil (committed from_of group q log)

    module _ (has : has_offset group q d ≡ true) where
      link : Link (from_of d) log group q d
      link = links log rest d parts has

      in_parts : whole ≡ (link.read ++ link.between) ++ Data d ∷ rest
      in_parts = parts ∙ ap (λ l. l ++ Data d ∷ rest) link.parts

      ended_in_read : AreEnded link.read (batches from_of group q link.read)
      ended_in_read =
          all_ended link.read (link.between ++ Data d ∷ rest)
          (in_parts ∙ append_assoc link.read link.between (Data d ∷ rest)) link.none_pending

      -- when it comes each is ended
      ended_when_it_comes : AreEnded log (batches from_of group q log)
      ended_when_it_comes =
          let same : batches from_of group q (link.read ++ link.between)
          ≡ batches from_of group q link.read =
          flat_map-append (offset_batch group q) link.read link.between
          ∙ ap (λ l. batches from_of group q link.read ++ l) link.none_between
          ∙ append-nil (batches from_of group q link.read) in
          subst (λ l. AreEnded l (batches from_of group q l)) (sym link.parts)
          (subst (AreEnded (link.read ++ link.between)) (sym same)
          (λ batch c. ended_later link.read link.between batch (ended_in_read batch c)))

      -- and the committed offset is the one that its transaction read from
      read_offset : marked_offset link.read group q
          ≡ last_end (committed_ranges from_of group q with_batch)
      read_offset =
          let of = λ (list : List Sequenced).
          last_end (flat_map (ranges_in from_of group q) list) in
          sym (offset_stays link.read link.between (Data d ∷ rest) in_parts ended_in_read
          link.none_between)
          ∙ ap (λ l. marked_offset l group q) (sym link.parts)
          ∙ offset_is_last_end from_of group q log ∙ ap of (sym stands.same)
          ∙ ap of (sym batch_commits_none)

      one_batch_more : batches from_of group q with_batch
          ≡ batches from_of group q log ++ d ∷ []
      one_batch_more =
          offset_batches-push group q log (Data d)
          ∙ ap (λ b. batches from_of group q log ++ cond b (d ∷ []) []) has

      as_many_marked : marked_batches group q with_batch ≡ marked_batches group q log
      as_many_marked =
          let later = λ (batch : Sequenced). has_commit with_batch batch.id batch.epoch in
          ap (filter later) one_batch_more
          ∙ filter-append later (batches from_of group q log) (d ∷ [])
          ∙ ap (λ b. filter later (batches from_of group q log) ++ cond b (d ∷ []) []) none_yet
          ∙ append-nil (filter later (batches from_of group q log))
          ∙ filter_alike later (λ batch. has_commit log batch.id batch.epoch)
          (batches from_of group q log)
          (λ batch c. commit-push log (Data d) batch.id batch.epoch refl)

      begins : Stands from_of group q with_batch
      begins = record {
        same = batch_commits_none ∙ stands.same ∙ sym as_many_marked;
        linked = subst (λ l. AreLinked (pos 0) (flat_map (ranges_in from_of group q) l))
            (sym batch_commits_none) stands.linked;
        state = one (batches from_of group q log) d one_batch_more
            (λ batch c. ended_later log (Data d ∷ []) batch (ended_when_it_comes batch c))
            (record {
              before = log;
              between = [];
              parts = refl;
              unmarked = refl;
              no_commit = none_yet;
              from_is = link.from_is ∙ ap (λ z. pos (from_offset z)) read_offset;
              offset = link.offset;
              only = link.only;
              grows = link.grows;
              transactional = link.transactional;
            });
      }

    batch_stands : Stands from_of group q with_batch
    batch_stands = by (has_offset group q d) refl
      where
        by : (has : Bool) → has_offset group q d ≡ has → Stands from_of group q with_batch
        by true e = begins e
        by false e =
            stays log (Data d) rest parts stands (ap (λ b. cond b (d ∷ []) []) e) refl
            (λ batch c. refl) (λ id. refl)

  ------ a marker comes

  module _ (log : List Entry) (m : Marker) (rest : List Entry)
      (parts : whole ≡ log ++ Control m ∷ rest) (stands : Stands from_of group q log) where
    abbrev with_marker : List Entry
    with_marker = log ++ Control m ∷ []

    admitted : Admits log (Control m)
    admitted = each log (Control m) rest parts

    abbrev commits_them : Bool → List Sequenced
    commits_them is = cond is (filter (is_ended_by m) (batches from_of group q log)) []

    commits_nothing : (is : Bool) → filter (is_ended_by m) (batches from_of group q log) ≡ []
        → commits_them is ≡ []
    commits_nothing true e = e
    commits_nothing false e = refl

    -- a marker that ends none of the batches
    module _ (ends_none : (batch : Sequenced) → Contains (batches from_of group q log) batch
        → is_ended_by m batch ≡ false) where
      none : commits_them (same_outcome m.outcome Commit) ≡ []
      none =
          commits_nothing (same_outcome m.outcome Commit)
          (filter_none (is_ended_by m) (batches from_of group q log) ends_none)

      no_commits : (batch : Sequenced) → Contains (batches from_of group q log) batch
          → is_commit_of batch.id batch.epoch (Control m) ≡ false
      no_commits batch c = uncommitted batch m (ends_none batch c)

      quiet_stays : AreEnded log (batches from_of group q log) → Stands from_of group q with_marker
      quiet_stays ended =
          stands_with log (Control m) rest parts stands refl none no_commits
          (quiet_state log (Control m) rest parts stands refl none no_commits ended)

      one_stays : (earlier : List Sequenced) (batch : Sequenced)
          → batches from_of group q log ≡ earlier ++ batch ∷ [] → AreEnded log earlier
          → Waits from_of group q log batch → (m.id == batch.id) ≡ false
          → Stands from_of group q with_marker
      one_stays earlier batch is ended w other =
          stands_with log (Control m) rest parts stands refl none no_commits
          (one_state log (Control m) rest parts stands refl none no_commits earlier batch is ended
          w other)

    -- a marker of the id of the batch that waits
    module _ (earlier : List Sequenced) (batch : Sequenced)
        (is : batches from_of group q log ≡ earlier ++ batch ∷ []) (ended : AreEnded log earlier)
        (w : Waits from_of group q log batch) (ids : m.id ≡ batch.id) where
      raises : m.epoch ≡ batch.epoch + 1
      raises =
          closes_its_own w.before w.between batch m
          (subst (λ l. Admits l (Control m)) w.parts admitted) w.transactional w.unmarked ids

      now_ended : IsEnded with_marker batch
      now_ended = record {
        marker = m;
        there = in_the_middle log [] (Control m);
        its_id = ids;
        raised = raises;
      }

      all_now_ended : AreEnded with_marker (batches from_of group q log)
      all_now_ended =
          subst (AreEnded with_marker) (sym is)
          (λ b c. ⊎_elim (λ c. ended_later log (Control m ∷ []) b (ended b c))
          (λ same. subst (IsEnded with_marker) same now_ended)
          (Contains-push_cases earlier batch b c))

      -- it aborts
      aborts : same_outcome m.outcome Commit ≡ false → Stands from_of group q with_marker
      aborts e =
          let none : commits_them (same_outcome m.outcome Commit) ≡ [] = ap commits_them e in
          let no_commits = λ (b : Sequenced) (c : Contains (batches from_of group q log) b).
          and_false (m.id == b.id && m.epoch == b.epoch + 1) (same_outcome m.outcome Commit) e in
          stands_with log (Control m) rest parts stands refl none no_commits
          (quiet (subst (AreEnded with_marker)
          (sym (same_batches log (Control m) rest parts stands refl none no_commits))
          all_now_ended))

      -- it commits
      module _ (commit : same_outcome m.outcome Commit ≡ true) where
        abbrev now : Sequenced → Bool
        now b = has_commit log b.id b.epoch

        abbrev later : Sequenced → Bool
        later b = has_commit with_marker b.id b.epoch

        is_its_own : is_ended_by m batch ≡ true
        is_its_own =
            let same : (batch.id == m.id) ≡ true = grind (arith, nat_tests, ids) in
            let above : (batch.epoch + 1 == m.epoch) ≡ true = grind (arith, nat_tests, raises) in
            and_from (batch.id == m.id) (batch.epoch + 1 == m.epoch) same above

        ends_it_alone : filter (is_ended_by m) (batches from_of group q log) ≡ batch ∷ []
        ends_it_alone =
            ap (filter (is_ended_by m)) is
            ∙ filter-append (is_ended_by m) earlier (batch ∷ [])
            ∙ ap (λ l. l ++ filter (is_ended_by m) (batch ∷ []))
            (filter_none (is_ended_by m) earlier
            (λ b c. ends_once log m b admitted (ended b c)))
            ∙ ap (λ b. cond b (batch ∷ []) []) is_its_own

        one_more_committed : committed from_of group q with_marker
            ≡ committed from_of group q log ++ batch ∷ []
        one_more_committed =
            committed_after-push group q [] log (Control m)
            ∙ ap (λ b. committed from_of group q log ++ commits_them b) commit
            ∙ ap (λ l. committed from_of group q log ++ l) ends_it_alone

        marked_before : marked_batches group q log ≡ filter now earlier
        marked_before =
            ap (filter now) is ∙ filter-append now earlier (batch ∷ [])
            ∙ ap (λ b. filter now earlier ++ cond b (batch ∷ []) []) w.no_commit
            ∙ append-nil (filter now earlier)

        it_commits : later batch ≡ true
        it_commits =
            any_keeps (is_commit_of batch.id batch.epoch) with_marker (Control m)
            (in_the_middle log [] (Control m)) (commit_is batch m ids raises commit)

        one_more_marked : marked_batches group q with_marker ≡ filter now earlier ++ batch ∷ []
        one_more_marked =
            ap (filter later) (offset_batches-push group q log (Control m)
            ∙ append-nil (batches from_of group q log) ∙ is)
            ∙ filter-append later earlier (batch ∷ [])
            ∙ ap (λ b. filter later earlier ++ cond b (batch ∷ []) []) it_commits
            ∙ ap (λ l. l ++ batch ∷ []) (filter_alike later now earlier
            (λ b c. alike log (Control m ∷ []) rest
            (parts ∙ sym (append_assoc log (Control m ∷ []) rest)) b (ended b c)))

        ranges_with : committed_ranges from_of group q with_marker
            ≡ committed_ranges from_of group q log ++ ranges_in from_of group q batch
        ranges_with =
            ap (flat_map (ranges_in from_of group q)) one_more_committed
            ∙ flat_map-append (ranges_in from_of group q) (committed from_of group q log)
            (batch ∷ [])
            ∙ ap (λ l. committed_ranges from_of group q log ++ l)
            (append-nil (ranges_in from_of group q batch))

        commits_it : Stands from_of group q with_marker
        commits_it = record {
          same = one_more_committed
              ∙ ap (λ l. l ++ batch ∷ []) (stands.same ∙ marked_before) ∙ sym one_more_marked;
          linked = subst (AreLinked (pos 0)) (sym ranges_with)
              (linked_with from_of group q log batch stands.linked w);
          state = quiet (subst (AreEnded with_marker)
              (sym (offset_batches-push group q log (Control m)
              ∙ append-nil (batches from_of group q log)))
              all_now_ended);
        }

      ends_the_waiting : Stands from_of group q with_marker
      ends_the_waiting = by (same_outcome m.outcome Commit) refl
        where
          by : (is : Bool) → same_outcome m.outcome Commit ≡ is
              → Stands from_of group q with_marker
          by true e = commits_it e
          by false e = aborts e

    ends_another : (batch : Sequenced) → (m.id == batch.id) ≡ false → is_ended_by m batch ≡ false
    ends_another batch e = grind (arith, nat_tests, e)

    marker_stands : Stands from_of group q with_marker
    marker_stands = by stands.state
      where
        at : (earlier : List Sequenced) (batch : Sequenced)
            → batches from_of group q log ≡ earlier ++ batch ∷ [] → AreEnded log earlier
            → Waits from_of group q log batch → (same : Bool) → (m.id == batch.id) ≡ same
            → Stands from_of group q with_marker
        at earlier batch is ended w true e =
            ends_the_waiting earlier batch is ended w (grind (arith, nat_tests, e))
        at earlier batch is ended w false e =
            one_stays (λ b c. ⊎_elim (λ c. ends_once log m b admitted (ended b c))
            (λ same. subst (λ x. is_ended_by m x ≡ false) same (ends_another batch e))
            (Contains-push_cases earlier batch b (subst (λ l. Contains l b) is c)))
            earlier batch is ended w e

        by : State from_of group q log → Stands from_of group q with_marker
        by (quiet ended) = quiet_stays (λ b c. ends_once log m b admitted (ended b c)) ended
        by (one earlier batch is ended w) = at earlier batch is ended w (m.id == batch.id) refl

  ------ the whole log

  next_stands : (log : List Entry) (entry : Entry) (rest : List Entry)
      → whole ≡ log ++ entry ∷ rest → Stands from_of group q log
      → Stands from_of group q (log ++ entry ∷ [])
  next_stands log (Plain records) rest parts stands =
      stays log (Plain records) rest parts stands refl refl (λ batch c. refl) (λ id. refl)
  next_stands log (Data d) rest parts stands = batch_stands log d rest parts stands
  next_stands log (Control m) rest parts stands = marker_stands log m rest parts stands

  goes_on : (log rest : List Entry) → whole ≡ log ++ rest → Stands from_of group q log
      → Stands from_of group q whole
  goes_on log [] parts stands =
      subst (Stands from_of group q) (sym (parts ∙ append-nil log)) stands
  goes_on log (entry ∷ rest) parts stands =
      goes_on (log ++ entry ∷ []) rest (parts ∙ sym (append_assoc log (entry ∷ []) rest))
      (next_stands log entry rest parts stands)

  pub whole_stands : Stands from_of group q whole
  whole_stands = goes_on [] whole refl (none_stands from_of group q)
