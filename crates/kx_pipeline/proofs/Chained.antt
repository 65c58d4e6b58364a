-- The chain of a group and input partition, if each batch with an offset rests on the part of
-- the offsets partition's log that its transaction had read: over every schedule.
use Rattle.std.proofs.Common.{◌≡◌, ℕ, Bool, true, false, not, ◌&&◌, cond, List, [], ◌∷◌, ◌++◌}
use Rattle.std.proofs.Common.{Some, filter, flat_map, pos, refl, sym, ap, ◌∙◌, subst, arith}
use Rattle.std.proofs.Common.{append-nil, ℤ}
use Rattle.std.specs.Option.{option_map_or}
use Rattle.std.proofs.lemmas.List.Elements.{filter-append}
use Rattle.kx_message.specs.Ranges.{offsets_partition}
use Rattle.kx_message.specs.declared.code.ErrorCode.TheVariants.{NoError}
use Rattle.kx_message.specs.declared.outcome.Outcome.{Outcome}
use Rattle.kx_message.specs.declared.outcome.Outcome.TheVariants.{Abort, Commit}
use Rattle.kx_model.specs.Coordinator.{commits, decision, same_outcome}
use Rattle.kx_model.specs.Groups.{OffsetAnswer, is_pending}
use Rattle.kx_model.specs.Headline.{HasOneOutcome}
use Rattle.kx_model.specs.Log.{Entry, Control, Sequenced}
use Rattle.kx_model.specs.Transactions.{has_commit, is_commit_of}
use Rattle.kx_model.specs.World.{Event, IsSchedule, World, entries_at, log_at, notes, run, start}
use Rattle.kx_laws.specs.Grown.{IsGrown}
use Rattle.kx_laws.proofs.GrownLogs.{each_admitted}
use Rattle.kx_laws.proofs.Membership.{any_keeps}
use Rattle.kx_headline.proofs.OverSchedules.{logs_grow, markers_agree}
use Rattle.kx_pipeline.specs.Chain.{AreLinked, IsChained, awaiting, chain, last_end, marked_ranges}
use Rattle.kx_pipeline.specs.Chain.{offset_batches, ranges_of, read_from}
use Rattle.kx_pipeline.proofs.ChainHolds.{Stands, State, Waits, all_ended, batches}
use Rattle.kx_pipeline.proofs.ChainHolds.{committed_ranges}
use Rattle.kx_pipeline.proofs.ChainHolds.{linked_with, whole_stands}
use Rattle.kx_pipeline.proofs.ChainHolds
use Rattle.kx_pipeline.proofs.ChainOrder.{AreEnded, IsEnded, commit_is, filter_none}
use Rattle.kx_pipeline.proofs.LinkedLogs.{AreLinkedIn}
use Rattle.kx_pipeline.proofs.LinkedRanges.{offset_is_last_end, ranges_in}

and_none : (b : Bool) → (b && false) ≡ false
and_none true = refl
and_none false = refl

module _ (w : World) (one_outcome : HasOneOutcome w) (group : List ℕ) (q : ℕ) where
  abbrev log : List Entry
  log = entries_at w offsets_partition

  abbrev from_of : Sequenced → ℤ
  from_of = read_from w.sent group

  -- decided to commit, and without its marker
  abbrev awaits : Sequenced → Bool
  awaits batch =
      commits (notes w) batch.id batch.epoch && not (has_commit log batch.id batch.epoch)

  -- the marker that ends a batch has the outcome that was decided
  ended_decided : (batch : Sequenced) (ended : IsEnded log batch)
      → decision (notes w) batch.id batch.epoch ≡ Some ended.marker.outcome
  ended_decided batch ended =
      let (epoch, is, decided) = one_outcome.decided offsets_partition ended.marker ended.there in
      let same : batch.epoch ≡ epoch = omega (arith, is, ended.raised) in
      ap (decision (notes w) batch.id) same
      ∙ ap (λ id. decision (notes w) id epoch) (sym ended.its_id) ∙ decided

  ended_awaits_none : (batch : Sequenced) → IsEnded log batch → awaits batch ≡ false
  ended_awaits_none batch ended = by ended.marker.outcome refl
    where
      by : (o : Outcome) → ended.marker.outcome ≡ o → awaits batch ≡ false
      by Abort e =
          ap (λ d. option_map_or (same_outcome Commit) d false
          && not (has_commit log batch.id batch.epoch))
          (ended_decided batch ended ∙ ap Some e)
      by Commit e =
          let there = any_keeps (is_commit_of batch.id batch.epoch) log (Control ended.marker)
          ended.there (commit_is batch ended.marker ended.its_id ended.raised
          (ap (λ o. same_outcome o Commit) e)) in
          ap (λ b. commits (notes w) batch.id batch.epoch && not b) there
          ∙ and_none (commits (notes w) batch.id batch.epoch)

  none_awaits : (list : List Sequenced) → AreEnded log list → filter awaits list ≡ []
  none_awaits list ended =
      filter_none awaits list (λ batch c. ended_awaits_none batch (ended batch c))

  -- at most one is decided to commit and without its marker, and it comes last
  module _ (stands : Stands from_of group q log) where
    abbrev with_awaiting : List Sequenced → Type 0
    with_awaiting list =
        AreLinked (pos 0)
        (committed_ranges from_of group q log ++ flat_map (ranges_in from_of group q) list)

    alone : (batch : Sequenced) → Waits from_of group q log batch → (awaited : Bool)
        → with_awaiting (cond awaited (batch ∷ []) [])
    alone batch waits true =
        subst (λ l. AreLinked (pos 0) (committed_ranges from_of group q log ++ l))
        (sym (append-nil (ranges_in from_of group q batch)))
        (linked_with from_of group q log batch stands.linked waits)
    alone batch waits false =
        subst (AreLinked (pos 0)) (sym (append-nil (committed_ranges from_of group q log)))
        stands.linked

    all_linked : with_awaiting (awaiting (commits (notes w)) group q log)
    all_linked = by stands.state
      where
        by : State from_of group q log → with_awaiting (filter awaits (batches from_of group q log))
        by (ChainHolds.quiet ended) =
            subst with_awaiting (sym (none_awaits (batches from_of group q log) ended))
            (subst (AreLinked (pos 0)) (sym (append-nil (committed_ranges from_of group q log)))
            stands.linked)
        by (ChainHolds.one earlier batch is ended waits) =
            let same : filter awaits (batches from_of group q log)
            ≡ cond (awaits batch) (batch ∷ []) [] =
            ap (filter awaits) is ∙ filter-append awaits earlier (batch ∷ [])
            ∙ ap (λ l. l ++ filter awaits (batch ∷ [])) (none_awaits earlier ended) in
            subst with_awaiting (sym same) (alone batch waits (awaits batch))

  abbrev good : ℤ → OffsetAnswer
  good offset = record { code = NoError; offset = offset }

  -- where each batch is ended none waits for its marker
  all_marked : AreEnded log (offset_batches group q log)
      → chain w group q ≡ marked_ranges w group q
  all_marked ended =
      ap (λ list. marked_ranges w group q ++ flat_map (ranges_of w.sent group q) list)
      (none_awaits (offset_batches group q log) ended)
      ∙ append-nil (marked_ranges w group q)

  stands_chained : Stands from_of group q log
      → (is_pending log group q ≡ false → AreEnded log (offset_batches group q log))
      → IsChained w group q
  stands_chained stands settles =
      let committed = ap good (offset_is_last_end from_of group q log
      ∙ ap (λ l. last_end (flat_map (ranges_in from_of group q) l)) (sym stands.same)) in
      record {
        linked = all_linked stands;
        committed = committed;
        settled = λ none.
            committed ∙ ap (λ l. good (last_end l)) (sym (all_marked (settles none)));
      }

-- the ranges of a world with such a log follow one another
pub linked_chained : (w : World) → HasOneOutcome w → IsGrown (log_at w offsets_partition)
    → (group : List ℕ) (q : ℕ)
    → AreLinkedIn (read_from w.sent group) (entries_at w offsets_partition) group q
    → IsChained w group q
linked_chained w one_outcome grown group q links =
    let from = read_from w.sent group in
    let log = entries_at w offsets_partition in
    let each = each_admitted (log_at w offsets_partition) grown in
    stands_chained w one_outcome group q (whole_stands from group q log each links)
    (all_ended from group q log each links log [] (sym (append-nil log)))

-- over every schedule
pub chained : (count : ℕ) (events : List Event) → IsSchedule events → (group : List ℕ) (q : ℕ)
    → AreLinkedIn (read_from (run events (start count)).sent group)
    (entries_at (run events (start count)) offsets_partition) group q
    → IsChained (run events (start count)) group q
chained count events fits group q links =
    linked_chained (run events (start count)) (markers_agree count events fits)
    (logs_grow count events fits offsets_partition) group q links
