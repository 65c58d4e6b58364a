-- The theorems that rest on the coordinator's log and on what partitions have their messages for:
-- markers agree, readers get what is visible, a batch stands at most once, nothing fenced commits,
-- offsets follow decisions, and open transactions are owed their markers. They hold over every open
-- schedule, and so over every schedule.
use Rattle.std.proofs.Common.{ℕ, List, Option, Some, None, Contains, refl, subst}
use Rattle.std.proofs.Common.{IfSome, ⊎_elim}
use Rattle.kx_model.specs.Headline.{Always, FetchedGivesVisible, GetsExactlyVisible}
use Rattle.kx_model.specs.Headline.{HasOneOutcome, MarkersAgree, NothingCommits}
use Rattle.kx_model.specs.Headline.{OffsetsWithTheirTransaction, OpenIsOwed}
use Rattle.kx_model.specs.Log.{Control, Stored, entries, entry_of}
use Rattle.kx_message.specs.declared.code.ErrorCode.TheVariants.{NoError}
use Rattle.kx_message.specs.Messages as the
use Rattle.kx_model.proofs.Logs.{entries-push}
use Rattle.std.proofs.lemmas.List.Elements.{All-contains, Contains-push_cases}
use Rattle.kx_model.specs.PartitionNode.{Partition}
use Rattle.kx_model.specs.World.{World, log_at, log_in, partition_at, start}
use Rattle.kx_model.specs.Open.{AlwaysOpen, open_run}
use Rattle.kx_model.specs.OpenHeadline.{FencedNeverCommit, OffsetsFollow, OpenAreOwed}
use Rattle.kx_model.specs.OpenHeadline.{ReadersGetVisible, StandsAtMostOnce}
use Rattle.kx_model.proofs.Schedules.{closed_from_open}
use Rattle.kx_headline.proofs.PartitionsAlways.{PartitionsStand, Promised, partitions_stand_open}
use Rattle.kx_headline.proofs.Fencing.{fenced_never, no_commit_marker}
use Rattle.kx_headline.proofs.NothingShown.{not_shown}
use Rattle.kx_laws.specs.Grown.{IsGrown}
use Rattle.kx_laws.proofs.Sequences.{grown_ordered}
use Rattle.kx_headline.proofs.WorldReaders.{fetch_gives_visible, gives_visible, grown_at}
use Rattle.kx_headline.proofs.LogCauses.{MarkerCause, marker_came}
use Rattle.kx_headline.proofs.MarkersFit.{markers_fit}
use Rattle.kx_laws.proofs.Membership.{no_element}
use Rattle.kx_headline.proofs.PartitionDoes.{behind}
use Rattle.kx_headline.proofs.OffsetsFollow.{follows_decisions}
use Rattle.kx_headline.proofs.OneOutcome.{AreAsked, IsAsked, has_one_outcome}
use Rattle.kx_headline.proofs.OpenOwed.{AnsweredReached, open_owed}
use Rattle.kx_headline.proofs.PartitionHolds.{Built, MarkersFit, PartitionHolds}
use Rattle.kx_headline.proofs.PartitionHolds

module _ (w : World) (h : PartitionsStand w) where
  log_built : (p : ℕ) → Built w.sent p (log_at w p)
  log_built p = by (partition_at w p) (h.holds p)
    where
      by : (o : Option Partition) → IfSome o (PartitionHolds w.sent p)
          → Built w.sent p (log_in o)
      by None holds = PartitionHolds.start
      by (Some q) holds = holds.log

  are_asked : AreAsked w
  are_asked p m c = by (log_at w p) (log_built p) c
    where
      fit : MarkersFit w.sent
      fit = markers_fit w h.coordinator

      by : (log : List Stored) → Built w.sent p log → Contains (entries log) (Control m)
          → IsAsked w m
      by log PartitionHolds.start c = absurd (no_element (Control m) c)
      by log (PartitionHolds.next earlier text b why) c =
          let s = behind earlier text in
          ⊎_elim (by earlier b)
          (λ e. came (marker_came w.sent p fit earlier s m
          (record { text = text; is = refl; why = why }) e))
          (Contains-push_cases (entries earlier) (entry_of s) (Control m)
          (subst (λ l. Contains l (Control m)) (entries-push earlier s (entry_of s) refl) c))
        where
          came : MarkerCause w.sent p earlier m → IsAsked w m
          came a = record {
            partition = p;
            txn = a.txn;
            asked = subst (λ k. Contains w.sent (the.WriteMarker p a.txn
                (record { id = k.id; epoch = k.epoch }) k.coordinator k.outcome)) a.is a.handed;
          }

  pub one_outcome : HasOneOutcome w
  one_outcome = has_one_outcome w h.coordinator are_asked

  -- an answered marker has brought its id to its epoch
  answered_reached : AnsweredReached w
  answered_reached p txn held there =
      All-contains (Promised w) w.sent (the.MarkerReply p txn held NoError) h.promised there

------ over every open schedule

-- what holds if partitions stand always holds
always_where_they_stand : (Fact : World → Type 0) → ((w : World) → PartitionsStand w → Fact w)
    → AlwaysOpen Fact
always_where_they_stand Fact holds count events fits =
    holds (open_run events (start count)) (partitions_stand_open count events fits)

pub markers_agree_open : AlwaysOpen HasOneOutcome
markers_agree_open = always_where_they_stand HasOneOutcome one_outcome

pub readers_get : (w : World) → PartitionsStand w → ReadersGetVisible w
readers_get w h =
    let fit = markers_fit w h.coordinator in
    record {
      pages = λ q from room within. gives_visible w h.holds fit (one_outcome w h) q from room;
      fetches = λ q room from got e.
          fetch_gives_visible w h.holds fit (one_outcome w h) q room from got e;
    }

pub readers_get_open : AlwaysOpen ReadersGetVisible
readers_get_open = always_where_they_stand ReadersGetVisible readers_get

pub at_most_once : (w : World) → PartitionsStand w → StandsAtMostOnce w
at_most_once w h q batch =
    (grown_ordered (log_at w q) (grown_at w q h.holds (markers_fit w h.coordinator))).once batch

pub at_most_once_open : AlwaysOpen StandsAtMostOnce
at_most_once_open = always_where_they_stand StandsAtMostOnce at_most_once

pub fenced_commit_never : (w : World) → PartitionsStand w → FencedNeverCommit w
fenced_commit_never w h id epoch fenced =
    let un = fenced_never h.coordinator.coordinator.history id epoch fenced in
    record {
      undecided = un;
      no_marker = no_commit_marker w (one_outcome w h) id epoch un;
      not_shown = not_shown w h.holds (markers_fit w h.coordinator) (one_outcome w h) id epoch un;
    }

pub nothing_commits_open : AlwaysOpen FencedNeverCommit
nothing_commits_open = always_where_they_stand FencedNeverCommit fenced_commit_never

pub offsets_do_follow : (w : World) → PartitionsStand w → OffsetsFollow w
offsets_do_follow w h = follows_decisions w (one_outcome w h)

pub offsets_follow_open : AlwaysOpen OffsetsFollow
offsets_follow_open = always_where_they_stand OffsetsFollow offsets_do_follow

pub open_owed_at : (w : World) → PartitionsStand w → OpenAreOwed w
open_owed_at w h p = open_owed w h.coordinator (answered_reached w h) p (log_built w h p)

pub open_is_owed_open : AlwaysOpen OpenAreOwed
open_is_owed_open = always_where_they_stand OpenAreOwed open_owed_at

-- each partition's log is grown
abbrev pub LogsAreGrown : World → Type 0
LogsAreGrown w = (partition : ℕ) → IsGrown (log_at w partition)

pub logs_grow_open : AlwaysOpen LogsAreGrown
logs_grow_open = always_where_they_stand LogsAreGrown
    (λ w h q. grown_at w q h.holds (markers_fit w h.coordinator))

------ over every schedule, which is an open one

pub markers_agree : MarkersAgree
markers_agree = closed_from_open HasOneOutcome markers_agree_open

pub readers_get_what_is_visible : GetsExactlyVisible
readers_get_what_is_visible count events fits =
    (closed_from_open ReadersGetVisible readers_get_open count events fits).pages

pub fetches_get_what_is_visible : FetchedGivesVisible
fetches_get_what_is_visible count events fits =
    (closed_from_open ReadersGetVisible readers_get_open count events fits).fetches

pub nothing_commits : NothingCommits
nothing_commits = closed_from_open FencedNeverCommit nothing_commits_open

pub offsets_with_their_transaction : OffsetsWithTheirTransaction
offsets_with_their_transaction = closed_from_open OffsetsFollow offsets_follow_open

pub open_is_owed : OpenIsOwed
open_is_owed = closed_from_open OpenAreOwed open_is_owed_open

pub logs_grow : Always LogsAreGrown
logs_grow = closed_from_open LogsAreGrown logs_grow_open
