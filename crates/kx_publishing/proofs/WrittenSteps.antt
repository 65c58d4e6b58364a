-- A partition's node writes its log by `produce` and `marker` alone, whatever it is handed and
-- whatever its store does.
use Rattle.std.proofs.Common.{◌≡◌, ℕ, true, List, [], ◌∷◌, ◌++◌, Option}
use Rattle.std.proofs.Common.{Some, None, sym, subst, ◌==◌}
use Rattle.std.proofs.lemmas.Bool.{cond_both}
use Rattle.std.proofs.lemmas.List.Elements.{All-nil, All-weaker}
use Rattle.kx_message.specs.Ranges.{offsets_partition}
use Rattle.kx_message.specs.declared.message.Message.{Message}
use Rattle.kx_model.specs.Disk.{Store, reopening}
use Rattle.kx_model.specs.Groups.{judge_drop}
use Rattle.kx_model.specs.Client.{value_records}
use Rattle.kx_model.specs.Log.{Stored, entries}
use Rattle.kx_model.specs.PartitionNode.{Partition, changed, empty_partition, entries_of, marker_of}
use Rattle.kx_model.specs.PartitionNode.{node_takes, partition_restarts, puts}
use Rattle.kx_model.specs.Step.{Input, Comes, Commands, Expires, Reminds, Drops, Puts, Restarts}
use Rattle.kx_model.specs.Step.{partition_step, plain_text}
use Rattle.kx_headline.proofs.PartitionDoes as does
use Rattle.kx_headline.proofs.PartitionDoes.{behind, changed_does, made_without_producer}
use Rattle.kx_headline.proofs.PartitionDoes.{node_does, puts_does, restarts_does}
use Rattle.kx_headline.proofs.PartitionHolds.{text_next}
use Rattle.kx_published.specs.Written.{HasWritten, IsPaired, IsWritten, MarkerComesRight}
use Rattle.kx_published.specs.Written.{Unwritten, WithBatch, WithMarker}
use Rattle.kx_publishing.specs.Publishing.{comes_with}

pub written_empty : HasWritten empty_partition
written_empty = record {
  kept = Unwritten;
  hidden = λ stored e. absurd cc;
  paired = All-nil IsPaired;
}

module _ (number : ℕ) (p : Partition) (input : Option Message) (has : HasWritten p)
    (right : MarkerComesRight input) where
  may_written : (log : List Stored) (text : List ℕ) → IsWritten log
      → does.May number p input log text → IsWritten (log ++ behind log text ∷ [])
  may_written log text w (does.request r verified o j e) =
      WithBatch log verified r.text w (text_next (entries log) verified r.text r.target e)
  may_written log text w (does.marker txn held coordinator outcome i e) =
      WithMarker log (marker_of held coordinator outcome) w
      (right number txn held coordinator outcome i) e
  may_written log text w (does.plain text' n e) = WithBatch log true text' w e

  grew_written : (log : List Stored) → does.Grew number p input log → IsWritten log
  grew_written log does.unchanged = has.kept
  grew_written log (does.found stored e) = has.hidden stored e
  grew_written log (does.more earlier text g m) =
      may_written earlier text (grew_written earlier g) m

  hidden_written : (log : List Stored) (o : Option Stored) → IsWritten log
      → does.Hidden number p input log o → (stored : Stored) → o ≡ Some stored
      → IsWritten (log ++ stored ∷ [])
  hidden_written log o w (does.kept e) stored is =
      subst (λ (l : List Stored). IsWritten (l ++ stored ∷ [])) (sym e) (has.hidden stored is)
  hidden_written log o w (does.left text m) stored is =
      let same : behind log text ≡ stored = cc in
      subst (λ (s : Stored). IsWritten (log ++ s ∷ [])) same (may_written log text w m)
  hidden_written log o w does.gone stored is = absurd cc

  state_written : (q : Partition) → does.State number p input q → HasWritten q
  state_written q st =
      let w = grew_written q.disk.kept st.log in
      record {
        kept = w;
        hidden = hidden_written q.disk.kept q.disk.hidden w st.hidden;
        paired = All-weaker (does.Waits number p input) IsPaired (λ x waits. waits.paired) q.parked
            st.parked;
      }

no_marker : MarkerComesRight None
no_marker number txn held coordinator outcome e = absurd cc

-- of whatever the node is handed
pub step_written : (number : ℕ) (p : Partition) (store : Store) (input : Input) → HasWritten p
    → MarkerComesRight (comes_with input)
    → HasWritten (partition_step number p store input).state
step_written number p store (Comes m) has right =
    state_written number p (Some m) has right (node_takes number p store m).0
    (node_does number p store m has.paired).state
step_written number p store (Drops group member) has right =
    let after = changed p store (judge_drop (entries_of p) group member) in
    cond_both (number == offsets_partition) after.partition p HasWritten
    (λ e. state_written number p None has no_marker after.partition
    (changed_does number p None p store (judge_drop (entries_of p) group member)
    (does.was number p None has.paired)).state)
    (λ e. has)
step_written number p store (Puts value more) has right =
    let after = puts p store (plain_text (value ∷ more)) in
    cond_both (number == offsets_partition) p after.partition HasWritten
    (λ e. has)
    (λ e. state_written number p None has no_marker after.partition
    (puts_does number p None p store (plain_text (value ∷ more))
    (does.was number p None has.paired)
    (made_without_producer (value_records (value ∷ more)))).state)
step_written number p store (Restarts now) has right =
    state_written number p None has no_marker (partition_restarts p (reopening store))
    (restarts_does number p None (reopening store) (does.was number p None has.paired)).state
step_written number p store (Commands what) has right = has
step_written number p store (Expires now) has right = has
step_written number p store Reminds has right = has
