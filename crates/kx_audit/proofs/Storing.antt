-- A step that is run again: its store is the one that the steps after it tell.
use Rattle.std.proofs.Common.{◌≡◌, ◌∙◌, ◌++◌, ℕ, Bool, true, false, List, [], ◌∷◌, Option, refl}
use Rattle.std.proofs.Common.{sym, ap, subst, le_refl}
use Rattle.std.specs.Prelude.{if◌then◌else◌}
use Rattle.std.proofs.lemmas.List.{append_assoc}
use Rattle.kx_audit.specs.Joined.{Passed, led_to, steps_in}
use Rattle.kx_audit.specs.Rerun.{RunsAgain, TakesAgain}
use Rattle.kx_batch.specs.Batch.{batch_limit}
use Rattle.kx_machine.specs.Meaning.{NodeState, AtCoordinator, AtPartition, AtClient, AtProcessor}
use Rattle.kx_machine.specs.Meaning.{input_of, node_step, taken_of}
use Rattle.kx_machine.specs.Stores.{FailsWith, IsMode}
use Rattle.kx_machine.specs.declared.taken.Taken.{Taken}
use Rattle.kx_model.specs.Disk.{Store, Works, Fails, CannotLoad}
use Rattle.kx_model.specs.Step.{Input, NodeStep}
use Rattle.kx_nodes.specs.Again.{AsTold, KeepsNone, MayMeet, keeps_log, leaves_whole, mode_by}
use Rattle.kx_nodes.specs.Again.{mode_for, store_by, store_for}
use Rattle.kx_nodes.specs.declared.mark.Mark.{Mark}
use Rattle.kx_nodes.specs.declared.mark.Mark.TheVariants as mark
use Rattle.kx_nodes.specs.declared.trace.Step.{Step}
use Rattle.kx_audit.proofs.Ways.{steps_push}

------ one more step

pub again_push : (rest : List Step) (before : NodeState) (way : List Passed) (p : Passed)
    → RunsAgain (p.step ∷ rest) before way
    → TakesAgain (led_to before way) rest p.step p.taken p.after
    → RunsAgain rest before (way ++ p ∷ [])
again_push rest before [] p all is = (is, tt)
again_push rest before (q ∷ way) p all is = (
  subst (λ (l : List Step). TakesAgain before l q.step q.taken q.after)
      (sym (ap (λ (l : List Step). l ++ rest) (steps_push way p)
      ∙ append_assoc (steps_in way) (p.step ∷ []) rest)) all.0,
  again_push rest q.after way p all.1 is,
)

------ the store

fails_store : (whole : Bool) (size : Option ℕ) (store : Store)
    → FailsWith (if whole then batch_limit else 0) size store → store ≡ Fails whole
fails_store whole size Works is = absurd is
fails_store whole size CannotLoad is = absurd is
fails_store true size (Fails kept) is = ap Fails (is.1 (le_refl batch_limit))
fails_store false size (Fails kept) is = ap Fails (is.0 refl)

-- a mode by marks allows only the store that they tell
mode_store : (m : Mark) (whole : Bool) (size : Option ℕ) (store : Store)
    → IsMode (mode_by m whole) size store → store ≡ store_by m whole
mode_store mark.Unread whole size store is = is
mode_store mark.Failed whole size store is = fails_store whole size store is
mode_store (mark.Unwritten found) whole size store is = fails_store whole size store is
mode_store mark.Worked whole size store is = is
mode_store mark.Found whole size store is = is
mode_store mark.UsedUp whole size store is = is

-- a node that keeps no log does the same with any store
step_free : (node : NodeState) (store other : Store) (input : Input) → keeps_log node ≡ false
    → node_step node store input ≡ node_step node other input
step_free (AtCoordinator co) store other input none = cc
step_free (AtPartition number p) store other input none = cc
step_free (AtClient c) store other input none = refl
step_free (AtProcessor p) store other input none = refl

step_told : (node : NodeState) (behind : List Step) (step : Step) (store : Store)
    → MayMeet node (mode_for step behind) store
    → node_step node store (input_of step.input)
    ≡ node_step node (store_for step behind) (input_of step.input)
step_told node behind step store (AsTold size is) =
    ap (λ (s : Store). node_step node s (input_of step.input))
    (mode_store step.mark (leaves_whole behind) size store is)
step_told node behind step store (KeepsNone none) =
    step_free node store (store_for step behind) (input_of step.input) none

pub told_store : (node : NodeState) (behind : List Step) (step : Step) (taken : Taken)
    (store : Store) → MayMeet node (mode_for step behind) store
    → taken ≡ taken_of node (input_of step.input) (node_step node store (input_of step.input))
    → TakesAgain node behind step taken (node_step node store (input_of step.input)).state
told_store node behind step taken store meets answer =
    let same = step_told node behind step store meets in
    record {
      after_is = ap (λ (s : NodeStep NodeState). s.state) same;
      messages_are = ap (λ (t : Taken). t.messages) answer
          ∙ ap (λ (s : NodeStep NodeState). s.messages) same;
    }
