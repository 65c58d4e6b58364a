-- What the bytes of a node's trace tell, and the steps that it tells of.
use Rattle.std.specs.Prelude.{◌≡◌, ℕ, List, [], ◌∷◌, ◌++◌}
use Rattle.std.specs.List.{flat_map}
use Rattle.kx_audit.specs.Joined.{Passed}
use Rattle.kx_machine.specs.declared.input.Input.{Input}
use Rattle.kx_machine.specs.declared.input.Input.TheVariants.{Restart}
use Rattle.kx_message.specs.Fields.{frame_text}
use Rattle.kx_nodes.specs.declared.mark.Mark.{Mark}
use Rattle.kx_trace.specs.Layout.{record_text}
use Rattle.kx_trace.specs.Records as spelled
use Rattle.kx_trace_audit.specs.Logs.{HasFound}
use Rattle.kx_trace_audit.specs.declared.servers.TraceOf.{TraceOf}
use Rattle.kx_trace_files.specs.Beginning.{begun_text}

pub data Told : Type 0 where
  -- the node took the input, its store did this, and it sent what has these frames
  Answered : (input : Input) (mark : Mark) (frames : List ℕ) → Told
  -- it did not take the input
  Untaken : (input : Input) → Told
  -- the process ended before the step was answered
  Unanswered : (input : Input) → Told
  -- the node was opened again at this time, and found a log of this many bytes
  Reopened : (now log_len : ℕ) → Told

abbrev pub told_text : Told → List ℕ
told_text (Answered input mark frames) =
    record_text (spelled.Took input) ++ record_text (spelled.Answered mark frames)
told_text (Untaken input) = record_text (spelled.Took input) ++ record_text spelled.Untaken
told_text (Unanswered input) = record_text (spelled.Took input)
told_text (Reopened now log_len) = record_text (spelled.Reopened now log_len)

-- the input that it tells of; the end of a process is a restart
abbrev pub input_in : Told → Input
input_in (Answered input mark frames) = input
input_in (Untaken input) = input
input_in (Unanswered input) = input
input_in (Reopened now log_len) = Restart now

-- it tells of this step
abbrev pub IsStepOf : Told → Passed → Type 0
IsStepOf (Answered input mark frames) p =
    (p.step.input ≡ input) × (p.step.mark ≡ mark) × (flat_map frame_text p.taken.messages ≡ frames)
IsStepOf (Untaken input) p = ⊥
IsStepOf (Unanswered input) p = p.step.input ≡ input
-- the end of a process is a restart, which found that log
IsStepOf (Reopened now log_len) p = (p.step.input ≡ Restart now) × HasFound p.after log_len

-- what is told, one after the other, are these steps; an input that was not taken is none
pub data AreSteps : List Told → List Passed → Type 0 where
  NoneTold : AreSteps [] []
  OneMore : (told : List Told) (steps : List Passed) (x : Told) (p : Passed)
      → AreSteps told steps → IsStepOf x p → AreSteps (told ++ x ∷ []) (steps ++ p ∷ [])
  NotTaken : (told : List Told) (steps : List Passed) (input : Input)
      → AreSteps told steps → AreSteps (told ++ Untaken input ∷ []) steps

-- by what is told the bytes of this trace, after its head, tell of these steps; and the rest follow
-- what was read
pub record TellsOf (of : TraceOf) (text rest : List ℕ) (told : List Told) (steps : List Passed)
    : Type 0 where
  pub text_is : text ≡ begun_text of.node of.opened ++ flat_map told_text told ++ rest
  pub are : AreSteps told steps
