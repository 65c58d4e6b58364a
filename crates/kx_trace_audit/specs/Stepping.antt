-- One more step of a node, by what is left of its trace.
use Rattle.std.specs.Prelude.{◌≡◌, ◌≢◌, ◌≤◌, ◌⊎◌, ◌++◌, ℕ, All, List, [], ◌∷◌, length, slice_get}
use Rattle.std.specs.Prelude.{Bool, None, Option, Some, drop}
use Rattle.std.specs.List.{flat_map}
use Rattle.kx_audit.specs.Joined.{Passed}
use Rattle.kx_audit.specs.Making.{NodeMaking}
use Rattle.kx_follow.specs.Following.{Followed, Following, HasMade, MakesOneMore, makings_of}
use Rattle.kx_follow.specs.Following.{name_of, state_after}
use Rattle.kx_follow.specs.Pending.{IsUnsent}
use Rattle.kx_machine.specs.Meaning.{NodeState}
use Rattle.kx_machine.specs.declared.input.Input.{Input}
use Rattle.kx_machine.specs.declared.input.Input.TheVariants.{Restart}
use Rattle.kx_machine.specs.declared.machine.StoreMode.{StoreMode}
use Rattle.kx_machine.specs.declared.taken.Taken.{Taken}
use Rattle.kx_message.specs.Fields.{frame_text}
use Rattle.kx_message.specs.Sizes.{FitsFrame}
use Rattle.kx_nodes.specs.Replay.{mark_of}
use Rattle.kx_nodes.specs.declared.mark.Mark.{Mark}
use Rattle.kx_trace_audit.specs.Items.{BeginsTold, IsNoTrace, NeedsItem}
use Rattle.kx_trace_audit.specs.Logs.{HasFound, log_size}
use Rattle.kx_trace_audit.specs.Lookahead.{IsDecided, mode_for}
use Rattle.kx_trace_audit.specs.Told.{Answered, IsStepOf, Reopened, Told, Untaken, input_in}
use Rattle.kx_trace_audit.specs.declared.ending.Ending.{Ending}
use Rattle.kx_trace_audit.specs.declared.progress.Progress.{Progress}
use Rattle.kx_trace_audit.specs.declared.progress.Progress.TheVariants as progress
use Rattle.kx_trace_audit.specs.declared.refusal.TraceRefusal.{TraceRefusal}
use Rattle.kx_trace_audit.specs.declared.refusal.TraceRefusal.TheVariants as refusal

-- the node's answer isn't the one that is told: its mark, or the frames of what it sends
abbrev pub Differs : TraceRefusal → Taken → Mark → List ℕ → Type 0
Differs refusal.Store taken mark frames = mark_of taken ≢ mark
Differs refusal.Answer taken mark frames =
    (All FitsFrame taken.messages → ⊥) ⊎ (flat_map frame_text taken.messages ≢ frames)
Differs refusal.Memory taken mark frames = Unit {0}
Differs other taken mark frames = ⊥

pub record IsUntaken (told : Told) : Type 0 where
  pub input : Input
  pub told_is : told ≡ Untaken input

-- why a node makes no step now: there is no such node, or it would have to take a message that was
-- not sent, or was taken as often
abbrev pub Waits : {B M : Type 0} → ℕ → Told → List Passed → Following B M → Type 0
Waits number told history f = (length f.nodes ≤ number) ⊎ IsUnsent history (input_in told)

-- how many bytes are done with, if what is told has this many
abbrev pub used_by : Progress → ℕ → ℕ
used_by (progress.Made sent) len = len
used_by progress.NotTaken len = len
used_by progress.Waits len = 0
used_by progress.NeedsMore len = 0

module _ {B M : Type 0} (making : B → NodeMaking) (stands : NodeState → M → Type 0)
    (starts : List NodeState) where
  -- the node of this number makes one more step, of which this tells, and sends this many messages
  pub record MakesTold (number : ℕ) (told : Told) (sent : ℕ) (history : List Passed)
      (old new : Following B M) : Type 0 where
    pub node : Followed B M
    pub there : slice_get old.nodes number ≡ Some node
    pub passed : Passed
    pub name_is : passed.node ≡ name_of making node
    pub is : IsStepOf told passed
    pub sent_is : sent ≡ length passed.taken.messages
    pub makings : makings_of new.nodes ≡ makings_of old.nodes
    pub made : HasMade making stands starts (history ++ passed ∷ []) new

  -- what became of what is told
  abbrev pub Becomes : ℕ → Told → List Passed → Following B M → Following B M → Progress → Type 0
  Becomes number told history old new (progress.Made sent) =
      MakesTold number told sent history old new
  Becomes number told history old new progress.NotTaken = IsUntaken told × (new ≡ old)
  Becomes number told history old new progress.Waits = Waits number told history old × (new ≡ old)
  Becomes number told history old new progress.NeedsMore = ⊥

  -- the node answers the input that is told, with a store that does so, but otherwise
  pub record AnswersElse (why : TraceRefusal) (number : ℕ) (told : Told) (mode : StoreMode)
      (history : List Passed) (old new : Following B M) : Type 0 where
    pub input : Input
    pub mark : Mark
    pub frames : List ℕ
    pub told_is : told ≡ Answered input mark frames
    pub taken : Taken
    pub makes : MakesOneMore making stands starts number input mode taken history old new
    pub differs : Differs why taken mark frames

  -- the restart that is told finds another log
  pub record FindsElse (number : ℕ) (told : Told) (mode : StoreMode) (history : List Passed)
      (old new : Following B M) : Type 0 where
    pub now : ℕ
    pub log_len : ℕ
    pub told_is : told ≡ Reopened now log_len
    pub taken : Taken
    pub makes : MakesOneMore making stands starts number (Restart now) mode taken history old new
    pub other : HasFound makes.passed.after log_len → ⊥

  -- why what is told is refused, if the store does so
  abbrev pub Refuses : ℕ → Told → StoreMode → List Passed → Following B M → Following B M
      → TraceRefusal → Type 0
  Refuses number told mode history old new refusal.Store =
      AnswersElse refusal.Store number told mode history old new
  Refuses number told mode history old new refusal.Answer =
      AnswersElse refusal.Answer number told mode history old new
  Refuses number told mode history old new refusal.Found =
      FindsElse number told mode history old new
  Refuses number told mode history old new refusal.Memory = Unit {0}
  Refuses number told mode history old new other = ⊥

  ------ by the bytes of a trace

  -- these bytes after it, and the log that the node has before it, decide so what is told leaves open
  abbrev pub IsDecidedAt : ℕ → Told → Ending → List ℕ → List Passed → Following B M → Option Bool
      → Type 0
  IsDecidedAt number told end rest history f stood = (n : Followed B M) (start : NodeState)
      → slice_get f.nodes number ≡ Some n → slice_get starts number ≡ Some start
      → IsDecided told (log_size (state_after making start history n)) end rest stood

  -- the bytes begin with what is told, which becomes this, and are used as far as it is done with
  pub record Reads (number : ℕ) (bytes : List ℕ) (history : List Passed) (old new : Following B M)
      (became : Progress) (used : ℕ) : Type 0 where
    pub told : Told
    pub len : ℕ
    pub begins : BeginsTold bytes told len
    pub becomes : Becomes number told history old new became
    pub used_is : used ≡ used_by became len

  -- why more bytes are needed: they don't say what the next input came to, or they don't tell yet
  -- whether an entry stood
  pub data NeedsMore (number : ℕ) (bytes : List ℕ) (end : Ending) (history : List Passed)
      (f : Following B M) : Type 0 where
    NoItem : NeedsItem bytes end → NeedsMore number bytes end history f
    NotDecided : (told : Told) (len : ℕ) → BeginsTold bytes told len
        → IsDecidedAt number told end (drop len bytes) history f None
        → NeedsMore number bytes end history f

  abbrev pub HasStepped : ℕ → List ℕ → Ending → List Passed → Following B M → Following B M
      → Progress → ℕ → Type 0
  HasStepped number bytes end history old new progress.NeedsMore used =
      NeedsMore number bytes end history old × (new ≡ old) × (used ≡ 0)
  HasStepped number bytes end history old new (progress.Made sent) used =
      Reads number bytes history old new (progress.Made sent) used
  HasStepped number bytes end history old new progress.NotTaken used =
      Reads number bytes history old new progress.NotTaken used
  HasStepped number bytes end history old new progress.Waits used =
      Reads number bytes history old new progress.Waits used

  -- the bytes begin with what is refused, while the store does what is told and what follows decides
  pub record RefusesTold (number : ℕ) (bytes : List ℕ) (end : Ending) (history : List Passed)
      (old new : Following B M) (why : TraceRefusal) : Type 0 where
    pub told : Told
    pub len : ℕ
    pub begins : BeginsTold bytes told len
    pub stood : Bool
    pub decided : IsDecidedAt number told end (drop len bytes) history old (Some stood)
    pub refuses : Refuses number told (mode_for told stood) history old new why

  abbrev pub HasRefused : ℕ → List ℕ → Ending → List Passed → Following B M → Following B M
      → TraceRefusal → Type 0
  HasRefused number bytes end history old new refusal.Bytes = IsNoTrace bytes
  HasRefused number bytes end history old new refusal.Memory = Unit {0}
  HasRefused number bytes end history old new why =
      RefusesTold number bytes end history old new why
