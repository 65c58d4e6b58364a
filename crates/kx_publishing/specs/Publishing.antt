-- A node whose log may be published.
use Rattle.std.specs.Prelude.{◌≡◌, ◌⊎◌, ℕ, Bool, true, false, List, [], ◌∷◌, ◌++◌, MatchResult}
use Rattle.std.specs.Prelude.{Option, Some, None, Result, option_map}
use mathlib.Core.List.{IsPrefix}
use Rattle.kx_machine.specs.Logs.{batches_of}
use Rattle.kx_machine.specs.Meaning.{IsTaken, NodeState, AtCoordinator, AtPartition, AtClient}
use Rattle.kx_machine.specs.Meaning.{AtProcessor}
use Rattle.kx_machine.specs.declared.input.Input as given
use Rattle.kx_message.specs.declared.message.Message.{Message}
use Rattle.kx_model.specs.Disk.{Store}
use Rattle.kx_model.specs.Log.{Stored}
use Rattle.kx_model.specs.Step.{Input, Comes, Restarts}
use Rattle.kx_nodes.specs.Taking.{IsAnswer}
use Rattle.kx_nodes.specs.declared.fault.NodeFault.{NodeFault}
use Rattle.kx_nodes.specs.declared.receipt.Receipt.{Receipt}
use Rattle.kx_published.specs.Failing.{MayHaveAdded, one_more}
use Rattle.kx_published.specs.Written.{HasWritten}
use Rattle.kx_published.specs.declared.known.Known.{Known}
use Rattle.kx_published.specs.declared.known.Shown.{Shown}
use Rattle.kx_published.specs.declared.publisher.Done.{Done}
use Rattle.kx_publishing.specs.declared.fault.PublishFault.{PublishFault}
use Rattle.kx_publishing.specs.declared.fault.PublishFault.TheVariants as refusal
use Rattle.kx_publishing.specs.declared.published_machine.Publishes.{Publishes}
use Rattle.kx_publishing.specs.declared.published_machine.Publishes.TheVariants as publishes
use Rattle.kx_publishing.specs.declared.published_machine.Tended.{Tended}
use Rattle.kx_publishing.specs.declared.published_machine.Tended.TheVariants as tended

-- what stands under the lock, what was published of its log, and when it is published
pub record UnderLock (L : Type 0) : Type 0 where
  pub locked : L
  pub published : Option Done
  pub publishes : Publishes

-- the partition whose log it is
abbrev pub partition_of : Option Done → Option ℕ
partition_of published = option_map (λ (done : Done). done.known.partition) published

-- the message that arrives with an input
abbrev pub comes_with : Input → Option Message
comes_with (Comes m) = Some m
comes_with other = None

-- a partition's log was written batch by batch
abbrev pub WroteItself : NodeState → Type 0
WroteItself (AtCoordinator co) = Unit {0}
WroteItself (AtPartition number p) = HasWritten p
WroteItself (AtClient c) = Unit {0}
WroteItself (AtProcessor p) = Unit {0}

-- what readers take is a beginning of this log
abbrev pub ShowsBeginning : List Stored → Option Done → Type 0
ShowsBeginning log None = Unit {0}
ShowsBeginning log (Some done) = IsPrefix done.shown log

-- the node wrote its log itself, and what was passed on begins it, and so does what readers take
abbrev pub BeginsLog : NodeState → Option Done → Type 0
BeginsLog node None = Unit {0}
BeginsLog node (Some done) =
    WroteItself node × IsPrefix done.sent (batches_of node) × IsPrefix done.shown (batches_of node)

-- it stands for a node, whose log begins with what was passed on
pub record Runs {M : Type 0} (Stands : NodeState → M → Type 0) (machine : M)
    (published : Option Done) : Type 0 where
  pub node : NodeState
  pub stands : Stands node machine
  pub begins : BeginsLog node published

------ publishes

-- the empty log is published first, and then the log that was opened, if that is another
abbrev pub IsOpening : List Stored → List Shown → Type 0
IsOpening [] logs = logs ≡ record { log = [] } ∷ []
IsOpening (s ∷ log) logs = logs ≡ record { log = [] } ∷ record { log = s ∷ log } ∷ []

-- this partition's log was published as it was opened, and readers take it
pub record IsOpened (partition : ℕ) (log : List Stored) (published : Option Done) : Type 0 where
  pub done : Done
  pub published_is : published ≡ Some done
  pub partition_is : done.known.partition ≡ partition
  pub logs : IsOpening log done.known.logs
  pub shown : done.shown ≡ log
  pub failed : done.failed ≡ 0

-- readers take the log, which is the next one published, and the told one
pub record HasShown (log : List Stored) (before after : Option Done) (told : Known) : Type 0 where
  pub old : Done
  pub new : Done
  pub before_is : before ≡ Some old
  pub after_is : after ≡ Some new
  pub told_is : told ≡ new.known
  pub partition : new.known.partition ≡ old.known.partition
  pub logs : new.known.logs ≡ old.known.logs ++ record { log = log } ∷ []
  pub shown : new.shown ≡ log
  pub failed : new.failed ≡ old.failed

-- one publish of the log was tried and failed, which was counted: readers take what they took
pub record HasFailed (log : List Stored) (before after : Option Done) : Type 0 where
  pub old : Done
  pub new : Done
  pub before_is : before ≡ Some old
  pub after_is : after ≡ Some new
  pub partition : new.known.partition ≡ old.known.partition
  pub logs : MayHaveAdded log old.known.logs new.known.logs
  pub shown : new.shown ≡ old.shown
  pub failed : new.failed ≡ one_more old.failed

-- why nothing was published: there is no published log, or the publish failed
abbrev pub IsRefused : PublishFault → List Stored → Option Done → Option Done → Type 0
IsRefused refusal.NoReader log before after = (before ≡ None) × (after ≡ None)
IsRefused refusal.Memory log before after = HasFailed log before after

-- readers take this log
abbrev pub IsSeen : List Stored → Option Done → Type 0
IsSeen log None = ⊥
IsSeen log (Some done) = done.shown ≡ log

-- readers took the log already, and nothing was published
abbrev pub IsQuiet : List Stored → Option Done → Option Done → Type 0
IsQuiet log before after = IsSeen log before × (after ≡ before)

-- the log isn't shown: none is published; or readers took another one, and the publish failed
abbrev pub IsUnshown : List Stored → Option Done → Option Done → Type 0
IsUnshown log None after = after ≡ None
IsUnshown log (Some done) after = (done.shown ≡ log → ⊥) × HasFailed log (Some done) after

-- the log is shown if it isn't yet: readers took it before, or it is the next one published; or
-- it isn't shown
abbrev pub Shows : Bool → List Stored → Option Done → Option Done → Type 0
Shows true log before after = IsQuiet log before after ⊎ ((told : Known) × HasShown log before after told)
Shows false log before after = IsUnshown log before after

------ steps

-- the log that a step left is shown, if steps publish; else readers take what they took
abbrev pub StepShows : Publishes → Bool → List Stored → Option Done → Option Done → Type 0
StepShows publishes.EachStep shown log before after = Shows shown log before after
StepShows publishes.OnCall shown log before after = (shown ≡ false) × (after ≡ before)

-- the step records what it does without readers. After it they take the log that it left, if steps
-- publish, unless the one publish that was tried failed; what they take begins the node's log
-- still; and a refusal publishes nothing, as does a step that left the log that they take
pub record StepIsPublished {L : Type 0} (log : L → List Stored)
    (Records : L → given.Input → Result Receipt NodeFault → L → Type 0) (before : UnderLock L)
    (input : given.Input) (result : Result Receipt NodeFault) (after : UnderLock L)
    : Type 0 where
  pub recorded : Records before.locked input result after.locked
  pub shows : MatchResult result
      (λ receipt. (shown : Bool) × StepShows before.publishes shown (log after.locked)
      before.published after.published)
      (λ refused. after.published ≡ before.published)
  pub quiet : IsSeen (log after.locked) before.published → after.published ≡ before.published
  pub publishes : after.publishes ≡ before.publishes
  pub begins : ShowsBeginning (log after.locked) after.published

-- the log is shown as after a step, if there was one, and else whenever it is published
abbrev pub TendShows : Publishes → Tended → List Stored → Option Done → Option Done → Type 0
TendShows publishes (tended.Restarted served) log before after =
    StepShows publishes served.is_shown log before after
TendShows publishes (tended.Rested shown) log before after = Shows shown log before after

-- the node was restarted, and answers so
abbrev pub IsRestart : (Option ℕ → Store → Type 0) → NodeState → ℕ → (NodeState → Type 0) → Tended
    → Type 0
IsRestart Allows node now Stands (tended.Restarted served) =
    IsTaken node (Restarts now) Allows Stands served.receipt.taken
IsRestart Allows node now Stands (tended.Rested shown) = ⊥

-- if there was a step, it was a restart
abbrev pub MayRestart : ℕ → Tended → Type 0
MayRestart now (tended.Restarted served) = IsAnswer (Restarts now) served.receipt.taken
MayRestart now (tended.Rested shown) = Unit {0}
