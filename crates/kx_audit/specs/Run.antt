-- A run of the whole system that an audit found, and what its yes says of it.
use Rattle.std.specs.Prelude.{◌≡◌, ◌++◌, ℕ, List, [], length, map, slice_get, Option, Some, None}
use Rattle.kx_audit.specs.Arrivals.{requests_of}
use Rattle.kx_audit.specs.Audited.{IsAudited}
use Rattle.kx_audit.specs.Joined.{AreApart, Passed}
use Rattle.kx_audit.specs.Making.{NodeMaking, Trail, makings, named}
use Rattle.kx_audit.specs.Rerun.{AllAgain}
use Rattle.kx_audit.specs.Receipts.{AreReceipts, IsAnswered}
use Rattle.kx_audit.specs.Replayed.{trails_of}
use Rattle.kx_audit.specs.Schedule.{IsScheduleOf, made_system}
use Rattle.kx_audit.specs.Told.{Told}
use Rattle.kx_audit.specs.declared.turn.Turn.{Turn}
use Rattle.kx_machine.specs.Meaning.{NodeState}
use Rattle.kx_message.specs.Ranges.{data_partitions}
use Rattle.kx_message.specs.declared.message.Message.{Message}
use Rattle.kx_model.specs.OpenHeadline.{KeepsOpenPromises}
use Rattle.kx_nodes.specs.Replay.{Traced}
use Rattle.kx_nodes.specs.declared.receipt.Receipt.{Receipt}
use Rattle.kx_nodes.specs.declared.trace.Step.{Step}
use Rattle.kx_pipeline.specs.OpenSystems.{Arrives, Inside, IsOpenSystemSchedule, OpenSystemEvent}
use Rattle.kx_pipeline.specs.OpenSystems.{run_open_system}
use Rattle.kx_pipeline.specs.Promises.{KeepsAll}
use Rattle.kx_system.specs.System.{System, SystemEvent, start_system}

-- the traces, their steps in one order, by their places and as they are told, and the machines to
-- which the traces led
pub record Ran (B M : Type 0) : Type 0 where
  pub traces : List (Traced B)
  pub turns : List Turn
  pub told : List Told
  pub machines : List M

abbrev pub step_in : {B : Type 0} → Option (Traced B) → ℕ → Option Step
step_in None place = None
step_in (Some trace) place = slice_get trace.steps place

-- the step at this place of this trace, if there is one
abbrev pub step_at : {B : Type 0} → List (Traced B) → Turn → Option Step
step_at traces turn = step_in (slice_get traces turn.trace) turn.step

-- the step at this place of this trace is told so
pub record IsTurn (trails : List Trail) (turn : Turn) (x : Told) : Type 0 where
  pub trail : Trail
  pub there : slice_get trails turn.trace ≡ Some trail
  pub node_is : x.node ≡ named trail.made
  pub step_is : slice_get trail.steps turn.step ≡ Some x.step

pub record AreTurns (trails : List Trail) (turns : List Turn) (told : List Told) : Type 0 where
  pub count : length turns ≡ length told
  pub each : (j : ℕ) (turn : Turn) (x : Told) → slice_get turns j ≡ Some turn
      → slice_get told j ≡ Some x → IsTurn trails turn x

-- the machine to which this trace led stands for the node
pub record StandsAt {M : Type 0} (stands : NodeState → M → Type 0) (machines : List M)
    (number : ℕ) (node : NodeState) : Type 0 where
  pub machine : M
  pub there : slice_get machines number ≡ Some machine
  pub stands_so : stands node machine

-- what an audit finds, if these messages had arrived from outside: no two traces are of one node;
-- the steps of the traces are a schedule of the whole system, which led to the nodes for which the
-- machines stand, each step with the store that its trace tells; there is a receipt for each step,
-- which is what the schedule answers
pub record IsFound {B M : Type 0} (arrived : List Message) (making : B → NodeMaking)
    (stands : NodeState → M → Type 0) (run : Ran B M) (given : List Receipt) (s : System)
    : Type 0 where
  pub apart : AreApart (trails_of making run.traces)
  pub audited : IsAudited arrived (trails_of making run.traces) run.told
      (StandsAt stands run.machines) s
  pub turns : AreTurns (trails_of making run.traces) run.turns run.told
  pub again : AllAgain run.traces (made_system arrived (trails_of making run.traces)) run.turns
      audited.merged audited.events
  pub receipts : AreReceipts run.told given
  pub answered : (j : ℕ) (receipt : Receipt) → slice_get given j ≡ Some receipt
      → IsAnswered (made_system arrived (trails_of making run.traces)) audited.events receipt

-- an audit's yes: no two traces are of one node; the steps of the traces are a schedule of the whole
-- system, which led to the nodes for which the machines stand, and so keeps its promises, each step
-- with the store that its trace tells; there is a receipt for each step, which is what the schedule
-- answers
pub record IsYes {B M : Type 0} (making : B → NodeMaking) (stands : NodeState → M → Type 0)
    (run : Ran B M) (given : List Receipt) (s : System) : Type 0 where
  pub apart : AreApart (trails_of making run.traces)
  pub audited : IsAudited [] (trails_of making run.traces) run.told
      (StandsAt stands run.machines) s
  pub promises : KeepsAll s
  pub turns : AreTurns (trails_of making run.traces) run.turns run.told
  pub again : AllAgain run.traces (made_system [] (trails_of making run.traces)) run.turns
      audited.merged audited.events
  pub receipts : AreReceipts run.told given
  pub answered : (j : ℕ) (receipt : Receipt) → slice_get given j ≡ Some receipt
      → IsAnswered (made_system [] (trails_of making run.traces)) audited.events receipt

------ where the clients are outside

-- these requests arrive, the clients of the traces are made, and these events happen
abbrev pub open_events : List Message → List Trail → List SystemEvent → List OpenSystemEvent
open_events arrived trails events = map Arrives arrived ++ map Inside (makings trails ++ events)

-- these requests arrive, and then the steps happen: an open schedule, which so keeps the promises
-- that need no trust in clients
pub record IsOpenSchedule (arrived : List Message) (trails : List Trail) (merged : List Passed)
    (s : System) : Type 0 where
  pub events : List SystemEvent
  pub is : IsScheduleOf arrived trails merged events s
  pub scheduled : IsOpenSystemSchedule (open_events arrived trails events)
  pub is_run : s
      ≡ run_open_system (open_events arrived trails events) (start_system data_partitions)
  pub promises : KeepsOpenPromises s.world

-- the yes of an audit of servers: what it finds, if all requests that the traces take in had
-- arrived from outside, is an open schedule, which so keeps the promises that need no trust in
-- clients
pub record AreServersYes {B M : Type 0} (making : B → NodeMaking)
    (stands : NodeState → M → Type 0) (run : Ran B M) (given : List Receipt) (s : System)
    : Type 0 where
  pub found : IsFound (requests_of (trails_of making run.traces)) making stands run given s
  pub scheduled : IsOpenSystemSchedule (open_events (requests_of (trails_of making run.traces))
      (trails_of making run.traces) found.audited.events)
  pub is_run : s ≡ run_open_system (open_events (requests_of (trails_of making run.traces))
      (trails_of making run.traces) found.audited.events) (start_system data_partitions)
  pub promises : KeepsOpenPromises s.world
