-- When an audit refuses traces and receipts.
use Rattle.std.specs.Prelude.{◌≡◌, ◌⊎◌, ◌<◌, ◌++◌, ℕ, List, [], length, take, slice_get, Some}
use Rattle.std.specs.Prelude.{Contains}
use Rattle.kx_audit.specs.Arrivals.{requests_of}
use Rattle.kx_audit.specs.Joined.{AreApart, IsWay, Passed, WasHandedOut, handed_out}
use Rattle.kx_audit.specs.Making.{Trail, named, node_of}
use Rattle.kx_audit.specs.Replayed.{steps_of}
use Rattle.kx_audit.specs.Told.{AnswersSo, AreToldInOrder, IsToldOf, Told, told_at, told_messages}
use Rattle.kx_audit.specs.Told.{AllAnswer, AreMerged, told_steps}
use Rattle.kx_audit.specs.declared.fault.AuditFault.{AuditFault}
use Rattle.kx_audit.specs.declared.fault.AuditFault.TheVariants as fault
use Rattle.kx_machine.specs.declared.input.Input.TheVariants.{Deliver}
use Rattle.kx_message.specs.declared.message.Message.{Message}
use Rattle.kx_nodes.specs.declared.receipt.Receipt.{Receipt}
use Rattle.kx_nodes.specs.declared.trace.Step.{Step}

abbrev pub fault_number : AuditFault → ℕ
fault_number fault.Order = 1
fault_number fault.Origin = 2
fault_number fault.Receipt = 3
fault_number fault.Count = 4
fault_number fault.Memory = 5

------ order

-- the first steps of each trace, with answers, were put into one order, if these messages had
-- arrived from outside
pub record ArePartlyMerged (arrived : List Message) (trails : List Trail) (told : List Told)
    : Type 0 where
  pub in_order : AreToldInOrder arrived told
  pub no_others : (j : ℕ) (x : Told) → slice_get told j ≡ Some x → IsToldOf trails x
  pub each : (k : ℕ) (t : Trail) → slice_get trails k ≡ Some t
      → told_steps (told_at (named t.made) told)
      ≡ take (length (told_at (named t.made) told)) t.steps
  pub answers : (k : ℕ) (t : Trail) → slice_get trails k ≡ Some t
      → AnswersSo (node_of t.made) (told_at (named t.made) told) (λ node. Unit {0})

-- behind these no node can go on
abbrev pub NoneGoesOn : List Message → List Trail → List Told → Type 0
NoneGoesOn arrived trails told = (k : ℕ) (t : Trail) (step : Step) → slice_get trails k ≡ Some t
    → slice_get t.steps (length (told_at (named t.made) told)) ≡ Some step
    → WasHandedOut (arrived ++ told_messages told) step.input → ⊥

-- a trace isn't done
pub record IsUndone (trails : List Trail) (told : List Told) : Type 0 where
  pub place : ℕ
  pub trail : Trail
  pub there : slice_get trails place ≡ Some trail
  pub less : length (told_at (named trail.made) told) < length trail.steps

pub record AreStuck (arrived : List Message) (trails : List Trail) : Type 0 where
  pub told : List Told
  pub partly : ArePartlyMerged arrived trails told
  pub none : NoneGoesOn arrived trails told
  pub undone : IsUndone trails told

------ origin

-- two traces are of one node
pub record HaveTwins (trails : List Trail) : Type 0 where
  pub first : ℕ
  pub second : ℕ
  pub one : Trail
  pub other : Trail
  pub apart : first < second
  pub one_is : slice_get trails first ≡ Some one
  pub other_is : slice_get trails second ≡ Some other
  pub same : named one.made ≡ named other.made

-- no step of any trace hands out the message
abbrev pub NoneHandsOut : List Trail → Message → Type 0
NoneHandsOut trails message = (k : ℕ) (t : Trail) (way : List Passed) → slice_get trails k ≡ Some t
    → IsWay t way → Contains (handed_out way) message → ⊥

-- a step takes in a message that these don't have
pub record TakesStranger (sent : List Message) (steps : List Step) : Type 0 where
  pub place : ℕ
  pub step : Step
  pub message : Message
  pub there : slice_get steps place ≡ Some step
  pub takes : step.input ≡ Deliver message
  pub unsent : Contains sent message → ⊥

-- a step takes in a message that no step of any trace hands out, and that didn't arrive from
-- outside
pub record HaveStranger (arrived : List Message) (trails : List Trail) : Type 0 where
  pub number : ℕ
  pub trail : Trail
  pub place : ℕ
  pub step : Step
  pub message : Message
  pub trail_is : slice_get trails number ≡ Some trail
  pub there : slice_get trail.steps place ≡ Some step
  pub takes : step.input ≡ Deliver message
  pub none : NoneHandsOut trails message
  pub inside : Contains arrived message → ⊥

-- no two traces are of one node, and each message that is taken in was handed out by some step; yet
-- they can't be put into one order
pub record HaveNoOrder (arrived : List Message) (trails : List Trail) : Type 0 where
  pub apart : AreApart trails
  pub origins : HaveStranger arrived trails → ⊥
  pub stuck : AreStuck arrived trails

-- the steps were put into one order, in which each message that is taken in was handed out before,
-- and each trace that is run again answers so
pub record HaveOrder (arrived : List Message) (trails : List Trail) : Type 0 where
  pub told : List Told
  pub merged : AreMerged arrived trails told
  pub answers : AllAnswer trails told (λ k node. Unit {0})

------ receipts

-- the receipt has the input and the answer of the step at its place
pub record IsOfTrace (trails : List Trail) (receipt : Receipt) : Type 0 where
  pub number : ℕ
  pub trail : Trail
  pub way : List Passed
  pub passed : Passed
  pub trail_is : slice_get trails number ≡ Some trail
  pub node_is : receipt.node ≡ named trail.made
  pub is_way : IsWay trail way
  pub there : slice_get way receipt.place ≡ Some passed
  pub input_is : receipt.input ≡ passed.step.input
  pub taken_is : receipt.taken ≡ passed.taken

-- a receipt is of no step
pub record HaveWrong (trails : List Trail) (receipts : List Receipt) : Type 0 where
  pub number : ℕ
  pub receipt : Receipt
  pub there : slice_get receipts number ≡ Some receipt
  pub wrong : IsOfTrace trails receipt → ⊥

-- each receipt is of a step
abbrev pub AreAllOfTraces : List Trail → List Receipt → Type 0
AreAllOfTraces trails receipts = (j : ℕ) (receipt : Receipt)
    → slice_get receipts j ≡ Some receipt → IsOfTrace trails receipt

-- two receipts are of one step
pub record HaveAlike (receipts : List Receipt) : Type 0 where
  pub first : ℕ
  pub second : ℕ
  pub one : Receipt
  pub other : Receipt
  pub apart : first < second
  pub one_is : slice_get receipts first ≡ Some one
  pub other_is : slice_get receipts second ≡ Some other
  pub same_node : one.node ≡ other.node
  pub same_place : one.place ≡ other.place

------ each refusal comes only in its case, and if none before it fits: the origin, the order,
-- the receipt, the count

abbrev pub IsRefusedWith : List Message → List Trail → List Receipt → AuditFault → Type 0
IsRefusedWith arrived trails receipts fault.Order = HaveNoOrder arrived trails
IsRefusedWith arrived trails receipts fault.Origin =
    HaveTwins trails ⊎ HaveStranger arrived trails
IsRefusedWith arrived trails receipts fault.Receipt =
    HaveOrder arrived trails × HaveWrong trails receipts
IsRefusedWith arrived trails receipts fault.Count =
    HaveOrder arrived trails × AreAllOfTraces trails receipts
    × ((length receipts ≡ steps_of trails → ⊥) ⊎ HaveAlike receipts)
IsRefusedWith arrived trails receipts fault.Memory = Unit {0}

-- of traces that are of all clients too: nothing arrived from outside
abbrev pub IsRefused : List Trail → List Receipt → AuditFault → Type 0
IsRefused trails receipts fault = IsRefusedWith [] trails receipts fault

-- of traces of servers: what arrived are the requests that they take in
abbrev pub AreServersRefused : List Trail → List Receipt → AuditFault → Type 0
AreServersRefused trails receipts fault =
    IsRefusedWith (requests_of trails) trails receipts fault
