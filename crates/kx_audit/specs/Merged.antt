-- Steps of traces that were run again, put into one order.
use Rattle.std.specs.Prelude.{◌≡◌, ◌<◌, ◌+◌, ◌++◌, ℕ, List, [], ◌∷◌, length, map, sum_by, take}
use Rattle.std.specs.Prelude.{slice_get}
use Rattle.std.specs.Prelude.{Option, Some, None, option_to_list}
use Rattle.std.specs.List.{flat_map}
use Rattle.kx_audit.specs.Arrivals.{arrivals}
use Rattle.kx_audit.specs.Joined.{AreApart, WasHandedOut}
use Rattle.kx_audit.specs.Making.{NodeMaking}
use Rattle.kx_audit.specs.Replayed.{AreReplayed, Progress, left, line_of, name_at, steps_of}
use Rattle.kx_audit.specs.Replayed.{traces_of, trails_of}
use Rattle.kx_audit.specs.Told.{AreToldInOrder, IsToldOf, Told, told_at, told_messages}
use Rattle.kx_audit.specs.declared.clients.Clients.{Clients}
use Rattle.kx_audit.specs.declared.turn.Turn.{Turn}
use Rattle.kx_machine.specs.Meaning.{NodeState}
use Rattle.kx_message.specs.declared.message.Message.{Message}
use Rattle.kx_nodes.specs.Replay.{Traced}
use Rattle.kx_nodes.specs.declared.trace.Step.{Step}

------ the order, by the numbers of the traces and the places in them

abbrev pub at_place : Option (List Told) → ℕ → List Told
at_place None place = []
at_place (Some line) place = option_to_list (slice_get line place)

abbrev pub told_there : List (List Told) → Turn → List Told
told_there lines turn = at_place (slice_get lines turn.trace) turn.step

abbrev pub told_along : List (List Told) → List Turn → List Told
told_along lines turns = flat_map (told_there lines) turns

-- the turn is of one told step
abbrev pub IsThere : List (List Told) → Turn → Type 0
IsThere lines turn = (x : Told) × (told_there lines turn ≡ x ∷ [])

abbrev pub AreThere : List (List Told) → List Turn → Type 0
AreThere lines turns = (j : ℕ) (turn : Turn) → slice_get turns j ≡ Some turn → IsThere lines turn

-- a turn's place is that of the step among those of its node
abbrev pub ArePlaced : List Told → List Turn → List Told → Type 0
ArePlaced before [] [] = Unit {0}
ArePlaced before (turn ∷ turns) (x ∷ told) =
    (turn.step ≡ length (told_at x.node before)) × ArePlaced (before ++ x ∷ []) turns told
ArePlaced before turns told = ⊥

------ how far it has come

-- whose the clients are, the traces, the steps that are merged, and what had arrived and what these
-- handed out
pub record Merged (B M : Type 0) : Type 0 where
  pub clients : Clients
  pub nodes : List (Progress B M)
  pub turns : List Turn
  pub sent : List Message

-- a step is left, and it may come behind these messages
pub record MayGo {B M : Type 0} (sent : List Message) (p : Progress B M) : Type 0 where
  pub step : Step
  pub there : slice_get p.trace.steps p.done ≡ Some step
  pub was : WasHandedOut sent step.input

abbrev pub NoneMayGo : {B M : Type 0} → List Message → List (Progress B M) → Type 0
NoneMayGo {B} {M} sent nodes =
    (k : ℕ) (p : Progress B M) → slice_get nodes k ≡ Some p → MayGo sent p → ⊥

abbrev pub AreFresh : {B M : Type 0} → List (Progress B M) → Type 0
AreFresh {B} {M} nodes = (k : ℕ) (p : Progress B M) → slice_get nodes k ≡ Some p → p.done ≡ 0

abbrev pub AreDone : {B M : Type 0} → List (Progress B M) → Type 0
AreDone {B} {M} nodes =
    (k : ℕ) (p : Progress B M) → slice_get nodes k ≡ Some p → p.done ≡ length p.trace.steps

pub record HasUndone {B M : Type 0} (nodes : List (Progress B M)) : Type 0 where
  pub place : ℕ
  pub node : Progress B M
  pub there : slice_get nodes place ≡ Some node
  pub less : node.done < length node.trace.steps

module _ {B M : Type 0} (making : B → NodeMaking) where
  -- these traces were run again, and nothing of them is done
  pub record AreBegun (stands : NodeState → M → Type 0) (traces : List (Traced B))
      (nodes : List (Progress B M)) : Type 0 where
    pub traces_are : traces_of nodes ≡ traces
    pub fresh : AreFresh nodes
    pub replayed : AreReplayed making stands nodes

  abbrev pub lines_of : List (Progress B M) → List (List Told)
  lines_of nodes = map (line_of making) nodes

  -- the merged steps
  abbrev pub told_so_far : Merged B M → List Told
  told_so_far m = told_along (lines_of m.nodes) m.turns

  -- what had arrived from outside
  abbrev pub arrived_at : Clients → List (Progress B M) → List Message
  arrived_at clients nodes = arrivals clients (trails_of making (traces_of nodes))

  -- they are the done steps of each trace, and no others
  pub record IsMerging (stands : NodeState → M → Type 0) (m : Merged B M) : Type 0 where
    pub in_order : AreToldInOrder (arrived_at m.clients m.nodes) (told_so_far m)
    pub sent_is : m.sent ≡ arrived_at m.clients m.nodes ++ told_messages (told_so_far m)
    pub no_others : (j : ℕ) (x : Told) → slice_get (told_so_far m) j ≡ Some x
        → IsToldOf (trails_of making (traces_of m.nodes)) x
    pub fits : (k : ℕ) (p : Progress B M) → slice_get m.nodes k ≡ Some p
        → told_at (name_at making p) (told_so_far m) ≡ take p.done (line_of making p)
    pub replayed : AreReplayed making stands m.nodes
    pub apart : AreApart (trails_of making (traces_of m.nodes))
    pub turns_there : AreThere (lines_of m.nodes) m.turns
    pub placed : ArePlaced [] m.turns (told_so_far m)
    pub count : length (told_so_far m) + sum_by left m.nodes ≡ steps_of (traces_of m.nodes)
