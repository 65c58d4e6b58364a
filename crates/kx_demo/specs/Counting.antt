-- What is counted in a run that an audit found.
use Rattle.std.specs.Prelude.{◌≡◌, ◌+◌, ◌-◌, ◌++◌, ◌∷◌, [], ℕ, List, length, map, slice_get, Some}
use Rattle.std.specs.Prelude.{Bool, true, if◌then◌else◌, unwrap_or}
use Rattle.std.specs.Borrow.{Bor}
use Rattle.std.specs.List.{list_any}
use Rattle.std.specs.Str.{bytes_eq}
use Rattle.kx_audit.specs.Run.{Ran}
use Rattle.kx_broker.specs.Serving.{Serving}
use Rattle.kx_machines.specs.declared.any.AnyMachine.{AnyMachine}
use Rattle.kx_machines.specs.declared.any.AnyMachine.TheVariants as any
use Rattle.kx_machines.specs.declared.broker.BrokerMachine.TheVariants as broker
use Rattle.kx_demo.specs.declared.counting.Counts.{Counts}
use Rattle.kx_machine.specs.Meaning.{NodeState}
use Rattle.kx_message.specs.declared.message.NodeId.TheVariants as node
use Rattle.kx_model.specs.Log.{Stored}
use Rattle.kx_model.specs.Page.{page}
use Rattle.kx_model.specs.Reading.{Shown, committed_records}
use Rattle.kx_nodes.specs.Replay.{Traced, name_of}

------ records

-- what lies behind references
abbrev pub texts : List (Bor (List ℕ)) → List (List ℕ)
texts values = map (λ v. v.now) values

-- the value of a record; one without a value counts as empty
abbrev pub value_of : Shown → List ℕ
value_of s = unwrap_or s.shown.value []

-- what a reader of committed records gets of a log from its beginning, in a page of any length
abbrev pub committed_in : List Stored → List (List ℕ)
committed_in log = map value_of (committed_records (page log 0 4294967295 true))

------ values that stood before

abbrev pub is_among : List ℕ → List (List ℕ) → Bool
is_among value before = list_any (λ b. bytes_eq b value) before

-- how many of the values are the first of their kind, behind some others
abbrev pub firsts : List (List ℕ) → List (List ℕ) → ℕ
firsts before [] = 0
firsts before (value ∷ values) =
    (if is_among value before then 0 else 1) + firsts (value ∷ before) values

-- how many of them stood before
abbrev pub doubles : List (List ℕ) → ℕ
doubles values = length values - firsts [] values

------ a run

-- in the run's machines, that of the data partition of this number: its trace stands behind the
-- coordinator's and those of lower partitions
pub record IsServer {B S F : Type 0} (made : B → NodeState) (run : Ran B (AnyMachine S F))
    (number : ℕ) (server : Serving) : Type 0 where
  pub trace : Traced B
  pub there : slice_get run.traces (1 + number) ≡ Some trace
  pub named : name_of (made trace.made) ≡ node.Partition number
  pub machine : slice_get run.machines (1 + number) ≡ Some (any.Broker (broker.Partition server))

-- the values of the committed records of a data partition; of one that isn't there, none
pub data AreCommitted {B S F : Type 0} (made : B → NodeState) (run : Ran B (AnyMachine S F))
    (number : ℕ) (values : List (List ℕ)) : Type 0 where
  IsThere : (server : Serving) → IsServer made run number server
      → values ≡ committed_in server.log.batches → AreCommitted made run number values
  IsMissing : ((server : Serving) → IsServer made run number server → ⊥) → values ≡ []
      → AreCommitted made run number values

-- two inputs, and two outputs behind them
pub record AreCounts {B S F : Type 0} (made : B → NodeState) (run : Ran B (AnyMachine S F))
    (counts : Counts) : Type 0 where
  pub first_input : List (List ℕ)
  pub second_input : List (List ℕ)
  pub first_output : List (List ℕ)
  pub second_output : List (List ℕ)
  pub has_first_input : AreCommitted made run 0 first_input
  pub has_second_input : AreCommitted made run 1 second_input
  pub has_first_output : AreCommitted made run 2 first_output
  pub has_second_output : AreCommitted made run 3 second_output
  pub inputs : counts.inputs ≡ length (first_input ++ second_input)
  pub outputs : counts.outputs ≡ length (first_output ++ second_output)
  pub doubles_are : counts.doubles ≡ doubles (first_output ++ second_output)
