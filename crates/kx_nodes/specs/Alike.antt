-- The nodes to which one trace may lead.
use Rattle.std.specs.Prelude.{◌≡◌, ◌≢◌, true, None}
use Rattle.kx_machine.specs.Meaning.{NodeState, AtCoordinator, AtPartition, AtClient}
use Rattle.kx_machine.specs.Meaning.{AtProcessor, hides, is_closed}

-- the node with nothing left behind its log
abbrev pub bare : NodeState → NodeState
bare (AtCoordinator co) = AtCoordinator (record co { disk = record co.disk { hidden = None } })
bare (AtPartition number p) =
    AtPartition number (record p { disk = record p.disk { hidden = None } })
bare (AtClient c) = AtClient c
bare (AtProcessor p) = AtProcessor p

pub data AreAlike (a b : NodeState) : Type 0 where
  -- they are the same
  AreSame : a ≡ b → AreAlike a b
  -- they are the same but for the whole entry that one of them alone hides behind its closed log
  OneHides : is_closed a ≡ true → hides a ≢ hides b → bare a ≡ bare b → AreAlike a b
