-- How nodes of every kind are made.
use Rattle.kx_audit.specs.Making.{NodeMaking, making_of, processor_making}
use Rattle.kx_cluster.specs.declared.making.AnyMaking.{AnyMaking}
use Rattle.kx_cluster.specs.declared.making.AnyMaking.TheVariants as making
use Rattle.kx_machine.specs.Meaning.{NodeState, made_as}
use Rattle.kx_nodes.specs.Made.{made_processor}
use Rattle.kx_system.specs.Processor.{Images}

-- the node as it is made
abbrev pub any_state : {F : Type 0} → (F → Images) → AnyMaking F → NodeState
any_state image_of (making.Plain m) = made_as m
any_state image_of (making.Processor m) = made_processor image_of m

-- the same in the words of an audit
abbrev pub any_making : {F : Type 0} → (F → Images) → AnyMaking F → NodeMaking
any_making image_of (making.Plain m) = making_of m
any_making image_of (making.Processor m) = processor_making image_of m
