-- A processor as it is made.
use Rattle.kx_machine.specs.Meaning.{NodeState, AtProcessor}
use Rattle.kx_model.specs.Client.{new_client}
use Rattle.kx_nodes.specs.declared.made.ProcessorMaking.{ProcessorMaking}
use Rattle.kx_system.specs.Processor.{Images, new_processing}

abbrev pub made_processor : {P : Type 0} → (P → Images) → ProcessorMaking P → NodeState
made_processor image_of m = AtProcessor (record {
  client = new_client m.number m.txn m.timeout;
  processing = new_processing m.number m.group m.inputs (image_of m.process);
})
