-- A running processor, and the processor of the definitions that it is.
use Rattle.std.specs.Prelude.{ℕ, List}
use Rattle.kx_model.specs.Client.{Client, Commanded}
use Rattle.kx_system.specs.Processor.{Images, Processing, Processor, Stage, next_commands}
use Rattle.kx_system.specs.Processor.{told_all}

pub record Running (P : Type 0) : Type 0 where
  pub client : Client
  pub group : List ℕ
  pub inputs : ℕ
  pub process : P
  pub stage : Stage

abbrev pub processing_of : {P : Type 0} → (P → Images) → Running P → Processing
processing_of image_of r = record {
  number = r.client.number;
  group = r.group;
  inputs = r.inputs;
  image = image_of r.process;
  stage = r.stage;
}

-- its images are those of its process
abbrev pub processor_of : {P : Type 0} → (P → Images) → Running P → Processor
processor_of image_of r = record { client = r.client; processing = processing_of image_of r }

-- what it does once it asks for what comes next
abbrev pub next_of : {P : Type 0} → (P → Images) → Running P → Commanded
next_of image_of r = told_all r.client (next_commands r.client (processing_of image_of r) r.stage)
