-- What is asked of a group whose members are processors.
use Rattle.std.specs.Prelude.{◌≡◌, ℕ, List, Contains}
use Rattle.kx_message.specs.Ranges.{offsets_partition}
use Rattle.kx_message.specs.declared.message.Message.TheVariants as msg
use Rattle.kx_message.specs.declared.requests.TxnOffsetCommit.{TxnOffsetCommit}
use Rattle.kx_model.specs.Groups.{Joined, facts}
use Rattle.kx_model.specs.World.{World, entries_at}
use Rattle.kx_system.specs.Processor.{Images, Processing}
use Rattle.kx_system.specs.System.{System}

-- the client of this number is a processor of the group
pub record IsProcessor (s : System) (group : List ℕ) (client : ℕ) : Type 0 where
  pub processing : Processing
  pub there : Contains s.processors processing
  pub number : processing.number ≡ client
  pub its_group : processing.group ≡ group

-- the client has joined the group, whose member it may be still
abbrev pub WasMember : World → List ℕ → ℕ → Type 0
WasMember w group client =
    Contains (facts (entries_at w offsets_partition)) (Joined group client)

-- a processor of the group, with this process and so many inputs
pub record IsAlike (s : System) (group : List ℕ) (inputs : ℕ) (image : Images) (client : ℕ)
    : Type 0 where
  pub processor : IsProcessor s group client
  pub alike : (p : Processing) → Contains s.processors p → p.number ≡ client
      → (p.inputs ≡ inputs) × (p.image ≡ image)

-- every member of the group is a processor with this process and so many inputs, and nobody else
-- sends offsets for the group
pub record IsPipeline (s : System) (group : List ℕ) (inputs : ℕ) (image : Images) : Type 0 where
  pub members : (client : ℕ) → WasMember s.world group client
      → IsAlike s group inputs image client
  pub alone : (it : TxnOffsetCommit) → Contains s.world.sent (msg.TxnOffsetCommit it)
      → it.group ≡ group → WasMember s.world group it.caller.client
