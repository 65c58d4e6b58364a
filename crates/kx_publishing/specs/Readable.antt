-- The log of what stands under a node's lock is its machine's.
use Rattle.std.specs.Prelude.{◌≡◌, List}
use Rattle.kx_machine.specs.Logs.{batches_of}
use Rattle.kx_machine.specs.Meaning.{NodeState}
use Rattle.kx_model.specs.Log.{Stored}
use Rattle.kx_nodes.specs.Replay.{Recorded, RunsAs}
use Rattle.kx_nodes.specs.Taking.{Alone}
use Rattle.kx_recording.specs.Recorded as recording

-- a machine's log is that of each node for which it stands
abbrev pub TellsLog : {M : Type 0} → (NodeState → M → Type 0) → (M → List Stored) → Type 0
TellsLog {M} Stands log = (machine : M) (state : NodeState) → Stands state machine
    → log machine ≡ batches_of state

pub untraced_log_is : {M : Type 0} {Stands : NodeState → M → Type 0} {log : M → List Stored}
    → TellsLog Stands log → (untraced : Alone M) (state : NodeState)
    → Stands state untraced.machine → log untraced.machine ≡ batches_of state
untraced_log_is is untraced state stands = is untraced.machine state stands

pub traced_log_is : {B M : Type 0} {Stands : NodeState → M → Type 0} {log : M → List Stored}
    → (made_as : B → NodeState) → TellsLog Stands log → (traced : Recorded B M)
    (state : NodeState) → RunsAs made_as Stands traced state
    → log traced.machine ≡ batches_of state
traced_log_is made_as is traced state runs = is traced.machine state runs.stands

pub written_log_is : {M : Type 0} {Stands : NodeState → M → Type 0} {log : M → List Stored}
    → TellsLog Stands log → (written : Alone (recording.Recorded M)) (state : NodeState)
    → Stands state written.machine.machine → log written.machine.machine ≡ batches_of state
written_log_is is written state stands = is written.machine.machine state stands
