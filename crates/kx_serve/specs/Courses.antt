-- What becomes of the trace of a node that is opened.
use Rattle.std.specs.Prelude.{ℕ, zero, suc, Bool, false, true}
use Rattle.kx_serve.specs.declared.course.Begins.{Begins}
use Rattle.kx_serve.specs.declared.course.Begins.TheVariants.{No, Again, Anew}
use Rattle.kx_serve.specs.declared.course.Course.{Course}
use Rattle.kx_serve.specs.declared.course.Course.TheVariants.{First, OnLog, GoesOn, Untold, CoordinatorUntold}

-- whether the coordinator's begins, by whether it is new, and whether its file was there
abbrev pub begins_of : Bool → Bool → Begins
begins_of false was_there = No
begins_of true true = Again
begins_of true false = Anew

-- by whether the coordinator's is new, whether it has records, and how many entries the log has
abbrev pub coordinator_course : Bool → Bool → ℕ → Course
coordinator_course is_new false zero = First
coordinator_course true false (suc entries) = OnLog
coordinator_course true true entries = OnLog
coordinator_course false false (suc zero) = GoesOn
coordinator_course false false (suc (suc entries)) = Untold
coordinator_course false true entries = GoesOn

-- by whether a partition's has records, whether the coordinator's begins, and whether the log is empty
abbrev pub partition_course : Bool → Begins → Bool → Course
partition_course true No is_empty = GoesOn
partition_course true Again is_empty = GoesOn
partition_course true Anew is_empty = CoordinatorUntold
partition_course false No true = First
partition_course false No false = Untold
partition_course false Again is_empty = OnLog
partition_course false Anew is_empty = OnLog
