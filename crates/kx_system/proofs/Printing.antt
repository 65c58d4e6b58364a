-- Scripts over systems with processors, whose lines are those of worlds.
use Rattle.std.proofs.Common.{◌≡◌, ◌++◌, ℕ, List, [], ◌∷◌, map, Some}
use Rattle.std.specs.Prelude.{codes, flat_map, unwrap_or}
use Prim.Native.String.{String}
use Rattle.kx_message.specs.Ranges.{offsets_partition}
use Rattle.kx_batch.specs.Record.{Record}
use Rattle.kx_model.specs.Groups.{offset_fetch}
use Rattle.kx_model.specs.Page.{fetched}
use Rattle.kx_model.specs.World.{Event, entries_at, log_at}
use Rattle.kx_model.proofs.Printing.{Line, Happens, Fetches, Offsets, Rows, Step, after_step}
use Rattle.kx_model.proofs.Printing.{offset_line, page_lines}
use Rattle.kx_system.specs.System as system
use Rattle.kx_system.specs.System.{System, SystemStepped, MakeProcessor, start_system, system_step}

-- the image of a record is its value behind an `o`
abbrev marked : Record → List ℕ
marked r = codes "o" ++ unwrap_or r.value []

-- with another processor: its number, its transactional id, its group and how many inputs it has
abbrev pub with_new : ℕ → String → String → ℕ → System → System
with_new number txn group inputs s =
    (system_step s (MakeProcessor number (Some (codes txn)) 60000 (codes group) inputs marked)).0

abbrev steps : System → Event → SystemStepped
steps s event = system_step s (system.Happens event)

abbrev event_lines : System → Event → SystemStepped → List (List ℕ)
event_lines s event after = after_step s.world event (after.0.world, after.1)

-- what the lines print in a system
abbrev printed : List Line → System → List (List ℕ)
printed [] s = []
printed (Happens event ∷ lines) s =
    let after : SystemStepped = steps s (event s.world) in
    event_lines s (event s.world) after ++ printed lines after.0
printed (Fetches partition from committed ∷ lines) s =
    page_lines committed (fetched (log_at s.world partition) from 1048588 committed)
    ++ printed lines s
printed (Offsets group partition stable ∷ lines) s =
    offset_line (offset_fetch (entries_at s.world offsets_partition) group partition stable)
    ∷ printed lines s
printed (Rows ∷ lines) s = printed lines s

-- each line prints its answer
abbrev pub Prints : System → List Step → Type 0
Prints s script =
    printed (map (λ step. step.line) script) s
    ≡ flat_map (λ step. map codes step.answer) script

-- the system after the lines
abbrev pub after : List Step → System → System
after [] s = s
after (step ∷ rest) s = after rest (at step.line)
  where
    at : Line → System
    at (Happens event) = (steps s (event s.world)).0
    at (Fetches partition from committed) = s
    at (Offsets group partition stable) = s
    at Rows = s
