-- The requests that a partition has parked.
use Rattle.std.specs.Prelude.{◌≡◌, Bool, List, if◌then◌else◌}
use Rattle.std.specs.List.{list_any}
use Rattle.kx_message.specs.declared.message.Held.{Held}
use Rattle.kx_model.specs.Verification.{Parked, is_full, parked_for, same_request}
use Rattle.kx_model.specs.Verification.{with_parked}
use Rattle.kx_verify.specs.declared.guard.Asked.{Asked}
use Rattle.kx_verify.specs.declared.guard.Asked.TheVariants as asked

-- the same requests of each id and epoch, in order of arrival
abbrev pub SameParked : List Parked → List Parked → Type 0
SameParked some others = (held : Held) → parked_for some held ≡ parked_for others held

-- one that is equal to this request
abbrev pub waits : List Parked → Parked → Bool
waits parked p = list_any (λ q. same_request q.request p.request) parked

-- what a request is answered that is to be parked
abbrev pub answer_to : List Parked → Parked → Asked
answer_to parked p = if is_full parked p.held p.request then asked.Full else asked.Parked

-- what is parked after it
abbrev pub after : List Parked → Parked → List Parked
after parked p =
    if is_full parked p.held p.request then parked else with_parked parked p.held p.request
