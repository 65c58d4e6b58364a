-- The making of clients as events.
use Rattle.std.specs.Prelude.{◌≡◌, ℕ, suc, List, [], ◌∷◌, Some, None, map, nat_lt}
use Rattle.std.specs.Prelude.{if◌then◌else◌}
use Rattle.kx_audit.specs.Making.{ClientMaking, clients_of, in_order}
use Rattle.kx_audit.specs.Replayed.{trails_of}
use Rattle.kx_cluster.specs.Any.{any_making}
use Rattle.kx_cluster.specs.declared.making.AnyMaking.{AnyMaking}
use Rattle.kx_core.specs.declared.event.Event as happening
use Rattle.kx_core.specs.declared.event.Event.TheVariants as event
use Rattle.kx_nodes.specs.Replay.{Traced}
use Rattle.kx_system.specs.Processor.{Images}

-- a client is made
abbrev pub IsMaking : {F : Type 0} → happening.Event F → Type 0
IsMaking (event.Make client txn timeout) = Unit {0}
IsMaking (event.MakeProcessor client txn timeout group inputs process) = Unit {0}
IsMaking other = ⊥

-- its number
abbrev pub number_in : {F : Type 0} → happening.Event F → ℕ
number_in (event.Make client txn timeout) = client
number_in (event.MakeProcessor client txn timeout group inputs process) = client
number_in other = 0

-- the client in the words of an audit
abbrev pub client_made : {F : Type 0} → (F → Images) → happening.Event F → ClientMaking
client_made image_of (event.Make client txn timeout) = record {
  number = client;
  txn = txn;
  timeout = timeout;
  processes = None;
}
client_made image_of (event.MakeProcessor client txn timeout group inputs process) = record {
  number = client;
  txn = txn;
  timeout = timeout;
  processes = Some (record { group = group; inputs = inputs; image = image_of process });
}
client_made image_of other = record { number = 0; txn = None; timeout = 0; processes = None }

-- the clients of these traces are made, in the order of their numbers
abbrev pub AreClients : {F : Type 0} → (F → Images) → List (Traced (AnyMaking F))
    → List (happening.Event F) → Type 0
AreClients image_of traces made =
    map (client_made image_of) made ≡ in_order (clients_of (trails_of (any_making image_of) traces))

-- before the first of these numbers that is above it
abbrev pub place_in : ℕ → List ℕ → ℕ
place_in number [] = 0
place_in number (other ∷ others) =
    if nat_lt number other then 0 else suc (place_in number others)
