-- What the text of a request is.
use Rattle.std.specs.Prelude.{◌≡◌, ℕ, pos, List, Some}
use Rattle.std.specs.Int.{w16}
use Rattle.kx_varint.specs.Text.{◌⊳◌}
use Rattle.kx_kafka_types.specs.Spelling.{SpellsNullable, SpellsEnd, Spells}
use Rattle.kx_kafka.specs.Layouts.{request_front}
use Rattle.kx_kafka.specs.Apis.{number_of, version_with, request_fields}
use Rattle.kx_kafka.specs.Requests.{Header, Body, plain}

-- the API's key, the version and the correlation id; the client's id, which is compact in no
-- version; in a flexible version tagged fields
abbrev pub SpellsHeader : Header → List ℕ → Type 0
SpellsHeader h =
    Spells plain request_front
    (pos (number_of h.api), (pos h.version.number, (h.correlation_id, tt)))
    ⊳ SpellsNullable plain w16 h.client_id ⊳ SpellsEnd h.version

-- the whole text is the request
pub record SpellsRequest (h : Header) (b : Body) (text : List ℕ) : Type 0 where
  -- in a version that is spoken
  pub spoken : version_with h.api (pos h.version.number) ≡ Some h.version
  pub asked : b.0 ≡ h.api
  pub parts : (SpellsHeader h ⊳ Spells h.version (request_fields b.0) b.1) text
