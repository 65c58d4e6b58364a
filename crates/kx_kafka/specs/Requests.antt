-- Requests: their header, and the whole text of one.
use Rattle.std.specs.Prelude.{ℕ, ℤ, List, [], ◌∷◌, false, Option, Some, None, Result, Ok, Err}
use Rattle.std.specs.Int.{w16}
use Rattle.kx_kafka_types.specs.declared.version.Version.{Version}
use Rattle.kx_kafka_types.specs.declared.fault.KafkaFault.{KafkaFault}
use Rattle.kx_kafka_types.specs.declared.fault.KafkaFault.TheVariants as fault
use Rattle.kx_kafka_types.specs.Schema.{Values}
use Rattle.kx_kafka_types.specs.Reading.{Reader, ◌>>=◌, gives, judged, fields_at, nullable, end_at}
use Rattle.kx_kafka.specs.declared.api_key.ApiKey.{ApiKey}
use Rattle.kx_kafka.specs.Layouts.{request_front}
use Rattle.kx_kafka.specs.Apis.{key_with, version_with, request_fields}

-- what a request begins with (Kafka protocol guide, "Request Header v1" and "v2")
pub record Header : Type 0 where
  pub api : ApiKey
  pub version : Version
  pub correlation_id : ℤ
  pub client_id : Option (List ℕ)

-- the fields of a request, by its API
abbrev pub Body : Type 0
Body = (api : ApiKey) × Values (request_fields api)

-- headers have no compact lengths in any version
abbrev pub plain : Version
plain = record { number = 0; flexible = false }

abbrev pub value_or : {A : Type 0} → KafkaFault → Option A → Result A KafkaFault
value_or f None = Err f
value_or f (Some x) = Ok x

-- the key, the number of the version and the correlation id, which stand alike in each version of
-- each API; then the client's id, and in a flexible version tagged fields
unfoldable pub header_at : Reader Header
header_at = do
  front ← fields_at plain request_front
  api ← judged (value_or fault.Key (key_with front.0))
  version ← judged (value_or fault.Version (version_with api front.1.0))
  client ← nullable plain w16
  tags ← end_at version
  gives (record {
    api = api;
    version = version;
    correlation_id = front.1.1.0;
    client_id = client;
  })

unfoldable pub body_at : ApiKey → Version → Reader Body
body_at api version = do
  v ← fields_at version (request_fields api)
  gives (api, v)

-- nothing is left
abbrev pub whole : {A : Type 0} → Result (A × List ℕ) KafkaFault → Result A KafkaFault
whole (Ok (x, [])) = Ok x
whole (Ok (x, byte ∷ bytes)) = Err fault.TooLong
whole (Err f) = Err f

abbrev pub body_behind : Header → Reader (Header × Body)
body_behind header = do
  body ← body_at header.api header.version
  gives (header, body)

-- the request that the whole text is
unfoldable pub request_at : List ℕ → Result (Header × Body) KafkaFault
request_at text = whole ((header_at >>= body_behind) text)
