-- The fields of a request to an API, if it is known which it is.
use Rattle.std.proofs.Common.{◌≡◌, ℕ, List, Ok, Err, sym, ap, subst}
use Rattle.kx_kafka_types.specs.declared.version.Version.{Version}
use Rattle.kx_kafka_types.specs.declared.fault.KafkaFault.{KafkaFault}
use Rattle.kx_kafka_types.specs.Schema.{Values}
use Rattle.kx_kafka_types.specs.Reading.{fields_at, goes_on, gives}
use Rattle.kx_kafka.specs.declared.api_key.ApiKey.{ApiKey}
use Rattle.kx_kafka.specs.Apis.{request_fields}
use Rattle.kx_kafka.specs.Requests.{body_at, Body}

pub body_read : (k api : ApiKey) (version : Version) (bytes : List ℕ)
    (v : Values (request_fields api)) (rest : List ℕ) → k ≡ api
    → fields_at version (request_fields api) bytes ≡ Ok (v, rest)
    → body_at k version bytes ≡ Ok ((api, v), rest)
unfolding body_at
body_read k api version bytes v rest e h =
    subst (λ (a : ApiKey). body_at a version bytes ≡ Ok ((api, v), rest)) (sym e)
    (ap (goes_on (λ (w : Values (request_fields api)). gives {A = Body} (api, w))) h)

pub body_fails : (k api : ApiKey) (version : Version) (bytes : List ℕ) (f : KafkaFault) → k ≡ api
    → fields_at version (request_fields api) bytes ≡ Err f → body_at k version bytes ≡ Err f
unfolding body_at
body_fails k api version bytes f e h =
    subst (λ (a : ApiKey). body_at a version bytes ≡ Err f) (sym e)
    (ap (goes_on (λ (w : Values (request_fields api)). gives {A = Body} (api, w))) h)
