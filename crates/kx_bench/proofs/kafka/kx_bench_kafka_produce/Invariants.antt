use Rattle.std.proofs.Common.{◌≡◌, ◌≢◌, Ok}
use Rattle.kx_kafka.specs.Requests.{Header, Body, request_at}
use Rattle.kx_bench.proofs.kafka.kx_bench_kafka_produce.Given as goal

-- if something was counted, the text was read as a request
abbrev pub invariant-loop : goal.invariant-loop
invariant-loop l = l.total ≢ 0 → (x : Header × Body) × (request_at l.text ≡ Ok x)
