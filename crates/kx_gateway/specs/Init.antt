-- What InitProducerId asks of the core, and how the reply is answered.
use Rattle.std.specs.Prelude.{ℕ, ℤ, pos, negsuc, List, Option, Some, None}
use Rattle.kx_message.specs.Codes as core
use Rattle.kx_message.specs.Values.{name_with, optional_held_with, timeout_with}
use Rattle.kx_message.specs.declared.message.Held.{Held}
use Rattle.kx_message.specs.declared.requests.Caller.{Caller}
use Rattle.kx_message.specs.declared.replies.InitReply.{InitReply}
use Rattle.kx_kafka_types.specs.Schema.{Values}
use Rattle.kx_kafka.specs.Layouts.{init_producer_id_response}
use Rattle.kx_gateway.specs.declared.code.GatewayCode.TheVariants as code
use Rattle.kx_gateway.specs.declared.init.InitAsk.{InitAsk}
use Rattle.kx_gateway.specs.declared.init.InitAsk.TheVariants.{Refused, Ask, Transactional}
use Rattle.kx_gateway.specs.Codes.{number_of}

-- 1 to 900,000 milliseconds
abbrev pub timeout_of : ℤ → Option ℕ
timeout_of (pos n) = timeout_with n
timeout_of (negsuc n) = None

abbrev pub with_held : List ℕ → ℕ → Option (Option Held) → InitAsk
with_held txn timeout None = Refused (pos (number_of code.InvalidRequest))
with_held txn timeout (Some held) = Transactional txn timeout held

abbrev pub with_timeout : List ℕ → Option ℕ → Option (Option Held) → InitAsk
with_timeout txn None held = Refused (pos (number_of code.InvalidTransactionTimeout))
with_timeout txn (Some timeout) held = with_held txn timeout held

abbrev pub with_txn : Option (List ℕ) → Option ℕ → Option (Option Held) → InitAsk
with_txn None timeout held = Refused (pos (number_of code.TransactionalIdAuthorizationFailed))
with_txn (Some txn) timeout held = with_timeout txn timeout held

-- without a transactional id a producer is idempotent alone, and its timeout ends nothing; with
-- one, the first that fits
abbrev pub init_ask : Caller → Option (List ℕ) → ℤ → ℤ → ℤ → InitAsk
init_ask caller None timeout id epoch =
    Ask (record { caller = caller; txn = None; timeout = 60000 })
init_ask caller (Some txn) timeout id epoch =
    with_txn (name_with txn) (timeout_of timeout) (optional_held_with id epoch)

-- no throttling; the code, and the id and the epoch, which are -1 if there are none
abbrev pub init_with : ℤ → Option Held → Values init_producer_id_response
init_with code None = (pos 0, (code, (negsuc 0, (negsuc 0, tt))))
init_with code (Some held) = (pos 0, (code, (pos held.id, (pos held.epoch, tt))))

abbrev pub init_values : InitReply → Values init_producer_id_response
init_values reply = init_with (pos (core.number_of reply.code)) reply.held

abbrev pub refused_init : ℤ → Values init_producer_id_response
refused_init code = init_with code None
