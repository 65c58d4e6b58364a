-- A request as the message that it came as.
use Rattle.std.specs.Prelude.{◌≡◌, Option, Some, None, IsSome, ⊤, refl}
use Rattle.std.proofs.Common.{sym, true≢false}
use Rattle.kx_message.specs.declared.message.Held.{Held}
use Rattle.kx_model.specs.Verification.{Request, pair_of, request_of}
use Rattle.kx_offsets.specs.Facts.{CommitFits}
use Rattle.kx_verify.specs.Request.{message_of}
use Rattle.kx_verify.specs.declared.request.Append.{Append}
use Rattle.kx_verify.specs.declared.request.Append.TheVariants.{Produce, Offsets}

-- a request that is there
abbrev pub the_request : (o : Option Request) → IsSome o → Request
the_request (Some r) is = r
the_request None is = absurd (true≢false (sym is))

abbrev pub request_in : Append → Request
request_in (Produce it) = the_request (request_of (message_of (Produce it))) refl
request_in (Offsets it) = the_request (request_of (message_of (Offsets it))) refl

-- what a commit of offsets holds fits its fields
abbrev pub Fits : Append → Type 0
Fits (Produce it) = ⊤
Fits (Offsets it) = CommitFits it.group it.held it.first_sequence it.offsets

-- the id and epoch are those of its batch, and what it holds fits
pub record IsRequest (held : Held) (message : Append) : Type 0 where
  pub own : pair_of (request_in message) ≡ Some held
  pub fits : Fits message
