-- What a fetch is answered by what came of fetching, of this log or of a copy of it.
use Rattle.std.specs.Prelude.{◌≡◌, ◌≢◌, [], Result, Ok, Err, MatchResult}
use Rattle.std.specs.List.{flat_map}
use Rattle.kx_message.specs.Messages as the
use Rattle.kx_message.specs.declared.code.ErrorCode.{ErrorCode}
use Rattle.kx_message.specs.declared.code.ErrorCode.TheVariants.{NoError}
use Rattle.kx_message.specs.declared.message.Message.{Message}
use Rattle.kx_message.specs.declared.requests.Fetch.{Fetch}
use Rattle.kx_model.specs.Page.{Fetched, Page, as_fetched}
use Rattle.kx_model.specs.PartitionNode.{fetch_reply}
use Rattle.kx_partition.specs.Fetch.{FetchRefuses}
use Rattle.kx_partition.specs.declared.fault.FetchFault.{FetchFault}
use Rattle.kx_partition.specs.declared.fault.FetchFault.TheVariants as fault

-- the reply that carries a page
abbrev pub page_reply : Fetch → Fetched → Message
page_reply it page =
    the.FetchReply it.caller it.partition NoError page.next page.stable page.end page.aborted
    (flat_map (λ s. s.text) page.batches)

-- the reply that carries the page, or the code of the refusal; where memory ran out there is none
abbrev pub AnswersFetch : Fetch → Result Fetched FetchFault → Message → Type 0
AnswersFetch it (Ok page) message = message ≡ page_reply it page
AnswersFetch it (Err (fault.Refused code)) message =
    message ≡ fetch_reply it.caller it.partition (Err code)
AnswersFetch it (Err fault.Memory) message = ⊥

-- memory may run out for the reply that carries batches, and had if fetching says so
abbrev pub MayWantMemory : Result Fetched FetchFault → Type 0
MayWantMemory (Ok page) = page.batches ≢ []
MayWantMemory (Err (fault.Refused code)) = ⊥
MayWantMemory (Err fault.Memory) = Unit {0}

-- fetching gave what the definitions do
abbrev pub IsFetched : Result Page ErrorCode → Result Fetched FetchFault → Type 0
IsFetched answer fetched =
    MatchResult fetched (λ page. as_fetched answer ≡ Ok page) (FetchRefuses (as_fetched answer))
