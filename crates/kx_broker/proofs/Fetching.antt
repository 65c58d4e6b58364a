-- A page that was fetched, as the definitions have it.
use Rattle.std.proofs.Common.{◌≡◌, ◌∙◌, ◌<◌, ◌+◌, [], ◌∷◌, List, length, map, refl, ap, sym, arith}
use Rattle.std.proofs.Common.{true≢false}
use Rattle.std.specs.Prelude.{Result, Ok, Err, IsErr, MatchResult}
use Rattle.kx_broker.specs.Fetching.{IsFetched, MayWantMemory, page_reply}
use Rattle.kx_broker.specs.Memory.{IsFilled}
use Rattle.kx_message.specs.declared.code.ErrorCode.{ErrorCode}
use Rattle.kx_message.specs.declared.requests.Fetch.{Fetch}
use Rattle.kx_model.specs.Page.{Fetched, Page, aborted_txn, as_fetched, fetched_of}
use Rattle.kx_model.specs.PartitionNode.{fetch_reply}
use Rattle.kx_partition.specs.declared.fault.FetchFault.{FetchFault}
use Rattle.kx_partition.specs.declared.fault.FetchFault.TheVariants as fault

page_is : (page : Page) (fetched : Fetched) → as_fetched (Ok page) ≡ Ok fetched
    → fetched_of page ≡ fetched
page_is page fetched is = cc

no_page : (code : ErrorCode) (fetched : Fetched) → as_fetched (Err code) ≡ Ok fetched → ⊥
no_page code fetched is = cc

-- the reply that carries it is theirs
pub page_replied : (it : Fetch) (answer : Result Page ErrorCode) (fetched : Fetched)
    → as_fetched answer ≡ Ok fetched
    → page_reply it fetched ≡ fetch_reply it.caller it.partition answer
page_replied it (Ok page) fetched is = ap (page_reply it) (sym (page_is page fetched is))
page_replied it (Err code) fetched is = absurd (no_page code fetched is)

------ where memory may be lacking

some_more : {A B : Type 0} (some : List A) (others : List B) → (some ≡ [] → ⊥)
    → 0 < length some + length others
some_more [] others h = absurd (h refl)
some_more (x ∷ some) others h = omega arith

more_some : {A B : Type 0} (some : List A) (others : List B) → (others ≡ [] → ⊥)
    → 0 < length some + length others
more_some some [] h = absurd (h refl)
more_some some (x ∷ others) h = omega arith

-- a page that isn't empty
pub filled : (answer : Result Page ErrorCode) (page : Result Fetched FetchFault)
    → IsFetched answer page → MayWantMemory page → IsFilled answer
filled (Ok p) (Ok page) is batches =
    let same = page_is p page is in
    some_more p.batches p.aborted (λ e. batches (sym (ap (λ (f : Fetched). f.batches) same) ∙ e))
filled (Err c) (Ok page) is batches = absurd (no_page c page is)
filled answer (Err (fault.Refused c)) is never = absurd never
filled (Ok p) (Err fault.Memory) is any =
    let same = page_is p is.page is.is in
    more_some p.batches p.aborted (λ e. is.names
    (sym (ap (λ (f : Fetched). f.aborted) same) ∙ ap (map aborted_txn) e))
filled (Err c) (Err fault.Memory) is any = absurd (no_page c is.page is.is)

-- what holds at an error
pub of_err : {A E : Type 0} (r : Result A E) (Q : A → Type 0) (P : Type 0) → IsErr r
    → MatchResult r Q (λ refused. P) → P
of_err (Ok x) Q P e h = absurd (true≢false (sym e))
of_err (Err refused) Q P e h = h
