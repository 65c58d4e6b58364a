-- What a page of a data partition's server shows of the world for which it stands.
use Rattle.std.proofs.Common.{◌≡◌, ℕ, ℤ, Bool, true, List, Result, Ok, Err, MatchResult, IfOk}
use Rattle.std.proofs.Common.{sym, ap, ◌∙◌, subst}
use Rattle.kx_broker.specs.Serving.{IsServed, Serving, StandsFor}
use Rattle.kx_core.specs.Local.{between}
use Rattle.kx_core.specs.World.{ServesAt}
use Rattle.kx_core.proofs.Beginning.{log_of}
use Rattle.kx_model.specs.Coordinator.{commits}
use Rattle.kx_model.specs.Log.{Stored}
use Rattle.kx_model.specs.OpenHeadline.{ReadersGetVisible}
use Rattle.kx_model.specs.Page.{Fetched, answer_to}
use Rattle.kx_model.specs.PartitionNode.{Partition}
use Rattle.kx_model.specs.Reading.{committed_of, visible}
use Rattle.kx_model.specs.World.{World, entries_at, log_at, notes}
use Rattle.kx_partition.specs.Fetch.{FetchRefuses}
use Rattle.kx_partition.specs.declared.fault.FetchFault.{FetchFault}

-- the log of a server is that of its partition
pub log_at_server : {server : Serving} (w : World) (number : ℕ)
    (at : ServesAt StandsFor w number server) (log : List Stored)
    → ((n : ℕ) (p : Partition) → IsServed n p server → log ≡ p.disk.kept)
    → log ≡ log_at w number
log_at_server w number at log kept =
    kept number at.partition at.serves.1 ∙ sym (log_of w number at.partition at.there)

pub answers : (w : World) (number room : ℕ) (from : ℤ) (committed : Bool) (log : List Stored)
    (r : Result Fetched FetchFault) → log ≡ log_at w number
    → MatchResult r (λ page. answer_to log from room committed ≡ Ok page)
    (FetchRefuses (answer_to log from room committed))
    → MatchResult r (λ page. answer_to (log_at w number) from room committed ≡ Ok page)
    (FetchRefuses (answer_to (log_at w number) from room committed))
answers w number room from committed log r same h =
    subst (λ (l : List Stored). MatchResult r
    (λ page. answer_to l from room committed ≡ Ok page)
    (FetchRefuses (answer_to l from room committed))) same h

-- of committed records it shows exactly what is visible, by decision
pub shows : (w : World) (number room : ℕ) (from : ℤ) (committed : Bool) (log : List Stored)
    (r : Result Fetched FetchFault) → ReadersGetVisible w → log ≡ log_at w number
    → committed ≡ true
    → MatchResult r (λ page. answer_to log from room committed ≡ Ok page)
    (FetchRefuses (answer_to log from room committed))
    → IfOk r (λ page. committed_of page
    ≡ between page.from page.next (visible (entries_at w number) (commits (notes w))))
shows w number room from committed log (Ok page) keeps same asked h =
    let answer : answer_to (log_at w number) from room true ≡ Ok page =
    ap (λ (l : List Stored). answer_to l from room true) (sym same)
    ∙ ap (answer_to log from room) (sym asked) ∙ h in
    keeps.fetches number room from page answer
shows w number room from committed log (Err f) keeps same asked h = tt
