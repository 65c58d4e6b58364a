-- The last stable offset of a page.
use Rattle.std.proofs.Common.{◌≡◌, ℕ, ℤ, pos, negsuc, Bool, true, false, Ok, Err, List, ap, sym}
use Rattle.std.specs.Prelude.{if◌then◌else◌, nat_lt}
use Rattle.kx_message.specs.declared.code.ErrorCode.TheVariants.{OffsetOutOfRange}
use Rattle.kx_model.specs.Log.{Stored, end, entries}
use Rattle.kx_model.specs.Page.{Fetched, Page, answer_to, as_fetched, fetched, fetched_of}
use Rattle.kx_model.specs.Page.{page}
use Rattle.kx_model.specs.Transactions.{last_stable_offset}

page_is : (p : Page) (f : Fetched) → as_fetched (Ok p) ≡ Ok f → fetched_of p ≡ f
page_is p f is = cc

stable_of : (log : List Stored) (n room : ℕ) (committed : Bool) (f : Fetched)
    → as_fetched (Ok (page log n room committed)) ≡ Ok f
    → f.stable ≡ pos (last_stable_offset (entries log))
unfolding page
stable_of log n room committed f is =
    sym (ap (λ (x : Fetched). x.stable) (page_is (page log n room committed) f is))

by_test : (log : List Stored) (n room : ℕ) (committed above : Bool) (f : Fetched)
    → as_fetched (if above then Err OffsetOutOfRange else Ok (page log n room committed)) ≡ Ok f
    → f.stable ≡ pos (last_stable_offset (entries log))
by_test log n room committed true f is = absurd cc
by_test log n room committed false f is = stable_of log n room committed f is

-- a page that is answered has the last stable offset of its log
pub stable_answered : (log : List Stored) (from : ℤ) (room : ℕ) (committed : Bool) (f : Fetched)
    → answer_to log from room committed ≡ Ok f → f.stable ≡ pos (last_stable_offset (entries log))
unfolding fetched
stable_answered log (negsuc n) room committed f is = absurd cc
stable_answered log (pos n) room committed f is =
    by_test log n room committed (nat_lt (end (entries log)) n) f is
