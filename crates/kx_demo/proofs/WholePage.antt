-- The page of a whole log, as a reader of committed records has it.
use Rattle.std.proofs.Common.{◌≡◌, Bool, true, false, cond, List, map, Ok, Err, pos, ap}
use Rattle.std.specs.Prelude.{nat_lt}
use Rattle.kx_message.specs.declared.code.ErrorCode.TheVariants.{OffsetOutOfRange}
use Rattle.kx_model.specs.Log.{Stored, end, entries}
use Rattle.kx_model.specs.Page.{Fetched, Page, answer_to, as_fetched, fetched, fetched_of, page}
use Rattle.kx_model.specs.Reading.{committed_of}
use Rattle.kx_demo.specs.Counting.{committed_in, value_of}

-- a fetch from the beginning gets the page of all that is committed
pub gets_whole : (log : List Stored) (got : Fetched)
    → answer_to log (pos 0) 4294967295 true ≡ Ok got
    → map value_of (committed_of got) ≡ committed_in log
unfolding fetched
gets_whole log got e =
    ap (λ g. map value_of (committed_of g))
    (by (nat_lt (end (entries log)) 0) (page log 0 4294967295 true) e)
  where
    by : (b : Bool) (p : Page) → as_fetched (cond b (Err OffsetOutOfRange) (Ok p)) ≡ Ok got
        → got ≡ fetched_of p
    by true p e = absurd cc
    by false p e = cc
