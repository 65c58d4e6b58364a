-- The page that a reply carries, read again.
use Rattle.std.proofs.Common.{◌≡◌, ◌≤◌, ◌<◌, ◌-◌, ◌≤ℤ◌, ℕ, zero, suc, ℤ, pos, negsuc, Bool, true}
use Rattle.std.proofs.Common.{false, cond, List, [], ◌∷◌, length, map, Result, Ok, Err, refl}
use Rattle.std.proofs.Common.{ap, ◌∙◌, subst, arith, length-append}
use Rattle.std.specs.Prelude.{All, int_le, nat_lt}
use Rattle.std.proofs.lemmas.Int.{ints}
use Rattle.std.proofs.lemmas.List.Elements.{All-head, All-tail}
use Rattle.kx_batch.specs.Batch.{Spelled, batch_at}
use Rattle.kx_batch.specs.declared.fault.BatchFault.{BatchFault}
use Rattle.kx_batch.specs.declared.fault.BatchFault.TheVariants.{Records}
use Rattle.kx_batch.proofs.Whole.{batch_again}
use Rattle.kx_log.specs.Log.{IsLog, texts}
use Rattle.kx_log.specs.Row.{IsShowable, in_front, row_by, row_from, row_in}
use Rattle.kx_log.proofs.Segments.{long}
use Rattle.kx_message.specs.declared.code.ErrorCode.{ErrorCode}
use Rattle.kx_message.specs.declared.requests.Caller.{Caller}
use Rattle.kx_model.specs.Log.{Stored, end, entries}
use Rattle.kx_model.specs.Page.{Page, aborted_txn, fetched, fetched_of, page, upper_of}
use Rattle.kx_model.specs.PartitionNode.{fetch_reply}
use Rattle.kx_model.specs.Produce.{greatest_offset}
use Rattle.kx_model.specs.Reading.{last_offset}
use Rattle.kx_partition.specs.Reply.{page_in, with_batches}
use Rattle.kx_partition.proofs.Pages.{sliced_showable}

------ batches in a row

is_within : (a b : ℤ) (test : Bool) → a ≤ℤ b → int_le a b ≡ test → test ≡ true
is_within a b true within is = refl
is_within a b false within is = absurd (omega (arith, ints, within, is))

row_step : (most : ℕ) (bytes : List ℕ) → 0 < length bytes → 0 < most
    → row_from most bytes ≡ row_by (batch_at bytes) (row_from (most - 1))
unfolding row_from
row_step most [] some room = absurd (omega arith)
row_step zero (byte ∷ bytes) some room = absurd (omega arith)
row_step (suc most) (byte ∷ bytes) some room =
    let same : most ≡ suc most - 1 = omega arith in
    ap (λ (n : ℕ). row_by (batch_at (byte ∷ bytes)) (row_from n)) same

row_none : (most : ℕ) → row_from most [] ≡ Ok []
unfolding row_from
row_none zero = refl
row_none (suc most) = refl

row_reads : (most : ℕ) (log : List Stored) → All IsShowable log → length (texts log) ≤ most
    → row_from most (texts log) ≡ Ok log
row_reads most [] all enough = row_none most
row_reads most (s ∷ log) all enough =
    let head = All-head IsShowable s log all in
    let sizes = length-append s.text (texts log) in
    let size = long s head.stored in
    let read = batch_again s.batch s.text (texts log) head.stored.bytes head.stored.spells in
    let more = row_reads (most - 1) log (All-tail IsShowable s log all)
    (omega (arith, enough, sizes, size)) in
    row_step most (texts (s ∷ log)) (omega (arith, sizes, size))
    (omega (arith, enough, sizes, size))
    ∙ ap (λ (r : Result (Spelled × List ℕ) BatchFault). row_by r (row_from (most - 1))) read
    ∙ ap (λ (b : Bool). cond b (in_front s (row_from (most - 1) (texts log))) (Err Records))
    (is_within (last_offset s) (pos greatest_offset) _ head.offsets refl)
    ∙ ap (in_front s) more

row_again : (log : List Stored) → All IsShowable log → row_in (texts log) ≡ Ok log
row_again log all = row_reads (length (texts log)) log all (omega arith)

------ a page

page_again : (log : List Stored) (caller : Caller) (number from room : ℕ) (committed : Bool)
    → IsLog log → page_in (pos from) (fetch_reply caller number (Ok (page log from room committed)))
    ≡ Ok (fetched_of (page log from room committed))
unfolding page
page_again log caller number from room committed h =
    let p = page log from room committed in
    ap (with_batches (pos from) (pos p.next) (pos p.stable) (pos p.end) (map aborted_txn p.aborted))
    (row_again p.batches
    (sliced_showable log (pos from) (pos (upper_of (entries log) committed)) room h))

one_page : (p q : Page) (test : Bool) (code : ErrorCode) → cond test (Err code) (Ok p) ≡ Ok q
    → p ≡ q
one_page p q true code is = absurd cc
one_page p q false code is = cc

pub served_is_read : (log : List Stored) (caller : Caller) (number : ℕ) (from : ℤ) (room : ℕ)
    (committed : Bool) (shown : Page) → IsLog log → fetched log from room committed ≡ Ok shown
    → page_in from (fetch_reply caller number (Ok shown)) ≡ Ok (fetched_of shown)
unfolding fetched
served_is_read log caller number (negsuc n) room committed shown h is = absurd cc
served_is_read log caller number (pos from) room committed shown h is =
    let same = one_page (page log from room committed) shown (nat_lt (end (entries log)) from) _
    is in
    subst (λ (p : Page). page_in (pos from) (fetch_reply caller number (Ok p))
    ≡ Ok (fetched_of p)) same (page_again log caller number from room committed h)
