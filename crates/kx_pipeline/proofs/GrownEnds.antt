-- A log that grew ends within the greatest offset, and so does each page that a fetch of it gets.
use Rattle.std.proofs.Common.{◌≡◌, ◌≤◌, ◌+◌, ◌-◌, ℕ, ℤ, pos, negsuc, Bool, true, cond, List, []}
use Rattle.std.proofs.Common.{◌||◌, ◌∷◌, ◌++◌, length, ap, arith}
use Rattle.std.proofs.Common.{All, Result, Ok, Err}
use Rattle.std.specs.Prelude.{sum_by, nat_le, nat_lt}
use Rattle.std.specs.Int.{w64}
use Rattle.std.specs.Int.RustNames.{FitsSigned}
use Rattle.std.proofs.lemmas.Bool.{cond_both, ltb-false}
use Rattle.std.proofs.lemmas.List.Elements.{All-cons, All-filter, All-head, All-nil, All-tail}
use Rattle.std.proofs.lemmas.List.Sums.{sum_by-append, sum_by-cons}
use Rattle.kx_batch.specs.Batch.{Batch}
use Rattle.kx_message.specs.declared.code.ErrorCode.{ErrorCode}
use Rattle.kx_message.specs.declared.code.ErrorCode.TheVariants.{InvalidRecord, OffsetOutOfRange}
use Rattle.kx_model.specs.Log.{Placed, Stored, end, entries, entry_of, placed_by}
use Rattle.kx_model.specs.Log.{stored_width}
use Rattle.kx_model.specs.Page.{Page, at_least_one, fetched, fitting, offset_after, page, shown}
use Rattle.kx_model.specs.Page.{size, upper_of, within}
use Rattle.kx_model.specs.Produce.{greatest_offset, is_plain, is_sequenced, judge_entry}
use Rattle.kx_model.proofs.Logs.{end_is, next_has_room, width-entry_in}
use Rattle.kx_model.proofs.Markers.{marker_has_room}
use Rattle.kx_laws.specs.Grown.{IsGrown, IsTaken, TakesBatch, TakesMarker, Unwritten, WithMore}
use Rattle.kx_laws.proofs.StoredTexts.{else_next}

------ the end of a log

-- a batch or marker that the tables take has offsets to take
taken_has_room : (log : List Stored) (s : Stored) → IsTaken (entries log) s.batch
    → end (entries log) + stored_width s ≤ greatest_offset
taken_has_room log s (TakesBatch some next) =
    let k = else_next (is_plain s.batch || is_sequenced s.batch) InvalidRecord
    (judge_entry (entries log) true (entry_of s)) next in
    omega (
      arith,
      next_has_room (entries log) true (entry_of s) k.1,
      width-entry_in s.batch,
    )
taken_has_room log s (TakesMarker m fits is next) =
    let one : length s.batch.records ≡ 1 = ap (λ (b : Batch). length b.records) is in
    omega (arith, marker_has_room (entries log) m next, one)

pub grown_end : (log : List Stored) → IsGrown log → end (entries log) ≤ greatest_offset
grown_end log Unwritten = omega arith
grown_end log (WithMore earlier s g base taken) =
    omega (
      arith,
      taken_has_room earlier s taken,
      end_is earlier,
      end_is (earlier ++ s ∷ []),
      sum_by-append stored_width earlier (s ∷ []),
      sum_by-cons stored_width s [],
    )

------ the end of a page

-- a batch that ends by this offset
abbrev EndsBy : ℕ → Placed Stored → Type 0
EndsBy n p = p.offset + stored_width p.item ≤ n

placed_end : (n last : ℕ) (log : List Stored) → n + sum_by stored_width log ≤ last
    → All (EndsBy last) (placed_by stored_width n log)
placed_end n last [] h = All-nil (EndsBy last)
placed_end n last (s ∷ log) h =
    let whole = sum_by-cons stored_width s log in
    All-cons (EndsBy last) (record { offset = n; item = s })
    (placed_by stored_width (n + stored_width s) log) (omega (arith, h, whole))
    (placed_end (n + stored_width s) last log (omega (arith, h, whole)))

fitting_end : (last room : ℕ) (ps : List (Placed Stored)) → All (EndsBy last) ps
    → All (EndsBy last) (fitting room ps)
fitting_end last room [] h = All-nil (EndsBy last)
fitting_end last room (p ∷ ps) h =
    cond_both (nat_le (size p) room) (p ∷ fitting (room - size p) ps) [] (All (EndsBy last))
    (λ e. All-cons (EndsBy last) p (fitting (room - size p) ps) (All-head (EndsBy last) p ps h)
    (fitting_end last (room - size p) ps (All-tail (EndsBy last) p ps h)))
    (λ e. All-nil (EndsBy last))

some_end : (last room : ℕ) (ps : List (Placed Stored)) → All (EndsBy last) ps
    → All (EndsBy last) (at_least_one room ps)
some_end last room [] h = All-nil (EndsBy last)
some_end last room (p ∷ ps) h =
    All-cons (EndsBy last) p (cond (nat_le (size p) room) (fitting (room - size p) ps) [])
    (All-head (EndsBy last) p ps h)
    (cond_both (nat_le (size p) room) (fitting (room - size p) ps) [] (All (EndsBy last))
    (λ e. fitting_end last (room - size p) ps (All-tail (EndsBy last) p ps h))
    (λ e. All-nil (EndsBy last)))

after_end : (last n : ℕ) (ps : List (Placed Stored)) → n ≤ last → All (EndsBy last) ps
    → offset_after n ps ≤ last
after_end last n [] low h = low
after_end last n (p ∷ ps) low h =
    after_end last (p.offset + stored_width p.item) ps (All-head (EndsBy last) p ps h)
    (All-tail (EndsBy last) p ps h)

-- a page from an offset of the log ends by the log's end
page_end : (log : List Stored) (from room : ℕ) (committed : Bool) → from ≤ end (entries log)
    → (page log from room committed).next ≤ end (entries log)
unfolding page
page_end log from room committed low =
    let last = end (entries log) in
    after_end last from (shown log from room committed) low
    (some_end last room (within log from (upper_of (entries log) committed))
    (All-filter _ (EndsBy last) (placed_by stored_width 0 log)
    (placed_end 0 last log (omega (arith, end_is log)))))

-- the offset to fetch from next is one that a reply holds
abbrev pub NextFits : Result Page ErrorCode → Type 0
NextFits (Ok page) = FitsSigned w64 (pos page.next)
NextFits (Err code) = Unit {0}

pub fetched_next : (log : List Stored) (from : ℤ) (room : ℕ) (committed : Bool) → IsGrown log
    → NextFits (fetched log from room committed)
unfolding fetched
fetched_next log (negsuc n) room committed grown = tt
fetched_next log (pos from) room committed grown =
    cond_both (nat_lt (end (entries log)) from) (Err OffsetOutOfRange)
    (Ok (page log from room committed)) NextFits (λ e. tt)
    (λ e.
    let low : from ≤ end (entries log) = ltb-false (end (entries log)) from e in
    let next = page_end log from room committed low in
    let whole = grown_end log grown in
    record { sfits = omega (arith, next, whole) })
