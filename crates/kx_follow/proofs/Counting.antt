-- How often frames wait.
use Rattle.std.proofs.Common.{◌≡◌, ◌<◌, ◌+◌, ◌-◌, ◌++◌, ◌&&◌, ◌||◌, ℕ, Bool, true, false, cond, List, [], ◌∷◌, Option}
use Rattle.std.proofs.Common.{Some, None, refl, sym, ap, arith, ◌∙◌, subst}
use Rattle.std.specs.Prelude.{MatchOption, sum_by}
use Rattle.std.specs.List.{list_any}
use Rattle.std.specs.List.Sorted.{IsPermutation}
use Rattle.std.specs.Map.{lookup, remove_entry, set_value}
use Rattle.std.specs.Str.{bytes_eq}
use Rattle.std.proofs.lemmas.List.Sorted.{sum_by-IsPermutation}
use Rattle.std.proofs.lemmas.List.Sums.{sum_by-append, sum_by-cons, sum_by_push}
use Rattle.std.proofs.lemmas.Slice.Eq.{bytes_eq-Decides}
use Rattle.kx_audit.specs.Joined.{Passed, handed_out}
use Rattle.kx_follow.specs.Internal.{first_times, found_times, waiting_of}
use Rattle.kx_follow.specs.Pending.{AreLeft, AreSent, IsUnsent, MustWait, Waiting}
use Rattle.kx_follow.specs.Pending.{is_for_server, sent_among, takes_sent, times}
use Rattle.kx_follow.proofs.History.{handed_push}
use Rattle.kx_machine.specs.declared.input.Input.{Input}
use Rattle.kx_machine.specs.declared.input.Input.TheVariants as input
use Rattle.kx_message.specs.Fields.{frame_text}
use Rattle.kx_message.specs.declared.message.Message.{Message}

-- as often where this holds, and else never
abbrev if_so : Bool → ℕ → ℕ
if_so b n = cond b n 0

-- the next entry's times
abbrev own : List ℕ → List ℕ × ℕ → ℕ
own text w = if_so (bytes_eq text w.0) (w.1 + 1)

times_cons : (text : List ℕ) (w : List ℕ × ℕ) (waiting : Waiting)
    → times text (w ∷ waiting) ≡ own text w + times text waiting
times_cons text w waiting = sum_by-cons (own text) w waiting

------ the entries of a map

module _ {K : Type 0} (bytes : K → List ℕ) (text : List ℕ) where
  abbrev entry_times : K × ℕ → ℕ
  entry_times e = own text (bytes e.0, e.1)

  abbrev waiting : List (K × ℕ) → Waiting
  waiting entries = waiting_of bytes entries

  times_is : (entries : List (K × ℕ)) → times text (waiting entries) ≡ sum_by entry_times entries
  times_is [] = refl
  times_is (e ∷ entries) =
      times_cons text (bytes e.0, e.1) (waiting entries)
      ∙ ap (λ n. entry_times e + n) (times_is entries) ∙ sym (sum_by-cons entry_times e entries)

  lookup_is : (frame : List ℕ) (entries : List (K × ℕ))
      → lookup (λ key. bytes_eq frame key) (waiting entries)
      ≡ lookup (λ k. bytes_eq frame (bytes k)) entries
  lookup_is frame [] = refl
  lookup_is frame (e ∷ entries) =
      ap (λ (o : Option ℕ). cond (bytes_eq frame (bytes e.0)) (Some e.1) o)
      (lookup_is frame entries)

  module _ (frame : List ℕ) where
    abbrev test : K → Bool
    test k = bytes_eq frame (bytes k)

    abbrev count : ℕ → ℕ
    count n = if_so (bytes_eq text frame) n

    same_count : (k : K) (n : ℕ) → test k ≡ true → if_so (bytes_eq text (bytes k)) n ≡ count n
    same_count k n e =
        ap (λ (f : List ℕ). if_so (bytes_eq text f) n)
        (sym ((bytes_eq-Decides frame (bytes k)).0 e))

    -- the first entry of the frame has another value
    set_times : (entries : List (K × ℕ)) (v w : ℕ) → lookup test entries ≡ Some w
        → sum_by entry_times (set_value test entries v) + count (w + 1)
        ≡ sum_by entry_times entries + count (v + 1)
    set_times [] v w e = absurd cc
    set_times (x ∷ entries) v w e = by (test x.0) refl (set_times entries v w) e
      where
        by : (b : Bool) → test x.0 ≡ b
            → (lookup test entries ≡ Some w
            → sum_by entry_times (set_value test entries v) + count (w + 1)
            ≡ sum_by entry_times entries + count (v + 1))
            → cond b (Some x.1) (lookup test entries) ≡ Some w
            → sum_by entry_times (cond b ((x.0, v) ∷ entries) (x ∷ set_value test entries v))
            + count (w + 1)
            ≡ sum_by entry_times (x ∷ entries) + count (v + 1)
        by true is rest e =
            let same : x.1 ≡ w = cc in
            let new = sum_by-cons entry_times (x.0, v) entries in
            let old = sum_by-cons entry_times x entries in
            let first = same_count x.0 (v + 1) is in
            let second = same_count x.0 (x.1 + 1) is
            ∙ ap (λ (n : ℕ). count (n + 1)) same in
            omega (arith, new, old, first, second)
        by false is rest e =
            let new = sum_by-cons entry_times x (set_value test entries v) in
            let old = sum_by-cons entry_times x entries in
            let more = rest e in
            omega (arith, new, old, more)

    -- the first entry of the frame is taken out
    removed_times : (entries : List (K × ℕ)) (w : ℕ) → lookup test entries ≡ Some w
        → sum_by entry_times (remove_entry test entries) + count (w + 1)
        ≡ sum_by entry_times entries
    removed_times [] w e = absurd cc
    removed_times (x ∷ entries) w e = by (test x.0) refl (removed_times entries w) e
      where
        by : (b : Bool) → test x.0 ≡ b
            → (lookup test entries ≡ Some w
            → sum_by entry_times (remove_entry test entries) + count (w + 1)
            ≡ sum_by entry_times entries)
            → cond b (Some x.1) (lookup test entries) ≡ Some w
            → sum_by entry_times (cond b entries (x ∷ remove_entry test entries)) + count (w + 1)
            ≡ sum_by entry_times (x ∷ entries)
        by true is rest e =
            let same : x.1 ≡ w = cc in
            let old = sum_by-cons entry_times x entries in
            let first = same_count x.0 (x.1 + 1) is ∙ ap (λ (n : ℕ). count (n + 1)) same in
            omega (arith, old, first)
        by false is rest e =
            let new = sum_by-cons entry_times x (remove_entry test entries) in
            let old = sum_by-cons entry_times x entries in
            let more = rest e in
            omega (arith, new, old, more)

    pub first_is : (entries : List (K × ℕ)) (o : Option ℕ) → lookup test entries ≡ o
        → first_times frame (waiting entries) ≡ found_times o
    first_is entries o e = ap found_times (lookup_is frame entries ∙ e)

    none_counts : (b : Bool) → if_so b 0 ≡ 0
    none_counts true = refl
    none_counts false = refl

    -- a frame is put, or is there and has another value
    pub put_times : (k : K) (v : ℕ) (old new : List (K × ℕ)) (o : Option ℕ) → bytes k ≡ frame
        → o ≡ lookup test old
        → MatchOption o (IsPermutation ((k, v) ∷ old) new) (λ _. new ≡ set_value test old v)
        → times text (waiting new) + count (first_times frame (waiting old))
        ≡ times text (waiting old) + count (v + 1)
    put_times k v old new None key found is =
        let first = ap count (first_is old None (sym found)) ∙ none_counts (bytes_eq text frame) in
        let one = sum_by-IsPermutation entry_times ((k, v) ∷ old) new is in
        let two = sum_by-cons entry_times (k, v) old in
        let own_is : entry_times (k, v) ≡ count (v + 1) =
        ap (λ (f : List ℕ). if_so (bytes_eq text f) (v + 1)) key in
        let before = times_is old in
        let after = times_is new in
        omega (arith, first, one, two, own_is, before, after)
    put_times k v old new (Some w) key found is =
        let first = ap count (first_is old (Some w) (sym found)) in
        let one = set_times old v w (sym found) in
        let set = ap (λ (es : List (K × ℕ)). sum_by entry_times es) is in
        let before = times_is old in
        let after = times_is new in
        omega (arith, first, one, set, before, after)

    -- a frame that waits once waits no more
    pub out_times : (old new : List (K × ℕ)) (w : ℕ) → lookup test old ≡ Some w
        → IsPermutation (remove_entry test old) new
        → times text (waiting new) + count (w + 1) ≡ times text (waiting old)
    out_times old new w found is =
        let one = sum_by-IsPermutation entry_times (remove_entry test old) new is in
        let two = removed_times old w found in
        let before = times_is old in
        let after = times_is new in
        omega (arith, one, two, before, after)

------ once more, once less

more_times : (b : Bool) (new old further : ℕ)
    → new + cond b further 0 ≡ old + cond b (further + 1) 0 → new ≡ old + cond b 1 0
more_times true new old further is = omega (arith, is)
more_times false new old further is = omega (arith, is)

-- the frame of a message waits once more than it did
pub one_more_times : (text frame own : List ℕ) (further new old first : ℕ) → frame ≡ own
    → further ≡ first
    → new + cond (bytes_eq text frame) first 0 ≡ old + cond (bytes_eq text frame) (further + 1) 0
    → new ≡ old + cond (bytes_eq text own) 1 0
one_more_times text frame own further new old first same e is =
    let counts = ap (λ (n : ℕ). cond (bytes_eq text frame) n 0) e in
    subst (λ (f : List ℕ). new ≡ old + cond (bytes_eq text f) 1 0) same
    (more_times (bytes_eq text frame) new old further (omega (arith, is, counts)))

less_times : (b : Bool) (new old further : ℕ) → 0 < further
    → new + cond b (further + 1) 0 ≡ old + cond b ((further - 1) + 1) 0 → new + cond b 1 0 ≡ old
less_times true new old further some is = omega (arith, some, is)
less_times false new old further some is = omega (arith, is)

-- the frame of a message that is found waits once less
pub once_less : {K : Type 0} (bytes : K → List ℕ) (text frame own : List ℕ)
    (entries : List (K × ℕ)) (further new old : ℕ) → frame ≡ own
    → lookup (λ k. bytes_eq frame (bytes k)) entries ≡ Some further
    → times text (waiting_of bytes entries) ≡ old → 0 < further
    → new + cond (bytes_eq text frame) (first_times frame (waiting_of bytes entries)) 0
    ≡ times text (waiting_of bytes entries) + cond (bytes_eq text frame) ((further - 1) + 1) 0
    → new + cond (bytes_eq text own) 1 0 ≡ old
once_less bytes text frame own entries further new old same found before some is =
    let first = first_is bytes text frame entries (Some further) found in
    let counts = ap (λ (n : ℕ). cond (bytes_eq text frame) n 0) first in
    let less : new + cond (bytes_eq text frame) (further + 1) 0
    ≡ old + cond (bytes_eq text frame) ((further - 1) + 1) 0 =
    omega (arith, is, counts, before) in
    subst (λ (f : List ℕ). new + cond (bytes_eq text f) 1 0 ≡ old) same
    (less_times (bytes_eq text frame) new old further some less)

-- it waits no more
pub last_out : {K : Type 0} (bytes : K → List ℕ) (text frame own : List ℕ)
    (entries left : List (K × ℕ)) (further old : ℕ) → frame ≡ own
    → lookup (λ k. bytes_eq frame (bytes k)) entries ≡ Some further
    → times text (waiting_of bytes entries) ≡ old → further ≡ 0
    → IsPermutation (remove_entry (λ k. bytes_eq frame (bytes k)) entries) left
    → times text (waiting_of bytes left) + cond (bytes_eq text own) 1 0 ≡ old
last_out bytes text frame own entries left further old same found before none is =
    let out = out_times bytes text frame entries left further found is in
    let once = ap (λ (n : ℕ). cond (bytes_eq text frame) (n + 1) 0) none in
    subst (λ (f : List ℕ). times text (waiting_of bytes left) + cond (bytes_eq text f) 1 0 ≡ old)
    same (omega (arith, out, once, before))

-- a frame that isn't among them doesn't wait
pub no_times : (text : List ℕ) (waiting : Waiting)
    → (list_any (λ w. bytes_eq text w.0) waiting ≡ true → ⊥) → times text waiting ≡ 0
no_times text [] none = refl
no_times text (w ∷ waiting) none =
    by (bytes_eq text w.0) refl (no_times text waiting) none
  where
    by : (b : Bool) → bytes_eq text w.0 ≡ b
        → ((list_any (λ w. bytes_eq text w.0) waiting ≡ true → ⊥) → times text waiting ≡ 0)
        → (b || list_any (λ w. bytes_eq text w.0) waiting ≡ true → ⊥)
        → times text (w ∷ waiting) ≡ 0
    by true is rest none = absurd (none refl)
    by false is rest none =
        let own_is = ap (λ (b : Bool). if_so b (w.1 + 1)) is in
        let all = times_cons text w waiting in
        let more = rest none in
        omega (arith, own_is, all, more)

------ one more step

pub left_none : AreLeft [] []
left_none = record { sent = λ m fits read among. absurd cc; times_are = λ frame. refl }

-- it takes in what waited, if it takes in what was sent, and what it sends waits
pub left_push : (history : List Passed) (p : Passed) (old mid new : Waiting) → AreLeft history old
    → AreSent (handed_out history ++ p.taken.messages) new
    → ((text : List ℕ)
    → times text mid + cond (takes_sent text p.step.input) 1 0 ≡ times text old)
    → ((text : List ℕ) → times text new ≡ times text mid + sent_among text p.taken.messages)
    → AreLeft (history ++ p ∷ []) new
left_push history p old mid new left sent taken added = record {
  sent = subst (λ (ms : List Message). AreSent ms new) (sym (handed_push history p)) sent;
  times_are = λ text.
      let all = left.times_are text in
      let less = taken text in
      let more = added text in
      let in_all = sum_by_push (λ (q : Passed). cond (takes_sent text q.step.input) 1 0) history p in
      let out = ap (sent_among text) (handed_push history p)
      ∙ sum_by-append (λ (m : Message).
      cond (is_for_server m && bytes_eq text (frame_text m)) 1 0) (handed_out history)
      p.taken.messages in
      omega (arith, all, less, more, in_all, out);
}

-- what doesn't wait was taken in as often as it was sent
pub unsent : (history : List Passed) (waiting : Waiting) (i : Input) → AreLeft history waiting
    → MustWait waiting i → IsUnsent history i
unsent history waiting (input.Deliver m) left must = (
  must.0,
  λ fits.
      let none = no_times (frame_text m) waiting (must.1 fits) in
      let all = left.times_are (frame_text m) in
      omega (arith, none, all),
)
unsent history waiting (input.Command command) left must = absurd must
unsent history waiting (input.Expire now) left must = absurd must
unsent history waiting input.Remind left must = absurd must
unsent history waiting (input.Drop group member) left must = absurd must
unsent history waiting (input.Put values) left must = absurd must
unsent history waiting (input.Restart now) left must = absurd must
