-- The last row that granted a transactional id.
use Rattle.std.proofs.Common.{◌≡◌, ◌∙◌, ◌++◌, ◌↔◌, ℕ, Bool, true, false, List, [], ◌∷◌, cond}
use Rattle.std.proofs.Common.{Option, Some, None, refl, sym, ap, subst}
use Rattle.std.specs.Prelude.{bytes_eq, ◌&&◌, ◌||◌, ◌==◌, nat_lt}
use Rattle.std.specs.List.{list_any}
use Rattle.std.specs.Option.{option_or}
use Rattle.std.proofs.lemmas.Slice.Eq.{bytes_eq-Decides}
use Rattle.kx_message.specs.declared.code.ErrorCode.TheVariants as code
use Rattle.kx_message.specs.declared.message.Held.{Held}
use Rattle.kx_model.specs.Coordinator.{Row, TxnEntry, CoordinatorEpoch, Allot, Written, last_row}
use Rattle.kx_model.specs.Coordinator.{State, Empty, Ongoing, Prepare, Complete, row_if, row_of}
use Rattle.kx_model.specs.Coordinator.{ByInit}
use Rattle.kx_model.specs.Requests.{Answer, asked_again, first_use, init, init_at, newcomer}
use Rattle.kx_model.specs.Requests.{own_pair, raised, refuses, takes_over}
use Rattle.kx_regrant.specs.Regrant.{IsGrantOf, grant_row, granted_again, granted_by, grants}
use Rattle.kx_regrant.specs.Regrant.{is_granted_by}

own : (r : Row) (txn : List ℕ) → r.txn ≡ txn → bytes_eq r.txn txn ≡ true
own r txn e = (bytes_eq-Decides r.txn txn).1 e

pub record HasRow (o : Option Row) : Type 0 where
  pub row : Row
  pub is : o ≡ Some row

has_first : (a b : Option Row) → HasRow a → HasRow (option_or a b)
has_first None b h = absurd (never h.row h.is)
  where
    never : (r : Row) → None ≡ Some r → ⊥
    never r e = absurd cc
has_first (Some r) b h = record { row = r; is = refl }

has_second : (a b : Option Row) → HasRow b → HasRow (option_or a b)
has_second None b h = h
has_second (Some r) b h = record { row = r; is = refl }

-- a row of the id is among the entries
has_own : (log later : List TxnEntry) (r : Row) (txn : List ℕ) → bytes_eq r.txn txn ≡ true
    → HasRow (row_of (log ++ Written r ∷ later) txn)
unfolding last_row
has_own [] later r txn e =
    has_second (row_of later txn) (row_if (λ q. bytes_eq q.txn txn) (Written r))
    (record { row = r; is = ap (λ (b : Bool). cond b (Some r) None) e })
has_own (n ∷ log) later r txn e =
    has_first (row_of (log ++ Written r ∷ later) txn) (row_if (λ q. bytes_eq q.txn txn) n)
    (has_own log later r txn e)

-- none of them grants it
apart : (a b : Bool) → (a || b) ≡ false → (a ≡ false) × (b ≡ false)
apart true b e = absurd cc
apart false b e = (refl, e)

not_by : (n : TxnEntry) (txn : List ℕ) → is_granted_by txn n ≡ false
    → row_if (λ q. bytes_eq q.txn txn && grants q) n ≡ None
not_by (CoordinatorEpoch epoch) txn e = refl
not_by (Allot id) txn e = refl
not_by (Written r) txn e = ap (λ (b : Bool). cond b (Some r) None) e

none_later : (later : List TxnEntry) (txn : List ℕ) → list_any (is_granted_by txn) later ≡ false
    → grant_row later txn ≡ None
unfolding last_row
none_later [] txn e = refl
none_later (n ∷ later) txn e =
    let split = apart (is_granted_by txn n) (list_any (is_granted_by txn) later) e in
    ap (λ (o : Option Row). option_or o (row_if (λ q. bytes_eq q.txn txn && grants q) n))
    (none_later later txn split.1)
    ∙ not_by n txn split.0

found : (log later : List TxnEntry) (r : Row) (txn : List ℕ) → bytes_eq r.txn txn ≡ true
    → grants r ≡ true → list_any (is_granted_by txn) later ≡ false
    → grant_row (log ++ Written r ∷ later) txn ≡ Some r
unfolding last_row
found [] later r txn e new none =
    ap (λ (o : Option Row). option_or o (row_if (λ q. bytes_eq q.txn txn && grants q) (Written r)))
    (none_later later txn none)
    ∙ ap (λ (b : Bool). cond (b && grants r) (Some r) None) e
    ∙ ap (λ (b : Bool). cond b (Some r) None) new
found (n ∷ log) later r txn e new none =
    ap (λ (o : Option Row). option_or o (row_if (λ q. bytes_eq q.txn txn && grants q) n))
    (found log later r txn e new none)

is_of : (r : Row) (granting last : Option Row) → granting ≡ Some r → HasRow last
    → IsGrantOf (own_pair r) (granted_by granting last)
is_of r granting last g l =
    subst (λ (o : Option Row). IsGrantOf (own_pair r) (granted_by o last)) (sym g)
    (subst (λ (o : Option Row). IsGrantOf (own_pair r) (granted_by (Some r) o)) (sym l.is) refl)

pub read_again : (log later : List TxnEntry) (r : Row) (txn : List ℕ) → r.txn ≡ txn
    → grants r ≡ true → list_any (is_granted_by txn) later ≡ false
    → IsGrantOf (own_pair r) (granted_again (log ++ Written r ∷ later) txn)
read_again log later r txn same new none =
    let e = own r txn same in
    is_of r (grant_row (log ++ Written r ∷ later) txn) (row_of (log ++ Written r ∷ later) txn)
    (found log later r txn e new none) (has_own log later r txn e)

------ if a row granted the id, it has a last row

passes_one : (r : Row) (txn : List ℕ) (a b : Bool) → HasRow (cond (a && b) (Some r) None)
    → HasRow (cond a (Some r) None)
passes_one r txn true b h = record { row = r; is = refl }
passes_one r txn false b h = absurd (never h.row h.is)
  where
    never : (r : Row) → None ≡ Some r → ⊥
    never r e = absurd cc

passes : (n : TxnEntry) (txn : List ℕ) → HasRow (row_if (λ q. bytes_eq q.txn txn && grants q) n)
    → HasRow (row_if (λ q. bytes_eq q.txn txn) n)
passes (CoordinatorEpoch epoch) txn h = h
passes (Allot id) txn h = h
passes (Written r) txn h = passes_one r txn (bytes_eq r.txn txn) (grants r) h

by_part : (a b c d : Option Row) → (HasRow a → HasRow c) → (HasRow b → HasRow d)
    → HasRow (option_or a b) → HasRow (option_or c d)
by_part None b c d u v h = has_second c d (v h)
by_part (Some r) b c d u v h = has_first c d (u (record { row = r; is = refl }))

granted_has_row : (log : List TxnEntry) (txn : List ℕ) → HasRow (grant_row log txn)
    → HasRow (row_of log txn)
unfolding last_row
granted_has_row [] txn h = h
granted_has_row (n ∷ log) txn h =
    by_part (grant_row log txn) (row_if (λ q. bytes_eq q.txn txn && grants q) n) (row_of log txn)
    (row_if (λ q. bytes_eq q.txn txn) n) (granted_has_row log txn) (passes n txn) h

never_none : (r : Row) (last : Option Row) → HasRow last → granted_by (Some r) last ≡ None → ⊥
never_none r None h e = absurd (never h.row h.is)
  where
    never : (r : Row) → None ≡ Some r → ⊥
    never r e = absurd cc
never_none r (Some q) h e = absurd cc

none_by : (granting last : Option Row) → (HasRow granting → HasRow last)
    → (granted_by granting last ≡ None) ↔ (granting ≡ None)
none_by None last h = ((λ e. refl), (λ e. refl))
none_by (Some r) last h =
    ((λ e. absurd (never_none r last (h (record { row = r; is = refl })) e)), (λ e. absurd cc))

pub none_only : (log : List TxnEntry) (txn : List ℕ)
    → (granted_again log txn ≡ None) ↔ (grant_row log txn ≡ None)
none_only log txn = none_by (grant_row log txn) (row_of log txn) (granted_has_row log txn)

------ what the coordinator answers

-- the row of a transactional id is its own
own_if : (r q : Row) (txn : List ℕ) (b : Bool) → bytes_eq r.txn txn ≡ b
    → cond b (Some r) None ≡ Some q → q.txn ≡ txn
own_if r q txn true e h =
    let same : r ≡ q = cc in
    ap (λ (x : Row). x.txn) (sym same) ∙ (bytes_eq-Decides r.txn txn).0 e
own_if r q txn false e h = absurd cc

own_note : (n : TxnEntry) (q : Row) (txn : List ℕ) → row_if (λ x. bytes_eq x.txn txn) n ≡ Some q
    → q.txn ≡ txn
own_note (CoordinatorEpoch epoch) q txn h = absurd cc
own_note (Allot id) q txn h = absurd cc
own_note (Written r) q txn h = own_if r q txn (bytes_eq r.txn txn) refl h

own_or : (a b : Option Row) (q : Row) (txn : List ℕ) → (a ≡ Some q → q.txn ≡ txn)
    → (b ≡ Some q → q.txn ≡ txn) → option_or a b ≡ Some q → q.txn ≡ txn
own_or None b q txn u v h = v h
own_or (Some r) b q txn u v h = u h

own_row : (log : List TxnEntry) (txn : List ℕ) (q : Row) → row_of log txn ≡ Some q → q.txn ≡ txn
unfolding last_row
own_row [] txn q h = absurd cc
own_row (n ∷ log) txn q h =
    own_or (row_of log txn) (row_if (λ x. bytes_eq x.txn txn) n) q txn (own_row log txn q)
    (own_note n q txn) h

-- the answer is code 0 with this pair, once the entry is appended
abbrev Appends : Answer → TxnEntry → Held → Type 0
Appends a note held = a ≡ record { note = Some note; code = code.NoError; held = Some held }

-- the entry is a row of the id that grants the pair
pub record GrantsPair (txn : List ℕ) (note : TxnEntry) (held : Held) : Type 0 where
  pub row : Row
  pub note_is : note ≡ Written row
  pub txn_is : row.txn ≡ txn
  pub new : grants row ≡ true
  pub pair : own_pair row ≡ held

first_grants : (log : List TxnEntry) (client timeout : ℕ) (txn : List ℕ) (note : TxnEntry)
    (held : Held) → Appends (init_at log client txn timeout None) note held
    → GrantsPair txn note held
first_grants log client timeout txn note held h =
    let row = first_use log client txn timeout in
    let noted : Some (Written row) ≡ Some note = ap (λ (a : Answer). a.note) h in
    let answered : Some (own_pair row) ≡ Some held = ap (λ (a : Answer). a.held) h in
    let note_is : note ≡ Written row = cc in
    let pair : own_pair row ≡ held = cc in
    record { row = row; note_is = note_is; txn_is = refl; new = refl; pair = pair }

taken_grants : (log : List TxnEntry) (client timeout : ℕ) (r : Row) (note : TxnEntry)
    (held : Held) → Appends (takes_over log client timeout r) note held
    → GrantsPair r.txn note held
taken_grants log client timeout r note held h =
    let row : Row =
    record (raised log r Empty ByInit) { owner = client; timeout = timeout } in
    let noted : Some (Written row) ≡ Some note = ap (λ (a : Answer). a.note) h in
    let answered : Some (own_pair row) ≡ Some held = ap (λ (a : Answer). a.held) h in
    let note_is : note ≡ Written row = cc in
    let pair : own_pair row ≡ held = cc in
    record { row = row; note_is = note_is; txn_is = refl; new = refl; pair = pair }

-- to its owner nothing is appended
never_again : (r : Row) (state : State) (note : TxnEntry) (held : Held)
    → Appends (asked_again r state) note held → ⊥
never_again r Empty note held h =
    let none : None ≡ Some note = ap (λ (a : Answer). a.note) h in absurd cc
never_again r Ongoing note held h =
    let none : None ≡ Some note = ap (λ (a : Answer). a.note) h in absurd cc
never_again r (Prepare outcome) note held h =
    let none : None ≡ Some note = ap (λ (a : Answer). a.note) h in absurd cc
never_again r (Complete outcome) note held h =
    let none : None ≡ Some note = ap (λ (a : Answer). a.note) h in absurd cc

newcomer_grants : (log : List TxnEntry) (client timeout : ℕ) (r : Row) (state : State)
    (note : TxnEntry) (held : Held) → Appends (newcomer log client timeout r state) note held
    → GrantsPair r.txn note held
newcomer_grants log client timeout r Empty note held h =
    taken_grants log client timeout r note held h
newcomer_grants log client timeout r Ongoing note held h =
    let other : code.ConcurrentTransactions ≡ code.NoError = ap (λ (a : Answer). a.code) h in
    absurd cc
newcomer_grants log client timeout r (Prepare outcome) note held h =
    let other : code.ConcurrentTransactions ≡ code.NoError = ap (λ (a : Answer). a.code) h in
    absurd cc
newcomer_grants log client timeout r (Complete outcome) note held h =
    taken_grants log client timeout r note held h

by_client : (log : List TxnEntry) (client timeout : ℕ) (r : Row) (note : TxnEntry) (held : Held)
    (is_older is_owner : Bool)
    → Appends (cond is_older (refuses code.ProducerFenced) (cond is_owner (asked_again r r.state)
    (newcomer log client timeout r r.state))) note held
    → GrantsPair r.txn note held
by_client log client timeout r note held true is_owner h =
    let other : code.ProducerFenced ≡ code.NoError = ap (λ (a : Answer). a.code) h in
    absurd cc
by_client log client timeout r note held false true h =
    absurd (never_again r r.state note held h)
by_client log client timeout r note held false false h =
    newcomer_grants log client timeout r r.state note held h

by_last : (log : List TxnEntry) (client timeout : ℕ) (txn : List ℕ) (note : TxnEntry) (held : Held)
    (o : Option Row) → row_of log txn ≡ o → Appends (init_at log client txn timeout o) note held
    → GrantsPair txn note held
by_last log client timeout txn note held None e h =
    first_grants log client timeout txn note held h
by_last log client timeout txn note held (Some r) e h =
    subst (λ (t : List ℕ). GrantsPair t note held) (own_row log txn r e)
    (by_client log client timeout r note held (nat_lt client r.owner) (client == r.owner) h)

pub answered_again : (log later : List TxnEntry) (client timeout : ℕ) (txn : List ℕ)
    (note : TxnEntry) (held : Held) → Appends (init log client (Some txn) timeout) note held
    → list_any (is_granted_by txn) later ≡ false
    → IsGrantOf held (granted_again (log ++ note ∷ later) txn)
answered_again log later client timeout txn note held h none =
    let g = by_last log client timeout txn note held (row_of log txn) refl h in
    subst (λ (n : TxnEntry). IsGrantOf held (granted_again (log ++ n ∷ later) txn)) (sym g.note_is)
    (subst (λ (p : Held). IsGrantOf p (granted_again (log ++ Written g.row ∷ later) txn)) g.pair
    (read_again log later g.row txn g.txn_is g.new none))
