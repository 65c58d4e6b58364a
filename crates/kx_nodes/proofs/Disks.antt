-- Two logs that differ at most by what stands behind them, after the same append to stores that may
-- do different things.
use Rattle.std.proofs.Common.{◌≡◌, ◌∙◌, Bool, true, false, List, Option, Some, None}
use Rattle.std.proofs.Common.{refl, sym, ap, subst}
use Rattle.std.specs.Prelude.{◌≢◌, not, is_some}
use Rattle.kx_model.specs.Disk.{Disk, Store, Works, Fails, CannotLoad, appended, is_written, works}

-- what follows of both answers of a test
pub by_test : (test : Bool) (P : Bool → Type 0) → P true → P false → P test
by_test true P t f = t
by_test false P t f = f

-- the log, with this behind it
abbrev pub behind : {A : Type 0} → Disk A → Option A → Disk A
behind disk hidden = record disk { hidden = hidden }

-- what may stand behind a log instead: what does, or where the log is closed, something in the
-- place of nothing or nothing in the place of something
pub data MayHide {A : Type 0} (disk : Disk A) (hidden : Option A) : Type 0 where
  Itself : disk.hidden ≡ hidden → MayHide disk hidden
  Other : disk.closed ≡ true → is_some disk.hidden ≢ is_some hidden → MayHide disk hidden

-- two results, each with a log: they differ at most by what stands behind it; or a log that was
-- open is closed in the one whose store doesn't work, and in the other isn't
pub data Compared {A R : Type 0} (disk_of : R → Disk A) (hiding : R → Option A → R)
    (before : Disk A) (store other : Store) (one two : R) : Type 0 where
  Alike : (hidden : Option A) → two ≡ hiding one hidden → MayHide (disk_of one) hidden
      → Compared disk_of hiding before store other one two
  Apart : before.closed ≡ false → (disk_of one).closed ≡ not (works store)
      → (disk_of two).closed ≡ not (works other) → works store ≢ works other
      → Compared disk_of hiding before store other one two

-- what is made of both alike
pub mapped : {A R S : Type 0} (disk_of : R → Disk A) (hiding : R → Option A → R)
    (disk_in : S → Disk A) (hiding_in : S → Option A → S) (f : R → S)
    → ((r : R) → disk_in (f r) ≡ disk_of r)
    → ((r : R) (hidden : Option A) → f (hiding r hidden) ≡ hiding_in (f r) hidden)
    → (before : Disk A) (store other : Store) (one two : R)
    → Compared disk_of hiding before store other one two
    → Compared disk_in hiding_in before store other (f one) (f two)
mapped disk_of hiding disk_in hiding_in f same commutes before store other one two
    (Alike hidden e may) =
    Alike hidden (ap f e ∙ commutes one hidden)
    (subst (λ disk. MayHide disk hidden) (sym (same one)) may)
mapped disk_of hiding disk_in hiding_in f same commutes before store other one two
    (Apart opened a b differ) =
    Apart opened (ap (λ disk. disk.closed) (same one) ∙ a)
    (ap (λ disk. disk.closed) (same two) ∙ b) differ

------ an append

-- the log after an append, and whether it was written
abbrev pub Append : Type 0 → Type 0
Append A = Disk A × Bool

abbrev pub append_disk : {A : Type 0} → Append A → Disk A
append_disk w = w.0

abbrev pub append_hiding : {A : Type 0} → Append A → Option A → Append A
append_hiding w hidden = (behind w.0 hidden, w.1)

abbrev pub append : {A : Type 0} → Disk A → Store → A → Append A
append disk store item = (appended disk store item, is_written disk store)

abbrev AppendsTo : {A : Type 0} → Disk A → Option A → Store → Store → A → Type 0
AppendsTo disk hidden store other item =
    Compared append_disk append_hiding disk store other
    (append disk store item) (append (behind disk hidden) other item)

-- appends that failed differ at most by what they left behind
failed : {A : Type 0} (kept : List A) (old hidden : Option A) (one two : Bool) (item : A)
    → AppendsTo (record { kept = kept; hidden = old; closed = false }) hidden (Fails one)
    (Fails two) item
failed kept old hidden true true item = Alike (Some item) refl (Itself refl)
failed kept old hidden false false item = Alike None refl (Itself refl)
failed kept old hidden true false item = Alike None refl (Other refl (λ e. cc))
failed kept old hidden false true item = Alike (Some item) refl (Other refl (λ e. cc))

open_compared : {A : Type 0} (kept : List A) (old hidden : Option A) (store other : Store)
    (item : A) → AppendsTo (record { kept = kept; hidden = old; closed = false }) hidden store
    other item
open_compared kept old hidden Works Works item = Alike None refl (Itself refl)
open_compared kept old hidden Works CannotLoad item = Alike None refl (Itself refl)
open_compared kept old hidden CannotLoad Works item = Alike None refl (Itself refl)
open_compared kept old hidden CannotLoad CannotLoad item = Alike None refl (Itself refl)
open_compared kept old hidden (Fails one) (Fails two) item = failed kept old hidden one two item
open_compared kept old hidden (Fails one) Works item = Apart refl refl refl (λ e. cc)
open_compared kept old hidden (Fails one) CannotLoad item = Apart refl refl refl (λ e. cc)
open_compared kept old hidden Works (Fails two) item = Apart refl refl refl (λ e. cc)
open_compared kept old hidden CannotLoad (Fails two) item = Apart refl refl refl (λ e. cc)

compared : {A : Type 0} (kept : List A) (old hidden : Option A) (closed : Bool)
    (store other : Store) (item : A)
    → MayHide (record { kept = kept; hidden = old; closed = closed }) hidden
    → AppendsTo (record { kept = kept; hidden = old; closed = closed }) hidden store other item
compared kept old hidden true store other item may = Alike hidden refl may
compared kept old hidden false store other item may =
    open_compared kept old hidden store other item

pub append_compared : {A : Type 0} (disk : Disk A) (hidden : Option A) (store other : Store)
    (item : A) → MayHide disk hidden → AppendsTo disk hidden store other item
append_compared disk hidden store other item may =
    compared disk.kept disk.hidden hidden disk.closed store other item may
