-- The messages that are handed out.
use Rattle.std.proofs.Common.{◌≡◌, ◌<◌, ◌∙◌, ◌+◌, ◌++◌, ℕ, zero, suc, ℤ, pos, Bool, true, false}
use Rattle.std.proofs.Common.{List, [], ◌∷◌, map, filter, length, get_or, take, cond, append_assoc}
use Rattle.std.proofs.Common.{Result, Ok, Err, ap, arith, refl, sym, subst}
use Rattle.std.proofs.lemmas.Bool.{cond_both, not_from_false}
use Rattle.std.proofs.lemmas.List.{append-nil, flat_map_more, get_or-map, length-map, map-append}
use Rattle.std.proofs.lemmas.List.{take_more}
use Rattle.std.proofs.lemmas.List.Concat.{flat_map-cons}
use Rattle.std.proofs.lemmas.List.Elements.{filter-append}
use Rattle.std.proofs.lemmas.List.Folds.{length-flat_map-take}
use Rattle.std.specs.List.{flat_map, list_any}
use Rattle.std.specs.Prelude.{not, OnErr, OnOk}
use Rattle.kx_message.specs.declared.message.Held.{Held}
use Rattle.kx_message.specs.declared.message.Message.{Message}
use Rattle.kx_message.specs.Messages as the
use Rattle.kx_message.specs.declared.outcome.Outcome.{Outcome}
use Rattle.kx_model.specs.Coordinator.{Row, Prepare, coordinator_epoch, epoch_after}
use Rattle.kx_model.specs.Markers.{Answered, is_answered, markers_in, markers_of, missing_of}
use Rattle.kx_model.specs.Markers.{same_answered}
use Rattle.kx_model.specs.Requests.{own_pair}
use Rattle.kx_model.proofs.Notes.{coordinator_epoch-push}
use Rattle.kx_coord.specs.Noted.{answered}
use Rattle.kx_txnlog.specs.Entry.{note_of}
use Rattle.kx_txnlog.specs.declared.entry.Entry.{Entry}

-- the marker to a partition, as the code makes it
abbrev pub marker : ℤ → List ℕ → Held → Outcome → ℕ → Message
marker epoch txn held outcome partition = the.WriteMarker partition txn held epoch outcome

pub markers_are : (epoch : ℤ) (r : Row) (held : Held) (outcome : Outcome)
    → held ≡ own_pair r → r.state ≡ Prepare outcome
    → map (marker epoch r.txn held outcome) r.partitions ≡ markers_of epoch r
markers_are epoch r held outcome h is =
    (λ i. map (marker epoch r.txn (h i) outcome) r.partitions)
    ∙ ap (markers_in epoch r) (sym is)

pub missing_are : (epoch : ℤ) (answered : List Answered) (r : Row) (held : Held)
    (outcome : Outcome)
    → held ≡ own_pair r → r.state ≡ Prepare outcome
    → map (marker epoch r.txn held outcome)
    (filter (λ p. not (is_answered answered r p)) r.partitions) ≡ missing_of epoch answered r
missing_are epoch answered r held outcome h is =
    markers_are epoch (record r {
      partitions = filter (λ p. not (is_answered answered r p)) r.partitions;
    }) held outcome h is

-- if no marker was answered, none is left out
all_pass : (ps : List ℕ) → filter (λ p. true) ps ≡ ps
all_pass [] = refl
all_pass (p ∷ ps) = ap (λ qs. p ∷ qs) (all_pass ps)

pub none_answered : (epoch : ℤ) (r : Row) → missing_of epoch [] r ≡ markers_of epoch r
none_answered epoch r =
    ap (λ ps. markers_of epoch (record r { partitions = ps })) (all_pass r.partitions)

pub none_of_all : (epoch : ℤ) (rs : List Row)
    → flat_map (missing_of epoch []) rs ≡ flat_map (markers_of epoch) rs
none_of_all epoch [] = refl
none_of_all epoch (r ∷ rs) = rw (
  flat_map-cons (missing_of epoch []) r rs,
  flat_map-cons (markers_of epoch) r rs,
  none_answered epoch r,
  none_of_all epoch rs,
) refl

-- that of a row is looked up by the row's id and epoch
pub own_answered : (noted : List Answered) (r : Row) (held : Held) (partition : ℕ)
    → held ≡ own_pair r → list_any (same_answered (answered r.txn held partition)) noted
    ≡ is_answered noted r partition
own_answered noted r held partition own =
    ap (λ (h : Held). list_any (same_answered (answered r.txn h partition)) noted) own

-- what is so in any case is so of a call that failed
pub on_err : {A E : Type 0} (r : Result A E) (P : Type 0) → P → OnErr r P
on_err (Ok x) P p = tt
on_err (Err x) P p = p

pub told : {A E : Type 0} (r : Result A E) (P : Type 0) (x : E) → r ≡ Err x → OnErr r P → P
told r P x e p = subst (λ r. OnErr r P) e p

some_pass : {A : Type 0} (test : A → Bool) (xs : List A) (i : ℕ) (d : A) → i < length xs
    → test (get_or xs i d) ≡ true → 0 < length (filter test xs)
some_pass test [] i d lt e = absurd (omega (arith, lt))
some_pass test (x ∷ xs) zero d lt e = rw e (omega arith)
some_pass test (x ∷ xs) (suc i) d lt e =
    cond_both (test x) (x ∷ filter test xs) (filter test xs) (λ ys. 0 < length ys)
    (λ h. omega arith) (λ h. some_pass test xs i d (omega (arith, lt)) e)

-- a marker that wasn't answered is missing
pub some_missing : (n : ℤ) (answered : List Answered) (r : Row) (outcome : Outcome) (i p : ℕ)
    → r.state ≡ Prepare outcome → i < length r.partitions → p ≡ get_or r.partitions i p
    → is_answered answered r p ≡ false → 0 < length (missing_of n answered r)
some_missing n answered r outcome i p is lt at e =
    let left = filter (λ p. not (is_answered answered r p)) r.partitions in
    let some : 0 < length left = some_pass (λ p. not (is_answered answered r p)) r.partitions i p lt
    (subst (λ q. not (is_answered answered r q) ≡ true) at (not_from_false _ e)) in
    subst (λ st. 0 < length (markers_in n (record r { partitions = left }) st)) (sym is)
    (subst (λ k. 0 < k) (sym (length-map left _)) some)

-- what one element is owed is among what all are owed
pub some_of : {A B C : Type 0} (f : B → List C) (g : A → B) (xs : List A) (i : ℕ) (x : A)
    → i < length xs → x ≡ get_or xs i x → 0 < length (f (g x))
    → 0 < length (flat_map f (map g xs))
some_of f g xs i x lt at some =
    let within : i < length (map g xs) = subst (λ n. i < n) (sym (length-map xs g)) lt in
    let there : g x ≡ get_or (map g xs) i (g x) = ap g at ∙ sym (get_or-map g xs i x (g x) lt) in
    let one : 0 < length (f (get_or (map g xs) i (g x))) =
    subst (λ y. 0 < length (f y)) there some in
    omega (arith, one, length-flat_map-take f (map g xs) i (g x) within)

------ one element more

-- what is so of a call that succeeded
pub told_ok : {A E : Type 0} (r : Result A E) (P : Type 0) (x : A) → r ≡ Ok x → OnOk r P → P
told_ok r P x e p = subst (λ r. OnOk r P) e p

pub one_taken : {A : Type 0} (xs : List A) (i : ℕ) (x : A) → i < length xs → x ≡ get_or xs i x
    → take (i + 1) xs ≡ take i xs ++ x ∷ []
one_taken xs i x lt at = take_more xs i x lt ∙ ap (λ y. take i xs ++ y ∷ []) (sym at)

-- what one element more is owed comes last
pub owed_more : {A B C : Type 0} (f : B → List C) (g : A → B) (xs : List A) (i : ℕ) (x : A)
    (before after : List C) → i < length xs → x ≡ get_or xs i x
    → before ≡ flat_map f (map g (take i xs)) → after ≡ before ++ f (g x)
    → after ≡ flat_map f (map g (take (i + 1) xs))
owed_more f g xs i x before after lt at so more =
    more ∙ ap (λ l. l ++ f (g x)) so ∙ flat_map_more f [] (map g (take i xs)) (g x)
    ∙ ap (flat_map f) (sym (map-append g (take i xs) (x ∷ [])))
    ∙ ap (λ l. flat_map f (map g l)) (sym (one_taken xs i x lt at))

-- the coordinator's epoch behind one entry more
pub epoch_more : (entries : List Entry) (i : ℕ) (x : Entry) (before after : ℤ)
    → i < length entries → x ≡ get_or entries i x
    → before ≡ coordinator_epoch (map note_of (take i entries))
    → after ≡ epoch_after before (note_of x)
    → after ≡ coordinator_epoch (map note_of (take (i + 1) entries))
epoch_more entries i x before after lt at so is =
    is ∙ ap (λ e. epoch_after e (note_of x)) so
    ∙ sym (coordinator_epoch-push (map note_of (take i entries)) (note_of x))
    ∙ ap coordinator_epoch (sym (map-append note_of (take i entries) (x ∷ [])))
    ∙ ap (λ l. coordinator_epoch (map note_of l)) (sym (one_taken entries i x lt at))

pub no_epoch : pos 0 ≡ coordinator_epoch []
unfolding coordinator_epoch
no_epoch = refl

-- a message more
pub message_more : {A C : Type 0} (f : A → C) (start : List C) (xs : List A) (i : ℕ) (x : A)
    (before after : List C) → i < length xs → x ≡ get_or xs i x
    → before ≡ start ++ map f (take i xs) → after ≡ before ++ f x ∷ []
    → after ≡ start ++ map f (take (i + 1) xs)
message_more f start xs i x before after lt at so more =
    more ∙ ap (λ l. l ++ f x ∷ []) so ∙ append_assoc start (map f (take i xs)) (f x ∷ [])
    ∙ ap (λ l. start ++ l) (sym (map-append f (take i xs) (x ∷ [])))
    ∙ ap (λ l. start ++ map f l) (sym (one_taken xs i x lt at))

left_more : {A : Type 0} (test : A → Bool) (xs : List A) (i : ℕ) (x : A) (b : Bool)
    → i < length xs → x ≡ get_or xs i x → test x ≡ b
    → filter test (take (i + 1) xs) ≡ filter test (take i xs) ++ cond b (x ∷ []) []
left_more test xs i x b lt at is =
    ap (filter test) (one_taken xs i x lt at) ∙ filter-append test (take i xs) (x ∷ [])
    ∙ ap (λ c. filter test (take i xs) ++ cond c (x ∷ []) []) is

-- a message more, of an element that passes
pub message_left : {A C : Type 0} (f : A → C) (test : A → Bool) (start : List C) (xs : List A)
    (i : ℕ) (x : A) (before after : List C) → i < length xs → x ≡ get_or xs i x → test x ≡ true
    → before ≡ start ++ map f (filter test (take i xs)) → after ≡ before ++ f x ∷ []
    → after ≡ start ++ map f (filter test (take (i + 1) xs))
message_left f test start xs i x before after lt at is so more =
    let left = filter test (take i xs) in
    more ∙ ap (λ l. l ++ f x ∷ []) so ∙ append_assoc start (map f left) (f x ∷ [])
    ∙ ap (λ l. start ++ l) (sym (map-append f left (x ∷ [])))
    ∙ ap (λ l. start ++ map f l) (sym (left_more test xs i x true lt at is))

-- and none of one that doesn't
pub none_left : {A C : Type 0} (f : A → C) (test : A → Bool) (start : List C) (xs : List A)
    (i : ℕ) (x : A) (before : List C) → i < length xs → x ≡ get_or xs i x → test x ≡ false
    → before ≡ start ++ map f (filter test (take i xs))
    → before ≡ start ++ map f (filter test (take (i + 1) xs))
none_left f test start xs i x before lt at is so =
    so ∙ ap (λ l. start ++ map f l)
    (sym (left_more test xs i x false lt at is ∙ append-nil (filter test (take i xs))))
