-- The same answers to markers have the same consequences, whatever their order.
use Rattle.std.proofs.Common.{◌≡◌, ◌∙◌, ℕ, ℤ, List, [], ◌∷◌, ◌++◌, Bool, true, false, not, Option}
use Rattle.std.proofs.Common.{Some, None, refl, sym, ap}
use Rattle.std.specs.Prelude.{◌&&◌, ◌||◌, ◌==◌, bytes_eq, if◌then◌else◌}
use Rattle.std.specs.List.{flat_map, list_all, list_any}
use Rattle.std.proofs.lemmas.Bool.{and_parts}
use Rattle.std.proofs.lemmas.List.Concat.{flat_map-cons}
use Rattle.std.proofs.lemmas.List.Elements.{filter_agree}
use Rattle.std.proofs.lemmas.List.Folds.{list_any-append}
use Rattle.std.proofs.lemmas.Map.Views.{any-filter_same}
use Rattle.std.proofs.lemmas.Slice.Eq.{bytes_eq-Decides}
use Rattle.kx_message.specs.declared.message.Message.{Message}
use Rattle.kx_model.specs.Coordinator.{TxnEntry, Row, State, Empty, Ongoing, Prepare, Complete}
use Rattle.kx_model.specs.Coordinator.{lists}
use Rattle.kx_model.specs.Coordinator.{coordinator_epoch, row_of, rows}
use Rattle.kx_model.specs.Markers.{Answered, Completes, Ignored, Noted, answered_at}
use Rattle.kx_model.specs.Markers.{is_answered, markers_of, missing_of, noting, remind}
use Rattle.kx_model.specs.Markers.{same_answered, settle, settle_at, settle_in, without_row}
use Rattle.kx_model.specs.Requests.{completed}

-- each is in both or in neither
abbrev pub Same : List Answered → List Answered → Type 0
Same xs ys = (a : Answered) → list_any (same_answered a) xs ≡ list_any (same_answered a) ys

noting_by : (xs : List Answered) (a b : Answered) (there : Bool)
    → list_any (same_answered a) xs ≡ there
    → list_any (same_answered b) (if there then xs else xs ++ a ∷ [])
    ≡ (if there then list_any (same_answered b) xs
    else list_any (same_answered b) xs || list_any (same_answered b) (a ∷ []))
noting_by xs a b true e = refl
noting_by xs a b false e = list_any-append (same_answered b) xs (a ∷ [])

-- with one more
pub same_noting : (xs ys : List Answered) (a : Answered) → Same xs ys
    → Same (noting xs a) (noting ys a)
same_noting xs ys a same b =
    noting_by xs a b (list_any (same_answered a) xs) refl
    ∙ ap (λ (there : Bool). if there then list_any (same_answered b) xs
    else list_any (same_answered b) xs || list_any (same_answered b) (a ∷ [])) (same a)
    ∙ ap (λ (own : Bool). if list_any (same_answered a) ys then own
    else own || list_any (same_answered b) (a ∷ [])) (same b)
    ∙ sym (noting_by ys a b (list_any (same_answered a) ys) refl)

same_txn : (a b : Answered) → same_answered a b ≡ true → a.txn ≡ b.txn
same_txn a b e =
    let ids = and_parts (bytes_eq a.txn b.txn && a.held.id == b.held.id
    && a.held.epoch == b.held.epoch) (a.partition == b.partition) e in
    let id = and_parts (bytes_eq a.txn b.txn && a.held.id == b.held.id)
    (a.held.epoch == b.held.epoch) ids.0 in
    let txn = and_parts (bytes_eq a.txn b.txn) (a.held.id == b.held.id) id.0 in
    (bytes_eq-Decides a.txn b.txn).0 txn.0

without_by : (xs : List Answered) (r : Row) (b : Answered)
    → list_any (same_answered b) (without_row xs r)
    ≡ (not (bytes_eq b.txn r.txn) && list_any (same_answered b) xs)
without_by xs r b =
    any-filter_same (same_answered b) (λ a. not (bytes_eq a.txn r.txn))
    (not (bytes_eq b.txn r.txn))
    (λ a e. ap (λ txn. not (bytes_eq txn r.txn)) (sym (same_txn b a e))) xs

-- without those of a row
pub same_without : (xs ys : List Answered) (r : Row) → Same xs ys
    → Same (without_row xs r) (without_row ys r)
same_without xs ys r same b =
    without_by xs r b ∙ ap (λ c. not (bytes_eq b.txn r.txn) && c) (same b)
    ∙ sym (without_by ys r b)

all_agree : {A : Type 0} (p q : A → Bool) → ((x : A) → p x ≡ q x) → (xs : List A)
    → list_all p xs ≡ list_all q xs
all_agree p q same [] = refl
all_agree p q same (x ∷ xs) =
    ap (λ b. b && list_all p xs) (same x) ∙ ap (λ b. q x && b) (all_agree p q same xs)

settle_in_same : (log : List TxnEntry) (xs ys : List Answered) (a : Answered) (r : Row)
    (state : State)
    → Same xs ys → settle_in log xs a r state ≡ settle_in log ys a r state
settle_in_same log xs ys a r Empty same = refl
settle_in_same log xs ys a r Ongoing same = refl
settle_in_same log xs ys a r (Prepare outcome) same =
    ap (λ (all : Bool). if r.id == a.held.id && r.epoch == a.held.epoch && lists a.partition r
    then (if all then Completes (completed log r outcome) else Noted) else Ignored)
    (all_agree (is_answered (noting xs a) r) (is_answered (noting ys a) r)
    (λ p. same_noting xs ys a same (answered_at r p)) r.partitions)
settle_in_same log xs ys a r (Complete outcome) same = refl

settle_at_same : (log : List TxnEntry) (xs ys : List Answered) (a : Answered) (o : Option Row)
    → Same xs ys → settle_at log xs a o ≡ settle_at log ys a o
settle_at_same log xs ys a None same = refl
settle_at_same log xs ys a (Some r) same = settle_in_same log xs ys a r r.state same

-- a marker's reply brings about the same
pub settle_same : (log : List TxnEntry) (xs ys : List Answered) (a : Answered) → Same xs ys
    → settle log xs a ≡ settle log ys a
settle_same log xs ys a same = settle_at_same log xs ys a (row_of log a.txn) same

missing_same : (epoch : ℤ) (xs ys : List Answered) (r : Row) → Same xs ys
    → missing_of epoch xs r ≡ missing_of epoch ys r
missing_same epoch xs ys r same =
    ap (λ (ps : List ℕ). markers_of epoch (record r { partitions = ps }))
    (filter_agree (λ p. not (is_answered xs r p)) (λ p. not (is_answered ys r p))
    (λ p. ap not (same (answered_at r p))) r.partitions)

flat_agree : (f g : Row → List Message) → ((r : Row) → f r ≡ g r) → (rs : List Row)
    → flat_map f rs ≡ flat_map g rs
flat_agree f g same [] = refl
flat_agree f g same (r ∷ rs) =
    flat_map-cons f r rs ∙ ap (λ ms. ms ++ flat_map f rs) (same r)
    ∙ ap (λ ms. g r ++ ms) (flat_agree f g same rs) ∙ sym (flat_map-cons g r rs)

-- the same markers are handed out again
pub remind_same : (log : List TxnEntry) (xs ys : List Answered) → Same xs ys
    → remind log xs ≡ remind log ys
remind_same log xs ys same =
    flat_agree (missing_of (coordinator_epoch log) xs) (missing_of (coordinator_epoch log) ys)
    (λ r. missing_same (coordinator_epoch log) xs ys r same) (rows log)
