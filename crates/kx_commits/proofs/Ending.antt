-- What a marker that is appended ends.
use Rattle.std.proofs.Common.{◌≡◌, ◌<◌, ◌+◌, ◌-◌, ◌==◌, ◌&&◌, ◌||◌, ℕ, Bool, true, false, not}
use Rattle.std.proofs.Common.{cond, List, [], ◌∷◌, ◌++◌, filter, length, flat_map, Contains, refl}
use Rattle.std.proofs.Common.{sym}
use Rattle.std.proofs.Common.{ap, ◌∙◌, arith, append-nil, subst, None}
use Rattle.std.specs.List.{list_any}
use Rattle.std.proofs.Math.Bool.{and-false, and-true}
use Rattle.std.proofs.lemmas.Bool.{false_from_ne_true}
use Rattle.std.proofs.lemmas.Bool.Decides.{nat_tests}
use Rattle.std.proofs.lemmas.List.Elements.{filter-append, filter_agree}
use Rattle.kx_message.specs.declared.outcome.Outcome.{Outcome}
use Rattle.kx_message.specs.declared.outcome.Outcome.TheVariants.{Abort, Commit}
use Rattle.kx_model.specs.Coordinator.{same_outcome}
use Rattle.kx_model.specs.Log.{Control, Data, Entry, Marker, Placed, Plain, Sequenced, Stored}
use Rattle.kx_model.specs.Log.{entries, placed, placed_by, width}
use Rattle.kx_model.specs.Produce.{Appends, judge_marker}
use Rattle.kx_model.specs.Producers.{data_in}
use Rattle.kx_model.specs.Transactions.{has_commit, is_commit_of, is_marker_of, unclosed}
use Rattle.kx_model.specs.Transactions.{unclosed_at, unclosed_from}
use Rattle.kx_model.proofs.Growth.{unclosed-push}
use Rattle.kx_laws.specs.Grown.{IsGrown}
use Rattle.kx_laws.proofs.ClosedByCommit.{commit_tells}
use Rattle.kx_laws.proofs.GrownLogs.{Admits, each_admitted, marker_next}
use Rattle.kx_laws.proofs.LogRules.{closes_its_own, marker_above, marker_behind, marker_epoch}
use Rattle.kx_laws.proofs.Membership.{any_holds}
use Rattle.kx_laws.proofs.Splits.{Each}
use Rattle.kx_commits.specs.Follows.{AllInTransactions, StandsFor, counting}
use Rattle.kx_commits.specs.Follows.{last_of, said_by, slot_of, waiting_of}
use Rattle.kx_commits.specs.Kept.{Kept, Said, ended, is_for, settled_all}
use Rattle.kx_commits.proofs.Growing.{counting-push, counting_on}
use Rattle.kx_commits.proofs.Lists.{eqb_swap, filter-flat_map, filter_cons}
use Rattle.kx_commits.proofs.Lists.{filter_one, length_parts}
use Rattle.kx_commits.proofs.Saying.{said_of, said_stands}
use Rattle.kx_commits.proofs.Settling.{all_abort, all_commit, data_in_order, last_from, latest}
use Rattle.kx_commits.proofs.Settling.{merged, slot_is}

------ what a marker closes

-- a batch of the transaction that the marker ends
abbrev is_ended : Marker → Sequenced → Bool
is_ended m d = m.id == d.id && m.epoch == d.epoch + 1

-- of each batch with the marker's id: it is of the marker's transaction just where no marker
-- stands behind it
abbrev Closes : Marker → List Entry → Type 0
Closes m log = (before after : List Entry) (d : Sequenced) → log ≡ before ++ Data d ∷ after
    → ((d.transactional && not (list_any (is_marker_of d.id) after)) && d.id == m.id)
    ≡ is_ended m d

in_transactions : (before after : List Entry) (d : Sequenced)
    → AllInTransactions (before ++ Data d ∷ after) → d.transactional ≡ true
in_transactions [] after d all = all.0
in_transactions (entry ∷ before) after d all = in_transactions before after d all.1

module _ (log : List Entry) (each : Each Admits log) (all : AllInTransactions log) (m : Marker)
    (appends : judge_marker log m ≡ Appends) where
  -- a marker behind a batch of the id has an epoch between the batch's and the new marker's
  behind_between : (before after : List Entry) (d : Sequenced) → log ≡ before ++ Data d ∷ after
      → d.id ≡ m.id → list_any (is_marker_of d.id) after ≡ true → d.epoch + 1 < m.epoch
  behind_between before after d parts same marked =
      let behind = marker_behind log before after d each parts marked in
      let below : behind.marker.epoch < m.epoch =
      marker_above log m (Control behind.marker) behind.marker.epoch (marker_next m appends)
      behind.there (marker_epoch behind.marker m.id (behind.its ∙ same)) in
      omega (arith, behind.above, below)

  closes : Closes m log
  closes before after d parts =
      ap (λ b. (b && not (list_any (is_marker_of d.id) after)) && d.id == m.id)
      (in_transactions before after d (subst AllInTransactions parts all))
      ∙ by (list_any (is_marker_of d.id) after) (d.id == m.id) refl refl
    where
      by : (marked same : Bool) → list_any (is_marker_of d.id) after ≡ marked
          → (d.id == m.id) ≡ same → (not marked && same) ≡ is_ended m d
      by marked false e f =
          let other : (m.id == d.id) ≡ false = eqb_swap m.id d.id ∙ f in
          and-false (not marked) ∙ sym (ap (λ b. b && m.epoch == d.epoch + 1) other)
      by false true e f =
          let same : m.id ≡ d.id = grind (arith, nat_tests, f) in
          let raised : m.epoch ≡ d.epoch + 1 = closes_its_own before after d m
          (subst (λ l. Admits l (Control m)) parts (marker_next m appends))
          (in_transactions before after d (subst AllInTransactions parts all)) e same in
          grind (arith, nat_tests, same, raised)
      by true true e f =
          let same : d.id ≡ m.id = grind (arith, nat_tests, f) in
          let between = behind_between before after d parts same e in
          grind (arith, nat_tests, same, between)

  -- its transaction has no commit marker yet
  no_commit : (p : Placed Sequenced) → is_ended m p.item ≡ true
      → has_commit log p.item.id p.item.epoch ≡ false
  no_commit p ends =
      false_from_ne_true (has_commit log p.item.id p.item.epoch) (λ e.
      let (entry, there, is) = any_holds (is_commit_of p.item.id p.item.epoch) log e in
      let k = commit_tells p.item.id p.item.epoch entry is in
      let same : m.id ≡ p.item.id = grind (arith, nat_tests, ends) in
      let raised : m.epoch ≡ p.item.epoch + 1 = grind (arith, nat_tests, ends) in
      let below : k.marker.epoch < m.epoch = marker_above log m (Control k.marker) k.marker.epoch
      (marker_next m appends) (subst (Contains log) k.is there)
      (marker_epoch k.marker m.id (k.its_id ∙ sym same)) in
      omega (arith, below, k.raised, raised))

-- the open batches of the marker's id are those of its transaction
open_are_ended : (m : Marker) (n : ℕ) (log : List Entry) → Closes m log
    → filter (λ p. p.item.id == m.id) (unclosed_from n log)
    ≡ filter (λ p. is_ended m p.item) (data_in (placed_by width n log))
unfolding unclosed_from
open_are_ended m n [] each = refl
open_are_ended m n (Plain records ∷ log) each =
    open_are_ended m (n + length records) log
    (λ before after d e. each (Plain records ∷ before) after d (ap (λ l. Plain records ∷ l) e))
open_are_ended m n (Control marker ∷ log) each =
    open_are_ended m (n + 1) log
    (λ before after d e. each (Control marker ∷ before) after d (ap (λ l. Control marker ∷ l) e))
open_are_ended m n (Data d ∷ log) each =
    let here : Placed Sequenced = record { offset = n; item = d } in
    let its = λ (p : Placed Sequenced). p.item.id == m.id in
    let ends = λ (p : Placed Sequenced). is_ended m p.item in
    let next = n + length d.records in
    let unmarked = d.transactional && not (list_any (is_marker_of d.id) log) in
    filter-append its (unclosed_at n (Data d) log) (unclosed_from next log)
    ∙ ap (λ l. l ++ filter its (unclosed_from next log)) (filter_one its unmarked here)
    ∙ ap (λ b. cond b (here ∷ []) [] ++ filter its (unclosed_from next log))
    (each [] log d refl)
    ∙ ap (λ l. cond (is_ended m d) (here ∷ []) [] ++ l) (open_are_ended m next log
    (λ before after d' e. each (Data d ∷ before) after d' (ap (λ l. Data d ∷ l) e)))
    ∙ sym (filter_cons ends here (data_in (placed_by width next log)))

-- of the batches of an id, those left by a marker of another
left_of : (id ended : ℕ) (same : Bool) → (id == ended) ≡ same → (ps : List (Placed Sequenced))
    → filter (λ p. p.item.id == id) (filter (λ p. not (ended == p.item.id)) ps)
    ≡ cond same [] (filter (λ p. p.item.id == id) ps)
left_of id ended true e [] = refl
left_of id ended false e [] = refl
left_of id ended same e (p ∷ ps) =
    by same (ended == p.item.id) (p.item.id == id) e refl refl (left_of id ended same e ps)
  where
    others : List (Placed Sequenced)
    others = filter (λ p. not (ended == p.item.id)) ps

    its : List (Placed Sequenced) → List (Placed Sequenced)
    its ps = filter (λ p. p.item.id == id) ps

    by : (same gone mine : Bool) → (id == ended) ≡ same → (ended == p.item.id) ≡ gone
        → (p.item.id == id) ≡ mine → its others ≡ cond same [] (its ps)
        → its (cond (not gone) (p ∷ others) others)
        ≡ cond same [] (cond mine (p ∷ its ps) (its ps))
    by true true mine e f g rest = rest
    by true false true e f g rest = absurd (grind (arith, nat_tests, e, f, g))
    by true false false e f g rest =
        ap (λ b. cond b (p ∷ its others) (its others)) g ∙ rest
    by false true true e f g rest = absurd (grind (arith, nat_tests, e, f, g))
    by false true false e f g rest = rest
    by false false mine e f g rest =
        ap (λ b. cond b (p ∷ its others) (its others)) g
        ∙ ap (λ l. cond mine (p ∷ l) l) rest

------ what is kept

module _ (kept : Kept) (log : List Entry) (each : Each Admits log) (all : AllInTransactions log)
    (m : Marker) (appends : judge_marker log m ≡ Appends) (stands : StandsFor kept log) where
  abbrev its : Placed Sequenced → Bool
  its p = p.item.id == m.id

  abbrev other : Placed Sequenced → Bool
  other p = not (m.id == p.item.id)

  unclosed_left : unclosed (log ++ Control m ∷ []) ≡ filter other (unclosed log)
  unclosed_left = unclosed-push log (Control m) ∙ append-nil (filter other (unclosed log))

  module _ (group : List ℕ) (partition : ℕ) where
    abbrev says : Placed Sequenced → List Said
    says = said_of group partition

    abbrev counts : Placed Sequenced → Bool
    counts p = has_commit log p.item.id p.item.epoch

    abbrev ends : Placed Sequenced → Bool
    ends p = is_ended m p.item

    abbrev ended_said : List Said
    ended_said = filter (is_for group partition) (waiting_of log m.id)

    abbrev said_for : List (Placed Sequenced) → List Said
    said_for ps = filter (is_for group partition) (flat_map said_by ps)

    pending_left : length (said_for (unclosed log)) - length ended_said
        ≡ length (said_for (unclosed (log ++ Control m ∷ [])))
    pending_left =
        let each_of = filter-flat_map (is_for group partition) said_by in
        let parts = length_parts says its other (λ p. ap not (eqb_swap m.id p.item.id))
        (unclosed log) in
        let mine = ap length (each_of (filter its (unclosed log))) in
        let whole = ap length (each_of (unclosed log)) in
        let left = ap length (each_of (filter other (unclosed log))) in
        let now = ap (λ ps. length (said_for ps)) unclosed_left in
        omega (arith, parts, mine, whole, left, now)

    ended_batches : ended_said ≡ flat_map says (filter ends (data_in (placed log)))
    ended_batches =
        filter-flat_map (is_for group partition) said_by (filter its (unclosed log))
        ∙ ap (flat_map says) (open_are_ended m 0 log (closes log each all m appends))

    commits : m.outcome ≡ Commit
        → latest (last_of (said_for (filter counts (data_in (placed log))))) ended_said
        ≡ last_of (filter (is_for group partition) (counting (log ++ Control m ∷ [])))
    commits commit =
        let batches = data_in (placed log) in
        let each_of = filter-flat_map (is_for group partition) said_by in
        let now = λ (p : Placed Sequenced).
        counts p || is_commit_of p.item.id p.item.epoch (Control m) in
        let said_now : filter now batches ≡ filter (λ p. counts p || ends p) batches =
        filter_agree now (λ p. counts p || ends p) (λ p.
        ap (λ o. counts p || ends p && same_outcome o Commit) commit
        ∙ ap (λ b. counts p || b) (and-true (ends p))) batches in
        ap (λ l. latest (last_of l) ended_said) (each_of (filter counts batches))
        ∙ ap (latest (last_from None (flat_map says (filter counts batches)))) ended_batches
        ∙ merged says (said_stands group partition) counts ends
        (no_commit log each all m appends) 0 batches None (data_in_order 0 0 log (omega arith)) tt
        ∙ sym (ap last_of (ap (filter (is_for group partition)) (counting-push log (Control m)
        ∙ ap (flat_map said_by) (append-nil (filter now batches) ∙ said_now))
        ∙ each_of (filter (λ p. counts p || ends p) batches)))

    aborts : m.outcome ≡ Abort → counting (log ++ Control m ∷ []) ≡ counting log
    aborts abort =
        counting_on log (Control m) (λ id epoch.
        ap (λ o. m.id == id && m.epoch == epoch + 1 && same_outcome o Commit) abort
        ∙ and-false (m.id == id && m.epoch == epoch + 1))
        ∙ append-nil (counting log)

    slot_after : (o : Outcome) → m.outcome ≡ o
        → settled_all o group partition (waiting_of log m.id) (slot_of log group partition)
        ≡ slot_of (log ++ Control m ∷ []) group partition
    slot_after Commit e =
        all_commit ended_said (slot_of log group partition)
        ∙ slot_is _ _ _ _ (commits e) pending_left
    slot_after Abort e =
        all_abort ended_said (slot_of log group partition)
        ∙ slot_is _ _ _ _ (sym (ap (λ l. last_of (filter (is_for group partition) l)) (aborts e)))
        pending_left

  waiting_left : (id : ℕ) → waiting_of (log ++ Control m ∷ []) id
      ≡ cond (id == m.id) [] (waiting_of log id)
  waiting_left id =
      ap (λ ps. flat_map said_by (filter (λ p. p.item.id == id) ps)) unclosed_left
      ∙ ap (flat_map said_by) (left_of id m.id (id == m.id) refl (unclosed log))
      ∙ none_of (id == m.id)
    where
      none_of : (b : Bool)
          → flat_map said_by (cond b [] (filter (λ p. p.item.id == id) (unclosed log)))
          ≡ cond b [] (waiting_of log id)
      none_of true = refl
      none_of false = refl

  pub ended_stands : StandsFor (ended m.id m.outcome kept) (log ++ Control m ∷ [])
  ended_stands = record {
    slots = λ group partition.
        ap (λ w. settled_all m.outcome group partition w (kept.slot group partition))
        (stands.waiting m.id)
        ∙ ap (settled_all m.outcome group partition (waiting_of log m.id))
        (stands.slots group partition)
        ∙ slot_after group partition m.outcome refl;
    waiting = λ id. ap (λ l. cond (id == m.id) [] l) (stands.waiting id)
        ∙ sym (waiting_left id);
  }

pub marker_stands : (kept : Kept) (log : List Stored) (marker : Marker)
    → StandsFor kept (entries log) → IsGrown log → AllInTransactions (entries log)
    → judge_marker (entries log) marker ≡ Appends
    → StandsFor (ended marker.id marker.outcome kept) (entries log ++ Control marker ∷ [])
marker_stands kept log marker stands grown all appends =
    ended_stands kept (entries log) (each_admitted log grown) all marker appends stands
