-- The batches of a log with an offset of a group and input partition: what one more entry does to
-- them, and which of them are committed, if each of them is ended.
use Rattle.std.proofs.Common.{◌≡◌, ℕ, ◌+◌, Bool, true, false, cond, ◌&&◌, ◌==◌, List, []}
use Rattle.std.proofs.Common.{◌∷◌, ◌++◌, filter, Contains, refl, sym, ap, ◌∙◌, subst}
use Rattle.std.proofs.Common.{arith, append_assoc, append-nil, ⊎_elim}
use Rattle.std.proofs.lemmas.Bool.{and_from, and_parts, false_from_ne_true}
use Rattle.std.proofs.lemmas.Bool.Decides.{nat_tests}
use Rattle.std.proofs.lemmas.Grind.{flat_map-append}
use Rattle.std.proofs.lemmas.List.Elements.{Contains-append_left}
use Rattle.kx_message.specs.declared.outcome.Outcome.TheVariants.{Commit}
use Rattle.kx_model.specs.Coordinator.{same_outcome}
use Rattle.kx_model.specs.Log.{Entry, Plain, Data, Control, Marker, Sequenced}
use Rattle.kx_model.specs.Transactions.{has_commit, is_commit_of}
use Rattle.kx_laws.proofs.ClosedByCommit.{commit_tells, one_marker}
use Rattle.kx_laws.proofs.GrownLogs.{Admits}
use Rattle.kx_laws.proofs.LogRules.{marker_above, marker_epoch}
use Rattle.kx_laws.proofs.Membership.{any_holds, any_keeps, cons_cases, contains_head}
use Rattle.kx_laws.proofs.Membership.{contains_tail, flat_map_holds, no_element}
use Rattle.kx_laws.proofs.Membership.{split_at}
use Rattle.kx_laws.proofs.Splits.{Each}
use Rattle.kx_pipeline.specs.Chain.{committed_after, committed_by, has_offset, is_ended_by}
use Rattle.kx_pipeline.specs.Chain.{offset_batch, offset_batches}

------ lists

pub filter_none : {A : Type 0} (test : A → Bool) (list : List A)
    → ((x : A) → Contains list x → test x ≡ false) → filter test list ≡ []
filter_none test [] none = refl
filter_none test (x ∷ list) none =
    ap (λ b. cond b (x ∷ filter test list) (filter test list)) (none x (contains_head x list))
    ∙ filter_none test list (λ y c. none y (contains_tail x y list c))

pub filter_alike : {A : Type 0} (test other : A → Bool) (list : List A)
    → ((x : A) → Contains list x → test x ≡ other x) → filter test list ≡ filter other list
filter_alike test other [] alike = refl
filter_alike test other (x ∷ list) alike =
    ap (λ b. cond b (x ∷ filter test list) (filter test list)) (alike x (contains_head x list))
    ∙ ap (λ l. cond (other x) (x ∷ l) l)
    (filter_alike test other list (λ y c. alike y (contains_tail x y list c)))

------ one entry more

module _ (group : List ℕ) (q : ℕ) where
  pub offset_batches-push : (log : List Entry) (entry : Entry)
      → offset_batches group q (log ++ entry ∷ [])
      ≡ offset_batches group q log ++ offset_batch group q entry
  offset_batches-push log entry =
      flat_map-append (offset_batch group q) log (entry ∷ [])
      ∙ ap (λ l. offset_batches group q log ++ l) (append-nil (offset_batch group q entry))

  pub committed_after-push : (before log : List Entry) (entry : Entry)
      → committed_after group q before (log ++ entry ∷ [])
      ≡ committed_after group q before log ++ committed_by group q (before ++ log) entry
  committed_after-push before [] entry =
      append-nil (committed_by group q before entry)
      ∙ ap (λ l. committed_by group q l entry) (sym (append-nil before))
  committed_after-push before (first ∷ log) entry =
      ap (λ l. committed_by group q before first ++ l)
      (committed_after-push (before ++ first ∷ []) log entry
      ∙ ap (λ l. committed_after group q (before ++ first ∷ []) log
      ++ committed_by group q l entry) (append_assoc before (first ∷ []) log))
      ∙ sym (append_assoc (committed_by group q before first)
      (committed_after group q (before ++ first ∷ []) log)
      (committed_by group q (before ++ first ∷ log) entry))

  ------ where a batch with an offset stands

  pub record StandsIn (log : List Entry) (batch : Sequenced) : Type 0 where
    pub before : List Entry
    pub behind : List Entry
    pub parts : log ≡ before ++ Data batch ∷ behind
    pub has : has_offset group q batch ≡ true

  one_of : (entry : Entry) (batch : Sequenced) → Contains (offset_batch group q entry) batch
      → (entry ≡ Data batch) × (has_offset group q batch ≡ true)
  one_of (Plain records) batch c = absurd (no_element batch c)
  one_of (Control m) batch c = absurd (no_element batch c)
  one_of (Data d) batch c = by (has_offset group q d) refl c
    where
      by : (has : Bool) → has_offset group q d ≡ has → Contains (cond has (d ∷ []) []) batch
          → (Data d ≡ Data batch) × (has_offset group q batch ≡ true)
      by true e c =
          ⊎_elim (λ same. (ap Data same, ap (has_offset group q) (sym same) ∙ e))
          (λ none. absurd (no_element batch none)) (cons_cases d batch [] c)
      by false e c = absurd (no_element batch c)

  pub stands_in : (log : List Entry) (batch : Sequenced)
      → Contains (offset_batches group q log) batch → StandsIn log batch
  stands_in log batch c =
      let (entry, there, own) = flat_map_holds (offset_batch group q) log batch c in
      let (is, has) = one_of entry batch own in
      let s = split_at log (Data batch) (subst (Contains log) is there) in
      record { before = s.before; behind = s.after; parts = s.parts; has = has }

------ ended batches

-- the marker that ends the batch's transaction stands in the log
pub record IsEnded (log : List Entry) (batch : Sequenced) : Type 0 where
  pub marker : Marker
  pub there : Contains log (Control marker)
  pub its_id : marker.id ≡ batch.id
  pub raised : marker.epoch ≡ batch.epoch + 1

abbrev pub AreEnded : List Entry → List Sequenced → Type 0
AreEnded log batches = (batch : Sequenced) → Contains batches batch → IsEnded log batch

pub ended_later : (log more : List Entry) (batch : Sequenced) → IsEnded log batch
    → IsEnded (log ++ more) batch
ended_later log more batch ended = record {
  marker = ended.marker;
  there = Contains-append_left log more (Control ended.marker) ended.there;
  its_id = ended.its_id;
  raised = ended.raised;
}

-- no marker ends it again
pub ends_once : (log : List Entry) (m : Marker) (batch : Sequenced) → Admits log (Control m)
    → IsEnded log batch → is_ended_by m batch ≡ false
ends_once log m batch may ended =
    false_from_ne_true (is_ended_by m batch)
    (λ e. let h = and_parts (batch.id == m.id) (batch.epoch + 1 == m.epoch) e in
    let same : batch.id ≡ m.id = grind (arith, nat_tests, h.0) in
    let k = ended.marker in
    let above = marker_above log m (Control k) k.epoch may ended.there
    (marker_epoch k m.id (ended.its_id ∙ same)) in
    let raised : batch.epoch + 1 ≡ m.epoch = grind (arith, nat_tests, h.1) in
    omega (arith, above, raised, ended.raised))

pub commit_is : (batch : Sequenced) (m : Marker) → m.id ≡ batch.id → m.epoch ≡ batch.epoch + 1
    → same_outcome m.outcome Commit ≡ true → is_commit_of batch.id batch.epoch (Control m) ≡ true
commit_is batch m ids raised commit =
    let id : (m.id == batch.id) ≡ true = grind (arith, nat_tests, ids) in
    let epoch : (m.epoch == batch.epoch + 1) ≡ true = grind (arith, nat_tests, raised) in
    and_from (m.id == batch.id && m.epoch == batch.epoch + 1) (same_outcome m.outcome Commit)
    (and_from (m.id == batch.id) (m.epoch == batch.epoch + 1) id epoch) commit

-- only the marker that ends it commits it
pub uncommitted : (batch : Sequenced) (m : Marker) → is_ended_by m batch ≡ false
    → is_commit_of batch.id batch.epoch (Control m) ≡ false
uncommitted batch m other =
    false_from_ne_true (is_commit_of batch.id batch.epoch (Control m))
    (λ e. let h = and_parts (m.id == batch.id && m.epoch == batch.epoch + 1)
    (same_outcome m.outcome Commit) e in
    let numbers = and_parts (m.id == batch.id) (m.epoch == batch.epoch + 1) h.0 in
    let id : (batch.id == m.id) ≡ true = grind (arith, nat_tests, numbers.0) in
    let epoch : (batch.epoch + 1 == m.epoch) ≡ true = grind (arith, nat_tests, numbers.1) in
    let is = and_from (batch.id == m.id) (batch.epoch + 1 == m.epoch) id epoch in
    absurd cc)

-- a batch that is ended has the same outcome in a longer log
pub commit_kept : (whole log rest : List Entry) → Each Admits whole → whole ≡ log ++ rest
    → (batch : Sequenced) → IsEnded log batch
    → has_commit whole batch.id batch.epoch ≡ has_commit log batch.id batch.epoch
commit_kept whole log rest each parts batch ended =
    by (has_commit whole batch.id batch.epoch) refl (has_commit log batch.id batch.epoch) refl
  where
    test : Entry → Bool
    test = is_commit_of batch.id batch.epoch

    in_whole : (entry : Entry) → Contains log entry → Contains whole entry
    in_whole entry c =
        subst (λ l. Contains l entry) (sym parts) (Contains-append_left log rest entry c)

    by : (x : Bool) → has_commit whole batch.id batch.epoch ≡ x → (y : Bool)
        → has_commit log batch.id batch.epoch ≡ y → x ≡ y
    by true e true f = refl
    by false e false f = refl
    by false e true f =
        let (entry, c, t) = any_holds test log f in
        let is = any_keeps test whole entry (in_whole entry c) t in
        absurd cc
    by true e false f =
        let (entry, c, t) = any_holds test whole e in
        let k = commit_tells batch.id batch.epoch entry t in
        let m = ended.marker in
        let same = one_marker whole each k.marker m (subst (Contains whole) k.is c)
        (in_whole (Control m) ended.there) (k.its_id ∙ sym ended.its_id)
        (k.raised ∙ sym ended.raised) in
        let commit : same_outcome m.outcome Commit ≡ true =
        ap (λ (x : Marker). same_outcome x.outcome Commit) (sym same)
        ∙ ap (λ o. same_outcome o Commit) k.outcome in
        let is = any_keeps test log (Control m) ended.there
        (commit_is batch m ended.its_id ended.raised commit) in
        absurd cc
