-- A fenced transaction is never decided to commit, whatever the coordinator writes.
use Rattle.std.proofs.Common.{◌≡◌, ◌≢◌, ◌⊎◌, ℕ, ◌+◌, ◌<◌, ◌≤◌, Bool, true, false, cond, List}
use Rattle.std.proofs.Common.{[]}
use Rattle.std.proofs.Common.{◌∷◌, ◌++◌, Option, Some, None, ◌==◌, Contains, refl, sym, ap, ◌∙◌}
use Rattle.std.proofs.Common.{subst}
use Rattle.std.proofs.Common.{inl, inr, ⊎_elim, arith, nat_lt}
use Rattle.std.specs.Prelude.{is_some}
use Rattle.std.specs.Option.{option_or}
use Rattle.std.proofs.lemmas.Bool.{and_parts, or_cases}
use Rattle.std.proofs.lemmas.Bool.Decides.{nat_tests}
use Rattle.std.proofs.lemmas.List.Elements.{Contains-append_left, Contains-append_right}
use Rattle.kx_message.specs.declared.message.Message.{Message}
use Rattle.kx_message.specs.declared.outcome.Outcome.{Outcome}
use Rattle.kx_message.specs.declared.outcome.Outcome.TheVariants.{Abort, Commit}
use Rattle.kx_model.specs.Coordinator.{Row, TxnEntry, Written, Cause}
use Rattle.kx_model.specs.Coordinator.{Fenced, decision, ends, first_row, is_fencing}
use Rattle.kx_model.specs.Coordinator.{is_past, outcome_in, outcome_of, row_if, row_of}
use Rattle.kx_model.specs.Headline.{HasOneOutcome}
use Rattle.kx_model.specs.Log.{Control, Marker}
use Rattle.kx_model.specs.Requests.{completed, first_use, prepared, with_added}
use Rattle.kx_model.specs.World.{World, entries_at, notes}
use Rattle.kx_model.proofs.Notes.{decision_stays}
use Rattle.kx_headline.proofs.CoordinatorFollows.{Follows, Reason, by_end, by_init, by_expiry}
use Rattle.kx_headline.proofs.CoordinatorFollows.{opens, allots, begins, adds, prepares, takes_over}
use Rattle.kx_headline.proofs.CoordinatorFollows.{gives_up, completes, decides_completed}
use Rattle.kx_headline.proofs.CoordinatorFollows.{ending_range, given_up, is_completed, sound_next}
use Rattle.kx_headline.proofs.CoordinatorFollows.{taken_over}
use Rattle.kx_headline.proofs.CoordinatorGrows.{History, none, more, history_sound}
use Rattle.kx_headline.proofs.CoordinatorGrows.{no_first_row}
use Rattle.kx_headline.proofs.CoordinatorRows.{IsFound, Ends, one_higher, replaced, Names, own}
use Rattle.kx_headline.proofs.CoordinatorRows.{previous, ends_decided, ends_tells, first_row-push}
use Rattle.kx_headline.proofs.CoordinatorRows.{first_row_found, not_decided, outcome_some}
use Rattle.kx_headline.proofs.CoordinatorRows.{row_of-found}
use Rattle.kx_headline.proofs.CoordinatorSound.{NotPast, newer_id, same_id, Sound}
use Rattle.kx_laws.proofs.Membership.{contains_head}

------ where a list is parted

-- one more item at the end of a list that is parted at x: it is x itself, or x stood before
parted : {A : Type 0} (log earlier later : List A) (n x : A)
    → log ++ n ∷ [] ≡ earlier ++ x ∷ later
    → ((log ≡ earlier) × (n ≡ x)) ⊎ ((rest : List A) × (log ≡ earlier ++ x ∷ rest))
parted [] [] later n x e = inl (refl, head later e)
  where
    head : (later : List _) → n ∷ [] ≡ x ∷ later → n ≡ x
    head later e = cc
parted [] (y ∷ earlier) later n x e = absurd (empty earlier (tail e))
  where
    tail : n ∷ [] ≡ y ∷ (earlier ++ x ∷ later) → [] ≡ earlier ++ x ∷ later
    tail e = cc

    empty : (earlier : List _) → [] ≡ earlier ++ x ∷ later → ⊥
    empty [] e = cc
    empty (z ∷ zs) e = cc
parted (l ∷ log) [] later n x e = inr (log, cc)
parted (l ∷ log) (y ∷ earlier) later n x e =
    ⊎_elim (λ p. inl (cc, p.1)) (λ p. inr (p.0, cc)) (parted log earlier later n x (tail e))
  where
    tail : l ∷ (log ++ n ∷ []) ≡ y ∷ (earlier ++ x ∷ later)
        → log ++ n ∷ [] ≡ earlier ++ x ∷ later
    tail e = cc

------ what is barred

-- the same as Fenced, for each id that some row of the transactional id names
record Barred (log : List TxnEntry) (id epoch : ℕ) : Type 0 where
  earlier : List TxnEntry
  later : List TxnEntry
  named : Row
  fence : Row
  parts : log ≡ earlier ++ Written fence ∷ later
  written : Contains log (Written named)
  names : Names named id
  same_txn : fence.txn ≡ named.txn
  cause : is_fencing fence.cause ≡ true
  past : is_past id epoch fence ≡ true
  undecided : decision earlier id epoch ≡ None

-- a row that isn't past another, whose pair isn't above, isn't past that pair
not_both : (id epoch : ℕ) (f s : Row) → is_past id epoch f ≡ true → NotPast f s → s.id ≡ id
    → s.epoch ≤ epoch → ⊥
not_both id epoch f s p n i e =
    ⊎_elim (λ a. at_id a n)
    (λ a. let b = and_parts (f.id == id) _ a in
    at_epoch (grind (arith, nat_tests, b.0)) (grind (arith, nat_tests, b.1)) n)
    (or_cases _ _ p)
  where
    at_id : nat_lt id f.id ≡ true → NotPast f s → ⊥
    at_id a (newer_id x) = grind (arith, nat_tests)
    at_id a (same_id x y) = grind (arith, nat_tests)

    at_epoch : f.id ≡ id → epoch < f.epoch → NotPast f s → ⊥
    at_epoch a b (newer_id x) = omega arith
    at_epoch a b (same_id x y) = omega arith

------ what one row decides

abbrev decides_now : TxnEntry → ℕ → ℕ → Option Outcome
decides_now note id epoch = outcome_in (row_if (ends id epoch) note)

-- what a row decides, it ends
it_ends : (r : Row) (id epoch : ℕ) (o : Outcome) → decides_now (Written r) id epoch ≡ Some o
    → ends id epoch r ≡ true
it_ends r id epoch o h = at (ends id epoch r) h
  where
    at : (b : Bool) → outcome_in (cond b (Some r) None) ≡ Some o → b ≡ true
    at true h = refl
    at false h = cc

undecided_row : (r : Row) (id epoch : ℕ) (o : Outcome) → is_some (outcome_of r.state) ≡ false
    → decides_now (Written r) id epoch ≡ Some o → ⊥
undecided_row r id epoch o h d = not_decided id epoch r h (it_ends r id epoch o d)

aborted_row : (r : Row) (id epoch : ℕ) → outcome_of r.state ≡ Some Abort
    → decides_now (Written r) id epoch ≡ Some Commit → ⊥
aborted_row r id epoch h d = at (ends id epoch r) d
  where
    at : (b : Bool) → outcome_in (cond b (Some r) None) ≡ Some Commit → ⊥
    at true k = cc
    at false k = cc

-- a row written by a fence or an expiry doesn't commit
fencing_aborts : {sent : List Message} {s : Row} (o : Outcome) (cause : Cause)
    → Reason sent s o cause → is_fencing cause ≡ true → o ≡ Abort
fencing_aborts o cause (by_end p c m) h = absurd cc
fencing_aborts o cause by_init h = refl
fencing_aborts o cause by_expiry h = refl

fence_aborts : {sent : List Message} (log : List TxnEntry) (note : TxnEntry) (f : Row)
    (id epoch : ℕ)
    → Follows sent log note → note ≡ Written f → is_fencing f.cause ≡ true
    → decides_now note id epoch ≡ Some Commit → ⊥
fence_aborts log note f id epoch (opens low) e c d = cc
fence_aborts log note f id epoch (allots caller t m) e c d = cc
fence_aborts log note f id epoch (begins txn caller t first m) e c d =
    undecided_row (first_use log caller.client txn t) id epoch Commit refl d
fence_aborts log note f id epoch (adds s start p found active m) e c d =
    undecided_row (with_added s start p) id epoch Commit refl d
fence_aborts log note f id epoch (prepares s o cause found going why) e c d =
    let same : prepared log s o cause ≡ f = cc in
    aborted_row (prepared log s o cause) id epoch
    (ap Some (fencing_aborts o cause why
    (subst (λ x. is_fencing x ≡ true) (sym (ap (λ x. x.cause) same)) c))) d
fence_aborts log note f id epoch (takes_over s caller t found resting above m) e c d =
    undecided_row (taken_over log s caller.client t) id epoch Commit refl d
fence_aborts log note f id epoch (gives_up s caller found resting m) e c d =
    aborted_row (given_up log s) id epoch refl d
fence_aborts log note f id epoch (completes s o found was m) e c d =
    let same : completed log s o ≡ f = cc in
    no_fence (subst (λ x. is_fencing x ≡ true) (sym (ap (λ x. x.cause) same)) c)
  where
    no_fence : false ≡ true → ⊥
    no_fence h = cc

module _ {log : List TxnEntry} (sound : Sound log) where
  fence_behind : (f s : Row) → Contains log (Written f) → f.txn ≡ s.txn
      → row_of log s.txn ≡ Some s → NotPast f s
  fence_behind f s c e found =
      let (t, t_found, np) = sound.current f c in
      subst (NotPast f) (some_same t (sym t_found ∙ ap (row_of log) e ∙ found)) np
    where
      some_same : (t : Row) → Some t ≡ Some s → t ≡ s
      some_same t h = cc

  -- a commit that the next note decides is that of a last row, whose pair no fence is past
  commits_late : {sent : List Message} (note : TxnEntry) (f : Row) (id epoch : ℕ)
      → Follows sent log note
      → Contains log (Written f) → is_past id epoch f ≡ true
      → ((s : Row) → row_of log s.txn ≡ Some s → s.id ≡ id → f.txn ≡ s.txn)
      → decision log id epoch ≡ None → decides_now note id epoch ≡ Some Commit → ⊥
  commits_late note f id epoch (opens low) c p t u d = cc
  commits_late note f id epoch (allots caller tt m) c p t u d = cc
  commits_late note f id epoch (begins txn caller time first m) c p t u d =
      undecided_row (first_use log caller.client txn time) id epoch Commit refl d
  commits_late note f id epoch (adds s start q found active m) c p t u d =
      undecided_row (with_added s start q) id epoch Commit refl d
  commits_late note f id epoch (prepares s o cause found going why) c p t u d =
      at (ends_tells id epoch (prepared log s o cause)
      (it_ends (prepared log s o cause) id epoch Commit d))
    where
      at : Ends id epoch (prepared log s o cause) → ⊥
      at (one_higher a b e) =
          not_both id epoch f s p (fence_behind f s c (t s found a) found) a (omega arith)
      at (replaced a b e g) = cc
  commits_late note f id epoch (takes_over s caller time found resting above m) c p t u d =
      undecided_row (taken_over log s caller.client time) id epoch Commit refl d
  commits_late note f id epoch (gives_up s caller found resting m) c p t u d =
      aborted_row (given_up log s) id epoch refl d
  commits_late note f id epoch (completes s o found was m) c p t u d =
      let r = completed log s o in
      let e = it_ends r id epoch Commit d in
      let done = is_completed log s o (ending_range sound found r o was).1 in
      let x = decides_completed sound found r o was done id epoch (ends_tells id epoch r e) in
      differ (sym u ∙ x)
    where
      differ : {o : Outcome} → None ≡ Some o → ⊥
      differ h = cc

------ what is decided next

none_first : (log : List TxnEntry) (id epoch : ℕ) → decision log id epoch ≡ None
    → first_row (ends id epoch) log ≡ None
none_first log id epoch d =
    at (first_row (ends id epoch) log) d (first_row_found (ends id epoch) log)
  where
    at : (o : Option Row) → outcome_in o ≡ None → IsFound (ends id epoch) log o → o ≡ None
    at None e f = refl
    at (Some q) e f =
        let (o, is_o) = outcome_some q.state (ends_decided id epoch q f.1) in absurd cc

-- the row that decides names the id
decider : (log : List TxnEntry) (id epoch : ℕ) (o : Outcome) → decision log id epoch ≡ Some o
    → (q : Row) × Contains log (Written q) × Names q id
decider log id epoch o d =
    at (first_row (ends id epoch) log) d (first_row_found (ends id epoch) log)
  where
    names : (q : Row) → Ends id epoch q → Names q id
    names q (one_higher a b c) = own a
    names q (replaced a b c e) = previous b

    at : (r : Option Row) → outcome_in r ≡ Some o → IsFound (ends id epoch) log r
        → (q : Row) × Contains log (Written q) × Names q id
    at None e f = absurd cc
    at (Some q) e f = (q, f.0, names q (ends_tells id epoch q f.1))

pub decision_next : (log : List TxnEntry) (note : TxnEntry) (id epoch : ℕ) →
    decision log id epoch ≡ None
    → decision (log ++ note ∷ []) id epoch ≡ outcome_in (row_if (ends id epoch) note)
decision_next log note id epoch d =
    ap outcome_in (first_row-push (ends id epoch) log note
    ∙ ap (λ o. option_or o (row_if (ends id epoch) note)) (none_first log id epoch d))

------ what is barred is never decided to commit

abbrev NeverBarred : List TxnEntry → Type 0
NeverBarred log = (id epoch : ℕ) → Barred log id epoch → decision log id epoch ≡ Some Commit → ⊥

module _ {sent : List Message} (mid : List TxnEntry) (note : TxnEntry) (mid_sound : Sound mid)
    (f : Follows sent mid note) (ih : NeverBarred mid) (id epoch : ℕ)
    (b : Barred (mid ++ note ∷ []) id epoch)
    (d : decision (mid ++ note ∷ []) id epoch ≡ Some Commit) where
  -- the fence is the last note
  fenced_now : (mid ≡ b.earlier) × (note ≡ Written b.fence) → ⊥
  fenced_now (same, is_fence) =
      let un : decision mid id epoch ≡ None = ap (λ l. decision l id epoch) same ∙ b.undecided in
      fence_aborts mid note b.fence id epoch f is_fence b.cause
      (sym (decision_next mid note id epoch un) ∙ d)

  -- it stood before
  fenced_before : (rest : List TxnEntry) × (mid ≡ b.earlier ++ Written b.fence ∷ rest) → ⊥
  fenced_before (rest, parts) = at (decision mid id epoch) refl
    where
      there : Contains mid (Written b.fence)
      there = subst (λ l. Contains l (Written b.fence)) (sym parts)
          (Contains-append_right b.earlier (Written b.fence ∷ rest) (Written b.fence)
          (contains_head (Written b.fence) rest))

      same_txn : (q : Row) → Contains mid (Written q) → Names q id → b.fence.txn ≡ q.txn
      same_txn q c n = b.same_txn ∙ (sound_next mid_sound f).one_txn b.named q id b.written
          (Contains-append_left mid (note ∷ []) (Written q) c) b.names n

      at : (o : Option Outcome) → decision mid id epoch ≡ o → ⊥
      at None e =
          commits_late mid_sound note b.fence id epoch f there b.past
          (λ s found i. same_txn s (row_of-found mid s.txn s found).0 (own i)) e
          (sym (decision_next mid note id epoch e) ∙ d)
      at (Some o) e =
          let (q, c, n) = decider mid id epoch o e in
          let commits : decision mid id epoch ≡ Some Commit =
          e ∙ sym (decision_stays mid (note ∷ []) id epoch o e) ∙ d in
          ih id epoch (record {
            earlier = b.earlier;
            later = rest;
            named = q;
            fence = b.fence;
            parts = parts;
            written = c;
            names = n;
            same_txn = same_txn q c n;
            cause = b.cause;
            past = b.past;
            undecided = b.undecided;
          }) commits

  barred_next : ⊥
  barred_next = ⊎_elim fenced_now fenced_before
      (parted mid b.earlier b.later note (Written b.fence) b.parts)

barred_never : {sent : List Message} {log : List TxnEntry} → History sent log → NeverBarred log
barred_never none id epoch b d =
    no_first_row b.fence (subst (λ l. Contains l (Written b.fence)) (sym b.parts)
    (Contains-append_right b.earlier (Written b.fence ∷ b.later) (Written b.fence)
    (contains_head (Written b.fence) b.later)))
barred_never (more mid note g n) id epoch b d =
    barred_next mid note (history_sound g) n.follows (barred_never g) id epoch b d

-- what was fenced before it was decided is never decided to commit
pub fenced_never : {sent : List Message} {log : List TxnEntry} → History sent log → (id epoch : ℕ)
    → Fenced log id epoch → decision log id epoch ≢ Some Commit
fenced_never g id epoch f d =
    barred_never g id epoch (record {
      earlier = f.earlier;
      later = f.later;
      named = f.own;
      fence = f.fence;
      parts = f.parts;
      written = f.written;
      names = own f.its_own;
      same_txn = f.same_txn;
      cause = f.cause;
      past = f.past;
      undecided = f.undecided;
    }) d

-- and no log has its commit marker, if each marker has the outcome that was decided
pub no_commit_marker : (w : World) → HasOneOutcome w → (id epoch : ℕ)
    → decision (notes w) id epoch ≢ Some Commit → (p : ℕ) (m : Marker)
    → Contains (entries_at w p) (Control m) → m.id ≡ id → m.epoch ≡ epoch + 1
    → m.outcome ≡ Abort
no_commit_marker w one id epoch un p m c i e = at m.outcome refl
  where
    at : (o : Outcome) → m.outcome ≡ o → o ≡ Abort
    at Abort is = refl
    at Commit is =
        let (k, k_is, says) = one.decided p m c in
        let same : k ≡ epoch = omega arith in
        absurd (un (ap (λ x. decision (notes w) x epoch) (sym i)
        ∙ ap (decision (notes w) m.id) (sym same) ∙ says ∙ ap Some is))
