-- What is decided to commit was asked to: an EndTxn of that id and epoch was handed out.
use Rattle.std.proofs.Common.{◌≡◌, ℕ, List, Option, Some, None, Contains}
use Rattle.std.proofs.Common.{ap, ◌∙◌, subst, arith, ⊎_elim}
use Rattle.std.proofs.lemmas.List.Elements.{Contains-push_cases}
use Rattle.kx_message.specs.declared.requests.Caller.{Caller}
use Rattle.kx_message.specs.declared.message.Message.{Message}
use Rattle.kx_message.specs.Messages as the
use Rattle.kx_message.specs.declared.outcome.Outcome.{Outcome}
use Rattle.kx_message.specs.declared.outcome.Outcome.TheVariants.{Commit}
use Rattle.kx_model.specs.Coordinator.{Cause, TxnEntry, Row, Written}
use Rattle.kx_model.specs.Coordinator.{decision, ends, first_row, outcome_in, outcome_of}
use Rattle.kx_model.specs.Requests.{completed, first_use, prepared, with_added}
use Rattle.kx_headline.proofs.CoordinatorFollows as follows
use Rattle.kx_headline.proofs.CoordinatorFollows.{Follows, Reason, completed_ends, given_up}
use Rattle.kx_headline.proofs.CoordinatorFollows.{is_completed, taken_over}
use Rattle.kx_headline.proofs.CoordinatorGrows
use Rattle.kx_headline.proofs.CoordinatorGrows.{Grows, History, first_sound, no_first_row}
use Rattle.kx_headline.proofs.CoordinatorGrows.{sound_grows}
use Rattle.kx_headline.proofs.CoordinatorRows.{Ends, IsFound, ends_tells, first_row_found}
use Rattle.kx_headline.proofs.CoordinatorRows.{one_higher, replaced, row_of-found}
use Rattle.kx_headline.proofs.CoordinatorSound.{Sound}

-- an EndTxn asks for the commit of this id and epoch
pub record CommitAsked (sent : List Message) (id epoch : ℕ) : Type 0 where
  pub caller : Caller
  pub txn : List ℕ
  pub asked : Contains sent (the.EndTxn caller txn
      (record { id = id; epoch = epoch }) Commit)

-- a row that ends a transaction by a commit was asked for
RowAsked : List Message → Row → Type 0
RowAsked sent r =
    outcome_of r.state ≡ Some Commit → (id epoch : ℕ) → Ends id epoch r → CommitAsked sent id epoch

RowsAsked : List Message → List TxnEntry → Type 0
RowsAsked sent log = (r : Row) → Contains log (Written r) → RowAsked sent r

module _ (sent : List Message) (log : List TxnEntry) (sound : Sound log)
    (asked : RowsAsked sent log) where
  by_reason : (s : Row) (o : Outcome) (cause : Cause) → Reason sent s o cause → o ≡ Commit
      → (id epoch : ℕ) → Ends id epoch (prepared log s o cause) → CommitAsked sent id epoch
  by_reason s o cause (follows.by_end u caller m) is id epoch (one_higher a b d) =
      let same : s.epoch ≡ epoch = omega (arith, b) in
      record {
        caller = caller;
        txn = s.txn;
        asked = subst (λ x. Contains sent (the.EndTxn caller s.txn
            (record { id = id; epoch = epoch }) x)) is
            (subst (λ x. Contains sent (the.EndTxn caller s.txn
            (record { id = id; epoch = x }) o)) same
            (subst (λ x. Contains sent (the.EndTxn caller s.txn
            (record { id = x; epoch = s.epoch }) o)) a m));
      }
  by_reason s o cause follows.by_init is id epoch e = absurd cc
  by_reason s o cause follows.by_expiry is id epoch e = absurd cc
  by_reason s o cause r is id epoch (replaced a b d e) = absurd cc

  new_row : (note : TxnEntry) → Follows sent log note → (r : Row) → note ≡ Written r
      → RowAsked sent r
  unfolding RowAsked RowsAsked
  new_row note (follows.opens h) r e = absurd cc
  new_row note (follows.allots caller timeout m) r e = absurd cc
  new_row note (follows.begins txn caller timeout none m) r e =
      let same : first_use log caller.client txn timeout ≡ r = cc in
      subst (RowAsked sent) same (λ o id epoch d. absurd cc)
  new_row note (follows.adds s start p found active m) r e =
      let same : with_added s start p ≡ r = cc in
      subst (RowAsked sent) same (λ o id epoch d. absurd cc)
  new_row note (follows.takes_over s caller t found resting above m) r e =
      let same : taken_over log s caller.client t ≡ r = cc in
      subst (RowAsked sent) same (λ o id epoch d. absurd cc)
  new_row note (follows.gives_up s caller found resting m) r e =
      let same : given_up log s ≡ r = cc in
      subst (RowAsked sent) same (λ o id epoch d. absurd cc)
  new_row note (follows.prepares s o cause found going reason) r e =
      let same : prepared log s o cause ≡ r = cc in
      subst (RowAsked sent) same (λ u id epoch d. let is : o ≡ Commit = cc in
      by_reason s o cause reason is id epoch d)
  new_row note (follows.completes s o found was m) r e =
      let same : completed log s o ≡ r = cc in
      let there = (row_of-found log s.txn s found).0 in
      let top = ((sound.shape s there).ending o was).1 in
      subst (RowAsked sent) same (λ u id epoch d.
      asked s there (ap outcome_of was ∙ u) id epoch (ends_tells id epoch s
      (completed_ends sound found (completed log s o) o was (is_completed log s o top) id epoch
      d)))

same_row : (r s : Row) → Written r ≡ Written s → r ≡ s
same_row r s e = cc

rows_asked : (sent : List Message) (log : List TxnEntry) → History sent log → RowsAsked sent log
unfolding RowAsked RowsAsked
rows_asked sent log CoordinatorGrows.none r there = absurd (no_first_row r there)
rows_asked sent log (CoordinatorGrows.more earlier note g n) r there =
    ⊎_elim (rows_asked sent earlier g r)
    (new_row sent earlier (sound_grows first_sound g) (rows_asked sent earlier g) note n.follows r)
    (Contains-push_cases earlier note (Written r) there)

-- what is decided to commit
pub commit_asked : (sent : List Message) (log : List TxnEntry) → History sent log → (id epoch : ℕ)
    → decision log id epoch ≡ Some Commit → CommitAsked sent id epoch
unfolding RowAsked RowsAsked
commit_asked sent log history id epoch e =
    by (first_row (ends id epoch) log) (first_row_found (ends id epoch) log) e
  where
    by : (o : Option Row) → IsFound (ends id epoch) log o → outcome_in o ≡ Some Commit
        → CommitAsked sent id epoch
    by None found e = absurd cc
    by (Some r) found e =
        rows_asked sent log history r found.0 e id epoch (ends_tells id epoch r found.1)
