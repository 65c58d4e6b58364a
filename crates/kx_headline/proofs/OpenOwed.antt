-- Each open transaction of a log is owed its marker: its partition was told that it is listed, and
-- an answered marker would have closed it.
use Rattle.std.proofs.Common.{sym, ◌≡◌, ℕ, ◌+◌, ◌≤◌, List, true}
use Rattle.std.proofs.Common.{Contains}
use Rattle.std.proofs.Common.{subst, ⊎_elim, arith}
use Rattle.std.proofs.lemmas.List.Elements.{All-contains}
use Rattle.kx_message.specs.declared.code.ErrorCode.TheVariants.{NoError}
use Rattle.kx_message.specs.declared.message.Held.{Held}
use Rattle.kx_message.specs.Messages as the
use Rattle.kx_model.specs.Coordinator.{owed}
use Rattle.kx_model.specs.Log.{Data, Placed, Sequenced}
use Rattle.kx_model.specs.Producers.{epoch_of}
use Rattle.kx_model.specs.Transactions.{open_transactions, unclosed}
use Rattle.kx_model.specs.World.{World, entries_at, log_at, notes}
use Rattle.kx_headline.proofs.CoordinatorAlways.{CoordinatorStands, stands_sound}
use Rattle.kx_headline.proofs.CoordinatorDoes.{Says}
use Rattle.kx_headline.proofs.CoordinatorTables.{Listed}
use Rattle.kx_laws.proofs.AbortedTransactions.{first_is_listed}
use Rattle.kx_headline.proofs.LogCauses.{transactional_is_added}
use Rattle.kx_headline.proofs.MarkersFit.{markers_fit}
use Rattle.kx_laws.proofs.Membership.{in_the_middle}
use Rattle.kx_laws.proofs.OpenBatches.{listed_stands}
use Rattle.kx_laws.proofs.OpenTop.{open_at_top}
use Rattle.kx_headline.proofs.PartitionHolds.{Built, built_grown}
use Rattle.kx_laws.proofs.LogRules.{AtLeast}
use Rattle.kx_headline.proofs.OwedRows.{IsAnswered, owed_is, owes}

-- an answered marker has brought its id to its epoch
abbrev pub AnsweredReached : World → Type 0
AnsweredReached w = (p : ℕ) (txn : List ℕ) (held : Held)
    → Contains w.sent (the.MarkerReply p txn held NoError)
    → AtLeast held.epoch (epoch_of (entries_at w p) held.id)

-- an open transaction of a partition is owed its marker
pub open_owed : (w : World) → CoordinatorStands w → AnsweredReached w → (p : ℕ)
    → Built w.sent p (log_at w p) → (opened : Placed Sequenced)
    → Contains (open_transactions (entries_at w p)) opened
    → owed (notes w) p opened.item.id opened.item.epoch ≡ true
open_owed w stands reached p built opened c =
    ⊎_elim (owed_is (notes w) (stands_sound stands) p d.id d.epoch) (λ done. absurd (closed done))
    (owes stands.coordinator.history p d.id d.epoch listed)
  where
    d : Sequenced
    d = opened.item

    is_open : Contains (unclosed (entries_at w p)) opened
    is_open = first_is_listed (unclosed (entries_at w p)) opened c

    listed : Listed (notes w) p opened.item.id opened.item.epoch
    listed =
        let s = listed_stands 0 (entries_at w p) opened is_open in
        let there = subst (λ l. Contains l (Data opened.item)) (sym s.parts)
        (in_the_middle s.before s.after (Data opened.item)) in
        let a = transactional_is_added w.sent p (markers_fit w stands) (log_at w p) opened.item
        built there s.transactional in
        let held : Held = record { id = opened.item.id; epoch = opened.item.epoch } in
        (All-contains (Says w.sent (notes w)) w.sent
        (the.AddReply p a.txn held NoError) stands.says
        a.handed).0

    closed : IsAnswered w.sent p opened.item.id (opened.item.epoch + 1) → ⊥
    closed done =
        let grown = built_grown w.sent p (log_at w p) (markers_fit w stands) built in
        let held : Held = record { id = opened.item.id; epoch = opened.item.epoch + 1 } in
        let h : opened.item.epoch + 1 ≤ opened.item.epoch =
        subst (AtLeast (opened.item.epoch + 1)) (open_at_top (log_at w p) grown opened is_open)
        (reached p done.txn held done.answered) in
        omega arith
