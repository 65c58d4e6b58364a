-- Each marker of a log has the outcome that the coordinator decided: its partition was told so, and
-- was told by a row that ends the transaction.
use Rattle.std.proofs.Common.{List, ◌≡◌, ℕ, zero, suc, ℤ, ◌+◌, ◌≤◌, Some}
use Rattle.std.proofs.Common.{Contains}
use Rattle.std.proofs.Common.{refl}
use Rattle.std.proofs.Common.{sym, ap, ◌∙◌, subst, arith}
use Rattle.std.specs.Prelude.{is_some}
use Rattle.std.proofs.lemmas.List.Elements.{All-contains}
use Rattle.kx_message.specs.declared.message.Held.{Held}
use Rattle.kx_message.specs.declared.message.Message.{Message}
use Rattle.kx_message.specs.Messages as the
use Rattle.kx_message.specs.declared.outcome.Outcome.{Outcome}
use Rattle.kx_model.specs.Coordinator.{TxnEntry, decision, outcome_of}
use Rattle.kx_model.specs.Headline.{HasOneOutcome}
use Rattle.kx_model.specs.Log.{Control, Marker}
use Rattle.kx_model.specs.World.{World, entries_at, notes}
use Rattle.kx_headline.proofs.CoordinatorAlways.{CoordinatorStands, stands_sound}
use Rattle.kx_headline.proofs.CoordinatorDoes.{Marks, Says}
use Rattle.kx_headline.proofs.CoordinatorRows.{ends_own}
use Rattle.kx_headline.proofs.CoordinatorSound.{Sound}

-- the marker was asked for by a message
pub record IsAsked (w : World) (m : Marker) : Type 0 where
  pub partition : ℕ
  pub txn : List ℕ
  pub asked : Contains w.sent (the.WriteMarker partition txn
      (record { id = m.id; epoch = m.epoch }) m.coordinator m.outcome)

-- each marker of a log was asked for
abbrev pub AreAsked : World → Type 0
AreAsked w = (p : ℕ) (m : Marker) → Contains (entries_at w p) (Control m) → IsAsked w m

-- a marker's outcome is that of its transaction, whose epoch is one less
pub record IsDecided (log : List TxnEntry) (id epoch : ℕ) (outcome : Outcome) : Type 0 where
  pub own_epoch : ℕ
  pub one_less : epoch ≡ own_epoch + 1
  pub decided : decision log id own_epoch ≡ Some outcome

one_below : (n : ℕ) → 1 ≤ n → (m : ℕ) × (n ≡ m + 1)
one_below zero h = absurd (omega arith)
one_below (suc m) h = (m, omega arith)

-- a row that waits for its markers says what is decided
pub marks_decided : (log : List TxnEntry) (p : ℕ) (held : Held) (coordinator : ℤ)
    (outcome : Outcome)
    → Sound log → Marks log p held coordinator outcome
    → IsDecided log held.id held.epoch outcome
marks_decided log p held coordinator outcome sound marks =
    let r = marks.row in
    let low = ((sound.shape r marks.written).ending outcome marks.waits).0 in
    let (epoch, e) = one_below r.epoch low in
    let it_ends = ends_own r.id epoch r refl e
    (ap (λ st. is_some (outcome_of st)) marks.waits) in
    subst (λ h. IsDecided log h.id h.epoch outcome) (sym marks.its_pair) (record {
      own_epoch = epoch;
      one_less = e;
      decided =
          sound.decided r r.id epoch marks.written it_ends ∙ ap outcome_of marks.waits;
    })

module _ (w : World) (stands : CoordinatorStands w) where
  says : (m : Message) → Contains w.sent m → Says w.sent (notes w) m
  says m c = All-contains (Says w.sent (notes w)) w.sent m stands.says c

  asked_decided : (p : ℕ) (txn : List ℕ) (held : Held) (coordinator : ℤ) (outcome : Outcome)
      → Says w.sent (notes w) (the.WriteMarker p txn held coordinator outcome)
      → IsDecided (notes w) held.id held.epoch outcome
  asked_decided p txn held k outcome marks =
      marks_decided (notes w) p held k outcome (stands_sound stands) marks

  pub marker_decided : (m : Marker) → IsAsked w m → IsDecided (notes w) m.id m.epoch m.outcome
  marker_decided m a =
      let held : Held = record { id = m.id; epoch = m.epoch } in
      asked_decided a.partition a.txn held m.coordinator m.outcome
      (says (the.WriteMarker a.partition a.txn held m.coordinator m.outcome) a.asked)

same_outcomes : (o u : Outcome) → Some o ≡ Some u → o ≡ u
same_outcomes o u e = cc

decided_alike : (w : World) (m n : Marker) → IsDecided (notes w) m.id m.epoch m.outcome
    → IsDecided (notes w) n.id n.epoch n.outcome → m.id ≡ n.id → m.epoch ≡ n.epoch
    → m.outcome ≡ n.outcome
decided_alike w m n a b i e =
    let less = a.one_less in let less' = b.one_less in
    let same : a.own_epoch ≡ b.own_epoch = omega arith in
    same_outcomes m.outcome n.outcome
    (sym a.decided ∙ ap (λ id. decision (notes w) id a.own_epoch) i
    ∙ ap (decision (notes w) n.id) same ∙ b.decided)

-- all markers of a transaction have its outcome
pub has_one_outcome : (w : World) → CoordinatorStands w → AreAsked w → HasOneOutcome w
has_one_outcome w stands asked = record {
  agree = λ p q m n c d i e.
      decided_alike w m n (marker_decided w stands m (asked p m c))
      (marker_decided w stands n (asked q n d)) i e;
  decided = λ p m c. let d = marker_decided w stands m (asked p m c) in
      (d.own_epoch, d.one_less, d.decided);
}
