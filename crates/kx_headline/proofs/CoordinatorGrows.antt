-- Logs that the coordinator grows: note by note, each of which may be written next.
use Rattle.std.proofs.Common.{◌≡◌, ℕ, ℤ, pos, negsuc, zero, suc, ◌+ℤ◌, ◌<ℤ◌, ◌^◌, ◌≤◌, false}
use Rattle.std.proofs.Common.{List}
use Rattle.std.proofs.Common.{[], ◌∷◌, ◌++◌}
use Rattle.std.proofs.Common.{Option, Some, None, Contains, sym, subst, ⊎_elim}
use Rattle.std.proofs.Common.{arith}
use Rattle.std.proofs.Common.{IfSome, option_to_list, append-nil, lit≤}
use Rattle.std.specs.Prelude.{FitsSigned}
use Rattle.std.specs.Int.{w32}
use Rattle.std.proofs.Math.Facts.{sfits_lit}
use Rattle.std.proofs.Math.IntN.{+ℤ_one}
use Rattle.std.proofs.lemmas.Bool.Decides.{nat_tests}
use Rattle.std.proofs.lemmas.Int.{ints}
use Rattle.std.proofs.lemmas.List.Elements.{Contains-append_left}
use Rattle.kx_message.specs.declared.message.Message.{Message}
use Rattle.kx_message.specs.declared.outcome.Outcome.{Outcome}
use Rattle.kx_model.specs.Coordinator.{Row, TxnEntry, CoordinatorEpoch, Written, above_ids}
use Rattle.kx_model.specs.Coordinator.{coordinator_epoch, decision, epoch_after, next_id}
use Rattle.kx_model.specs.CoordinatorNode.{has_no_id}
use Rattle.kx_model.specs.Markers.{greatest_epoch}
use Rattle.kx_model.proofs.Notes.{coordinator_epoch-push, decision_stays, next_id-push}
use Rattle.kx_headline.proofs.CoordinatorFollows.{Follows, opens, allots, begins, adds, prepares}
use Rattle.kx_headline.proofs.CoordinatorFollows.{takes_over, gives_up, completes, follows_later}
use Rattle.kx_headline.proofs.CoordinatorFollows.{sound_next}
use Rattle.kx_headline.proofs.CoordinatorSound.{Sound}
use Rattle.kx_laws.proofs.Membership.{cons_cases, no_element}

-- the note may be written next, and its ids are in range
pub record Next (sent : List Message) (log : List TxnEntry) (note : TxnEntry) : Type 0 where
  pub follows : Follows sent log note
  pub has_id : has_no_id note ≡ false

pub data Grows (sent : List Message) (log : List TxnEntry) : List TxnEntry → Type 0 where
  none : Grows sent log log
  more : (later : List TxnEntry) (note : TxnEntry) → Grows sent log later → Next sent later note
      → Grows sent log (later ++ note ∷ [])

pub grows_trans : {sent : List Message} {a b c : List TxnEntry} → Grows sent a b → Grows sent b c
    → Grows sent a c
grows_trans g none = g
grows_trans g (more mid note h n) = more mid note (grows_trans g h) n

------ when more was sent

pub next_later : {sent later : List Message} {log : List TxnEntry} {note : TxnEntry}
    → ((m : Message) → Contains sent m → Contains later m) → Next sent log note
    → Next later log note
next_later up n = record { follows = follows_later up n.follows; has_id = n.has_id }

pub grows_later : {sent later : List Message} {a b : List TxnEntry}
    → ((m : Message) → Contains sent m → Contains later m) → Grows sent a b → Grows later a b
grows_later up none = none
grows_later up (more mid note g n) = more mid note (grows_later up g) (next_later up n)

------ what stands

pub note_grows : {sent : List Message} {log later : List TxnEntry} → Grows sent log later
    → (note : TxnEntry) → Contains log note → Contains later note
note_grows none note c = c
note_grows (more mid last g n) note c =
    Contains-append_left mid (last ∷ []) note (note_grows g note c)

pub decision_grows : {sent : List Message} {log later : List TxnEntry} → Grows sent log later
    → (id epoch : ℕ) (o : Outcome) → decision log id epoch ≡ Some o
    → decision later id epoch ≡ Some o
decision_grows none id epoch o d = d
decision_grows (more mid note g n) id epoch o d =
    decision_stays mid (note ∷ []) id epoch o (decision_grows g id epoch o d)

pub sound_grows : {sent : List Message} {log later : List TxnEntry} → Sound log
    → Grows sent log later → Sound later
sound_grows sound none = sound
sound_grows sound (more mid note g n) = sound_next (sound_grows sound g) n.follows

pub reread_grows : {sent : List Message} (log : List TxnEntry) (hidden : Option TxnEntry)
    → IfSome hidden (Next sent log) → Grows sent log (log ++ option_to_list hidden)
reread_grows {sent} log None n = subst (Grows sent log) (sym (append-nil log)) none
reread_grows log (Some note) n = more log note none n

------ a coordinator's whole log

-- the log has grown from its first opening
abbrev pub History : List Message → List TxnEntry → Type 0
History sent log = Grows sent (CoordinatorEpoch (pos 1) ∷ []) log

pub no_first_row : (r : Row) → Contains (CoordinatorEpoch (pos 1) ∷ []) (Written r) → ⊥
no_first_row r c =
    ⊎_elim (λ e. cc) (no_element (Written r))
    (cons_cases (CoordinatorEpoch (pos 1)) (Written r) [] c)

pub first_sound : Sound (CoordinatorEpoch (pos 1) ∷ [])
first_sound = record {
  current = λ r c. absurd (no_first_row r c);
  one_txn = λ r s id c. absurd (no_first_row r c);
  shape = λ r c. absurd (no_first_row r c);
  decided = λ r id epoch c. absurd (no_first_row r c);
}

pub history_sound : {sent : List Message} {log : List TxnEntry} → History sent log → Sound log
history_sound g = sound_grows first_sound g

-- its ids and the coordinator's epochs fit their fields
pub record InRange (log : List TxnEntry) : Type 0 where
  pub ids : next_id log ≤ 2 ^ 63
  pub epochs : FitsSigned w32 (coordinator_epoch log)

-- one above an epoch that isn't the greatest fits its field
one_above : (e : ℤ) → FitsSigned w32 e → e <ℤ greatest_epoch → FitsSigned w32 (e +ℤ pos 1)
one_above (pos n) fits low = record { sfits = grind (arith, ints, low) }
one_above (negsuc zero) fits low = sfits_lit tt
one_above (negsuc (suc n)) fits low =
    let same : negsuc (suc n) +ℤ pos 1 ≡ negsuc n = +ℤ_one (negsuc (suc n)) in
    subst (FitsSigned w32) (sym same) (record { sfits = omega (arith, fits.sfits) })

in_range_next : {sent : List Message} (mid : List TxnEntry) (note : TxnEntry) → InRange mid
    → Next sent mid note → InRange (mid ++ note ∷ [])
in_range_next {sent} mid note before n = record { ids = ids; epochs = epochs }
  where
    ids : next_id (mid ++ note ∷ []) ≤ 2 ^ 63
    ids =
        let b = before.ids in
        let above : above_ids note ≤ 2 ^ 63 = grind (arith, nat_tests, n.has_id) in
        let e = next_id-push mid note in
        grind arith

    after : (note : TxnEntry) → Follows sent mid note
        → FitsSigned w32 (epoch_after (coordinator_epoch mid) note)
    after note (opens low) = one_above (coordinator_epoch mid) before.epochs low
    after note (allots c t m) = before.epochs
    after note (begins txn c t unused m) = before.epochs
    after note (adds s start p found active m) = before.epochs
    after note (prepares s o cause found going why) = before.epochs
    after note (takes_over s c t found resting above m) = before.epochs
    after note (gives_up s c found resting m) = before.epochs
    after note (completes s o found was m) = before.epochs

    epochs : FitsSigned w32 (coordinator_epoch (mid ++ note ∷ []))
    epochs =
        subst (FitsSigned w32) (sym (coordinator_epoch-push mid note)) (after note n.follows)

pub history_in_range : {sent : List Message} {log : List TxnEntry} → History sent log → InRange log
unfolding next_id coordinator_epoch
history_in_range none = record { ids = lit≤ tt; epochs = sfits_lit tt }
history_in_range (more mid note g n) = in_range_next mid note (history_in_range g) n
