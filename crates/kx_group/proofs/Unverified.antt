-- Offsets whose transaction is yet to be verified begin at sequence 0: no batch of their id and
-- epoch stands in the log.
use Rattle.std.proofs.Common.{◌≡◌, ◌+◌, ℕ, ℤ, pos, true, false, cond, List, [], ◌∷◌}
use Rattle.std.proofs.Common.{◌++◌, length, filter, Contains, ◌==◌, refl, sym, ap, ◌∙◌, subst}
use Rattle.std.proofs.Common.{arith}
use Rattle.std.specs.Prelude.{not}
use Rattle.std.specs.List.{list_any}
use Rattle.std.specs.Ordering.{int_eq}
use Rattle.std.proofs.lemmas.Bool.{and_parts, false_from_ne_true, not-true}
use Rattle.std.proofs.lemmas.Bool.Decides.{nat_tests}
use Rattle.std.proofs.lemmas.List.Elements.{All-contains, All-from_recursion}
use Rattle.kx_commits.specs.Follows.{AllInTransactions, is_in_transaction}
use Rattle.kx_laws.specs.Grown.{IsGrown}
use Rattle.kx_laws.proofs.GrownLogs.{Admits, each_admitted}
use Rattle.kx_laws.proofs.LogRules.{AtLeast, marker_behind, marker_epoch, no_lower, reaches}
use Rattle.kx_laws.proofs.LogRules.{in_order, unverified_opens, unverified_tells}
use Rattle.kx_laws.proofs.Membership.{contains_head, contains_tail, none_holds, split_at}
use Rattle.kx_laws.proofs.OpenBatches.{standing_is_listed}
use Rattle.kx_laws.proofs.Splits.{Each}
use Rattle.kx_laws.proofs.StoredTexts.{judged_as, refused_else}
use Rattle.kx_message.specs.declared.code.ErrorCode.TheVariants as code
use Rattle.kx_message.specs.declared.message.Held.{Held}
use Rattle.kx_message.specs.declared.payload.PartitionOffset.{PartitionOffset}
use Rattle.kx_model.specs.Groups.{generation, is_member, judge_offsets, offsets_batch}
use Rattle.kx_model.specs.Log.{Control, Data, Entry, Placed, Plain, Sequenced, Stored, end}
use Rattle.kx_model.specs.Log.{entries, placed_from}
use Rattle.kx_model.specs.Produce.{Refused, Unverified, Verdict, judge, judge_entry, judge_text}
use Rattle.kx_model.specs.Producers.{batches_of, data_in, epoch_of, expected, is_of}
use Rattle.kx_model.specs.Producers.{sequence_after}
use Rattle.kx_model.specs.Transactions.{is_marker_of, is_open, unclosed}
use Rattle.kx_offsets.specs.Facts.{CommitFits}
use Rattle.kx_offsets.proofs.Commits.{commit_entry}
use Rattle.kx_group.specs.Log.{IsGroupLog}
use Rattle.kx_group.proofs.Growing.{all_in_transactions}
use Rattle.kx_group.proofs.Texts.{commit_of}

------ no batch of its id and epoch

module _ (log : List Entry) (each : Each Admits log) (all : AllInTransactions log)
    (batch : Sequenced) (asks : judge log false batch ≡ Unverified) where
  -- behind a marker of the id the epoch would be above
  not_behind : (before after : List Entry) (d : Sequenced) → log ≡ before ++ Data d ∷ after
      → d.id ≡ batch.id → d.epoch ≡ batch.epoch → list_any (is_marker_of d.id) after ≡ true → ⊥
  not_behind before after d parts id epoch marked =
      let behind = marker_behind log before after d each parts marked in
      let reached : AtLeast behind.marker.epoch (epoch_of log batch.id) =
      reaches log (Control behind.marker) batch.id behind.marker.epoch behind.there
      (marker_epoch behind.marker batch.id (behind.its ∙ id)) in
      let below = no_lower batch.epoch behind.marker.epoch (epoch_of log batch.id)
      (unverified_tells log false batch asks).current reached in
      omega (arith, behind.above, below, epoch)

  -- without one its transaction would be open
  not_open : (before after : List Entry) (d : Sequenced) → log ≡ before ++ Data d ∷ after
      → is_of batch.id batch.epoch d ≡ true → d.transactional ≡ true
      → list_any (is_marker_of d.id) after ≡ false → ⊥
  not_open before after d parts its transactional unmarked =
      let p : Placed Sequenced = record { offset = 0 + end before; item = d } in
      let listed : Contains (unclosed log) p =
      subst (λ l. Contains (unclosed l) p) (sym parts)
      (standing_is_listed 0 before after d transactional unmarked) in
      let opens_here = and_parts batch.transactional (not (is_open log batch.id batch.epoch))
      (unverified_opens log false batch asks) in
      let other = none_holds (λ q. is_of batch.id batch.epoch q.item) (unclosed log) p
      (not-true (is_open log batch.id batch.epoch) opens_here.1) listed in
      cc (other, its)

  no_batch : (d : Sequenced) → Contains log (Data d) → is_of batch.id batch.epoch d ≡ true → ⊥
  no_batch d c its =
      let s = split_at log (Data d) c in
      let transactional : d.transactional ≡ true =
      All-contains (λ e. is_in_transaction e ≡ true) log (Data d)
      (All-from_recursion (λ e. is_in_transaction e ≡ true) log all) c in
      let same = and_parts (d.id == batch.id) (d.epoch == batch.epoch) its in
      let id : d.id ≡ batch.id = grind (arith, nat_tests, same.0) in
      let epoch : d.epoch ≡ batch.epoch = grind (arith, nat_tests, same.1) in
      not_open s.before s.after d s.parts its transactional
      (false_from_ne_true (list_any (is_marker_of d.id) s.after)
      (not_behind s.before s.after d s.parts id epoch))

none_from : (n : ℕ) (log : List Entry) (id epoch : ℕ)
    → ((d : Sequenced) → Contains log (Data d) → is_of id epoch d ≡ true → ⊥)
    → filter (λ p. is_of id epoch p.item) (data_in (placed_from n log)) ≡ []
none_from n [] id epoch none = refl
none_from n (Plain records ∷ log) id epoch none =
    none_from (n + length records) log id epoch
    (λ d c. none d (contains_tail (Plain records) (Data d) log c))
none_from n (Control marker ∷ log) id epoch none =
    none_from (n + 1) log id epoch
    (λ d c. none d (contains_tail (Control marker) (Data d) log c))
none_from n (Data other ∷ log) id epoch none =
    let next = n + length other.records in
    let here : Placed Sequenced = record { offset = n; item = other } in
    let rest = filter (λ (p : Placed Sequenced). is_of id epoch p.item)
    (data_in (placed_from next log)) in
    ap (λ b. cond b (here ∷ rest) rest)
    (false_from_ne_true (is_of id epoch other) (none other (contains_head (Data other) log)))
    ∙ none_from next log id epoch (λ d c. none d (contains_tail (Data other) (Data d) log c))

none_expected : (log : List Entry) (id epoch : ℕ)
    → ((d : Sequenced) → Contains log (Data d) → is_of id epoch d ≡ true → ⊥)
    → expected log id epoch ≡ 0
unfolding batches_of
none_expected log id epoch none = ap sequence_after (none_from 0 log id epoch none)

------ offsets

pub begins_at_0 : (log : List Stored) (group : List ℕ) (member : ℕ) (named : ℤ) (held : Held)
    (first : ℕ) (offsets : List PartitionOffset) → IsGrown log → IsGroupLog log
    → CommitFits group held (pos first) offsets
    → judge_offsets (entries log) false group member named
    (offsets_batch group held (pos first) offsets) ≡ Unverified → first ≡ 0
begins_at_0 log group member named held first offsets grown groups fits e =
    let text = offsets_batch group held (pos first) offsets in
    let batch = commit_of group held first offsets in
    let verdict = judge_text (entries log) false text in
    let other = not (int_eq named (pos (generation (entries log) group))) in
    let rest : Verdict = cond other (Refused code.IllegalGeneration) verdict in
    let member_is = refused_else (not (is_member (entries log) group member))
    code.UnknownMemberId rest Unverified (λ c h. cc) e in
    let asks = (refused_else other code.IllegalGeneration verdict Unverified (λ c h. cc)
    member_is.1).1 in
    let judged : judge (entries log) false batch ≡ Unverified =
    ap (judge_entry (entries log) false) (sym (commit_entry group held first offsets fits))
    ∙ (judged_as (entries log) false text Unverified (λ c h. cc) asks).judged in
    in_order (entries log) batch (unverified_tells (entries log) false batch judged).order
    ∙ none_expected (entries log) held.id held.epoch
    (no_batch (entries log) (each_admitted log grown) (all_in_transactions log groups) batch judged)
