-- Why each entry stands in a partition's log: a batch by a request that was handed out, and by the
-- coordinator's yes if it is part of a transaction; a marker by a message of the coordinator.
use Rattle.std.proofs.Common.{◌≡◌, ⊎_elim, ℕ, ℤ, pos, negsuc, Bool, true, false}
use Rattle.std.proofs.Common.{◌&&◌, List, Some, ◌==◌, Contains}
use Rattle.std.proofs.Common.{refl, sym, ap, ◌∙◌, subst, arith}
use Rattle.std.specs.Prelude.{not}
use Rattle.std.proofs.lemmas.Bool.{and_parts}
use Rattle.std.proofs.lemmas.Bool.Decides.{nat_tests}
use Rattle.std.proofs.lemmas.List.Elements.{Contains-push_cases}
use Rattle.kx_message.specs.declared.code.ErrorCode.TheVariants.{NoError}
use Rattle.kx_message.specs.declared.message.Held.{Held}
use Rattle.kx_message.specs.declared.message.Message.{Message}
use Rattle.kx_message.specs.Messages as the
use Rattle.kx_message.specs.declared.outcome.Outcome.{Outcome}
use Rattle.kx_batch.specs.Batch.{Batch, batch_of}
use Rattle.kx_model.specs.Log.{Entry, Data, Control, Marker, Placed, Sequenced, Stored, entries}
use Rattle.kx_model.specs.Log.{entry_in, entry_of}
use Rattle.kx_model.specs.PartitionNode.{marker_of}
use Rattle.kx_model.specs.Produce.{Appends, Next, judge, judge_entry, judge_marker, judge_text}
use Rattle.kx_model.specs.Producers.{is_of}
use Rattle.kx_model.specs.Transactions.{is_open, unclosed}
use Rattle.kx_model.specs.Verification.{Request, judge_request, pair_in, pair_of}
use Rattle.kx_model.proofs.Logs.{entries-push}
use Rattle.kx_laws.proofs.GrownLogs.{no_batch_is_marker, same_marker, KindOf, control_kind}
use Rattle.kx_laws.proofs.GrownLogs.{data_kind, plain_kind, batch_is}
use Rattle.kx_laws.proofs.GrownLogs.{kind_of, marker_is}
use Rattle.kx_laws.proofs.LogRules.{may_open}
use Rattle.kx_laws.proofs.Membership.{any_holds, in_the_middle, no_element}
use Rattle.kx_laws.proofs.OpenBatches.{listed_stands}
use Rattle.kx_headline.proofs.PartitionDoes.{HasNoProducer, behind}
use Rattle.kx_headline.proofs.PartitionHolds.{Built, IsListed, Justified, MarkersFit, WasAsked}
use Rattle.kx_headline.proofs.PartitionHolds.{asked, ended, listed, next, start, text_next}
use Rattle.kx_headline.proofs.PartitionHolds.{unlisted, unowned}
use Rattle.kx_laws.proofs.Splits.{Each, Each-nil, Each-push}
use Rattle.kx_laws.proofs.StoredTexts.{judged_text}

module _ (sent : List Message) (number : ℕ) where
  -- a batch of the log is a text that was to come next, stored behind those before it
  pub record CameBy (before : List Stored) (stored : Stored) : Type 0 where
    pub text : List ℕ
    pub is : stored ≡ behind before text
    pub why : Justified sent number before text

  pub each_came : (log : List Stored) → Built sent number log → Each CameBy log
  each_came log start = Each-nil CameBy
  each_came log (next earlier text b j) =
      Each-push CameBy earlier (behind earlier text) (each_came earlier b)
      (record { text = text; is = refl; why = j })

  -- the request that a batch came by
  pub record DataCause (before : List Stored) (stored : Stored) (d : Sequenced) : Type 0 where
    pub request : Request
    pub verified : Bool
    pub is : stored ≡ behind before request.text
    pub asked_for : WasAsked sent number request
    pub allowed : IsListed sent number request verified
    pub entry : entry_in (batch_of request.text) ≡ Data d
    pub verdict : judge (entries before) verified d ≡ Next
    pub judged : judge_request (entries before) verified request ≡ Next

  -- the message that a marker came by
  pub record MarkerCause (before : List Stored) (m : Marker) : Type 0 where
    pub txn : List ℕ
    pub held : Held
    pub coordinator : ℤ
    pub outcome : Outcome
    pub handed : Contains sent (the.WriteMarker number txn held coordinator outcome)
    pub is : marker_of held coordinator outcome ≡ m
    pub verdict : judge_marker (entries before) m ≡ Appends

  no_id : (n : ℕ) → negsuc 0 ≡ pos n → ⊥
  no_id n e = cc

  has_id : (v : Batch) (d : Sequenced) (e : Entry) → KindOf v e → e ≡ Data d
      → v.producer_id ≡ pos d.id
  has_id v d e (data_kind c x i t r) same =
      let is : c ≡ d = cc in
      i ∙ ap (λ (s : Sequenced). pos s.id) is
  has_id v d e (plain_kind c t) same = absurd cc
  has_id v d e (control_kind m c i s) same = absurd cc

  not_unowned : (before : List Stored) (text : List ℕ) (d : Sequenced) → HasNoProducer text
      → judge_text (entries before) true text ≡ Next → entry_in (batch_of text) ≡ Data d → ⊥
  not_unowned before text d none e is =
      let j = judged_text (entries before) true text e in
      let v = batch_of text in
      no_id d.id (sym none ∙ has_id v d (entry_in v) (kind_of v j.kind) is)

  verdict_of : (before : List Stored) (verified : Bool) (text : List ℕ) (d : Sequenced)
      → judge_text (entries before) verified text ≡ Next → entry_in (batch_of text) ≡ Data d
      → judge (entries before) verified d ≡ Next
  verdict_of before verified text d e is =
      ap (judge_entry (entries before) verified) (sym is)
      ∙ (judged_text (entries before) verified text e).judged

  not_a_marker : (before : List Stored) (verified : Bool) (text : List ℕ) (m : Marker)
      → judge_text (entries before) verified text ≡ Next
      → entry_of (behind before text) ≡ Control m → ⊥
  not_a_marker before verified text m e is =
      let entry : entry_in (batch_of text) ≡ Control m =
      sym (batch_is before verified text e) ∙ is in
      let refused = ap (judge_entry (entries before) verified) (sym entry)
      ∙ (judged_text (entries before) verified text e).judged in
      cc

  module _ (fit : MarkersFit sent) where
    pub data_came : (before : List Stored) (stored : Stored) (d : Sequenced)
        → CameBy before stored → entry_of stored ≡ Data d → DataCause before stored d
    data_came before stored d c is = by c.text c.is c.why
      where
        by : (text : List ℕ) → stored ≡ behind before text → Justified sent number before text
            → DataCause before stored d
        by text same (asked r verified w l j) =
            let e = text_next (entries before) verified r.text r.target j in
            let entry : entry_in (batch_of r.text) ≡ Data d =
            sym (batch_is before verified r.text e) ∙ ap entry_of (sym same) ∙ is in
            record {
              request = r;
              verified = verified;
              is = same;
              asked_for = w;
              allowed = l;
              entry = entry;
              verdict = verdict_of before verified r.text d e entry;
              judged = j;
            }
        by text same (ended txn held coordinator outcome h j) =
            let m = marker_of held coordinator outcome in
            absurd (no_batch_is_marker d m (sym is ∙ ap entry_of same
            ∙ marker_is before m (fit number txn held coordinator outcome h) j))
        by text same (unowned text' none e) =
            absurd (not_unowned before text' d none e
            (sym (batch_is before true text' e) ∙ ap entry_of (sym same) ∙ is))

    pub marker_came : (before : List Stored) (stored : Stored) (m : Marker)
        → CameBy before stored → entry_of stored ≡ Control m → MarkerCause before m
    marker_came before stored m c is = by c.text c.is c.why
      where
        by : (text : List ℕ) → stored ≡ behind before text → Justified sent number before text
            → MarkerCause before m
        by text same (asked r verified w l j) =
            absurd (not_a_marker before verified r.text m
            (text_next (entries before) verified r.text r.target j)
            (ap entry_of (sym same) ∙ is))
        by text same (ended txn held coordinator outcome h j) =
            let n = marker_of held coordinator outcome in
            let one = same_marker n m
            (sym (marker_is before n (fit number txn held coordinator outcome h) j)
            ∙ ap entry_of (sym same) ∙ is) in
            record {
              txn = txn;
              held = held;
              coordinator = coordinator;
              outcome = outcome;
              handed = h;
              is = one;
              verdict = subst (λ k. judge_marker (entries before) k ≡ Appends) one j;
            }
        by text same (unowned text' none e) =
            absurd (not_a_marker before true text' m e (ap entry_of (sym same) ∙ is))

    ------ the coordinator's yes

    -- the partition was added to the transaction
    pub record WasAdded (id epoch : ℕ) : Type 0 where
      pub txn : List ℕ
      pub handed : Contains sent
          (the.AddReply number txn (record { id = id; epoch = epoch }) NoError)

    same_pair : (a b : Held) → Some a ≡ Some b → a ≡ b
    same_pair a b e = cc

    opened : (t o : Bool) → ((t && not o) && not false) ≡ false → t ≡ true → o ≡ true
    opened true true e is = refl
    opened true false e is = absurd cc
    opened false o e is = absurd cc

    -- each batch of a transaction in the log has it
    pub transactional_is_added : (log : List Stored) (d : Sequenced) → Built sent number log
        → Contains (entries log) (Data d) → d.transactional ≡ true → WasAdded d.id d.epoch
    transactional_is_added log d start c t = absurd (no_element (Data d) c)
    transactional_is_added log d (next earlier text b j) c t =
        let s = behind earlier text in
        ⊎_elim (λ c. transactional_is_added earlier d b c t)
        (λ e. by (data_came earlier s d (record { text = text; is = refl; why = j }) e)
        (λ x c u. transactional_is_added earlier x b c u))
        (Contains-push_cases (entries earlier) (entry_of s) (Data d)
        (subst (λ l. Contains l (Data d)) (entries-push earlier s (entry_of s) refl) c))
      where
        its_pair : (r : Request) (held : Held) → entry_in (batch_of r.text) ≡ Data d
            → pair_of r ≡ Some held → held ≡ record { id = d.id; epoch = d.epoch }
        its_pair r held e h =
            same_pair held (record { id = d.id; epoch = d.epoch }) (sym h ∙ ap pair_in e)

        was_open : is_open (entries earlier) d.id d.epoch ≡ true
            → ((x : Sequenced) → Contains (entries earlier) (Data x) → x.transactional ≡ true
            → WasAdded x.id x.epoch)
            → WasAdded d.id d.epoch
        was_open e before =
            let h = any_holds (λ (p : Placed Sequenced). is_of d.id d.epoch p.item)
            (unclosed (entries earlier)) e in
            let p = listed_stands 0 (entries earlier) h.0 h.1 in
            let x = h.0.item in
            let same = and_parts (x.id == d.id) (x.epoch == d.epoch) h.2 in
            let ids : x.id ≡ d.id = grind (arith, nat_tests, same.0) in
            let epochs : x.epoch ≡ d.epoch = grind (arith, nat_tests, same.1) in
            subst (λ i. WasAdded i d.epoch) ids (subst (WasAdded x.id) epochs
            (before x (subst (λ l. Contains l (Data x)) (sym p.parts)
            (in_the_middle p.before p.after (Data x))) p.transactional))

        by_list : (r : Request) (verified : Bool) → IsListed sent number r verified
            → entry_in (batch_of r.text) ≡ Data d → judge (entries earlier) verified d ≡ Next
            → ((x : Sequenced) → Contains (entries earlier) (Data x) → x.transactional ≡ true
            → WasAdded x.id x.epoch)
            → WasAdded d.id d.epoch
        by_list r verified unlisted e v before =
            was_open (opened d.transactional (is_open (entries earlier) d.id d.epoch)
            (may_open (entries earlier) false d v) t) before
        by_list r verified (listed txn held h p) e v before = record {
          txn = txn;
          handed = subst (λ k. Contains sent (the.AddReply number txn k NoError))
              (its_pair r held e p) h;
        }

        by : DataCause earlier (behind earlier text) d
            → ((x : Sequenced) → Contains (entries earlier) (Data x) → x.transactional ≡ true
            → WasAdded x.id x.epoch)
            → WasAdded d.id d.epoch
        by cause before =
            by_list cause.request cause.verified cause.allowed cause.entry cause.verdict before
