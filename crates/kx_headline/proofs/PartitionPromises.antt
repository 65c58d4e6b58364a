-- What the messages that a partition hands out promise of its log, for good: a reply of code 0 to a
-- marker that the epoch is reached, one to a batch that it stands.
use Rattle.std.proofs.Common.{◌≡◌, ℕ, ℤ, pos, negsuc, ◌+◌, ◌≤◌, Bool, true}
use Rattle.std.proofs.Common.{cond, ltb, List, [], ◌∷◌, ◌++◌, Option, Some, None, All}
use Rattle.std.proofs.Common.{Contains, refl, sym, ap, ◌∙◌, subst, arith}
use Rattle.std.specs.Prelude.{◌≢◌}
use Rattle.std.proofs.lemmas.Bool.{cond_both}
use Rattle.std.proofs.lemmas.Bool.Decides.{nat_tests}
use Rattle.std.proofs.lemmas.List.{map-append}
use Rattle.std.proofs.lemmas.List.Elements.{All-weaker, Contains-append_left}
use Rattle.kx_message.specs.declared.requests.Caller.{Caller}
use Rattle.std.specs.Bool.{⊤}
use Rattle.kx_headline.proofs.Codes.{WithNoError}
use Rattle.kx_message.specs.Ranges.{offsets_partition}
use Rattle.kx_message.specs.declared.code.ErrorCode.{ErrorCode}
use Rattle.kx_message.specs.declared.code.ErrorCode.TheVariants as code
use Rattle.kx_message.specs.declared.message.Held.{Held}
use Rattle.kx_message.specs.declared.message.Message.{Message}
use Rattle.kx_message.specs.declared.message.Message.TheVariants as msg
use Rattle.kx_message.specs.Messages as the
use Rattle.kx_message.specs.declared.outcome.Outcome.{Outcome}
use Rattle.kx_batch.specs.Batch.{batch_of}
use Rattle.kx_model.specs.Disk.{GrowsTo}
use Rattle.kx_model.specs.Log.{Entry, Data, Control, Marker, Sequenced, Stored, end}
use Rattle.kx_model.specs.Log.{entries, entry_in, entry_of}
use Rattle.kx_model.specs.PartitionNode.{Partition, Served, marker_of}
use Rattle.kx_model.specs.Produce.{Appends, Answers, MarkerVerdict, Duplicate, Next, ends_another}
use Rattle.kx_model.specs.Produce.{greatest_offset, is_at_most, is_fenced, judge_entry}
use Rattle.kx_model.specs.Produce.{judge_marker, marked_by, text_of}
use Rattle.kx_model.specs.Producers.{epoch_of}
use Rattle.kx_model.specs.Verification.{Request, Target, ToGroup, ToPartition, judge_request}
use Rattle.kx_model.specs.Verification.{partition_of, reply_for}
use Rattle.kx_laws.proofs.Duplicates.{StoredLike, duplicate_stands}
use Rattle.kx_laws.proofs.GrownLogs.{batch_is, marker_is}
use Rattle.kx_laws.proofs.LogRules.{AtLeast, marker_epoch, reached_by, reaches}
use Rattle.kx_laws.proofs.Membership.{in_the_middle, map_keeps}
use Rattle.kx_headline.proofs.PartitionDoes.{behind}
use Rattle.kx_headline.proofs.PartitionDoes as does
use Rattle.kx_headline.proofs.PartitionHolds.{Comes, MarkersFit, PartitionHolds, WasAsked}
use Rattle.kx_headline.proofs.PartitionHolds.{handed_out, origin_asked, text_next, text_verdict}
use Rattle.kx_laws.proofs.StoredTexts.{judged_as}

------ logs grow

pub entries_grow : (log later : List Stored) → GrowsTo log later
    → (more : List Entry) × (entries later ≡ entries log ++ more)
entries_grow log later g = (entries g.more, ap entries g.parts ∙ map-append entry_of log g.more)

pub entry_stays : (log later : List Stored) (entry : Entry) → GrowsTo log later
    → Contains (entries log) entry → Contains (entries later) entry
entry_stays log later entry g c =
    let m = entries_grow log later g in
    subst (λ l. Contains l entry) (sym m.1) (Contains-append_left (entries log) m.0 entry c)

no_lower : (k n : ℕ) (o : Option ℕ) → n ≤ k → AtLeast k o → AtLeast n o
no_lower k n None le h = h
no_lower k n (Some m) le h = omega (arith, le, h)

-- an epoch that is reached stays so
pub reached_stays : (log later : List Stored) (id n : ℕ) → GrowsTo log later
    → AtLeast n (epoch_of (entries log) id) → AtLeast n (epoch_of (entries later) id)
reached_stays log later id n g h =
    let r = reached_by (entries log) id n h in
    no_lower r.epoch n (epoch_of (entries later) id) r.high
    (reaches (entries later) r.entry id r.epoch (entry_stays log later r.entry g r.there) r.its)

pub like_stays : (log later : List Stored) (d : Sequenced) → GrowsTo log later
    → StoredLike (entries log) d → StoredLike (entries later) d
like_stays log later d g s = record {
  batch = s.batch;
  there = entry_stays log later (Data s.batch) g s.there;
  id = s.id;
  epoch = s.epoch;
  first = s.first;
  last = s.last;
}

-- the last of a log, in what it grows to
last_there : (log later : List Stored) (s : Stored) → GrowsTo (log ++ s ∷ []) later
    → Contains (entries later) (entry_of s)
last_there log later s g =
    let back : Contains (log ++ s ∷ []) s = in_the_middle log [] s in
    entry_stays (log ++ s ∷ []) later (entry_of s) g (map_keeps entry_of (log ++ s ∷ []) s back)

------ promises

-- a request of this client and correlation was handed out, and its batch stands
pub record IsStored (sent : List Message) (number : ℕ) (log : List Stored)
    (caller : Caller) : Type 0 where
  pub request : Request
  pub asked_for : WasAsked sent number request
  pub its_caller : request.caller ≡ caller
  pub stored : (d : Sequenced) → entry_in (batch_of request.text) ≡ Data d
      → StoredLike (entries log) d

abbrev pub Promises : List Message → ℕ → List Stored → Message → Type 0
Promises sent number log (msg.MarkerReply it) = WithNoError it.code
    ((it.partition ≡ number) × AtLeast it.held.epoch (epoch_of (entries log) it.held.id))
Promises sent number log (msg.ProduceReply it) =
    WithNoError it.code ((it.partition ≡ number) × IsStored sent number log it.caller)
Promises sent number log (msg.OffsetsReply it) =
    WithNoError it.code ((offsets_partition ≡ number) × IsStored sent number log it.caller)
Promises sent number log m = ⊤

reading_promises : (sent : List Message) (number : ℕ) (p : Partition) (input : Option Message)
    (log later : List Stored) (m : Message) → does.Reads number p input later m
    → Promises sent number log m
reading_promises sent number p input log later (msg.MarkerReply it) is = absurd is
reading_promises sent number p input log later (msg.ProduceReply it) is = absurd is
reading_promises sent number p input log later (msg.OffsetsReply it) is = absurd is
reading_promises sent number p input log later m is = tt

marker_promises : (sent : List Message) (number : ℕ) (log : List Stored) (txn : List ℕ)
    (held : Held) (c : ErrorCode)
    → (c ≡ code.NoError → AtLeast held.epoch (epoch_of (entries log) held.id))
    → Promises sent number log (the.MarkerReply number txn held c)
marker_promises sent number log txn held code.NoError h = (refl, h refl)
marker_promises sent number log txn held c h = tt

refusal_promises : (sent : List Message) (number : ℕ) (log : List Stored) (r : Request)
    (c : ErrorCode) (offset : ℤ) (target : Target) → c ≢ code.NoError
    → Promises sent number log (reply_for r c offset target)
refusal_promises sent number log r code.NoError offset target n = absurd (n refl)
refusal_promises sent number log r c offset (ToPartition partition) n = tt
refusal_promises sent number log r c offset (ToGroup group member generation) n = tt

stored_promises : (sent : List Message) (number : ℕ) (log : List Stored) (r : Request)
    (offset : ℤ) (target : Target) → partition_of target ≡ number
    → IsStored sent number log r.caller
    → Promises sent number log (reply_for r code.NoError offset target)
stored_promises sent number log r offset (ToPartition partition) n s = (n, s)
stored_promises sent number log r offset (ToGroup group member generation) n s = (n, s)

------ markers

at_most_reached : (n : ℕ) (o : Option ℕ) → is_at_most n o ≡ true → AtLeast n o
at_most_reached n None h = absurd cc
at_most_reached n (Some m) h = grind (arith, nat_tests, h)

answers_no : (c : ErrorCode) → c ≢ code.NoError → Answers c ≡ Answers code.NoError → ⊥
answers_no c n e =
    let same : c ≡ code.NoError = cc in
    n same

appends_no : Appends ≡ Answers code.NoError → ⊥
appends_no e = cc

-- a marker that is answered with 0 at once is no news
pub answered_reached : (log : List Entry) (m : Marker) → judge_marker log m ≡ Answers code.NoError
    → AtLeast m.epoch (epoch_of log m.id)
unfolding judge_marker
answered_reached log m e =
    let used_up = ltb greatest_offset (end log + 1) in
    let room : MarkerVerdict = cond used_up (Answers code.KafkaStorageError) Appends in
    let other : MarkerVerdict = cond (ends_another log m) (Answers code.InvalidTxnState) room in
    let old = is_at_most m.epoch (epoch_of log m.id) in
    let there : MarkerVerdict = cond old (Answers code.NoError) other in
    let fenced = is_fenced m.coordinator (marked_by log m.id) in
    let Reached : MarkerVerdict → Type 0 =
    λ v. v ≡ Answers code.NoError → AtLeast m.epoch (epoch_of log m.id) in
    cond_both fenced (Answers code.TransactionCoordinatorFenced) there Reached
    (λ f e. absurd (answers_no code.TransactionCoordinatorFenced (λ x. cc) e))
    (λ f. cond_both old (Answers code.NoError) other Reached
    (λ f e. at_most_reached m.epoch (epoch_of log m.id) f)
    (λ f. cond_both (ends_another log m) (Answers code.InvalidTxnState) room Reached
    (λ f e. absurd (answers_no code.InvalidTxnState (λ x. cc) e))
    (λ f. cond_both used_up (Answers code.KafkaStorageError) Appends Reached
    (λ f e. absurd (answers_no code.KafkaStorageError (λ x. cc) e))
    (λ f e. absurd (appends_no e))))) e

------ what a step promises

module _ (sent : List Message) (number : ℕ) (p : Partition) (input : Option Message)
    (holds : PartitionHolds sent number p) (comes : Comes sent input)
    (fit : MarkersFit sent) where
  done_stored : (log : List Stored) (r : Request) (earlier : List Stored) (verified : Bool)
      → does.Origin number p input r → judge_request (entries earlier) verified r ≡ Next
      → GrowsTo (earlier ++ behind earlier r.text ∷ []) log
      → IsStored sent number log r.caller
  done_stored log r earlier verified o j g = record {
    request = r;
    asked_for = origin_asked sent number p input holds comes r o;
    its_caller = refl;
    stored = λ d is. record {
      batch = d;
      there = subst (Contains (entries log))
          (batch_is earlier verified r.text
          (text_next (entries earlier) verified r.text r.target j) ∙ is)
          (last_there earlier log (behind earlier r.text) g);
      id = refl;
      epoch = refl;
      first = refl;
      last = refl;
    };
  }

  again_stored : (log : List Stored) (r : Request) (offset : ℕ) (earlier : List Stored)
      (verified : Bool) → does.Origin number p input r → GrowsTo earlier log
      → judge_request (entries earlier) verified r ≡ Duplicate offset
      → IsStored sent number log r.caller
  again_stored log r offset earlier verified o g j =
      let text = text_verdict (entries earlier) verified r.text r.target (Duplicate offset)
      (λ c h. cc) j in
      let read = judged_as (entries earlier) verified r.text (Duplicate offset) (λ c h. cc) text in
      record {
        request = r;
        asked_for = origin_asked sent number p input holds comes r o;
        its_caller = refl;
        stored = λ d is. like_stays earlier log d g
            (duplicate_stands (entries earlier) verified d offset
            (ap (judge_entry (entries earlier) verified) (sym is) ∙ read.judged));
      }

  marked_reached : (log : List Stored) (txn : List ℕ) (held : Held) (coordinator : ℤ)
      (outcome : Outcome) → input ≡ Some (the.WriteMarker number txn held coordinator outcome)
      → judge_marker (entries p.disk.kept) (marker_of held coordinator outcome) ≡ Appends
      → GrowsTo (p.disk.kept
      ++ behind p.disk.kept (text_of (marker_of held coordinator outcome)) ∷ []) log
      → AtLeast held.epoch (epoch_of (entries log) held.id)
  marked_reached log txn held coordinator outcome i j g =
      let m = marker_of held coordinator outcome in
      let there = handed_out sent number p input holds comes
      (the.WriteMarker number txn held coordinator outcome) i in
      let is = marker_is p.disk.kept m (fit number txn held coordinator outcome there) j in
      reaches (entries log) (Control m) held.id held.epoch
      (subst (Contains (entries log)) is
      (last_there p.disk.kept log (behind p.disk.kept (text_of m)) g))
      (marker_epoch m held.id refl)

  out_promises : (log : List Stored) → GrowsTo p.disk.kept log → (m : Message)
      → does.Out number p input log m → Promises sent number log m
  out_promises log grows m (does.done r earlier v o j g) =
      stored_promises sent number log r _ r.target
      (origin_asked sent number p input holds comes r o).here (done_stored log r earlier v o j g)
  out_promises log grows m (does.again r offset earlier v o was g j) =
      stored_promises sent number log r (pos offset) r.target
      (origin_asked sent number p input holds comes r o).here
      (again_stored log r offset earlier v o g j)
  out_promises log grows m (does.refused r c o n) =
      refusal_promises sent number log r c (negsuc 0) r.target n
  out_promises log grows m (does.elsewhere caller partition) = tt
  out_promises log grows m (does.asks x r txn held i e n t h) = tt
  out_promises log grows m (does.marked txn held coordinator outcome i j g) =
      (refl, marked_reached log txn held coordinator outcome i j g)
  out_promises log grows m (does.unmarked txn held coordinator outcome c i j) =
      marker_promises sent number log txn held c
      (λ e. reached_stays p.disk.kept log held.id held.epoch grows
      (answered_reached (entries p.disk.kept) (marker_of held coordinator outcome) (j e)))
  out_promises log grows m (does.reads x r) =
      reading_promises sent number p input log log x r

  -- each message that a partition hands out keeps its promise
  pub step_promises : (s : Served) → does.Does number p input p s
      → All (Promises sent number s.0.disk.kept) s.1
  step_promises s d =
      All-weaker (does.Out number p input s.0.disk.kept) (Promises sent number s.0.disk.kept)
      (out_promises s.0.disk.kept d.grows) s.1 d.out
