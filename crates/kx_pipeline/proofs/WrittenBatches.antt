-- What a transaction wrote to a data partition is a front of the batches that its producer sent
-- there, each once and in order, and all of them if it is decided to commit.
use Rattle.std.proofs.Common.{◌≡◌, ◌^◌, ◌<◌, ◌≤◌, ◌+◌, ◌==◌, ℕ, Bool, true, false, cond}
use Rattle.std.proofs.Common.{ltb, List, [], ◌∷◌, ◌++◌, length, map, filter, Some, None}
use Rattle.std.proofs.Common.{Contains, refl, sym, ap, ◌∙◌, subst, arith, append-nil, append_assoc}
use Rattle.std.specs.Prelude.{◌≢◌, not}
use Rattle.std.specs.List.{enumerate_from, flat_map}
use Rattle.std.proofs.lemmas.Bool.{and_parts, ltb-false, or_parts}
use Rattle.std.proofs.lemmas.Bool.Decides.{nat_tests}
use Rattle.std.proofs.lemmas.Grind.{flat_map-append}
use Rattle.std.proofs.lemmas.List.{flat_map_more, length-append, map-append}
use Rattle.std.proofs.lemmas.List.Elements.{All-contains}
use Rattle.kx_message.specs.Messages as the
use Rattle.kx_message.specs.Ranges.{offsets_partition}
use Rattle.kx_message.specs.declared.message.Held.{Held}
use Rattle.kx_message.specs.declared.message.Message.{Message}
use Rattle.kx_message.specs.declared.message.Message.TheVariants as msg
use Rattle.kx_message.specs.declared.outcome.Outcome.TheVariants.{Commit}
use Rattle.kx_message.specs.declared.requests.Produce.{Produce}
use Rattle.kx_batch.specs.Batch.{batch_of}
use Rattle.kx_batch.specs.Build.{pushed}
use Rattle.kx_batch.specs.Record.{Record}
use Rattle.kx_client.specs.declared.values.Values.{Values}
use Rattle.kx_client.proofs.Sizes.{length-value_records}
use Rattle.kx_model.specs.Client.{client_batch, value_records}
use Rattle.kx_model.specs.Coordinator.{decision}
use Rattle.kx_model.specs.Headline.{Always}
use Rattle.kx_model.specs.Log.{Entry, Plain, Data, Control, Sequenced, Stored, end}
use Rattle.kx_model.specs.Log.{entries, entry_in, entry_of, last_sequence}
use Rattle.kx_model.specs.Produce.{greatest_sequence}
use Rattle.kx_model.specs.Producers.{batches_of, data_at, expected, is_of, sequence_after}
use Rattle.kx_model.specs.Verification.{Request, ToPartition, partition_of, request_of}
use Rattle.kx_model.specs.World.{World, entries_at, log_at, notes, partition_at, run, start}
use Rattle.kx_model.proofs.Growth.{batches_of-push, expected-push}
use Rattle.kx_model.proofs.Logs.{entries-push}
use Rattle.kx_laws.proofs.Duplicates.{StoredLike}
use Rattle.kx_laws.proofs.LogRules.{batch_tells, in_order}
use Rattle.kx_laws.proofs.Sequences.{grown_ordered}
use Rattle.kx_headline.proofs.ClientHolds.{Handed, IsEntitled}
use Rattle.kx_headline.proofs.ClientRequests.{AreMade, HeldFits, RequestsStand}
use Rattle.kx_headline.proofs.ClientsKeep.{clients_keep}
use Rattle.kx_headline.proofs.CommitsAsked.{commit_asked}
use Rattle.kx_headline.proofs.Loads.{same_request}
use Rattle.kx_headline.proofs.LogCauses.{CameBy, data_came}
use Rattle.kx_headline.proofs.MarkersFit.{markers_fit}
use Rattle.kx_headline.proofs.PartitionDoes.{behind}
use Rattle.kx_headline.proofs.PartitionHolds.{Built, MarkersFit}
use Rattle.kx_headline.proofs.PartitionHolds as holds
use Rattle.kx_headline.proofs.PartitionsAlways.{PartitionsStand, partitions_stand_always}
use Rattle.kx_headline.proofs.RequestsAlways.{handed_fits, requests_stand_always}
use Rattle.kx_headline.proofs.StoredRequests.{built_in}
use Rattle.kx_headline.proofs.WorldReaders.{grown_at}
use Rattle.kx_pipeline.specs.Outputs.{Content, IsOneOf, Wrote, all_in, content_of, keyless}
use Rattle.kx_pipeline.specs.Outputs.{outputs, values_of, written_by}
use Rattle.kx_pipeline.proofs.BatchesRead.{data_with, reads_as_data, sent_low}

------ values

-- the values of records
abbrev pub shown : List Record → List Content
shown records = map content_of records

shown_from : (n : ℕ) (values : List (List ℕ))
    → shown (map (λ v. pushed v.0 None (Some v.1) []) (enumerate_from n values)) ≡ map keyless values
shown_from n [] = refl
shown_from n (value ∷ values) = ap (λ l. keyless value ∷ l) (shown_from (n + 1) values)

values_push : (batches : List Values) (values : Values)
    → values_of (batches ++ values ∷ []) ≡ values_of batches ++ all_in values
values_push batches values = sym (flat_map_more all_in [] batches values)

-- batches have values, so two fronts with as many values are one
same_front : (a b c d : List Values) → a ++ c ≡ b ++ d
    → length (values_of a) ≡ length (values_of b) → a ≡ b
same_front [] [] c d e l = refl
same_front [] (y ∷ b) c d e l = absurd (omega (arith, l))
same_front (x ∷ a) [] c d e l = absurd (omega (arith, l))
same_front (x ∷ a) (y ∷ b) c d e l =
    let head : x ≡ y = cc in
    let rest : a ++ c ≡ b ++ d = cc in
    let size : length (all_in x) ≡ length (all_in y) = ap (λ v. length (all_in v)) head in
    let one = length-append (all_in x) (values_of a) in
    let two = length-append (all_in y) (values_of b) in
    λ i. head i ∷ same_front a b c d rest (omega (arith, l, size, one, two)) i

------ a log

-- the batches of the id and epoch in a log are a front of these batches
pub record FrontOf (batches : List Values) (id epoch : ℕ) (log : List Entry) : Type 0 where
  pub front : List Values
  pub after : List Values
  pub parts : batches ≡ front ++ after
  pub next : expected log id epoch ≡ length (values_of front)
  pub low : length (values_of front) ≤ 2 ^ 31
  pub shows : shown (flat_map (written_by id epoch) log) ≡ map keyless (values_of front)

module _ (sent : List Message) (number : ℕ) (apart : number ≢ offsets_partition) (id epoch : ℕ)
    (batches : List Values) (wrote : Wrote sent number id epoch batches) where
  -- a request for a data partition is no commit of offsets
  asked_is : (m : Message) → Contains sent m → (r : Request) → request_of m ≡ Some r
      → partition_of r.target ≡ number → (d : Sequenced) → entry_in (batch_of r.text) ≡ Data d
      → d.id ≡ id → d.epoch ≡ epoch → IsOneOf batches d
  asked_is (msg.Produce it) c r e here d reads i k =
      let same = same_request _ r e in
      wrote.only it c (ap (λ (q : Request). partition_of q.target) same ∙ here) d
      (ap (λ (q : Request). entry_in (batch_of q.text)) same ∙ reads) i k
  asked_is (msg.TxnOffsetCommit it) c r e here d reads i k =
      let same = same_request _ r e in
      absurd (apart (sym here ∙ sym (ap (λ (q : Request). partition_of q.target) same)))
  asked_is other c r e here d reads i k = absurd cc

  pushed_shows : (log : List Entry) (entry : Entry)
      → shown (flat_map (written_by id epoch) (log ++ entry ∷ []))
      ≡ shown (flat_map (written_by id epoch) log) ++ shown (written_by id epoch entry)
  pushed_shows log entry =
      ap shown (sym (flat_map_more (written_by id epoch) [] log entry))
      ∙ map-append content_of (flat_map (written_by id epoch) log)
      (written_by id epoch entry)

  -- an entry that isn't of this id and epoch
  other_next : (log : List Entry) (entry : Entry) → FrontOf batches id epoch log
      → expected (log ++ entry ∷ []) id epoch ≡ expected log id epoch
      → written_by id epoch entry ≡ [] → FrontOf batches id epoch (log ++ entry ∷ [])
  other_next log entry f same none = record {
    front = f.front;
    after = f.after;
    parts = f.parts;
    next = same ∙ f.next;
    low = f.low;
    shows =
        pushed_shows log entry
        ∙ ap (λ l. shown (flat_map (written_by id epoch) log) ++ shown l) none
        ∙ append-nil (shown (flat_map (written_by id epoch) log)) ∙ f.shows;
  }

  same_expected : (log : List Entry) (entry : Entry) → ((n : ℕ) → data_at n entry ≡ [])
      → expected (log ++ entry ∷ []) id epoch ≡ expected log id epoch
  same_expected log entry none =
      ap sequence_after (batches_of-push log entry id epoch
      ∙ ap (λ l. batches_of log id epoch ++ filter (λ p. is_of id epoch p.item) l)
      (none (end log))
      ∙ append-nil (batches_of log id epoch))

  -- one of the batches, which begins if those before it end
  its_next : (log : List Entry) (d : Sequenced) → is_of id epoch d ≡ true
      → FrontOf batches id epoch log → IsOneOf batches d → d.first ≡ expected log id epoch
      → last_sequence d ≤ greatest_sequence → FrontOf batches id epoch (log ++ Data d ∷ [])
  its_next log d is f o first top =
      let front : f.front ≡ o.before =
      same_front f.front o.before f.after (o.values ∷ o.after) (sym f.parts ∙ o.parts)
      (sym f.next ∙ sym first ∙ o.first) in
      let many : length d.records ≡ length (all_in o.values) =
      ap length o.records ∙ length-value_records (all_in o.values) in
      let size : length (values_of (o.before ++ o.values ∷ []))
      ≡ length (values_of o.before) + length (all_in o.values) =
      ap length (values_push o.before o.values)
      ∙ length-append (values_of o.before) (all_in o.values) in
      let written : written_by id epoch (Data d) ≡ value_records (all_in o.values) =
      ap (λ b. cond b d.records []) is ∙ o.records in
      record {
        front = o.before ++ o.values ∷ [];
        after = o.after;
        parts = o.parts ∙ sym (append_assoc o.before (o.values ∷ []) o.after);
        next =
            expected-push log d id epoch
            ∙ ap (λ b. cond b (last_sequence d + 1) (expected log id epoch)) is
            ∙ omega (arith, o.first, many, size);
        low = omega (arith, o.first, many, size, top);
        shows =
            pushed_shows log (Data d)
            ∙ ap (λ l. shown (flat_map (written_by id epoch) log) ++ shown l) written
            ∙ ap (λ l. l ++ shown (value_records (all_in o.values)))
            (f.shows ∙ ap (λ l. map keyless (values_of l)) front)
            ∙ ap (λ l. map keyless (values_of o.before) ++ l) (shown_from 0 (all_in o.values))
            ∙ sym (map-append keyless (values_of o.before) (all_in o.values))
            ∙ ap (map keyless) (sym (values_push o.before o.values));
      }

  module _ (fit : MarkersFit sent) where
    data_next : (earlier : List Stored) (s : Stored) (d : Sequenced) → entry_of s ≡ Data d
        → CameBy sent number earlier s → FrontOf batches id epoch (entries earlier)
        → FrontOf batches id epoch (entries earlier ++ Data d ∷ [])
    data_next earlier s d is came f = by (is_of id epoch d) refl
      where
        log : List Entry
        log = entries earlier

        by : (b : Bool) → is_of id epoch d ≡ b → FrontOf batches id epoch (log ++ Data d ∷ [])
        by false e =
            other_next log (Data d) f
            (expected-push log d id epoch
            ∙ ap (λ b. cond b (last_sequence d + 1) (expected log id epoch)) e)
            (ap (λ b. cond b d.records []) e)
        by true e =
            let cause = data_came sent number fit earlier s d came is in
            let asked = cause.asked_for in
            let both = and_parts (d.id == id) (d.epoch == epoch) e in
            let i : d.id ≡ id = grind (arith, nat_tests, both.0) in
            let k : d.epoch ≡ epoch = grind (arith, nat_tests, both.1) in
            let order = (batch_tells log cause.verified d cause.verdict).order in
            let top = (or_parts (not (d.first == expected log d.id d.epoch))
            (ltb greatest_sequence (last_sequence d)) order).1 in
            let one = asked_is asked.message asked.handed cause.request asked.is asked.here d
            cause.entry i k in
            its_next log d e f one
            (in_order log d order ∙ ap (λ n. expected log n d.epoch) i ∙ ap (expected log id) k)
            (ltb-false greatest_sequence (last_sequence d) top)

    entry_next : (earlier : List Stored) (s : Stored) (entry : Entry) → entry_of s ≡ entry
        → CameBy sent number earlier s → FrontOf batches id epoch (entries earlier)
        → FrontOf batches id epoch (entries earlier ++ entry ∷ [])
    entry_next earlier s (Plain records) is came f =
        other_next (entries earlier) (Plain records) f
        (same_expected (entries earlier) (Plain records) (λ n. refl)) refl
    entry_next earlier s (Control m) is came f =
        other_next (entries earlier) (Control m) f
        (same_expected (entries earlier) (Control m) (λ n. refl)) refl
    entry_next earlier s (Data d) is came f = data_next earlier s d is came f

    none_yet : FrontOf batches id epoch []
    unfolding batches_of
    none_yet = record {
      front = [];
      after = batches;
      parts = refl;
      next = refl;
      low = omega arith;
      shows = refl;
    }

    pub front_of : (log : List Stored) → Built sent number log
        → FrontOf batches id epoch (entries log)
    front_of log holds.start = none_yet
    front_of log (holds.next earlier text b j) =
        let s = behind earlier text in
        subst (FrontOf batches id epoch) (sym (entries-push earlier s (entry_of s) refl))
        (entry_next earlier s (entry_of s) refl
        (record { text = text; is = refl; why = j }) (front_of earlier b))

------ a world

-- what the transaction wrote is the values of a front of the batches
pub record IsFront (w : World) (partition id epoch : ℕ) (batches : List Values) : Type 0 where
  pub front : List Values
  pub after : List Values
  pub parts : batches ≡ front ++ after
  pub shows : shown (outputs w partition id epoch) ≡ map keyless (values_of front)

module _ (w : World) (stand : PartitionsStand w) (asks : RequestsStand w) (partition : ℕ)
    (apart : partition ≢ offsets_partition) (id epoch : ℕ) (batches : List Values)
    (wrote : Wrote w.sent partition id epoch batches) where
  fit : MarkersFit w.sent
  fit = markers_fit w stand.coordinator

  front_in : FrontOf batches id epoch (entries_at w partition)
  front_in =
      front_of w.sent partition apart id epoch batches wrote fit (log_at w partition)
      (built_in w.sent partition (partition_at w partition) (stand.holds partition))

  is_front : IsFront w partition id epoch batches
  is_front = record {
    front = front_in.front;
    after = front_in.after;
    parts = front_in.parts;
    shows = front_in.shows;
  }

  module _ (decided : decision (notes w) id epoch ≡ Some Commit) where
    abbrev pair : Held
    pair = record { id = id; epoch = epoch }

    -- the pair was handed to the client that asked for the commit
    pair_fits : HeldFits pair
    pair_fits =
        let a = commit_asked w.sent (notes w) asks.holders.stands.coordinator.history id epoch
        decided in
        let entitled : Handed w.sent a.caller.client pair =
        All-contains (IsEntitled w.sent) w.sent (the.EndTxn a.caller a.txn pair Commit)
        asks.holders.entitled a.asked in
        handed_fits w asks.holders.stands a.caller.client pair entitled

    -- what is committed stands, each batch of it
    stands : (request : Produce) (d : Sequenced) → Contains w.sent (msg.Produce request)
        → request.partition ≡ partition → entry_in (batch_of request.batch) ≡ Data d
        → d.id ≡ id → d.epoch ≡ epoch → StoredLike (entries_at w partition) d
    stands request d there here reads i k =
        let keep = clients_keep w asks stand in
        let m = msg.Produce request in
        let r : Request = record {
          caller = request.caller;
          txn = request.txn;
          target = ToPartition request.partition;
          text = request.batch;
        } in
        let commits : decision (notes w) d.id d.epoch ≡ Some Commit =
        ap (λ n. decision (notes w) n d.epoch) i ∙ ap (decision (notes w) id) k ∙ decided in
        let a = keep.answered m r d there refl reads commits in
        let asked = a.stored.asked_for in
        let one : a.stored.request ≡ r =
        keep.one_request asked.message m a.stored.request r asked.handed there asked.is refl
        a.stored.its_caller in
        let place : a.partition ≡ partition =
        sym asked.here ∙ ap (λ (x : Request). partition_of x.target) one ∙ here in
        subst (λ n. StoredLike (entries_at w n) d) place
        (a.stored.stored d (ap (λ (x : Request). entry_in (batch_of x.text)) one ∙ reads))

    -- so none of them comes behind those that stand
    none_after : (f : FrontOf batches id epoch (entries_at w partition)) → f.after ≡ []
    none_after f = by f.after refl
      where
        by : (after : List Values) → f.after ≡ after → f.after ≡ []
        by [] e = e
        by (values ∷ rest) e =
            let first = length (values_of f.front) in
            let records = value_records (all_in values) in
            let was = wrote.each f.front values rest (f.parts ∙ ap (λ l. f.front ++ l) e) in
            let made = All-contains (AreMade w.sent) w.sent (msg.Produce was.request) asks.made
            was.handed in
            let low : first < 2 ^ 31 =
            sent_low pair pair_fits first records w.sent was.request made was.text f.low in
            let text : List ℕ = client_batch true pair first records in
            let d : Sequenced = data_with pair first (batch_of text).records in
            let reads : entry_in (batch_of was.request.batch) ≡ Data d =
            ap (λ t. entry_in (batch_of t)) was.text
            ∙ reads_as_data pair pair_fits first records low in
            let like = stands was.request d was.handed was.here reads refl refl in
            let ordered = grown_ordered (log_at w partition)
            (grown_at w partition stand.holds fit) in
            let below = ordered.below like.batch like.there in
            let same : expected (entries_at w partition) like.batch.id like.batch.epoch ≡ first =
            ap (λ n. expected (entries_at w partition) n like.batch.epoch) like.id
            ∙ ap (expected (entries_at w partition) id) like.epoch ∙ f.next in
            absurd (omega (arith, below.0, below.1, same, like.first))

    all_shown : shown (outputs w partition id epoch) ≡ map keyless (values_of batches)
    all_shown =
        let f = front_in in
        let all : batches ≡ f.front =
        f.parts ∙ ap (λ l. f.front ++ l) (none_after f) ∙ append-nil f.front in
        f.shows ∙ ap (λ l. map keyless (values_of l)) (sym all)

------ over every schedule

-- what a transaction wrote to a data partition is the values of a front of the batches that were
-- sent there, each batch once and in order
pub outputs_are_a_front : Always (λ w. (partition : ℕ) → partition ≢ offsets_partition
    → (id epoch : ℕ) (batches : List Values) → Wrote w.sent partition id epoch batches
    → IsFront w partition id epoch batches)
outputs_are_a_front count events fits partition apart id epoch batches wrote =
    is_front (run events (start count)) (partitions_stand_always count events fits)
    (requests_stand_always count events fits) partition apart id epoch batches wrote

-- the same of the values alone
pub outputs_begin : Always (λ w. (partition : ℕ) → partition ≢ offsets_partition
    → (id epoch : ℕ) (batches : List Values) → Wrote w.sent partition id epoch batches
    → (more : List Content)
    × (map keyless (values_of batches) ≡ shown (outputs w partition id epoch) ++ more))
outputs_begin count events fits partition apart id epoch batches wrote =
    let f = outputs_are_a_front count events fits partition apart id epoch batches wrote in (
      map keyless (values_of f.after),
      ap (λ l. map keyless (values_of l)) f.parts
          ∙ ap (map keyless) (flat_map-append all_in f.front f.after)
          ∙ map-append keyless (values_of f.front) (values_of f.after)
          ∙ ap (λ l. l ++ map keyless (values_of f.after)) (sym f.shows),
    )

-- if it is decided to commit, it wrote them all
pub outputs_are_all : Always (λ w. (partition : ℕ) → partition ≢ offsets_partition
    → (id epoch : ℕ) (batches : List Values) → Wrote w.sent partition id epoch batches
    → decision (notes w) id epoch ≡ Some Commit
    → shown (outputs w partition id epoch) ≡ map keyless (values_of batches))
outputs_are_all count events fits partition apart id epoch batches wrote decided =
    all_shown (run events (start count)) (partitions_stand_always count events fits)
    (requests_stand_always count events fits) partition apart id epoch batches wrote decided
