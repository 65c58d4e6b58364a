-- Each batch of the offsets partition's log came by a commit of offsets, which the group took at
-- the log before it.
use Rattle.std.proofs.Common.{◌≡◌, ◌<◌, ◌^◌, ℕ, ℤ, pos, Bool, true, false, ◌&&◌, List, [], ◌∷◌}
use Rattle.std.proofs.Common.{◌++◌, map, length, Some, ◌==◌, nat_lt, Contains, refl, sym}
use Rattle.std.proofs.Common.{ap, ◌∙◌, subst, arith}
use Rattle.std.specs.Prelude.{bytes_eq, filter_map}
use Rattle.std.specs.List.{cons_option}
use Rattle.std.proofs.lemmas.Bool.{and_parts}
use Rattle.std.proofs.lemmas.Bool.Decides.{nat_tests}
use Rattle.std.proofs.lemmas.List.Elements.{All-contains}
use Rattle.std.proofs.lemmas.Slice.Eq.{bytes_eq-Decides}
use Rattle.kx_message.specs.Ranges.{offsets_partition}
use Rattle.kx_message.specs.Values.{where_true}
use Rattle.kx_message.specs.declared.message.Message.{Message}
use Rattle.kx_message.specs.declared.message.Message.TheVariants as msg
use Rattle.kx_message.specs.declared.payload.PartitionOffset.{PartitionOffset}
use Rattle.kx_message.specs.declared.requests.TxnOffsetCommit.{TxnOffsetCommit}
use Rattle.kx_batch.specs.Batch.{batch_of}
use Rattle.kx_model.specs.Groups.{offset_for, offset_records, offsets_batch, offsets_in}
use Rattle.kx_model.specs.Log.{Entry, Data, Sequenced, Stored, entries, entry_in, entry_of}
use Rattle.kx_model.specs.Verification.{Request, judge_request}
use Rattle.kx_model.specs.World.{World, entries_at, log_at, partition_at}
use Rattle.kx_headline.proofs.ClientRequests.{AreMade, Carries, HeldFits, IsMade, Load}
use Rattle.kx_headline.proofs.ClientRequests.{RequestsStand}
use Rattle.kx_headline.proofs.ClientRequests.{with_batch, with_offsets}
use Rattle.kx_headline.proofs.LogCauses.{DataCause, data_came, each_came}
use Rattle.kx_headline.proofs.MarkersFit.{markers_fit}
use Rattle.kx_headline.proofs.PartitionsAlways.{PartitionsStand}
use Rattle.kx_headline.proofs.StoredRequests.{built_in}
use Rattle.kx_offsets.specs.Facts.{CommitFits, offset_said}
use Rattle.kx_offsets.proofs.Commits.{commit_entry, commit_says}
use Rattle.kx_pipeline.specs.Chain.{has_offset}
use Rattle.kx_pipeline.proofs.CommitsFit.{CommitFitsIn, CommitsFit}
use Rattle.kx_pipeline.proofs.Generations.{accepts}
use Rattle.kx_pipeline.proofs.OffsetsSay.{commit_is}
use Rattle.kx_pipeline.proofs.RefusedCodes.{taken_accepts}

------ a split of what a list becomes

record MapSplit {A B : Type 0} (f : A → B) (list : List A) (before : List B) (y : B) : Type 0 where
  front : List A
  item : A
  back : List A
  parts : list ≡ front ++ item ∷ back
  before_is : map f front ≡ before
  item_is : f item ≡ y

cons_is : {B : Type 0} (x y : B) (l k : List B) → x ≡ y → l ≡ k → x ∷ l ≡ y ∷ k
cons_is x y l k e f = λ i. e i ∷ f i

map_split : {A B : Type 0} (f : A → B) (list : List A) (before : List B) (y : B)
    (behind : List B) → map f list ≡ before ++ y ∷ behind → MapSplit f list before y
map_split f [] [] y behind e = absurd cc
map_split f [] (z ∷ before) y behind e = absurd cc
map_split f (x ∷ list) [] y behind e = record {
  front = [];
  item = x;
  back = list;
  parts = refl;
  before_is = refl;
  item_is = cc;
}
map_split f (x ∷ list) (z ∷ before) y behind e =
    let rest = map_split f list before y behind cc in
    let first : f x ≡ z = cc in
    record {
      front = x ∷ rest.front;
      item = rest.item;
      back = rest.back;
      parts = cons_is x x list (rest.front ++ rest.item ∷ rest.back) refl rest.parts;
      before_is = cons_is (f x) z (map f rest.front) before first rest.before_is;
      item_is = rest.item_is;
    }

------ the batch of a commit

-- what the batch of a commit is to the rules
abbrev pub batch_for : TxnOffsetCommit → ℕ → Sequenced
batch_for it first = record {
  id = it.held.id;
  epoch = it.held.epoch;
  first = first;
  transactional = true;
  records = offset_records it.group it.offsets;
}

-- how it came
pub record Came (sent : List Message) (before : List Entry) (batch : Sequenced) : Type 0 where
  pub commit : TxnOffsetCommit
  pub handed : Contains sent (msg.TxnOffsetCommit commit)
  pub accepted : accepts before commit.group commit.member commit.generation ≡ true
  pub first : ℕ
  pub sequence : commit.first_sequence ≡ pos first
  pub is : batch ≡ batch_for commit first
  pub fits : CommitFits commit.group commit.held (pos first) commit.offsets

record CarriesCommit (it : TxnOffsetCommit) : Type 0 where
  first : ℕ
  sequence : it.first_sequence ≡ pos first
  held : HeldFits it.held
  low : first < 2 ^ 31

carries_commit : (m : Message) (it : TxnOffsetCommit) (l : Load) → m ≡ msg.TxnOffsetCommit it
    → Carries m l → CarriesCommit it
carries_commit m it l e
    (with_batch caller txn partition transactional held first records fits low) =
    absurd cc
carries_commit m it l e
    (with_offsets caller txn group member generation held first offsets fits low) = record {
      first = first;
      sequence = cc;
      held = subst HeldFits (let same : held ≡ it.held = cc in same) fits;
      low = low;
    }

same_data : (d e : Sequenced) → Data d ≡ Data e → d ≡ e
same_data d e same = cc

same_request : (r s : Request) → Some r ≡ Some s → r ≡ s
same_request r s e = cc

------ in a world

module _ (w : World) (stand : PartitionsStand w) (requests : RequestsStand w)
    (commits : CommitsFit w) where
  abbrev log : List Stored
  log = log_at w offsets_partition

  commit_fits : (it : TxnOffsetCommit) → Contains w.sent (msg.TxnOffsetCommit it)
      → (k : CarriesCommit it) → CommitFits it.group it.held (pos k.first) it.offsets
  commit_fits it there k =
      let fit = All-contains CommitFitsIn w.sent (msg.TxnOffsetCommit it) commits.sent there in
      record {
        name = fit.0;
        ids = record { id = k.held.id; epoch = k.held.epoch };
        sequence = record { sfits = k.low };
        said = fit.1;
      }

  -- what the batch of a commit that was handed out is
  pub entry_of_commit : (it : TxnOffsetCommit) → Contains w.sent (msg.TxnOffsetCommit it)
      → (first : ℕ)
      × (entry_in (batch_of (offsets_batch it.group it.held it.first_sequence it.offsets))
      ≡ Data (batch_for it first))
  entry_of_commit it there =
      let made : IsMade w.sent (msg.TxnOffsetCommit it) =
      All-contains (AreMade w.sent) w.sent (msg.TxnOffsetCommit it) requests.made there in
      let k = carries_commit (msg.TxnOffsetCommit it) it made.load refl made.carries in (
        k.first,
        ap (λ z. entry_in (batch_of (offsets_batch it.group it.held z it.offsets))) k.sequence
            ∙ commit_entry it.group it.held k.first it.offsets (commit_fits it there k),
      )

  by_cause : (before : List Stored) (stored : Stored) (batch : Sequenced)
      → DataCause w.sent offsets_partition before stored batch
      → Came w.sent (entries before) batch
  by_cause before stored batch cause =
      let r = cause.request in
      let c = commit_is w.sent log r cause.asked_for in
      let it = c.commit in
      let made : IsMade w.sent (msg.TxnOffsetCommit it) =
      All-contains (AreMade w.sent) w.sent (msg.TxnOffsetCommit it) requests.made c.handed in
      let k = carries_commit (msg.TxnOffsetCommit it) it made.load refl made.carries in
      let fits = commit_fits it c.handed k in
      let text : r.text ≡ offsets_batch it.group it.held (pos k.first) it.offsets =
      ap (λ (x : Request). x.text) (sym (same_request _ r c.is))
      ∙ ap (λ z. offsets_batch it.group it.held z it.offsets) k.sequence in
      record {
        commit = it;
        handed = c.handed;
        accepted = taken_accepts (entries before) cause.verified it.group it.member it.generation _
            (ap (judge_request (entries before) cause.verified) (same_request _ r c.is)
            ∙ cause.judged);
        first = k.first;
        sequence = k.sequence;
        is = same_data batch (batch_for it k.first)
            (sym cause.entry ∙ ap (λ t. entry_in (batch_of t)) text
            ∙ commit_entry it.group it.held k.first it.offsets fits);
        fits = fits;
      }

  pub each_batch_came : (before behind : List Entry) (batch : Sequenced)
      → entries_at w offsets_partition ≡ before ++ Data batch ∷ behind → Came w.sent before batch
  each_batch_came before behind batch e =
      let s = map_split entry_of log before (Data batch) behind e in
      let built = built_in w.sent offsets_partition (partition_at w offsets_partition)
      (stand.holds offsets_partition) in
      let by = each_came w.sent offsets_partition log built s.front s.item s.back s.parts in
      let cause = data_came w.sent offsets_partition (markers_fit w stand.coordinator) s.front
      s.item batch by s.item_is in
      subst (λ l. Came w.sent l batch) s.before_is (by_cause s.front s.item batch cause)

------ its offsets

-- what a commit's records say
pub offsets_of : (it : TxnOffsetCommit) (first : ℕ) (group : List ℕ) (q : ℕ)
    → CommitFits it.group it.held (pos first) it.offsets
    → offsets_in group q (batch_for it first)
    ≡ filter_map (offset_for group q) (map (offset_said it.group) it.offsets)
offsets_of it first group q fits =
    ap (filter_map (offset_for group q))
    (commit_says it.group it.held (pos first) it.offsets fits)

none_of_another : (group other : List ℕ) (q : ℕ) (offsets : List PartitionOffset)
    → bytes_eq other group ≡ false
    → filter_map (offset_for group q) (map (offset_said other) offsets) ≡ []
none_of_another group other q [] e = refl
none_of_another group other q (o ∷ offsets) e =
    ap (λ b. cons_option (where_true (b && o.partition == q) o.offset)
    (filter_map (offset_for group q) (map (offset_said other) offsets))) e
    ∙ none_of_another group other q offsets e

-- a commit with an offset of a group is of that group
pub its_group : (it : TxnOffsetCommit) (first : ℕ) (group : List ℕ) (q : ℕ)
    → CommitFits it.group it.held (pos first) it.offsets
    → has_offset group q (batch_for it first) ≡ true → it.group ≡ group
its_group it first group q fits has = by (bytes_eq it.group group) refl
  where
    by : (b : Bool) → bytes_eq it.group group ≡ b → it.group ≡ group
    by true e = (bytes_eq-Decides it.group group).0 e
    by false e =
        let none = offsets_of it first group q fits
        ∙ none_of_another group it.group q it.offsets e in
        let no_offset : has_offset group q (batch_for it first) ≡ false =
        ap (λ (l : List ℤ). nat_lt 0 (length l)) none in
        absurd (let both = sym has ∙ no_offset in cc)

-- the offset of a commit of one
pub one_offset : (it : TxnOffsetCommit) (first : ℕ) (group : List ℕ) (q input : ℕ) (next : ℤ)
    → CommitFits it.group it.held (pos first) it.offsets
    → it.offsets ≡ record { partition = input; offset = next } ∷ []
    → has_offset group q (batch_for it first) ≡ true
    → (input ≡ q) × (offsets_in group q (batch_for it first) ≡ next ∷ [])
one_offset it first group q input next fits one has =
    by (bytes_eq it.group group && input == q) refl
  where
    is : offsets_in group q (batch_for it first)
        ≡ cons_option (where_true (bytes_eq it.group group && input == q) next) []
    is =
        offsets_of it first group q fits
        ∙ ap (λ l. filter_map (offset_for group q) (map (offset_said it.group) l)) one

    by : (b : Bool) → (bytes_eq it.group group && input == q) ≡ b
        → (input ≡ q) × (offsets_in group q (batch_for it first) ≡ next ∷ [])
    by true e =
        let p = and_parts (bytes_eq it.group group) (input == q) e in (
          grind (arith, nat_tests, p.1),
          is ∙ ap (λ b. cons_option (where_true b next) []) e,
        )
    by false e =
        let none = is ∙ ap (λ b. cons_option (where_true b next) []) e in
        let no_offset : has_offset group q (batch_for it first) ≡ false =
        ap (λ (l : List ℤ). nat_lt 0 (length l)) none in
        absurd (let both = sym has ∙ no_offset in cc)
