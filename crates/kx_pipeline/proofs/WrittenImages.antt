-- What a group's transactions wrote: each that is decided to commit wrote the images of what it
-- read, each once and in order, to one output partition, and nothing to another.
use Rattle.std.proofs.Common.{◌≡◌, ◌≢◌, ◌<◌, ◌+◌, ℕ, ℤ, pos, Bool, true, false, not}
use Rattle.std.proofs.Common.{◌&&◌, cond, List, [], ◌∷◌, map, length, Option, Some, None}
use Rattle.std.proofs.Common.{Contains, All, refl, sym, ap, ◌∙◌, subst, arith, ⊎_elim, ◌==◌}
use Rattle.std.proofs.Common.{nat_lt}
use Rattle.std.specs.Prelude.{bytes_eq, filter_map}
use Rattle.std.specs.List.{cons_option, flat_map}
use Rattle.std.specs.Option.{option_map_or}
use Rattle.std.proofs.lemmas.Bool.{and_from, and_parts}
use Rattle.std.proofs.lemmas.Bool.Decides.{nat_tests}
use Rattle.std.proofs.lemmas.List.Elements.{All-contains, Contains-append_cases}
use Rattle.std.proofs.lemmas.List.Elements.{Contains-append_left, Contains-append_right}
use Rattle.std.proofs.lemmas.List.Elements.{Contains-push_cases}
use Rattle.std.proofs.lemmas.Slice.Eq.{bytes_eq-Decides}
use Rattle.kx_message.specs.Messages as the
use Rattle.kx_message.specs.Ranges.{offsets_partition}
use Rattle.kx_message.specs.Values.{where_true}
use Rattle.kx_message.specs.declared.code.ErrorCode.TheVariants as code
use Rattle.kx_message.specs.declared.message.Held.{Held}
use Rattle.kx_message.specs.declared.message.Message.TheVariants as msg
use Rattle.kx_message.specs.declared.outcome.Outcome.{Outcome}
use Rattle.kx_message.specs.declared.outcome.Outcome.TheVariants.{Abort, Commit}
use Rattle.kx_message.specs.declared.requests.Caller.{Caller}
use Rattle.kx_message.specs.declared.requests.EndTxn.{EndTxn}
use Rattle.kx_message.specs.declared.requests.Produce.{Produce}
use Rattle.kx_message.specs.declared.requests.TxnOffsetCommit.{TxnOffsetCommit}
use Rattle.kx_batch.specs.Batch.{batch_of}
use Rattle.kx_batch.specs.Record.{Record}
use Rattle.kx_client.specs.declared.values.Values.{Values}
use Rattle.kx_model.specs.Client.{Client}
use Rattle.kx_model.specs.Coordinator.{commits, decision, same_outcome}
use Rattle.kx_model.specs.Groups.{offset_for, offsets_in}
use Rattle.kx_model.specs.Headline.{HasOneOutcome}
use Rattle.kx_model.specs.Log.{Data, Entry, Sequenced}
use Rattle.kx_model.specs.Log.{entry_in}
use Rattle.kx_model.specs.Transactions.{has_commit, is_commit_of}
use Rattle.kx_model.specs.Verification.{Request}
use Rattle.kx_model.specs.World.{World, entries_at, holds, log_at, notes}
use Rattle.kx_headline.proofs.ClientsKeep.{numbers_of}
use Rattle.kx_headline.proofs.ClientHolds.{Handed, IsEntitled}
use Rattle.kx_headline.proofs.ClientRequests.{AreMade}
use Rattle.kx_headline.proofs.CommitsAsked.{commit_asked}
use Rattle.kx_headline.proofs.Loads.{carries_reads, same_request}
use Rattle.kx_headline.proofs.OneHolder.{holds_tells}
use Rattle.kx_headline.proofs.PartitionsAlways.{Promised}
use Rattle.kx_headline.proofs.RequestsAlways.{handed_fits}
use Rattle.kx_laws.proofs.ClosedByCommit.{commit_tells}
use Rattle.kx_laws.proofs.DroppedIds.{same_number}
use Rattle.kx_laws.proofs.Membership.{any_holds, cons_cases, contains_head, filter_holds}
use Rattle.kx_laws.proofs.Membership.{filter_keeps, map_holds, no_element, split_at}
use Rattle.kx_offsets.specs.Facts.{CommitFits, offset_said}
use Rattle.kx_system.specs.Processor.{Images, Processing}
use Rattle.kx_system.specs.System.{System}
use Rattle.kx_pipeline.specs.Chain.{Range, awaiting, committed_after, from_of, has_offset}
use Rattle.kx_pipeline.specs.Chain.{last_fetch}
use Rattle.kx_pipeline.specs.Chain.{offset_batch, offset_batches, ranges_of, read_by, read_from}
use Rattle.kx_pipeline.specs.Outputs.{Wrote, content_of, keyless, outputs, values_of}
use Rattle.kx_pipeline.specs.Premises.{IsPipeline, IsProcessor, WasMember}
use Rattle.kx_pipeline.specs.Written.{WritesImages, chain_batches, images_in}
use Rattle.kx_pipeline.proofs.Batches.{batches_hold_all}
use Rattle.kx_pipeline.proofs.ChainHolds.{Stands}
use Rattle.kx_pipeline.proofs.ChainOrder.{stands_in}
use Rattle.kx_pipeline.proofs.CommitsCame.{batch_for, each_batch_came, entry_of_commit}
use Rattle.kx_pipeline.proofs.CommitsCame.{its_group, offsets_of, one_offset}
use Rattle.kx_pipeline.proofs.LinkedCommits.{came_of, one_number, request_found}
use Rattle.kx_pipeline.proofs.OffsetsSay.{commit_is}
use Rattle.kx_pipeline.proofs.ProcessorTurns.{Facts, commit_handed, one_holder}
use Rattle.kx_pipeline.proofs.ProcessorWrites.{HasOffsets, IsOffsets, IsWritten, Writes}
use Rattle.kx_pipeline.proofs.ProcessorsFit.{ProcessingFits}
use Rattle.kx_pipeline.proofs.QuietTurns.{IsNumbered}
use Rattle.kx_pipeline.proofs.SentTexts.{IsAs, sends_wrote}
use Rattle.kx_pipeline.proofs.SoleBatches.{sends_elsewhere, sole_sends}
use Rattle.kx_pipeline.proofs.SystemHolds.{Holds}
use Rattle.kx_pipeline.proofs.SystemLinks.{are_based}
use Rattle.kx_pipeline.proofs.SystemWrites.{AllWrite, Reads}

------ in a world

commits_tell : (o : Option Outcome) → option_map_or (same_outcome Commit) o false ≡ true
    → o ≡ Some Commit
commits_tell None e = absurd cc
commits_tell (Some Commit) e = refl
commits_tell (Some Abort) e = absurd cc

-- a batch of a pair was sent by a client that was handed the pair
handed_by : (w : World) → Facts w → (request : Produce) (held : Held)
    → Contains w.sent (msg.Produce request)
    → IsAs request.partition held.id held.epoch request
    → Handed w.sent request.caller.client held
handed_by w f request held there a =
    let made = All-contains (AreMade w.sent) w.sent (msg.Produce request) f.requests.made there in
    let x = carries_reads (msg.Produce request) made.load made.carries in
    let same = same_request x.request _ (sym x.is ∙ refl) in
    let n = numbers_of (batch_of request.batch) a.batch a.reads in
    let id : made.load.held.id ≡ held.id = same_number made.load.held.id held.id
    (sym x.id ∙ ap (λ (q : Request). (batch_of q.text).producer_id) same ∙ n.id_is
    ∙ ap pos a.its_id) in
    let epoch : made.load.held.epoch ≡ held.epoch =
    same_number made.load.held.epoch held.epoch
    (sym x.epoch ∙ ap (λ (q : Request). (batch_of q.text).producer_epoch) same ∙ n.epoch_is
    ∙ ap pos a.its_epoch) in
    let client : request.caller.client ≡ made.client = let s = made.its_sender in cc in
    subst (λ n. Handed w.sent n held) (sym client)
    (subst (Handed w.sent made.client) (λ i. record { id = id i; epoch = epoch i }) made.handed)

-- what a transaction that is decided to commit wrote are the batches that were sent
abbrev pub AllShown : World → Type 0
AllShown w =
    (partition : ℕ) → partition ≢ offsets_partition → (id epoch : ℕ) (batches : List Values)
    → Wrote w.sent partition id epoch batches → decision (notes w) id epoch ≡ Some Commit
    → map content_of (outputs w partition id epoch) ≡ map keyless (values_of batches)

no_values : (records : List Record) → map content_of records ≡ [] → records ≡ []
no_values [] e = refl
no_values (r ∷ records) e = absurd (omega (arith, ap length e))

module _ (w : World) (f : Facts w) (all_shown : AllShown w) (c : Client) (p : Processing)
    (it : TxnOffsetCommit) (own : IsOffsets w.sent (Reads w) p.inputs p.image c.number it)
    (x : IsWritten w.sent (Reads w) p.inputs p.image c.number it)
    (decided : decision (notes w) it.held.id it.held.epoch ≡ Some Commit) where
  handed : Handed w.sent c.number it.held
  handed = subst (λ n. Handed w.sent n it.held) own.1 (commit_handed w f it own.0)

  -- nobody else sent a batch of the pair
  alone : (request : Produce) → Contains w.sent (msg.Produce request)
      → IsAs request.partition it.held.id it.held.epoch request
      → request.caller.client ≡ c.number
  alone request there a =
      one_holder w f request.caller.client c.number it.held
      (handed_by w f request it.held there a) handed

  abbrev read : Range
  read = record {
    from = from_of (last_fetch w.sent c.number it.caller.correlation);
    end = x.next;
  }

  -- it wrote the images of what it read
  images_out : x.input + p.inputs ≢ offsets_partition
      → map content_of (outputs w (x.input + p.inputs) it.held.id it.held.epoch)
      ≡ map keyless (images_in w p.image x.input read)
  images_out apart =
      let output = x.input + p.inputs in
      let sends = sole_sends w.sent c.number output it.held x.batches x.sole alone in
      let wrote = sends_wrote w.sent output it.held.id it.held.epoch x.batches sends
      (handed_fits w f.requests.holders.stands c.number it.held handed) in
      all_shown output apart it.held.id it.held.epoch x.batches wrote decided
      ∙ ap (map keyless)
      (ap values_of (sym x.images.are)
      ∙ batches_hold_all (map (λ s. p.image s.shown) x.images.records)
      ∙ ap (map (λ s. p.image s.shown)) x.images.shows.0)

  -- and nothing elsewhere
  none_out : (partition : ℕ) → partition ≢ x.input + p.inputs → partition ≢ offsets_partition
      → outputs w partition it.held.id it.held.epoch ≡ []
  none_out partition other apart =
      let output = x.input + p.inputs in
      let sends = sends_elsewhere w.sent c.number output it.held x.batches x.sole alone partition
      other in
      let wrote = sends_wrote w.sent partition it.held.id it.held.epoch [] sends
      (handed_fits w f.requests.holders.stands c.number it.held handed) in
      no_values (outputs w partition it.held.id it.held.epoch)
      (all_shown partition apart it.held.id it.held.epoch [] wrote decided)

-- a commit that was answered stands
record HasStood (w : World) (it : TxnOffsetCommit) : Type 0 where
  batch : Sequenced
  there : Contains (entries_at w offsets_partition) (Data batch)
  first : ℕ
  is : batch ≡ batch_for it first
  fits : CommitFits it.group it.held (pos first) it.offsets

same_verified : (r s : Request) → Some r ≡ Some s → r ≡ s
same_verified r s e = cc

-- as the batch that it is to the rules
has_stood : (s : System) → Holds s → (it : TxnOffsetCommit)
    → Contains s.world.sent (msg.TxnOffsetCommit it) → IsNumbered s it.caller.client
    → Contains s.world.sent (the.OffsetsReply it.caller code.NoError) → HasStood s.world it
has_stood s h it there numbered answer =
    let w = s.world in
    let stand = h.facts.replies.partitions in
    let requests = h.facts.requests in
    let fit = h.facts.commits in
    let said = All-contains (Promised w) w.sent (the.OffsetsReply it.caller code.NoError)
    stand.promised answer in
    let c = commit_is w.sent (log_at w offsets_partition) said.request said.asked_for in
    let n = c.commit in
    let r = same_verified _ said.request c.is in
    let caller : n.caller ≡ it.caller = ap (λ (x : Request). x.caller) r ∙ said.its_caller in
    let held = one_number w stand requests fit it n there c.handed
    (ap (λ (x : Caller). x.client) caller) (ap (λ (x : Caller). x.correlation) caller) in
    let e = entry_of_commit w stand requests fit n c.handed in
    let like = said.stored _ (ap (λ (x : Request). entry_in (batch_of x.text)) (sym r) ∙ e.1) in
    let d = split_at (entries_at w offsets_partition) (Data like.batch) like.there in
    let came = each_batch_came w stand requests fit d.before d.after like.batch d.parts in
    let own = came_of w stand requests fit came.commit came.first like.batch came.is in
    let id : came.commit.held.id ≡ it.held.id =
    sym own.0 ∙ like.id ∙ ap (λ (x : Held). x.id) held in
    let epoch : came.commit.held.epoch ≡ it.held.epoch =
    sym own.1 ∙ like.epoch ∙ ap (λ (x : Held). x.epoch) held in
    let same : came.commit ≡ it = h.alone it came.commit there came.handed numbered
    (λ i. record { id = id i; epoch = epoch i }) in
    record {
      batch = like.batch;
      there = like.there;
      first = came.first;
      is = came.is ∙ ap (λ x. batch_for x came.first) same;
      fits = subst (λ (x : TxnOffsetCommit). CommitFits x.group x.held (pos came.first) x.offsets)
          same came.fits;
    }

-- a commit of one offset has it
has_one : (it : TxnOffsetCommit) (first q : ℕ) (next : ℤ)
    → CommitFits it.group it.held (pos first) it.offsets
    → it.offsets ≡ record { partition = q; offset = next } ∷ []
    → has_offset it.group q (batch_for it first) ≡ true
has_one it first q next fits one =
    let is : offsets_in it.group q (batch_for it first)
    ≡ cons_option (where_true (bytes_eq it.group it.group && q == q) next) [] =
    offsets_of it first it.group q fits
    ∙ ap (λ l. filter_map (offset_for it.group q) (map (offset_said it.group) l)) one in
    let both = and_from (bytes_eq it.group it.group) (q == q)
    ((bytes_eq-Decides it.group it.group).1 refl) (grind (arith, nat_tests)) in
    ap (λ (l : List ℤ). nat_lt 0 (length l))
    (is ∙ ap (λ b. cons_option (where_true b next) []) both)

------ the batches of a chain

flat_map_keeps : {A B : Type 0} (f : A → List B) (list : List A) (x : A) (y : B)
    → Contains list x → Contains (f x) y → Contains (flat_map f list) y
flat_map_keeps f [] x y c d = absurd (no_element x c)
flat_map_keeps f (z ∷ list) x y c d =
    ⊎_elim
    (λ first. Contains-append_left (f z) (flat_map f list) y
    (subst (λ v. Contains (f v) y) (sym first) d))
    (λ rest. Contains-append_right (f z) (flat_map f list) y
    (flat_map_keeps f list x y rest d))
    (cons_cases z x list c)

module _ (w : World) (one : HasOneOutcome w) (group : List ℕ) (q : ℕ)
    (stands : Stands (read_from w.sent group) group q (entries_at w offsets_partition)) where
  abbrev log : List Entry
  log = entries_at w offsets_partition

  abbrev marked : Sequenced → Bool
  marked batch = has_commit log batch.id batch.epoch

  abbrev waits : Sequenced → Bool
  waits batch = commits (notes w) batch.id batch.epoch && not (marked batch)

  -- each is one with an offset, and decided to commit
  pub chain_tells : (batch : Sequenced) → Contains (chain_batches w group q) batch
      → Contains (offset_batches group q log) batch
      × (decision (notes w) batch.id batch.epoch ≡ Some Commit)
  chain_tells batch c =
      ⊎_elim in_order in_wait
      (Contains-append_cases (committed_after group q [] log)
      (awaiting (commits (notes w)) group q log) batch c)
    where
      in_order : Contains (committed_after group q [] log) batch
          → Contains (offset_batches group q log) batch
          × (decision (notes w) batch.id batch.epoch ≡ Some Commit)
      in_order d =
          let h = filter_holds marked (offset_batches group q log) batch
          (subst (λ l. Contains l batch) stands.same d) in
          let (entry, there, test) = any_holds (is_commit_of batch.id batch.epoch) log h.1 in
          let k = commit_tells batch.id batch.epoch entry test in
          let m = k.marker in
          let (epoch, is, decided) = one.decided offsets_partition m
          (subst (Contains log) k.is there) in
          let same : batch.epoch ≡ epoch = omega (arith, is, k.raised) in (
            h.0,
            ap (decision (notes w) batch.id) same
                ∙ ap (λ id. decision (notes w) id epoch) (sym k.its_id) ∙ decided
                ∙ ap Some k.outcome,
          )

      in_wait : Contains (awaiting (commits (notes w)) group q log) batch
          → Contains (offset_batches group q log) batch
          × (decision (notes w) batch.id batch.epoch ≡ Some Commit)
      in_wait d =
          let h = filter_holds waits (offset_batches group q log) batch d in
          let both = and_parts (commits (notes w) batch.id batch.epoch) (not (marked batch)) h.1 in
          (h.0, commits_tell (decision (notes w) batch.id batch.epoch) both.0)

  -- and each such batch is one
  chain_has : (batch : Sequenced) → Contains (offset_batches group q log) batch
      → commits (notes w) batch.id batch.epoch ≡ true → Contains (chain_batches w group q) batch
  chain_has batch c decided = by (marked batch) refl
    where
      by : (b : Bool) → marked batch ≡ b → Contains (chain_batches w group q) batch
      by true e =
          Contains-append_left (committed_after group q [] log)
          (awaiting (commits (notes w)) group q log) batch
          (subst (λ l. Contains l batch) (sym stands.same)
          (filter_keeps marked (offset_batches group q log) batch c e))
      by false e =
          Contains-append_right (committed_after group q [] log)
          (awaiting (commits (notes w)) group q log) batch
          (filter_keeps waits (offset_batches group q log) batch c
          (and_from (commits (notes w) batch.id batch.epoch) (not (marked batch)) decided
          (ap not e)))

------ a group

module _ (s : System) (h : Holds s) (writes : AllWrite s) (fits : All ProcessingFits s.processors)
    (group : List ℕ) (inputs : ℕ) (image : Images) (pipeline : IsPipeline s group inputs image)
  where
    abbrev w : World
    w = s.world

    -- a processor of the group, and its client
    record ItsClient (number : ℕ) : Type 0 where
      client : Client
      at : Contains w.clients client
      processing : Processing
      there : Contains s.processors processing
      paired : processing.number ≡ client.number
      its_number : client.number ≡ number
      of_group : processing.group ≡ group

    its_client : (number : ℕ) → IsProcessor s group number → ItsClient number
    its_client number is =
        let p = is.processing in
        let (c, at, same) = map_holds (λ (c : Client). c.number) w.clients p.number
        (h.known p is.there) in
        record {
          client = c;
          at = at;
          processing = p;
          there = is.there;
          paired = sym same;
          its_number = same ∙ is.number;
          of_group = is.its_group;
        }

    -- one that was a member has the process and the inputs of all
    its_process : (number : ℕ) (x : ItsClient number) → WasMember w group number
        → (x.processing.inputs ≡ inputs) × (x.processing.image ≡ image)
    its_process number x member =
        (pipeline.members number member).alike x.processing x.there (x.paired ∙ x.its_number)

    its_writes : (number : ℕ) (x : ItsClient number) → Writes w.sent (Reads w) x.client x.processing
    its_writes number x = writes x.client x.processing x.at x.there x.paired

    -- the group has few input partitions
    apart : (number : ℕ) (x : ItsClient number) → x.processing.inputs ≡ inputs → (q : ℕ)
        → q < inputs → q + inputs ≢ offsets_partition
    apart number x same q low =
        let few = (All-contains ProcessingFits s.processors x.processing fits x.there).few in
        λ e. omega (arith, few, same, low, e)

    module _ (all_shown : AllShown w) (one : HasOneOutcome w) (q : ℕ) (low : q < inputs)
        (stands : Stands (read_from w.sent group) group q (entries_at w offsets_partition)) where
      each_image : (batch : Sequenced) (range : Range) → Contains (chain_batches w group q) batch
          → Contains (ranges_of w.sent group q batch) range
          → map content_of (outputs w (q + inputs) batch.id batch.epoch)
          ≡ map keyless (images_in w image q range)
      each_image batch range in_chain in_ranges =
          let tells = chain_tells w one group q stands batch in_chain in
          let d = stands_in group q (entries_at w offsets_partition) batch tells.0 in
          let came = each_batch_came w h.facts.replies.partitions h.facts.requests h.facts.commits
          d.before d.behind batch d.parts in
          let it = came.commit in
          let has_own : has_offset group q (batch_for it came.first) ≡ true =
          ap (has_offset group q) (sym came.is) ∙ d.has in
          let g = its_group it came.first group q came.fits has_own in
          let member = pipeline.alone it came.handed g in
          let x = its_client it.caller.client
          (pipeline.members it.caller.client member).processor in
          let alike = its_process it.caller.client x member in
          let c = x.client in
          let p = x.processing in
          let own : IsOffsets w.sent (Reads w) p.inputs p.image c.number it =
          (came.handed, sym x.its_number) in
          let is_written = (its_writes it.caller.client x).written it own in
          let o = one_offset it came.first group q is_written.input is_written.next came.fits
          is_written.one has_own in
          let id : batch.id ≡ it.held.id = ap (λ (b : Sequenced). b.id) came.is in
          let epoch : batch.epoch ≡ it.held.epoch = ap (λ (b : Sequenced). b.epoch) came.is in
          let output : is_written.input + p.inputs ≡ q + inputs =
          ap (λ n. n + p.inputs) o.0 ∙ ap (λ n. q + n) alike.0 in
          let decided : decision (notes w) it.held.id it.held.epoch ≡ Some Commit =
          ap (λ n. decision (notes w) n it.held.epoch) (sym id)
          ∙ ap (decision (notes w) batch.id) (sym epoch) ∙ tells.1 in
          let shows = images_out w h.facts all_shown c p it own is_written decided
          (λ e. apart it.caller.client x alike.0 q low (sym output ∙ e)) in
          let (offset, offset_in, range_is) = map_holds
          (λ offset. record { from = read_from w.sent group batch; end = offset })
          (offsets_in group q batch) range in_ranges in
          let ends : is_written.next ≡ offset =
          ⊎_elim (λ none. absurd (no_element offset none)) (λ same. same)
          (Contains-push_cases [] is_written.next offset
          (subst (λ l. Contains l offset) (ap (offsets_in group q) came.is ∙ o.1) offset_in)) in
          let from : read_from w.sent group batch
          ≡ from_of (last_fetch w.sent c.number it.caller.correlation) =
          ap (read_by w.sent) (request_found w h.facts.replies.partitions h.facts.requests
          h.facts.commits group (are_based s group inputs image pipeline h) it batch came.handed g
          (came_of w h.facts.replies.partitions h.facts.requests h.facts.commits it came.first batch
          came.is))
          ∙ ap (λ n. from_of (last_fetch w.sent n it.caller.correlation)) own.1 in
          let ranges : record {
            from = from_of (last_fetch w.sent c.number it.caller.correlation);
            end = is_written.next;
          } ≡ range = (λ i. record { from = sym from i; end = ends i }) ∙ range_is in
          ap (λ n. map content_of (outputs w (q + inputs) n batch.epoch)) id
          ∙ ap (λ n. map content_of (outputs w (q + inputs) it.held.id n)) epoch
          ∙ ap (λ n. map content_of (outputs w n it.held.id it.held.epoch))
          (sym output)
          ∙ shows
          ∙ ap (λ r. map keyless (images_in w p.image is_written.input r)) ranges
          ∙ ap (λ n. map keyless (images_in w p.image n range)) o.0
          ∙ ap (λ f. map keyless (images_in w f q range)) alike.1

      -- whatever else is decided to commit wrote nothing there
      none_other : (client : ℕ) (held : Held) → IsProcessor s group client
          → holds w client held ≡ true → commits (notes w) held.id held.epoch ≡ true
          → outputs w (q + inputs) held.id held.epoch ≢ []
          → (batch : Sequenced) × Contains (chain_batches w group q) batch
          × (batch.id ≡ held.id) × (batch.epoch ≡ held.epoch)
      none_other client held is its decided some = (
        stood.batch,
        chain_has w one group q stands stood.batch in_batches committed_batch,
        id,
        epoch,
      )
        where
          f : Facts w
          f = h.facts

          x : ItsClient client
          x = its_client client is

          c : Client
          c = x.client

          p : Processing
          p = x.processing

          committed : decision (notes w) held.id held.epoch ≡ Some Commit
          committed = commits_tell (decision (notes w) held.id held.epoch) decided

          e : HasOffsets w.sent (Reads w) p.inputs p.image c.number held
          e =
              let a = commit_asked w.sent (notes w) f.requests.holders.stands.coordinator.history
              held.id held.epoch committed in
              let entitled : Handed w.sent a.caller.client held =
              All-contains (IsEntitled w.sent) w.sent (the.EndTxn a.caller a.txn held Commit)
              f.requests.holders.entitled a.asked in
              let same = one_holder w f a.caller.client client held entitled
              (holds_tells w client held its) in
              let request : EndTxn =
              record { caller = a.caller; txn = a.txn; held = held; outcome = Commit } in
              (its_writes client x).ends request a.asked (same ∙ sym x.its_number) refl

          it : TxnOffsetCommit
          it = e.it

          is_written : IsWritten w.sent (Reads w) p.inputs p.image c.number it
          is_written = (its_writes client x).written it e.its

          stood : HasStood w it
          stood = has_stood s h it e.its.0 (p, x.there, x.paired ∙ sym e.its.1) e.answered

          of_group : it.group ≡ group
          of_group = (its_writes client x).of_group it e.its ∙ x.of_group

          -- it sent offsets for the group, as members alone do
          alike : (p.inputs ≡ inputs) × (p.image ≡ image)
          alike =
              its_process client x
              (subst (WasMember w group) (e.its.1 ∙ x.its_number)
              (pipeline.alone it e.its.0 of_group))

          id : stood.batch.id ≡ held.id
          id = ap (λ (b : Sequenced). b.id) stood.is ∙ ap (λ (l : Held). l.id) e.pair

          epoch : stood.batch.epoch ≡ held.epoch
          epoch = ap (λ (b : Sequenced). b.epoch) stood.is ∙ ap (λ (l : Held). l.epoch) e.pair

          committed_batch : commits (notes w) stood.batch.id stood.batch.epoch ≡ true
          committed_batch =
              ap (λ n. commits (notes w) n stood.batch.epoch) id
              ∙ ap (commits (notes w) held.id) epoch ∙ decided

          its_decision : decision (notes w) it.held.id it.held.epoch ≡ Some Commit
          its_decision =
              ap (λ (l : Held). decision (notes w) l.id l.epoch) e.pair ∙ committed

          input_is : is_written.input ≡ q
          input_is = by (is_written.input == q) refl
            where
              by : (b : Bool) → (is_written.input == q) ≡ b → is_written.input ≡ q
              by true f = grind (arith, nat_tests, f)
              by false differs =
                  absurd (some (ap (λ (l : Held). outputs w (q + inputs) l.id l.epoch) (sym e.pair)
                  ∙ none_out w f all_shown c p it e.its is_written its_decision (q + inputs)
                  (λ same. let i = alike.0 in
                  let equal : q ≡ is_written.input = omega (arith, i, same) in
                  grind (arith, nat_tests, differs, equal))
                  (apart client x alike.0 q low)))

          has : has_offset group q stood.batch ≡ true
          has =
              ap (has_offset group q) stood.is
              ∙ ap (λ l. has_offset l q (batch_for it stood.first)) (sym of_group)
              ∙ has_one it stood.first q is_written.next stood.fits
              (is_written.one
              ∙ ap (λ n. record { partition = n; offset = is_written.next } ∷ []) input_is)

          in_batches : Contains (offset_batches group q (entries_at w offsets_partition))
              stood.batch
          in_batches =
              flat_map_keeps (offset_batch group q) (entries_at w offsets_partition)
              (Data stood.batch) stood.batch stood.there
              (subst (λ b. Contains (cond b (stood.batch ∷ []) []) stood.batch) (sym has)
              (contains_head stood.batch []))

      -- its transactions write the images of what they read
      pub group_writes : WritesImages s group q inputs image
      group_writes = record { each = each_image; no_other = none_other }
