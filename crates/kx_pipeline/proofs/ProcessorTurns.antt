-- A processor's turn in a world leaves what stands of it standing, by what always stands of worlds.
use Rattle.std.proofs.Common.{◌≡◌, ◌<◌, ℕ, ℤ, List, [], ◌++◌}
use Rattle.std.proofs.Common.{Some, Contains, refl, sym, ap, ◌∙◌, subst, arith}
use Rattle.std.proofs.Common.{append-nil}
use Rattle.std.specs.Prelude.{IfSome}
use Rattle.std.proofs.lemmas.Bool.{cond_both}
use Rattle.std.proofs.lemmas.List.Elements.{All-contains}
use Rattle.kx_message.specs.Messages as the
use Rattle.kx_message.specs.Messages.{caller_with}
use Rattle.kx_message.specs.Ranges.{offsets_partition}
use Rattle.kx_message.specs.declared.code.ErrorCode.{ErrorCode}
use Rattle.kx_message.specs.declared.code.ErrorCode.TheVariants as code
use Rattle.kx_message.specs.declared.message.Held.{Held}
use Rattle.kx_message.specs.declared.message.Message.{Message}
use Rattle.kx_message.specs.declared.message.Message.TheVariants as msg
use Rattle.kx_message.specs.declared.requests.Caller.{Caller}
use Rattle.kx_message.specs.declared.requests.TxnOffsetCommit.{TxnOffsetCommit}
use Rattle.kx_batch.specs.Batch.{batch_of}
use Rattle.kx_model.specs.Client.{Client}
use Rattle.kx_model.specs.Log.{Entry, Data, Sequenced, entry_in}
use Rattle.kx_model.specs.Replies.{correlation_of, is_awaited, take_reply}
use Rattle.kx_model.specs.Step.{Input, Comes, Commands, Expires, Reminds, Drops, Puts, Restarts}
use Rattle.kx_model.specs.Verification.{Request}
use Rattle.kx_model.specs.World.{World, entries_at, log_at}
use Rattle.kx_headline.proofs.ClientHolds.{Handed, HoldsOwn}
use Rattle.kx_headline.proofs.ClientRequests.{AreMade, Carries, IsMade, IsWithin, Knows, Load}
use Rattle.kx_headline.proofs.ClientRequests.{RequestsStand, sender, with_batch, with_offsets}
use Rattle.kx_headline.proofs.OneHolder.{one_client}
use Rattle.kx_headline.proofs.PartitionsAlways.{PartitionsStand, Promised}
use Rattle.kx_headline.proofs.RequestsAlways.{raised}
use Rattle.kx_laws.proofs.Membership.{no_element, split_at}
use Rattle.kx_system.specs.Processor.{Processing, at_stage, processor_step, stage_told}
use Rattle.kx_system.specs.Processor.{takes}
use Rattle.kx_system.proofs.ClientNumbers.{told_number}
use Rattle.kx_pipeline.proofs.CommitsCame.{each_batch_came, entry_of_commit}
use Rattle.kx_pipeline.proofs.CommitsFit.{CommitsFit}
use Rattle.kx_pipeline.proofs.LinkedCommits.{Settled, one_number, stands}
use Rattle.kx_pipeline.proofs.OffsetsSay.{commit_is}
use Rattle.kx_pipeline.proofs.ProcessorAsks.{Moved, again, commanded}
use Rattle.kx_pipeline.proofs.ProcessorHears.{hears}
use Rattle.kx_pipeline.proofs.ProcessorWorks.{IsCommitOf, Unheld, Works, self_of}
use Rattle.kx_pipeline.proofs.RepliesStand.{JoinedAt, Replied, RepliesStand}

-- what always stands of a world
pub record Facts (w : World) : Type 0 where
  pub requests : RequestsStand w
  pub commits : CommitsFit w
  pub replies : RepliesStand w

-- the pair that a commit holds is that of its load
record LoadOf (it : TxnOffsetCommit) (l : Load) : Type 0 where
  held : l.held ≡ it.held

load_of : (m : Message) (it : TxnOffsetCommit) (l : Load) → m ≡ msg.TxnOffsetCommit it
    → Carries m l → LoadOf it l
load_of m it l e (with_batch caller txn partition transactional held first records fits low) =
    absurd cc
load_of m it l e (with_offsets caller txn group member generation held first offsets fits low) =
    record { held = cc }

same_request : (r s : Request) → Some r ≡ Some s → r ≡ s
same_request r s e = cc

module _ (w : World) (f : Facts w) where
  abbrev stand : PartitionsStand w
  stand = f.replies.partitions

  abbrev log : List Entry
  log = entries_at w offsets_partition

  made_of : (it : TxnOffsetCommit) → Contains w.sent (msg.TxnOffsetCommit it)
      → IsMade w.sent (msg.TxnOffsetCommit it)
  made_of it there =
      All-contains (AreMade w.sent) w.sent (msg.TxnOffsetCommit it) f.requests.made there

  -- a commit's pair was handed to its client
  pub commit_handed : (it : TxnOffsetCommit) → Contains w.sent (msg.TxnOffsetCommit it)
      → Handed w.sent it.caller.client it.held
  commit_handed it there =
      let made = made_of it there in
      let l = load_of (msg.TxnOffsetCommit it) it made.load refl made.carries in
      let client : it.caller.client ≡ made.client = let s = made.its_sender in cc in
      subst (λ n. Handed w.sent n it.held) (sym client)
      (subst (Handed w.sent made.client) l.held made.handed)

  pub one_holder : (c d : ℕ) (held : Held) → Handed w.sent c held → Handed w.sent d held → c ≡ d
  one_holder c d held x y = one_client w f.requests.holders c d held x y

  -- a commit that was answered stands
  answered_settles : (it : TxnOffsetCommit) → Contains w.sent (msg.TxnOffsetCommit it)
      → Contains w.sent (the.OffsetsReply it.caller code.NoError) → Settled log it
  answered_settles it there answer =
      let said = All-contains (Promised w) w.sent (the.OffsetsReply it.caller code.NoError)
      stand.promised answer in
      let c = commit_is w.sent (log_at w offsets_partition) said.request said.asked_for in
      let n = c.commit in
      let r = same_request _ said.request c.is in
      let caller : n.caller ≡ it.caller = ap (λ (x : Request). x.caller) r ∙ said.its_caller in
      let held = one_number w stand f.requests f.commits it n there c.handed
      (ap (λ (x : Caller). x.client) caller) (ap (λ (x : Caller). x.correlation) caller) in
      let e = entry_of_commit w stand f.requests f.commits n c.handed in
      let like = said.stored _ (ap (λ (x : Request). entry_in (batch_of x.text)) (sym r) ∙ e.1) in
      stands like.batch like.there (
        like.id ∙ ap (λ (x : Held). x.id) held,
        like.epoch ∙ ap (λ (x : Held). x.epoch) held,
      )

  replied : (m : Message) → Contains w.sent m → Replied w.sent log m
  replied m there = All-contains (Replied w.sent log) w.sent m f.replies.replied there

  ------ of one client

  module _ (c : Client) (at : Contains w.clients c) where
    pub knows : Knows w.sent c
    knows = All-contains (Knows w.sent) w.clients c f.requests.clients at

    pub within : (p : Processing) (it : TxnOffsetCommit) → IsCommitOf w.sent log (self_of c p) it
        → IsWithin it.held c.held
    within p it its =
        let made = made_of it its.0 in
        let l = load_of (msg.TxnOffsetCommit it) it made.load refl made.carries in
        subst (λ x. IsWithin x c.held) l.held
        (knows.within (msg.TxnOffsetCommit it) made.load (its.0, ap Some its.1) made.carries)

    joined : (k : ℕ) (named : ℤ) (place count : ℕ)
        → Contains w.sent (the.JoinReply (caller_with c.number k) code.NoError named place count)
        → (g : List ℕ) × Contains w.sent (the.Join (caller_with c.number k) g)
        × JoinedAt log g c.number named place count
    joined k named place count there =
        replied (the.JoinReply (caller_with c.number k) code.NoError named place count) there

    pub numbered : (m : Message) → Contains w.sent m → sender m ≡ Some c.number
        → correlation_of m < c.correlation
    numbered m there s = knows.numbered m (there, s)

    unlocated : (offset : ℤ) → Contains w.sent
        (the.OffsetFetchReply (caller_with c.number c.correlation) code.NoError offset) → ⊥
    unlocated offset there =
        let r = replied
        (the.OffsetFetchReply (caller_with c.number c.correlation) code.NoError offset) there in
        let low = numbered
        (the.OffsetFetch (caller_with c.number c.correlation) r.0 r.1 r.2) r.3 refl in
        omega (arith, low)

    unanswered : (x : ErrorCode)
        → Contains w.sent (the.OffsetsReply (caller_with c.number c.correlation) x) → ⊥
    unanswered x there =
        let r = replied (the.OffsetsReply (caller_with c.number c.correlation) x) there in
        let low = numbered (msg.TxnOffsetCommit r.0) r.1
        (ap (λ (k : Caller). Some k.client) r.2) in
        let same = ap (λ (k : Caller). k.correlation) r.2 in
        omega (arith, low, same)

    -- a batch of the pair that it holds came by a commit of it
    unread : (p : Processing) → Unheld w.sent log (self_of c p) → (held : Held)
        → c.held ≡ Some held → (batch : Sequenced) → Contains log (Data batch)
        → batch.id ≡ held.id → batch.epoch ≡ held.epoch → ⊥
    unread p unheld held own batch there id epoch =
        let s = split_at log (Data batch) there in
        let came = each_batch_came w stand f.requests f.commits s.before s.after batch s.parts in
        let n = came.commit in
        let i : n.held.id ≡ held.id = sym (ap (λ (b : Sequenced). b.id) came.is) ∙ id in
        let e : n.held.epoch ≡ held.epoch =
        sym (ap (λ (b : Sequenced). b.epoch) came.is) ∙ epoch in
        let same : n.held ≡ held = λ j. record { id = i j; epoch = e j } in
        let mine = All-contains (HoldsOwn w.sent) w.clients c f.requests.holders.clients at in
        let client = one_holder n.caller.client c.number held
        (subst (Handed w.sent n.caller.client) same (commit_handed n came.handed))
        (subst (λ o. IfSome o (Handed w.sent c.number)) own mine.held) in
        unheld n (came.handed, client) (own ∙ ap Some (sym same))

    ------ its turn

    -- a message that comes was handed out
    abbrev pub IsThere : Input → Type 0
    IsThere (Comes m) = Contains w.sent m
    IsThere input = Unit {0}

    module _ (p : Processing) (works : Works w.sent log c p) where
      abbrev pub After : Input → Type 0
      After input =
          let s = processor_step (record { client = c; processing = p }) input in
          Moved w.sent log c p s.state.client s.state.processing s.messages

      nothing_sent : Works (w.sent ++ []) log c p
      nothing_sent = subst (λ l. Works l log c p) (sym (append-nil w.sent)) works

      rested : Moved w.sent log c p c p []
      rested = record {
        number = refl;
        its_number = refl;
        works = nothing_sent;
        out = again (λ m there. absurd (no_element m there));
      }

      hears_moves : (m : Message) → Contains w.sent m → After (Comes m)
      unfolding processor_step takes
      hears_moves m there = record {
        number = told_number c m;
        its_number = cond_both (is_awaited c m) (at_stage p (stage_told p m)) p
            (λ (q : Processing). q.number ≡ p.number) (λ e. refl) (λ e. refl);
        works = subst (λ l. Works l log (take_reply c m) (takes (record {
          client = c;
          processing = p;
        }) m).processing) (sym (append-nil w.sent))
            (hears w.sent log c p knows (within p)
            (λ it its answer. answered_settles it its.0 answer) joined
            (λ k held told. raised w f.requests.holders.stands c.number k held told) works m there);
        out = again (λ x none. absurd (no_element x none));
      }

      pub turns : (input : Input) → IsThere input → After input
      unfolding processor_step
      turns (Comes m) there = hears_moves m there
      turns (Commands what) there =
          commanded w.sent log c p numbered unlocated unanswered (unread p) works knows what
      turns (Expires now) there = rested
      turns Reminds there = rested
      turns (Drops group member) there = rested
      turns (Puts value more) there = rested
      turns (Restarts now) there = rested
