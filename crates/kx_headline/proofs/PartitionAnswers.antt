-- What a partition's answers of code 0 say in a world for good: an acknowledged batch stands at its
-- offset, and what was read was read of a log that the partition had.
use Rattle.std.proofs.Common.{◌≡◌, ℕ, ℤ, pos, negsuc, Bool, List, [], ◌∷◌, ◌++◌, Option, Some}
use Rattle.std.proofs.Common.{Ok, All, Contains, refl, sym, ap, ◌∙◌, subst, length}
use Rattle.std.specs.Bool.{⊤}
use Rattle.std.specs.Prelude.{◌≢◌}
use Rattle.std.proofs.lemmas.List.Elements.{All-contains, All-weaker, Contains-append_left}
use Rattle.kx_message.specs.Message.{IsU32}
use Rattle.kx_message.specs.Messages as the
use Rattle.kx_message.specs.Ranges.{IsName, offsets_partition}
use Rattle.kx_message.specs.declared.code.ErrorCode.{ErrorCode}
use Rattle.kx_message.specs.declared.code.ErrorCode.TheVariants as code
use Rattle.kx_message.specs.declared.message.Message.{Message}
use Rattle.kx_message.specs.declared.message.Message.TheVariants as msg
use Rattle.kx_message.specs.declared.requests.Caller.{Caller}
use Rattle.kx_message.specs.declared.requests.TxnOffsetCommit.{TxnOffsetCommit}
use Rattle.kx_batch.specs.Batch.{batch_of}
use Rattle.kx_model.specs.Answers.{HasJoined, HasLeft, IsCommitted, IsFetched, IsOffsetFetched}
use Rattle.kx_model.specs.Answers.{IsProduced, IsStored, IsStoredFor}
use Rattle.kx_model.specs.Disk.{GrowsTo}
use Rattle.kx_model.specs.Groups.{Left, offsets_batch}
use Rattle.kx_model.specs.Log.{Entry, Plain, Data, Control, Stored, end, entries, entry_in}
use Rattle.kx_model.specs.Log.{placed_by, stored_width}
use Rattle.kx_model.specs.PartitionNode.{Partition, Served, fetch_reply}
use Rattle.kx_model.specs.Produce.{Next, Duplicate, judge_entry, judge_text}
use Rattle.kx_model.specs.Verification.{Request, Target, ToGroup, ToPartition}
use Rattle.kx_model.specs.Verification.{partition_of, reply_for, request_of}
use Rattle.kx_model.specs.World.{World, log_at, partition_at, with_partition}
use Rattle.kx_model.proofs.NodeSteps.{grows_on}
use Rattle.kx_laws.proofs.Duplicates.{duplicate_placed, room_no}
use Rattle.kx_laws.proofs.GrownLogs.{batch_is}
use Rattle.kx_laws.proofs.Places.{last_place, place_stays, stored_there}
use Rattle.kx_laws.proofs.StoredTexts.{judged_as, judged_text}
use Rattle.kx_headline.proofs.Codes.{WithNoError, with_error, with_no_error}
use Rattle.kx_headline.proofs.Memberships.{joined_member, left_says, said_stays}
use Rattle.kx_headline.proofs.PartitionDoes.{behind}
use Rattle.kx_headline.proofs.PartitionDoes as does
use Rattle.kx_headline.proofs.PartitionHolds.{Comes, PartitionHolds, WasAsked, handed_out}
use Rattle.kx_headline.proofs.PartitionHolds.{origin_asked, text_next, text_verdict}
use Rattle.kx_headline.proofs.PartitionsAlways.{Later, log_is, there_later}

abbrev pub AnswerHolds : World → Message → Type 0
AnswerHolds w (msg.ProduceReply it) =
    WithNoError it.code (IsProduced w it.caller it.partition it.offset)
AnswerHolds w (msg.OffsetsReply it) = WithNoError it.code (IsCommitted w it.caller)
AnswerHolds w (msg.FetchReply it) =
    WithNoError it.code (IsFetched w it.caller it.partition (msg.FetchReply it))
AnswerHolds w (msg.OffsetFetchReply it) =
    WithNoError it.code (IsOffsetFetched w it.caller it.offset)
AnswerHolds w (msg.JoinReply it) =
    WithNoError it.code (HasJoined w it.caller it.generation it.place it.count)
AnswerHolds w (msg.LeaveReply it) = WithNoError it.code (HasLeft w it.caller)
AnswerHolds w m = ⊤

-- a request to join or leave has a group's name, and the number of a client
abbrev pub IsNamed : Message → Type 0
IsNamed (msg.Join it) = IsName it.group × IsU32 it.caller.client
IsNamed (msg.Leave it) = IsName it.group × IsU32 it.caller.client
IsNamed m = ⊤

------ in a later world

module _ (w later : World) (l : Later w later) where
  stored_later : (q offset : ℕ) (text : List ℕ) → IsStored w q offset text
      → IsStored later q offset text
  stored_later q offset text s = record {
    stored = s.stored;
    there = place_stays (log_at w q) (log_at later q) (l.logs q) _ s.there;
    as_sent = s.as_sent;
  }

  had_later : (q : ℕ) (log : List Stored) → GrowsTo log (log_at w q)
      → GrowsTo log (log_at later q)
  had_later q log g = grows_on log (log_at w q) (log_at later q) g (l.logs q)

  pub answer_later : (m : Message) → AnswerHolds w m → AnswerHolds later m
  answer_later (msg.ProduceReply it) h = with_no_error it.code (λ a. record {
    txn = a.txn;
    batch = a.batch;
    sent = there_later w later l _ a.sent;
    offset = a.offset;
    is = a.is;
    stands = stored_later it.partition a.offset a.batch a.stands;
  }) h
  answer_later (msg.OffsetsReply it) h = with_no_error it.code (λ a. record {
    txn = a.txn;
    group = a.group;
    member = a.member;
    generation = a.generation;
    held = a.held;
    first = a.first;
    offsets = a.offsets;
    sent = there_later w later l _ a.sent;
    offset = a.offset;
    stands = stored_later offsets_partition a.offset
        (offsets_batch a.group a.held a.first a.offsets) a.stands;
  }) h
  answer_later (msg.FetchReply it) h = with_no_error it.code (λ a. record {
    from = a.from;
    max = a.max;
    committed = a.committed;
    sent = there_later w later l _ a.sent;
    log = a.log;
    had = had_later it.partition a.log a.had;
    page = a.page;
    read = a.read;
    is = a.is;
  }) h
  answer_later (msg.OffsetFetchReply it) h = with_no_error it.code (λ a. record {
    group = a.group;
    partition = a.partition;
    stable = a.stable;
    sent = there_later w later l _ a.sent;
    log = a.log;
    had = had_later offsets_partition a.log a.had;
    read = a.read;
  }) h
  answer_later (msg.JoinReply it) h = with_no_error it.code (λ a. record {
    group = a.group;
    sent = there_later w later l _ a.sent;
    log = a.log;
    had = had_later offsets_partition a.log a.had;
    member = a.member;
    its_generation = a.its_generation;
    its_place = a.its_place;
    its_count = a.its_count;
  }) h
  answer_later (msg.LeaveReply it) h = with_no_error it.code (λ a. record {
    group = a.group;
    sent = there_later w later l _ a.sent;
    says = said_stays (log_at w offsets_partition) (log_at later offsets_partition)
        (Left a.group it.caller.client) (l.logs offsets_partition) a.says;
  }) h
  answer_later m h = tt

------ a batch that is answered with its offset

-- the batch of a text stands at an offset of a log
record StandsFor (log : List Stored) (offset : ℕ) (text : List ℕ) : Type 0 where
  stored : Stored
  there : Contains (placed_by stored_width 0 log) (record { offset = offset; item = stored })
  as_sent : IsStoredFor (entry_in (batch_of text)) text offset stored

appended_stands : (earlier log : List Stored) (verified : Bool) (text : List ℕ)
    → judge_text (entries earlier) verified text ≡ Next
    → GrowsTo (earlier ++ behind earlier text ∷ []) log
    → StandsFor log (end (entries earlier)) text
appended_stands earlier log verified text next g = record {
  stored = behind earlier text;
  there = place_stays (earlier ++ behind earlier text ∷ []) log g _
      (last_place earlier (behind earlier text));
  as_sent = by (entry_in (batch_of text)) refl;
}
  where
    by : (e : Entry) → entry_in (batch_of text) ≡ e
        → IsStoredFor e text (end (entries earlier)) (behind earlier text)
    by (Plain records) e = refl
    by (Data batch) e = (
      batch,
      batch_is earlier verified text next ∙ e,
      record { id = refl; epoch = refl; first = refl; last = refl },
    )
    by (Control marker) e =
        let refused = ap (judge_entry (entries earlier) verified) (sym e)
        ∙ (judged_text (entries earlier) verified text next).judged in
        absurd cc

known_stands : (earlier log : List Stored) (verified : Bool) (text : List ℕ) (offset : ℕ)
    → judge_text (entries earlier) verified text ≡ Duplicate offset → GrowsTo earlier log
    → StandsFor log offset text
known_stands earlier log verified text offset j g = by (entry_in (batch_of text)) refl
  where
    judged : (e : Entry) → entry_in (batch_of text) ≡ e
        → judge_entry (entries earlier) verified e ≡ Duplicate offset
    judged e is =
        ap (judge_entry (entries earlier) verified) (sym is)
        ∙ (judged_as (entries earlier) verified text (Duplicate offset) (λ c h. cc) j).judged

    by : (e : Entry) → entry_in (batch_of text) ≡ e → StandsFor log offset text
    by (Plain records) is =
        absurd (room_no (entries earlier) (length records) offset (judged (Plain records) is))
    by (Control marker) is = let refused = judged (Control marker) is in absurd cc
    by (Data batch) is =
        let like = duplicate_placed (entries earlier) verified batch offset
        (judged (Data batch) is) in
        let t = stored_there 0 earlier offset (Data like.batch) like.there in
        record {
          stored = t.stored;
          there = place_stays earlier log g _ t.there;
          as_sent = subst (λ e. IsStoredFor e text offset t.stored) (sym is) (
            like.batch,
            t.is,
            record { id = like.id; epoch = like.epoch; first = like.first; last = like.last },
          );
        }

------ requests by their targets

same_target : (p q : ℕ) → ToPartition p ≡ ToPartition q → p ≡ q
same_target p q e = cc

same_request : (a b : Request) → Some a ≡ Some b → a ≡ b
same_request a b e = cc

produce_asked : (m : Message) (r : Request) (q : ℕ) → request_of m ≡ Some r
    → r.target ≡ ToPartition q → m ≡ the.Produce r.caller r.txn q r.text
produce_asked (msg.Produce it) r q is target =
    let own : Request = record {
      caller = it.caller;
      txn = it.txn;
      target = ToPartition it.partition;
      text = it.batch;
    } in
    subst (λ (x : Request). x.target ≡ ToPartition q
    → msg.Produce it ≡ the.Produce x.caller x.txn q x.text) (same_request own r is)
    (λ t. ap (λ n. the.Produce it.caller it.txn n it.batch) (same_target it.partition q t)) target
produce_asked (msg.TxnOffsetCommit it) r q is target =
    let t = ap (λ (x : Request). x.target) (same_request _ r is) ∙ target in absurd cc
produce_asked m r q is target = absurd cc

-- a commit of offsets of this caller, whose batch has this text
record Commit (caller : Caller) (text : List ℕ) (m : Message) : Type 0 where
  it : TxnOffsetCommit
  is : m ≡ msg.TxnOffsetCommit it
  its_caller : it.caller ≡ caller
  its_text : offsets_batch it.group it.held it.first_sequence it.offsets ≡ text

commit_asked : (m : Message) (r : Request) (group : List ℕ) (member : ℕ) (named : ℤ)
    → request_of m ≡ Some r → r.target ≡ ToGroup group member named → Commit r.caller r.text m
commit_asked (msg.TxnOffsetCommit it) r group member named is target =
    let same = same_request _ r is in
    record {
      it = it;
      is = refl;
      its_caller = ap (λ (x : Request). x.caller) same;
      its_text = ap (λ (x : Request). x.text) same;
    }
commit_asked (msg.Produce it) r group member named is target =
    let t = ap (λ (x : Request). x.target) (same_request _ r is) ∙ target in absurd cc
commit_asked m r group member named is target = absurd cc

------ what goes out in a partition's turn

module _ (w : World) (number : ℕ) (p : Partition) (s : Served)
    (there : partition_at w number ≡ Some p) (input : Option Message)
    (comes : Comes w.sent input) (holds : PartitionHolds w.sent number p)
    (named : All IsNamed w.sent) where
  abbrev after : World
  after = with_partition w number s

  abbrev log : List Stored
  log = s.0.disk.kept

  there_now : (m : Message) → Contains w.sent m → Contains after.sent m
  there_now m c = Contains-append_left w.sent s.1 m c

  came : (m : Message) → input ≡ Some m → Contains w.sent m
  came m e = handed_out w.sent number p input holds comes m e

  had : (q : ℕ) (before : List Stored) → q ≡ number → GrowsTo before log
      → GrowsTo before (log_at after q)
  had q before e g =
      subst (λ n. GrowsTo before (log_at after n)) (sym e)
      (subst (GrowsTo before) (log_is w number p s there) g)

  stored_now : (q offset : ℕ) (text : List ℕ) → q ≡ number → StandsFor log offset text
      → IsStored after q offset text
  stored_now q offset text e t = record {
    stored = t.stored;
    there = subst (λ n. Contains (placed_by stored_width 0 (log_at after n))
        (record { offset = offset; item = t.stored })) (sym e)
        (subst (λ l. Contains (placed_by stored_width 0 l)
        (record { offset = offset; item = t.stored })) (log_is w number p s there) t.there);
    as_sent = t.as_sent;
  }

  acknowledged : (r : Request) (offset : ℕ) (target : Target) → r.target ≡ target
      → WasAsked w.sent number r → StandsFor log offset r.text
      → AnswerHolds after (reply_for r code.NoError (pos offset) target)
  acknowledged r offset (ToPartition q) t asked stands = record {
    txn = r.txn;
    batch = r.text;
    sent = there_now _ (subst (Contains w.sent) (produce_asked asked.message r q asked.is t)
        asked.handed);
    offset = offset;
    is = refl;
    stands = stored_now q offset r.text (sym (ap partition_of t) ∙ asked.here) stands;
  }
  acknowledged r offset (ToGroup group member generation) t asked stands =
      let c = commit_asked asked.message r group member generation asked.is t in
      record {
        txn = c.it.txn;
        group = c.it.group;
        member = c.it.member;
        generation = c.it.generation;
        held = c.it.held;
        first = c.it.first_sequence;
        offsets = c.it.offsets;
        sent = there_now _ (subst (λ x. Contains w.sent (the.TxnOffsetCommit x c.it.txn c.it.group
            c.it.member c.it.generation c.it.held c.it.first_sequence c.it.offsets)) c.its_caller
            (subst (Contains w.sent) c.is asked.handed));
        offset = offset;
        stands = stored_now offsets_partition offset _
            (sym (ap partition_of t) ∙ asked.here)
            (subst (StandsFor log offset) (sym c.its_text) stands);
      }

  refused_holds : (r : Request) (c : ErrorCode) (offset : ℤ) (target : Target) → c ≢ code.NoError
      → AnswerHolds after (reply_for r c offset target)
  refused_holds r c offset (ToPartition q) n =
      with_error c (IsProduced after r.caller q offset) n
  refused_holds r c offset (ToGroup group member generation) n =
      with_error c (IsCommitted after r.caller) n

  reads_hold : (m : Message) → does.Reads number p input log m → AnswerHolds after m
  reads_hold (msg.FetchReply it) h = with_no_error it.code (λ r. record {
    from = r.from;
    max = r.max;
    committed = r.committed;
    sent = there_now _ (subst
        (λ q. Contains w.sent (the.Fetch it.caller q r.from r.max r.committed)) (sym r.here)
        (came _ r.asked));
    log = p.disk.kept;
    had = had it.partition p.disk.kept r.here r.grown;
    page = r.page;
    read = r.read;
    is = r.is ∙ ap (λ q. fetch_reply it.caller q (Ok r.page)) (sym r.here);
  }) h
  reads_hold (msg.OffsetFetchReply it) h = with_no_error it.code (λ r. record {
    group = r.group;
    partition = r.partition;
    stable = r.stable;
    sent = there_now _ (came _ r.asked);
    log = p.disk.kept;
    had = had offsets_partition p.disk.kept (sym r.here) r.grown;
    read = r.read;
  }) h
  reads_hold (msg.JoinReply it) h = with_no_error it.code (λ r.
      let fits = All-contains IsNamed w.sent (the.Join it.caller r.group) named
      (came _ r.asked) in
      record {
        group = r.group;
        sent = there_now _ (came _ r.asked);
        log = r.after;
        had = had offsets_partition r.after (sym r.here) r.grown;
        member = joined_member number p input r.group it.caller.client fits.0 fits.1 r.after
            r.became;
        its_generation = r.generation;
        its_place = r.place;
        its_count = r.count;
      }) h
  reads_hold (msg.LeaveReply it) h = with_no_error it.code (λ r.
      let fits = All-contains IsNamed w.sent (the.Leave it.caller r.group) named
      (came _ r.asked) in
      record {
        group = r.group;
        sent = there_now _ (came _ r.asked);
        says = said_stays r.after (log_at after offsets_partition) (Left r.group it.caller.client)
            (had offsets_partition r.after (sym r.here) r.grown)
            (left_says number p input r.group it.caller.client fits.0 fits.1 r.after r.became);
      }) h
  reads_hold m h = absurd h

  out_holds : (m : Message) → does.Out number p input log m → AnswerHolds after m
  out_holds m (does.done r earlier v o j g) =
      acknowledged r (end (entries earlier)) r.target refl
      (origin_asked w.sent number p input holds comes r o)
      (appended_stands earlier log v r.text
      (text_next (entries earlier) v r.text r.target j) g)
  out_holds m (does.again r offset earlier v o was g j) =
      acknowledged r offset r.target refl (origin_asked w.sent number p input holds comes r o)
      (known_stands earlier log v r.text offset
      (text_verdict (entries earlier) v r.text r.target (Duplicate offset) (λ c h. cc) j) g)
  out_holds m (does.refused r c o n) = refused_holds r c (negsuc 0) r.target n
  out_holds m (does.elsewhere caller partition) = tt
  out_holds m (does.asks x r txn held i e n t h) = tt
  out_holds m (does.marked txn held coordinator outcome i j g) = tt
  out_holds m (does.unmarked txn held coordinator outcome c i j) = tt
  out_holds m (does.reads x r) = reads_hold x r

  -- each answer of the turn holds after it
  pub turn_answers : does.Does number p input p s → All (AnswerHolds after) s.1
  turn_answers d =
      All-weaker (does.Out number p input log) (AnswerHolds after) out_holds s.1 d.out
