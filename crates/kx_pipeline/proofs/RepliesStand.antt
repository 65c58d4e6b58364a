-- Over every schedule: a reply of the offsets partition answers a request that was handed out, and
-- one to a member that joined says its group at a part of the log, for good.
use Rattle.std.proofs.Common.{◌≡◌, ℕ, ℤ, Bool, List, [], ◌++◌, Contains, All, sym, ap}
use Rattle.std.proofs.Common.{◌∙◌, subst, ⊎_elim, append_assoc, append-nil}
use Rattle.std.proofs.lemmas.List.{map-append}
use Rattle.std.proofs.lemmas.List.Elements.{All-contains, All-nil, Contains-append_left}
use Rattle.kx_message.specs.Messages as the
use Rattle.kx_message.specs.Ranges.{offsets_partition}
use Rattle.kx_message.specs.declared.message.Message.{Message}
use Rattle.kx_message.specs.declared.message.Message.TheVariants as msg
use Rattle.kx_message.specs.declared.requests.TxnOffsetCommit.{TxnOffsetCommit}
use Rattle.kx_model.specs.Headline.{Always}
use Rattle.kx_model.specs.Log.{Entry, Stored, entries, entry_of}
use Rattle.kx_model.specs.World.{World, entries_at, log_at, start}
use Rattle.kx_headline.proofs.Codes.{WithNoError, with_no_error}
use Rattle.kx_headline.proofs.EventDoes.{Turn, always, clients, coordinators, making, nobodys}
use Rattle.kx_headline.proofs.EventDoes.{partitions}
use Rattle.kx_headline.proofs.PartitionsAlways.{PartitionsStand, partitions_first}
use Rattle.kx_headline.proofs.PartitionsAlways.{partitions_next}
use Rattle.kx_laws.proofs.Lists.{All-from_contains}
use Rattle.kx_pipeline.proofs.NewReplies.{new_says, offsets_grow}
use Rattle.kx_pipeline.proofs.OffsetsSay.{IsGroup, Says}

-- the group at a front of the log
pub record JoinedAt (log : List Entry) (group : List ℕ) (client : ℕ) (named : ℤ)
    (place count : ℕ) : Type 0 where
  pub joined : List Entry
  pub behind : List Entry
  pub parts : log ≡ joined ++ behind
  pub is : IsGroup joined group client named place count

------ what a reply says for good

abbrev pub Replied : List Message → List Entry → Message → Type 0
Replied sent log (msg.OffsetsReply it) =
    (commit : TxnOffsetCommit) × Contains sent (msg.TxnOffsetCommit commit)
    × (commit.caller ≡ it.caller)
Replied sent log (msg.OffsetFetchReply it) =
    (group : List ℕ) × (partition : ℕ) × (stable : Bool)
    × Contains sent (the.OffsetFetch it.caller group partition stable)
Replied sent log (msg.JoinReply it) =
    (group : List ℕ) × Contains sent (the.Join it.caller group)
    × WithNoError it.code (JoinedAt log group it.caller.client it.generation it.place it.count)
Replied sent log m = Unit {0}

joined_later : (log more : List Entry) (group : List ℕ) (client : ℕ) (named : ℤ)
    (place count : ℕ) → JoinedAt log group client named place count
    → JoinedAt (log ++ more) group client named place count
joined_later log more group client named place count j = record {
  joined = j.joined;
  behind = j.behind ++ more;
  parts = ap (λ l. l ++ more) j.parts ∙ append_assoc j.joined j.behind more;
  is = j.is;
}

replied_later : (sent later : List Message) (log more : List Entry)
    → ((m : Message) → Contains sent m → Contains later m) → (m : Message)
    → Replied sent log m → Replied later (log ++ more) m
replied_later sent later log more up (msg.OffsetsReply it) r =
    (r.0, up (msg.TxnOffsetCommit r.0) r.1, r.2)
replied_later sent later log more up (msg.OffsetFetchReply it) r =
    (r.0, r.1, r.2, up (the.OffsetFetch it.caller r.0 r.1 r.2) r.3)
replied_later sent later log more up (msg.JoinReply it) r = (
  r.0,
  up (the.Join it.caller r.0) r.1,
  with_no_error it.code
      (joined_later log more r.0 it.caller.client it.generation it.place it.count) r.2,
)
replied_later sent later log more up m r = tt

-- a new reply says so of the log after it
replied_now : (sent later : List Message) (start : List Stored) (log : List Stored)
    → ((m : Message) → Contains sent m → Contains later m) → (m : Message)
    → Says sent start log m → Replied later (entries log) m
replied_now sent later start log up (msg.OffsetsReply it) s =
    (s.commit, up (msg.TxnOffsetCommit s.commit) s.asked, s.its_caller)
replied_now sent later start log up (msg.OffsetFetchReply it) s = (
  s.group,
  s.partition,
  s.stable,
  up (the.OffsetFetch it.caller s.group s.partition s.stable) s.asked,
)
replied_now sent later start log up (msg.JoinReply it) s = (
  s.group,
  up (the.Join it.caller s.group) s.asked,
  with_no_error it.code (λ g. record {
    joined = entries log;
    behind = [];
    parts = sym (append-nil (entries log));
    is = g;
  }) s.joined,
)
replied_now sent later start log up m s = tt

------ each turn

pub record RepliesStand (w : World) : Type 0 where
  pub partitions : PartitionsStand w
  pub replied : All (Replied w.sent (entries_at w offsets_partition)) w.sent

-- all messages stay
pub sent_stays : (w later : World) → Turn w later → (m : Message) → Contains w.sent m
    → Contains later.sent m
sent_stays w later nobodys m c = c
sent_stays w later (coordinators clock s turn) m c = Contains-append_left w.sent s.1 m c
sent_stays w later (partitions number p s there turn) m c = Contains-append_left w.sent s.1 m c
sent_stays w later (clients d after messages there turn) m c =
    Contains-append_left w.sent messages m c
sent_stays w later (making number txn timeout new a b d) m c = c

-- the offsets partition's log, as the rules see it
pub entries_grow : (w later : World) → PartitionsStand w → Turn w later
    → (more : List Entry) × (entries_at later offsets_partition
    ≡ entries_at w offsets_partition ++ more)
entries_grow w later h turn =
    let g = offsets_grow w h later turn in (
      entries g.more,
      ap entries g.parts
          ∙ map-append entry_of (log_at w offsets_partition) g.more,
    )

replies_next : (w later : World) → RepliesStand w → Turn w later → RepliesStand later
replies_next w later h turn =
    let up = sent_stays w later turn in
    let g = entries_grow w later h.partitions turn in
    record {
      partitions = partitions_next w later h.partitions turn;
      replied = All-from_contains (Replied later.sent (entries_at later offsets_partition))
          later.sent
          (λ m c. ⊎_elim
          (λ old. subst (λ l. Replied later.sent l m) (sym g.1)
          (replied_later w.sent later.sent (entries_at w offsets_partition) g.0 up m
          (All-contains (Replied w.sent (entries_at w offsets_partition)) w.sent m h.replied old)))
          (λ new. replied_now w.sent later.sent (log_at w offsets_partition)
          (log_at later offsets_partition) up m new)
          (new_says w h.partitions later turn m c));
    }

pub replies_stand_always : Always RepliesStand
replies_stand_always = always RepliesStand
    (λ count. record {
      partitions = partitions_first count;
      replied = All-nil (Replied [] (entries_at (start count) offsets_partition));
    }) replies_next
