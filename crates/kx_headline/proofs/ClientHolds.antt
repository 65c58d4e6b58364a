-- What a client holds, and ends the transaction of, it was handed.
use Rattle.std.proofs.Common.{◌≡◌, ℕ, ◌+◌, true, false, not, List, [], ◌∷◌, ◌++◌}
use Rattle.std.proofs.Common.{ap, arith, filter}
use Rattle.std.proofs.Common.{Option, Some, None, Contains, All, refl, sym, subst}
use Rattle.std.proofs.Common.{IfSome}
use Rattle.std.specs.Bool.{⊤}
use Rattle.std.specs.List.{list_any}
use Rattle.std.proofs.lemmas.Bool.{and_parts, cond_both}
use Rattle.std.proofs.lemmas.Bool.Decides.{nat_tests}
use Rattle.std.proofs.lemmas.List.Elements.{All-cons, All-filter, All-nil, All-push, All-weaker}
use Rattle.kx_message.specs.Messages.{caller_with}
use Rattle.kx_model.specs.Client.{caller_of}
use Rattle.kx_message.specs.Receiver.{receiver_of}
use Rattle.kx_message.specs.declared.code.ErrorCode.{ErrorCode}
use Rattle.kx_message.specs.declared.code.ErrorCode.TheVariants as code
use Rattle.kx_message.specs.declared.message.Held.{Held}
use Rattle.kx_message.specs.declared.message.Message.{Message}
use Rattle.kx_message.specs.declared.message.Message.TheVariants as msg
use Rattle.kx_message.specs.Messages as the
use Rattle.kx_message.specs.declared.message.NodeId.{NodeId}
use Rattle.kx_message.specs.declared.message.NodeId.TheVariants as node
use Rattle.kx_message.specs.declared.outcome.Outcome.{Outcome}
use Rattle.kx_message.specs.declared.outcome.Outcome.TheVariants.{Abort, Commit}
use Rattle.kx_message.specs.declared.payload.PartitionOffset.{PartitionOffset}
use Rattle.kx_batch.specs.Record.{Record}
use Rattle.kx_model.specs.Client.{Client, Command, Commanded, Declines, Does, Fault, Place, Init}
use Rattle.kx_model.specs.Client.{Begin, Send, JoinGroup, LeaveGroup, SendOffsets, End, Resend}
use Rattle.kx_model.specs.Client.{Poll, FetchPage, FetchOffset}
use Rattle.kx_model.specs.Client.{asks, command, does, is_init, leaves, refusals, sends, sends_end}
use Rattle.kx_model.specs.Client.{sends_offsets, value_records}
use Rattle.kx_model.specs.Replies.{Meaning, Done, Waits, Aborts, Fails, holding, is_answer_to}
use Rattle.kx_model.specs.Replies.{is_awaited, is_to_client, learns, meaning, offset_meaning}
use Rattle.kx_model.specs.Replies.{offsets_meaning, take_reply, told}
use Rattle.kx_model.specs.World.{World}
use Rattle.kx_headline.proofs.EventDoes.{ClientTurn, commands, hears}
use Rattle.kx_laws.proofs.Lists.{if_some_more}
use Rattle.kx_headline.proofs.SentKinds.{unless_does}

-- a reply that is awaited goes to the client, and answers what waits there
pub awaited_here : (c : Client) (m : Message) → is_awaited c m ≡ true
    → (receiver_of m ≡ node.Client c.number) × (list_any (is_answer_to m) c.waiting ≡ true)
awaited_here c m e =
    let parts = and_parts (is_to_client c.number (receiver_of m))
    (list_any (is_answer_to m) c.waiting) e in
    (own (receiver_of m) parts.0, parts.1)
  where
    own : (n : NodeId) → is_to_client c.number n ≡ true → n ≡ node.Client c.number
    own (node.Client client) e =
        let same : client ≡ c.number = grind (arith, nat_tests, e) in ap node.Client same
    own node.Coordinator e = absurd cc
    own (node.Partition partition) e = absurd cc

-- a reply of code 0 gave the client this id and epoch
pub data Handed (sent : List Message) (client : ℕ) (held : Held) : Type 0 where
  by_init : (correlation : ℕ)
      → Contains sent (the.InitReply (caller_with client correlation) code.NoError (Some held))
      → Handed sent client held
  by_end : (correlation : ℕ)
      → Contains sent (the.EndReply (caller_with client correlation) code.NoError (Some held))
      → Handed sent client held

-- an EndTxn is of a pair that its client was handed
abbrev pub IsEntitled : List Message → Message → Type 0
IsEntitled sent (msg.EndTxn it) = Handed sent it.caller.client it.held
IsEntitled sent m = ⊤

pub record HoldsOwn (sent : List Message) (c : Client) : Type 0 where
  pub held : IfSome c.held (Handed sent c.number)
  pub waiting : All (IsEntitled sent) c.waiting

------ when more was sent

pub handed_later : {sent later : List Message} {client : ℕ} {held : Held}
    → ((m : Message) → Contains sent m → Contains later m) → Handed sent client held
    → Handed later client held
handed_later up (by_init k c) = by_init k (up _ c)
handed_later up (by_end k c) = by_end k (up _ c)

pub entitled_later : (sent later : List Message)
    → ((m : Message) → Contains sent m → Contains later m) → (m : Message)
    → IsEntitled sent m → IsEntitled later m
entitled_later sent later up (msg.EndTxn it) h =
    handed_later up h
entitled_later sent later up m h = tt

pub holds_later : {sent later : List Message} {c : Client}
    → ((m : Message) → Contains sent m → Contains later m) → HoldsOwn sent c → HoldsOwn later c
holds_later {sent} {later} {c} up h = record {
  held = if_some_more (Handed sent c.number) (Handed later c.number) (λ x y. handed_later up y)
      c.held h.held;
  waiting = All-weaker (IsEntitled sent) (IsEntitled later) (entitled_later sent later up)
      c.waiting h.waiting;
}

------ commands

module _ (sent : List Message) (c : Client) (own : HoldsOwn sent c) where
  -- the client after it is the same and holds the same, and all that goes out is entitled
  data Goes : Commanded → Type 0 where
    declining : (fault : Fault) → Goes (Declines fault)
    doing : (after : Client) (messages : List Message) → after.number ≡ c.number
        → after.held ≡ c.held → All (IsEntitled sent) after.waiting
        → All (IsEntitled sent) messages → Goes (Does after messages)

  asking : (before : Client) (m : Message) → before.number ≡ c.number → before.held ≡ c.held
      → All (IsEntitled sent) before.waiting → IsEntitled sent m → Goes (asks before m)
  asking before m n h w e =
      doing (record before {
        correlation = before.correlation + 1;
        waiting = before.waiting ++ m ∷ [];
      }) (m ∷ []) n h (All-push (IsEntitled sent) before.waiting m w e)
      (All-cons (IsEntitled sent) m [] e (All-nil (IsEntitled sent)))

  quietly : (after : Client) → after.number ≡ c.number → after.held ≡ c.held
      → All (IsEntitled sent) after.waiting → Goes (Does after [])
  quietly after n h w = doing after [] n h w (All-nil (IsEntitled sent))

  sends_goes : (partition : ℕ) (records : List Record) (held : Option Held)
      → Goes (sends c partition records held)
  sends_goes partition records None = declining _
  sends_goes partition records (Some held) = asking _ _ refl refl own.waiting tt

  offsets_go : (offsets : List PartitionOffset) (txn : Option (List ℕ)) (held : Option Held)
      (place : Option Place) → Goes (sends_offsets c offsets txn held place)
  offsets_go offsets (Some txn) (Some held) (Some place) = asking _ _ refl refl own.waiting tt
  offsets_go offsets (Some txn) (Some held) None = declining _
  offsets_go offsets (Some txn) None place = declining _
  offsets_go offsets None held place = declining _

  end_goes : (outcome : Outcome) (txn : Option (List ℕ)) (held : Option Held)
      → IfSome held (Handed sent c.number) → Goes (sends_end c outcome txn held)
  end_goes Commit (Some txn) (Some held) h =
      cond_both c.sent_some (asks c (the.EndTxn (caller_of c) txn held Commit))
      (Does (record c { in_transaction = false }) []) Goes
      (λ e. asking c _ refl refl own.waiting h) (λ e. quietly _ refl refl own.waiting)
  end_goes Abort (Some txn) (Some held) h =
      asking (record c { waiting = [] }) _ refl refl (All-nil (IsEntitled sent)) h
  end_goes Commit None held h = declining _
  end_goes Commit (Some txn) None h = declining _
  end_goes Abort None held h = declining _
  end_goes Abort (Some txn) None h = declining _

  leave_goes : (place : Option Place) → Goes (leaves c place)
  leave_goes None = declining _
  leave_goes (Some place) = asking c _ refl refl own.waiting tt

  does_goes : (what : Command) → Goes (does c what)
  does_goes Init =
      cond_both (list_any is_init c.waiting) (Does c (filter is_init c.waiting)) _ Goes
      (λ e. doing c (filter is_init c.waiting) refl refl own.waiting
      (All-filter is_init (IsEntitled sent) c.waiting own.waiting))
      (λ e. asking c _ refl refl own.waiting tt)
  does_goes Begin = quietly _ refl refl own.waiting
  does_goes (Send partition value more) =
      sends_goes partition (value_records (value ∷ more)) c.held
  does_goes (JoinGroup group) = asking _ _ refl refl own.waiting tt
  does_goes LeaveGroup = leave_goes c.place
  does_goes (SendOffsets offset more) = offsets_go (offset ∷ more) c.txn c.held c.place
  does_goes (End outcome) = end_goes outcome c.txn c.held own.held
  does_goes Resend = doing c c.waiting refl refl own.waiting own.waiting
  does_goes Poll = declining _
  does_goes (FetchPage partition from) = asking c _ refl refl own.waiting tt
  does_goes (FetchOffset group partition) = asking c _ refl refl own.waiting tt

  pub command_holds : (what : Command) (after : Client) (messages : List Message)
      → command c what ≡ Does after messages
      → HoldsOwn sent after × (after.number ≡ c.number) × All (IsEntitled sent) messages
  unfolding command
  command_holds what after messages e =
      by (does c what) (does_goes what)
      (unless_does (refusals c what) (does c what) after messages e)
    where
      as_own : (d : Client) → d.number ≡ c.number → d.held ≡ c.held
          → All (IsEntitled sent) d.waiting → HoldsOwn sent d
      as_own d n h w = record {
        held = subst (λ x. IfSome x (Handed sent d.number)) (sym h)
            (subst (λ k. IfSome c.held (Handed sent k)) (sym n) own.held);
        waiting = w;
      }

      by : (done : Commanded) → Goes done → done ≡ Does after messages
          → HoldsOwn sent after × (after.number ≡ c.number) × All (IsEntitled sent) messages
      by done (declining fault) f = absurd cc
      by done (doing d ms n h w t) f =
          let same_client : d ≡ after = cc in
          let same_messages : ms ≡ messages = cc in (
            subst (HoldsOwn sent) same_client (as_own d n h w),
            subst (λ x. x.number ≡ c.number) same_client n,
            subst (All (IsEntitled sent)) same_messages t,
          )

  ------ replies

  -- the client without the request that is answered
  module _ (answered : Client) (same : answered.number ≡ c.number)
      (holds : HoldsOwn sent answered)
    where
      abbrev IsOwn : Client → Type 0
      IsOwn d = HoldsOwn sent d × (d.number ≡ c.number)

      learns_own : (m : Meaning) (done : Client) → (m ≡ Done → IsOwn done)
          → IsOwn (learns m c answered done)
      learns_own Done done h = h refl
      learns_own Waits done h = (own, refl)
      learns_own Aborts done h =
          (record { held = holds.held; waiting = holds.waiting }, same)
      learns_own Fails done h =
          (record { held = holds.held; waiting = holds.waiting }, same)

      holding_own : (held : Option Held) → IfSome held (Handed sent c.number)
          → IsOwn (holding answered held)
      holding_own None h = (holds, same)
      holding_own (Some held) h = (
        record {
          held = subst (λ n. Handed sent n held) (sym same) h;
          waiting = holds.waiting;
        },
        same,
      )

      done_code : (x : ErrorCode) → meaning x ≡ Done → x ≡ code.NoError
      done_code code.NoError e = refl
      done_code code.OffsetOutOfRange e = absurd cc
      done_code code.CorruptMessage e = absurd cc
      done_code code.UnknownTopicOrPartition e = absurd cc
      done_code code.MessageTooLarge e = absurd cc
      done_code code.IllegalGeneration e = absurd cc
      done_code code.UnknownMemberId e = absurd cc
      done_code code.OutOfOrderSequenceNumber e = absurd cc
      done_code code.InvalidProducerEpoch e = absurd cc
      done_code code.InvalidTxnState e = absurd cc
      done_code code.InvalidProducerIdMapping e = absurd cc
      done_code code.ConcurrentTransactions e = absurd cc
      done_code code.TransactionCoordinatorFenced e = absurd cc
      done_code code.KafkaStorageError e = absurd cc
      done_code code.UnsupportedCompressionType e = absurd cc
      done_code code.InvalidRecord e = absurd cc
      done_code code.UnstableOffsetCommit e = absurd cc
      done_code code.ProducerFenced e = absurd cc

      init_handed : (client k : ℕ) (x : ErrorCode) (held : Option Held) → client ≡ c.number
          → Contains sent (the.InitReply (caller_with client k) x held) → x ≡ code.NoError
          → IfSome held (Handed sent c.number)
      init_handed client k x None n m e = tt
      init_handed client k x (Some held) n m e =
          by_init k (subst (λ y. Contains sent
          (the.InitReply (caller_with c.number k) y (Some held))) e
          (subst (λ y. Contains sent (the.InitReply (caller_with y k) x (Some held))) n m))

      end_handed : (client k : ℕ) (x : ErrorCode) (held : Option Held) → client ≡ c.number
          → Contains sent (the.EndReply (caller_with client k) x held) → x ≡ code.NoError
          → IfSome held (Handed sent c.number)
      end_handed client k x None n m e = tt
      end_handed client k x (Some held) n m e =
          by_end k (subst (λ y. Contains sent
          (the.EndReply (caller_with c.number k) y (Some held))) e
          (subst (λ y. Contains sent (the.EndReply (caller_with y k) x (Some held))) n m))

      told_own : (m : Message) → Contains sent m → receiver_of m ≡ node.Client c.number
          → IsOwn (told c answered m)
      told_own (msg.InitReply it) m to =
          let n : it.caller.client ≡ c.number = cc in
          learns_own (meaning it.code) (holding answered it.held)
          (λ e. holding_own it.held
          (init_handed it.caller.client it.caller.correlation it.code it.held n m
          (done_code it.code e)))
      told_own (msg.EndReply it) m to =
          let n : it.caller.client ≡ c.number = cc in
          learns_own (meaning it.code)
          (record (holding answered it.held) { in_transaction = false; must_abort = false })
          (λ e. let h = holding_own it.held
          (end_handed it.caller.client it.caller.correlation it.code it.held n m
          (done_code it.code e)) in
          (record { held = h.0.held; waiting = h.0.waiting }, h.1))
      told_own (msg.ProduceReply it) m to =
          learns_own (meaning it.code) answered (λ e. (holds, same))
      told_own (msg.JoinReply it) m to =
          learns_own (meaning it.code) _
          (λ e. (record { held = holds.held; waiting = holds.waiting }, same))
      told_own (msg.LeaveReply it) m to =
          learns_own (meaning it.code) answered (λ e. (holds, same))
      told_own (msg.OffsetsReply it) m to =
          learns_own (offsets_meaning it.code) answered (λ e. (holds, same))
      told_own (msg.FetchReply it) m to =
          learns_own (meaning it.code) answered (λ e. (holds, same))
      told_own (msg.OffsetFetchReply it) m to =
          learns_own (offset_meaning it.code) answered (λ e. (holds, same))
      told_own other m to = (own, refl)

  pub reply_holds : (m : Message) → Contains sent m
      → HoldsOwn sent (take_reply c m) × ((take_reply c m).number ≡ c.number)
  unfolding take_reply
  reply_holds m there =
      let answered : Client =
      record c { waiting = filter (λ x. not (is_answer_to m x)) c.waiting } in
      cond_both (is_awaited c m) (told c answered m) c
      (λ (d : Client). HoldsOwn sent d × (d.number ≡ c.number))
      (λ e. told_own answered refl (record {
        held = own.held;
        waiting = All-filter (λ x. not (is_answer_to m x)) (IsEntitled sent) c.waiting
            own.waiting;
      }) m there (awaited_here c m e).0)
      (λ e. (own, refl))

-- what a client holds and hands out in its turn
pub turn_holds : (w : World) (c after : Client) (messages : List Message) → HoldsOwn w.sent c
    → ClientTurn w c after messages
    → HoldsOwn w.sent after × (after.number ≡ c.number) × All (IsEntitled w.sent) messages
turn_holds w c after messages own (commands what d ms fits e) =
    command_holds w.sent c own what after messages e
turn_holds w c after messages own (hears m there) =
    let h = reply_holds w.sent c own m there in (h.0, h.1, All-nil (IsEntitled w.sent))
turn_holds w c after messages own ClientTurn.passes = (own, refl, All-nil (IsEntitled w.sent))
