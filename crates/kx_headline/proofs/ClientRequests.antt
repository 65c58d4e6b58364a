-- What stands of the requests that clients sent: each is known by its client and number, a batch
-- begins where the one before it ended, and what was committed was answered.
use Rattle.std.proofs.Common.{◌≡◌, ◌⊎◌, ◌<◌, ◌≤◌, ◌^◌, ℕ, ℤ, pos, Bool, true, false, List}
use Rattle.std.proofs.Common.{map, Option, Some, None, Contains, All}
use Rattle.std.specs.List.{list_any}
use Rattle.kx_message.specs.declared.requests.Caller.{Caller}
use Rattle.kx_message.specs.Messages.{caller_with}
use Rattle.kx_message.specs.Ranges.{offsets_partition}
use Rattle.kx_message.specs.declared.code.ErrorCode.TheVariants.{NoError}
use Rattle.kx_message.specs.declared.message.Held.{Held}
use Rattle.kx_message.specs.declared.message.Message.{Message}
use Rattle.kx_message.specs.declared.message.Message.TheVariants as msg
use Rattle.kx_message.specs.Messages as the
use Rattle.kx_message.specs.declared.outcome.Outcome.{Outcome}
use Rattle.kx_message.specs.declared.outcome.Outcome.TheVariants.{Commit}
use Rattle.kx_message.specs.declared.payload.PartitionOffset.{PartitionOffset}
use Rattle.kx_batch.specs.Record.{Record}
use Rattle.kx_model.specs.Client.{Client, client_batch, is_end, is_init, sequence_of}
use Rattle.kx_model.specs.Replies.{correlation_of}
use Rattle.kx_model.specs.World.{World}
use Rattle.kx_headline.proofs.ClientHolds.{Handed}
use Rattle.kx_headline.proofs.OneHolder.{HoldersStand}

------ requests

-- the client that sent it, if it is a client's request
abbrev pub sender : Message → Option ℕ
sender (msg.InitProducerId it) = Some it.caller.client
sender (msg.EndTxn it) = Some it.caller.client
sender (msg.Produce it) = Some it.caller.client
sender (msg.TxnOffsetCommit it) =
    Some it.caller.client
sender (msg.Join it) = Some it.caller.client
sender (msg.Leave it) = Some it.caller.client
sender (msg.Fetch it) = Some it.caller.client
sender (msg.OffsetFetch it) = Some it.caller.client
sender m = None

abbrev pub is_offsets : Message → Bool
is_offsets (msg.TxnOffsetCommit it) = true
is_offsets m = false

abbrev pub is_batch : Message → Bool
is_batch (msg.Produce it) = true
is_batch m = is_offsets m

-- what a batch is to its client: its partition, the id and epoch, and the first sequence
pub record Load : Type 0 where
  pub partition : ℕ
  pub held : Held
  pub first : ℕ

-- these numbers fit the fields of a batch
pub record HeldFits (held : Held) : Type 0 where
  pub id : held.id < 2 ^ 63
  pub epoch : held.epoch < 2 ^ 15

-- the request carries it
pub data Carries : Message → Load → Type 0 where
  with_batch : (caller : Caller) (txn : Option (List ℕ)) (partition : ℕ)
      (transactional : Bool) (held : Held) (first : ℕ) (records : List Record)
      → HeldFits held → first < 2 ^ 31 → Carries
      (the.Produce caller txn partition (client_batch transactional held first records))
      (record { partition = partition; held = held; first = first })
  with_offsets : (caller : Caller) (txn group : List ℕ) (member : ℕ) (generation : ℤ)
      (held : Held) (first : ℕ) (offsets : List PartitionOffset)
      → HeldFits held → first < 2 ^ 31 → Carries
      (the.TxnOffsetCommit caller txn group member generation held (pos first) offsets)
      (record { partition = offsets_partition; held = held; first = first })

-- it was answered with code 0
abbrev pub Answered : List Message → Message → Type 0
Answered sent (msg.Produce it) =
    (p : ℕ) × (offset : ℤ)
    × Contains sent (the.ProduceReply it.caller p NoError offset)
Answered sent (msg.TxnOffsetCommit it) = Contains sent (the.OffsetsReply it.caller NoError)
Answered sent m = ⊥

-- an id and epoch isn't above another, ids compared first
pub data IsUpTo (a b : Held) : Type 0 where
  older_id : a.id < b.id → IsUpTo a b
  same_id : a.id ≡ b.id → a.epoch ≤ b.epoch → IsUpTo a b

abbrev pub IsWithin : Held → Option Held → Type 0
IsWithin held None = ⊥
IsWithin held (Some top) = IsUpTo held top

------ one client

-- given all messages
module _ (sent : List Message) (c : Client) where
  abbrev pub IsIts : Message → Type 0
  IsIts m = Contains sent m × (sender m ≡ Some c.number)

  -- an EndTxn of the id and epoch that it holds was sent
  pub record HasEnded : Type 0 where
    pub correlation : ℕ
    pub txn : List ℕ
    pub held : Held
    pub outcome : Outcome
    pub there : Contains sent (the.EndTxn (caller_with c.number correlation) txn held outcome)
    pub present : c.held ≡ Some held

  -- a request that it waits for
  pub record IsAwaited (m : Message) : Type 0 where
    pub its : IsIts m
    pub load : (l : Load) → Carries m l → c.held ≡ Some l.held
    pub ends : (k : ℕ) (txn : List ℕ) (held : Held) (outcome : Outcome)
        → m ≡ the.EndTxn (caller_with c.number k) txn held outcome → c.held ≡ Some held

  pub record Knows : Type 0 where
    pub numbered : (m : Message) → IsIts m → correlation_of m < c.correlation
    pub distinct : (m n : Message) → IsIts m → IsIts n → correlation_of m ≡ correlation_of n
        → m ≡ n
    pub within : (m : Message) (l : Load) → IsIts m → Carries m l → IsWithin l.held c.held
    pub ends_within : (k : ℕ) (txn : List ℕ) (held : Held) (outcome : Outcome)
        → Contains sent (the.EndTxn (caller_with c.number k) txn held outcome)
        → IsWithin held c.held
    pub behind : (m : Message) (l : Load) → IsIts m → Carries m l → c.held ≡ Some l.held
        → l.first < sequence_of c.sequences l.partition
    pub once : (m n : Message) (l j : Load) → IsIts m → IsIts n → Carries m l → Carries n j
        → l.partition ≡ j.partition → l.held ≡ j.held → l.first ≡ j.first → m ≡ n
    pub waiting : All IsAwaited c.waiting
    -- beside an EndTxn no batch waits, and no other EndTxn
    pub beside : (m n : Message) → Contains c.waiting m → is_end m ≡ true → Contains c.waiting n
        → (is_end n ≡ true → m ≡ n) × (is_batch n ≡ false)
    -- an id is asked for once, while none is held
    pub asking : list_any is_init c.waiting ≡ true → c.held ≡ None
    pub asks_once : (m n : Message) → Contains c.waiting m → Contains c.waiting n
        → is_init m ≡ true → is_init n ≡ true → m ≡ n
    pub offsets_inside : (m : Message) → Contains c.waiting m → is_offsets m ≡ true
        → c.in_transaction ≡ true
    pub aborting : c.must_abort ≡ true → c.in_transaction ≡ true
    pub answered : c.failed ≡ false → c.must_abort ≡ false → (HasEnded → ⊥) → (m : Message)
        (l : Load) → IsIts m → Carries m l → c.held ≡ Some l.held
        → Contains c.waiting m ⊎ Answered sent m
    pub ended : c.failed ≡ false → HasEnded → list_any is_end c.waiting ≡ true
    pub committed : (k : ℕ) (txn : List ℕ) (held : Held)
        → Contains sent (the.EndTxn (caller_with c.number k) txn held Commit)
        → (m : Message) (l : Load)
        → IsIts m → Carries m l → l.held ≡ held → Answered sent m

------ a world

-- a batch that was sent: it carries a load, of a pair that its client was handed
pub record IsMade (sent : List Message) (m : Message) : Type 0 where
  pub load : Load
  pub carries : Carries m load
  pub client : ℕ
  pub its_sender : sender m ≡ Some client
  pub handed : Handed sent client load.held

-- each Produce and each TxnOffsetCommit is such a batch
abbrev pub AreMade : List Message → Message → Type 0
AreMade sent (msg.Produce it) =
    IsMade sent (msg.Produce it)
AreMade sent (msg.TxnOffsetCommit it) = IsMade sent
    (msg.TxnOffsetCommit it)
AreMade sent m = Unit {0}

pub record RequestsStand (w : World) : Type 0 where
  pub holders : HoldersStand w
  pub clients : All (Knows w.sent) w.clients
  -- whose request it is, is a client of the world
  pub known : (m : Message) (client : ℕ) → Contains w.sent m → sender m ≡ Some client
      → Contains (map (λ (c : Client). c.number) w.clients) client
  pub made : All (AreMade w.sent) w.sent
