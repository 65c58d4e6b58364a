-- A reply that comes keeps what stands of its client's requests.
use Rattle.std.proofs.Common.{◌≡◌, ◌⊎◌, ◌+◌, ◌<◌, ◌==◌, not, ℕ, ℤ, Bool, true, false, List}
use Rattle.std.proofs.Common.{filter, Option, Some, None, Contains, refl, sym, ap}
use Rattle.std.proofs.Common.{◌∙◌, subst, arith, inl, inr, ⊎_elim}
use Rattle.std.specs.List.{list_any}
use Rattle.std.proofs.lemmas.Bool.{and_parts, cond_both}
use Rattle.std.proofs.lemmas.Bool.Decides.{nat_tests}
use Rattle.std.proofs.lemmas.List.Elements.{All-contains}
use Rattle.kx_message.specs.Messages.{caller_with}
use Rattle.kx_message.specs.Fields.{kind_of}
use Rattle.kx_message.specs.Receiver.{receiver_of}
use Rattle.kx_message.specs.declared.code.ErrorCode.{ErrorCode}
use Rattle.kx_message.specs.declared.code.ErrorCode.TheVariants as code
use Rattle.kx_message.specs.declared.message.Held.{Held}
use Rattle.kx_message.specs.declared.message.Message.{Message}
use Rattle.kx_message.specs.declared.message.Message.TheVariants as msg
use Rattle.kx_message.specs.Messages as the
use Rattle.kx_message.specs.declared.message.NodeId.TheVariants as node
use Rattle.kx_message.specs.declared.outcome.Outcome.{Outcome}
use Rattle.kx_model.specs.Client.{Client, Place, is_end, is_init}
use Rattle.kx_model.specs.Replies.{Aborts, Done, Fails, Meaning, Waits, correlation_of, holding}
use Rattle.kx_model.specs.Replies.{is_answer_to, is_awaited, learns, meaning, offset_meaning}
use Rattle.kx_model.specs.Replies.{offsets_meaning, take_reply, told}
use Rattle.kx_headline.proofs.ClientAsks.{is_a_batch}
use Rattle.kx_headline.proofs.ClientHolds.{awaited_here}
use Rattle.kx_headline.proofs.ClientRequests.{Answered, Carries, HasEnded, IsAwaited, IsIts, IsUpTo}
use Rattle.kx_headline.proofs.ClientRequests.{IsWithin, Knows, Load, is_batch, is_offsets, older_id}
use Rattle.kx_headline.proofs.ClientRequests.{same_id}
use Rattle.kx_laws.proofs.Lists.{All-from_contains}
use Rattle.kx_laws.proofs.Membership.{any_holds, any_keeps, filter_holds, filter_keeps}

------ what a code means

done_code : (x : ErrorCode) → meaning x ≡ Done → x ≡ code.NoError
done_code code.NoError e = refl
done_code other e = absurd cc

no_abort : (x : ErrorCode) → meaning x ≡ Aborts → ⊥
no_abort code.NoError e = cc
no_abort code.OutOfOrderSequenceNumber e = cc
no_abort code.ConcurrentTransactions e = cc
no_abort code.KafkaStorageError e = cc
no_abort other e = cc

offset_no_abort : (x : ErrorCode) → offset_meaning x ≡ Aborts → ⊥
offset_no_abort code.UnstableOffsetCommit e = cc
offset_no_abort other e = no_abort other e

offsets_done : (x : ErrorCode) → offsets_meaning x ≡ Done → x ≡ code.NoError
offsets_done code.UnknownMemberId e = absurd cc
offsets_done code.IllegalGeneration e = absurd cc
offsets_done other e = done_code other e

------ which request is answered

-- the kinds of the requests that a client waits for, by its answer
answers_kind : (m x : Message) → is_answer_to m x ≡ true
    → (kind_of m ≡ kind_of x + 1) × (correlation_of m ≡ correlation_of x)
answers_kind m x e =
    let p = and_parts (kind_of m == kind_of x + 1) _ e in (
      grind (arith, nat_tests, p.0),
      grind (arith, nat_tests, p.1),
    )

batch_kind : (x : Message) → is_batch x ≡ true → (kind_of x ≡ 5) ⊎ (kind_of x ≡ 17)
batch_kind (msg.Produce it) e = inl refl
batch_kind
    (msg.TxnOffsetCommit it) e
    =
    inr refl
batch_kind other e = absurd cc

end_kind : (x : Message) → is_end x ≡ true → kind_of x ≡ 3
end_kind (msg.EndTxn it) e = refl
end_kind other e = absurd cc

offsets_kind : (x : Message) → is_offsets x ≡ true → kind_of x ≡ 17
offsets_kind
    (msg.TxnOffsetCommit it) e
    =
    refl
offsets_kind other e = absurd cc

kind_offsets : (x : Message) → kind_of x ≡ 17 → is_offsets x ≡ true
kind_offsets
    (msg.TxnOffsetCommit it) e
    =
    refl
kind_offsets other e = absurd (omega (arith, e))

kind_end : (x : Message) → kind_of x ≡ 3 → is_end x ≡ true
kind_end (msg.EndTxn it) e = refl
kind_end other e = absurd (omega (arith, e))

kind_init : (x : Message) → kind_of x ≡ 1 → is_init x ≡ true
kind_init (msg.InitProducerId it) e = refl
kind_init other e = absurd (omega (arith, e))

------ a client that waits for less

module _ (sent : List Message) (c : Client) (k : Knows sent c) where
  module _ (waiting : List Message) (inside aborts fails : Bool) (place : Option Place) where
    -- as it was but for what waits, its transaction, its marks and its place
    abbrev changed : Client
    changed = record c {
      waiting = waiting;
      in_transaction = inside;
      must_abort = aborts;
      failed = fails;
      place = place;
    }

    as_before : HasEnded sent changed → HasEnded sent c
    as_before h = record {
      correlation = h.correlation;
      txn = h.txn;
      held = h.held;
      outcome = h.outcome;
      there = h.there;
      present = h.present;
    }

    as_after : HasEnded sent c → HasEnded sent changed
    as_after h = record {
      correlation = h.correlation;
      txn = h.txn;
      held = h.held;
      outcome = h.outcome;
      there = h.there;
      present = h.present;
    }

    rests : ((x : Message) → Contains waiting x → Contains c.waiting x)
        → ((x : Message) → Contains waiting x → is_offsets x ≡ true → inside ≡ true)
        → (aborts ≡ true → inside ≡ true)
        → (fails ≡ false → aborts ≡ false → (HasEnded sent c → ⊥) → (x : Message) (l : Load)
        → IsIts sent c x → Carries x l → c.held ≡ Some l.held
        → Contains waiting x ⊎ Answered sent x)
        → (fails ≡ false → HasEnded sent c → list_any is_end waiting ≡ true)
        → Knows sent changed
    rests sub offsets aborting answered ended = record {
      numbered = k.numbered;
      distinct = k.distinct;
      within = k.within;
      ends_within = k.ends_within;
      behind = k.behind;
      once = k.once;
      waiting = All-from_contains (IsAwaited sent changed) waiting (λ x there.
          let a = All-contains (IsAwaited sent c) c.waiting x k.waiting (sub x there) in
          record { its = a.its; load = a.load; ends = a.ends });
      beside = λ x y a e b. k.beside x y (sub x a) e (sub y b);
      asking = λ e.
          let (x, there, is) = any_holds is_init waiting e in
          k.asking (any_keeps is_init c.waiting x (sub x there) is);
      asks_once = λ x y a b. k.asks_once x y (sub x a) (sub y b);
      offsets_inside = offsets;
      aborting = aborting;
      answered = λ f a none x l its carries held.
          answered f a (λ h. none (as_after h)) x l its carries held;
      ended = λ f h. ended f (as_before h);
      committed = k.committed;
    }

  ------ a reply

  module _ (m : Message) where
    abbrev left : List Message
    left = filter (λ x. not (is_answer_to m x)) c.waiting

    left_waited : (x : Message) → Contains left x → Contains c.waiting x
    left_waited x there = (filter_holds (λ y. not (is_answer_to m y)) c.waiting x there).0

    not_left : (x : Message) → is_answer_to m x ≡ true → Contains left x → ⊥
    not_left x is there =
        let no = sym (filter_holds (λ y. not (is_answer_to m y)) c.waiting x there).1
        ∙ ap not is in
        cc

    -- what waited waits on, or is answered
    left_or_answered : (x : Message) → Contains c.waiting x
        → Contains left x ⊎ (is_answer_to m x ≡ true)
    left_or_answered x there = at (is_answer_to m x) refl
      where
        at : (b : Bool) → is_answer_to m x ≡ b → Contains left x ⊎ (is_answer_to m x ≡ true)
        at true e = inr e
        at false e =
            inl (filter_keeps (λ y. not (is_answer_to m y)) c.waiting x there (ap not e))

    -- an EndTxn isn't answered by a reply of another kind
    ends_wait : (kind_of m ≡ 4 → ⊥) → list_any is_end c.waiting ≡ true
        → list_any is_end left ≡ true
    ends_wait other e =
        let (x, there, is) = any_holds is_end c.waiting e in
        ⊎_elim (λ l. any_keeps is_end left x l is)
        (λ a. absurd (other (let p = answers_kind m x a in
        let q = end_kind x is in omega (arith, p.0, q))))
        (left_or_answered x there)

    batches_wait : (kind_of m ≡ 6 → ⊥) → (kind_of m ≡ 18 → ⊥) → (x : Message)
        → is_batch x ≡ true → Contains c.waiting x → Contains left x
    batches_wait not6 not18 x is there =
        ⊎_elim (λ l. l)
        (λ a. let p = answers_kind m x a in
        ⊎_elim (λ q. absurd (not6 (omega (arith, p.0, q))))
        (λ q. absurd (not18 (omega (arith, p.0, q)))) (batch_kind x is))
        (left_or_answered x there)

    ------ what the reply's code means, of a reply of another kind than those with a pair

    abbrev answered_client : Client
    answered_client = record c { waiting = left }

    fails_knows : Knows sent (record answered_client { failed = true })
    fails_knows =
        rests left c.in_transaction c.must_abort true c.place left_waited
        (λ x there. k.offsets_inside x (left_waited x there)) k.aborting (λ f. absurd cc)
        (λ f. absurd cc)

    aborts_knows : c.in_transaction ≡ true → (kind_of m ≡ 4 → ⊥)
        → Knows sent (record answered_client { must_abort = true })
    aborts_knows going other =
        rests left c.in_transaction true c.failed c.place left_waited
        (λ x there. k.offsets_inside x (left_waited x there)) (λ e. going)
        (λ f a. absurd cc) (λ f h. ends_wait other (k.ended f h))

    -- a reply of code 0 to a request of another kind than those for a pair
    done_knows : (place : Option Place) → (kind_of m ≡ 4 → ⊥)
        → ((x : Message) → IsIts sent c x → is_batch x ≡ true → is_answer_to m x ≡ true
        → Answered sent x) → Knows sent (record answered_client { place = place })
    done_knows place other answers =
        rests left c.in_transaction c.must_abort c.failed place left_waited
        (λ x there. k.offsets_inside x (left_waited x there)) k.aborting
        (λ f a none x l its carries held.
        ⊎_elim
        (λ waits. ⊎_elim inl (λ e. inr (answers x its (is_a_batch x l carries) e))
        (left_or_answered x waits))
        inr (k.answered f a none x l its carries held))
        (λ f h. ends_wait other (k.ended f h))

    learns_knows : (mean : Meaning) (done : Client) → (mean ≡ Done → Knows sent done)
        → (mean ≡ Aborts → (c.in_transaction ≡ true) × (kind_of m ≡ 4 → ⊥))
        → Knows sent (learns mean c answered_client done)
    learns_knows Done done h aborts = h refl
    learns_knows Waits done h aborts = k
    learns_knows Aborts done h aborts = let a = aborts refl in aborts_knows a.0 a.1
    learns_knows Fails done h aborts = fails_knows

------ pairs

pub data IsBelow (a b : Held) : Type 0 where
  earlier_id : a.id < b.id → IsBelow a b
  earlier_epoch : a.id ≡ b.id → a.epoch < b.epoch → IsBelow a b

-- the end of a transaction was answered with a pair above its own
pub record Raises (sent : List Message) (client correlation : ℕ) (held : Option Held) : Type 0 where
  pub given : Held
  pub is : held ≡ Some given
  pub txn : List ℕ
  pub ending : Held
  pub outcome : Outcome
  pub asked : Contains sent (the.EndTxn (caller_with client correlation) txn ending outcome)
  pub below : IsBelow ending given

up_to_below : (a b c : Held) → IsUpTo a b → IsBelow b c → IsUpTo a c
up_to_below a b c (older_id h) (earlier_id g) = older_id (omega (arith, h, g))
up_to_below a b c (older_id h) (earlier_epoch e g) = older_id (omega (arith, h, e))
up_to_below a b c (same_id e h) (earlier_id g) = older_id (omega (arith, e, g))
up_to_below a b c (same_id e h) (earlier_epoch f g) =
    same_id (e ∙ f) (omega (arith, h, g))

not_up : (a b : Held) → IsUpTo b a → IsBelow a b → ⊥
not_up a b (older_id h) (earlier_id g) = omega (arith, h, g)
not_up a b (older_id h) (earlier_epoch e g) = omega (arith, h, e)
not_up a b (same_id e h) (earlier_id g) = omega (arith, e, g)
not_up a b (same_id e h) (earlier_epoch f g) = omega (arith, h, g)

same_held : (a b : Held) → Some a ≡ Some b → a ≡ b
same_held a b e = cc

module _ (sent : List Message) (c : Client) (k : Knows sent c) (m : Message) where
  -- a pair for a client that held none, which asked for it
  first_pair : (held : Held) → kind_of m ≡ 2 → list_any (is_answer_to m) c.waiting ≡ true
      → Knows sent (holding (answered_client sent c k m) (Some held))
  first_pair held kind awaited =
      let (x, there, is) = any_holds (is_answer_to m) c.waiting awaited in
      let p = answers_kind m x is in
      let init = kind_init x (omega (arith, kind, p.0)) in
      let none = k.asking (any_keeps is_init c.waiting x there init) in
      record {
        numbered = k.numbered;
        distinct = k.distinct;
        within = λ y l its carries.
            absurd (nothing_sent none l.held (k.within y l its carries));
        ends_within = λ i txn h o a. absurd (nothing_sent none h (k.ends_within i txn h o a));
        behind = λ y l its carries e.
            absurd (nothing_sent none l.held (k.within y l its carries));
        once = k.once;
        waiting = All-from_contains (IsAwaited sent after) (left sent c k m) (λ y w.
            let a = All-contains (IsAwaited sent c) c.waiting y k.waiting
            (left_waited sent c k m y w) in
            record {
              its = a.its;
              load = λ l carries. absurd (nothing_sent none l.held (k.within y l a.its carries));
              ends = λ i txn h o e. absurd (nothing_sent none h (k.ends_within i txn h o
                  (subst (Contains sent) e a.its.0)));
            });
        beside = λ y z a e b.
            k.beside y z (left_waited sent c k m y a) e (left_waited sent c k m z b);
        asking = λ e.
            let (y, w, i) = any_holds is_init (left sent c k m) e in
            let same = k.asks_once x y there (left_waited sent c k m y w) init i in
            absurd (not_left sent c k m y (ap (is_answer_to m) (sym same) ∙ is) w);
        asks_once = λ y z a b.
            k.asks_once y z (left_waited sent c k m y a) (left_waited sent c k m z b);
        offsets_inside = λ y w. k.offsets_inside y (left_waited sent c k m y w);
        aborting = k.aborting;
        answered = λ f a no y l its carries e.
            absurd (nothing_sent none l.held (k.within y l its carries));
        ended = λ f h. absurd (nothing_sent none h.held
            (k.ends_within h.correlation h.txn h.held h.outcome h.there));
        committed = k.committed;
      }
    where
      after : Client
      after = holding (answered_client sent c k m) (Some held)

      nothing_sent : c.held ≡ None → (h : Held) → IsWithin h c.held → ⊥
      nothing_sent none h w = subst (IsWithin h) none w

  -- the pair after a transaction that ended
  module _ (correlation : ℕ) (held : Option Held) (kind : kind_of m ≡ 4)
      (number : correlation_of m ≡ correlation)
      (awaited : list_any (is_answer_to m) c.waiting ≡ true)
      (raises : Raises sent c.number correlation held) where
    abbrev next : Held
    next = raises.given

    abbrev ended_client : Client
    ended_client = record (holding (answered_client sent c k m) (Some next)) {
      in_transaction = false;
      must_abort = false;
    }

    -- the EndTxn that is answered
    record TheEnd : Type 0 where
      request : Message
      there : Contains c.waiting request
      answers : is_answer_to m request ≡ true
      ends : is_end request ≡ true
      pair : c.held ≡ Some raises.ending

    the_end : TheEnd
    the_end =
        let (x, there, is) = any_holds (is_answer_to m) c.waiting awaited in
        let p = answers_kind m x is in
        let ends = kind_end x (omega (arith, kind, p.0)) in
        let a = All-contains (IsAwaited sent c) c.waiting x k.waiting there in
        let caller = caller_with c.number correlation in
        let asked = the.EndTxn caller raises.txn raises.ending raises.outcome in
        let same = k.distinct x asked a.its (raises.asked, refl) (sym p.1 ∙ number) in
        record {
          request = x;
          there = there;
          answers = is;
          ends = ends;
          pair = a.ends correlation raises.txn raises.ending raises.outcome same;
        }

    -- what waits on is no batch and no EndTxn
    rest_is : (y : Message) → Contains (left sent c k m) y
        → (is_batch y ≡ false) × (is_end y ≡ true → ⊥)
    rest_is y w =
        let e = the_end in
        let b = k.beside e.request y e.there e.ends (left_waited sent c k m y w) in (
          b.1,
          λ f. not_left sent c k m y (ap (is_answer_to m) (sym (b.0 f)) ∙ e.answers) w,
        )

    below : (h : Held) → IsWithin h c.held → IsUpTo h next
    below h w = up_to_below h raises.ending next (subst (IsWithin h) the_end.pair w) raises.below

    not_next : (h : Held) → IsWithin h c.held → Some next ≡ Some h → ⊥
    not_next h w e =
        not_up raises.ending next
        (subst (λ x. IsUpTo x raises.ending) (sym (same_held next h e))
        (subst (IsWithin h) the_end.pair w)) raises.below

    is_offsets_batch : (y : Message) → is_offsets y ≡ true → is_batch y ≡ true
    is_offsets_batch
        (msg.TxnOffsetCommit it) e
        =
        refl
    is_offsets_batch other e = absurd cc

    pub next_pair : Knows sent ended_client
    next_pair = record {
      numbered = k.numbered;
      distinct = k.distinct;
      within = λ y l its carries. below l.held (k.within y l its carries);
      ends_within = λ i txn h o a. below h (k.ends_within i txn h o a);
      behind = λ y l its carries e. absurd (not_next l.held (k.within y l its carries) e);
      once = k.once;
      waiting = All-from_contains (IsAwaited sent ended_client) (left sent c k m) (λ y w.
          let a = All-contains (IsAwaited sent c) c.waiting y k.waiting
          (left_waited sent c k m y w) in
          let r = rest_is y w in
          record {
            its = a.its;
            load = λ l carries. absurd (let no = sym (is_a_batch y l carries) ∙ r.0 in cc);
            ends = λ i txn h o e. absurd (r.1 (ap is_end e));
          });
      beside = λ y z a e b. absurd ((rest_is y a).1 e);
      asking = λ e.
          let (y, w, i) = any_holds is_init (left sent c k m) e in
          absurd (let no = sym (k.asking (any_keeps is_init c.waiting y
          (left_waited sent c k m y w) i)) ∙ the_end.pair in cc);
      asks_once = λ y z a b.
          k.asks_once y z (left_waited sent c k m y a) (left_waited sent c k m z b);
      offsets_inside = λ y w is.
          absurd (let no = sym (is_offsets_batch y is) ∙ (rest_is y w).0 in cc);
      aborting = λ e. absurd cc;
      answered = λ f a no y l its carries e.
          absurd (not_next l.held (k.within y l its carries) e);
      ended = λ f h. absurd (not_next h.held
          (k.ends_within h.correlation h.txn h.held h.outcome h.there) h.present);
      committed = k.committed;
    }

------ every reply

module _ (sent : List Message) (c : Client) (k : Knows sent c)
    (raised : (i : ℕ) (held : Option Held)
    → Contains sent (the.EndReply (caller_with c.number i) code.NoError held)
    → Raises sent c.number i held) where
  -- the request of this client that is answered with code 0
  produce_answered : (client i p : ℕ) (offset : ℤ) → client ≡ c.number
      → Contains sent (the.ProduceReply (caller_with client i) p code.NoError offset)
      → (x : Message)
      → IsIts sent c x → is_batch x ≡ true
      → is_answer_to (the.ProduceReply (caller_with client i) p code.NoError offset) x ≡ true
      → Answered sent x
  produce_answered client i p offset n there (msg.Produce it) its is a =
      let reply = λ (c k : ℕ). the.ProduceReply (caller_with c k) p code.NoError offset in
      let kinds = answers_kind (reply client i) (msg.Produce it) a in
      let sender : it.caller.client ≡ c.number = cc in (
        p,
        offset,
        subst (λ y. Contains sent (reply y it.caller.correlation)) (n ∙ sym sender)
            (subst (λ y. Contains sent (reply client y)) kinds.1 there),
      )
  produce_answered client i p offset n there (msg.TxnOffsetCommit it) its is a =
      let kinds = answers_kind (the.ProduceReply (caller_with client i) p code.NoError offset)
      (msg.TxnOffsetCommit it) a in
      absurd (omega (arith, kinds.0))
  produce_answered client i p offset n there other its is a = absurd cc

  offsets_answered : (client i : ℕ) → client ≡ c.number
      → Contains sent (the.OffsetsReply (caller_with client i) code.NoError) → (x : Message)
      → IsIts sent c x → is_batch x ≡ true
      → is_answer_to (the.OffsetsReply (caller_with client i) code.NoError) x ≡ true
      → Answered sent x
  offsets_answered client i n there (msg.Produce it) its is a =
      let kinds = answers_kind (the.OffsetsReply (caller_with client i) code.NoError)
      (msg.Produce it) a in
      absurd (omega (arith, kinds.0))
  offsets_answered client i n there (msg.TxnOffsetCommit it) its is a =
      let reply = λ (c k : ℕ). the.OffsetsReply (caller_with c k) code.NoError in
      let kinds = answers_kind (reply client i) (msg.TxnOffsetCommit it) a in
      let sender : it.caller.client ≡ c.number = cc in
      subst (λ y. Contains sent (reply y it.caller.correlation)) (n ∙ sym sender)
      (subst (λ y. Contains sent (reply client y)) kinds.1 there)
  offsets_answered client i n there other its is a = absurd cc

  no_batch : (m : Message) → (kind_of m ≡ 6 → ⊥) → (kind_of m ≡ 18 → ⊥) → (x : Message)
      → IsIts sent c x → is_batch x ≡ true → is_answer_to m x ≡ true → Answered sent x
  no_batch m not6 not18 x its is a =
      let p = answers_kind m x a in
      ⊎_elim (λ q. absurd (not6 (omega (arith, p.0, q))))
      (λ q. absurd (not18 (omega (arith, p.0, q)))) (batch_kind x is)

  told_knows : (m : Message) → Contains sent m → receiver_of m ≡ node.Client c.number
      → list_any (is_answer_to m) c.waiting ≡ true
      → Knows sent (told c (answered_client sent c k m) m)
  told_knows (msg.InitReply it) there to awaited =
      let m = msg.InitReply it in
      learns_knows sent c k m (meaning it.code) (holding (answered_client sent c k m) it.held)
      (λ e. by it.held) (λ e. absurd (no_abort it.code e))
    where
      by : (h : Option Held) → Knows sent
          (holding (answered_client sent c k (msg.InitReply it)) h)
      by None =
          done_knows sent c k (msg.InitReply it) c.place (λ e. omega (arith, e))
          (no_batch (msg.InitReply it) (λ e. omega (arith, e))
          (λ e. omega (arith, e)))
      by (Some h) = first_pair sent c k (msg.InitReply it) h refl awaited
  told_knows (msg.EndReply it) there to awaited =
      let m = msg.EndReply it in
      let n : it.caller.client ≡ c.number = cc in
      learns_knows sent c k m (meaning it.code)
      (record (holding (answered_client sent c k m) it.held) {
        in_transaction = false;
        must_abort = false;
      })
      (λ e. ended (raised it.caller.correlation it.held
      (subst (λ y. Contains sent
      (the.EndReply (caller_with c.number it.caller.correlation) y it.held)) (done_code it.code e)
      (subst (λ y. Contains sent
      (the.EndReply (caller_with y it.caller.correlation) it.code it.held)) n there))))
      (λ e. absurd (no_abort it.code e))
    where
      ended : Raises sent c.number it.caller.correlation it.held → Knows sent
          (record (holding (answered_client sent c k (msg.EndReply it)) it.held) {
            in_transaction = false;
            must_abort = false;
          })
      ended r =
          subst (λ h. Knows sent
          (record (holding (answered_client sent c k (msg.EndReply it)) h) {
            in_transaction = false;
            must_abort = false;
          })) (sym r.is)
          (next_pair sent c k (msg.EndReply it) it.caller.correlation it.held refl refl awaited r)
  told_knows (msg.ProduceReply it) there to awaited =
      let m = msg.ProduceReply it in
      let n : it.caller.client ≡ c.number = cc in
      learns_knows sent c k m (meaning it.code) (answered_client sent c k m)
      (λ e. done_knows sent c k m c.place (λ f. omega (arith, f))
      (λ y its is a.
      produce_answered it.caller.client it.caller.correlation it.partition it.offset n
      (subst (λ z. Contains sent (the.ProduceReply it.caller it.partition z it.offset))
      (done_code it.code e) there)
      y its is a))
      (λ e. absurd (no_abort it.code e))
  told_knows (msg.JoinReply it) there to awaited =
      let m = msg.JoinReply it in
      learns_knows sent c k m (meaning it.code) _
      (λ e. done_knows sent c k m _ (λ f. omega (arith, f))
      (no_batch m (λ f. omega (arith, f)) (λ f. omega (arith, f))))
      (λ e. absurd (no_abort it.code e))
  told_knows (msg.LeaveReply it) there to awaited =
      let m = msg.LeaveReply it in
      learns_knows sent c k m (meaning it.code) (answered_client sent c k m)
      (λ e. done_knows sent c k m c.place (λ f. omega (arith, f))
      (no_batch m (λ f. omega (arith, f)) (λ f. omega (arith, f))))
      (λ e. absurd (no_abort it.code e))
  told_knows (msg.OffsetsReply it) there to awaited =
      let m = msg.OffsetsReply it in
      let n : it.caller.client ≡ c.number = cc in
      learns_knows sent c k m (offsets_meaning it.code) (answered_client sent c k m)
      (λ e. done_knows sent c k m c.place (λ f. omega (arith, f))
      (λ y its is a. offsets_answered it.caller.client it.caller.correlation n
      (subst (λ z. Contains sent (the.OffsetsReply it.caller z)) (offsets_done it.code e) there)
      y its is a))
      (λ e. let (y, w, is) = any_holds (is_answer_to m) c.waiting awaited in
      let p = answers_kind m y is in
      (k.offsets_inside y w (kind_offsets y (omega (arith, p.0))), λ f. omega (arith, f)))
  told_knows (msg.FetchReply it) there to awaited =
      let m = msg.FetchReply it in
      learns_knows sent c k m (meaning it.code) (answered_client sent c k m)
      (λ e. done_knows sent c k m c.place (λ f. omega (arith, f))
      (no_batch m (λ f. omega (arith, f)) (λ f. omega (arith, f))))
      (λ e. absurd (no_abort it.code e))
  told_knows (msg.OffsetFetchReply it) there to awaited =
      let m = msg.OffsetFetchReply it in
      learns_knows sent c k m (offset_meaning it.code) (answered_client sent c k m)
      (λ e. done_knows sent c k m c.place (λ f. omega (arith, f))
      (no_batch m (λ f. omega (arith, f)) (λ f. omega (arith, f))))
      (λ e. absurd (offset_no_abort it.code e))
  told_knows other there to awaited = k

  pub reply_knows : (m : Message) → Contains sent m → Knows sent (take_reply c m)
  unfolding take_reply
  reply_knows m there =
      cond_both (is_awaited c m) (told c (answered_client sent c k m) m) c (Knows sent)
      (λ e. told_knows m there (awaited_here c m e).0 (awaited_here c m e).1) (λ e. k)
