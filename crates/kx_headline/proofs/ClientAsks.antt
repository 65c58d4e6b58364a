-- A client that hands out one new request keeps what stands of its requests.
use Rattle.std.proofs.Common.{◌≡◌, ◌⊎◌, ◌+◌, ◌<◌, ◌≤◌, ℕ, Bool, true, false, List, [], ◌∷◌, ◌++◌}
use Rattle.std.proofs.Common.{Some, None, Contains, All, refl, sym, ap, ◌∙◌, subst, arith}
use Rattle.std.proofs.Common.{inl, inr, ⊎_elim}
use Rattle.std.specs.List.{list_any}
use Rattle.std.proofs.lemmas.List.Elements.{All-contains, All-push, Contains-append_left}
use Rattle.std.proofs.lemmas.List.Elements.{Contains-push, Contains-push_cases}
use Rattle.kx_message.specs.Messages.{caller_with}
use Rattle.kx_message.specs.declared.code.ErrorCode.TheVariants.{NoError}
use Rattle.kx_message.specs.declared.message.Held.{Held}
use Rattle.kx_message.specs.declared.message.Message.{Message}
use Rattle.kx_message.specs.declared.message.Message.TheVariants as msg
use Rattle.kx_message.specs.Messages as the
use Rattle.kx_message.specs.declared.outcome.Outcome.{Outcome}
use Rattle.kx_message.specs.declared.outcome.Outcome.TheVariants.{Commit}
use Rattle.kx_model.specs.Client.{Client, is_end, is_init, sequence_of}
use Rattle.kx_model.specs.Replies.{correlation_of}
use Rattle.kx_headline.proofs.ClientRequests.{Answered, Carries, HasEnded, IsAwaited, IsIts, IsUpTo}
use Rattle.kx_headline.proofs.ClientRequests.{IsWithin, Knows, Load, is_batch, is_offsets}
use Rattle.kx_headline.proofs.ClientRequests.{same_id, sender}
use Rattle.kx_headline.proofs.ClientRequests.{with_batch, with_offsets}
use Rattle.kx_laws.proofs.Lists.{All-from_contains}
use Rattle.kx_laws.proofs.Membership.{any_holds, any_keeps, no_element}

------ more messages

pub answered_later : (sent later : List Message)
    → ((x : Message) → Contains sent x → Contains later x) → (m : Message) → Answered sent m
    → Answered later m
answered_later sent later up (msg.Produce it) a =
    (a.0, a.1, up (the.ProduceReply it.caller a.0 NoError a.1) a.2)
answered_later sent later up
    (msg.TxnOffsetCommit it) a
    =
    up (the.OffsetsReply it.caller NoError) a
answered_later sent later up other a = absurd a

module _ (sent later : List Message) (c : Client)
    (up : (x : Message) → Contains sent x → Contains later x)
    (back : (x : Message) → IsIts later c x → Contains sent x) where
  its_before : (x : Message) → IsIts later c x → IsIts sent c x
  its_before x its = (back x its, its.1)

  ended_before : HasEnded later c → HasEnded sent c
  ended_before h = record {
    correlation = h.correlation;
    txn = h.txn;
    held = h.held;
    outcome = h.outcome;
    there = back (the.EndTxn (caller_with c.number h.correlation) h.txn h.held h.outcome)
        (h.there, refl);
    present = h.present;
  }

  ended_after : HasEnded sent c → HasEnded later c
  ended_after h = record {
    correlation = h.correlation;
    txn = h.txn;
    held = h.held;
    outcome = h.outcome;
    there = up (the.EndTxn (caller_with c.number h.correlation) h.txn h.held h.outcome) h.there;
    present = h.present;
  }

  awaited_later : (x : Message) → IsAwaited sent c x → IsAwaited later c x
  awaited_later x a =
      record { its = (up x a.its.0, a.its.1); load = a.load; ends = a.ends }

  -- more messages, none of which is a new one of this client
  pub knows_later : Knows sent c → Knows later c
  knows_later k = record {
    numbered = λ m a. k.numbered m (its_before m a);
    distinct = λ m n a b. k.distinct m n (its_before m a) (its_before n b);
    within = λ m l a. k.within m l (its_before m a);
    ends_within = λ i txn held outcome there.
        k.ends_within i txn held outcome
        (back (the.EndTxn (caller_with c.number i) txn held outcome) (there, refl));
    behind = λ m l a. k.behind m l (its_before m a);
    once = λ m n l j a b. k.once m n l j (its_before m a) (its_before n b);
    waiting = All-from_contains (IsAwaited later c) c.waiting
        (λ x there. awaited_later x (All-contains (IsAwaited sent c) c.waiting x k.waiting there));
    beside = k.beside;
    asking = k.asking;
    asks_once = k.asks_once;
    offsets_inside = k.offsets_inside;
    aborting = k.aborting;
    answered = λ f a none m l its carries held.
        ⊎_elim inl (λ x. inr (answered_later sent later up m x))
        (k.answered f a (λ h. none (ended_after h)) m l (its_before m its) carries held);
    ended = λ f h. k.ended f (ended_before h);
    committed = λ i txn held there m l its carries same.
        answered_later sent later up m
        (k.committed i txn held
        (back (the.EndTxn (caller_with c.number i) txn held Commit) (there, refl)) m l
        (its_before m its) carries same);
  }

------ one new request

up_to_itself : (held : Held) → IsUpTo held held
up_to_itself held = same_id refl (omega arith)

-- an EndTxn of this client, by its test
pub data IsEndTxn (client : ℕ) : Message → Type 0 where
  it_ends : (k : ℕ) (txn : List ℕ) (held : Held) (outcome : Outcome)
      → IsEndTxn client (the.EndTxn (caller_with client k) txn held outcome)

pub end_is : (client : ℕ) (m : Message) → is_end m ≡ true → sender m ≡ Some client
    → IsEndTxn client m
end_is client (msg.EndTxn it) e s =
    let same : it.caller.client ≡ client = cc in
    subst (λ x. IsEndTxn client
    (the.EndTxn (caller_with x it.caller.correlation) it.txn it.held it.outcome)) (sym same)
    (it_ends it.caller.correlation it.txn it.held it.outcome)
end_is client m e s = absurd cc

pub is_a_batch : (m : Message) (l : Load) → Carries m l → is_batch m ≡ true
is_a_batch m l (with_batch caller txn partition transactional held first records a b) =
    refl
is_a_batch m l
    (with_offsets caller txn group member generation held first offsets a b)
    =
    refl

pub no_end : (m : Message) (l : Load) → Carries m l → is_end m ≡ true → ⊥
no_end m l (with_batch caller txn partition transactional held first records a b) e =
    cc
no_end m l (with_offsets caller txn group member generation held first offsets a b) e =
    cc

-- given all messages, of a client that hands out one more: what it is in between, and the request
module _ (sent : List Message) (c : Client) (k : Knows sent c) (b : Client) (m : Message) where
  abbrev pub after : Client
  after = record b { correlation = b.correlation + 1; waiting = b.waiting ++ m ∷ [] }

  abbrev pub later : List Message
  later = sent ++ m ∷ []

  pub record Asks : Type 0 where
    pub number : b.number ≡ c.number
    pub held : b.held ≡ c.held
    pub correlation : b.correlation ≡ c.correlation
    pub works : c.failed ≡ false
    pub aborting : b.must_abort ≡ c.must_abort
    pub inside : b.in_transaction ≡ c.in_transaction
    pub its_sender : sender m ≡ Some c.number
    pub its_number : correlation_of m ≡ c.correlation
    pub sequences : (q : ℕ) → sequence_of c.sequences q ≤ sequence_of b.sequences q
    pub waiting : (x : Message) → Contains b.waiting x → Contains c.waiting x
    -- what waited is forgotten where a transaction ends alone
    pub kept : (b.waiting ≡ c.waiting) ⊎ (is_end m ≡ true)
    pub load : (l : Load) → Carries m l → (c.held ≡ Some l.held)
        × (l.first ≡ sequence_of c.sequences l.partition)
        × (l.first < sequence_of b.sequences l.partition)
    pub batch : is_batch m ≡ true → (is_end m ≡ false) × (list_any is_end c.waiting ≡ false)
    pub offsets : is_offsets m ≡ true → c.in_transaction ≡ true
    pub ending : (i : ℕ) (txn : List ℕ) (held : Held) (outcome : Outcome)
        → m ≡ the.EndTxn (caller_with c.number i) txn held outcome
        → (c.held ≡ Some held) × (b.waiting ≡ []) × (outcome ≡ Commit → (x : Message) (l : Load)
        → IsIts sent c x → Carries x l → l.held ≡ held → Answered sent x)
    pub init : is_init m ≡ true → (c.held ≡ None) × (list_any is_init c.waiting ≡ false)

module _ (sent : List Message) (c : Client) (k : Knows sent c) (b : Client) (m : Message)
    (asks : Asks sent c k b m) where
  abbrev after' : Client
  after' = after sent c k b m

  abbrev later' : List Message
  later' = later sent c k b m

  up : (x : Message) → Contains sent x → Contains later' x
  up x there = Contains-append_left sent (m ∷ []) x there

  -- a request of this client is an old one, or the new one
  old_or_new : (x : Message) → IsIts later' after' x → IsIts sent c x ⊎ (m ≡ x)
  old_or_new x its =
      ⊎_elim (λ there. inl (there, its.1 ∙ ap Some asks.number)) inr
      (Contains-push_cases sent m x its.0)

  ends_before : (i : ℕ) (txn : List ℕ) (held : Held) (outcome : Outcome)
      → Contains later' (the.EndTxn (caller_with b.number i) txn held outcome)
      → Contains sent (the.EndTxn (caller_with c.number i) txn held outcome)
      ⊎ (m ≡ the.EndTxn (caller_with c.number i) txn held outcome)
  ends_before i txn held outcome there =
      let same = ap (λ n. the.EndTxn (caller_with n i) txn held outcome) asks.number in
      ⊎_elim (λ old. inl (subst (Contains sent) same old)) (λ e. inr (e ∙ same))
      (Contains-push_cases sent m (the.EndTxn (caller_with b.number i) txn held outcome) there)

  an_end : (x : Message) → Contains c.waiting x → is_end x ≡ true
      → list_any is_end c.waiting ≡ true
  an_end x there e = any_keeps is_end c.waiting x there e

  -- no EndTxn waits where a batch goes out
  no_end_waits : is_batch m ≡ true → list_any is_end c.waiting ≡ true → ⊥
  no_end_waits batch e = let none = (asks.batch batch).1 in absurd (cc)

  ended_old : (i : ℕ) (txn : List ℕ) (held : Held) (outcome : Outcome)
      → Contains sent (the.EndTxn (caller_with c.number i) txn held outcome) → c.held ≡ Some held
      → list_any is_end c.waiting ≡ true
  ended_old i txn held outcome there e =
      k.ended asks.works (record {
        correlation = i;
        txn = txn;
        held = held;
        outcome = outcome;
        there = there;
        present = e;
      })

  numbered : (x : Message) → IsIts later' after' x → correlation_of x < after'.correlation
  numbered x its =
      ⊎_elim
      (λ old. let below = k.numbered x old in omega (arith, below, asks.correlation))
      (λ new. let is = ap correlation_of new in
      omega (arith, is, asks.its_number, asks.correlation)) (old_or_new x its)

  not_now : (x y : Message) → IsIts sent c x → m ≡ y → correlation_of x ≡ correlation_of y → ⊥
  not_now x y old new e =
      let below = k.numbered x old in
      let is = ap correlation_of new in
      omega (arith, below, is, asks.its_number, e)

  distinct : (x y : Message) → IsIts later' after' x → IsIts later' after' y
      → correlation_of x ≡ correlation_of y → x ≡ y
  distinct x y a b e = by (old_or_new x a) (old_or_new y b)
    where
      by : IsIts sent c x ⊎ (m ≡ x) → IsIts sent c y ⊎ (m ≡ y) → x ≡ y
      by (inl p) (inl q) = k.distinct x y p q e
      by (inl p) (inr q) = absurd (not_now x y p q e)
      by (inr p) (inl q) = absurd (not_now y x q p (sym e))
      by (inr p) (inr q) = sym p ∙ q

  of_new : (x : Message) (l : Load) → m ≡ x → Carries x l → Carries m l
  of_new x l new carries = subst (λ y. Carries y l) (sym new) carries

  at_top : (held : Held) → c.held ≡ Some held → IsWithin held b.held
  at_top held e =
      subst (IsWithin held) (sym (asks.held ∙ e)) (up_to_itself held)

  within : (x : Message) (l : Load) → IsIts later' after' x → Carries x l
      → IsWithin l.held b.held
  within x l its carries =
      ⊎_elim (λ old. subst (IsWithin l.held) (sym asks.held) (k.within x l old carries))
      (λ new. at_top l.held (asks.load l (of_new x l new carries)).0) (old_or_new x its)

  ends_within : (i : ℕ) (txn : List ℕ) (held : Held) (outcome : Outcome)
      → Contains later' (the.EndTxn (caller_with b.number i) txn held outcome)
      → IsWithin held b.held
  ends_within i txn held outcome there =
      ⊎_elim
      (λ old. subst (IsWithin held) (sym asks.held) (k.ends_within i txn held outcome old))
      (λ new. at_top held (asks.ending i txn held outcome new).0)
      (ends_before i txn held outcome there)

  behind : (x : Message) (l : Load) → IsIts later' after' x → Carries x l
      → b.held ≡ Some l.held → l.first < sequence_of b.sequences l.partition
  behind x l its carries held =
      ⊎_elim
      (λ old. let low = k.behind x l old carries (sym asks.held ∙ held) in
      let more = asks.sequences l.partition in omega (arith, low, more))
      (λ new. (asks.load l (of_new x l new carries)).2) (old_or_new x its)

  -- a new batch begins behind all of its id and epoch before it
  not_again : (x y : Message) (l j : Load) → IsIts sent c x → m ≡ y → Carries x l → Carries y j
      → l.partition ≡ j.partition → l.held ≡ j.held → l.first ≡ j.first → ⊥
  not_again x y l j old new a b p h f =
      let now = asks.load j (of_new y j new b) in
      let low = k.behind x l old a (now.0 ∙ ap Some (sym h)) in
      let same = ap (sequence_of c.sequences) p in
      omega (arith, low, same, now.1, f)

  once : (x y : Message) (l j : Load) → IsIts later' after' x → IsIts later' after' y
      → Carries x l → Carries y j → l.partition ≡ j.partition → l.held ≡ j.held
      → l.first ≡ j.first → x ≡ y
  once x y l j a b s t p h f = by (old_or_new x a) (old_or_new y b)
    where
      by : IsIts sent c x ⊎ (m ≡ x) → IsIts sent c y ⊎ (m ≡ y) → x ≡ y
      by (inl u) (inl v) = k.once x y l j u v s t p h f
      by (inl u) (inr v) = absurd (not_again x y l j u v s t p h f)
      by (inr u) (inl v) = absurd (not_again y x j l v u t s (sym p) (sym h) (sym f))
      by (inr u) (inr v) = sym u ∙ v

  ------ what waits

  its_later : (x : Message) → IsIts sent c x → IsIts later' after' x
  its_later x its = (up x its.0, its.1 ∙ ap Some (sym asks.number))

  awaited_still : (x : Message) → IsAwaited sent c x → IsAwaited later' after' x
  awaited_still x a = record {
    its = its_later x a.its;
    load = λ l carries. asks.held ∙ a.load l carries;
    ends = λ i txn held outcome e.
        asks.held ∙ a.ends i txn held outcome
        (e ∙ ap (λ n. the.EndTxn (caller_with n i) txn held outcome) asks.number);
  }

  awaited_now : IsAwaited later' after' m
  awaited_now = record {
    its = (Contains-push sent m, asks.its_sender ∙ ap Some (sym asks.number));
    load = λ l carries. asks.held ∙ (asks.load l carries).0;
    ends = λ i txn held outcome e.
        asks.held ∙ (asks.ending i txn held outcome
        (e ∙ ap (λ n. the.EndTxn (caller_with n i) txn held outcome) asks.number)).0;
  }

  waiting : All (IsAwaited later' after') after'.waiting
  waiting =
      All-push (IsAwaited later' after') b.waiting m
      (All-from_contains (IsAwaited later' after') b.waiting (λ x there.
      awaited_still x (All-contains (IsAwaited sent c) c.waiting x k.waiting
      (asks.waiting x there)))) awaited_now

  waits_old_or_new : (x : Message) → Contains after'.waiting x → Contains b.waiting x ⊎ (m ≡ x)
  waits_old_or_new x there = Contains-push_cases b.waiting m x there

  -- nothing waits beside a new EndTxn
  alone : (x : Message) → is_end m ≡ true → Contains b.waiting x → ⊥
  alone x e there = by (end_is c.number m e asks.its_sender) refl
    where
      by : {n : Message} → IsEndTxn c.number n → m ≡ n → ⊥
      by (it_ends i txn held outcome) same =
          no_element x (subst (λ l. Contains l x) (asks.ending i txn held outcome same).1 there)

  -- no EndTxn waits where a new one goes out
  no_other_end : is_end m ≡ true → (x : Message) → Contains b.waiting x → ⊥
  no_other_end e x there = alone x e there

  not_true : (t : Bool) → (t ≡ true → ⊥) → t ≡ false
  not_true true h = absurd (h refl)
  not_true false h = refl

  beside : (x y : Message) → Contains after'.waiting x → is_end x ≡ true
      → Contains after'.waiting y → (is_end y ≡ true → x ≡ y) × (is_batch y ≡ false)
  beside x y a e d = by (waits_old_or_new x a) (waits_old_or_new y d)
    where
      by : Contains b.waiting x ⊎ (m ≡ x) → Contains b.waiting y ⊎ (m ≡ y)
          → (is_end y ≡ true → x ≡ y) × (is_batch y ≡ false)
      by (inl p) (inl q) = k.beside x y (asks.waiting x p) e (asks.waiting y q)
      by (inl p) (inr q) = (
        λ f. absurd (alone x (ap is_end q ∙ f) p),
        not_true (is_batch y)
            (λ f. no_end_waits (ap is_batch q ∙ f) (an_end x (asks.waiting x p) e)),
      )
      by (inr p) (inl q) = (
        λ f. absurd (alone y (ap is_end p ∙ e) q),
        absurd (alone y (ap is_end p ∙ e) q),
      )
      by (inr p) (inr q) = (
        λ f. sym p ∙ q,
        not_true (is_batch y) (λ f.
            let no = sym (asks.batch (ap is_batch q ∙ f)).0 ∙ ap is_end p ∙ e in cc),
      )

  asking : list_any is_init after'.waiting ≡ true → b.held ≡ None
  asking e =
      let (x, there, is) = any_holds is_init after'.waiting e in
      asks.held
      ∙ ⊎_elim (λ old. k.asking (any_keeps is_init c.waiting x (asks.waiting x old) is))
      (λ new. (asks.init (ap is_init new ∙ is)).0) (waits_old_or_new x there)

  -- no id is asked for if one is already
  no_init_waits : (x : Message) → is_init m ≡ true → Contains b.waiting x → is_init x ≡ true → ⊥
  no_init_waits x e there is =
      let no = sym (any_keeps is_init c.waiting x (asks.waiting x there) is) ∙ (asks.init e).1 in
      cc

  asks_once : (x y : Message) → Contains after'.waiting x → Contains after'.waiting y
      → is_init x ≡ true → is_init y ≡ true → x ≡ y
  asks_once x y a d e f = by (waits_old_or_new x a) (waits_old_or_new y d)
    where
      by : Contains b.waiting x ⊎ (m ≡ x) → Contains b.waiting y ⊎ (m ≡ y) → x ≡ y
      by (inl p) (inl q) = k.asks_once x y (asks.waiting x p) (asks.waiting y q) e f
      by (inl p) (inr q) = absurd (no_init_waits x (ap is_init q ∙ f) p e)
      by (inr p) (inl q) = absurd (no_init_waits y (ap is_init p ∙ e) q f)
      by (inr p) (inr q) = sym p ∙ q

  offsets_inside : (x : Message) → Contains after'.waiting x → is_offsets x ≡ true
      → b.in_transaction ≡ true
  offsets_inside x there e =
      asks.inside
      ∙ ⊎_elim (λ old. k.offsets_inside x (asks.waiting x old) e)
      (λ new. asks.offsets (ap is_offsets new ∙ e)) (waits_old_or_new x there)

  aborting : b.must_abort ≡ true → b.in_transaction ≡ true
  aborting e = asks.inside ∙ k.aborting (sym asks.aborting ∙ e)

  ended_now : is_end m ≡ true → HasEnded later' after'
  ended_now e = by (end_is c.number m e asks.its_sender) refl
    where
      by : {n : Message} → IsEndTxn c.number n → m ≡ n → HasEnded later' after'
      by (it_ends i txn held outcome) same = record {
        correlation = i;
        txn = txn;
        held = held;
        outcome = outcome;
        there = subst (Contains later')
            (same ∙ ap (λ n. the.EndTxn (caller_with n i) txn held outcome) (sym asks.number))
            (Contains-push sent m);
        present = asks.held ∙ (asks.ending i txn held outcome same).0;
      }

  ended_still : HasEnded sent c → HasEnded later' after'
  ended_still h = record {
    correlation = h.correlation;
    txn = h.txn;
    held = h.held;
    outcome = h.outcome;
    there = subst (λ n. Contains later'
        (the.EndTxn (caller_with n h.correlation) h.txn h.held h.outcome))
        (sym asks.number)
        (up (the.EndTxn (caller_with c.number h.correlation) h.txn h.held h.outcome) h.there);
    present = asks.held ∙ h.present;
  }

  -- what waited waits on, if no transaction ended
  waits_on : (x : Message) → (HasEnded later' after' → ⊥) → Contains c.waiting x
      → Contains after'.waiting x
  waits_on x none there =
      ⊎_elim
      (λ same. Contains-append_left b.waiting (m ∷ []) x
      (subst (λ l. Contains l x) (sym same) there))
      (λ e. absurd (none (ended_now e))) asks.kept

  answered : b.failed ≡ false → b.must_abort ≡ false → (HasEnded later' after' → ⊥)
      → (x : Message) (l : Load) → IsIts later' after' x → Carries x l → b.held ≡ Some l.held
      → Contains after'.waiting x ⊎ Answered later' x
  answered f a none x l its carries held =
      ⊎_elim
      (λ old. ⊎_elim (λ waits. inl (waits_on x none waits))
      (λ done. inr (answered_later sent later' up x done))
      (k.answered asks.works (sym asks.aborting ∙ a) (λ h. none (ended_still h)) x l old carries
      (sym asks.held ∙ held)))
      (λ new. inl (subst (Contains after'.waiting) new (Contains-push b.waiting m)))
      (old_or_new x its)

  ended : b.failed ≡ false → HasEnded later' after' → list_any is_end after'.waiting ≡ true
  ended f h =
      ⊎_elim
      (λ old. let waits = ended_old h.correlation h.txn h.held h.outcome old
      (sym asks.held ∙ h.present) in
      let (x, there, is) = any_holds is_end c.waiting waits in
      ⊎_elim
      (λ same. any_keeps is_end after'.waiting x
      (Contains-append_left b.waiting (m ∷ []) x (subst (λ l. Contains l x) (sym same) there)) is)
      (λ e. any_keeps is_end after'.waiting m (Contains-push b.waiting m) e) asks.kept)
      (λ new. any_keeps is_end after'.waiting m (Contains-push b.waiting m) (ap is_end new))
      (ends_before h.correlation h.txn h.held h.outcome h.there)

  committed : (i : ℕ) (txn : List ℕ) (held : Held)
      → Contains later' (the.EndTxn (caller_with b.number i) txn held Commit)
      → (x : Message) (l : Load)
      → IsIts later' after' x → Carries x l → l.held ≡ held → Answered later' x
  committed i txn held there x l its carries same =
      by (ends_before i txn held Commit there) (old_or_new x its)
    where
      by : Contains sent (the.EndTxn (caller_with c.number i) txn held Commit)
          ⊎ (m ≡ the.EndTxn (caller_with c.number i) txn held Commit)
          → IsIts sent c x ⊎ (m ≡ x) → Answered later' x
      by (inl p) (inl q) =
          answered_later sent later' up x (k.committed i txn held p x l q carries same)
      by (inl p) (inr q) =
          let now = asks.load l (of_new x l q carries) in
          absurd (no_end_waits (is_a_batch m l (of_new x l q carries))
          (ended_old i txn held Commit p (now.0 ∙ ap Some same)))
      by (inr p) (inl q) =
          answered_later sent later' up x
          ((asks.ending i txn held Commit p).2 refl x l q carries same)
      by (inr p) (inr q) = absurd (no_end m l (of_new x l q carries) (ap is_end p))

  pub asked : Knows later' after'
  asked = record {
    numbered = numbered;
    distinct = distinct;
    within = within;
    ends_within = ends_within;
    behind = behind;
    once = once;
    waiting = waiting;
    beside = beside;
    asking = asking;
    asks_once = asks_once;
    offsets_inside = offsets_inside;
    aborting = aborting;
    answered = answered;
    ended = ended;
    committed = committed;
  }
