-- A request that is to be parked: it waits already, five others do, or it is one more.
use Rattle.std.proofs.Common.{◌≡◌, ◌∙◌, ◌≤◌, ◌++◌, ◌∷◌, [], ℕ, List, Bool, true, false, cond}
use Rattle.std.proofs.Common.{Option, Some, Result, Ok, Err, refl, sym, ap, subst, length, not}
use Rattle.std.proofs.Common.{arith}
use Rattle.std.specs.Prelude.{count_by, ◌&&◌, ◌==◌, int_le, ℤ, pos, negsuc, ◌<ℤ◌, ◌≤ℤ◌}
use Rattle.std.proofs.Common.{true≢false}
use Rattle.std.proofs.lemmas.Int.{ints}
use Rattle.std.specs.List.{All, list_any}
use Rattle.std.proofs.lemmas.Bool.{and_parts, eqb-true, lt-leb}
use Rattle.std.proofs.lemmas.List.Sums.{count_by-le-length}
use Rattle.std.proofs.lemmas.Option.{same_Some}
use Rattle.kx_batch.proofs.Whole.{batch_takes}
use Rattle.kx_batch.specs.Batch.{Batch, SpellsBatch, Spelled, batch_at, batch_of, is_control}
use Rattle.kx_broker.proofs.Messages.{not_not, text_is_one}
use Rattle.kx_model.specs.Log.{Entry}
use Rattle.kx_model.specs.Produce.{judge_text}
use Rattle.kx_batch.specs.declared.fault.BatchFault.{BatchFault}
use Rattle.kx_broker.specs.Memory.{IsAdded, IsOneMore, VerdictMayLack, is_same, waits_as}
use Rattle.kx_model.specs.Produce.{Verdict, Next, Unverified}
use Rattle.kx_partition.specs.Answer.{unless_closed}
use Rattle.kx_laws.proofs.WholeTexts.{reads_whole}
use Rattle.kx_message.specs.declared.message.Held.{Held}
use Rattle.kx_message.specs.declared.message.Message.{Message}
use Rattle.kx_message.specs.declared.message.Message.TheVariants as msg
use Rattle.kx_message.specs.declared.requests.TxnOffsetCommit.{TxnOffsetCommit}
use Rattle.kx_model.specs.Groups.{offsets_batch}
use Rattle.kx_model.specs.Verification.{ToGroup}
use Rattle.kx_offsets.specs.Facts.{CommitFits}
use Rattle.kx_verify.proofs.Pairs.{commit_pair}
use Rattle.std.specs.Prelude.{IsErr, MatchResult}
use Rattle.kx_model.specs.Produce.{is_sequenced}
use Rattle.kx_model.specs.Verification.{Parked, Request, is_full, pair_of, parked_for, parked_limit}
use Rattle.kx_model.specs.Verification.{same_request, with_parked}
use Rattle.kx_varint.specs.Text.{IsBytes}
use Rattle.kx_verify.proofs.Asking.{again_after, again_answer, again_full, full_after}
use Rattle.kx_verify.proofs.Asking.{full_answer, full_is, waits_there}
use Rattle.kx_verify.specs.Guard.{SameParked, after, answer_to, waits}
use Rattle.kx_verify.specs.Request.{IsParked, is_one_sequenced}
use Rattle.kx_verify.specs.declared.guard.Asked.TheVariants as asked

-- a message is parked as one request
pub one_parked : (m : Message) (p q : Parked) → IsParked m p → IsParked m q → p ≡ q
one_parked m p q a b =
    let request : p.request ≡ q.request =
    same_Some p.request q.request (sym a.request ∙ b.request) in
    let held : p.held ≡ q.held =
    same_Some p.held q.held (sym a.held ∙ ap pair_of request ∙ b.held) in
    λ i. record { held = held i; request = request i }

-- where the request that a message is waits
pub waits_is : (m : Message) (p : Parked) (parked : List Parked) → IsParked m p
    → waits_as parked m ≡ waits parked p
waits_is m p parked is =
    ap (λ (o : Option Request). list_any (λ q. is_same q.request o) parked) is.request

same_all : (some others : List Parked) → some ≡ others → SameParked some others
same_all some others e = λ held. ap (λ (l : List Parked). parked_for l held) e

module _ (parked : List Parked) (p : Parked)
    (few : length (parked_for parked p.held) ≤ parked_limit) where
  pub waits_already : pair_of p.request ≡ Some p.held
      → All (λ q. pair_of q.request ≡ Some q.held) parked
      → waits (parked_for parked p.held) p ≡ true
      → (asked.Parked ≡ answer_to parked p) × SameParked parked (after parked p)
  waits_already own all there =
      let room = again_full p parked there few in (
        again_answer p parked room,
        same_all parked (after parked p)
            (again_after p parked room (sym (waits_there p parked own all) ∙ there)),
      )

  pub five_wait : waits (parked_for parked p.held) p ≡ false
      → length (parked_for parked p.held) ≡ parked_limit
      → (asked.Full ≡ answer_to parked p) × SameParked parked (after parked p)
  five_wait none five =
      let full = full_is p parked none five in
      (full_answer p parked full, same_all parked (after parked p) (full_after p parked full))

  pub is_added : pair_of p.request ≡ Some p.held
      → All (λ q. pair_of q.request ≡ Some q.held) parked
      → waits (parked_for parked p.held) p ≡ false
      → (length (parked_for parked p.held) ≡ parked_limit → ⊥) → IsAdded parked p
  is_added own all none other =
      let room : is_full parked p.held p.request ≡ false =
      lt-leb parked_limit
      (count_by (λ q. not (same_request q.request p.request)) (parked_for parked p.held))
      (omega (
        arith,
        other,
        few,
        count_by-le-length (λ q. not (same_request q.request p.request))
            (parked_for parked p.held),
      )) in
      let nowhere : waits parked p ≡ false = sym (waits_there p parked own all) ∙ none in
      ap (λ b. cond b parked (with_parked parked p.held p.request)) room
      ∙ ap (λ b. cond b parked (parked ++ p ∷ [])) nowhere

------ a batch of a producer that has an id

no_bytes : (bytes : List ℕ) → length bytes ≡ 0 → bytes ≡ []
no_bytes [] e = refl
no_bytes (byte ∷ bytes) e = absurd (omega (arith, e))

not_false : (b : Bool) → (b ≡ false → ⊥) → b ≡ true
not_false true other = refl
not_false false other = absurd (other refl)

-- what isn't verified is such a batch
pub one_sequenced : (log : List Entry) (text : List ℕ) → judge_text log false text ≡ Unverified
    → is_one_sequenced (batch_at text) ≡ true
one_sequenced log text asks =
    not_false (is_one_sequenced (batch_at text)) (λ e. text_is_one log text asks e)

-- such a text is a batch, and reads as one
pub one_batch : (text : List ℕ) → IsBytes text → is_one_sequenced (batch_at text) ≡ true
    → SpellsBatch (batch_of text) text × (is_sequenced (batch_of text) ≡ true)
one_batch text bytes = by (batch_at text) refl
  where
    by : (r : Result (Spelled × List ℕ) BatchFault) → batch_at text ≡ r
        → is_one_sequenced r ≡ true
        → SpellsBatch (batch_of text) text × (is_sequenced (batch_of text) ≡ true)
    by (Err fault) read e = absurd cc
    by (Ok found) read e =
        let p = and_parts (length found.1 == 0) (is_sequenced found.0.batch) e in
        let none : found.1 ≡ [] = no_bytes found.1 (eqb-true (length found.1) 0 p.0) in
        let whole = (reads_whole text found read none).is in (
          subst (λ (s : Spelled). SpellsBatch s.batch s.text) whole
              (batch_takes text found bytes read).0,
          sym (ap (λ (s : Spelled). is_sequenced s.batch) whole) ∙ p.1,
        )

below_0 : (z : ℤ) → z <ℤ pos 0 → int_le (pos 0) z ≡ false
below_0 (pos n) h = absurd (omega (arith, ints, h))
below_0 (negsuc n) h = refl

above_0 : (z : ℤ) → int_le (pos 0) z ≡ true → pos 0 ≤ℤ z
above_0 (pos n) h = omega (arith, ints)
above_0 (negsuc n) h = absurd (cc)

-- the fields of a batch of a producer with an id, an epoch and a sequence
pub record HasHeld (b : Batch) : Type 0 where
  pub id : b.producer_id <ℤ pos 0 → ⊥
  pub epoch : b.producer_epoch <ℤ pos 0 → ⊥
  pub first : pos 0 ≤ℤ b.base_sequence
  pub control : is_control b ≡ false

pub has_held : (b : Batch) → is_sequenced b ≡ true → HasHeld b
has_held b e =
    let id = int_le (pos 0) b.producer_id in
    let epoch = int_le (pos 0) b.producer_epoch in
    let first = int_le (pos 0) b.base_sequence in
    let all = and_parts ((id && epoch) && first) (not (is_control b)) e in
    let three = and_parts (id && epoch) first all.0 in
    let two = and_parts id epoch three.0 in
    record {
      id = λ h. absurd (true≢false (sym two.0 ∙ below_0 b.producer_id h));
      epoch = λ h. absurd (true≢false (sym two.1 ∙ below_0 b.producer_epoch h));
      first = above_0 b.base_sequence three.1;
      control = not_not (is_control b) false all.1;
    }

-- the id and epoch of a commit of offsets are those that it was sent with
abbrev request_for : TxnOffsetCommit → Request
request_for it = record {
  caller = it.caller;
  txn = Some it.txn;
  target = ToGroup it.group it.member it.generation;
  text = offsets_batch it.group it.held it.first_sequence it.offsets;
}

pub commit_held : (it : TxnOffsetCommit) (p : Parked)
    → CommitFits it.group it.held it.first_sequence it.offsets → pos 0 ≤ℤ it.first_sequence
    → IsParked (msg.TxnOffsetCommit it) p → p.held ≡ it.held
commit_held it p fits above is =
    let request = same_Some (request_for it) p.request is.request in
    same_Some p.held it.held
    (sym is.held ∙ ap pair_of (sym request)
    ∙ commit_pair it.group it.held it.first_sequence it.offsets above fits)

------ a message that is to be parked, by what is parked of its id and epoch

pub match_err : {A E P : Type 0} (r : Result A E) (Q : A → Type 0) → IsErr r → P
    → MatchResult r Q (λ refused. P)
match_err (Ok x) Q e p = absurd (true≢false (sym e))
match_err (Err refused) Q e p = p

module _ (m : Message) (p : Parked) (parked requests : List Parked) (held : Held)
    (is : IsParked m p) (own : p.held ≡ held) (given : requests ≡ parked_for parked held)
    (few : length (parked_for parked held) ≤ parked_limit)
    (all : All (λ q. pair_of q.request ≡ Some q.held) parked) where
  few_own : length (parked_for parked p.held) ≤ parked_limit
  few_own = subst (λ (h : Held). length (parked_for parked h) ≤ parked_limit) (sym own) few

  here : requests ≡ parked_for parked p.held
  here = given ∙ ap (λ (h : Held). parked_for parked h) (sym own)

  waiting : waits_as requests m ≡ waits (parked_for parked p.held) p
  waiting = waits_is m p requests is ∙ ap (λ (l : List Parked). waits l p) here

  pub now_waits : waits_as requests m ≡ true
      → (asked.Parked ≡ answer_to parked p) × SameParked parked (after parked p)
  now_waits e = waits_already parked p few_own is.held all (sym waiting ∙ e)

  pub now_full : waits_as requests m ≡ false → length requests ≡ parked_limit
      → (asked.Full ≡ answer_to parked p) × SameParked parked (after parked p)
  now_full e five = five_wait parked p few_own (sym waiting ∙ e) (ap length (sym here) ∙ five)

  pub now_added : waits_as requests m ≡ false → (length requests ≡ parked_limit → ⊥)
      → IsAdded parked p
  now_added e other =
      is_added parked p few_own is.held all (sym waiting ∙ e) (λ five. other (ap length here ∙ five))

------ where memory may be lacking

-- what is to be appended
pub may_append : (parked : List Parked) (r : Request) (v : Verdict) → v ≡ Next
    → VerdictMayLack parked r v
may_append parked r v e = subst (λ (w : Verdict). VerdictMayLack parked r w) (sym e) tt

-- what is to be parked as one more
pub may_park : (parked : List Parked) (closed : Bool) (v : Verdict) (p : Parked) (txn : List ℕ)
    → v ≡ Unverified → p.request.txn ≡ Some txn → pair_of p.request ≡ Some p.held
    → IsAdded parked p → VerdictMayLack parked p.request (unless_closed closed v)
may_park parked closed v p txn asks has held added =
    subst (λ (w : Verdict). VerdictMayLack parked p.request (unless_closed closed w)) (sym asks)
    (subst (λ (t : Option (List ℕ)). IsOneMore parked p.request t (pair_of p.request)) (sym has)
    (subst (λ (h : Option Held). IsOneMore parked p.request (Some txn) h) (sym held) added))
