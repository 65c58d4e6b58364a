-- What a batch that goes to the core says of its grant.
use Rattle.std.proofs.Common.{◌≡◌, ◌+◌, ◌<◌, ℕ, ℤ, pos, negsuc, Bool, true, false, cond, refl, Some}
use Rattle.std.proofs.Common.{None, eqb, ltb, ap, ◌∙◌, ◌≤◌, arith}
use Rattle.std.specs.Prelude.{Option, not, ◌||◌, unwrap_or}
use Rattle.std.proofs.lemmas.Bool.{ltb-true, eqb-true}
use Rattle.kx_message.specs.declared.message.Held.{Held}
use Rattle.kx_message.specs.declared.code.ErrorCode.{ErrorCode}
use Rattle.kx_message.specs.declared.code.ErrorCode.TheVariants as code
use Rattle.kx_grant.specs.Sequences.{IsSequence, sequence_in, sequences, since}
use Rattle.kx_grant.specs.Grant.{after_batch, after_verdict, batch_verdict, with_sent, in_listed}
use Rattle.kx_grant.specs.Grant.{in_turn}
use Rattle.kx_grant.specs.Grant.{is_held, listed_at, next_at, phase_code, unless}
use Rattle.kx_grant.specs.declared.grant.Grant.{Grant}
use Rattle.kx_grant.specs.declared.grant.Listed.{Listed}
use Rattle.kx_grant.specs.declared.verdicts.BatchVerdict.{BatchVerdict}
use Rattle.kx_grant.specs.declared.verdicts.BatchVerdict.TheVariants.{Send, Refused}

turn_sent : (a b c : Bool) (x y : ErrorCode) (core one : Held) (at place : ℤ)
    → cond a (Send core at) (cond b (Refused x) (cond c (Refused y) (Send core at)))
    ≡ Send one place
    → (one ≡ core) × (place ≡ at)
turn_sent true b c x y core one at place e = (cc, cc)
turn_sent false true c x y core one at place e = absurd cc
turn_sent false false true x y core one at place e = absurd cc
turn_sent false false false x y core one at place e = (cc, cc)

pub record Found (core : Held) (l : Option Listed) (first : ℕ) (one : Held) (at : ℤ) : Type 0 where
  pub listed : Listed
  pub listed_is : l ≡ Some listed
  pub core_is : one ≡ core
  pub place_is : at ≡ pos (since (unwrap_or listed.base first) first)

found : (core : Held) (next : Option ℕ) (l : Option Listed) (first count : ℕ) (one : Held) (at : ℤ)
    → in_listed core next l first count ≡ Send one at → Found core l first one at
found core next None first count one at e = absurd cc
found core next (Some k) first count one at e =
    let here = since (unwrap_or k.base first) first in
    let sent = since (unwrap_or k.base first) (unwrap_or next first) in
    let t = turn_sent (ltb here sent) (not (eqb here sent) || not (ltb (here + count) sequences))
    k.is_stopped code.OutOfOrderSequenceNumber code.InvalidTxnState core one (pos here) at e in
    record { listed = k; listed_is = refl; core_is = t.0; place_is = t.1 }

unless_sent : (c : Option ErrorCode) (v : BatchVerdict) (one : Held) (at : ℤ)
    → unless c v ≡ Send one at → v ≡ Send one at
unless_sent None v one at e = e
unless_sent (Some x) v one at e = absurd cc

cond_sent : (b : Bool) (v : BatchVerdict) (x : ErrorCode) (one : Held) (at : ℤ)
    → cond b v (Refused x) ≡ Send one at → (b ≡ true) × (v ≡ Send one at)
cond_sent true v x one at e = (refl, e)
cond_sent false v x one at e = absurd cc

pub record IsSent (g : Grant) (held : Held) (p first : ℕ) (one : Held) (at : ℤ) : Type 0 where
  pub is_ours : is_held g.granted held ≡ true
  pub found : Found g.core (listed_at g p) first one at

pub sent : (g : Grant) (held : Held) (p first count : ℕ) (one : Held) (at : ℤ)
    → batch_verdict g held p (pos first) count ≡ Send one at → IsSent g held p first one at
sent g held p first count one at e =
    let inner = in_listed g.core (next_at g p) (listed_at g p) first count in
    let ours = cond_sent (is_held g.granted held) (unless (phase_code g.phase) inner)
    code.InvalidProducerEpoch one at e in
    record {
      is_ours = ours.0;
      found = found g.core (next_at g p) (listed_at g p) first count one at
          (unless_sent (phase_code g.phase) inner one at ours.1);
    }

pub record IsSentAt (g : Grant) (held : Held) (p : ℕ) (first : ℤ) (one : Held) (at : ℤ)
    : Type 0 where
  pub sequence : ℕ
  pub first_is : first ≡ pos sequence
  pub sent : IsSent g held p sequence one at

pub sent_at : (g : Grant) (held : Held) (p : ℕ) (first : ℤ) (count : ℕ) (one : Held) (at : ℤ)
    → batch_verdict g held p first count ≡ Send one at → IsSentAt g held p first one at
sent_at g held p (pos n) count one at e =
    record { sequence = n; first_is = refl; sent = sent g held p n count one at e }
sent_at g held p (negsuc n) count one at e =
    let out = Refused code.OutOfOrderSequenceNumber in
    let ours = cond_sent (is_held g.granted held) (unless (phase_code g.phase) out)
    code.InvalidProducerEpoch one at e in
    let never : out ≡ Send one at = unless_sent (phase_code g.phase) out one at ours.1 in
    absurd cc

noted : (v : BatchVerdict) (g after : Grant) (one : Held) (at : ℤ) → v ≡ Send one at
    → after_verdict v g after ≡ after
noted (Send h n) g after one at e = refl
noted (Refused x) g after one at e = absurd cc

-- what it leaves
pub with_sent_is : (g : Grant) (held : Held) (p : ℕ) (first : ℤ) (count : ℕ) (one : Held) (at : ℤ)
    → batch_verdict g held p first count ≡ Send one at
    → after_batch g held p first count ≡ with_sent g p (sequence_in first)
with_sent_is g held p first count one at e =
    noted (batch_verdict g held p first count) g (with_sent g p (sequence_in first)) one at e

-- the places of two sequences after a begin are the same only if they are
pub since_apart : (base m n : ℕ) → base < sequences → m < sequences → n < sequences
    → since base m ≡ since base n → m ≡ n
since_apart base m n hb hm hn e = omega (arith, hb, hm, hn, e)

pub known_within : (x : Option ℕ) (n : ℕ) → ((base : ℕ) → x ≡ Some base → IsSequence base)
    → IsSequence n → IsSequence (unwrap_or x n)
known_within None n h k = k
known_within (Some base) n h k = h base refl

------ late batches

refused_turn : (a b c : Bool) (v w : BatchVerdict) (x : ErrorCode) → a ≡ false → b ≡ false
    → cond a v (cond (not b || c) (Refused x) w) ≡ Refused x
refused_turn false false c v w x e f = refl
refused_turn true b c v w x e f = absurd cc
refused_turn false true c v w x e f = absurd cc

not_less : (m n : ℕ) (b : Bool) → ltb m n ≡ b → n ≤ m → b ≡ false
not_less m n true e le = absurd (let lt : m < n = ltb-true m n e in omega (arith, lt, le))
not_less m n false e le = refl

not_same : (m n : ℕ) (b : Bool) → eqb m n ≡ b → n < m → b ≡ false
not_same m n true e lt = absurd (let is : m ≡ n = eqb-true m n e in omega (arith, is, lt))
not_same m n false e lt = refl

past_turn : (core : Held) (here sent count : ℕ) (is_stopped : Bool) → sent < here
    → in_turn core here sent count is_stopped ≡ Refused code.OutOfOrderSequenceNumber
past_turn core here sent count is_stopped lt =
    refused_turn (ltb here sent) (eqb here sent) (not (ltb (here + count) sequences))
    (Send core (pos here)) (cond is_stopped (Refused code.InvalidTxnState) (Send core (pos here)))
    code.OutOfOrderSequenceNumber (not_less here sent (ltb here sent) refl (omega (arith, lt)))
    (not_same here sent (eqb here sent) refl lt)

-- seen from the begin, a batch from before it is far on
round : (base first sent : ℕ) → base < sequences → first < sequences → 0 < since first base
    → since first base + sent < sequences → sent < since base first
round base first sent hb hf some room = omega (arith, hb, hf, some, room)

out_of_turn : (core : Held) (next : Option ℕ) (l : Option Listed) (first count : ℕ) (k : Listed)
    (base sent : ℕ) → l ≡ Some k → k.base ≡ Some base → next ≡ Some sent
    → since base sent < since base first
    → in_listed core next l first count ≡ Refused code.OutOfOrderSequenceNumber
out_of_turn core next l first count k base sent e f g lt =
    let listed : in_listed core next l first count ≡ in_listed core (Some sent) (Some k) first count =
    ap (λ (x : Option Listed). in_listed core next x first count) e
    ∙ ap (λ (x : Option ℕ). in_listed core x (Some k) first count) g in
    let based : in_turn core (since (unwrap_or k.base first) first)
    (since (unwrap_or k.base first) sent) count k.is_stopped
    ≡ in_turn core (since base first) (since base sent) count k.is_stopped =
    ap (λ (x : Option ℕ). in_turn core (since (unwrap_or x first) first)
    (since (unwrap_or x first) sent) count k.is_stopped) f in
    listed ∙ (based ∙ past_turn core (since base first) (since base sent) count k.is_stopped lt)

never_sent : (v : BatchVerdict) (x : ErrorCode) (one : Held) (at : ℤ) → v ≡ Refused x
    → v ≡ Send one at → ⊥
never_sent v x one at e f = absurd cc

pub late : (g : Grant) (held : Held) (p first count : ℕ) (listed : Listed) (base sent : ℕ)
    (one : Held) (at : ℤ) → IsSequence base → IsSequence first
    → listed_at g p ≡ Some listed → listed.base ≡ Some base → next_at g p ≡ Some sent
    → 0 < since first base → since first base + since base sent < sequences
    → batch_verdict g held p (pos first) count ≡ Send one at → ⊥
late g held p first count listed base sent one at hb hf e f n some room goes =
    let inner = in_listed g.core (next_at g p) (listed_at g p) first count in
    let ours = cond_sent (is_held g.granted held) (unless (phase_code g.phase) inner)
    code.InvalidProducerEpoch one at goes in
    let far : since base sent < since base first =
    round base first (since base sent) hb hf some room in
    never_sent inner code.OutOfOrderSequenceNumber one at
    (out_of_turn g.core (next_at g p) (listed_at g p) first count listed base sent e f n far)
    (unless_sent (phase_code g.phase) inner one at ours.1)
