-- What becomes of a request that is to be parked.
use Rattle.std.proofs.Common.{◌≡◌, ◌∙◌, ◌≤◌, ◌<◌, ◌+◌, ◌++◌, ℕ, List, [], ◌∷◌, Bool, true, false}
use Rattle.std.proofs.Common.{Some, refl, sym, ap, cond, length, not, arith, true≢false}
use Rattle.std.specs.Prelude.{◌&&◌, ◌||◌, ◌==◌, bytes_eq, count_by}
use Rattle.std.specs.Option.{option_eq}
use Rattle.std.specs.List.{All}
use Rattle.std.proofs.lemmas.Bool.{and_from, and_parts, eq-eqb, le-leb, lt-leb, or_parts}
use Rattle.std.proofs.lemmas.List.Sums.{count_by-le-length, sum_by-cons}
use Rattle.std.proofs.lemmas.List.Elements.{All-head, All-tail}
use Rattle.std.proofs.lemmas.Slice.Eq.{bytes_eq-Decides}
use Rattle.kx_batch.specs.Batch.{batch_of}
use Rattle.kx_message.specs.declared.message.Held.{Held}
use Rattle.kx_model.specs.Log.{entry_in}
use Rattle.kx_model.specs.Verification.{Parked, Request, is_for, is_full, pair_in, pair_of}
use Rattle.kx_model.specs.Verification.{parked_for, parked_limit, same_caller, same_request}
use Rattle.kx_model.specs.Verification.{same_target, with_parked}
use Rattle.kx_verify.specs.Guard.{after, answer_to, waits}
use Rattle.kx_verify.specs.declared.guard.Asked.TheVariants as asked

------ equal requests

-- are of one id and epoch
same_pair : (r s : Request) → same_request r s ≡ true → pair_of r ≡ pair_of s
same_pair r s e =
    let p = and_parts (same_caller r.caller s.caller && option_eq bytes_eq r.txn s.txn
    && same_target r.target s.target) (bytes_eq r.text s.text) e in
    ap (λ (text : List ℕ). pair_in (entry_in (batch_of text)))
    ((bytes_eq-Decides r.text s.text).0 p.1)

some_held : (a b : Held) → Some a ≡ Some b → a ≡ b
some_held a b e = cc

for_itself : (held : Held) (p : Parked) → p.held ≡ held → is_for held p ≡ true
for_itself held p e =
    and_from (p.held.id == held.id) (p.held.epoch == held.epoch)
    (eq-eqb p.held.id held.id (ap (λ (h : Held). h.id) e))
    (eq-eqb p.held.epoch held.epoch (ap (λ (h : Held). h.epoch) e))

-- so one that is equal waits among those of the request's own
pub waits_there : (p : Parked) (parked : List Parked) → pair_of p.request ≡ Some p.held
    → All (λ q. pair_of q.request ≡ Some q.held) parked
    → waits (parked_for parked p.held) p ≡ waits parked p
waits_there p [] own all = refl
waits_there p (q ∷ parked) own all =
    by (is_for p.held q) (same_request q.request p.request) refl refl
    (waits_there p parked own (All-tail (λ r. pair_of r.request ≡ Some r.held) q parked all))
  where
    here : pair_of q.request ≡ Some q.held
    here = All-head (λ r. pair_of r.request ≡ Some r.held) q parked all

    by : (a b : Bool) → is_for p.held q ≡ a → same_request q.request p.request ≡ b
        → waits (parked_for parked p.held) p ≡ waits parked p
        → waits (cond a (q ∷ parked_for parked p.held) (parked_for parked p.held)) p
        ≡ (b || waits parked p)
    by true b e f rest = ap (λ x. x || waits (parked_for parked p.held) p) f ∙ ap (λ x. b || x) rest
    by false false e f rest = rest
    by false true e f rest =
        let same = some_held q.held p.held
        (sym here ∙ same_pair q.request p.request f ∙ own) in
        absurd (true≢false (sym (for_itself p.held q same) ∙ e))

------ how many others wait

abbrev is_other : Parked → Parked → Bool
is_other p q = not (same_request q.request p.request)

all_others : (p : Parked) (qs : List Parked) → waits qs p ≡ false
    → count_by (is_other p) qs ≡ length qs
all_others p [] none = refl
all_others p (q ∷ qs) none =
    let parts = or_parts (same_request q.request p.request) (waits qs p) none in
    omega (
      arith,
      sum_by-cons (λ (r : Parked). cond (is_other p r) 1 0) q qs,
      ap {B = ℕ} (λ b. cond (not b) 1 0) parts.0,
      all_others p qs parts.1,
    )

not_all_others : (p : Parked) (qs : List Parked) → waits qs p ≡ true
    → count_by (is_other p) qs < length qs
not_all_others p [] some = absurd (true≢false (sym some))
not_all_others p (q ∷ qs) some =
    by (same_request q.request p.request) refl (not_all_others p qs)
  where
    sum : count_by (is_other p) (q ∷ qs) ≡ cond (is_other p q) 1 0 + count_by (is_other p) qs
    sum = sum_by-cons (λ (r : Parked). cond (is_other p r) 1 0) q qs

    by : (b : Bool) → same_request q.request p.request ≡ b
        → (waits qs p ≡ true → count_by (is_other p) qs < length qs)
        → count_by (is_other p) (q ∷ qs) < length (q ∷ qs)
    by true e more =
        omega (arith, sum, ap {B = ℕ} (λ b. cond (not b) 1 0) e, count_by-le-length (is_other p) qs)
    by false e more =
        let rest = more (sym (ap (λ b. b || waits qs p) e) ∙ some) in
        omega (arith, sum, ap {B = ℕ} (λ b. cond (not b) 1 0) e, rest)

------ what is answered, and what is parked then

-- one that waits already
pub again_full : (p : Parked) (old : List Parked) → waits (parked_for old p.held) p ≡ true
    → length (parked_for old p.held) ≤ parked_limit → is_full old p.held p.request ≡ false
again_full p old there few =
    lt-leb parked_limit (count_by (is_other p) (parked_for old p.held))
    (omega (arith, few, not_all_others p (parked_for old p.held) there))

pub again_answer : (p : Parked) (old : List Parked) → is_full old p.held p.request ≡ false
    → asked.Parked ≡ answer_to old p
again_answer p old room = ap (λ b. cond b asked.Full asked.Parked) (sym room)

pub again_after : (p : Parked) (old : List Parked) → is_full old p.held p.request ≡ false
    → waits old p ≡ true → old ≡ after old p
again_after p old room there =
    sym (ap (λ b. cond b old (with_parked old p.held p.request)) room
    ∙ ap (λ b. cond b old (old ++ p ∷ [])) there)

-- five others wait
pub full_is : (p : Parked) (old : List Parked) → waits (parked_for old p.held) p ≡ false
    → length (parked_for old p.held) ≡ parked_limit → is_full old p.held p.request ≡ true
full_is p old none five =
    le-leb parked_limit (count_by (is_other p) (parked_for old p.held))
    (omega (arith, five, all_others p (parked_for old p.held) none))

pub full_answer : (p : Parked) (old : List Parked) → is_full old p.held p.request ≡ true
    → asked.Full ≡ answer_to old p
full_answer p old full = ap (λ b. cond b asked.Full asked.Parked) (sym full)

pub full_after : (p : Parked) (old : List Parked) → is_full old p.held p.request ≡ true
    → old ≡ after old p
full_after p old full =
    sym (ap (λ b. cond b old (with_parked old p.held p.request)) full)
