-- The requests that a server has parked, as those of the definitions: the same of each id and
-- epoch.
use Rattle.std.proofs.Common.{◌≡◌, ◌≤◌, ◌++◌, ℕ, Bool, true, false, cond, List, [], ◌∷◌, Contains}
use Rattle.std.proofs.Common.{filter, refl, sym, ap, ◌∙◌, subst, arith, not}
use Rattle.std.specs.Prelude.{◌==◌, count_by, nat_le}
use Rattle.std.specs.List.{All, list_any}
use Rattle.std.proofs.lemmas.Bool.{and_from, and_parts, eq-eqb, eqb-true}
use Rattle.std.proofs.lemmas.List.Elements.{All-contains, All-filter, All-push, All-weaker}
use Rattle.std.proofs.lemmas.List.Elements.{filter-append}
use Rattle.kx_broker.specs.Serving.{AllWait, Waits}
use Rattle.kx_laws.proofs.Lists.{All-from_contains}
use Rattle.kx_laws.proofs.Membership.{any_holds, any_keeps, filter_holds, filter_keeps}
use Rattle.kx_message.specs.declared.message.Held.{Held}
use Rattle.kx_model.specs.Log.{Entry}
use Rattle.kx_model.specs.Producers.{expected}
use Rattle.kx_model.specs.Verification.{Parked, Request, is_for, is_full, parked_for, parked_limit}
use Rattle.kx_model.specs.Verification.{same_request, with_parked, without}
use Rattle.kx_verify.specs.Guard.{SameParked, after, waits}

------ of one id and epoch

for_itself : (p : Parked) → is_for p.held p ≡ true
for_itself p =
    and_from (p.held.id == p.held.id) (p.held.epoch == p.held.epoch)
    (eq-eqb p.held.id p.held.id refl) (eq-eqb p.held.epoch p.held.epoch refl)

pub is_for_held : (held : Held) (p : Parked) → is_for held p ≡ true → p.held ≡ held
is_for_held held p e =
    let parts = and_parts (p.held.id == held.id) (p.held.epoch == held.epoch) e in
    let id = eqb-true p.held.id held.id parts.0 in
    let epoch = eqb-true p.held.epoch held.epoch parts.1 in
    λ i. record { id = id i; epoch = epoch i }

pub same_there : (a b : List Parked) → SameParked a b → (q : Parked) → Contains a q → Contains b q
same_there a b same q c =
    let there = filter_keeps (is_for q.held) a q c (for_itself q) in
    (filter_holds (is_for q.held) b q
    (subst (λ (l : List Parked). Contains l q) (same q.held) there)).0

pub same_back : (a b : List Parked) → SameParked a b → SameParked b a
same_back a b same held = sym (same held)

pub same_then : (a b c : List Parked) → SameParked a b → SameParked b c → SameParked a c
same_then a b c one other held = one held ∙ other held

------ one that waits already

same_tests : (x y : Bool) → (x ≡ true → y ≡ true) → (y ≡ true → x ≡ true) → x ≡ y
same_tests true true f g = refl
same_tests true false f g = sym (f refl)
same_tests false true f g = g refl
same_tests false false f g = refl

any_there : (test : Parked → Bool) (a b : List Parked) → SameParked a b
    → list_any test a ≡ true → list_any test b ≡ true
any_there test a b same e =
    let h = any_holds test a e in any_keeps test b h.0 (same_there a b same h.0 h.1) h.2

pub same_waits : (p : Parked) (a b : List Parked) → SameParked a b → waits a p ≡ waits b p
same_waits p a b same =
    let test = λ (q : Parked). same_request q.request p.request in
    same_tests (list_any test a) (list_any test b) (any_there test a b same)
    (any_there test b a (same_back a b same))

pub same_full : (p : Parked) (a b : List Parked) → SameParked a b
    → is_full a p.held p.request ≡ is_full b p.held p.request
same_full p a b same =
    ap (λ (l : List Parked). nat_le parked_limit
    (count_by (λ q. not (same_request q.request p.request)) l)) (same p.held)

------ with one more

same_pushed : (p : Parked) (a b : List Parked) → SameParked a b
    → SameParked (a ++ p ∷ []) (b ++ p ∷ [])
same_pushed p a b same held =
    filter-append (is_for held) a (p ∷ [])
    ∙ ap (λ (l : List Parked). l ++ filter (is_for held) (p ∷ [])) (same held)
    ∙ sym (filter-append (is_for held) b (p ∷ []))

same_cond : (x y : Bool) (a b c d : List Parked) → x ≡ y → SameParked a c → SameParked b d
    → SameParked (cond x a b) (cond y c d)
same_cond true true a b c d e f g = f
same_cond true false a b c d e f g = absurd cc
same_cond false true a b c d e f g = absurd cc
same_cond false false a b c d e f g = g

pub same_after : (p : Parked) (a b : List Parked) → SameParked a b
    → SameParked (after a p) (after b p)
same_after p a b same =
    same_cond (is_full a p.held p.request) (is_full b p.held p.request) a
    (with_parked a p.held p.request) b (with_parked b p.held p.request) (same_full p a b same) same
    (same_cond (waits a p) (waits b p) a (a ++ p ∷ []) b (b ++ p ∷ []) (same_waits p a b same) same
    (same_pushed p a b same))

------ without those of an id and epoch

filters_swap : (f g : Parked → Bool) (l : List Parked)
    → filter f (filter g l) ≡ filter g (filter f l)
filters_swap f g [] = refl
filters_swap f g (p ∷ l) = by (f p) (g p) refl refl (filters_swap f g l)
  where
    by : (x y : Bool) → f p ≡ x → g p ≡ y → filter f (filter g l) ≡ filter g (filter f l)
        → filter f (cond y (p ∷ filter g l) (filter g l))
        ≡ filter g (cond x (p ∷ filter f l) (filter f l))
    by true true e h rest =
        ap (λ b. cond b (p ∷ filter f (filter g l)) (filter f (filter g l))) e
        ∙ ap (λ (k : List Parked). p ∷ k) rest
        ∙ sym (ap (λ b. cond b (p ∷ filter g (filter f l)) (filter g (filter f l))) h)
    by true false e h rest =
        rest ∙ sym (ap (λ b. cond b (p ∷ filter g (filter f l)) (filter g (filter f l))) h)
    by false true e h rest =
        ap (λ b. cond b (p ∷ filter f (filter g l)) (filter f (filter g l))) e ∙ rest
    by false false e h rest = rest

pub same_without : (held : Held) (a b : List Parked) → SameParked a b
    → SameParked (without a held) (without b held)
same_without held a b same other =
    let others = λ (p : Parked). not (is_for held p) in
    filters_swap (is_for other) others a ∙ ap (filter others) (same other)
    ∙ sym (filters_swap (is_for other) others b)

------ what waits

module _ (Here : Request → Type 0) (log later : List Entry)
    (grows : (id epoch : ℕ) → expected log id epoch ≤ expected later id epoch) where
  waits_later : (held : Held) (p : Parked) → Waits Here log held p → Waits Here later held p
  waits_later held p w = record {
    held_is = w.held_is;
    here = w.here;
    begins = record {
      bytes = w.begins.bytes;
      batch = w.begins.batch;
      entry = w.begins.entry;
      id = w.begins.id;
      epoch = w.begins.epoch;
      first = omega (arith, w.begins.first, grows held.id held.epoch);
    };
  }

  -- as the log grows they wait on
  pub all_later : (parked : List Parked) → AllWait Here log parked → AllWait Here later parked
  all_later parked all =
      All-weaker (λ q. Waits Here log q.held q) (λ q. Waits Here later q.held q)
      (λ q w. waits_later q.held q w) parked all

module _ (Here : Request → Type 0) (log : List Entry) where
  abbrev Each : List Parked → Type 0
  Each = AllWait Here log

  pub each_without : (held : Held) (parked : List Parked) → Each parked
      → Each (without parked held)
  each_without held parked all =
      All-filter (λ q. not (is_for held q)) (λ q. Waits Here log q.held q) parked all

  -- those of one id and epoch
  pub each_for : (held : Held) (parked : List Parked) → Each parked
      → All (Waits Here log held) (parked_for parked held)
  each_for held parked all =
      All-from_contains (Waits Here log held) (parked_for parked held)
      (λ q c. let there = filter_holds (is_for held) parked q c in
      let own = is_for_held held q there.1 in
      let w = All-contains (λ r. Waits Here log r.held r) parked q all there.0 in
      subst (λ (h : Held). Waits Here log h q) own w)

  cond_each : (b : Bool) (x y : List Parked) → Each x → Each y → Each (cond b x y)
  cond_each true x y f g = f
  cond_each false x y f g = g

  pub each_after : (p : Parked) (parked : List Parked) → Each parked → Waits Here log p.held p
      → Each (after parked p)
  each_after p parked all w =
      cond_each (is_full parked p.held p.request) parked (with_parked parked p.held p.request) all
      (cond_each (waits parked p) parked (parked ++ p ∷ []) all
      (All-push (λ q. Waits Here log q.held q) parked p all w))
