-- No older connection is heard again.
use Rattle.std.proofs.Common.{◌≡◌, ◌⊎◌, ◌<◌, ◌≤◌, ℕ, Bool, true, false, cond, List, [], ◌∷◌}
use Rattle.std.proofs.Common.{refl, sym, ap, ◌∙◌, subst, inl, inr, Some, None, arith}
use Rattle.std.proofs.lemmas.Bool.Decides.{nat_tests}
use Rattle.std.specs.Prelude.{Option, not, nat_lt}
use Rattle.kx_grant.specs.Heard.{Hear, after_hear, after_hears, is_heard, is_newest, newest}
use Rattle.kx_grant.specs.Heard.{with_newest}
use Rattle.kx_grant.specs.declared.heard.Heard.{Heard}
use Rattle.kx_grant.specs.declared.heard.Role.{Role}
use Rattle.kx_grant.specs.declared.heard.Role.TheVariants as role

-- in a role none older than this connection is the newest
pub record Spoke (in_role : Role) (connection : ℕ) (h : Heard) : Type 0 where
  pub last : ℕ
  pub last_is : newest h in_role ≡ Some last
  pub behind : connection ≤ last

is_now : (r : Role) (h : Heard) (k : ℕ) → newest (with_newest h r k) r ≡ Some k
is_now role.Coordinator h k = refl
is_now role.Offsets h k = refl
is_now role.Batches h k = refl

-- what is noted in another role changes nothing in this one
apart : (r q : Role) → (r ≡ q) ⊎ ((h : Heard) (k : ℕ) → newest (with_newest h q k) r ≡ newest h r)
apart role.Coordinator role.Coordinator = inl refl
apart role.Coordinator role.Offsets = inr (λ h k. refl)
apart role.Coordinator role.Batches = inr (λ h k. refl)
apart role.Offsets role.Coordinator = inr (λ h k. refl)
apart role.Offsets role.Offsets = inl refl
apart role.Offsets role.Batches = inr (λ h k. refl)
apart role.Batches role.Coordinator = inr (λ h k. refl)
apart role.Batches role.Offsets = inr (λ h k. refl)
apart role.Batches role.Batches = inl refl

not_below : (k n : ℕ) → not (nat_lt k n) ≡ true → n ≤ k
not_below k n e = grind (arith, nat_tests)

below : (k n : ℕ) → k < n → not (nat_lt k n) ≡ false
below k n h = grind (arith, nat_tests)

either : (r : Role) (c : ℕ) (b : Bool) (x y : Heard) → (b ≡ true → Spoke r c x) → Spoke r c y
    → Spoke r c (cond b x y)
either r c true x y u v = u refl
either r c false x y u v = v

noted : (r q : Role) (c k : ℕ) (h : Heard) → is_heard h q k ≡ true → Spoke r c h
    → Spoke r c (with_newest h q k)
noted r q c k h heard w =
    elim (apart r q) [
      | inl same ↦
          let here : is_heard h r k ≡ true =
          subst (λ (x : Role). is_heard h x k ≡ true) (sym same) heard in
          let newer : not (nat_lt k w.last) ≡ true =
          sym (ap (λ (x : Option ℕ). is_newest x k) w.last_is) ∙ here in
          let le : w.last ≤ k = not_below k w.last newer in
          record {
            last = k;
            last_is = subst (λ (x : Role). newest (with_newest h x k) r ≡ Some k) same
                (is_now r h k);
            behind = omega (arith, le, w.behind);
          }
      | inr other ↦ record {
        last = w.last;
        last_is = other h k ∙ w.last_is;
        behind = w.behind;
      }
    ]

heard : (r q : Role) (c k : ℕ) (h : Heard) → Spoke r c h → Spoke r c (after_hear h q k)
heard r q c k h w =
    either r c (is_heard h q k) (with_newest h q k) h (λ e. noted r q c k h e w) w

all_heard : (r : Role) (c : ℕ) (xs : List Hear) (h : Heard) → Spoke r c h
    → Spoke r c (after_hears h xs)
all_heard r c [] h w = w
all_heard r c (x ∷ xs) h w =
    all_heard r c xs (after_hear h x.in_role x.connection)
    (heard r x.in_role c x.connection h w)

begins : (r : Role) (c : ℕ) (h : Heard) (b : Bool) → b ≡ true
    → Spoke r c (cond b (with_newest h r c) h)
begins r c h true e = record { last = c; last_is = is_now r h c; behind = omega arith }
begins r c h false e = absurd cc

refused : (r : Role) (c older : ℕ) (h : Heard) → older < c → Spoke r c h
    → is_heard h r older ≡ false
refused r c older h lt w =
    ap (λ (x : Option ℕ). is_newest x older) w.last_is
    ∙ below older w.last (omega (arith, lt, w.behind))

pub not_heard : (h : Heard) (r : Role) (c older : ℕ) (xs : List Hear) → is_heard h r c ≡ true
    → older < c → is_heard (after_hears (after_hear h r c) xs) r older ≡ false
not_heard h r c older xs e lt =
    refused r c older (after_hears (after_hear h r c) xs) lt
    (all_heard r c xs (after_hear h r c) (begins r c h (is_heard h r c) e))

heard_if : (x : Option ℕ) (c : ℕ) → ((last : ℕ) → x ≡ Some last → last ≤ c) → is_newest x c ≡ true
heard_if None c h = refl
heard_if (Some last) c h = let no_newer = h last refl in grind (arith, nat_tests, no_newer)

-- the newest connection is heard
pub newest_heard : (h : Heard) (r : Role) (c : ℕ)
    → ((last : ℕ) → newest h r ≡ Some last → last ≤ c) → is_heard h r c ≡ true
newest_heard h r c no_newer = heard_if (newest h r) c no_newer
