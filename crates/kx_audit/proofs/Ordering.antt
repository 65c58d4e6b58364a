-- The clients of traces, in the order of their numbers.
use Rattle.std.proofs.Common.{◌≡◌, ◌≢◌, ◌≤◌, ◌<◌, ◌+◌, ◌⊎◌, ◌++◌, ℕ, zero, suc, Bool, true, false}
use Rattle.std.proofs.Common.{cond, List, [], ◌∷◌, Some, inl, inr, refl, sym, ap, ◌∙◌, subst, arith}
use Rattle.std.proofs.Common.{nat_lt, ⊎_elim}
use Rattle.std.specs.Prelude.{slice_get}
use Rattle.std.proofs.lemmas.Bool.Decides.{Decides-ltb, nat_tests}
use Rattle.kx_audit.specs.Joined.{AreApart}
use Rattle.kx_audit.specs.Making.{ClientMaking, NodeMaking, OfClient, OfCoordinator, OfPartition}
use Rattle.kx_audit.specs.Making.{Trail, client_in, clients_of, in_order, named, placed}
use Rattle.kx_message.specs.declared.message.NodeId.TheVariants as node

abbrev pub IsIn : ClientMaking → List ClientMaking → Type 0
IsIn c [] = ⊥
IsIn c (d ∷ ds) = (c ≡ d) ⊎ IsIn c ds

-- numbers rise, from this one on
abbrev pub From : ℕ → List ClientMaking → Type 0
From low [] = Unit {0}
From low (c ∷ cs) = (low ≤ c.number) × From (c.number + 1) cs

-- all of them have other numbers
abbrev pub IsApart : ClientMaking → List ClientMaking → Type 0
IsApart c cs = (d : ClientMaking) → IsIn d cs → d.number ≢ c.number

-- no two have one number
abbrev pub AreDistinct : List ClientMaking → Type 0
AreDistinct [] = Unit {0}
AreDistinct (c ∷ cs) = IsApart c cs × AreDistinct cs

pub from_least : (low : ℕ) (cs : List ClientMaking) (d : ClientMaking) → From low cs → IsIn d cs
    → low ≤ d.number
from_least low [] d from is = absurd is
from_least low (c ∷ cs) d from (inl same) =
    subst (λ (x : ClientMaking). low ≤ x.number) (sym same) from.0
from_least low (c ∷ cs) d from (inr is) =
    omega (arith, from.0, from_least (c.number + 1) cs d from.1 is)

------ placing one

above : (m n : ℕ) → nat_lt m n ≡ false → n ≢ m → n + 1 ≤ m
above m n e apart = grind (arith, nat_tests)

placed_from : (low : ℕ) (c : ClientMaking) (cs : List ClientMaking) → From low cs
    → low ≤ c.number → IsApart c cs → From low (placed c cs)
placed_from low c [] from le apart = (le, tt)
placed_from low c (d ∷ ds) from le apart =
    by (nat_lt c.number d.number) refl
    (λ high. placed_from (d.number + 1) c ds from.1 high (λ x is. apart x (inr is)))
  where
    by : (b : Bool) → nat_lt c.number d.number ≡ b
        → (d.number + 1 ≤ c.number → From (d.number + 1) (placed c ds))
        → From low (cond b (c ∷ d ∷ ds) (d ∷ placed c ds))
    by true e rest =
        let lt : c.number < d.number = (Decides-ltb c.number d.number).0 e in
        (le, ((let high : c.number + 1 ≤ d.number = omega (arith, lt) in high), from.1))
    by false e rest = (from.0, rest (above c.number d.number e (apart d (inl refl))))

placed_only : (c : ClientMaking) (cs : List ClientMaking) (x : ClientMaking)
    → IsIn x (placed c cs) → IsIn x (c ∷ cs)
placed_only c [] x is = is
placed_only c (d ∷ ds) x is = by (nat_lt c.number d.number) (placed_only c ds x) is
  where
    by : (b : Bool) → (IsIn x (placed c ds) → IsIn x (c ∷ ds))
        → IsIn x (cond b (c ∷ d ∷ ds) (d ∷ placed c ds)) → IsIn x (c ∷ d ∷ ds)
    by true rest h = h
    by false rest (inl same) = inr (inl same)
    by false rest (inr h) = ⊎_elim inl (λ i. inr (inr i)) (rest h)

placed_has : (c : ClientMaking) (cs : List ClientMaking) (x : ClientMaking)
    → IsIn x (c ∷ cs) → IsIn x (placed c cs)
placed_has c [] x is = is
placed_has c (d ∷ ds) x is = by (nat_lt c.number d.number) (placed_has c ds x) is
  where
    by : (b : Bool) → (IsIn x (c ∷ ds) → IsIn x (placed c ds)) → IsIn x (c ∷ d ∷ ds)
        → IsIn x (cond b (c ∷ d ∷ ds) (d ∷ placed c ds))
    by true rest h = h
    by false rest (inl same) = inr (rest (inl same))
    by false rest (inr (inl same)) = inl same
    by false rest (inr (inr h)) = inr (rest (inr h))

------ all of them

pub order_only : (cs : List ClientMaking) (x : ClientMaking) → IsIn x (in_order cs) → IsIn x cs
order_only [] x is = is
order_only (c ∷ cs) x is =
    ⊎_elim inl (λ h. inr (order_only cs x h)) (placed_only c (in_order cs) x is)

pub order_has : (cs : List ClientMaking) (x : ClientMaking) → IsIn x cs → IsIn x (in_order cs)
order_has [] x is = is
order_has (c ∷ cs) x is =
    placed_has c (in_order cs) x (⊎_elim inl (λ h. inr (order_has cs x h)) is)

pub in_order_from : (cs : List ClientMaking) → AreDistinct cs → From 0 (in_order cs)
in_order_from [] apart = tt
in_order_from (c ∷ cs) apart =
    placed_from 0 c (in_order cs) (in_order_from cs apart.1) (omega arith)
    (λ d is. apart.0 d (order_only cs d is))

------ those of traces

in_left : (c : ClientMaking) (cs ds : List ClientMaking) → IsIn c cs → IsIn c (cs ++ ds)
in_left c [] ds is = absurd is
in_left c (d ∷ cs) ds (inl same) = inl same
in_left c (d ∷ cs) ds (inr is) = inr (in_left c cs ds is)

in_right : (c : ClientMaking) (cs ds : List ClientMaking) → IsIn c ds → IsIn c (cs ++ ds)
in_right c [] ds is = is
in_right c (d ∷ cs) ds is = inr (in_right c cs ds is)

made_in : (m : NodeMaking) (c : ClientMaking) → m ≡ OfClient c → IsIn c (client_in m)
made_in m c same = subst (λ n. IsIn c (client_in n)) (sym same) (inl refl)

pub in_clients : (trails : List Trail) (k : ℕ) (t : Trail) (c : ClientMaking)
    → slice_get trails k ≡ Some t → t.made ≡ OfClient c → IsIn c (clients_of trails)
in_clients [] k t c at is = absurd cc
in_clients (u ∷ trails) zero t c at is =
    let same : u ≡ t = cc in
    in_left c (client_in u.made) (clients_of trails)
    (made_in u.made c (ap (λ (x : Trail). x.made) same ∙ is))
in_clients (u ∷ trails) (suc k) t c at is =
    in_right c (client_in u.made) (clients_of trails) (in_clients trails k t c at is)

-- the trace of a client
pub record IsOf (trails : List Trail) (c : ClientMaking) : Type 0 where
  pub place : ℕ
  pub trail : Trail
  pub at : slice_get trails place ≡ Some trail
  pub made : trail.made ≡ OfClient c

later_of : (u : Trail) (trails : List Trail) (c : ClientMaking) → IsOf trails c
    → IsOf (u ∷ trails) c
later_of u trails c is = record {
  place = suc is.place;
  trail = is.trail;
  at = is.at;
  made = is.made;
}

pub trail_of : (trails : List Trail) (c : ClientMaking) → IsIn c (clients_of trails)
    → IsOf trails c
trail_of [] c is = absurd is
trail_of (u ∷ trails) c is = by u.made refl (trail_of trails c) is
  where
    by : (m : NodeMaking) → u.made ≡ m → (IsIn c (clients_of trails) → IsOf trails c)
        → IsIn c (client_in m ++ clients_of trails) → IsOf (u ∷ trails) c
    by OfCoordinator e rest h = later_of u trails c (rest h)
    by (OfPartition n) e rest h = later_of u trails c (rest h)
    by (OfClient d) e rest (inl same) = record {
      place = 0;
      trail = u;
      at = refl;
      made = e ∙ ap (λ x. OfClient x) (sym same);
    }
    by (OfClient d) e rest (inr h) = later_of u trails c (rest h)

pub tail_apart : (u : Trail) (trails : List Trail) → AreApart (u ∷ trails) → AreApart trails
tail_apart u trails apart = λ j k t v at there same.
    let next : suc j ≡ suc k = apart (suc j) (suc k) t v at there same in omega (arith, next)

pub are_distinct : (trails : List Trail) → AreApart trails → AreDistinct (clients_of trails)
are_distinct [] apart = tt
are_distinct (u ∷ trails) apart =
    by u.made refl (are_distinct trails (tail_apart u trails apart))
  where
    by : (m : NodeMaking) → u.made ≡ m → AreDistinct (clients_of trails)
        → AreDistinct (client_in m ++ clients_of trails)
    by OfCoordinator e rest = rest
    by (OfPartition n) e rest = rest
    by (OfClient c) e rest = (
      (λ d is same.
          let other = trail_of trails d is in
          let zero_is : 0 ≡ suc other.place = apart 0 (suc other.place) u other.trail refl other.at
          (ap named e ∙ ap (λ (n : ℕ). node.Client n) (sym same) ∙ sym (ap named other.made)) in
          absurd (omega (arith, zero_is))),
      rest,
    )
