-- How many lines are written in a second, and that each notice is counted.
use Rattle.std.proofs.Common.{◌≡◌, ◌+◌, ◌<◌, ◌≤◌, ◌∷◌, [], ℕ, List, Bool, true, false}
use Rattle.std.proofs.Common.{refl, sym, ap, arith, subst}
use Rattle.std.specs.Prelude.{min, ◌==◌}
use Rattle.std.proofs.lemmas.Bool.{cond-false, cond-true, cond_both}
use Rattle.std.proofs.lemmas.Bool.Decides.{nat_tests}
use Rattle.kx_notices.specs.Rates.{AreIn, EachIsCounted, FewPass, admitted, line_for, lines_of}
use Rattle.kx_notices.specs.Rates.{most_counted}
use Rattle.kx_notices.specs.Rates.{noticed, one_if, passes, second_of, told}
use Rattle.kx_notices.specs.Rates.{turned}
use Rattle.kx_notices.specs.declared.rate.Rate.{Rate}

at_most_one : (n : ℕ) → line_for n ≤ 1
at_most_one n = cond_both (n == 0) _ _ (λ k. k ≤ 1) (λ e. omega arith) (λ e. omega arith)

-- a notice in its second
after_one : (r : Rate) (times : List ℕ) → r.passed ≤ 100
    → ((q : Rate) → q.second ≡ r.second → q.passed ≤ 100 → lines_of q times + q.passed ≤ 100)
    → (b : Bool) → passes r ≡ b
    → one_if (passes r) + lines_of (admitted r) times + r.passed ≤ 100
after_one r times fits rest true e =
    let q : Rate = record r { passed = r.passed + 1 } in
    let next : admitted r ≡ q = cond-true (passes r) _ _ e in
    let one : one_if (passes r) ≡ 1 = ap one_if e in
    let below : r.passed < 100 = grind (arith, nat_tests, e) in
    let ih : lines_of q times + (r.passed + 1) ≤ 100 = rest q refl (omega (arith, below)) in
    subst (λ (p : Rate). one_if (passes r) + lines_of p times + r.passed ≤ 100) (sym next)
    (omega (arith, one, ih))
after_one r times fits rest false e =
    let q : Rate = record r { left_out = min (r.left_out + 1) most_counted } in
    let next : admitted r ≡ q = cond-false (passes r) _ _ e in
    let one : one_if (passes r) ≡ 0 = ap one_if e in
    let ih : lines_of q times + r.passed ≤ 100 = rest q refl fits in
    subst (λ (p : Rate). one_if (passes r) + lines_of p times + r.passed ≤ 100) (sym next)
    (omega (arith, one, ih))

is_same : (a b : ℕ) → a ≡ b → (a == b) ≡ true
is_same a b e = grind (arith, nat_tests, e)

turned_same : (r : Rate) (now : ℕ) → second_of now ≡ r.second → turned r now ≡ r
turned_same r now e = cond-true (second_of now == r.second) _ _ (is_same _ _ e)

told_same : (r : Rate) (now : ℕ) → second_of now ≡ r.second → told r now ≡ 0
told_same r now e = cond-true (second_of now == r.second) _ _ (is_same _ _ e)

-- in the second of the rate
in_second : (times : List ℕ) (r : Rate) → r.passed ≤ 100
    → AreIn r.second times → lines_of r times + r.passed ≤ 100
in_second [] r fits same = omega (arith, fits)
in_second (now ∷ times) r fits same =
    let none = told_same r now same.0 in
    let rest : (q : Rate) → q.second ≡ r.second → q.passed ≤ 100 → lines_of q times + q.passed ≤ 100 =
    λ q e k. in_second times q k
    (subst (λ (s : ℕ). AreIn s times) (sym e) same.1) in
    let here : one_if (passes r) + lines_of (admitted r) times + r.passed ≤ 100 =
    after_one r times fits rest (passes r) refl in
    subst (λ (p : Rate). line_for (told r now) + (one_if (passes p) + lines_of (admitted p) times)
    + r.passed ≤ 100) (sym (turned_same r now same.0)) (omega (arith, ap line_for none, here))

-- in a second, whatever the rate was before
few_if : (r : Rate) (now : ℕ) (times : List ℕ) → r.passed ≤ 100
    → AreIn (second_of now) times → (b : Bool) → (second_of now == r.second) ≡ b
    → lines_of r (now ∷ times) ≤ 100
few_if r now times fits same true e =
    let here : second_of now ≡ r.second = grind (arith, nat_tests, e) in
    let all = subst (λ (s : ℕ). AreIn s times) here same in
    let found : lines_of r (now ∷ times) + r.passed ≤ 100 = in_second (now ∷ times) r fits (here, all) in
    omega (arith, found)
few_if r now times fits same false e =
    let t : Rate = record r {
      second = second_of now;
      passed = line_for r.left_out;
      left_out = 0;
    } in
    let turns : turned r now ≡ t = cond-false (second_of now == r.second) _ _ e in
    let tells : told r now ≡ r.left_out = cond-false (second_of now == r.second) _ _ e in
    let low : line_for r.left_out ≤ 1 = at_most_one r.left_out in
    let rest : (q : Rate) → q.second ≡ t.second → q.passed ≤ 100 → lines_of q times + q.passed ≤ 100 =
    λ q k h. in_second times q h
    (subst (λ (s : ℕ). AreIn s times) (sym k) same) in
    let found : one_if (passes t) + lines_of (admitted t) times + line_for r.left_out ≤ 100 =
    after_one t times (omega (arith, low)) rest (passes t) refl in
    subst (λ (p : Rate). line_for (told r now) + (one_if (passes p) + lines_of (admitted p) times)
    ≤ 100) (sym turns) (omega (arith, ap line_for tells, found))

pub few : FewPass
few r second [] fits same = omega arith
few r second (now ∷ times) fits same =
    few_if r now times fits
    (subst (λ (s : ℕ). AreIn s times) (sym same.0) same.1)
    (second_of now == r.second) refl

-- what is told and what is still to be told are what was left out
turn_keeps : (r : Rate) (now : ℕ) (b : Bool) → (second_of now == r.second) ≡ b
    → told r now + (turned r now).left_out ≡ r.left_out
turn_keeps r now true e =
    let turns : (turned r now).left_out ≡ r.left_out =
    ap (λ (p : Rate). p.left_out) (cond-true (second_of now == r.second) _ _ e) in
    let tells : told r now ≡ 0 = cond-true (second_of now == r.second) _ _ e in
    omega (arith, turns, tells)
turn_keeps r now false e =
    let turns : (turned r now).left_out ≡ 0 =
    ap (λ (p : Rate). p.left_out) (cond-false (second_of now == r.second) _ _ e) in
    let tells : told r now ≡ r.left_out = cond-false (second_of now == r.second) _ _ e in
    omega (arith, turns, tells)

-- one notice more passes or is counted
admit_keeps : (r : Rate) → r.left_out + 1 ≤ most_counted → (b : Bool) → passes r ≡ b
    → one_if (passes r) + (admitted r).left_out ≡ 1 + r.left_out
admit_keeps r small true e =
    let one : one_if (passes r) ≡ 1 = ap one_if e in
    let next : (admitted r).left_out ≡ r.left_out =
    ap (λ (p : Rate). p.left_out) (cond-true (passes r) _ _ e) in
    omega (arith, one, next)
admit_keeps r small false e =
    let one : one_if (passes r) ≡ 0 = ap one_if e in
    let next : (admitted r).left_out ≡ min (r.left_out + 1) most_counted =
    ap (λ (p : Rate). p.left_out) (cond-false (passes r) _ _ e) in
    omega (arith, one, next, small)

pub each : EachIsCounted
each r [] small = omega arith
each r (now ∷ times) small =
    let turns = turn_keeps r now (second_of now == r.second) refl in
    let t : Rate = turned r now in
    let fits : t.left_out + 1 ≤ most_counted = omega (arith, turns, small) in
    let admits = admit_keeps t fits (passes t) refl in
    let rest = each (noticed r now) times (omega (arith, turns, admits, small)) in
    omega (arith, turns, admits, rest)
