-- The next number is above all that are in use.
use Rattle.std.proofs.Common.{◌≡◌, ◌+◌, ◌<◌, ◌≤◌, ◌∷◌, [], ℕ, List, true, false}
use Rattle.std.proofs.Common.{ap, arith}
use Rattle.std.specs.Prelude.{◌==◌}
use Rattle.std.proofs.lemmas.Bool.{cond-true, cond_both}
use Rattle.std.proofs.lemmas.Bool.Decides.{nat_tests}
use Rattle.kx_kafka_server.specs.Numbers.{AreBelow, NoneIsTakenTwice, Step, Use, after_step}
use Rattle.kx_kafka_server.specs.Numbers.{after_steps, after_take, can_take, given_back, taken, without}
use Rattle.kx_kafka_server.specs.declared.span.Span.{Span}

below_more : (a b : ℕ) → a ≤ b → (ns : List ℕ) → AreBelow a ns → AreBelow b ns
below_more a b le [] below = tt
below_more a b le (n ∷ ns) below = (omega (arith, le, below.0), below_more a b le ns below.1)

-- one that is below another and isn't the one before it is below that
below_last : (n number next : ℕ) → number + 1 ≡ next → n < next → (n == number) ≡ false → n < number
below_last n number next e lt ne = grind (arith, nat_tests, e, lt, ne)

-- those that are left
left_below : (number next : ℕ) → number + 1 ≡ next → (ns : List ℕ) → AreBelow next ns
    → AreBelow number (without number ns)
left_below number next e [] below = tt
left_below number next e (n ∷ ns) below =
    cond_both (n == number) (without number ns) (n ∷ without number ns) (AreBelow number)
    (λ same. left_below number next e ns below.1)
    (λ differs. (below_last n number next e below.0 differs, left_below number next e ns below.1))

still_below : (number next : ℕ) → (ns : List ℕ) → AreBelow next ns → AreBelow next (without number ns)
still_below number next [] below = tt
still_below number next (n ∷ ns) below =
    cond_both (n == number) (without number ns) (n ∷ without number ns) (AreBelow next)
    (λ same. still_below number next ns below.1)
    (λ differs. (below.0, still_below number next ns below.1))

is_last : (number next : ℕ) → (number + 1 == next) ≡ true → number + 1 ≡ next
is_last number next e = grind (arith, nat_tests, e)

give_back : (s : Span) (number : ℕ) (ns : List ℕ) → AreBelow s.next ns
    → AreBelow (given_back s number).next (without number ns)
give_back s number ns below =
    cond_both (number + 1 == s.next) (record s { next = number }) s
    (λ (t : Span). AreBelow t.next (without number ns))
    (λ e. left_below number s.next (is_last number s.next e) ns below)
    (λ e. still_below number s.next ns below)

take_one : (u : Use) → AreBelow u.span.next u.used
    → AreBelow (after_take u).span.next (after_take u).used
take_one u below =
    cond_both (can_take u.span) (record { span = taken u.span; used = u.span.next ∷ u.used }) u
    (λ (v : Use). AreBelow v.span.next v.used)
    (λ e. let one : (taken u.span).next ≡ u.span.next + 1 =
    ap (λ (t : Span). t.next) (cond-true (can_take u.span) _ _ e) in
    (omega (arith, one), below_more u.span.next (taken u.span).next (omega (arith, one)) u.used below))
    (λ e. below)

after_one : (u : Use) (step : Step) → AreBelow u.span.next u.used
    → AreBelow (after_step u step).span.next (after_step u step).used
after_one u Step.Reserves below = below
after_one u Step.Takes below = take_one u below
after_one u (Step.GivesBack number) below = give_back u.span number u.used below

after_all : (u : Use) (steps : List Step) → AreBelow u.span.next u.used
    → AreBelow (after_steps u steps).span.next (after_steps u steps).used
after_all u [] below = below
after_all u (step ∷ steps) below = after_all (after_step u step) steps (after_one u step below)

pub none_twice : NoneIsTakenTwice
none_twice span steps = after_all (record { span = span; used = [] }) steps tt
