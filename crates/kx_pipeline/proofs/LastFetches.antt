-- Which fetch of a client is its last one before a request, as more messages are sent.
use Rattle.std.proofs.Common.{◌≡◌, ◌⊎◌, ◌<◌, ◌≤◌, ℕ, Bool, true, false, ◌&&◌, cond, List, [], ◌∷◌}
use Rattle.std.proofs.Common.{◌++◌}
use Rattle.std.proofs.Common.{Option, Some, None, ◌==◌, nat_lt, Contains, refl, sym, ap, ◌∙◌, subst}
use Rattle.std.proofs.Common.{arith, inl, inr, ⊎_elim, find}
use Rattle.std.specs.Prelude.{fold, IfSome}
use Rattle.std.proofs.lemmas.Bool.{and_from, and_parts, cond_both}
use Rattle.std.proofs.lemmas.Bool.Decides.{nat_tests}
use Rattle.kx_message.specs.declared.message.Message.{Message}
use Rattle.kx_message.specs.declared.message.Message.TheVariants as msg
use Rattle.kx_message.specs.declared.requests.Fetch.{Fetch}
use Rattle.kx_laws.proofs.Membership.{cons_cases, contains_head, contains_tail, no_element}
use Rattle.kx_pipeline.specs.Chain.{is_later, last_fetch, later_fetch}

------ a fold

fold-append : {A B : Type 0} (f : B → A → B) (b : B) (xs ys : List A)
    → fold f b (xs ++ ys) ≡ fold f (fold f b xs) ys
fold-append f b [] ys = refl
fold-append f b (x ∷ xs) ys = fold-append f (f b x) xs ys

------ what isn't a fetch of the client before the request

-- it is no fetch of the client below the number
abbrev pub IsNoFetch : ℕ → ℕ → Message → Type 0
IsNoFetch client below (msg.Fetch it) =
    (it.caller.client == client && nat_lt it.caller.correlation below) ≡ false
IsNoFetch client below m = Unit {0}

not_both : (a b c : Bool) → (a && b) ≡ false → (a && b && c) ≡ false
not_both true true c e = absurd cc
not_both true false c e = refl
not_both false b c e = refl

passed_over : (client below : ℕ) (found : Option Fetch) (m : Message)
    → IsNoFetch client below m → later_fetch client below found m ≡ found
passed_over client below found (msg.Fetch it) h =
    let no = not_both (it.caller.client == client) (nat_lt it.caller.correlation below)
    (is_later it found) h in
    ap (λ b. cond b (Some it) found) no
passed_over client below found m h = refl

all_passed_over : (client below : ℕ) (found : Option Fetch) (messages : List Message)
    → ((m : Message) → Contains messages m → IsNoFetch client below m)
    → fold (later_fetch client below) found messages ≡ found
all_passed_over client below found [] h = refl
all_passed_over client below found (m ∷ messages) h =
    ap (λ x. fold (later_fetch client below) x messages)
    (passed_over client below found m (h m (contains_head m messages)))
    ∙ all_passed_over client below found messages (λ x c. h x (contains_tail m x messages c))

-- more messages, none of which is a fetch of the client below the number
pub last_stays : (sent more : List Message) (client below : ℕ)
    → ((m : Message) → Contains more m → IsNoFetch client below m)
    → last_fetch (sent ++ more) client below ≡ last_fetch sent client below
last_stays sent more client below h =
    fold-append (later_fetch client below) None sent more
    ∙ all_passed_over client below (last_fetch sent client below) more h

------ another number above all fetches

-- a fetch of the client is below both numbers, or none of them
abbrev IsAlike : ℕ → ℕ → ℕ → Message → Type 0
IsAlike client below other (msg.Fetch it) =
    it.caller.client ≡ client
    → nat_lt it.caller.correlation below ≡ nat_lt it.caller.correlation other
IsAlike client below other m = Unit {0}

taken_alike : (client below other : ℕ) (found : Option Fetch) (m : Message)
    → IsAlike client below other m
    → later_fetch client below found m ≡ later_fetch client other found m
taken_alike client below other found (msg.Fetch it) h = by (it.caller.client == client) refl
  where
    by : (b : Bool) → (it.caller.client == client) ≡ b
        → cond (b && nat_lt it.caller.correlation below && is_later it found) (Some it) found
        ≡ cond (b && nat_lt it.caller.correlation other && is_later it found) (Some it) found
    by true e =
        let same = h (grind (arith, nat_tests, e)) in
        ap (λ b. cond (b && is_later it found) (Some it) found) same
    by false e = refl
taken_alike client below other found m h = refl

all_alike : (client below other : ℕ) (found : Option Fetch) (sent : List Message)
    → ((m : Message) → Contains sent m → IsAlike client below other m)
    → fold (later_fetch client below) found sent ≡ fold (later_fetch client other) found sent
all_alike client below other found [] h = refl
all_alike client below other found (m ∷ sent) h =
    ap (λ x. fold (later_fetch client below) x sent)
    (taken_alike client below other found m (h m (contains_head m sent)))
    ∙ all_alike client below other (later_fetch client other found m) sent
    (λ x c. h x (contains_tail m x sent c))

-- of a client whose fetches are all below the one number and the other
pub last_alike : (sent : List Message) (client below other : ℕ)
    → ((it : Fetch) → Contains sent (msg.Fetch it) → it.caller.client ≡ client
    → (it.caller.correlation < below) × (it.caller.correlation < other))
    → last_fetch sent client below ≡ last_fetch sent client other
last_alike sent client below other h =
    all_alike client below other None sent (λ m c. by m c)
  where
    by : (m : Message) → Contains sent m → IsAlike client below other m
    by (msg.Fetch it) c = λ same.
        let low = h it c same in
        let a : nat_lt it.caller.correlation below ≡ true = grind (arith, nat_tests, low.0) in
        let b : nat_lt it.caller.correlation other ≡ true = grind (arith, nat_tests, low.1) in
        a ∙ sym b
    by m c = tt

------ a new fetch

-- what is found is a fetch of the client that was sent
found_there : (client below : ℕ) (all sent : List Message) (found : Option Fetch)
    → ((m : Message) → Contains sent m → Contains all m)
    → IfSome found (λ it. Contains all (msg.Fetch it) × (it.caller.client ≡ client))
    → IfSome (fold (later_fetch client below) found sent)
    (λ it. Contains all (msg.Fetch it) × (it.caller.client ≡ client))
found_there client below all [] found up h = h
found_there client below all (m ∷ sent) found up h =
    found_there client below all sent (later_fetch client below found m)
    (λ x c. up x (contains_tail m x sent c)) (by m (up m (contains_head m sent)))
  where
    by : (m : Message) → Contains all m
        → IfSome (later_fetch client below found m)
        (λ it. Contains all (msg.Fetch it) × (it.caller.client ≡ client))
    by (msg.Fetch it) c =
        cond_both (it.caller.client == client && nat_lt it.caller.correlation below
        && is_later it found) (Some it) found
        (λ o. IfSome o (λ it. Contains all (msg.Fetch it) × (it.caller.client ≡ client)))
        (λ e. let both = it.caller.client == client && nat_lt it.caller.correlation below in
        let p = and_parts both (is_later it found) e in
        let q = and_parts (it.caller.client == client) (nat_lt it.caller.correlation below) p.0 in
        (c, grind (arith, nat_tests, q.0))) (λ e. h)
    by m c = h

-- a fetch of the client above all of its fetches before it is its last one
pub last_is : (sent : List Message) (it : Fetch) (below : ℕ) → it.caller.correlation < below
    → ((f : Fetch) → Contains sent (msg.Fetch f) → f.caller.client ≡ it.caller.client
    → f.caller.correlation < it.caller.correlation)
    → last_fetch (sent ++ msg.Fetch it ∷ []) it.caller.client below ≡ Some it
last_is sent it below low above =
    let client = it.caller.client in
    let found = last_fetch sent client below in
    fold-append (later_fetch client below) None sent (msg.Fetch it ∷ [])
    ∙ by found (found_there client below sent sent None (λ m c. c) tt)
  where
    by : (found : Option Fetch)
        → IfSome found (λ f. Contains sent (msg.Fetch f)
        × (f.caller.client ≡ it.caller.client))
        → later_fetch it.caller.client below found (msg.Fetch it) ≡ Some it
    by None h =
        let a : (it.caller.client == it.caller.client) ≡ true = grind (arith, nat_tests) in
        let b : nat_lt it.caller.correlation below ≡ true = grind (arith, nat_tests, low) in
        ap (λ x. cond x (Some it) None)
        (and_from (it.caller.client == it.caller.client && nat_lt it.caller.correlation below) true
        (and_from (it.caller.client == it.caller.client) (nat_lt it.caller.correlation below) a b)
        refl)
    by (Some f) h =
        let lower = above f h.0 h.1 in
        let a : (it.caller.client == it.caller.client) ≡ true = grind (arith, nat_tests) in
        let b : nat_lt it.caller.correlation below ≡ true = grind (arith, nat_tests, low) in
        let d : nat_lt f.caller.correlation it.caller.correlation ≡ true =
        grind (arith, nat_tests, lower) in
        ap (λ x. cond x (Some it) (Some f))
        (and_from (it.caller.client == it.caller.client && nat_lt it.caller.correlation below)
        (nat_lt f.caller.correlation it.caller.correlation)
        (and_from (it.caller.client == it.caller.client) (nat_lt it.caller.correlation below) a b)
        d)

------ the request of a batch

-- what passes the test is one message
pub find_one : (test : Message → Bool) (list : List Message) (m : Message) → Contains list m
    → test m ≡ true → ((x : Message) → Contains list x → test x ≡ true → x ≡ m)
    → find test list ≡ Some m
find_one test [] m c is one = absurd (no_element m c)
find_one test (x ∷ list) m c is one = by (test x) refl (find_one test list m)
  where
    by : (b : Bool) → test x ≡ b
        → (Contains list m → test m ≡ true
        → ((y : Message) → Contains list y → test y ≡ true → y ≡ m) → find test list ≡ Some m)
        → find test (x ∷ list) ≡ Some m
    by true e more =
        let same = one x (contains_head x list) e in
        rw e (ap Some same)
    by false e more =
        rw e (more (⊎_elim (λ first. absurd (let no_test = sym e ∙ ap test first ∙ is in cc))
        (λ there. there) (cons_cases x m list c)) is
        (λ y there. one y (contains_tail x y list there)))

------ messages that are sent again

-- what was found is no fetch before the message, if that is a fetch of the client below the number
abbrev IsAboveFetch : ℕ → ℕ → Fetch → Option Fetch → Type 0
IsAboveFetch client below it None =
    it.caller.client ≡ client → it.caller.correlation < below → ⊥
IsAboveFetch client below it (Some f) =
    it.caller.client ≡ client → it.caller.correlation < below
    → it.caller.correlation ≤ f.caller.correlation

abbrev IsAbove : ℕ → ℕ → Option Fetch → Message → Type 0
IsAbove client below found (msg.Fetch it) = IsAboveFetch client below it found
IsAbove client below found m = Unit {0}

is_counted : (client below : ℕ) (it : Fetch) → it.caller.client ≡ client
    → it.caller.correlation < below
    → (it.caller.client == client && nat_lt it.caller.correlation below) ≡ true
is_counted client below it same low =
    and_from (it.caller.client == client) (nat_lt it.caller.correlation below)
    (grind (arith, nat_tests, same)) (grind (arith, nat_tests, low))

-- what is found after a message is no fetch before it
above_itself : (client below : ℕ) (found : Option Fetch) (m : Message)
    → IsAbove client below (later_fetch client below found m) m
above_itself client below None (msg.Fetch it) = at (it.caller.client == client) refl
    (nat_lt it.caller.correlation below) refl
  where
    at : (a : Bool) → (it.caller.client == client) ≡ a → (b : Bool)
        → nat_lt it.caller.correlation below ≡ b
        → IsAbove client below (cond (a && b && true) (Some it) None) (msg.Fetch it)
    at true e true f = λ same low. omega arith
    at true e false f = λ same low. grind (arith, nat_tests, f, low)
    at false e b f = λ same low. grind (arith, nat_tests, e, same)
above_itself client below (Some g) (msg.Fetch it) = at (it.caller.client == client) refl
    (nat_lt it.caller.correlation below) refl
    (nat_lt g.caller.correlation it.caller.correlation) refl
  where
    at : (a : Bool) → (it.caller.client == client) ≡ a → (b : Bool)
        → nat_lt it.caller.correlation below ≡ b → (c : Bool)
        → nat_lt g.caller.correlation it.caller.correlation ≡ c
        → IsAbove client below (cond (a && b && c) (Some it) (Some g)) (msg.Fetch it)
    at true e true f true h = λ same low. omega arith
    at true e true f false h = λ same low. grind (arith, nat_tests, h)
    at true e false f c h = λ same low. absurd (grind (arith, nat_tests, f, low))
    at false e b f c h = λ same low. absurd (grind (arith, nat_tests, e, same))
above_itself client below found m = tt

-- and stays so
above_still : (client below : ℕ) (found : Option Fetch) (m x : Message)
    → IsAbove client below found x → IsAbove client below (later_fetch client below found m) x
above_still client below found (msg.Fetch it) (msg.Fetch f) h = by found h
  where
    by : (found : Option Fetch) → IsAbove client below found (msg.Fetch f)
        → IsAbove client below (later_fetch client below found (msg.Fetch it)) (msg.Fetch f)
    by None h =
        cond_both (it.caller.client == client && nat_lt it.caller.correlation below && true)
        (Some it) None (λ o. IsAbove client below o (msg.Fetch f))
        (λ e. λ same low. absurd (h same low)) (λ e. h)
    by (Some g) h =
        let both = it.caller.client == client && nat_lt it.caller.correlation below in
        let above = nat_lt g.caller.correlation it.caller.correlation in
        cond_both (both && above) (Some it) (Some g) (λ o. IsAbove client below o (msg.Fetch f))
        (λ e. λ same low.
        let le = h same low in
        let p = and_parts both above e in
        let higher : g.caller.correlation < it.caller.correlation = grind (arith, nat_tests, p.1) in
        omega (arith, le, higher)) (λ e. h)
above_still client below found m (msg.Fetch f) h = h
above_still client below found m x h = tt

above_all : (client below : ℕ) (found : Option Fetch) (sent : List Message) (x : Message)
    → IsAbove client below found x ⊎ Contains sent x
    → IsAbove client below (fold (later_fetch client below) found sent) x
above_all client below found [] x h = ⊎_elim (λ a. a) (λ c. absurd (no_element x c)) h
above_all client below found (m ∷ sent) x h =
    above_all client below (later_fetch client below found m) sent x
    (⊎_elim (λ a. inl (above_still client below found m x a))
    (λ c. ⊎_elim
    (λ first. inl (subst (IsAbove client below (later_fetch client below found m)) first
    (above_itself client below found m)))
    inr (cons_cases m x sent c)) h)

-- a message that was sent before finds nothing later
repeated : (client below : ℕ) (found : Option Fetch) (m : Message)
    → IsAbove client below found m → later_fetch client below found m ≡ found
repeated client below found (msg.Fetch it) h = by found h
  where
    by : (o : Option Fetch) → IsAboveFetch client below it o
        → later_fetch client below o (msg.Fetch it) ≡ o
    by None h = at (it.caller.client == client) refl (nat_lt it.caller.correlation below) refl
      where
        at : (a : Bool) → (it.caller.client == client) ≡ a → (b : Bool)
            → nat_lt it.caller.correlation below ≡ b
            → cond (a && b && true) (Some it) None ≡ None
        at true e true f = absurd (h (grind (arith, nat_tests, e)) (grind (arith, nat_tests, f)))
        at true e false f = refl
        at false e b f = refl
    by (Some g) h =
        at (it.caller.client == client) refl (nat_lt it.caller.correlation below) refl
        (nat_lt g.caller.correlation it.caller.correlation) refl
      where
        at : (a : Bool) → (it.caller.client == client) ≡ a → (b : Bool)
            → nat_lt it.caller.correlation below ≡ b → (c : Bool)
            → nat_lt g.caller.correlation it.caller.correlation ≡ c
            → cond (a && b && c) (Some it) (Some g) ≡ Some g
        at true e true f true k =
            let le = h (grind (arith, nat_tests, e)) (grind (arith, nat_tests, f)) in
            absurd (grind (arith, nat_tests, k, le))
        at true e true f false k = refl
        at true e false f c k = refl
        at false e b f c k = refl
repeated client below found m h = refl

all_repeated : (client below : ℕ) (found : Option Fetch) (more : List Message)
    → ((m : Message) → Contains more m → IsNoFetch client below m ⊎ IsAbove client below found m)
    → fold (later_fetch client below) found more ≡ found
all_repeated client below found [] h = refl
all_repeated client below found (m ∷ more) h =
    ap (λ x. fold (later_fetch client below) x more)
    (⊎_elim (passed_over client below found m) (repeated client below found m)
    (h m (contains_head m more)))
    ∙ all_repeated client below found more (λ x c. h x (contains_tail m x more c))

-- more messages, each of which is no fetch of the client below the number, or was sent before
pub last_same : (sent more : List Message) (client below : ℕ)
    → ((m : Message) → Contains more m → IsNoFetch client below m ⊎ Contains sent m)
    → last_fetch (sent ++ more) client below ≡ last_fetch sent client below
last_same sent more client below h =
    fold-append (later_fetch client below) None sent more
    ∙ all_repeated client below (last_fetch sent client below) more
    (λ m c. ⊎_elim inl (λ old. inr (above_all client below None sent m (inr old))) (h m c))
