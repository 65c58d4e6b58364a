-- Which protocols all members offer: those of the leader that all others offer.
use Rattle.std.proofs.Common.{◌≡◌, ℕ, Bool, true, false, ◌&&◌, ◌||◌, cond, List, [], ◌∷◌, map, refl}
use Rattle.std.proofs.Common.{sym, ap, ◌∙◌, is_some, Option, Some, None, ◌<◌, ◌+◌, zero, suc, length}
use Rattle.std.proofs.Common.{get_or, take, arith}
use Rattle.std.specs.Borrow.{Bor}
use Rattle.std.specs.Prelude.{bytes_eq}
use Rattle.std.specs.List.{filter, find}
use Rattle.std.specs.Option.{option_map_or}
use Rattle.std.proofs.lemmas.Slice.Eq.{bytes_eq-Decides}
use Rattle.kx_membership.specs.Internal.Counting.{all_now, first_of, is_listed, offered}
use Rattle.kx_membership.specs.Protocols.{has_protocol, is_named}
use Rattle.kx_membership.specs.Votes.{all_offer, vote_of}
use Rattle.kx_membership.specs.declared.ask.Protocol.{Protocol}
use Rattle.kx_membership.specs.declared.member.Member.{Member}
use Rattle.kx_membership.proofs.Finds.{find_here, find_more}

never : (b : Bool) → (b && false) ≡ false
never true = refl
never false = refl

-- a name is listed of those that pass if it is listed and passes
listed_passing : (name : List ℕ) (passes : List ℕ → Bool) (names : List (List ℕ))
    → is_listed name (filter passes names) ≡ (is_listed name names && passes name)
listed_passing name passes [] = refl
listed_passing name passes (x ∷ names) =
    by (passes x) refl (bytes_eq x name) refl (listed_passing name passes names)
  where
    by : (p : Bool) → passes x ≡ p → (e : Bool) → bytes_eq x name ≡ e
        → is_listed name (filter passes names) ≡ (is_listed name names && passes name)
        → is_listed name (cond p (x ∷ filter passes names) (filter passes names))
        ≡ ((e || is_listed name names) && passes name)
    by true passes_it true same rest =
        let is : x ≡ name = (bytes_eq-Decides x name).0 same in
        rw (same, ap passes (sym is) ∙ passes_it) refl
    by true passes_it false other rest = rw other rest
    by false fails true same rest =
        let is : x ≡ name = (bytes_eq-Decides x name).0 same in
        let none : passes name ≡ false = ap passes (sym is) ∙ fails in
        rest ∙ rw none (never (is_listed name names))
    by false fails false other rest = rest

listed_names : (name : List ℕ) (protocols : List Protocol)
    → is_listed name (map (λ (p : Protocol). p.name) protocols) ≡ has_protocol name protocols
listed_names name [] = refl
listed_names name (p ∷ protocols) = by (bytes_eq p.name name) (listed_names name protocols)
  where
    by : (e : Bool) → is_listed name (map (λ (p : Protocol). p.name) protocols)
        ≡ has_protocol name protocols
        → (e || is_listed name (map (λ (p : Protocol). p.name) protocols))
        ≡ is_some (cond e (Some p) (find (is_named name) protocols))
    by true rest = refl
    by false rest = rest

-- what is offered is what the leader and all members offer
all_listed : (leader : Member) (members : List Member) (name : List ℕ)
    → is_listed name (offered leader members) ≡ all_offer name (leader ∷ members)
all_listed leader members name =
    listed_passing name (λ n. all_offer n members) (map (λ (p : Protocol). p.name) leader.protocols)
    ∙ ap (λ b. b && all_offer name members) (listed_names name leader.protocols)

found_alike : (p q : Protocol → Bool) (xs : List Protocol) → ((x : Protocol) → p x ≡ q x)
    → find p xs ≡ find q xs
found_alike p q [] alike = refl
found_alike p q (x ∷ xs) alike =
    rw (alike x) (ap (λ rest. cond (q x) (Some x) rest) (found_alike p q xs alike))

-- each member votes for the first of its own among them
pub votes_alike : (leader : Member) (members : List Member) (m : Member)
    → first_of (offered leader members) m ≡ vote_of (leader ∷ members) m
votes_alike leader members m =
    ap (λ (o : Option Protocol). option_map_or (λ (p : Protocol). p.name) o [])
    (found_alike (λ p. is_listed p.name (offered leader members))
    (λ p. all_offer p.name (leader ∷ members)) m.protocols
    (λ p. all_listed leader members p.name))

pub map_alike : (leader : Member) (members some : List Member)
    → map (first_of (offered leader members)) some ≡ map (vote_of (leader ∷ members)) some
map_alike leader members [] = refl
map_alike leader members (m ∷ some) =
    rw (votes_alike leader members m, map_alike leader members some) refl

-- one of the names is this one
pub listed_at : (name : List ℕ) (names : List (Bor (List ℕ))) (i : ℕ) (d : Bor (List ℕ))
    → i < length names → bytes_eq (get_or names i d).now name ≡ true
    → true ≡ is_listed name (all_now names)
listed_at name [] i d within same = absurd (omega arith)
listed_at name (x ∷ names) zero d within same = rw same refl
listed_at name (x ∷ names) (suc i) d within same =
    by (bytes_eq x.now name) (listed_at name names i d (omega arith) same)
  where
    by : (b : Bool) → true ≡ is_listed name (all_now names)
        → true ≡ (b || is_listed name (all_now names))
    by true rest = refl
    by false rest = rest

-- the first protocol whose name is listed
pub first_here : (names : List (List ℕ)) (m : Member) (items : List Protocol) (i : ℕ) (p : Protocol)
    (text result : List ℕ) (b : Bool) → items ≡ m.protocols → i < length items
    → find (λ (q : Protocol). is_listed q.name names) (take i items) ≡ None → p ≡ get_or items i p
    → text ≡ p.name → b ≡ is_listed text names → b ≡ true → result ≡ p.name
    → result ≡ first_of names m
first_here names m items i p text result b its within before here of listed is e =
    let passes : is_listed p.name names ≡ true =
    ap (λ t. is_listed t names) (sym of) ∙ sym listed ∙ is in
    let found = find_here (λ (q : Protocol). is_listed q.name names) items i p within before here
    passes in
    e ∙ sym (ap (λ (o : Option Protocol). option_map_or (λ (q : Protocol). q.name) o []) found)
    ∙ ap (λ (ps : List Protocol). option_map_or (λ (q : Protocol). q.name)
    (find (λ (q : Protocol). is_listed q.name names) ps) []) its

pub first_more : (names : List (List ℕ)) (items : List Protocol) (i : ℕ) (p : Protocol)
    (text : List ℕ) (b : Bool) → i < length items
    → find (λ (q : Protocol). is_listed q.name names) (take i items) ≡ None → p ≡ get_or items i p
    → text ≡ p.name → b ≡ is_listed text names → b ≡ false
    → find (λ (q : Protocol). is_listed q.name names) (take (i + 1) items) ≡ None
first_more names items i p text b within before here of listed is =
    find_more (λ (q : Protocol). is_listed q.name names) items i p within before here
    (ap (λ t. is_listed t names) (sym of) ∙ sym listed ∙ is)
