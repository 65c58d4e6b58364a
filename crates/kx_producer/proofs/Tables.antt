-- The table of producers as a finite map, against the hash map that holds it.
use Rattle.std.proofs.Common.{◌≡◌, ◌==◌, ℕ, Bool, true, false, cond, nat_lt, List, [], ◌∷◌, Option}
use Rattle.std.proofs.Common.{Some, None, is_some, refl, sym, ap, ◌∙◌, ◌<◌, ◌&&◌, arith, unwrap_or}
use Rattle.std.proofs.Common.{Equal, Greater, Less}
use Rattle.std.specs.Ordering.{eq_by_cmp, is_eq, nat_cmp}
use Rattle.std.specs.Cmp.{nat_cmp_total}
use Rattle.std.specs.FinMap.{find, from_entries, get-from_entries, get-insert, insert}
use Rattle.std.specs.FinMap.{nat_cmp-IsAntisymmetric, same_map}
use Rattle.std.specs.Map.{lookup}
use Rattle.std.proofs.lemmas.Bool.Decides.{nat_tests}
use Rattle.kx_producer.specs.Known.{Known, Table, fresh, known_of, known_or_fresh}

pub same_test : (a b : ℕ) → eq_by_cmp nat_cmp a b ≡ (a == b)
same_test a b = at (nat_lt a b) (a == b) refl refl
  where
    at : (less equal : Bool) → nat_lt a b ≡ less → (a == b) ≡ equal
        → is_eq (cond less Less (cond equal Equal Greater)) ≡ equal
    at true true e f = absurd (grind (arith, nat_tests))
    at true false e f = refl
    at false true e f = refl
    at false false e f = refl

found_by : (entries : List (ℕ × Known)) (id : ℕ)
    → find nat_cmp id entries ≡ lookup (λ k. id == k) entries
found_by [] id = refl
found_by (e ∷ entries) id =
    ap (λ b. cond b (Some e.1) (find nat_cmp id entries)) (same_test id e.0)
    ∙ ap (cond (id == e.0) (Some e.1)) (found_by entries id)

-- what is known of an id is what the hash map has of it
pub known_of_entries : (entries : List (ℕ × Known)) (id : ℕ)
    → known_of (from_entries entries) id ≡ lookup (λ k. id == k) entries
known_of_entries entries id = get-from_entries nat_cmp_total entries id ∙ found_by entries id

swapped : (a b : ℕ) → (a == b) ≡ (b == a)
swapped a b = at (a == b) (b == a) refl refl
  where
    at : (s t : Bool) → (a == b) ≡ s → (b == a) ≡ t → s ≡ t
    at true true e f = refl
    at true false e f = absurd (grind (arith, nat_tests))
    at false true e f = absurd (grind (arith, nat_tests))
    at false false e f = refl

-- an entry of the hash map is written, or comes
pub entry_written : (before after : List (ℕ × Known)) (id : ℕ) (known : Known)
    → ((q : ℕ) → lookup (λ k. q == k) after
    ≡ cond (id == q) (Some known) (lookup (λ k. q == k) before))
    → from_entries {R = nat_cmp} after ≡ insert (from_entries before) id known
entry_written before after id known written =
    same_map nat_cmp_total nat_cmp-IsAntisymmetric _ _ (λ q.
    known_of_entries after q ∙ written q
    ∙ ap (cond (id == q) (Some known)) (sym (known_of_entries before q))
    ∙ ap (λ b. cond b (Some known) (known_of (from_entries before) q))
    (swapped id q ∙ sym (same_test q id))
    ∙ sym (get-insert nat_cmp_total (from_entries before) id known q))

-- the order of the hash map's entries doesn't matter
pub entries_reordered : (before after : List (ℕ × Known))
    → ((q : ℕ) → lookup (λ k. q == k) after ≡ lookup (λ k. q == k) before)
    → from_entries {R = nat_cmp} after ≡ from_entries before
entries_reordered before after same =
    same_map nat_cmp_total nat_cmp-IsAntisymmetric _ _ (λ q.
    known_of_entries after q ∙ same q ∙ sym (known_of_entries before q))

-- what is known of an id is changed, in the hash map as in the table
pub entry_changed : (before after : List (ℕ × Known)) (table : Table) (id epoch : ℕ)
    (known new : Known) (change : Known → Known) → from_entries before ≡ table
    → unwrap_or (lookup (λ k. id == k) before) (fresh epoch) ≡ known → new ≡ change known
    → ((q : ℕ) → lookup (λ k. q == k) after
    ≡ cond (id == q) (Some new) (lookup (λ k. q == k) before))
    → from_entries after ≡ insert table id (change (known_or_fresh table id epoch))
entry_changed before after table id epoch known new change held there changed written =
    entry_written before after id new written
    ∙ ap (λ k. insert (from_entries before) id k) (changed ∙ ap change
    (sym there ∙ ap (λ o. unwrap_or o (fresh epoch)) (sym (known_of_entries before id))))
    ∙ ap (λ t. insert t id (change (known_or_fresh t id epoch))) held

-- an id is known if the hash map has it
pub known_where : (entries : List (ℕ × Known)) (table : Table) (id : ℕ)
    → from_entries entries ≡ table
    → is_some (known_of table id) ≡ is_some (lookup (λ k. id == k) entries)
known_where entries table id held =
    ap (λ t. is_some (known_of t id)) (sym held) ∙ ap is_some (known_of_entries entries id)

pub none_there : {A : Type 0} (o : Option A) → is_some o ≡ false → o ≡ None
none_there None e = refl
none_there (Some x) e = absurd (cc)

-- nothing is known of an id that the hash map hasn't
pub unknown_there : (entries : List (ℕ × Known)) (table : Table) (id : ℕ)
    → from_entries entries ≡ table → lookup (λ k. id == k) entries ≡ None
    → known_of table id ≡ None
unknown_there entries table id held none =
    ap (λ t. known_of t id) (sym held) ∙ known_of_entries entries id ∙ none

-- there is no room if the hash map has none, or no buffer is ready
pub no_spare : (spare : ℕ) (ready : Bool) → (0 < spare → ⊥) → (nat_lt 0 spare && ready) ≡ false
no_spare spare ready none =
    let empty : nat_lt 0 spare ≡ false = grind (arith, nat_tests) in ap (λ b. b && ready) empty

pub no_buffer : (spare : ℕ) (ready : Bool) → (ready ≡ true → ⊥)
    → (nat_lt 0 spare && ready) ≡ false
no_buffer spare true none = absurd (none refl)
no_buffer spare false none = at (nat_lt 0 spare)
  where
    at : (b : Bool) → (b && false) ≡ false
    at true = refl
    at false = refl
