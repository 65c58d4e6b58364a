-- Votes that are counted of a list of what each member votes for.
use Rattle.std.proofs.Common.{◌≡◌, ◌<◌, ℕ, ◌+◌, cond, List, [], ◌∷◌, map, refl, sym, ap, ◌∙◌}
use Rattle.std.proofs.Common.{get_or, length, take}
use Rattle.std.specs.Prelude.{bytes_eq}
use Rattle.std.specs.Borrow.{Bor}
use Rattle.std.specs.List.{fold}
use Rattle.std.proofs.lemmas.List.{get_or-map, length-map}
use Rattle.std.proofs.lemmas.List.Sums.{fold_more}
use Rattle.kx_membership.specs.Internal.Counting.{all_now, better_of, count_of}
use Rattle.kx_membership.specs.Votes.{better, chosen_in, votes}
use Rattle.kx_membership.specs.declared.member.Member.{Member}

folded : {X Y Z : Type 0} (g : Z → Y → Z) (f : X → Y) (xs : List X) (z : Z)
    → fold g z (map f xs) ≡ fold (λ a x. g a (f x)) z xs
folded g f [] z = refl
folded g f (x ∷ xs) z = folded g f xs (g z (f x))

-- as many votes as members that vote so
counted : (vote : Member → List ℕ) (members : List Member) (name : List ℕ)
    → count_of name (map vote members) ≡ votes vote members name
counted vote members name =
    folded (λ a (given : List ℕ). a + cond (bytes_eq given name) 1 0) vote members 0

same_better : (vote : Member → List ℕ) (members : List Member) (best : List ℕ) (m : Member)
    → better_of (map vote members) best (vote m) ≡ better vote members best m
same_better vote members best m =
    rw (counted vote members best, counted vote members (vote m)) refl

same_fold : (vote : Member → List ℕ) (all members : List Member) (best : List ℕ)
    → fold (better_of (map vote all)) best (map vote members) ≡ fold (better vote all) best members
same_fold vote all [] best = refl
same_fold vote all (m ∷ members) best =
    same_fold vote all members (better_of (map vote all) best (vote m))
    ∙ ap (λ b. fold (better vote all) b members) (same_better vote all best m)

-- the name that is chosen by all votes
pub chosen : (vote : Member → List ℕ) (leader : Member) (members : List Member)
    (all : List (List ℕ)) (name : List ℕ) → all ≡ map vote members
    → name ≡ fold (better_of all) (vote leader) all → name ≡ chosen_in vote leader members
chosen vote leader members all name is e =
    e ∙ ap (λ l. fold (better_of l) (vote leader) l) is
    ∙ same_fold vote members members (vote leader)

-- one more vote is looked at
pub best_more : (name : List ℕ) (all : List (Bor (List ℕ))) (i : ℕ) (d : Bor (List ℕ))
    (best next : List ℕ) → i < length all
    → best ≡ fold (better_of (all_now all)) name (take i (all_now all))
    → next ≡ better_of (all_now all) best (get_or all i d).now
    → next ≡ fold (better_of (all_now all)) name (take (i + 1) (all_now all))
best_more name all i d best next within so_far e =
    let votes = all_now all in
    let len : length votes ≡ length all = length-map all (λ (vote : Bor (List ℕ)). vote.now) in
    let read : get_or votes i [] ≡ (get_or all i d).now =
    get_or-map (λ (vote : Bor (List ℕ)). vote.now) all i d [] within in
    e ∙ ap (λ b. better_of votes b (get_or all i d).now) so_far
    ∙ ap (λ v. better_of votes (fold (better_of votes) name (take i votes)) v) (sym read)
    ∙ sym (fold_more (better_of votes) name votes i [] (rw len within))
