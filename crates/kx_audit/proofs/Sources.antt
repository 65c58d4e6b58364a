-- The traces of one node, and the messages that traces take in.
use Rattle.std.proofs.Common.{◌≡◌, ◌<◌, ℕ, List, Some, sym, ap, ◌∙◌, ⊎_elim}
use Rattle.std.specs.Prelude.{slice_get, length, take}
use Rattle.std.proofs.lemmas.Bool.{cases_order}
use Rattle.std.proofs.lemmas.Option.{slice_get_within}
use Rattle.kx_audit.specs.Joined.{AreApart}
use Rattle.kx_audit.specs.Making.{NodeMaking, Trail, named, trail_of}
use Rattle.kx_audit.specs.Origins.{HasName}
use Rattle.kx_audit.specs.Refused.{HaveTwins}
use Rattle.kx_audit.specs.Replayed.{Progress, name_at, traces_of, trails_of}
use Rattle.kx_audit.proofs.Places.{from_map, in_take, to_map, to_take}

module _ {B M : Type 0} (making : B → NodeMaking) where
  pub trail_at : (nodes : List (Progress B M)) (k : ℕ) (p : Progress B M)
      → slice_get nodes k ≡ Some p
      → slice_get (trails_of making (traces_of nodes)) k ≡ Some (trail_of making p.trace)
  trail_at nodes k p at =
      to_map (trail_of making) (traces_of nodes) k p.trace (to_map (λ q. q.trace) nodes k p at)

  pub record IsTrailOf (nodes : List (Progress B M)) (k : ℕ) (t : Trail) : Type 0 where
    pub node : Progress B M
    pub there : slice_get nodes k ≡ Some node
    pub trail_is : trail_of making node.trace ≡ t

  pub at_trail : (nodes : List (Progress B M)) (k : ℕ) (t : Trail)
      → slice_get (trails_of making (traces_of nodes)) k ≡ Some t → IsTrailOf nodes k t
  at_trail nodes k t at =
      let outer = from_map (trail_of making) (traces_of nodes) k t at in
      let inner = from_map (λ (q : Progress B M). q.trace) nodes k outer.0 outer.1 in
      record {
        node = inner.0;
        there = inner.1;
        trail_is = ap (trail_of making) inner.2 ∙ outer.2;
      }

  pub twins : (nodes : List (Progress B M)) (k : ℕ) (q : Progress B M)
      → slice_get nodes k ≡ Some q → HasName making (take k nodes) (name_at making q)
      → HaveTwins (trails_of making (traces_of nodes))
  twins nodes k q at has =
      let first = in_take nodes k has.number has.node has.there in
      record {
        first = has.number;
        second = k;
        one = trail_of making has.node.trace;
        other = trail_of making q.trace;
        apart = first.0;
        one_is = trail_at nodes has.number has.node first.1;
        other_is = trail_at nodes k q at;
        same = has.named_so;
      }

  -- no two of the first nodes have one name
  abbrev pub AreApartBelow : ℕ → List (Progress B M) → Type 0
  AreApartBelow n nodes = (k : ℕ) (q : Progress B M) → k < n → slice_get nodes k ≡ Some q
      → HasName making (take k nodes) (name_at making q) → ⊥

  apart_at : (nodes : List (Progress B M)) → AreApartBelow (length nodes) nodes → (j k : ℕ)
      (p q : Progress B M) → slice_get nodes j ≡ Some p → slice_get nodes k ≡ Some q
      → name_at making p ≡ name_at making q → j < k → ⊥
  apart_at nodes apart j k p q pat qat same lt =
      apart k q (slice_get_within nodes k q qat) qat (record {
        number = j;
        node = p;
        there = to_take nodes k j p lt pat;
        named_so = same;
      })

  pub all_apart : (nodes : List (Progress B M)) → AreApartBelow (length nodes) nodes
      → AreApart (trails_of making (traces_of nodes))
  all_apart nodes apart j k t u tat uat same =
      let p = at_trail nodes j t tat in
      let q = at_trail nodes k u uat in
      let e : name_at making p.node ≡ name_at making q.node =
      ap (λ (x : Trail). named x.made) p.trail_is
      ∙ same ∙ sym (ap (λ (x : Trail). named x.made) q.trail_is) in
      ⊎_elim
      (λ (e : j ≡ k). e)
      (λ far. ⊎_elim
      (λ (lt : j < k). absurd (apart_at nodes apart j k p.node q.node p.there q.there e lt))
      (λ (gt : k < j). absurd (apart_at nodes apart k j q.node p.node q.there p.there (sym e) gt))
      far)
      (cases_order j k)
