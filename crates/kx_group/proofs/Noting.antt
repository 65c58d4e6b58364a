-- Noting the offsets that the records of a batch say, one after the other.
use Rattle.std.proofs.Common.{◌≡◌, ◌≤◌, ◌+◌, ◌^◌, ℕ, Option, Some, None, List, ◌∷◌}
use Rattle.std.proofs.Common.{length, refl, sym, ap, ◌∙◌, subst, arith}
use Rattle.std.specs.Prelude.{filter_map}
use Rattle.std.specs.List.{cons_option}
use Rattle.std.proofs.lemmas.Bool.{cond_both}
use Rattle.kx_varint.specs.Text.{◌>>=◌}
use Rattle.kx_batch.specs.Record.{Record}
use Rattle.kx_commits.specs.Follows.{said_in}
use Rattle.kx_commits.specs.Kept.{Kept, Said, SameKept, Slot, is_for, noted, noted_all, waits}
use Rattle.kx_commits.specs.Table.{Table, kept_of, room_for}
use Rattle.kx_model.specs.Groups.{Fact, fact_of}
use Rattle.kx_group.specs.Internal.Commits.{MayWait, said_by, said_of}
use Rattle.kx_group.proofs.Same.{kept_is}

------ what the records say

module _ (at : ℕ) (r : Record) (rest : List Record) where
  abbrev facts : List Fact
  facts = filter_map fact_of rest

  pub says_one : (said : Said) → said_by at r ≡ Some said
      → said_of at (r ∷ rest) ≡ said ∷ said_of at rest
  says_one said e = by (fact_of r) e
    where
      by : (fact : Option Fact) → (fact >>= said_in at) ≡ Some said
          → filter_map (said_in at) (cons_option fact facts) ≡ said ∷ filter_map (said_in at) facts
      by None e = absurd cc
      by (Some f) e = ap (λ o. cons_option o (filter_map (said_in at) facts)) e

  pub says_none : said_by at r ≡ None → said_of at (r ∷ rest) ≡ said_of at rest
  says_none e = by (fact_of r) e
    where
      by : (fact : Option Fact) → (fact >>= said_in at) ≡ None
          → filter_map (said_in at) (cons_option fact facts) ≡ filter_map (said_in at) facts
      by None e = refl
      by (Some f) e = ap (λ o. cons_option o (filter_map (said_in at) facts)) e

------ how many wait

pub waits_one : (kept : Kept) (id : ℕ) (said : Said) (count : ℕ) → MayWait kept (count + 1)
    → MayWait (noted id said kept) count
waits_one kept id said count may = record {
  few = λ group partition.
      cond_both (is_for group partition said) (waits (kept.slot group partition))
      (kept.slot group partition) (λ (slot : Slot). slot.pending + count ≤ 2 ^ 63)
      (λ e. omega (arith, may.few group partition)) (λ e. omega (arith, may.few group partition));
}

pub waits_fewer : (kept : Kept) (count fewer : ℕ) → MayWait kept count → fewer ≤ count
    → MayWait kept fewer
waits_fewer kept count fewer may le =
    record { few = λ group partition. omega (arith, may.few group partition, le) }

------ one record after the other

-- what is left to be noted makes of what is kept now what all records make of what was kept
pub record IsNoting (all rest : List Record) (id at : ℕ) (old now : Table) : Type 0 where
  pub same : noted_all id (said_of at rest) (kept_of now)
      ≡ noted_all id (said_of at all) (kept_of old)
  pub room : length rest ≤ room_for now id
  pub few : MayWait (kept_of now) (length rest)

module _ (all : List Record) (r : Record) (rest : List Record) (id at : ℕ) (old now : Table)
    (n : IsNoting all (r ∷ rest) id at old now) where
  pub noted_one : (said : Said) (new : Table) → said_by at r ≡ Some said
      → SameKept (kept_of new) (noted id said (kept_of now))
      → room_for now id ≤ room_for new id + 1 → IsNoting all rest id at old new
  noted_one said new says same room =
      let is = kept_is (kept_of new) (noted id said (kept_of now)) same in
      record {
        same = ap (noted_all id (said_of at rest)) is
            ∙ ap (λ s. noted_all id s (kept_of now)) (sym (says_one at r rest said says)) ∙ n.same;
        room = omega (arith, n.room, room);
        few = subst (λ k. MayWait k (length rest)) (sym is)
            (waits_one (kept_of now) id said (length rest)
            (waits_fewer (kept_of now) (length (r ∷ rest)) (length rest + 1) n.few (omega arith)));
      }

  pub noted_none : said_by at r ≡ None → IsNoting all rest id at old now
  noted_none says = record {
    same = ap (λ s. noted_all id s (kept_of now)) (sym (says_none at r rest says)) ∙ n.same;
    room = omega (arith, n.room);
    few = waits_fewer (kept_of now) (length (r ∷ rest)) (length rest) n.few (omega arith);
  }
