-- The keys of names tell them apart, and traces are found by them.
use Rattle.std.proofs.Common.{◌≡◌, ◌<◌, ◌+◌, ℕ, false, cond, List, Some}
use Rattle.std.proofs.Common.{refl, sym, ap, ◌∙◌, arith, rules}
use Rattle.std.specs.Prelude.{slice_get}
use Rattle.std.specs.Bool.{Decides}
use Rattle.std.specs.Cmp.{unsigned_Decides}
use Rattle.std.specs.Map.{lookup}
use Rattle.std.proofs.lemmas.Bool.{cond-false, cond-true, false_from_ne_true}
use Rattle.kx_audit.specs.Joined.{AreApart}
use Rattle.kx_audit.specs.Keys.{AreIndexed, key_of, same_key}
use Rattle.kx_audit.specs.Making.{NodeMaking}
use Rattle.kx_audit.specs.Receipts.{IsNamed}
use Rattle.kx_audit.specs.Replayed.{Progress, name_at, traces_of, trails_of}
use Rattle.kx_audit.specs.declared.key.NodeKey.{NodeKey}
use Rattle.kx_message.specs.declared.message.NodeId.{NodeId}
use Rattle.kx_message.specs.declared.message.NodeId.TheVariants as node
use Rattle.kx_nodes.specs.declared.receipt.Receipt.{Receipt}
use Rattle.kx_audit.proofs.Places.{more_places}
use Rattle.kx_audit.proofs.Sources.{trail_at}

pub same_decides : (a b : NodeKey) → Decides (same_key a b) (a ≡ b)
same_decides a b = search (rules, unsigned_Decides)

-- names of one key are one
pub one_name : (a b : NodeId) → key_of a ≡ key_of b → a ≡ b
one_name node.Coordinator node.Coordinator e = refl
one_name (node.Partition m) (node.Partition n) e = cc
one_name (node.Client m) (node.Client n) e = cc
one_name node.Coordinator b e = absurd cc
one_name (node.Partition m) b e = absurd cc
one_name (node.Client m) b e = absurd cc

------ traces by the keys of their nodes' names

module _ {B M : Type 0} (making : B → NodeMaking) (nodes : List (Progress B M)) where
  abbrev name_key : Progress B M → NodeKey
  name_key p = key_of (name_at making p)

  -- the first of them are found
  abbrev pub AreIndexedBelow : ℕ → List (NodeKey × ℕ) → Type 0
  AreIndexedBelow n places = (k : ℕ) (p : Progress B M) → k < n → slice_get nodes k ≡ Some p
      → lookup (same_key (name_key p)) places ≡ Some k

  -- one more
  pub index_more : (places more : List (NodeKey × ℕ)) (n : ℕ) (p : Progress B M)
      → AreApart (trails_of making (traces_of nodes)) → AreIndexedBelow n places
      → slice_get nodes n ≡ Some p
      → ((q : NodeKey) → lookup (same_key q) more
      ≡ cond (same_key (name_key p) q) (Some n) (lookup (same_key q) places))
      → AreIndexedBelow (n + 1) more
  index_more places more n p apart indexed at put =
      more_places nodes n p (λ k q. lookup (same_key (name_key q)) more ≡ Some k) at
      (λ k q lt there. put (name_key q)
      ∙ cond-false (same_key (name_key p) (name_key q)) (Some n)
      (lookup (same_key (name_key q)) places) (other k q lt there)
      ∙ indexed k q lt there)
      (put (name_key p)
      ∙ cond-true (same_key (name_key p) (name_key p)) (Some n)
      (lookup (same_key (name_key p)) places)
      ((same_decides (name_key p) (name_key p)).1 refl))
    where
      other : (k : ℕ) (q : Progress B M) → k < n → slice_get nodes k ≡ Some q
          → same_key (name_key p) (name_key q) ≡ false
      other k q lt there =
          false_from_ne_true (same_key (name_key p) (name_key q)) (λ e.
          let same = one_name (name_at making p) (name_at making q)
          ((same_decides (name_key p) (name_key q)).0 e) in
          let one = apart k n _ _ (trail_at making nodes k q there) (trail_at making nodes n p at)
          (sym same) in omega (arith, lt, one))

  -- a receipt of a step of theirs finds its trace
  pub finds : (places : List (NodeKey × ℕ)) (receipt : Receipt) (name : NodeKey)
      → AreIndexed making places nodes → name ≡ key_of receipt.node
      → (is : IsNamed making nodes receipt) → lookup (same_key name) places ≡ Some is.number
  finds places receipt name indexed named is =
      ap (λ k. lookup (same_key k) places) (named ∙ ap key_of is.is.node_is)
      ∙ indexed is.number is.node is.there
