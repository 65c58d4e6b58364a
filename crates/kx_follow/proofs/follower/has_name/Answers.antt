use borrow.Author.Count.{below_more}
use Rattle.std.proofs.Common.{◌≡◌, ◌∙◌, ◌+◌, ◌<◌, ℕ, List, Some, arith, get_or, length, refl, rules}
use Rattle.std.proofs.Common.{subst, sym}
use Rattle.std.specs.Prelude.{slice_get}
use Rattle.std.proofs.lemmas.Option.{same_Some, slice_get_read, slice_get_within}
use Rattle.kx_audit.specs.Making.{NodeMaking}
use Rattle.kx_follow.specs.Following.{Followed, name_of}
use Rattle.kx_message.specs.declared.message.NodeId.{NodeId}
use Rattle.kx_follow.proofs.follower.has_name.Goals as goal

-- none of the first has this name, and the next hasn't it either
no_more : {B M : Type 0} (making : B → NodeMaking) (nodes : List (Followed B M)) (i : ℕ)
    (item : Followed B M) (name : NodeId)
    → ((k : ℕ) (n : Followed B M) → k < i → slice_get nodes k ≡ Some n
    → name_of making n ≡ name → ⊥)
    → i < length nodes → item ≡ get_or nodes i item → (name_of making item ≡ name → ⊥)
    → (k : ℕ) (n : Followed B M) → k < i + 1 → slice_get nodes k ≡ Some n
    → name_of making n ≡ name → ⊥
no_more making nodes i item name below lt is apart k n le at e =
    below_more
    (λ j. (m : Followed _ _) → slice_get nodes j ≡ Some m → name_of making m ≡ name → ⊥) i
    (λ j less m there. below j m less there)
    (λ m there same.
    let here = slice_get_read nodes (length nodes) i item refl lt is in
    apart (subst (λ (x : Followed _ _). name_of making x ≡ name)
    (same_Some m item (sym there ∙ here)) same))
    k le n at e

pub loop-node-preserved : goal.loop-node-preserved
loop-node-preserved g c =
    let apart : c.name.result ≡ c.args.name → ⊥ = search rules in
    record {
      new = no_more g.B.Tells.making c.args.nodes.now c.loop-node.node-index c.node-item.result
          c.args.name c.loop-node.invariant.new c.loop-node-test.true c.node-item.is
          (λ e. apart (c.name.ensures.name ∙ e));
    }

pub returns-clause-new : goal.returns-clause-new
returns-clause-new g c = λ no k n at.
    c.loop-node.invariant.new k n
    (omega (arith, slice_get_within c.args.nodes.now k n at, c.loop-node-test.false)) at
