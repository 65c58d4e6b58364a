-- Traces that are run again, one after the other.
use Rattle.std.proofs.Common.{◌≡◌, ◌+◌, ◌++◌, ℕ, List, [], ◌∷◌, length, sym, ap, ◌∙◌}
use Rattle.std.proofs.Common.{⊎_elim, append-nil, arith, subst}
use Rattle.std.proofs.lemmas.List.{append_assoc, map-append, nil_from_length}
use Rattle.kx_audit.specs.Making.{NodeMaking}
use Rattle.kx_audit.specs.Merged.{AreBegun, AreFresh}
use Rattle.kx_audit.specs.Replayed.{AreReplayed, IsBegun, IsReplayed, Progress, traces_of}
use Rattle.kx_machine.specs.Meaning.{NodeState}
use Rattle.kx_nodes.specs.Replay.{Traced}
use Rattle.kx_audit.proofs.Places.{get_more}

module _ {B M : Type 0} (making : B → NodeMaking) (stands : NodeState → M → Type 0) where
  -- so many of the traces are left
  pub record AreBeginning (traces : List (Traced B)) (nodes : List (Progress B M))
      (rest : List (Traced B)) (count : ℕ) : Type 0 where
    pub traces_are : traces_of nodes ++ rest ≡ traces
    pub count_is : count ≡ length rest
    pub fresh : AreFresh nodes
    pub replayed : AreReplayed making stands nodes

  pub begins : (traces rest : List (Traced B)) (count : ℕ) → rest ≡ traces → count ≡ length traces
      → AreBeginning traces [] rest count
  begins traces rest count same is = record {
    traces_are = same;
    count_is = is ∙ ap (λ (l : List (Traced B)). length l) (sym same);
    fresh = λ k p at. absurd cc;
    replayed = λ k p at. absurd cc;
  }

  pub begins_more : (traces : List (Traced B)) (nodes : List (Progress B M))
      (rest more : List (Traced B)) (count less : ℕ) (trace : Traced B) (p : Progress B M)
      → AreBeginning traces nodes rest count → rest ≡ trace ∷ more → less + 1 ≡ count
      → IsBegun making stands trace p → AreBeginning traces (nodes ++ p ∷ []) more less
  begins_more traces nodes rest more count less trace p are next fewer is = record {
    traces_are =
        ap (λ (l : List (Traced B)). l ++ more)
        (map-append (λ (q : Progress B M). q.trace) nodes (p ∷ [])
        ∙ ap (λ (t : Traced B). traces_of nodes ++ t ∷ []) is.trace_is)
        ∙ append_assoc (traces_of nodes) (trace ∷ []) more
        ∙ ap (λ (l : List (Traced B)). traces_of nodes ++ l) (sym next)
        ∙ are.traces_are;
    count_is = (
        let n = ap (λ (l : List (Traced B)). length l) next in
        let c = are.count_is in omega (arith, n, c, fewer));
    fresh = λ k q at.
        ⊎_elim (λ before. are.fresh k q before)
        (λ (same : p ≡ q). ap (λ (x : Progress B M). x.done) (sym same) ∙ is.done_is)
        (get_more nodes p k q at);
    replayed = λ k q at.
        ⊎_elim (λ before. are.replayed k q before)
        (λ same. subst (IsReplayed making stands) same is.replayed)
        (get_more nodes p k q at);
  }

  pub have_begun : (traces : List (Traced B)) (nodes : List (Progress B M))
      (rest : List (Traced B)) (count : ℕ) → AreBeginning traces nodes rest count → count ≡ 0
      → AreBegun making stands traces nodes
  have_begun traces nodes rest count are none = record {
    traces_are =
        sym (append-nil (traces_of nodes))
        ∙ ap (λ (l : List (Traced B)). traces_of nodes ++ l)
        (sym (nil_from_length rest (let c = are.count_is in omega (arith, c, none))))
        ∙ are.traces_are;
    fresh = are.fresh;
    replayed = are.replayed;
  }
