use Rattle.std.proofs.Common.{◌≡◌, ℕ, List, [], None, Some, IfSome, Option, subst}
use Rattle.std.specs.Io.KnownBytes.{IsAtEnd}
use Rattle.kx_text.proofs.reads.CountedReads.look.Goals as goal

-- if nothing is shown, nothing is left
at-end : (known : Option (List ℕ)) (P : Type 0) → IfSome known (λ xs. P → xs ≡ []) → P
    → IsAtEnd known
at-end None P end none = tt
at-end (Some xs) P end none = end none

pub returns-clause-end : goal.returns-clause-end
returns-clause-end g c =
    λ none. subst (λ reader. IsAtEnd (g.R.Read.remaining reader)) c.count_if_used_up.ensures.reader
    (at-end _ _ c.in_ok-self.ensures.end none)
