-- What a write that worked says.
use Rattle.std.proofs.Common.{◌≡◌, List, ℕ, Result, Ok, Err, sym, subst, Option, MatchResult, IfOk}
use Rattle.std.specs.Prelude.{IsOk, OnOk}
use Rattle.kx_text.specs.Lines.{LeavesWriter}
use Rattle.kx_text.specs.declared.fault.ScriptFault.{ScriptFault}
use Rattle.kx_text.specs.declared.fault.ScriptFault.TheVariants as fault

-- what holds of an `Ok`, at an `Ok`
pub holds_at_ok : {T E P : Type 0} (r : Result T E) → IsOk r → OnOk r P → P
holds_at_ok (Ok x) o h = h
holds_at_ok (Err e) o h = absurd (cc)

-- what follows from what an `Ok` has
pub on_ok_from : {T E Q : Type 0} (P : T → Type 0) (r : Result T E) → IfOk r P
    → ((a : T) → P a → Q) → OnOk r Q
on_ok_from P (Ok a) h f = f a h
on_ok_from P (Err e) h f = tt

-- a write that worked says what was written
pub says : {T E : Type 0} (P : Type 0) (done : Result T E) (r : Result (Unit {0}) ScriptFault)
    (old new : Option (List ℕ)) → MatchResult r (λ _. IsOk done) (λ f. f ≡ fault.Write)
    → OnOk done P → MatchResult r (λ _. P) (LeavesWriter old new)
says P done (Ok x) old new told h = holds_at_ok done told h
says P done (Err f) old new told h = subst (LeavesWriter old new) (sym told) tt
