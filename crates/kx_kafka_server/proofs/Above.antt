-- Numbers begin above the owners that leave some.
use Rattle.std.proofs.Common.{◌≡◌, ◌+◌, ◌<◌, ◌≤◌, ◌∷◌, [], ℕ, List, true}
use Rattle.std.proofs.Common.{refl, ap, arith, subst}
use Rattle.std.specs.Prelude.{max}
use Rattle.std.proofs.lemmas.Bool.{cond-true, cond_both}
use Rattle.kx_kafka_server.specs.Numbers.{BeginAbove, IsAboveAll, leaves, noted, noted_all}
use Rattle.kx_kafka_server.specs.declared.span.Span.{Span}

goes_on : (s : Span) (owner : ℕ) → s.next ≤ (noted s owner).next
goes_on s owner =
    cond_both (leaves s.blocks owner) (record s { next = max s.next (owner + 1) }) s
    (λ (t : Span). s.next ≤ t.next) (λ e. omega arith) (λ e. omega arith)

same_blocks : (s : Span) (owner : ℕ) → (noted s owner).blocks ≡ s.blocks
same_blocks s owner =
    cond_both (leaves s.blocks owner) (record s { next = max s.next (owner + 1) }) s
    (λ (t : Span). t.blocks ≡ s.blocks) (λ e. refl) (λ e. refl)

above_one : (s : Span) (owner : ℕ) → leaves s.blocks owner ≡ true → owner < (noted s owner).next
above_one s owner e =
    let here : (noted s owner).next ≡ max s.next (owner + 1) =
    ap (λ (t : Span). t.next) (cond-true (leaves s.blocks owner) _ _ e) in
    omega (arith, here)

go_on : (s : Span) (owners : List ℕ) → s.next ≤ (noted_all s owners).next
go_on s [] = omega arith
go_on s (owner ∷ owners) = omega (arith, goes_on s owner, go_on (noted s owner) owners)

above : (s : Span) (owners : List ℕ) → IsAboveAll s.blocks (noted_all s owners).next owners
above s [] = tt
above s (owner ∷ owners) =
    let t : Span = noted s owner in
    let rest : IsAboveAll t.blocks (noted_all t owners).next owners = above t owners in (
      λ e. omega (arith, above_one s owner e, go_on t owners),
      subst (λ (b : ℕ). IsAboveAll b (noted_all t owners).next owners) (same_blocks s owner) rest,
    )

pub begin_above : BeginAbove
begin_above span owners = (above span owners, go_on span owners)
