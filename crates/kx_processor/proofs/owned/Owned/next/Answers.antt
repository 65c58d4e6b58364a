use Rattle.std.proofs.Common.{◌≡◌, ◌∙◌, ◌∷◌, ◌<◌, ◌+◌, ◌%◌, sym, ap, subst, true, false}
use Rattle.kx_processor.specs.Internal.{left_of}
use Rattle.kx_processor.specs.declared.owned.Owned.{Owned}
use Rattle.kx_processor.proofs.Lefts as left
use Rattle.kx_system.specs.Processor.{owns}
use Rattle.kx_processor.proofs.owned.Owned.next.Goals as goal

abbrev behind : Owned → Owned
behind o = record o { from = o.from + 1 }

-- src/owned.rt:40:17
pub returns-then-from-self : goal.returns-then-from-self
returns-then-from-self c =
    let o = c.loop-self.self in
    let below : o.from < o.inputs =
    subst (λ n. o.from < n) c.get.ensures.value c.loop-self-test.true in
    let own : owns o.number o.count o.from ≡ true =
    left.its o.number o.count o.from c.if-self-ne0.true
    (ap (λ n. n % o.count) (sym c.from.ensures) ∙ c.if-from-self.true) in
    c.loop-self.invariant ∙ left.taken (owns o.number o.count) o.from o.inputs below own
    ∙ ap (λ n. n ∷ left_of (behind o)) (sym c.of.ensures)

-- src/owned.rt:36:9
pub loop-self-preserved : goal.loop-self-preserved
loop-self-preserved c =
    let o = c.loop-self.self in
    let below : o.from < o.inputs =
    subst (λ n. o.from < n) c.get.ensures.value c.loop-self-test.true in
    c.loop-self.invariant
    ∙ left.passed (owns o.number o.count) o.from o.inputs below
    (elim c.else-self-ne0.branch [
      | goal.else-self-ne0-via-then-self-ne0+else-from-self w ↦
          left.anothers o.number o.count o.from
          (λ is. w.if-from-self.false (ap (λ n. n % o.count) w.from.ensures ∙ is))
      | goal.else-self-ne0-via-else-self-ne0 w ↦
          subst (λ n. owns o.number n o.from ≡ false) (sym w.if-self-ne0.false)
          (left.nobodys o.number o.from)
    ])
