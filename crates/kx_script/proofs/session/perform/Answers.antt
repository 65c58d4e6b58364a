use Rattle.std.proofs.Common.{◌≡◌, None, Some, ℤ, subst, rules}
use Rattle.std.specs.Int.{w64}
use Rattle.std.proofs.lemmas.Int.{to_z-of_z}
use Rattle.kx_script.specs.Running.{StandsIn}
use Rattle.kx_script.specs.Script.{Answered, performed}
use Rattle.kx_script.specs.declared.order.Order.{Order}
use Rattle.kx_script.specs.declared.order.Order.TheVariants as order
use Rattle.kx_script.proofs.session.perform.Goals as goal

pub returns-in-Fetch : goal.returns-in-Fetch
returns-in-Fetch g c = λ s st.
    let old = g.W.Write.contents c.args.writer.now in
    let new = g.W.Write.contents c.fetch.new.writer in
    let Stands = StandsIn (Some c.args.running.now) in
    let p = c.in-Fetch.partition in
    let mode = c.in-Fetch.mode in
    let max = c.in-Fetch.max in
    let is : order.Fetch p c.in-Fetch.from mode max ≡ c.args.order = cc in
    subst (λ (o : Order). Answered Stands (performed s o) None old new c.fetch.result) is
    (subst (λ (from : ℤ). Answered Stands (performed s (order.Fetch p from mode max)) None old new
    c.fetch.result) (to_z-of_z w64 c.in-Fetch.from (search rules)) (c.fetch.ensures s st))
