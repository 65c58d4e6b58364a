use Rattle.std.proofs.Common.{◌≡◌, Some, length, refl, arith}
use Rattle.std.proofs.lemmas.List.{length-map}
use Rattle.std.specs.Prelude.{slice_get}
use Rattle.std.proofs.lemmas.Option.{slice_get_read, slice_get_within}
use Rattle.kx_audit.specs.Making.{trail_of}
use Rattle.kx_audit.specs.Replayed.{trails_of}
use Rattle.kx_audit.specs.Schedule.{Fits}
use Rattle.kx_audit.proofs.Places.{more_places, to_map}
use Rattle.kx_audit.proofs.fits.traces_fit.Goals as goal

pub loop-trace-preserved : goal.loop-trace-preserved
loop-trace-preserved g c =
    let making = g.B.Tells.making in
    let traces = c.args.traces.now in
    let n = c.loop-trace.trace-index in
    let t = c.trace-item.result in
    let at : slice_get traces n ≡ Some t =
    slice_get_read traces (length traces) n t refl (omega arith) c.trace-item.is in
    more_places (trails_of making traces) n (trail_of making t) (λ k u. Fits u)
    (to_map (trail_of making) traces n t at) c.loop-trace.invariant c.trace_fits.ensures

pub returns : goal.returns
returns g c = λ k t at.
    let trails = trails_of g.B.Tells.making c.args.traces.now in
    let lt = slice_get_within trails k t at in
    let same = length-map c.args.traces.now (trail_of g.B.Tells.making) in
    c.loop-trace.invariant k t (omega (arith, lt, same)) at
