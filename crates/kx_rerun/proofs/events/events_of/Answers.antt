use Rattle.std.proofs.Common.{◌≡◌, ◌<◌, ◌≤◌, [], List, Some, ap, append-nil, arith, get_or, length}
use Rattle.std.proofs.Common.{subst, sym}
use Rattle.std.specs.Prelude.{slice_get}
use Rattle.std.proofs.lemmas.Option.{slice_get-get_or}
use Rattle.kx_audit.specs.declared.turn.Turn.{Turn}
use Rattle.kx_cluster.specs.Any.{any_making}
use Rattle.kx_core.specs.declared.event.Event.{Event}
use Rattle.kx_machines.specs.Any.{any_stands}
use Rattle.kx_rerun.specs.Events.{LeadTo}
use Rattle.kx_rerun.proofs.Leading.{lead_to}
use Rattle.kx_rerun.proofs.Passing.{passing_all, passing_more, some_at}
use Rattle.kx_rerun.proofs.events.events_of.Goals as goal

pub loop-turn-init : goal.loop-turn-init
loop-turn-init g c = λ given s yes. record {
  steps = [];
  events_are = sym (append-nil c.in_ok-events.events.items);
  are = tt;
  sent_is = c.new-sent.ensures;
}

pub loop-turn-preserved : goal.loop-turn-preserved
loop-turn-preserved g c = λ given s yes.
    let run = c.args.run.now in
    let n = c.loop-turn.turn-index in
    let turns = c.turns-turns.result.now in
    let same : turns ≡ run.turns = c.turns-turns.ensures in
    let lt : n < length turns = c.loop-turn-test.true in
    let count = ap (λ (l : List Turn). length l) same in
    let told = some_at run.told n (omega (arith, lt, count, yes.turns.count)) in
    let first : Turn = record { trace = 0; step = 0 } in
    let turn : Turn = get_or turns n first in
    let at : slice_get run.turns n ≡ Some turn =
    subst (λ (l : List Turn). slice_get l n ≡ Some turn) same (slice_get-get_or turns n first lt) in
    passing_more run.traces run.turns run.told n turn told.0 c.in_ok-events.events.items
    c.loop-turn.events.items c.add_step.new.events.items c.loop-turn.sent c.add_step.new.sent at
    told.1 (c.loop-turn.invariant given s yes)
    (c.in_ok-add_step.ensures n told.0 at told.1 (yes.turns.each n turn told.0 at told.1))

pub returns : goal.returns
returns g c = λ given s yes.
    let run = c.args.run.now in
    let image_of = g.F.Process.image_of in
    let made = c.in_ok-events.events.items in
    let count = ap (λ (l : List Turn). length l) c.turns-turns.ensures in
    let over : length c.turns-turns.result.now ≤ c.loop-turn.turn-index = c.loop-turn-test.false in
    let passing = passing_all run.traces run.turns run.told c.loop-turn.turn-index made
    c.loop-turn.events.items c.loop-turn.sent (omega (arith, over, count))
    (omega (arith, over, count, yes.turns.count)) (c.loop-turn.invariant given s yes) in
    subst (λ (l : List (Event _)). LeadTo image_of l s) (sym passing.events_are)
    (lead_to image_of (any_making image_of) (any_stands image_of) run given s yes made
    passing.steps c.in_ok-events.ensures.makings c.in_ok-events.ensures.ordered passing.are)
