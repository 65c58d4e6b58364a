use Rattle.std.proofs.Common.{◌≡◌, ◌+◌, length}
use Rattle.kx_watch.proofs.events.watch_all.Given as goal

abbrev pub invariant-loop-event : goal.invariant-loop-event
invariant-loop-event l = length l.watched ≡ length l.fn.watched + l.event-index
