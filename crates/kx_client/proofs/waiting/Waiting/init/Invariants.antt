use Rattle.std.proofs.Common.{◌≡◌, false, take}
use Rattle.std.specs.List.{list_any}
use Rattle.kx_model.specs.Client.{is_init}
use Rattle.kx_client.proofs.waiting.Waiting.init.Given as goal

abbrev pub invariant-loop-request : goal.invariant-loop-request
invariant-loop-request l = list_any is_init (take l.request-index l.request-items) ≡ false
