use Rattle.std.proofs.Common.{rules, ◌-◌, ℕ, subst}
use Rattle.kx_server.proofs.Queues.{bounded_rest}
use Rattle.kx_server.specs.Queues.{IsBounded}
use Rattle.kx_server.proofs.queue.Queue.pop.Goals as goal

-- src/queue.rt:93:5
pub invariant_of-self-2 : goal.invariant_of-self-2
invariant_of-self-2 c =
    let bytes = c.self.inside.bytes in
    let rest = c.pop_front.new.self.items in
    let all = c.self.inside.messages.items in
    subst (λ (len : ℕ). IsBounded rest (bytes - len)) (search rules)
    (bounded_rest c.in_ok-message.message all rest bytes (search rules) c.self.invariant)
