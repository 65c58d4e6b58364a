use Rattle.std.proofs.Common.{◌≡◌, Some, rules}
use Rattle.kx_publishing.proofs.Showing.{runs_prefix, runs_sent, runs_written}
use Rattle.kx_publishing.proofs.published_machine.PublishedMachine.publish.Goals as goal

pub publish-publisher-requires-clause-written : goal.publish-publisher-requires-clause-written
publish-publisher-requires-clause-written g c =
    let old = c.self.inside in
    let is : old.publisher ≡ Some c.in-Some.publisher = search rules in
    runs_written g.L.Locked.stands g.L.Readable.log g.met.L.Readable.log_is old.locked
    old.publisher c.in-Some.publisher c.self.invariant.0 is

pub publish-publisher-requires-clause-first : goal.publish-publisher-requires-clause-first
publish-publisher-requires-clause-first g c =
    let old = c.self.inside in
    let is : old.publisher ≡ Some c.in-Some.publisher = search rules in
    runs_prefix g.L.Locked.stands g.L.Readable.log g.met.L.Readable.log_is old.locked
    old.publisher c.in-Some.publisher c.self.invariant.0 is

pub invariant_of-self-2 : goal.invariant_of-self-2
invariant_of-self-2 g c =
    let old = c.self.inside in
    let is : old.publisher ≡ Some c.in-Some.publisher = search rules in (
      runs_sent g.L.Locked.stands g.L.Readable.log g.met.L.Readable.log_is old.locked
          old.publisher c.in-Some.publisher c.publish-publisher.result.0
          c.publish-publisher.result.1 c.self.invariant.0 is c.publish-publisher.ensures.sent
          c.publish-publisher.ensures.published,
      search rules,
    )

pub invariant_of-self-in_err-published : goal.invariant_of-self-in_err-published
invariant_of-self-in_err-published g c =
    let old = c.self.inside in
    let is : old.publisher ≡ Some c.in-Some.publisher = search rules in (
      runs_sent g.L.Locked.stands g.L.Readable.log g.met.L.Readable.log_is old.locked
          old.publisher c.in-Some.publisher c.publish-publisher.result.0
          c.publish-publisher.result.1 c.self.invariant.0 is c.publish-publisher.ensures.sent
          c.publish-publisher.ensures.published,
      search rules,
    )
