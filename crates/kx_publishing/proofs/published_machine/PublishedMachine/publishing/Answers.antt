use Rattle.std.proofs.Common.{Bool, List, ◌++◌, Some, ap, rules, subst}
use Rattle.kx_model.specs.Log.{Stored}
use Rattle.kx_publishing.proofs.Opening.{IsNew, opened}
use Rattle.kx_publishing.proofs.Showing.{runs_with}
use Rattle.kx_publishing.specs.Publishing.{Shows}
use Rattle.kx_publishing.proofs.published_machine.PublishedMachine.publishing.Goals as goal

pub invariant_of-machine : goal.invariant_of-machine
invariant_of-machine g c =
    let wrote = c.requires.wrote in
    let log = g.L.Readable.log c.args.locked in
    let done = c.in_ok-publisher.publisher in (
      runs_with g.L.Locked.stands g.L.Readable.log g.met.L.Readable.log_is c.args.locked wrote.0
          wrote.1 wrote.2 done
          (log, ap (λ (l : List Stored). l ++ log) c.in_ok-publisher.ensures.first.2)
          (log, ap (λ (l : List Stored). l ++ log) c.in_ok-publisher.ensures.first.3),
      search rules,
    )

pub returns-then-show-clause-published : goal.returns-then-show-clause-published
returns-then-show-clause-published g c =
    let log = g.L.Readable.log c.args.locked in
    let first = c.in_ok-publisher.publisher in
    let after = c.show.new.self.published in
    let new : IsNew c.args.opened.partition first = record {
      partition_is = search rules;
      logs = c.in_ok-publisher.ensures.first.1;
      shown = c.in_ok-publisher.ensures.first.3;
      failed = c.in_ok-publisher.ensures.counted;
    } in
    opened c.args.opened.partition log first after new
    (subst (λ (b : Bool). Shows b log (Some first) after) c.if-show.true c.show.ensures.shows)
    c.show.ensures.quiet
