use Rattle.std.proofs.Common.{◌≡◌, ◌∙◌, Bool, Option, Some, rules, subst, sym, true≢false}
use Rattle.kx_publishing.specs.Publishing.{UnderLock, Shows}
use Rattle.kx_published.specs.declared.publisher.Done.{Done}
use Rattle.kx_publishing.proofs.Showing.{runs_prefix, runs_sent, runs_written, shows_told}
use Rattle.kx_publishing.proofs.published_machine.PublishedMachine.show.Goals as goal

pub shows-requires-clause-written : goal.shows-requires-clause-written
shows-requires-clause-written g c =
    let old = c.self.inside in
    let is : old.publisher ≡ Some c.in-Some.publisher = search rules in
    runs_written g.L.Locked.stands g.L.Readable.log g.met.L.Readable.log_is old.locked
    old.publisher c.in-Some.publisher c.self.invariant.0 is

pub shows-requires-clause-first : goal.shows-requires-clause-first
shows-requires-clause-first g c =
    let old = c.self.inside in
    let is : old.publisher ≡ Some c.in-Some.publisher = search rules in
    runs_prefix g.L.Locked.stands g.L.Readable.log g.met.L.Readable.log_is old.locked
    old.publisher c.in-Some.publisher c.self.invariant.0 is

pub publish-publisher-requires-clause-written : goal.publish-publisher-requires-clause-written
publish-publisher-requires-clause-written g c =
    let old = c.self.inside in
    let is : old.publisher ≡ Some c.in-Some.publisher = search rules in
    runs_written g.L.Locked.stands g.L.Readable.log g.met.L.Readable.log_is old.locked
    old.publisher c.in-Some.publisher c.self.invariant.0 is

pub publish-publisher-requires-clause-first : goal.publish-publisher-requires-clause-first
publish-publisher-requires-clause-first g c =
    let old = c.self.inside in
    let is : old.publisher ≡ Some c.in-Some.publisher = search rules in
    runs_prefix g.L.Locked.stands g.L.Readable.log g.met.L.Readable.log_is old.locked
    old.publisher c.in-Some.publisher c.self.invariant.0 is

pub invariant_of-self-2 : goal.invariant_of-self-2
invariant_of-self-2 g c =
    let old = c.self.inside in
    let is : old.publisher ≡ Some c.in-Some.publisher = search rules in (
      runs_sent g.L.Locked.stands g.L.Readable.log g.met.L.Readable.log_is old.locked
          old.publisher c.in-Some.publisher c.publish-publisher.result.0
          c.publish-publisher.result.1 c.self.invariant.0 is c.publish-publisher.ensures.sent
          c.publish-publisher.ensures.published,
      search rules,
    )

pub returns-clause-shows : goal.returns-clause-shows
returns-clause-shows g c =
    let old = c.self.inside in
    let new = c.publish-publisher.result.0 in
    let log = g.L.Readable.log in
    let told = shows_told c.publish-publisher.result.1 (log old.locked) c.in-Some.publisher new
    c.publish-publisher.ensures.partition c.publish-publisher.ensures.published
    c.publish-publisher.ensures.counted c.publish-publisher.ensures.added
    (λ seen. absurd (true≢false (sym (c.shows.ensures.1 seen) ∙ c.if-shows.false))) in
    let is : old.publisher ≡ Some c.in-Some.publisher = search rules in
    subst (λ (h : UnderLock g.row.L.Denot).
    Shows c.is_ok.result (log h.locked) h.published (Some new)) c.self.view_is
    (subst (λ (o : Option Done). Shows c.is_ok.result (log old.locked) o (Some new)) (sym is)
    (subst (λ (b : Bool). Shows b (log old.locked) (Some c.in-Some.publisher) (Some new))
    (sym c.is_ok.ensures.value) told))
