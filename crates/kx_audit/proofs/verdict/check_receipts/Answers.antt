use Rattle.std.proofs.Common.{◌≡◌, ◌∙◌, inl, inr, rules, length}
use Rattle.std.specs.Prelude.{IsFalse, IsTrue}
use Rattle.kx_audit.specs.Replayed.{steps_of, traces_of}
use Rattle.kx_audit.proofs.Counting.{trails_count}
use Rattle.kx_audit.proofs.Wrongs.{all_of_traces, have_wrong}
use Rattle.kx_audit.proofs.verdict.check_receipts.Goals as goal

pub are_named-requires : goal.are_named-requires
are_named-requires g c = record { apart = c.requires.ordered.merged.apart }

pub returns-then-not-branch-clause-refused : goal.returns-then-not-branch-clause-refused
returns-then-not-branch-clause-refused g c =
    let none : IsFalse c.in_ok-are_named.field-0 = search rules in (
      c.requires.ordered,
      have_wrong g.B.Tells.making g.B.Machine.Machine.stands
          c.traces_tell_answers_and_logs.ensures.answers c.args.nodes.now c.args.receipts.now
          c.requires.replayed (c.in_ok-are_named.ensures.unnamed none),
    )

pub returns-clause-distinct : goal.returns-clause-distinct
returns-clause-distinct g c =
    let all : IsTrue c.in_ok-are_distinct.field-0 = search rules in
    c.in_ok-are_distinct.ensures.distinct all

pub returns-then-not-have_steps-clause-refused : goal.returns-then-not-have_steps-clause-refused
returns-then-not-have_steps-clause-refused g c =
    let all : IsTrue c.in_ok-are_named.field-0 = search rules in
    let other : (length c.args.receipts.now ≡ steps_of (traces_of c.args.nodes.now)) → ⊥ =
    search rules in
    let same = trails_count g.B.Tells.making (traces_of c.args.nodes.now) in (
      c.requires.ordered,
      all_of_traces g.B.Tells.making g.B.Machine.Machine.stands c.args.nodes.now
          c.args.receipts.now c.requires.replayed (c.in_ok-are_named.ensures.named all),
      inl (λ is. other (is ∙ same)),
    )

pub returns-then-not-branch-2-clause-refused : goal.returns-then-not-branch-2-clause-refused
returns-then-not-branch-2-clause-refused g c =
    let all : IsTrue c.in_ok-are_named.field-0 = search rules in
    let none : IsFalse c.in_ok-are_distinct.field-0 = search rules in (
      c.requires.ordered,
      all_of_traces g.B.Tells.making g.B.Machine.Machine.stands c.args.nodes.now
          c.args.receipts.now c.requires.replayed (c.in_ok-are_named.ensures.named all),
      inr (c.in_ok-are_distinct.ensures.alike none),
    )
