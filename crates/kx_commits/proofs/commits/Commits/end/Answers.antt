use Rattle.std.proofs.Common.{◌≡◌, ◌∙◌, [], refl, subst, sym, true, All, List}
use Rattle.kx_commits.specs.Kept.{Said, SameKept, ended}
use Rattle.kx_commits.specs.Table.{Table, has_slot, kept_of, key_of}
use Rattle.kx_commits.proofs.Keeping.{fewer_slots, is_ended}
use Rattle.kx_commits.proofs.commits.Commits.end.Goals as goal

pub settle_all-requires : goal.settle_all-requires
settle_all-requires c =
    subst (λ (l : List Said). All (λ s. has_slot c.self.inside.slots (key_of s) ≡ true) l)
    (sym (c.all.ensures ∙ c.in-Some.ensures.taken)) (c.self.invariant c.args.id)

pub invariant_of-self : goal.invariant_of-self
invariant_of-self c =
    fewer_slots (record { slots = c.self.inside.slots; waiting = c.self.inside.waiting })
    (record { slots = c.settle_all.new.self; waiting = c.take.new.self }) c.args.id
    c.settle_all.ensures.kept c.take.ensures.others c.self.invariant

pub returns-in-Some : goal.returns-in-Some
returns-in-Some c =
    subst (λ (t : Table). SameKept (kept_of (record {
      slots = c.settle_all.new.self;
      waiting = c.take.new.self;
    })) (ended c.args.id c.args.outcome (kept_of t))) c.self.view_is
    (is_ended (record { slots = c.self.inside.slots; waiting = c.self.inside.waiting })
    (record { slots = c.settle_all.new.self; waiting = c.take.new.self }) c.args.id
    c.args.outcome c.all.result.now (c.all.ensures ∙ c.in-Some.ensures.taken)
    c.settle_all.ensures.slots c.take.ensures.others)

pub returns-in_default : goal.returns-in_default
returns-in_default c =
    subst (λ (t : Table). SameKept (kept_of (record {
      slots = c.self.inside.slots;
      waiting = c.take.new.self;
    })) (ended c.args.id c.args.outcome (kept_of t))) c.self.view_is
    (is_ended (record { slots = c.self.inside.slots; waiting = c.self.inside.waiting })
    (record { slots = c.self.inside.slots; waiting = c.take.new.self }) c.args.id
    c.args.outcome [] (sym c.in_default.ensures.taken) (λ key. refl) c.take.ensures.others)
