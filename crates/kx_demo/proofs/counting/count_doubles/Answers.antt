use Rattle.std.proofs.Common.{[], ◌∙◌, ap, arith, rules, sym}
use Rattle.std.proofs.lemmas.List.{length-map, nil_from_length}
use Rattle.std.specs.HashSet.{contains, hash_set_len}
use Rattle.std.specs.List.{list_any}
use Rattle.kx_demo.specs.Counting.{texts}
use Rattle.kx_demo.proofs.Doubling.{all_known, firsts_within, knows_none, one_more}
use Rattle.kx_demo.proofs.counting.count_doubles.Goals as goal
use Rattle.kx_demo.proofs.counting.count_doubles.Invariants.{same}

pub loop-value-init : goal.loop-value-init
loop-value-init c =
    knows_none (contains same c.new-known.result) (hash_set_len c.new-known.result)
    c.into_iter-value-iterator.result.rest.items c.args.values.items
    (λ q. ap (list_any (same q)) c.new-known.ensures.empty) c.new-known.ensures.len
    c.into_iter-value-iterator.ensures.into_iter_gives.0

pub loop-value-preserved : goal.loop-value-preserved
loop-value-preserved c =
    one_more (contains same c.loop-value.known) (contains same c.insert.new.self)
    (hash_set_len c.loop-value.known) (hash_set_len c.insert.new.self)
    c.loop-value.value-iterator.rest.items c.next.new.self.rest.items c.args.values.items
    c.in-Some.value c.in_ok-insert.field-0 c.loop-value.invariant
    (search rules)
    c.in_ok-insert.ensures.added c.in_ok-insert.ensures.len c.in_ok-insert.ensures.updates.0

pub overflow_sub-result : goal.overflow_sub-result
overflow_sub-result c =
    let values = texts c.args.values.items in
    let known = all_known (contains same c.loop-value.known) (hash_set_len c.loop-value.known)
    c.loop-value.value-iterator.rest.items c.args.values.items c.loop-value.invariant
    (nil_from_length c.loop-value.value-iterator.rest.items
    (sym c.loop-value.value-iterator.rest.ok.0 ∙ c.in-None.ensures.steps.0)) in
    let within = firsts_within [] values in
    let all = length-map c.args.values.items (λ v. v.now) in
    omega arith

pub returns : goal.returns
returns c =
    let values = texts c.args.values.items in
    let known = all_known (contains same c.loop-value.known) (hash_set_len c.loop-value.known)
    c.loop-value.value-iterator.rest.items c.args.values.items c.loop-value.invariant
    (nil_from_length c.loop-value.value-iterator.rest.items
    (sym c.loop-value.value-iterator.rest.ok.0 ∙ c.in-None.ensures.steps.0)) in
    let all = length-map c.args.values.items (λ v. v.now) in
    omega arith
