use Rattle.std.proofs.Common.{◌≡◌, length, refl, arith, ◌∙◌, subst}
use Rattle.std.proofs.lemmas.Option.{slice_get_read, slice_get_within}
use Rattle.kx_audit.specs.Replayed.{IsOfLine, Progress}
use Rattle.kx_audit.proofs.Keys.{finds}
use Rattle.kx_audit.proofs.Places.{same_at}
use Rattle.kx_audit.proofs.receipts.is_named.Goals as goal

pub returns-in-Some-get-clause-named : goal.returns-in-Some-get-clause-named
returns-in-Some-get-clause-named g c = λ named.
    let nodes = c.args.nodes.now in
    let k = c.in-Some.place.now in
    let p = c.in-Some-get.node.now in
    let found = c.in-Some-get.ensures.lookup in
    let step = c.agrees.ensures.of_line named in
    record {
      number = k;
      node = p;
      step = step.0;
      there = slice_get_read nodes (length nodes) k p refl found.3.0 found.1;
      is = step.1;
    }

pub returns-in-Some-get-clause-unnamed : goal.returns-in-Some-get-clause-unnamed
returns-in-Some-get-clause-unnamed g c = λ no is.
    let nodes = c.args.nodes.now in
    let receipt = c.args.receipt.now in
    let k = c.in-Some.place.now in
    let p = c.in-Some-get.node.now in
    let found = c.in-Some-get.ensures.lookup in
    let place = c.in-Some.ensures.value ∙ finds g.B.Tells.making nodes c.args.places.now.entries
    receipt c.from.result c.requires c.from.ensures is in
    let number : is.number ≡ k = cc in
    let same = same_at nodes is.number k is.node p number is.there
    (slice_get_read nodes (length nodes) k p refl found.3.0 found.1) in
    c.agrees.ensures.not no is.step
    (subst (λ (q : Progress _ _). IsOfLine g.B.Tells.making q receipt is.step) same is.is)

pub returns-in-None-clause-unnamed : goal.returns-in-None-clause-unnamed
returns-in-None-clause-unnamed g c = λ _ is.
    let place = c.in-Some.ensures.value ∙ finds g.B.Tells.making c.args.nodes.now
    c.args.places.now.entries c.args.receipt.now c.from.result c.requires c.from.ensures is in
    let number : is.number ≡ c.in-Some.place.now = cc in
    let within = slice_get_within c.args.nodes.now is.number is.node is.there in
    let past = c.in-None.ensures.lookup.3 in
    omega (arith, number, within, past)
