use Rattle.std.proofs.Common.{◌≡◌, ◌+◌, ◌++◌, ◌∷◌, [], ℕ, List, take, drop, sym, ap, ◌∙◌}
use Rattle.std.proofs.Common.{subst, arith, false, rules}
use Rattle.std.specs.Prelude.{is_some}
use Rattle.std.proofs.lemmas.List.{length-take-le, take-append-drop, take_more}
use Rattle.kx_batch.specs.Build.{within_limit}
use Rattle.kx_client.proofs.Sizes.{next_size, passes_limit}
use Rattle.kx_model.specs.Client.{value_records}
use Rattle.kx_client.proofs.values.Values.batch_len.Goals as goal

pub returns-in_err-len-2 : goal.returns-in_err-len-2
returns-in_err-len-2 c =
    let first = c.args.self.now.first in
    let items = c.as_slice-value-items.result.now in
    let i = c.loop-at.at in
    let x = c.as_slice-in-loop-at.result.now in
    let one : take (i + 1) items ≡ take i items ++ x ∷ [] =
    take_more items i c.value-item.result c.loop-at-test.true
    ∙ ap (λ (y : List ℕ). take i items ++ y ∷ [])
    (sym c.value-item.is ∙ sym c.as_slice-in-loop-at.ensures) in
    let grown = next_size first items i x c.loop-at.len c.loop-at-test.true one
    c.loop-at.invariant.len.is in
    let all : (first ∷ take (i + 1) items) ++ drop (i + 1) items
    ≡ first ∷ c.args.self.now.more =
    ap (λ (xs : List (List ℕ)). first ∷ xs) (take-append-drop (i + 1) items
    ∙ c.as_slice-value-items.ensures) in
    let over = passes_limit (first ∷ take (i + 1) items) (drop (i + 1) items)
    (omega (arith, grown, c.in_err-len-2.ensures)) in
    let large : is_some (within_limit (value_records (first ∷ c.args.self.now.more))) ≡ false =
    subst (λ (xs : List (List ℕ)). is_some (within_limit (value_records xs)) ≡ false) all over in
    search rules

pub loop-at-preserved : goal.loop-at-preserved
loop-at-preserved c =
    let first = c.args.self.now.first in
    let items = c.as_slice-value-items.result.now in
    let i = c.loop-at.at in
    let x = c.as_slice-in-loop-at.result.now in
    let one : take (i + 1) items ≡ take i items ++ x ∷ [] =
    take_more items i c.value-item.result c.loop-at-test.true
    ∙ ap (λ (y : List ℕ). take i items ++ y ∷ [])
    (sym c.value-item.is ∙ sym c.as_slice-in-loop-at.ensures) in
    let h = c.in_ok-len-2.ensures in
    record {
      len = record {
        is = h.0 ∙ next_size first items i x c.loop-at.len c.loop-at-test.true one
            c.loop-at.invariant.len.is;
        within = h.1;
        places = omega (arith, length-take-le (i + 1) items (omega arith), h.2);
      };
      places = omega (arith, h.2);
    }
