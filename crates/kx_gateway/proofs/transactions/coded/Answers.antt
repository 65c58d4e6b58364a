use Rattle.std.proofs.Common.{◌≡◌, ◌∷◌, [], ◌++◌, ◌∙◌, ℤ, List, map, sym, ap, rules, to_z, of_z}
use Rattle.std.proofs.Common.{w16, w32}
use Rattle.std.proofs.lemmas.List.{map-append}
use Rattle.kx_kafka_types.specs.Schema.{Values}
use Rattle.kx_kafka.specs.Layouts.{partition_error}
use Rattle.kx_gateway.specs.Transactions.{coded, indexes_in}
use Rattle.kx_gateway.proofs.Coded.{coded_more}
use Rattle.kx_gateway.proofs.Values.{error_values}
use Rattle.kx_gateway.proofs.transactions.coded.Goals as goal

pub loop-partition-preserved : goal.loop-partition-preserved
loop-partition-preserved c =
    let done = c.loop-partition.errors.items in
    let more = indexes_in c.next.new.self in
    let index = c.in-Some.partition.value in
    let code = c.in-Some-first_of.code in
    let rest = c.in-Some-first_of.after.now in
    let index_again : to_z w32 (of_z w32 index) ≡ index = search rules in
    let code_again : to_z w16 (of_z w16 code) ≡ code = search rules in
    let with_one : ℤ → ℤ → List (Values partition_error) = λ i k.
    map error_values done ++ (i, (k, tt)) ∷ [] in
    let pushed : map error_values c.push.new.self.items ≡ with_one index code =
    ap (map error_values) c.in_ok-push.ensures.items ∙ map-append error_values done _
    ∙ ap (λ i. with_one i (to_z w16 (of_z w16 code))) index_again
    ∙ ap (with_one index) code_again in
    record {
      can = tt;
      finite = tt;
      coded =
          coded_more (indexes_in c.loop-partition.partition-iterator) more
          c.loop-partition.rest.now rest index code (map error_values done)
          (coded (indexes_in c.args.partitions) c.args.codes.now)
          c.loop-partition.invariant.coded c.in-Some.ensures.steps c.in-Some-first_of.ensures
          ∙ ap (λ (x : List (Values partition_error)). x ++ coded more rest) (sym pushed);
    }
