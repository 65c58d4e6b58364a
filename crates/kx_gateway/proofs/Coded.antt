-- Codes that are dealt out to the partitions that were listed.
use Rattle.std.proofs.Common.{◌≡◌, ℤ, List, [], ◌∷◌, ◌++◌, sym, ap, ◌∙◌}
use Rattle.std.proofs.lemmas.List.{append_assoc}
use Rattle.kx_kafka_types.specs.Schema.{Values}
use Rattle.kx_kafka.specs.Layouts.{partition_error}
use Rattle.kx_gateway.specs.Transactions.{coded}

-- one more step of the loop over a topic's partitions
pub coded_more : (indexes more : List ℤ) (codes rest : List ℤ) (index code : ℤ)
    (done all : List (Values partition_error))
    → all ≡ done ++ coded indexes codes → indexes ≡ index ∷ more → codes ≡ code ∷ rest
    → all ≡ (done ++ (index, (code, tt)) ∷ []) ++ coded more rest
coded_more indexes more codes rest index code done all e first code_first =
    e ∙ ap (λ (x : List ℤ). done ++ coded x codes) first
    ∙ ap (λ (x : List ℤ). done ++ coded (index ∷ more) x) code_first
    ∙ sym (append_assoc done ((index, (code, tt)) ∷ []) (coded more rest))
