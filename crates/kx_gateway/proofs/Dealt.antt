-- Answers that are dealt out to the topics that were asked.
use Rattle.std.proofs.Common.{◌≡◌, ◌+◌, ◌-◌, ℕ, List, [], ◌∷◌, ◌++◌, length}
use Rattle.std.proofs.Common.{take, drop, map, sym, ap, ◌∙◌, arith, inl, inr}
use Rattle.std.specs.Prelude.{min}
use Rattle.std.proofs.lemmas.Bool.{cases_lt}
use Rattle.std.proofs.lemmas.List.{append_assoc, drop-drop, drop_all, length-drop, take_min, take-map}
use Rattle.std.specs.List.{drop-map}
use Rattle.kx_gateway.specs.Answers.{TopicOf, answered}

drop_min : {A : Type 0} (n : ℕ) (xs : List A) → drop (min n (length xs)) xs ≡ drop n xs
drop_min n xs =
    elim (cases_lt (length xs) n) [
      | inl lt ↦
          drop_all (min n (length xs)) xs (omega arith) ∙ sym (drop_all n xs (omega arith))
      | inr le ↦ ap (λ k. drop k xs) (omega arith)
    ]

-- a topic is given as many of the answers as it has partitions, or those that are left
pub dealt : {A B V : Type 0} (value : B → V) (answers : List B) (at n : ℕ) (topic : TopicOf A)
    (topics : List (TopicOf A)) → n ≡ min (length topic.1.0) (length answers - at)
    → answered (topic ∷ topics) (drop at (map value answers))
    ≡ (topic.0, (map value (take n (drop at answers)), tt))
    ∷ answered topics (drop (at + n) (map value answers))
dealt {V = V} value answers at n topic topics e =
    let count = length topic.1.0 in
    let left = drop at answers in
    let size : n ≡ min count (length left) = omega (arith, length-drop at answers, e) in
    let taken : take count (drop at (map value answers)) ≡ map value (take n left) =
    ap (take count) (drop-map value at answers) ∙ take-map value count left
    ∙ ap (map value) (sym (take_min count left) ∙ ap (λ k. take k left) (sym size)) in
    let rest : drop count (drop at (map value answers)) ≡ drop (at + n) (map value answers) =
    ap (drop count) (drop-map value at answers) ∙ drop-map value count left
    ∙ ap (map value) (sym (drop_min count left) ∙ ap (λ k. drop k left) (sym size)
    ∙ drop-drop n at answers)
    ∙ sym (drop-map value (at + n) answers) in
    ap (λ (x : List V). (topic.0, (x, tt)) ∷ answered topics (drop count (drop at (map value answers)))) taken
    ∙ ap (λ (x : List V). (topic.0, (map value (take n left), tt)) ∷ answered topics x) rest

-- one more step of the loop
pub dealt_more : {A B V : Type 0} (value : B → V) (answers : List B) (at end : ℕ)
    (topic : TopicOf A) (asked topics : List (TopicOf A)) (done all : List (TopicOf V))
    → all ≡ done ++ answered asked (drop at (map value answers))
    → asked ≡ topic ∷ topics
    → end ≡ at + min (length topic.1.0) (length answers - at)
    → all ≡ (done ++ (topic.0, (map value (take (end - at) (drop at answers)), tt)) ∷ [])
    ++ answered topics (drop end (map value answers))
dealt_more {A = A} {V = V} value answers at end topic asked topics done all e first size =
    let n = end - at in
    let same : at + n ≡ end = omega arith in
    e ∙ ap (λ (x : List (TopicOf A)). done ++ answered x (drop at (map value answers))) first
    ∙ ap (λ (x : List (TopicOf V)). done ++ x) (dealt value answers at n topic topics (omega arith))
    ∙ sym (append_assoc done ((topic.0, (map value (take n (drop at answers)), tt)) ∷ [])
    (answered topics (drop (at + n) (map value answers))))
    ∙ ap (λ k. (done ++ (topic.0, (map value (take n (drop at answers)), tt)) ∷ [])
    ++ answered topics (drop k (map value answers))) same
