-- How the answers for partitions are put into a response, topic by topic.
use Rattle.std.specs.Prelude.{List, [], ◌∷◌, ℕ, length, take, drop}

-- a topic's name and its partitions
abbrev pub TopicOf : Type 0 → Type 0
TopicOf A = List ℕ × (List A × Unit {0})

-- each topic that was asked, with the answers of its partitions, which follow those of the topics
-- before it
abbrev pub answered : {A B : Type 0} → List (TopicOf A) → List B → List (TopicOf B)
answered [] answers = []
answered (topic ∷ topics) answers =
    let count = length topic.1.0 in
    (topic.0, (take count answers, tt)) ∷ answered topics (drop count answers)
