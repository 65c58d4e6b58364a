-- Markers that were answered, kept by transactional id.
use Rattle.std.specs.Prelude.{◌≡◌, ◌≤◌, ◌==◌, ◌&&◌, List, ℕ, Bool, filter, length}
use Rattle.std.specs.List.{list_any}
use Rattle.kx_message.specs.declared.message.Held.{Held}
use Rattle.kx_model.specs.Markers.{Answered, same_answered}
use Rattle.kx_coord.specs.declared.noted.AnsweredMarker.{AnsweredMarker}

abbrev pub answered : List ℕ → Held → ℕ → Answered
answered txn held partition = record { txn = txn; held = held; partition = partition }

-- as it is kept for its transactional id
abbrev pub answered_by : List ℕ → AnsweredMarker → Answered
answered_by txn marker = answered txn marker.held marker.partition

abbrev pub is_marker : Held → ℕ → AnsweredMarker → Bool
is_marker held partition marker =
    held.id == marker.held.id && held.epoch == marker.held.epoch && partition == marker.partition

-- each is kept once at most
abbrev pub KeptOnce : List Answered → Type 0
KeptOnce xs = (a : Answered) → length (filter (same_answered a) xs) ≤ 1

-- the same markers were answered, whatever their order, and none of the first list is kept twice
pub record SameAnswered (xs ys : List Answered) : Type 0 where
  pub same : (a : Answered) → list_any (same_answered a) xs ≡ list_any (same_answered a) ys
  pub once : KeptOnce xs
