-- The coordinator: its log on its store, its clock, and the markers that were answered.
use Rattle.std.specs.Prelude.{ℕ, List}
use Rattle.kx_model.specs.Markers.{Answered}
use Rattle.kx_txnlog.specs.LogState.{LogState}

pub record CoordinatorState : Type 0 where
  pub log : LogState
  -- the greatest moment handed in
  pub clock : ℕ
  -- in any order
  pub answered : List Answered
