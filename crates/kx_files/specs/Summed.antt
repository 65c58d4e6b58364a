-- A store with checksums beside it, and what comparing the two comes to.
use Rattle.std.specs.Prelude.{ℕ, List, Option}
use Rattle.kx_files.specs.Device.{DeviceState}
use Rattle.kx_files.specs.FileStore.{FileState}
use Rattle.kx_sums.specs.Sums.{FollowUpTo, sums_in}
use Rattle.kx_sums.specs.declared.sum.Sum.{Sum}

-- the log fits its checksums as far as they go
pub record FitsSums (log : List ℕ) (held : DeviceState) : Type 0 where
  pub last : Sum
  pub count : ℕ
  pub follow : FollowUpTo log (sums_in held.bytes) last count

-- the store in the file, and how many of its bytes have checksums, if these are kept
pub record SummedState : Type 0 where
  pub file : FileState
  pub summed : Option ℕ
