-- The producer ids that a start passes over, since logs name them already.
use Rattle.std.specs.Prelude.{◌≡◌, ◌<◌, ℕ}
use Rattle.kx_serve.specs.declared.fault.ServeFault.{ServeFault}
use Rattle.kx_serve.specs.declared.fault.ServeFault.TheVariants.{Ids}
use Rattle.kx_serve.specs.declared.files.LogFile.{LogFile}

-- how many a start passes over at most
abbrev pub skipped_limit : ℕ
skipped_limit = 65536

-- they are more than that, because of this log
pub record WhyNotSkipped (file : LogFile) (count : ℕ) (fault : ServeFault) : Type 0 where
  pub more : skipped_limit < count
  pub is : fault ≡ Ids file count
