-- What a reader that takes memory answers.
use Rattle.std.specs.Prelude.{◌≡◌, Option, None}
use Rattle.kx_wire.specs.declared.fault.FrameFault.{FrameFault}
use Rattle.kx_wire.specs.declared.fault.FrameFault.TheVariants as fault

-- the fault is that nothing was read, or memory ran out
abbrev pub Refuses : {A : Type 0} → FrameFault → Option A → Type 0
Refuses fault.Memory read = Unit {0}
Refuses fault.Field read = read ≡ None
Refuses fault.TooLong read = ⊥
Refuses fault.Kind read = ⊥
Refuses fault.Failed read = ⊥
