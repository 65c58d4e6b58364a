-- What holds whatever is answered.
use Rattle.std.specs.Prelude.{OnOk, Result, Ok, Err}

pub on_ok : {V E : Type 0} (r : Result V E) (P : Type 0) → P → OnOk r P
on_ok (Ok v) P holds = holds
on_ok (Err e) P holds = tt
