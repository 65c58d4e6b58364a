-- What holds whatever the `Result` of a function's last call is.
use Rattle.std.specs.Prelude.{OnOk, OnErr, Result, Ok, Err}

pub on_ok_so : {T E P Q : Type 0} (r : Result T E) → (P → Q) → OnOk r P → OnOk r Q
on_ok_so (Ok x) so p = so p
on_ok_so (Err e) so p = tt

pub on_err : {T E P : Type 0} (r : Result T E) → P → OnErr r P
on_err (Ok x) p = tt
on_err (Err e) p = p
