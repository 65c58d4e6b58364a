-- What is printed, by how a demonstration ended.
use Rattle.std.proofs.Common.{◌≡◌, ◌≢◌, ℕ, Bool, List, Option, Result, Err, sym, subst}
use Rattle.kx_demo.specs.declared.fault.DemoFault.{DemoFault}
use Rattle.kx_demo.specs.declared.fault.DemoFault.TheVariants as fault
use Rattle.kx_demo.specs.Telling.{Fails, Tells}

pub net_is_other : fault.Net ≢ fault.GaveUp
net_is_other e = cc

pub memory_is_other : fault.Memory ≢ fault.GaveUp
memory_is_other e = cc

pub write_is_other : fault.Write ≢ fault.GaveUp
write_is_other e = cc

pub fails : (old new : Option (List ℕ)) (r : Result Bool DemoFault) (why : DemoFault)
    → r ≡ Err why → why ≢ fault.GaveUp → Tells old new r
fails old new r why e other = subst (λ r. Tells old new r) (sym e) (Fails why other)

pub write_fails : (old new : Option (List ℕ)) (r : Result Bool DemoFault) (why : DemoFault)
    → r ≡ Err why → why ≡ fault.Write → Tells old new r
write_fails old new r why e is =
    fails old new r why e (subst (λ f. f ≢ fault.GaveUp) (sym is) write_is_other)
