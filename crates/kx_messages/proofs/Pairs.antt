-- When two pairs of numbers are the same.
use Rattle.std.proofs.Common.{rules, ◌≡◌, nat_eq}
use Rattle.std.specs.Bool.{Decides}
use Rattle.std.specs.Cmp.{signed_Decides, unsigned_Decides}
use Rattle.std.specs.Ordering.{on, eq_of_both, int_eq}
use Rattle.kx_message.specs.declared.payload.AbortedTxn.{AbortedTxn}
use Rattle.kx_message.specs.declared.payload.PartitionOffset.{PartitionOffset}

pub offset_is : (a b : PartitionOffset)
    → Decides (eq_of_both (on (λ (o : PartitionOffset). o.partition) nat_eq)
    (on (λ (o : PartitionOffset). o.offset) int_eq) a b) (a ≡ b)
offset_is a b = search (rules, unsigned_Decides, signed_Decides)

pub aborted_is : (a b : AbortedTxn)
    → Decides (eq_of_both (on (λ (t : AbortedTxn). t.id) nat_eq)
    (on (λ (t : AbortedTxn). t.first) int_eq) a b) (a ≡ b)
aborted_is a b = search (rules, unsigned_Decides, signed_Decides)
