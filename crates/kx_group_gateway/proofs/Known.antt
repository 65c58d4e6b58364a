-- Offsets of partitions that are there.
use Rattle.std.proofs.Common.{◌≡◌, [], ◌++◌, ◌∙◌, ℕ, ℤ, List, Option, Some, None, refl, sym, ap}
use Rattle.std.proofs.lemmas.List.{append_assoc}
use Rattle.kx_message.specs.declared.payload.PartitionOffset.{PartitionOffset}
use Rattle.kx_group_gateway.specs.Claims.{with_offset}

with_more : (partition : Option ℕ) (offset : ℤ) (more : List PartitionOffset)
    → with_offset partition offset more ≡ with_offset partition offset [] ++ more
with_more None offset more = refl
with_more (Some partition) offset more = refl

-- one more step of the loop over a topic's offsets
pub one_more : (done more : List PartitionOffset) (partition : Option ℕ) (offset : ℤ)
    → done ++ with_offset partition offset more
    ≡ (done ++ with_offset partition offset []) ++ more
one_more done more partition offset =
    ap (λ (x : List PartitionOffset). done ++ x) (with_more partition offset more)
    ∙ sym (append_assoc done (with_offset partition offset []) more)
