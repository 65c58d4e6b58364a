use Rattle.std.proofs.Common.{codes, append_assoc}
use Rattle.std.specs.Int.{w64}
use Rattle.kx_varint.specs.BigEndian.{unsigned_text}
use Rattle.hex.specs.Hex.{encode_lower}
use Rattle.kx_folder.proofs.list.head_text.Goals as goal

pub returns : goal.returns
unfolding unsigned_text
returns c =
    rw (
      c.in_ok-push.ensures.items,
      c.in_ok-put_hex.ensures,
      c.in_ok-extend_from_slice.ensures.items,
      c.in_ok-line.ensures.items,
      c.to_be_bytes.ensures,
    )
    (append_assoc (codes "folder  ") (encode_lower (unsigned_text w64 c.args.number)) (codes "\n"))
