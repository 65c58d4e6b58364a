use Rattle.std.proofs.Common.{codes}
use Rattle.std.specs.Int.{w16, w32}
use Rattle.kx_varint.specs.BigEndian.{unsigned_text}
use Rattle.hex.specs.Hex.{encode_lower}
use Rattle.kx_folder.proofs.Lines.{built}
use Rattle.kx_folder.proofs.file.ListedFile.line.Goals as goal

pub returns : goal.returns
unfolding unsigned_text
returns c =
    rw (
      c.in_ok-push-2.ensures.items,
      c.in_ok-put_hex-2.ensures,
      c.in_ok-push.ensures.items,
      c.in_ok-put_hex.ensures,
      c.in_ok-extend_from_slice.ensures.items,
      c.in_ok-line.ensures.items,
      c.bytes.ensures,
      c.to_be_bytes.ensures,
      c.to_be_bytes-2.ensures,
    )
    (built c.args.self.name (encode_lower (unsigned_text w16 c.args.self.len)) (codes " ")
    (encode_lower (unsigned_text w32 c.args.self.crc)) (codes "\n"))
