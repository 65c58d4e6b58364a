use Rattle.std.proofs.Common.{◌≡◌, ◌∙◌, take, drop, Ok, arith}
use Rattle.hex.specs.Hex.{decode_sized}
use Rattle.kx_folder.proofs.Lines.{number_16, number_32}
use Rattle.kx_folder.proofs.file.in_line.Goals as goal

-- src/file.rt:39:1
pub returns : goal.returns
returns c =
    let line = c.args.line.now in
    let len : decode_sized (take 4 (drop 8 line)) 2 ≡ Ok c.in_ok-len.len = grind arith in
    let crc : decode_sized (take 8 (drop 13 line)) 4 ≡ Ok c.in_ok-crc.crc = grind arith in
    record {
      name = c.read.ensures ∙ c.copy_from_slice.ensures.after;
      len = number_16 (take 4 (drop 8 line)) c.in_ok-len.len c.from_be_bytes.result (grind arith) (grind arith) len;
      crc = number_32 (take 8 (drop 13 line)) c.in_ok-crc.crc c.from_be_bytes-2.result (grind arith) (grind arith) crc;
    }
