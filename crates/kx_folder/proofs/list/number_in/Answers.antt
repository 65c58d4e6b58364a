use Rattle.std.proofs.Common.{◌≡◌, take, drop, Ok, arith}
use Rattle.hex.specs.Hex.{decode_sized}
use Rattle.kx_folder.proofs.Lines.{number_64}
use Rattle.kx_folder.proofs.list.number_in.Goals as goal

pub returns : goal.returns
returns c =
    let line = c.args.line.now in
    let number : decode_sized (take 16 (drop 8 line)) 8 ≡ Ok c.in_ok-number.number = grind arith in
    number_64 (take 16 (drop 8 line)) c.in_ok-number.number c.from_be_bytes.result (grind arith)
    (grind arith) number
