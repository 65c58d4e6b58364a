use Rattle.std.proofs.Common.{◌≡◌, ◌<◌, ◌^◌, drop}
use Rattle.kx_text.specs.Words.{below, number_of}
use Rattle.kx_text.proofs.Numbers.{read}
use Rattle.kx_text.proofs.words.number.Given as goal

abbrev pub invariant-loop-byte : goal.invariant-loop-byte
invariant-loop-byte l = record {
  same : below (2 ^ 64) (read l.number (drop l.byte-index l.word))
      ≡ below (2 ^ 64) (number_of l.word);
  fits : l.number < 2 ^ 64;
}
