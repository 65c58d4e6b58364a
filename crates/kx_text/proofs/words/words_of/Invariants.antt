use Rattle.std.proofs.Common.{◌≡◌}
use Rattle.std.specs.List.{list_all}
use Rattle.kx_text.specs.Words.{is_word, pieces_of}
use Rattle.kx_text.proofs.words.words_of.Given as goal

abbrev pub invariant-loop-piece : goal.invariant-loop-piece
invariant-loop-piece l = list_all is_word (pieces_of l.line) ≡ list_all is_word l.piece-iterator
