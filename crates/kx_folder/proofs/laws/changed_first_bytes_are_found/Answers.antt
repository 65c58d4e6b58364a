use Rattle.kx_folder.proofs.Changed.{finds}
use Rattle.kx_folder.proofs.laws.changed_first_bytes_are_found.Goals as goal

pub returns : goal.returns
returns c number file before after byte other within byte_fits other_fits of_byte of_other =
    finds number file before after byte other within byte_fits other_fits of_byte of_other
