use Rattle.kx_folder.proofs.Lines.{is_padded}
use Rattle.kx_folder.proofs.name.FileName.of.Goals as goal

pub returns : goal.returns
returns c = rw (c.copy_from_slice.ensures.after, c.as_bytes.ensures.value) (is_padded c.args.name.now c.min-len.result c.min-len.ensures)
