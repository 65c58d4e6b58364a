use Rattle.std.proofs.Common.{◌∙◌, ap}
use Rattle.kx_folder.specs.Folder.{listed_as}
use Rattle.kx_folder.proofs.Lines.{first_is}
use Rattle.kx_folder.proofs.file.ListedFile.of.Goals as goal

pub returns : goal.returns
returns c =
    let first = first_is c.args.bytes.now c.min-len.result 4096 c.min-len.ensures in
    λ i. record {
      name = c.args.name;
      len = first.1 i;
      crc = (c.in_ok-sum_of.ensures
          ∙ ap (λ f. (listed_as c.args.number c.args.name f).crc) first.0) i;
    }
