use Rattle.std.proofs.Common.{◌≡◌, ◌∙◌, ◌++◌, ap, sym, take, drop, arith, length, subst}
use Rattle.std.proofs.lemmas.List.{take-append-drop, length-append}
use Rattle.kx_folder.specs.Internal.Parts.{HasNoParts, HasParts}
use Rattle.kx_folder.specs.Folder.{line_text}
use Rattle.kx_folder.proofs.Lines.{agree, begins, differ, line_parts, line_size, no_line, one_line}
use Rattle.kx_folder.proofs.file.ListedFile.read.Goals as goal

pub returns-in_default : goal.returns-in_default
returns-in_default c file rest room is =
    let size = ap length is ∙ length-append (line_text file) rest in
    let whole = line_size file room in
    omega (arith, size, whole, c.in_default.ensures.cases)

pub returns-in_default-in_line : goal.returns-in_default-in_line
returns-in_default-in_line c file rest room is =
    let line = c.in-Some.ensures.cases.same
    ∙ begins c.args.text.now (line_text file) rest 22 (line_size file room) is in
    no_line file room (subst HasNoParts line c.in_default-in_line.ensures)

pub returns-then-ne : goal.returns-then-ne
returns-then-ne c file rest room is =
    let line = c.in-Some.ensures.cases.same
    ∙ begins c.args.text.now (line_text file) rest 22 (line_size file room) is in
    let of_file = subst (λ text. HasParts text c.in-Some-in_line.file) line c.in-Some-in_line.ensures in
    let same = one_line (line_text file) c.in-Some-in_line.file file of_file (line_parts file room) in
    differ c.as_slice.result.now c.as_slice-2.result.now c.ne.result c.ne.ensures c.if-ne.true
    (c.as_slice.ensures.value ∙ c.in_ok-line.ensures ∙ same ∙ sym line ∙ sym c.as_slice-2.ensures)

pub returns : goal.returns
returns c =
    let line = agree c.as_slice.result.now c.as_slice-2.result.now c.ne.result c.ne.ensures
    c.if-ne.false in
    let front : take 22 c.args.text.now ≡ line_text c.in-Some-in_line.file =
    sym c.in-Some.ensures.cases.same ∙ sym c.as_slice-2.ensures ∙ sym line
    ∙ c.as_slice.ensures.value ∙ c.in_ok-line.ensures in
    record {
      long = c.in-Some.ensures.cases.enough;
      front = sym (take-append-drop 22 c.args.text.now)
          ∙ ap (λ t. t ++ drop 22 c.args.text.now) front;
    }
