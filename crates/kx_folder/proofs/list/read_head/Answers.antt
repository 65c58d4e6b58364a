use Rattle.std.proofs.Common.{◌≡◌, ◌∙◌, ◌++◌, ap, sym, take, drop, arith, length, subst}
use Rattle.std.proofs.lemmas.List.{take-append-drop, length-append}
use Rattle.std.specs.Result.{IsErr}
use Rattle.hex.specs.Hex.{decode_sized}
use Rattle.kx_folder.specs.Internal.Parts.{HasNumber}
use Rattle.kx_folder.specs.Folder.{head_text}
use Rattle.kx_folder.proofs.Lines.{agree, begins, differ, head_parts, head_size, no_head, one_head}
use Rattle.kx_folder.proofs.list.read_head.Goals as goal

pub returns-in_default : goal.returns-in_default
returns-in_default c number rest fits is =
    let size = ap length is ∙ length-append (head_text number) rest in
    let whole = head_size number in
    omega (arith, size, whole, c.in_default.ensures.cases)

pub returns-in_default-number_in : goal.returns-in_default-number_in
returns-in_default-number_in c number rest fits is =
    let line = c.in-Some.ensures.cases.0
    ∙ begins c.args.text.now (head_text number) rest 25 (head_size number) is in
    no_head number
    (subst (λ text. IsErr (decode_sized (take 16 (drop 8 text)) 8)) line c.in_default-number_in.ensures)

pub returns-then-ne : goal.returns-then-ne
returns-then-ne c number rest fits is =
    let line = c.in-Some.ensures.cases.0
    ∙ begins c.args.text.now (head_text number) rest 25 (head_size number) is in
    let of_head = subst (λ text. HasNumber text c.in-Some-number_in.number) line
    c.in-Some-number_in.ensures in
    let same = one_head (head_text number) c.in-Some-number_in.number number of_head (head_parts number) in
    differ c.as_slice.result.now c.as_slice-2.result.now c.ne.result c.ne.ensures c.if-ne.true
    (c.as_slice.ensures.value ∙ c.in_ok-head_text.ensures ∙ same ∙ sym line ∙ sym c.as_slice-2.ensures)

pub returns : goal.returns
returns c =
    let line = agree c.as_slice.result.now c.as_slice-2.result.now c.ne.result c.ne.ensures
    c.if-ne.false in
    let front : take 25 c.args.text.now ≡ head_text c.in-Some-number_in.number =
    sym c.in-Some.ensures.cases.0 ∙ sym c.as_slice-2.ensures ∙ sym line
    ∙ c.as_slice.ensures.value ∙ c.in_ok-head_text.ensures in
    sym (take-append-drop 25 c.args.text.now) ∙ ap (λ t. t ++ drop 25 c.args.text.now) front
    ∙ ap (λ t. head_text c.in-Some-number_in.number ++ t) (sym c.in-Some.ensures.cases.1)
