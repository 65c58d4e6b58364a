use Rattle.std.proofs.Common.{◌∙◌, ◌++◌, ◌∷◌, [], ap, sym, arith, append_assoc, append-nil}
use Rattle.std.proofs.Common.{MatchOption, length, refl, subst}
use Rattle.std.proofs.lemmas.List.{length-drop}
use Rattle.kx_folder.specs.Folder.{HasNoLine, lines_text}
use Rattle.kx_folder.specs.Internal.Parts.{HasLine}
use Rattle.kx_folder.proofs.Lines.{passed, rest_is}
use Rattle.kx_folder.proofs.list.read_lines.Goals as goal

pub loop-file-init : goal.loop-file-init
loop-file-init c = ([], sym (append-nil c.args.files.now.items), refl)

pub returns-in_default : goal.returns-in_default
returns-in_default c = (
  subst (λ file. MatchOption file (HasNoLine c.loop-file.rest.now) (HasLine c.loop-file.rest.now))
      c.in_default.is c.in_ok-file.ensures,
  c.loop-file.invariant,
)

pub loop-file-smaller : goal.loop-file-smaller
loop-file-smaller c =
    let rest = c.loop-file.rest.now in
    let line = subst (λ file. MatchOption file (HasNoLine rest) (HasLine rest)) c.in-Some.is
    c.in_ok-file.ensures in
    omega (arith, line.long, ap length (rest_is rest 22), length-drop 22 rest)

pub loop-file-preserved : goal.loop-file-preserved
loop-file-preserved c =
    let rest = c.loop-file.rest.now in
    let line = subst (λ file. MatchOption file (HasNoLine rest) (HasLine rest)) c.in-Some.is
    c.in_ok-file.ensures in
    let lines = c.loop-file.invariant.0 in
    let file = c.in-Some.file in (
      lines ++ file ∷ [],
      c.in_ok-push.ensures.items ∙ ap (λ t. t ++ file ∷ []) c.loop-file.invariant.1
          ∙ append_assoc c.args.files.now.items lines (file ∷ []),
      passed c.args.text.now rest lines file c.loop-file.invariant.2 line
          ∙ ap (λ t. lines_text (lines ++ file ∷ []) ++ t) (sym (rest_is rest 22)),
    )
