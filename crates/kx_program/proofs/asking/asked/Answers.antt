use Rattle.std.proofs.Common.{◌≡◌, ◌∙◌, List, Option, ap, map, string_bytes, subst, sym, true}
use Rattle.clap.specs.Words.{App, Row, Text, app_of, is_simple, subcommand_of, takes}
use Rattle.kx_program.specs.Tasks.{AsksFor}
use Rattle.kx_program.proofs.asking.asked.Goals as goal

pub returns-in-Err : goal.returns-in-Err
returns-in-Err c = λ taken. c.in-Err.ensures.passes
    (ap (λ (a : App). takes a (map string_bytes c.args.words.now)) c.in-Ok.ensures ∙ taken)

pub returns-in-Some : goal.returns-in-Some
returns-in-Some c =
    let words = map string_bytes c.args.words.now in
    let simple : is_simple (app_of c.in-Ok.command) ≡ true = ap is_simple c.in-Ok.ensures in
    let same = (c.in-Ok-try_get_matches_from.ensures.matches simple).1
    ∙ ap (λ (a : App). subcommand_of a words) c.in-Ok.ensures in
    subst (λ (found : Option (Text × List Row)). AsksFor found c.args.is_watched c.in-Some.task)
    same c.in-Some.ensures

pub returns : goal.returns
returns c =
    let words = map string_bytes c.args.words.now in
    let simple : is_simple (app_of c.in-Ok.command) ≡ true = ap is_simple c.in-Ok.ensures in
    let same = (c.in-Ok-try_get_matches_from.ensures.matches simple).1
    ∙ ap (λ (a : App). subcommand_of a words) c.in-Ok.ensures in
    λ what asks. c.in-None.ensures what
    (subst (λ (found : Option (Text × List Row)). AsksFor found c.args.is_watched what) (sym same)
    asks)
