use Rattle.std.proofs.Common.{◌∙◌, ap, option_map, codes, rules, subst, sym}
use Rattle.clap.specs.Words.{found_of, rows_of}
use Rattle.clap.proofs.WalkLemmas.{first_value-rows}
use Rattle.kx_program.proofs.Finding.{asks, asks_no_file}
use Rattle.kx_program.proofs.task.task_in.Goals as goal

pub returns-in-Some-get_str : goal.returns-in-Some-get_str
returns-in-Some-get_str c =
    let found = c.in-Some-dump-default.ensures in
    let T : Type 0 → Type 0 = λ t. t in
    subst T (sym (asks _ _ _ c.args.is_watched _ found.name found.rows)) (
      search rules,
      sym (first_value-rows (found_of c.in-Some-dump-default.given.now) (codes "FILE"))
          ∙ sym c.in-Some-get_str.ensures,
    )

pub returns-in-None : goal.returns-in-None
returns-in-None c = λ what asked.
    let found = c.in-Some-dump-default.ensures in
    let rows = rows_of (found_of c.in-Some-dump-default.given.now) in
    let T : Type 0 → Type 0 = λ t. t in
    asks_no_file _ rows c.args.is_watched what (search rules) (
    sym (first_value-rows (found_of c.in-Some-dump-default.given.now) (codes "FILE"))
    ∙ sym c.get_str.ensures ∙ ap (option_map (λ s. s.now)) c.in-None.is
    ) (subst T (asks _ _ rows c.args.is_watched what found.name found.rows) asked)
