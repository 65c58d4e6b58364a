use Rattle.std.proofs.Common.{◌≡◌, ◌∙◌, None, Some, ap, codes, option_map, refl, sym}
use Rattle.clap.specs.Words.{found_of}
use Rattle.clap.proofs.WalkLemmas.{first_value-rows}
use Rattle.kx_program.proofs.task.audit_in.Goals as goal

pub returns-in-Some : goal.returns-in-Some
returns-in-Some c = record {
  traces = sym (first_value-rows (found_of c.args.given.now) (codes "DIR"))
      ∙ sym c.get_str.ensures ∙ ap (option_map (λ s. s.now)) c.in-Some.is;
  logs = c.get_str-in-Some.ensures ∙ first_value-rows (found_of c.args.given.now) (codes "dir");
  tells = refl;
  page = c.get_str-in-Some-2.ensures ∙ first_value-rows (found_of c.args.given.now) (codes "page");
}

pub returns-in-None : goal.returns-in-None
returns-in-None c = λ asked is.
    let none = sym (first_value-rows (found_of c.args.given.now) (codes "DIR"))
    ∙ sym c.get_str.ensures ∙ ap (option_map (λ s. s.now)) c.in-None.is in
    let bad : None ≡ Some asked.traces.now = sym none ∙ is.traces in absurd cc
