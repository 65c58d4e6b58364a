use Rattle.std.proofs.Common.{◌∙◌, Option, codes, refl, rules, subst}
use Rattle.clap.specs.Words.{Text, found_of, one_text}
use Rattle.clap.proofs.WalkLemmas.{first_value-rows, one_text-rows}
use Rattle.kx_program.specs.Tasks.{Flags}
use Rattle.kx_program.proofs.Finding.{flags}
use Rattle.kx_program.proofs.task.serve_options.Goals as goal

pub returns : goal.returns
returns c = record {
  partitions = search rules;
  partitions_fit = search rules;
  connections = search rules;
  connections_fit = search rules;
  port = search rules;
  dir = c.get_str.ensures ∙ first_value-rows (found_of c.args.given.now) (codes "dir");
  traces = c.get_str-2.ensures ∙ first_value-rows (found_of c.args.given.now) (codes "trace");
  renews = subst (λ (text : Option Text). Flags text c.get_flag.result)
      (one_text-rows (found_of c.args.given.now) (codes "new-traces"))
      (flags (one_text (found_of c.args.given.now) (codes "new-traces")) c.get_flag.result
      c.get_flag.ensures.none c.get_flag.ensures.value c.get_flag.ensures.other);
  tells = refl;
  notices = subst (λ (text : Option Text). Flags text c.get_flag-2.result)
      (one_text-rows (found_of c.args.given.now) (codes "log"))
      (flags (one_text (found_of c.args.given.now) (codes "log")) c.get_flag-2.result
      c.get_flag-2.ensures.none c.get_flag-2.ensures.value c.get_flag-2.ensures.other);
  expires = subst (λ (text : Option Text). Flags text c.get_flag-3.result)
      (one_text-rows (found_of c.args.given.now) (codes "expire"))
      (flags (one_text (found_of c.args.given.now) (codes "expire")) c.get_flag-3.result
      c.get_flag-3.ensures.none c.get_flag-3.ensures.value c.get_flag-3.ensures.other);
  session = search rules;
  session_fits = search rules;
}
