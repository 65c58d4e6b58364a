use Rattle.std.proofs.Common.{◌∙◌, Option, codes, refl, rules, subst}
use Rattle.clap.specs.Words.{Text, found_of, one_text}
use Rattle.clap.proofs.WalkLemmas.{first_value-rows, one_text-rows}
use Rattle.kx_program.specs.Tasks.{Flags}
use Rattle.kx_program.proofs.Finding.{flags}
use Rattle.kx_program.proofs.task.kafka_in.Goals as goal

pub returns : goal.returns
returns c = record {
  topics = c.get_str.ensures ∙ first_value-rows (found_of c.args.given.now) (codes "topics");
  port = search rules;
  advertise = c.get_str-2.ensures
      ∙ first_value-rows (found_of c.args.given.now) (codes "advertise");
  dir = c.get_str-3.ensures ∙ first_value-rows (found_of c.args.given.now) (codes "dir");
  traces = c.get_str-4.ensures ∙ first_value-rows (found_of c.args.given.now) (codes "trace");
  renews = subst (λ (text : Option Text). Flags text c.get_flag.result)
      (one_text-rows (found_of c.args.given.now) (codes "new-traces"))
      (flags (one_text (found_of c.args.given.now) (codes "new-traces")) c.get_flag.result
      c.get_flag.ensures.none c.get_flag.ensures.value c.get_flag.ensures.other);
  makes = search rules;
  makes_none = subst (λ (text : Option Text). Flags text c.get_flag-2.result)
      (one_text-rows (found_of c.args.given.now) (codes "no-auto-topics"))
      (flags (one_text (found_of c.args.given.now) (codes "no-auto-topics")) c.get_flag-2.result
      c.get_flag-2.ensures.none c.get_flag-2.ensures.value c.get_flag-2.ensures.other);
  idle = search rules;
  idle_fits = search rules;
  log = subst (λ (text : Option Text). Flags text c.get_flag-3.result)
      (one_text-rows (found_of c.args.given.now) (codes "log"))
      (flags (one_text (found_of c.args.given.now) (codes "log")) c.get_flag-3.result
      c.get_flag-3.ensures.none c.get_flag-3.ensures.value c.get_flag-3.ensures.other);
  no_log = subst (λ (text : Option Text). Flags text c.get_flag-4.result)
      (one_text-rows (found_of c.args.given.now) (codes "no-log"))
      (flags (one_text (found_of c.args.given.now) (codes "no-log")) c.get_flag-4.result
      c.get_flag-4.ensures.none c.get_flag-4.ensures.value c.get_flag-4.ensures.other);
  tells = refl;
}
