use Rattle.std.proofs.Common.{◌∙◌, codes}
use Rattle.clap.specs.Words.{found_of}
use Rattle.clap.proofs.WalkLemmas.{first_value-rows}
use Rattle.kx_program.proofs.task.demo_in.Goals as goal

pub returns : goal.returns
returns c = record {
  plays = c.in_ok-play_options.ensures;
  trace = c.get_str.ensures ∙ first_value-rows (found_of c.args.given.now) (codes "trace");
  page = c.get_str-2.ensures ∙ first_value-rows (found_of c.args.given.now) (codes "page");
}
