use Rattle.std.specs.Prelude.{option_map}
use Rattle.kx_cases.proofs.Tallies.{within}
use Rattle.kx_cases.proofs.tally.Trial.begin_case.Goals as goal

pub returns-in_err-end_case : goal.returns-in_err-end_case
returns-in_err-end_case g c h =
    within (option_map (λ x. x.is_right) c.args.self.now.case) c.args.self.now.tally
    c.end_case.new.self.tally c.end_case.ensures.tally h

pub returns : goal.returns
returns g c h =
    within (option_map (λ x. x.is_right) c.args.self.now.case) c.args.self.now.tally
    c.end_case.new.self.tally c.end_case.ensures.tally h
