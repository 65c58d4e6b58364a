-- A command that is made argument by argument, and subcommand by subcommand.
use Rattle.std.proofs.Common.{◌≡◌, ◌∙◌, Bool, false, ap, ap₂}
use Rattle.std.specs.Prelude.{◌||◌}
use Rattle.clap.specs.Words.{AddsArg, AddsSubcommand, App, Rule, app_of, rule_of}
use Rattle.clap.specs.Words.{with_rule, with_subcommand}
use Rattle.clap.specs.declared.builder.arg.Arg.{Arg}
use Rattle.clap.specs.declared.builder.command.Command.{Command}
use Rattle.clap.specs.declared.builder.command.Command.TheViews.{out-Command}

-- a command is what clap reads as this, and has no global argument
pub record Makes (command : Command) (app : App) : Type 0 where
  pub is : app_of command ≡ app
  pub local : (out-Command command).has_globals ≡ false

-- with an argument more
pub with_argument : (old : Command) (arg : Arg) (new : Command) (app : App) (rule : Rule)
    → AddsArg old arg new → Makes old app → rule_of arg ≡ rule → arg.global ≡ false
    → Makes new (with_rule app rule)
with_argument old arg new app rule adds makes is local = record {
  is = adds.shape local ∙ ap₂ with_rule makes.is is;
  local = adds.globals ∙ ap₂ (λ (a b : Bool). a || b) makes.local local;
}

-- with a subcommand more
pub with_command : (old sub new : Command) (app below : App) → AddsSubcommand old sub new
    → Makes old app → Makes sub below → Makes new (with_subcommand app below.top)
with_command old sub new app below adds makes under = record {
  is = adds.shape under.local
      ∙ ap₂ with_subcommand makes.is (ap (λ (a : App). a.top) under.is);
  local = adds.globals ∙ ap₂ (λ (a b : Bool). a || b) makes.local under.local;
}
