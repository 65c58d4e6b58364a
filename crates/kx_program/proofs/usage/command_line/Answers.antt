use Rattle.std.proofs.Common.{codes}
use Rattle.std.proofs.lemmas.Result.{IfOk-weaker}
use Rattle.clap.specs.Words.{new_app}
use Rattle.kx_program.specs.Usage.{audit_app, demo_app, dump_app, kafka_app, serve_app, sim_app}
use Rattle.kx_program.specs.Usage.{with_needed_subcommand}
use Rattle.kx_program.proofs.Commands.{Makes, with_command}
use Rattle.kx_program.proofs.usage.command_line.Goals as goal

pub returns : goal.returns
returns c =
    let made_0 : Makes c.in_ok-program_usage.field-0
    (with_needed_subcommand (new_app (codes "kx"))) = record {
      is = c.in_ok-program_usage.ensures.app;
      local = c.in_ok-program_usage.ensures.local;
    } in
    let sim : Makes c.in_ok-sim_usage.field-0 sim_app = record {
      is = c.in_ok-sim_usage.ensures.app;
      local = c.in_ok-sim_usage.ensures.local;
    } in
    let made_1 = with_command _ _ _ _ _ c.in_ok-subcommand.ensures made_0 sim in
    let dump : Makes c.in_ok-dump_usage.field-0 dump_app = record {
      is = c.in_ok-dump_usage.ensures.app;
      local = c.in_ok-dump_usage.ensures.local;
    } in
    let made_2 = with_command _ _ _ _ _ c.in_ok-subcommand-2.ensures made_1 dump in
    let serve : Makes c.in_ok-serve_usage.field-0 serve_app = record {
      is = c.in_ok-serve_usage.ensures.app;
      local = c.in_ok-serve_usage.ensures.local;
    } in
    let made_3 = with_command _ _ _ _ _ c.in_ok-subcommand-3.ensures made_2 serve in
    let kafka : Makes c.in_ok-kafka_usage.field-0 kafka_app = record {
      is = c.in_ok-kafka_usage.ensures.app;
      local = c.in_ok-kafka_usage.ensures.local;
    } in
    let made_4 = with_command _ _ _ _ _ c.in_ok-subcommand-4.ensures made_3 kafka in
    let demo : Makes c.in_ok-demo_usage.field-0 demo_app = record {
      is = c.in_ok-demo_usage.ensures.app;
      local = c.in_ok-demo_usage.ensures.local;
    } in
    let made_5 = with_command _ _ _ _ _ c.in_ok-subcommand-5.ensures made_4 demo in
    let audit : Makes c.in_ok-audit_usage.field-0 audit_app = record {
      is = c.in_ok-audit_usage.ensures.app;
      local = c.in_ok-audit_usage.ensures.local;
    } in
    IfOk-weaker c.subcommand-6.result _ _
    (λ command adds. (with_command _ _ _ _ _ adds made_5 audit).is) c.subcommand-6.ensures
