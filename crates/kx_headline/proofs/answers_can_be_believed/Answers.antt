use Rattle.kx_model.specs.Answers.{AnswersHold}
use Rattle.kx_model.proofs.Schedules.{closed_from_open}
use Rattle.kx_headline.proofs.Acknowledged.{acknowledged_as_sent}
use Rattle.kx_headline.proofs.AnswersAlways.{answers_hold_open}
use Rattle.kx_headline.proofs.answers_can_be_believed.Goals as goal

pub returns : goal.returns
returns c = record {
  always_open = answers_hold_open;
  always = closed_from_open AnswersHold answers_hold_open;
  as_sent = acknowledged_as_sent;
}
