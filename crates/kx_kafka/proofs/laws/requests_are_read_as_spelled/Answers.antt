use Rattle.kx_kafka.proofs.Exact.{request_takes, request_again, request_cut, request_longer}
use Rattle.kx_kafka.proofs.OneText.{request_changed}
use Rattle.kx_kafka.proofs.laws.requests_are_read_as_spelled.Goals as goal

pub returns-clause-found : goal.returns-clause-found
returns-clause-found c = request_takes

pub returns-clause-only : goal.returns-clause-only
returns-clause-only c = request_again

pub returns-clause-cut : goal.returns-clause-cut
returns-clause-cut c = request_cut

pub returns-clause-longer : goal.returns-clause-longer
returns-clause-longer c = request_longer

pub returns-clause-changed : goal.returns-clause-changed
returns-clause-changed c = request_changed
