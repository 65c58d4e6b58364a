use Rattle.std.proofs.Common.{arith}
use Rattle.kx_client.proofs.Sizes.{number1, number2, number3, number4, number5}
use Rattle.kx_client.proofs.values.varint_len.Goals as goal

pub returns-in-0-to-63-clause-value : goal.returns-in-0-to-63-clause-value
returns-in-0-to-63-clause-value c = number1 c.args.n (omega arith)

pub returns-in-64-to-8191-clause-value : goal.returns-in-64-to-8191-clause-value
returns-in-64-to-8191-clause-value c = number2 c.args.n (omega arith) (omega arith)

pub returns-in-8192-to-1048575-clause-value : goal.returns-in-8192-to-1048575-clause-value
returns-in-8192-to-1048575-clause-value c = number3 c.args.n (omega arith) (omega arith)

pub returns-in-1048576-to-134217727-clause-value : goal.returns-in-1048576-to-134217727-clause-value
returns-in-1048576-to-134217727-clause-value c = number4 c.args.n (omega arith) (omega arith)

pub returns-in_default-clause-value : goal.returns-in_default-clause-value
returns-in_default-clause-value c = number5 c.args.n (omega arith) (omega arith)
