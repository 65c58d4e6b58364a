use Rattle.std.proofs.Common.{arith}
use Rattle.std.specs.Prelude.{min}
use Rattle.kx_batch.specs.Batch.{batch_limit}
use Rattle.kx_gateway.specs.Fetch.{bytes_of}
use Rattle.kx_gateway.proofs.Pages.{fresh_page, fresh_within}
use Rattle.kx_gateway.proofs.laws.fetches_stay_within_limits.Goals as goal

pub returns-clause-room : goal.returns-clause-room
returns-clause-room c = λ most pages all.
    fresh_within batch_limit (min (bytes_of most) batch_limit) pages (omega arith) all

pub returns-clause-limit : goal.returns-clause-limit
returns-clause-limit c = λ most limit len pages some.
    let more = fresh_page (min (bytes_of most) batch_limit) len pages some in
    omega (arith, more)
