use Rattle.kx_headline.proofs.OverSchedules.{fetches_get_what_is_visible}
use Rattle.kx_headline.proofs.OverSchedules.{readers_get_what_is_visible}
use Rattle.kx_headline.proofs.readers_get_exactly_what_is_visible.Goals as goal

pub returns-clause-pages : goal.returns-clause-pages
returns-clause-pages c = readers_get_what_is_visible

pub returns-clause-fetches : goal.returns-clause-fetches
returns-clause-fetches c = fetches_get_what_is_visible
