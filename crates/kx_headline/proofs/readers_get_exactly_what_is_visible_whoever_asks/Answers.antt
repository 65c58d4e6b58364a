use Rattle.kx_headline.proofs.OverSchedules.{readers_get_open}
use Rattle.kx_headline.proofs.readers_get_exactly_what_is_visible_whoever_asks.Goals as goal

pub returns : goal.returns
returns c = readers_get_open
