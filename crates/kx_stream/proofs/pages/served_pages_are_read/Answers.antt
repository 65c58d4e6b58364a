use Rattle.kx_stream.proofs.Replies.{served_is_read}
use Rattle.kx_stream.proofs.pages.served_pages_are_read.Goals as goal

pub returns : goal.returns
returns c = served_is_read
