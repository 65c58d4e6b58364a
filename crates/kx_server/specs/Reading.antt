-- What is read of a partition's published log.
use Rattle.std.specs.Prelude.{◌≡◌, ℕ, pos, List, min}
use Rattle.kx_batch.specs.Batch.{batch_limit}
use Rattle.kx_message.specs.declared.message.Message.{Message}
use Rattle.kx_message.specs.declared.requests.Fetch.{Fetch}
use Rattle.kx_model.specs.Log.{Stored, end, entries}
use Rattle.kx_model.specs.Page.{fetched}
use Rattle.kx_model.specs.PartitionNode.{fetch_reply}
use Rattle.kx_model.specs.Transactions.{last_stable_offset}
use Rattle.kx_published.specs.History.{EndsIn}
use Rattle.kx_published.specs.declared.known.Known.{Known}
use Rattle.kx_server.specs.declared.reading.LogEnds.{LogEnds}

-- the reply to a fetch is what the partition's server answers, if its log is the one that was
-- published last of these
pub record IsPageOf (it : Fetch) (known : Known) (reply : Message) : Type 0 where
  pub log : List Stored
  pub last : EndsIn known.logs log
  pub partition_is : known.partition ≡ it.partition
  pub reply_is : reply ≡ fetch_reply it.caller it.partition
      (fetched log it.from (min it.max batch_limit) it.committed)

-- this partition's log ends there, if it is the one that was published last of these
pub record AreEndsOf (partition : ℕ) (known : Known) (ends : LogEnds) : Type 0 where
  pub log : List Stored
  pub last : EndsIn known.logs log
  pub partition_is : known.partition ≡ partition
  pub end_is : ends.end ≡ pos (end (entries log))
  pub lso_is : ends.lso ≡ pos (last_stable_offset (entries log))
