-- What the page of a reply leads to.
use Rattle.std.proofs.Common.{◌≡◌, ◌∙◌, ℕ, ℤ, pos, true, List, refl, sym, ap, Ok}
use Rattle.kx_message.specs.declared.message.Message.{Message}
use Rattle.kx_message.specs.declared.message.Message.TheVariants as msg
use Rattle.kx_model.specs.Page.{Fetched}
use Rattle.kx_partition.specs.Reply.{page_in}
use Rattle.kx_processor.specs.Internal.{is_page}
use Rattle.kx_system.specs.Processor.{Fetching, Processing, fetched, from_offset}
use Rattle.kx_system.specs.Processor.{paged}

-- only a reply to a fetch has a page
pub has_page : (m : Message) (from : ℤ) (page : Fetched) → page_in from m ≡ Ok page
    → is_page m ≡ true
has_page (msg.FetchReply it) from page e = refl
has_page (msg.InitProducerId it) from page e = absurd cc
has_page (msg.InitReply it) from page e = absurd cc
has_page (msg.EndTxn it) from page e = absurd cc
has_page (msg.EndReply it) from page e = absurd cc
has_page (msg.Produce it) from page e = absurd cc
has_page (msg.ProduceReply it) from page e = absurd cc
has_page (msg.AddPartition it) from page e = absurd cc
has_page (msg.AddReply it) from page e = absurd cc
has_page (msg.WriteMarker it) from page e = absurd cc
has_page (msg.MarkerReply it) from page e = absurd cc
has_page (msg.Fetch it) from page e = absurd cc
has_page (msg.Join it) from page e = absurd cc
has_page (msg.JoinReply it) from page e = absurd cc
has_page (msg.Leave it) from page e = absurd cc
has_page (msg.LeaveReply it) from page e = absurd cc
has_page (msg.TxnOffsetCommit it) from page e = absurd cc
has_page (msg.OffsetsReply it) from page e = absurd cc
has_page (msg.OffsetFetch it) from page e = absurd cc
has_page (msg.OffsetFetchReply it) from page e = absurd cc

-- where the page is that was waited for
pub at_page : (p : Processing) (m : Message) (page : Fetched) (input : ℕ) (left : List ℕ)
    (offset : ℤ) → p.stage ≡ Fetching input left offset
    → page_in (pos (from_offset offset)) m ≡ Ok page
    → paged p.image input left offset (Ok page) ≡ fetched p p.stage m
at_page p m page input left offset here is =
    ap (paged p.image input left offset) (sym is)
    ∙ ap (λ stage. fetched p stage m) (sym here)
