use Rattle.std.proofs.Common.{◌≡◌, ◌+◌, ◌++◌, ℕ, List, take}
use Rattle.kx_follow.specs.Pending.{AreSent, sent_among, times}
use Rattle.kx_message.specs.declared.message.Message.{Message}
use Rattle.kx_follow.proofs.pending.Pending.add_all.Given as goal

abbrev pub invariant-loop-message : goal.invariant-loop-message
invariant-loop-message l =
    record {
      sent : (sent : List Message) → AreSent sent l.initial.self
          → AreSent (sent ++ take l.message-index l.messages) l.self;
      times : (text : List ℕ) → times text l.self
          ≡ times text l.initial.self + sent_among text (take l.message-index l.messages);
    }
