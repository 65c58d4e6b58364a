-- A client keeps its number, whatever it is told.
use Rattle.std.proofs.Common.{◌≡◌, ℕ, Bool, List, [], ◌∷◌, refl, ◌∙◌, Option, Some, None}
use Rattle.std.specs.List.{list_any}
use Rattle.std.proofs.lemmas.Bool.{cond_both}
use Rattle.kx_message.specs.declared.message.Held.{Held}
use Rattle.kx_message.specs.declared.message.Message.{Message}
use Rattle.kx_message.specs.declared.message.Message.TheVariants as msg
use Rattle.kx_message.specs.declared.outcome.Outcome.{Outcome}
use Rattle.kx_message.specs.declared.outcome.Outcome.TheVariants.{Abort, Commit}
use Rattle.kx_message.specs.declared.payload.PartitionOffset.{PartitionOffset}
use Rattle.kx_batch.specs.Record.{Record}
use Rattle.kx_model.specs.Client.{Client, Command, Commanded, Does, Declines, Fault, Place, Init}
use Rattle.kx_model.specs.Client.{Begin, Send, JoinGroup, LeaveGroup, SendOffsets, End, Resend}
use Rattle.kx_model.specs.Client.{Poll, FetchPage, FetchOffset, all_of, and_then, command, does}
use Rattle.kx_model.specs.Client.{is_init, leaves, refusals, sends, sends_end, sends_offsets}
use Rattle.kx_model.specs.Client.{sent_behind, unless, value_records}
use Rattle.kx_model.specs.Replies as reply
use Rattle.kx_model.specs.Replies.{Meaning, holding, is_awaited, learns, take_reply, told}

module _ (c : Client) where
  -- what a command did leaves the client its number
  abbrev pub Kept : Commanded → Type 0
  Kept (Declines fault) = Unit {0}
  Kept (Does after sent) = after.number ≡ c.number

  sends_kept : (partition : ℕ) (records : List Record) (held : Option Held)
      → Kept (sends c partition records held)
  sends_kept partition records None = tt
  sends_kept partition records (Some held) = refl

  offsets_kept : (offsets : List PartitionOffset) (txn : Option (List ℕ)) (held : Option Held)
      (place : Option Place) → Kept (sends_offsets c offsets txn held place)
  offsets_kept offsets (Some txn) (Some held) (Some place) = refl
  offsets_kept offsets (Some txn) (Some held) None = tt
  offsets_kept offsets (Some txn) None place = tt
  offsets_kept offsets None held place = tt

  end_kept : (outcome : Outcome) (txn : Option (List ℕ)) (held : Option Held)
      → Kept (sends_end c outcome txn held)
  end_kept Commit (Some txn) (Some held) =
      cond_both c.sent_some _ _ Kept (λ e. refl) (λ e. refl)
  end_kept Abort (Some txn) (Some held) = refl
  end_kept Commit None held = tt
  end_kept Commit (Some txn) None = tt
  end_kept Abort None held = tt
  end_kept Abort (Some txn) None = tt

  leave_kept : (place : Option Place) → Kept (leaves c place)
  leave_kept None = tt
  leave_kept (Some place) = refl

  does_kept : (what : Command) → Kept (does c what)
  does_kept Init = cond_both (list_any is_init c.waiting) _ _ Kept (λ e. refl) (λ e. refl)
  does_kept Begin = refl
  does_kept (Send partition value more) =
      sends_kept partition (value_records (value ∷ more)) c.held
  does_kept (JoinGroup group) = refl
  does_kept LeaveGroup = leave_kept c.place
  does_kept (SendOffsets offset more) = offsets_kept (offset ∷ more) c.txn c.held c.place
  does_kept (End outcome) = end_kept outcome c.txn c.held
  does_kept Resend = refl
  does_kept Poll = tt
  does_kept (FetchPage partition from) = refl
  does_kept (FetchOffset group partition) = refl

  pub unless_kept : (checks : List (Bool × Fault)) (done : Commanded) → Kept done
      → Kept (unless checks done)
  unless_kept [] done h = h
  unless_kept (check ∷ checks) done h =
      cond_both check.0 _ _ Kept (λ e. tt) (λ e. unless_kept checks done h)

  -- whatever the command is
  pub number_kept : (what : Command) → Kept (command c what)
  unfolding command
  number_kept what = unless_kept (refusals c what) _ (does_kept what)

  ------ replies

  abbrev SameNumber : Client → Type 0
  SameNumber d = d.number ≡ c.number

  holding_kept : (d : Client) (held : Option Held) → SameNumber d → SameNumber (holding d held)
  holding_kept d None h = h
  holding_kept d (Some held) h = h

  learns_kept : (meant : Meaning) (answered done : Client) → SameNumber answered
      → SameNumber done → SameNumber (learns meant c answered done)
  learns_kept reply.Done answered done h d = d
  learns_kept reply.Waits answered done h d = refl
  learns_kept reply.Aborts answered done h d = h
  learns_kept reply.Fails answered done h d = h

  told_kept : (answered : Client) (m : Message) → SameNumber answered
      → SameNumber (told c answered m)
  told_kept answered (msg.InitReply it) h = learns_kept _ _ _ h (holding_kept answered it.held h)
  told_kept answered (msg.EndReply it) h = learns_kept _ _ _ h (holding_kept answered it.held h)
  told_kept answered (msg.ProduceReply it) h = learns_kept _ _ _ h h
  told_kept answered (msg.JoinReply it) h = learns_kept _ _ _ h h
  told_kept answered (msg.LeaveReply it) h = learns_kept _ _ _ h h
  told_kept answered (msg.OffsetsReply it) h = learns_kept _ _ _ h h
  told_kept answered (msg.InitProducerId it) h = refl
  told_kept answered (msg.EndTxn it) h = refl
  told_kept answered (msg.Produce it) h = refl
  told_kept answered (msg.AddPartition it) h = refl
  told_kept answered (msg.AddReply it) h = refl
  told_kept answered (msg.WriteMarker it) h = refl
  told_kept answered (msg.MarkerReply it) h = refl
  told_kept answered (msg.Fetch it) h = refl
  told_kept answered (msg.FetchReply it) h = learns_kept _ _ _ h h
  told_kept answered (msg.Join it) h = refl
  told_kept answered (msg.Leave it) h = refl
  told_kept answered (msg.TxnOffsetCommit it) h = refl
  told_kept answered (msg.OffsetFetch it) h = refl
  told_kept answered (msg.OffsetFetchReply it) h = learns_kept _ _ _ h h

  -- and so does a reply
  pub told_number : (m : Message) → (take_reply c m).number ≡ c.number
  unfolding take_reply
  told_number m =
      cond_both (is_awaited c m) _ _ SameNumber (λ e. told_kept _ m refl) (λ e. refl)

------ commands in a row

behind_kept : (c d : Client) (sent : List Message) (done : Commanded) → d.number ≡ c.number
    → Kept d done → Kept c (sent_behind sent done)
behind_kept c d sent (Declines fault) h k = tt
behind_kept c d sent (Does after more) h k = k ∙ h

then_kept : (c : Client) (done : Commanded) (next : Client → Commanded) → Kept c done
    → ((d : Client) → Kept d (next d)) → Kept c (and_then done next)
then_kept c (Declines fault) next h all = tt
then_kept c (Does d sent) next h all = behind_kept c d sent (next d) h (all d)

-- it keeps it through all commands of a row
pub all_kept : (c : Client) (what : Command) (more : List Command) → Kept c (all_of c what more)
all_kept c what [] = number_kept c what
all_kept c what (next ∷ rest) =
    then_kept c (command c what) (λ d. all_of d next rest) (number_kept c what)
    (λ d. all_kept d next rest)
