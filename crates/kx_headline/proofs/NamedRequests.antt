-- Every request to join or to leave a group names it in its range, and comes from a client with a
-- number in its range.
use Rattle.std.proofs.Common.{◌≡◌, ℕ, ℤ, false, not, List, [], ◌∷◌, ◌++◌, Option}
use Rattle.std.proofs.Common.{Some, None, ◌+◌, All, filter, length, subst, IfSome}
use Rattle.std.specs.Prelude.{option_map}
use Rattle.std.specs.List.{list_any}
use Rattle.std.proofs.lemmas.Bool.{cond_both}
use Rattle.std.proofs.lemmas.List.Elements.{All-cons, All-filter, All-nil, All-push}
use Rattle.kx_message.specs.Message.{IsMessage, IsU32}
use Rattle.kx_message.specs.Messages as the
use Rattle.kx_message.specs.Ranges.{IsName, offsets_partition}
use Rattle.kx_message.specs.declared.message.Held.{Held}
use Rattle.kx_message.specs.declared.message.Message.{Message}
use Rattle.kx_message.specs.declared.message.Message.TheVariants as msg
use Rattle.kx_message.specs.declared.outcome.Outcome.{Outcome}
use Rattle.kx_message.specs.declared.outcome.Outcome.TheVariants.{Abort, Commit}
use Rattle.kx_message.specs.declared.payload.PartitionOffset.{PartitionOffset}
use Rattle.kx_batch.specs.Record.{Record}
use Rattle.kx_model.specs.Client.{Client, Command, Commanded, Declines, Does, Fault, Place, Init}
use Rattle.kx_model.specs.Client.{Begin, Send, JoinGroup, LeaveGroup, SendOffsets, End, Resend}
use Rattle.kx_model.specs.Client.{Poll}
use Rattle.kx_model.specs.Client.{FetchPage, FetchOffset, asks, caller_of, command, does, is_init}
use Rattle.kx_model.specs.Client.{leaves, new_client, refusals, sending, sends, sends_end}
use Rattle.kx_model.specs.Client.{sends_offsets, value_records}
use Rattle.kx_model.specs.Replies.{Meaning, Done, Waits, Aborts, Fails, holding, is_answer_to}
use Rattle.kx_model.specs.Replies.{is_awaited, learns, meaning, offset_meaning, offsets_meaning}
use Rattle.kx_model.specs.Replies.{placed_in, take_reply, told}
use Rattle.kx_model.specs.World.{IsCommand, World}
use Rattle.kx_headline.proofs.CoordinatorDoes
use Rattle.kx_headline.proofs.EventDoes.{ClientTurn, commands, hears}
use Rattle.kx_headline.proofs.PartitionAnswers.{IsNamed}
use Rattle.kx_headline.proofs.SentKinds
use Rattle.kx_headline.proofs.SentKinds.{IsPartitions, unless_does}

------ messages of nodes, and requests from outside

pub partitions_named : (m : Message) → IsPartitions m → IsNamed m
partitions_named m SentKinds.adding = tt
partitions_named m SentKinds.marked = tt
partitions_named m SentKinds.produced = tt
partitions_named m SentKinds.fetch = tt
partitions_named m SentKinds.joined = tt
partitions_named m SentKinds.left = tt
partitions_named m SentKinds.offsets_stand = tt
partitions_named m SentKinds.offset_there = tt

pub coordinators_named : (m : Message) → CoordinatorDoes.IsCoordinators m → IsNamed m
coordinators_named m CoordinatorDoes.marker = tt
coordinators_named m CoordinatorDoes.add_reply = tt
coordinators_named m CoordinatorDoes.init_reply = tt
coordinators_named m CoordinatorDoes.end_reply = tt

pub ranges_name : (m : Message) → IsMessage m → IsNamed m
ranges_name (msg.Join it) fits = (fits.1, fits.0.0)
ranges_name (msg.Leave it) fits = (fits.1, fits.0.0)
ranges_name m fits = tt

------ a client

-- the client's number and its groups are in their ranges, and its requests name them
pub record NamesOwn (c : Client) : Type 0 where
  pub number : IsU32 c.number
  pub group : IfSome c.group IsName
  pub place : IfSome c.place (λ (p : Place). IsName p.group)
  pub waiting : All IsNamed c.waiting

pub new_names : (number : ℕ) (txn : Option (List ℕ)) (timeout : ℕ) → IsU32 number
    → NamesOwn (new_client number txn timeout)
new_names number txn timeout fits =
    record { number = fits; group = tt; place = tt; waiting = All-nil IsNamed }

-- what a command does keeps that
data Names : Commanded → Type 0 where
  none : (fault : Fault) → Names (Declines fault)
  those : (after : Client) (messages : List Message) → NamesOwn after → All IsNamed messages
      → Names (Does after messages)

asks_names : (c : Client) (m : Message) → NamesOwn c → IsNamed m → Names (asks c m)
asks_names c m h i =
    those (record c { correlation = c.correlation + 1; waiting = c.waiting ++ m ∷ [] }) (m ∷ [])
    (record {
      number = h.number;
      group = h.group;
      place = h.place;
      waiting = All-push IsNamed c.waiting m h.waiting i;
    }) (All-cons IsNamed m [] i (All-nil IsNamed))

sending_names : (c : Client) (partition count : ℕ) → NamesOwn c
    → NamesOwn (sending c partition count)
sending_names c partition count h =
    record { number = h.number; group = h.group; place = h.place; waiting = h.waiting }

sends_names : (c : Client) (partition : ℕ) (records : List Record) (held : Option Held)
    → NamesOwn c → Names (sends c partition records held)
sends_names c partition records None h = none _
sends_names c partition records (Some held) h =
    asks_names _ _ (sending_names c partition (length records) h) tt

offsets_names : (c : Client) (offsets : List PartitionOffset) (txn : Option (List ℕ))
    (held : Option Held) (place : Option Place) → NamesOwn c
    → Names (sends_offsets c offsets txn held place)
offsets_names c offsets (Some txn) (Some held) (Some place) h =
    asks_names _ _ (sending_names c offsets_partition (length offsets) h) tt
offsets_names c offsets (Some txn) (Some held) None h = none _
offsets_names c offsets (Some txn) None place h = none _
offsets_names c offsets None held place h = none _

end_names : (c : Client) (outcome : Outcome) (txn : Option (List ℕ)) (held : Option Held)
    → NamesOwn c → Names (sends_end c outcome txn held)
end_names c Commit (Some txn) (Some held) h =
    cond_both c.sent_some (asks c (the.EndTxn (caller_of c) txn held Commit))
    (Does (record c { in_transaction = false }) []) Names (λ e. asks_names c _ h tt)
    (λ e. those _ []
    (record { number = h.number; group = h.group; place = h.place; waiting = h.waiting })
    (All-nil IsNamed))
end_names c Abort (Some txn) (Some held) h =
    asks_names (record c { waiting = [] }) _
    (record { number = h.number; group = h.group; place = h.place; waiting = All-nil IsNamed }) tt
end_names c Commit None held h = none _
end_names c Commit (Some txn) None h = none _
end_names c Abort None held h = none _
end_names c Abort (Some txn) None h = none _

leave_names : (c : Client) (place : Option Place)
    → IfSome place (λ (p : Place). IsName p.group) → NamesOwn c → Names (leaves c place)
leave_names c None fits h = none _
leave_names c (Some place) fits h = asks_names c _ h (fits, h.number)

does_names : (c : Client) (what : Command) → IsCommand what → NamesOwn c → Names (does c what)
does_names c Init fits h =
    cond_both (list_any is_init c.waiting) (Does c (filter is_init c.waiting)) _ Names
    (λ e. those c (filter is_init c.waiting) h (All-filter is_init IsNamed c.waiting h.waiting))
    (λ e. asks_names c _ h tt)
does_names c Begin fits h = those _ []
    (record { number = h.number; group = h.group; place = h.place; waiting = h.waiting })
    (All-nil IsNamed)
does_names c (Send partition value more) fits h =
    sends_names c partition (value_records (value ∷ more)) c.held h
does_names c (JoinGroup group) fits h =
    asks_names (record c { group = Some group }) _
    (record { number = h.number; group = fits; place = h.place; waiting = h.waiting })
    (fits, h.number)
does_names c LeaveGroup fits h = leave_names c c.place h.place h
does_names c (SendOffsets offset more) fits h =
    offsets_names c (offset ∷ more) c.txn c.held c.place h
does_names c (End outcome) fits h = end_names c outcome c.txn c.held h
does_names c Resend fits h = those c c.waiting h h.waiting
does_names c Poll fits h = none _
does_names c (FetchPage partition from) fits h = asks_names c _ h tt
does_names c (FetchOffset group partition) fits h = asks_names c _ h tt

command_names : (c : Client) (what : Command) (after : Client) (messages : List Message)
    → IsCommand what → NamesOwn c → command c what ≡ Does after messages
    → NamesOwn after × All IsNamed messages
unfolding command
command_names c what after messages fits h e =
    by (does c what) (does_names c what fits h)
    (unless_does (refusals c what) (does c what) after messages e)
  where
    by : (done : Commanded) → Names done → done ≡ Does after messages
        → NamesOwn after × All IsNamed messages
    by done (none fault) f = absurd cc
    by done (those d ms a b) f =
        let same_client : d ≡ after = cc in
        let same_messages : ms ≡ messages = cc in
        (subst NamesOwn same_client a, subst (All IsNamed) same_messages b)

------ what a client hears

learns_names : (meaning : Meaning) (c answered done : Client) → NamesOwn c → NamesOwn answered
    → NamesOwn done → NamesOwn (learns meaning c answered done)
learns_names Done c answered done a b d = d
learns_names Waits c answered done a b d = a
learns_names Aborts c answered done a b d =
    record { number = b.number; group = b.group; place = b.place; waiting = b.waiting }
learns_names Fails c answered done a b d =
    record { number = b.number; group = b.group; place = b.place; waiting = b.waiting }

holding_names : (c : Client) (held : Option Held) → NamesOwn c → NamesOwn (holding c held)
holding_names c None h = h
holding_names c (Some held) h =
    record { number = h.number; group = h.group; place = h.place; waiting = h.waiting }

placed_names : (generation : ℤ) (number count : ℕ) (group : Option (List ℕ))
    → IfSome group IsName
    → IfSome (option_map (placed_in generation number count) group)
    (λ (p : Place). IsName p.group)
placed_names generation number count None h = tt
placed_names generation number count (Some group) h = h

told_names : (c answered : Client) (reply : Message) → NamesOwn c → NamesOwn answered
    → NamesOwn (told c answered reply)
told_names c answered (msg.InitReply it) a b =
    learns_names (meaning it.code) c answered (holding answered it.held) a b
    (holding_names answered it.held b)
told_names c answered (msg.EndReply it) a b =
    let h = holding_names answered it.held b in
    learns_names (meaning it.code) c answered _ a b
    (record { number = h.number; group = h.group; place = h.place; waiting = h.waiting })
told_names c answered (msg.ProduceReply it) a b =
    learns_names (meaning it.code) c answered answered a b b
told_names c answered (msg.JoinReply it) a b =
    learns_names (meaning it.code) c answered _ a b (record {
      number = b.number;
      group = b.group;
      place = placed_names it.generation it.place it.count c.group a.group;
      waiting = b.waiting;
    })
told_names c answered (msg.LeaveReply it) a b =
    learns_names (meaning it.code) c answered answered a b b
told_names c answered (msg.OffsetsReply it) a b =
    learns_names (offsets_meaning it.code) c answered answered a b b
told_names c answered (msg.FetchReply it) a b =
    learns_names (meaning it.code) c answered answered a b b
told_names c answered (msg.OffsetFetchReply it) a b =
    learns_names (offset_meaning it.code) c answered answered a b b
told_names c answered m a b = a

reply_names : (c : Client) (reply : Message) → NamesOwn c → NamesOwn (take_reply c reply)
unfolding take_reply
reply_names c reply h =
    let answered : Client =
    record c { waiting = filter (λ m. not (is_answer_to reply m)) c.waiting } in
    cond_both (is_awaited c reply) (told c answered reply) c NamesOwn
    (λ e. told_names c answered reply h (record {
      number = h.number;
      group = h.group;
      place = h.place;
      waiting = All-filter (λ m. not (is_answer_to reply m)) IsNamed c.waiting h.waiting;
    })) (λ e. h)

-- a client's turn keeps that, and its requests name groups in their range
pub client_names : (w : World) (c after : Client) (messages : List Message)
    → ClientTurn w c after messages → NamesOwn c → NamesOwn after × All IsNamed messages
client_names w c after messages (commands what d ms fits e) h =
    command_names c what after messages fits h e
client_names w c after messages (hears m there) h = (reply_names c m h, All-nil IsNamed)
client_names w c after messages ClientTurn.passes h = (h, All-nil IsNamed)
