-- Which event each line of a script lets happen, or which order it is, by its words.
use Rattle.std.specs.Prelude.{ℕ, pos, ◌+◌, ◌^◌, List, [], ◌∷◌, Bool, true, false, Option, None}
use Rattle.std.specs.Prelude.{Some, codes, bytes_eq, is_some, nat_lt, ◌==◌, option_map, slice_get}
use Rattle.std.specs.Prelude.{if◌then◌else◌}
use Rattle.std.specs.Option.{option_or}
use Rattle.kx_varint.specs.Text.{◌>>=◌}
use Rattle.kx_message.specs.Ranges.{data_partitions, offsets_partition}
use Rattle.kx_message.specs.Values.{name_with, where_true}
use Rattle.kx_message.specs.declared.message.NodeId.{NodeId}
use Rattle.kx_message.specs.declared.message.NodeId.TheVariants as node
use Rattle.kx_message.specs.declared.outcome.Outcome.TheVariants.{Abort, Commit}
use Rattle.kx_model.specs.Client as model
use Rattle.kx_model.specs.Step.{Expires, Reminds, Drops, Puts}
use Rattle.kx_model.specs.World.{World, Make, client_at, is_new}
use Rattle.kx_processor.specs.Prefixed.{image_of}
use Rattle.kx_text.specs.Mode.{default_max, mode_of}
use Rattle.kx_text.specs.Words.{below, number_below, number_of, words_of}
use Rattle.kx_script.specs.Session.{Session, delivers, hands, has_node, has_partition, restarts}
use Rattle.kx_script.specs.Session.{tells, timeout}
use Rattle.kx_script.specs.declared.event.Name.{Name}
use Rattle.kx_script.specs.declared.event.Name.TheVariants as name
use Rattle.kx_script.specs.declared.order.Left.{Left}
use Rattle.kx_script.specs.declared.order.Left.TheVariants.{Nothing, Whole}
use Rattle.kx_script.specs.declared.order.Order.{Order}
use Rattle.kx_script.specs.declared.order.Order.TheVariants as order
use Rattle.kx_system.specs.System.{SystemEvent, Happens, MakeProcessor, most_inputs}

------ words

-- the only word
abbrev pub only : List (List ℕ) → Option (List ℕ)
only [] = None
only (word ∷ []) = Some word
only (word ∷ next ∷ words) = None

-- the only two words
abbrev pub pair : List (List ℕ) → Option (List ℕ × List ℕ)
pair [] = None
pair (first ∷ []) = None
pair (first ∷ second ∷ []) = Some (first, second)
pair (first ∷ second ∷ next ∷ words) = None

-- the only three words
abbrev pub triple : List (List ℕ) → Option (List ℕ × List ℕ × List ℕ)
triple [] = None
triple (first ∷ words) = option_map (λ two. (first, two.0, two.1)) (pair words)

-- a word, and those behind it
abbrev pub front : List (List ℕ) → Option (List ℕ × List (List ℕ))
front [] = None
front (word ∷ words) = Some (word, words)

abbrev pub nothing_more : {A : Type 0} → List (List ℕ) → A → Option A
nothing_more [] a = Some a
nothing_more (word ∷ words) a = None

------ what a word spells

abbrev pub client_of : List ℕ → Option ℕ
client_of = number_below (2 ^ 32)

-- the number of a data partition
abbrev pub partition_of : List ℕ → Option ℕ
partition_of = number_below data_partitions

abbrev pub offset_of : List ℕ → Option ℕ
offset_of = number_below (2 ^ 63)

-- how many data partitions a world has
abbrev pub count_of : List ℕ → Option ℕ
count_of word = number_below (data_partitions + 1) word >>= λ n. where_true (nat_lt 0 n) n

-- how many input partitions a processor has
abbrev pub inputs_of : List ℕ → Option ℕ
inputs_of word = number_below (most_inputs + 1) word >>= λ n. where_true (nat_lt 0 n) n

-- the name of a transaction or a group
abbrev pub name_of : List ℕ → Option (List ℕ)
name_of = name_with

-- a transactional id; `-` is none
abbrev pub txn_of : List ℕ → Option (Option (List ℕ))
txn_of word = if bytes_eq word (codes "-") then Some None else option_map Some (name_of word)

-- `p` and the number of a data partition
abbrev pub server_of : List ℕ → Option NodeId
server_of [] = None
server_of (byte ∷ digits) =
    if byte == 112 then option_map node.Partition (partition_of digits) else None

-- a node that has a log
abbrev pub node_of : List ℕ → Option NodeId
node_of word =
    if bytes_eq word (codes "co") then Some node.Coordinator
    else if bytes_eq word (codes "po") then Some (node.Partition offsets_partition)
    else server_of word

-- what an append that fails leaves
abbrev pub left_of : List ℕ → Option Left
left_of word =
    if bytes_eq word (codes "none") then Some Nothing
    else if bytes_eq word (codes "whole") then Some Whole
    else None

-- whether a committed offset has to be stable
abbrev pub stable_of : List ℕ → Option Bool
stable_of word =
    if bytes_eq word (codes "stable") then Some true
    else if bytes_eq word (codes "any") then Some false
    else None

------ what a word names in a world

-- a client that is there
abbrev pub client_in : World → List ℕ → Option ℕ
client_in w word = client_of word >>= λ c. where_true (is_some (client_at w c)) c

-- a client that may be made: its number is above those of all others
abbrev pub new_in : World → List ℕ → Option ℕ
new_in w word = client_of word >>= λ c. where_true (is_new c w.clients) c

-- a data partition that is there
abbrev pub partition_in : World → List ℕ → Option ℕ
partition_in w word = partition_of word >>= λ p. where_true (has_partition w p) p

-- a node that is there and has a log
abbrev pub node_in : World → List ℕ → Option NodeId
node_in w word = node_of word >>= λ n. where_true (has_node w n) n

------ commands of a client

-- a command that has nothing behind the client's number
abbrev pub plain_event : model.Command → World → List (List ℕ) → Option SystemEvent
plain_event command w words =
    only words >>= λ client. client_in w client >>= λ c. Some (tells c command)

-- `send N P W..`
abbrev pub send_event : World → List (List ℕ) → Option SystemEvent
send_event w words =
    front words >>= λ client. front client.1 >>= λ partition. front partition.1 >>= λ values.
    client_in w client.0 >>= λ c. partition_in w partition.0 >>= λ p.
    Some (tells c (model.Send p values.0 values.1))

-- `join N G`
abbrev pub join_event : World → List (List ℕ) → Option SystemEvent
join_event w words =
    pair words >>= λ two. client_in w two.0 >>= λ c. name_of two.1 >>= λ g.
    Some (tells c (model.JoinGroup g))

-- `offsets N Q O`
abbrev pub offsets_event : World → List (List ℕ) → Option SystemEvent
offsets_event w words =
    triple words >>= λ three. client_in w three.0 >>= λ c. partition_in w three.1 >>= λ p.
    offset_of three.2 >>= λ o.
    Some (tells c (model.SendOffsets (record { partition = p; offset = pos o }) []))

------ other events

-- `client N TXN`
abbrev pub client_event : World → List (List ℕ) → Option SystemEvent
client_event w words =
    pair words >>= λ two. new_in w two.0 >>= λ c. txn_of two.1 >>= λ txn.
    Some (Happens (Make c txn timeout))

-- `processor N TXN G K`
abbrev pub processor_event : World → List (List ℕ) → Option SystemEvent
processor_event w words =
    front words >>= λ client. triple client.1 >>= λ three. new_in w client.0 >>= λ c.
    txn_of three.0 >>= λ txn. name_of three.1 >>= λ g. inputs_of three.2 >>= λ k.
    Some (MakeProcessor c txn timeout g k image_of)

-- `put P W..`
abbrev pub put_event : Session → List (List ℕ) → Option SystemEvent
put_event s words =
    front words >>= λ partition. front partition.1 >>= λ values.
    partition_in s.system.world partition.0 >>= λ p.
    Some (hands s (node.Partition p) (Puts values.0 values.1))

-- `deliver K`
abbrev pub deliver_event : Session → List (List ℕ) → Option SystemEvent
deliver_event s words =
    only words >>= λ number. offset_of number >>= λ k.
    option_map (delivers s k) (slice_get s.system.world.sent k)

-- `expire T`
abbrev pub expire_event : Session → List (List ℕ) → Option SystemEvent
expire_event s words =
    only words >>= λ moment. below (2 ^ 64) (number_of moment) >>= λ t.
    Some (hands s node.Coordinator (Expires t))

-- `remind`
abbrev pub remind_event : Session → List (List ℕ) → Option SystemEvent
remind_event s words = nothing_more words (hands s node.Coordinator Reminds)

-- `drop G M`
abbrev pub drop_event : Session → List (List ℕ) → Option SystemEvent
drop_event s words =
    pair words >>= λ two. name_of two.0 >>= λ g. client_of two.1 >>= λ m.
    Some (hands s (node.Partition offsets_partition) (Drops g m))

-- `restart NODE`
abbrev pub restart_event : World → List (List ℕ) → Option SystemEvent
restart_event w words = only words >>= λ place. node_in w place >>= λ n. Some (restarts w n)

------ names

-- the names of commands of clients
abbrev pub command_name : List ℕ → Option Name
command_name word =
    if bytes_eq word (codes "init") then Some name.Init
    else if bytes_eq word (codes "begin") then Some name.Begin
    else if bytes_eq word (codes "send") then Some name.Send
    else if bytes_eq word (codes "commit") then Some name.Commit
    else if bytes_eq word (codes "abort") then Some name.Abort
    else if bytes_eq word (codes "resend") then Some name.Resend
    else if bytes_eq word (codes "poll") then Some name.Poll
    else if bytes_eq word (codes "join") then Some name.Join
    else if bytes_eq word (codes "leave") then Some name.Leave
    else if bytes_eq word (codes "offsets") then Some name.Offsets
    else None

-- the names of all other events
abbrev pub event_name : List ℕ → Option Name
event_name word =
    if bytes_eq word (codes "client") then Some name.Client
    else if bytes_eq word (codes "processor") then Some name.Processor
    else if bytes_eq word (codes "put") then Some name.Put
    else if bytes_eq word (codes "deliver") then Some name.Deliver
    else if bytes_eq word (codes "expire") then Some name.Expire
    else if bytes_eq word (codes "remind") then Some name.Remind
    else if bytes_eq word (codes "drop") then Some name.Drop
    else if bytes_eq word (codes "restart") then Some name.Restart
    else None

abbrev pub name_in : List ℕ → Option Name
name_in word = option_or (command_name word) (event_name word)

-- the event that a line of this name is
abbrev pub event_as : Session → Name → List (List ℕ) → Option SystemEvent
event_as s name.Init words = plain_event model.Init s.system.world words
event_as s name.Begin words = plain_event model.Begin s.system.world words
event_as s name.Send words = send_event s.system.world words
event_as s name.Commit words = plain_event (model.End Commit) s.system.world words
event_as s name.Abort words = plain_event (model.End Abort) s.system.world words
event_as s name.Resend words = plain_event model.Resend s.system.world words
event_as s name.Poll words = plain_event model.Poll s.system.world words
event_as s name.Join words = join_event s.system.world words
event_as s name.Leave words = plain_event model.LeaveGroup s.system.world words
event_as s name.Offsets words = offsets_event s.system.world words
event_as s name.Client words = client_event s.system.world words
event_as s name.Processor words = processor_event s.system.world words
event_as s name.Put words = put_event s words
event_as s name.Deliver words = deliver_event s words
event_as s name.Expire words = expire_event s words
event_as s name.Remind words = remind_event s words
event_as s name.Drop words = drop_event s words
event_as s name.Restart words = restart_event s.system.world words

-- the event that the words of a line are
abbrev pub event_of : Session → List (List ℕ) → Option SystemEvent
event_of s words = front words >>= λ line. name_in line.0 >>= λ name. event_as s name line.1

-- the event that a line lets happen, none if what it names isn't there
abbrev pub event_in : Session → List ℕ → Option SystemEvent
event_in s line = words_of line >>= event_of s

------ lines that are no events

-- `fail NODE MODE`
abbrev pub fail_order : List (List ℕ) → Option Order
fail_order words =
    pair words >>= λ two. node_of two.0 >>= λ n. left_of two.1 >>= λ left.
    Some (order.Fail n left)

-- `[MAX]`
abbrev pub max_of : List (List ℕ) → Option ℕ
max_of [] = Some default_max
max_of (max ∷ words) = number_below (2 ^ 32) max >>= λ m. nothing_more words m

-- `fetch P FROM MODE [MAX]`
abbrev pub fetch_order : List (List ℕ) → Option Order
fetch_order words =
    front words >>= λ partition. front partition.1 >>= λ from. front from.1 >>= λ mode.
    partition_of partition.0 >>= λ p. offset_of from.0 >>= λ f. mode_of mode.0 >>= λ m.
    max_of mode.1 >>= λ max. Some (order.Fetch p (pos f) m max)

-- `offset G Q MODE`
abbrev pub offset_order : List (List ℕ) → Option Order
offset_order words =
    triple words >>= λ three. name_of three.0 >>= λ g. partition_of three.1 >>= λ q.
    stable_of three.2 >>= λ stable. Some (order.Offset g q stable)

-- `rows`
abbrev pub rows_order : List (List ℕ) → Option Order
rows_order words = nothing_more words order.Rows

-- the order that a line of this first word is
abbrev pub order_of : List ℕ → List (List ℕ) → Option Order
order_of name words =
    if bytes_eq name (codes "fail") then fail_order words
    else if bytes_eq name (codes "fetch") then fetch_order words
    else if bytes_eq name (codes "offset") then offset_order words
    else if bytes_eq name (codes "rows") then rows_order words
    else None

-- the order that a line spells
abbrev pub order_in : List ℕ → Option Order
order_in line = words_of line >>= front >>= λ name. order_of name.0 name.1

-- `world P`: how many data partitions it gives a world
abbrev pub world_in : List ℕ → Option ℕ
world_in line =
    words_of line >>= pair >>= λ two.
    if bytes_eq two.0 (codes "world") then count_of two.1 else None
