-- A consumer group of stock clients, and what becomes of each request (KIP-62, KIP-134; Kafka's
-- group coordinator).
use Rattle.std.specs.Prelude.{◌≡◌, ℕ, ℤ, pos, ◌==◌, ◌&&◌, ◌||◌, Bool, true, false, not, nat_le}
use Rattle.std.specs.Prelude.{min, length, List, [], Option, Some, None}
use Rattle.std.specs.Prelude.{is_some, Result, Ok, Err, bytes_eq, if◌then◌else◌}
use Rattle.std.specs.List.{find, fold, slice_get}
use Rattle.std.specs.Option.{option_and_then, option_map, option_map_or}
use Rattle.std.specs.Ordering.{int_eq}
use Rattle.kx_membership.specs.Protocols.{assigned_to, is_session_timeout, later, metadata_in}
use Rattle.kx_membership.specs.Roster.{RosterState, all_woken, any_goes, asked, has, has_others}
use Rattle.kx_membership.specs.Roster.{has_same, heard, left_alone}
use Rattle.kx_membership.specs.Roster.{has_id, is_among, is_numbered, joining, led_by, longest, nobody}
use Rattle.kx_membership.specs.Roster.{parted, pushed, said_anew, settled, woken_if}
use Rattle.kx_membership.specs.Votes.{chosen_by, common_of}
use Rattle.kx_membership.specs.declared.ask.Assignment.{Assignment}
use Rattle.kx_membership.specs.declared.ask.JoinAsk.{JoinAsk}
use Rattle.kx_membership.specs.declared.ask.Protocol.{Protocol}
use Rattle.kx_membership.specs.declared.fault.GroupFault.{GroupFault}
use Rattle.kx_membership.specs.declared.fault.GroupFault.TheVariants as fault
use Rattle.kx_membership.specs.declared.group.Group.{Group}
use Rattle.kx_membership.specs.declared.group.Joined.{Joined}
use Rattle.kx_membership.specs.declared.group.Phase.{Phase}
use Rattle.kx_membership.specs.declared.group.Phase.TheVariants as phase
use Rattle.kx_membership.specs.declared.member.Member.{Member}
use Rattle.kx_membership.specs.declared.member.Going.{Going}
use Rattle.kx_membership.specs.declared.member.Going.TheVariants as going

abbrev pub new_group : Group
new_group = record {
  phase = phase.Empty;
  generation = pos 0;
  protocol_type = [];
  protocol = [];
  leader = None;
  roster = nobody;
  assignments = [];
}

abbrev pub leads : Group → ℕ → Bool
leads g number = option_map_or (λ leader. leader == number) g.leader false

------ who has to join again

-- a deadline that runs stays
abbrev pub preparing : Phase → ℕ → Phase
preparing (phase.Preparing until) deadline = phase.Preparing until
preparing phase.Empty deadline = phase.Preparing deadline
preparing phase.Completing deadline = phase.Preparing deadline
preparing phase.Stable deadline = phase.Preparing deadline

abbrev pub is_preparing : Phase → Bool
is_preparing phase.Empty = false
is_preparing (phase.Preparing until) = true
is_preparing phase.Completing = false
is_preparing phase.Stable = false

abbrev pub is_completing : Phase → Bool
is_completing phase.Completing = true
is_completing phase.Empty = false
is_completing (phase.Preparing until) = false
is_completing phase.Stable = false

-- with members, all have to join again, within the greatest of their rebalance timeouts; who waits
-- for what is assigned is told so
abbrev pub prepared : ℕ → Group → Group
prepared now g = record g {
  phase = if length g.roster.members == 0 then phase.Empty
      else preparing g.phase (later now (longest g.roster.members));
  roster = woken_if (is_completing g.phase) now g.roster;
}

-- members go, and the others have to join again
abbrev pub left : Going → ℕ → Group → Group
left who now g = prepared now (record g { roster = parted who g.roster })

------ JoinGroup

-- the type and one of the protocols are those of the other members
abbrev pub fits : Group → ℕ → JoinAsk → Bool
fits g number ask =
    not (length ask.protocol_type == 0)
    && (not (has_others number g.roster.members) || bytes_eq ask.protocol_type g.protocol_type)
    && is_some (common_of ask.protocols number g.roster.members)

abbrev pub refusal_of : Group → ℕ → JoinAsk → Option GroupFault
refusal_of g number ask =
    if not (is_session_timeout ask.session_timeout) then Some fault.InvalidSessionTimeout
    else (if fits g number ask then None else Some fault.InconsistentProtocol)

abbrev pub most_members : ℕ
most_members = 1000

-- the number is a member's, or one that is gone and that the core still counts
abbrev pub is_taken : ℕ → RosterState → Bool
is_taken number r = has number r.members || is_among number r.gone

abbrev pub room_refusal : RosterState → Option GroupFault
room_refusal r = if nat_le most_members (length r.members) then Some fault.GroupFull else None

abbrev pub first_of : Option GroupFault → Option GroupFault → Option GroupFault
first_of None next = next
first_of (Some fault) next = Some fault

-- the first that fits
abbrev pub new_refusal : Group → ℕ → JoinAsk → Option GroupFault
new_refusal g number ask =
    if is_taken number g.roster then Some fault.UnknownMember
    else first_of (refusal_of g number ask) (room_refusal g.roster)

abbrev pub after_join_new : Group → ℕ → List ℕ → JoinAsk → ℕ → Group
after_join_new g number id ask now = prepared now (record g {
  protocol_type = ask.protocol_type;
  roster = pushed (joining number id ask now) g.roster;
})

-- this refusal; if there is none, memory ran out
abbrev pub Refuses : Option GroupFault → GroupFault → Type 0
Refuses None given = given ≡ fault.Memory
Refuses (Some fault) given = given ≡ fault

abbrev pub again_refusal : Group → ℕ → JoinAsk → Option GroupFault
again_refusal g number ask =
    if has number g.roster.members then refusal_of g number ask else Some fault.UnknownMember

-- a member that says what it said before need not wait, but for the leader of a stable group
abbrev pub waits_in : Phase → Bool → Bool → Bool
waits_in phase.Completing is_leader is_same = not is_same
waits_in phase.Stable is_leader is_same = is_leader || not is_same
waits_in phase.Empty is_leader is_same = true
waits_in (phase.Preparing until) is_leader is_same = true

abbrev pub must_wait : Group → ℕ → List Protocol → Bool
must_wait g number protocols =
    waits_in g.phase (leads g number) (has_same number protocols g.roster.members)

abbrev pub joined_again : Group → ℕ → JoinAsk → ℕ → Bool → Group
joined_again g number ask now waits = record g {
  protocol_type = ask.protocol_type;
  roster = said_anew number ask waits now g.roster;
}

abbrev pub after_join_again : Group → ℕ → JoinAsk → ℕ → Group
after_join_again g number ask now =
    if must_wait g number ask.protocols then prepared now (joined_again g number ask now true)
    else joined_again g number ask now false

-- the answer to a JoinGroup, once there is one
abbrev pub answer_of : Group → ℕ → Member → Option (Result Joined GroupFault)
answer_of g number m =
    if m.waits then None
    else option_map (λ leader. Ok (record {
      generation = g.generation;
      leader = leader;
      is_leader = leader == number;
    })) g.leader

abbrev pub joined_by : Group → ℕ → Option Member → Option (Result Joined GroupFault)
joined_by g number None = Some (Err fault.UnknownMember)
joined_by g number (Some m) = answer_of g number m

abbrev pub joined_of : Group → ℕ → Option (Result Joined GroupFault)
joined_of g number = joined_by g number (find (is_numbered number) g.roster.members)

-- the member that has this id
abbrev pub number_of : Group → List ℕ → Option ℕ
number_of g id = option_map (λ m. m.number) (find (has_id id) g.roster.members)

abbrev pub id_of : Group → ℕ → List ℕ
id_of g number = option_map_or (λ m. m.id) (find (is_numbered number) g.roster.members) []

-- what a member says under the protocol that was chosen
abbrev pub metadata_of : Group → ℕ → List ℕ
metadata_of g number =
    option_map_or (λ m. metadata_in g.protocol m.protocols)
    (find (is_numbered number) g.roster.members) []

------ the barrier

-- all members have joined, or nobody is left and the core is to be told
abbrev pub ready_in : Phase → RosterState → Bool
ready_in phase.Empty r = not (length r.gone == 0)
ready_in (phase.Preparing until) r = not (any_goes going.Silent r.members)
ready_in phase.Completing r = false
ready_in phase.Stable r = false

abbrev pub is_ready : Group → Bool
is_ready g = ready_in g.phase g.roster

-- the deadline of those that have to join again has passed
abbrev pub is_past : Phase → ℕ → Bool
is_past (phase.Preparing until) now = nat_le until now
is_past phase.Empty now = false
is_past phase.Completing now = false
is_past phase.Stable now = false

-- who hasn't joined by then is gone
abbrev pub after_due : Group → ℕ → Group
after_due g now = if is_past g.phase now then left going.Silent now g else g

abbrev pub protocol_by : Option Member → List Member → List ℕ
protocol_by None members = []
protocol_by (Some leader) members = chosen_by leader members

-- the core was told, and answered this generation
abbrev pub settled_as : ℤ → ℕ → Group → Group
settled_as generation now g = record g {
  phase = if length g.roster.members == 0 then phase.Empty else phase.Completing;
  generation = generation;
  protocol = protocol_by (led_by g.leader g.roster.members) g.roster.members;
  leader = option_map (λ m. m.number) (led_by g.leader g.roster.members);
  roster = settled now g.roster;
  assignments = [];
}

abbrev pub after_settle : Group → ℤ → ℕ → Group
after_settle g generation now = if is_ready g then settled_as generation now g else g

-- a member that the core doesn't count yet, by its place
abbrev pub new_at : Group → ℕ → Option ℕ
new_at g place =
    option_and_then (λ m. if m.is_counted then None else Some m.number)
    (slice_get g.roster.members place)

------ SyncGroup, Heartbeat

-- a member of the present generation
abbrev pub is_present : Group → ℕ → ℤ → Bool
is_present g number generation =
    has number g.roster.members && int_eq g.generation generation

abbrev pub phase_fault : Phase → Option GroupFault
phase_fault phase.Empty = None
phase_fault (phase.Preparing until) = Some fault.RebalanceInProgress
phase_fault phase.Completing = None
phase_fault phase.Stable = None

-- the first that fits
abbrev pub fence : Group → ℕ → ℤ → Option GroupFault
fence g number generation =
    if not (has number g.roster.members) then Some fault.UnknownMember
    else (if int_eq g.generation generation then phase_fault g.phase
    else Some fault.IllegalGeneration)

-- its session begins anew
abbrev pub after_heartbeat : Group → ℕ → ℤ → ℕ → Group
after_heartbeat g number generation now =
    if is_present g number generation then record g { roster = heard number now g.roster } else g

-- the leader's assignments are missing
abbrev pub takes : Group → ℕ → ℤ → Bool
takes g number generation =
    is_present g number generation && (is_completing g.phase && leads g number)

-- who asks before the leader has assigned waits for that
abbrev pub asks : Group → ℕ → ℤ → Bool
asks g number generation = is_present g number generation && is_completing g.phase

abbrev pub after_sync : Group → ℕ → ℤ → List Assignment → ℕ → Group
after_sync g number generation assignments now =
    if takes g number generation then record g {
      phase = phase.Stable;
      roster = all_woken now g.roster;
      assignments = assignments;
    } else (if asks g number generation then record g { roster = asked number now g.roster }
    else after_heartbeat g number generation now)

abbrev pub assigned_in : Phase → List ℕ → Option (List ℕ)
assigned_in phase.Stable bytes = Some bytes
assigned_in phase.Completing bytes = None
assigned_in phase.Empty bytes = None
assigned_in (phase.Preparing until) bytes = None

-- what the leader assigned to a member of the present generation, once it has
abbrev pub synced_by : Group → ℕ → Option GroupFault → Option (Result (List ℕ) GroupFault)
synced_by g number (Some fault) = Some (Err fault)
synced_by g number None =
    option_map (λ bytes. Ok bytes) (assigned_in g.phase (assigned_to number g.assignments))

abbrev pub synced_of : Group → ℕ → ℤ → Option (Result (List ℕ) GroupFault)
synced_of g number generation = synced_by g number (fence g number generation)

------ offsets

-- offsets outside a transaction wait for what is assigned
abbrev pub commit_phase_fault : Phase → Bool → Option GroupFault
commit_phase_fault phase.Completing false = Some fault.RebalanceInProgress
commit_phase_fault phase.Completing true = None
commit_phase_fault phase.Empty in_transaction = None
commit_phase_fault (phase.Preparing until) in_transaction = None
commit_phase_fault phase.Stable in_transaction = None

-- the first that fits; while members join again those of the present generation go on
abbrev pub commit_fault : Group → ℕ → ℤ → Bool → Option GroupFault
commit_fault g number generation in_transaction =
    if not (has number g.roster.members) then Some fault.UnknownMember
    else (if int_eq g.generation generation then commit_phase_fault g.phase in_transaction
    else Some fault.IllegalGeneration)

-- a member that commits is there
abbrev pub after_commit : Group → ℕ → ℤ → Bool → ℕ → Group
after_commit g number generation in_transaction now =
    if is_some (commit_fault g number generation in_transaction) then g
    else after_heartbeat g number generation now

------ the end of a connection

-- a member that isn't counted yet never learnt its id, so it can't come back
abbrev pub is_lost : Option Member → Bool
is_lost None = false
is_lost (Some m) = m.waits && not m.is_counted

abbrev pub after_end : Group → ℕ → ℕ → Group
after_end g number now =
    if is_lost (find (is_numbered number) g.roster.members)
    then left (going.Number number) now g
    else record g { roster = left_alone number now g.roster }

------ LeaveGroup

abbrev pub after_leave : Group → ℕ → ℕ → Group
after_leave g number now =
    if has number g.roster.members then left (going.Number number) now g else g

------ time

-- members whose session has ended are gone
abbrev pub after_tick : Group → ℕ → Group
after_tick g now =
    if any_goes (going.Ended now) g.roster.members then left (going.Ended now) now g else g

abbrev pub earlier : Option ℕ → ℕ → Option ℕ
earlier None time = Some time
earlier (Some least) time = Some (min least time)

-- when the barrier is complete: at once, or at the deadline
abbrev pub deadline_of : Phase → Option ℕ
deadline_of (phase.Preparing until) = Some until
deadline_of phase.Empty = None
deadline_of phase.Completing = None
deadline_of phase.Stable = None

abbrev pub due_time : Group → Option ℕ
due_time g = if is_ready g then Some 0 else deadline_of g.phase

-- then, or when the first session of a member ends that doesn't wait
abbrev pub sooner : Option ℕ → Member → Option ℕ
sooner time m = if m.waits || m.syncs then time else earlier time m.ends

abbrev pub next_of : Group → Option ℕ
next_of g = fold sooner (due_time g) g.roster.members
