-- The members of a group, and who is gone.
use Rattle.std.specs.Prelude.{ℕ, ◌==◌, ◌&&◌, ◌||◌, Bool, true, false, not, nat_le, max}
use Rattle.std.specs.Prelude.{List, [], ◌∷◌, ◌++◌, map, Option, is_some, if◌then◌else◌, bytes_eq}
use Rattle.std.specs.List.{filter, find, fold, list_any, slice_get}
use Rattle.std.specs.Option.{option_and_then, option_map_or, option_or}
use Rattle.kx_membership.specs.Protocols.{later, milliseconds, same_protocols}
use Rattle.kx_membership.specs.declared.ask.JoinAsk.{JoinAsk}
use Rattle.kx_membership.specs.declared.ask.Protocol.{Protocol}
use Rattle.kx_membership.specs.declared.member.Member.{Member}
use Rattle.kx_membership.specs.declared.member.Going.{Going}
use Rattle.kx_membership.specs.declared.member.Going.TheVariants.{Number, Silent, Ended}

-- members in joining order, and the numbers of those gone that the core still counts
pub record RosterState : Type 0 where
  pub members : List Member
  pub gone : List ℕ

abbrev pub nobody : RosterState
nobody = record { members = []; gone = [] }

------ members

abbrev pub is_numbered : ℕ → Member → Bool
is_numbered number m = m.number == number

-- an id is compared whole
abbrev pub has_id : List ℕ → Member → Bool
has_id id m = bytes_eq m.id id

abbrev pub has : ℕ → List Member → Bool
has number members = is_some (find (is_numbered number) members)

abbrev pub is_among : ℕ → List ℕ → Bool
is_among number list = list_any (λ n. n == number) list

abbrev pub has_others : ℕ → List Member → Bool
has_others number members = list_any (λ m. not (is_numbered number m)) members

abbrev pub longest : List Member → ℕ
longest members = fold (λ most m. max m.rebalance most) 0 members

abbrev pub has_same : ℕ → List Protocol → List Member → Bool
has_same number protocols members =
    option_map_or (λ m. same_protocols m.protocols protocols) (find (is_numbered number) members)
    false

-- who led before leads on if it is there, else the first
abbrev pub led_by : Option ℕ → List Member → Option Member
led_by before members =
    option_or (option_and_then (λ number. find (is_numbered number) members) before)
    (slice_get members 0)

-- who joins waits for the others, and the core doesn't count it yet
abbrev pub joining : ℕ → List ℕ → JoinAsk → ℕ → Member
joining number id ask now = record {
  number = number;
  id = id;
  session = milliseconds ask.session_timeout;
  rebalance = milliseconds ask.rebalance_timeout;
  protocols = ask.protocols;
  ends = later now (milliseconds ask.session_timeout);
  waits = true;
  syncs = false;
  is_counted = false;
}

-- who joins again is heard, and says its timeouts and protocols anew
abbrev pub renewed : JoinAsk → Bool → ℕ → Member → Member
renewed ask waits now m = record m {
  session = milliseconds ask.session_timeout;
  rebalance = milliseconds ask.rebalance_timeout;
  protocols = ask.protocols;
  ends = later now (milliseconds ask.session_timeout);
  waits = waits;
  syncs = false;
}

-- its session begins anew
abbrev pub begun : ℕ → Member → Member
begun now m = record m { ends = later now m.session }

-- it asks for what is assigned to it, and waits for that
abbrev pub asking : ℕ → Member → Member
asking now m = record m { ends = later now m.session; syncs = true }

-- nobody waits any more for what is assigned, and sessions begin anew
abbrev pub woken : ℕ → Member → Member
woken now m = record m { ends = later now m.session; syncs = false }

-- all have joined
abbrev pub counted : ℕ → Member → Member
counted now m = record m {
  ends = later now m.session;
  waits = false;
  syncs = false;
  is_counted = true;
}

-- its connection has ended, so that nobody waits for an answer to it; it has a session to come back
abbrev pub cut_off : ℕ → Member → Member
cut_off now m =
    if m.waits || m.syncs
    then record m { ends = later now m.session; waits = false; syncs = false } else m

------ who goes

abbrev pub goes : Going → Member → Bool
goes (Number number) m = m.number == number
goes Silent m = not m.waits
goes (Ended now) m = not (m.waits || m.syncs) && nat_le m.ends now

abbrev pub any_goes : Going → List Member → Bool
any_goes going members = list_any (goes going) members

------ changes

-- the member with this number changes
abbrev pub changed : ℕ → (Member → Member) → List Member → List Member
changed number f [] = []
changed number f (m ∷ members) =
    if is_numbered number m then f m ∷ members else m ∷ changed number f members

abbrev pub pushed : Member → RosterState → RosterState
pushed m r = record r { members = r.members ++ m ∷ [] }

abbrev pub heard : ℕ → ℕ → RosterState → RosterState
heard number now r = record r { members = changed number (begun now) r.members }

abbrev pub said_anew : ℕ → JoinAsk → Bool → ℕ → RosterState → RosterState
said_anew number ask waits now r = record r {
  members = changed number (renewed ask waits now) r.members;
}

-- the numbers of those that go and that the core counts
abbrev pub gone_numbers : Going → List Member → List ℕ
gone_numbers going members =
    map (λ m. m.number) (filter (λ m. goes going m && m.is_counted) members)

abbrev pub parted : Going → RosterState → RosterState
parted going r = record {
  members = filter (λ m. not (goes going m)) r.members;
  gone = r.gone ++ gone_numbers going r.members;
}

abbrev pub asked : ℕ → ℕ → RosterState → RosterState
asked number now r = record r { members = changed number (asking now) r.members }

abbrev pub left_alone : ℕ → ℕ → RosterState → RosterState
left_alone number now r = record r { members = changed number (cut_off now) r.members }

abbrev pub all_woken : ℕ → RosterState → RosterState
all_woken now r = record r { members = map (woken now) r.members }

abbrev pub woken_if : Bool → ℕ → RosterState → RosterState
woken_if true now r = all_woken now r
woken_if false now r = r

abbrev pub settled : ℕ → RosterState → RosterState
settled now r = record { members = map (counted now) r.members; gone = [] }
