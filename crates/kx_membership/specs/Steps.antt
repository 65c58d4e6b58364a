-- What happens to a group, step by step.
use Rattle.std.specs.Prelude.{◌≡◌, ◌<◌, ◌≤◌, ◌↔◌, ◌⊎◌, ℕ, ℤ, Bool, true, false, ◌&&◌, not, length, map}
use Rattle.std.specs.Prelude.{List, [], ◌∷◌, ◌++◌, Option, Some, None, is_some}
use Rattle.std.specs.List.{list_any}
use Rattle.kx_membership.specs.Group.{after_due, after_end, after_heartbeat, after_join_again}
use Rattle.kx_membership.specs.Group.{after_join_new}
use Rattle.kx_membership.specs.Group.{after_leave, after_settle, after_sync, after_tick, again_refusal}
use Rattle.kx_membership.specs.Group.{is_ready, most_members, new_refusal, takes}
use Rattle.kx_membership.specs.Roster.{any_goes, has, is_among}
use Rattle.kx_membership.specs.declared.ask.Assignment.{Assignment}
use Rattle.kx_membership.specs.declared.ask.JoinAsk.{JoinAsk}
use Rattle.kx_membership.specs.declared.fault.GroupFault.{GroupFault}
use Rattle.kx_membership.specs.declared.group.Group.{Group}
use Rattle.kx_membership.specs.declared.group.Phase.{Phase}
use Rattle.kx_membership.specs.declared.group.Phase.TheVariants as phase
use Rattle.kx_membership.specs.declared.member.Going.TheVariants as going
use Rattle.kx_membership.specs.declared.member.Member.{Member}

pub data Step : Type 0 where
  JoinsNew : ℕ → List ℕ → JoinAsk → ℕ → Step
  JoinsAgain : ℕ → JoinAsk → ℕ → Step
  Closes : ℕ → Step
  Settles : ℤ → ℕ → Step
  Syncs : ℕ → ℤ → List Assignment → ℕ → Step
  Beats : ℕ → ℤ → ℕ → Step
  Leaves : ℕ → ℕ → Step
  -- the connection of a member has ended
  Parts : ℕ → ℕ → Step
  Ticks : ℕ → Step

abbrev pub unless : Option GroupFault → Group → Group → Group
unless None g after = after
unless (Some fault) g after = g

-- a request that is refused changes nothing
abbrev pub after_step : Group → Step → Group
after_step g (JoinsNew number id ask now) =
    unless (new_refusal g number ask) g (after_join_new g number id ask now)
after_step g (JoinsAgain number ask now) =
    unless (again_refusal g number ask) g (after_join_again g number ask now)
after_step g (Closes now) = after_due g now
after_step g (Settles generation now) = after_settle g generation now
after_step g (Syncs number generation assignments now) =
    after_sync g number generation assignments now
after_step g (Beats number generation now) = after_heartbeat g number generation now
after_step g (Leaves number now) = after_leave g number now
after_step g (Parts number now) = after_end g number now
after_step g (Ticks now) = after_tick g now

abbrev pub after_all : Group → List Step → Group
after_all g [] = g
after_all g (step ∷ steps) = after_all (after_step g step) steps

-- all have joined
abbrev pub is_settled : Phase → Bool
is_settled phase.Empty = false
is_settled (phase.Preparing until) = false
is_settled phase.Completing = true
is_settled phase.Stable = true

abbrev pub numbers : List Member → List ℕ
numbers members = map (λ m. m.number) members

-- the step settles the group with this generation
abbrev pub SettlesAs : Group → Step → ℤ → Type 0
SettlesAs g (Settles generation now) given = (is_ready g ≡ true) × (given ≡ generation)
SettlesAs g step given = ⊥

-- the leader of the group's generation assigns this
abbrev pub Assigns : Group → Step → List Assignment → Type 0
Assigns g (Syncs number generation assignments now) given =
    (takes g number generation ≡ true) × (given ≡ assignments)
Assigns g step given = ⊥

-- among these steps the leader of a generation assigns this
abbrev pub IsAssigned : Group → List Step → ℤ → List Assignment → Type 0
IsAssigned g [] generation given = ⊥
IsAssigned g (step ∷ steps) generation given =
    ((g.generation ≡ generation) × Assigns g step given)
    ⊎ IsAssigned (after_step g step) steps generation given

-- a client that is no member joins with this number
abbrev pub Joins : Step → ℕ → Type 0
Joins (JoinsNew number id ask now) joined = number ≡ joined
Joins step joined = ⊥

abbrev pub NoneJoins : List Step → ℕ → Type 0
NoneJoins [] number = Unit {0}
NoneJoins (step ∷ steps) number = (Joins step number → ⊥) × NoneJoins steps number

abbrev pub is_distinct : List ℕ → Bool
is_distinct [] = true
is_distinct (n ∷ list) = not (is_among n list) && is_distinct list

abbrev pub HasLeader : Group → Type 0
HasLeader g =
    (number : ℕ) × (g.leader ≡ Some number) × (has number g.roster.members ≡ true)

-- what holds of every group
pub record IsGroup (g : Group) : Type 0 where
  pub within : length g.roster.members ≤ most_members
  pub apart : is_distinct (numbers g.roster.members ++ g.roster.gone) ≡ true
  pub empty : (g.phase ≡ phase.Empty) ↔ (length g.roster.members ≡ 0)
  pub joined : is_settled g.phase ≡ true → list_any (λ m. m.waits) g.roster.members ≡ false
  pub led : is_settled g.phase ≡ true → HasLeader g
  pub known : any_goes going.Silent g.roster.members ≡ true → is_some g.leader ≡ true
  pub counted : list_any (λ m. m.is_counted) g.roster.members ≡ true → is_some g.leader ≡ true

-- a time comes before another, if there is another
abbrev pub IsBefore : ℕ → Option ℕ → Type 0
IsBefore now None = Unit {0}
IsBefore now (Some time) = now < time
