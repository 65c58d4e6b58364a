-- What a stock producer with a transactional id holds after a restart, read from the coordinator's
-- log.
use Rattle.std.specs.Prelude.{◌≡◌, ℕ, Bool, true, false, ◌&&◌, List, Option, Some, None, bytes_eq}
use Rattle.kx_message.specs.declared.message.Held.{Held}
use Rattle.kx_model.specs.Coordinator.{Cause, ByInit, State, Empty, Ongoing, Prepare, Complete}
use Rattle.kx_model.specs.Coordinator.{Row, TxnEntry, CoordinatorEpoch, Allot, Written, last_row}
use Rattle.kx_model.specs.Coordinator.{row_of}
use Rattle.kx_model.specs.Requests.{ended_as, own_pair}
use Rattle.kx_grant.specs.Grant.{reopened}
use Rattle.kx_grant.specs.declared.grant.Grant.{Grant}
use Rattle.kx_grant.specs.declared.grant.LastRow.{LastRow}
use Rattle.kx_grant.specs.declared.grant.LastRow.TheVariants as last

-- a request for an id was answered with the row's pair; a row of this cause that decides a
-- transaction only fences its owner
abbrev pub is_grant : Cause → State → Bool
is_grant ByInit Empty = true
is_grant cause state = false

abbrev pub grants : Row → Bool
grants r = is_grant r.cause r.state

-- the last row that granted a transactional id
abbrev pub grant_row : List TxnEntry → List ℕ → Option Row
grant_row log txn = last_row (λ r. bytes_eq r.txn txn && grants r) log

-- what the id's last row says of its transaction
abbrev pub last_of : State → LastRow
last_of Empty = last.Empty
last_of Ongoing = last.Ongoing
last_of (Prepare outcome) = last.Decided outcome
last_of (Complete outcome) = last.Decided outcome

-- the pair with which the core goes on: as an end is answered that is asked again
abbrev pub core_of : Row → Held
core_of r = ended_as r r.state

abbrev pub granted_by : Option Row → Option Row → Option Grant
granted_by None r = None
granted_by (Some granting) None = None
granted_by (Some granting) (Some r) =
    Some (reopened (own_pair granting) (core_of r) (last_of r.state))

abbrev pub granted_again : List TxnEntry → List ℕ → Option Grant
granted_again log txn = granted_by (grant_row log txn) (row_of log txn)

------ of which the laws speak

-- the entry grants the id
abbrev pub is_granted_by : List ℕ → TxnEntry → Bool
is_granted_by txn (CoordinatorEpoch epoch) = false
is_granted_by txn (Allot id) = false
is_granted_by txn (Written r) = bytes_eq r.txn txn && grants r

-- there is a grant, of this pair
abbrev pub IsGrantOf : Held → Option Grant → Type 0
IsGrantOf held None = ⊥
IsGrantOf held (Some g) = g.granted ≡ held
