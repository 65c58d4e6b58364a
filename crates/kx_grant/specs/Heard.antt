-- Which connections of a transactional id are heard.
use Rattle.std.specs.Prelude.{ℕ, Bool, true, not, nat_lt, if◌then◌else◌, Option, Some, None}
use Rattle.std.specs.Prelude.{List, [], ◌∷◌}
use Rattle.kx_grant.specs.declared.heard.Heard.{Heard}
use Rattle.kx_grant.specs.declared.heard.Role.{Role}
use Rattle.kx_grant.specs.declared.heard.Role.TheVariants as role

abbrev pub none_heard : Heard
none_heard = record { coordinator = None; offsets = None; batches = None }

-- the newest connection that spoke in a role
abbrev pub newest : Heard → Role → Option ℕ
newest h role.Coordinator = h.coordinator
newest h role.Offsets = h.offsets
newest h role.Batches = h.batches

abbrev pub with_newest : Heard → Role → ℕ → Heard
with_newest h role.Coordinator connection = record h { coordinator = Some connection }
with_newest h role.Offsets connection = record h { offsets = Some connection }
with_newest h role.Batches connection = record h { batches = Some connection }

-- no newer one spoke
abbrev pub is_newest : Option ℕ → ℕ → Bool
is_newest None connection = true
is_newest (Some last) connection = not (nat_lt connection last)

abbrev pub is_heard : Heard → Role → ℕ → Bool
is_heard h in_role connection = is_newest (newest h in_role) connection

abbrev pub after_hear : Heard → Role → ℕ → Heard
after_hear h in_role connection =
    if is_heard h in_role connection then with_newest h in_role connection else h

-- a new grant was answered over this connection
abbrev pub granted_to : ℕ → Heard
granted_to connection = record { coordinator = Some connection; offsets = None; batches = None }

-- requests that come, in turn
pub record Hear : Type 0 where
  pub in_role : Role
  pub connection : ℕ

abbrev pub after_hears : Heard → List Hear → Heard
after_hears h [] = h
after_hears h (x ∷ xs) = after_hears (after_hear h x.in_role x.connection) xs
