-- What a client says when it joins, and what a leader assigns (KIP-62; Kafka's protocol guide,
-- "JoinGroup" and "SyncGroup").
use Rattle.std.specs.Prelude.{ℕ, ℤ, pos, negsuc, ◌+◌, ◌-◌, ◌^◌, ◌==◌, ◌&&◌, Bool, List, []}
use Rattle.std.specs.Prelude.{bytes_eq, int_le, is_some, min}
use Rattle.std.specs.List.{find}
use Rattle.std.specs.Option.{option_map_or}
use Rattle.kx_membership.specs.declared.ask.Assignment.{Assignment}
use Rattle.kx_membership.specs.declared.ask.Protocol.{Protocol}
use Rattle.std.specs.Cmp.Lexicographic.{pointwise}

abbrev pub same_protocol : Protocol → Protocol → Bool
same_protocol p q = bytes_eq p.name q.name && bytes_eq p.metadata q.metadata

-- the same in the same order
abbrev pub same_protocols : List Protocol → List Protocol → Bool
same_protocols ps qs = pointwise same_protocol ps qs

abbrev pub is_named : List ℕ → Protocol → Bool
is_named name p = bytes_eq p.name name

abbrev pub has_protocol : List ℕ → List Protocol → Bool
has_protocol name protocols = is_some (find (is_named name) protocols)

-- what a client says under the protocol of this name
abbrev pub metadata_in : List ℕ → List Protocol → List ℕ
metadata_in name protocols = option_map_or (λ p. p.metadata) (find (is_named name) protocols) []

-- what a leader assigns to a member
abbrev pub assigned_to : ℕ → List Assignment → List ℕ
assigned_to number assignments =
    option_map_or (λ a. a.bytes) (find (λ a. a.member == number) assignments) []

------ times, in milliseconds

abbrev pub milliseconds : ℤ → ℕ
milliseconds (pos n) = n
milliseconds (negsuc n) = 0

-- so long after a time, of times that fit 64 bits
abbrev pub later : ℕ → ℕ → ℕ
later now wait = min (now + wait) (2 ^ 64 - 1)

-- half an hour at most
abbrev pub is_session_timeout : ℤ → Bool
is_session_timeout timeout = int_le (pos 1) timeout && int_le timeout (pos 1800000)
