-- How many threads use an entry that they share.
use Rattle.std.specs.Prelude.{◌==◌, ◌+◌, ◌-◌, ◌^◌, ℕ, Bool, min}
use Rattle.kx_kafka_server.specs.declared.users.Users.{Users}

abbrev pub most_users : ℕ
most_users = 2 ^ 32 - 1

-- one thread more uses the entry
abbrev pub entered : Users → Users
entered users = record { count = min (users.count + 1) most_users }

-- one thread less uses it
abbrev pub left : Users → Users
left users = record { count = users.count - 1 }

-- nobody uses it
abbrev pub is_unused : Users → Bool
is_unused users = users.count == 0
