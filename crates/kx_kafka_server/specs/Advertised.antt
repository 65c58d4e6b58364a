-- Where clients are told to find the broker.
use Rattle.std.specs.Prelude.{◌≡◌, ◌≤◌, ◌<◌, ◌==◌, ◌^◌, ℕ, Bool, List, Option, None, Some, codes}
use Rattle.std.specs.Prelude.{if◌then◌else◌, length}
use Rattle.std.specs.Str.Parse.{IsNumeral, digits_value, without_leading_plus}
use Rattle.std.specs.List.{after_first, before_first, position_or_len}
use Rattle.kx_kafka_server.specs.declared.advertised.Advertised.{Advertised}

abbrev pub is_colon : ℕ → Bool
is_colon byte = byte == 58

-- the digits of a port
pub record IsPort (digits : List ℕ) (port : ℕ) : Type 0 where
  pub numeral : IsNumeral 10 (without_leading_plus digits)
  pub fits : port < 2 ^ 16
  pub value : port ≡ digits_value 10 (without_leading_plus digits)

-- the text is a host, a colon and a port
pub record Advertises (text : List ℕ) (asked : Advertised) : Type 0 where
  pub parted : position_or_len is_colon text < length text
  pub host : asked.host.now ≡ before_first is_colon text
  pub named : 1 ≤ length asked.host.now
  pub short : length asked.host.now ≤ 255
  pub port : IsPort (after_first is_colon text) asked.port

-- the host that clients are told
abbrev pub host_of : Option Advertised → List ℕ
host_of None = codes "127.0.0.1"
host_of (Some asked) = asked.host.now

-- the port that is asked for
abbrev pub port_of : Option Advertised → ℕ
port_of None = 0
port_of (Some asked) = asked.port

-- the port that clients are told: that on which the server listens, if none is asked for
abbrev pub told_port : ℕ → ℕ → ℕ
told_port asked taken = if asked == 0 then taken else asked
