-- The table of topics: which names there may be, and where the partitions of each lie.
use Rattle.std.specs.Prelude.{◌≡◌, ◌+◌, ◌-◌, ℕ, ℤ, pos, negsuc, List, [], ◌∷◌}
use Rattle.std.specs.Prelude.{◌++◌, length, Bool, not, ◌&&◌, ◌||◌, ◌==◌, nat_lt, codes}
use Rattle.std.specs.Prelude.{Option, Some, None, is_some, if◌then◌else◌}
use Rattle.std.specs.List.{list_all}
use Rattle.std.specs.Char.{is_ascii_alphanumeric}
use Rattle.std.specs.Str.{bytes_eq}
use Rattle.kx_message.specs.Ranges.{data_partitions}
use Rattle.kx_gateway.specs.declared.topics.TopicFault.{TopicFault}
use Rattle.kx_gateway.specs.declared.topics.TopicFault.TheVariants as fault

------ names (Kafka's rule for the names of topics)

-- a letter, a digit, '.', '_' or '-'
abbrev pub is_name_byte : ℕ → Bool
is_name_byte byte = is_ascii_alphanumeric byte || byte == 46 || byte == 95 || byte == 45

abbrev pub longest_name : ℕ
longest_name = 249

abbrev pub has_name_length : List ℕ → Bool
has_name_length name = not (length name == 0) && not (nat_lt longest_name (length name))

abbrev pub are_dots : List ℕ → Bool
are_dots name = bytes_eq name (codes ".") || bytes_eq name (codes "..")

abbrev pub is_topic_name : List ℕ → Bool
is_topic_name name = has_name_length name && list_all is_name_byte name && not (are_dots name)

------ the table

pub record Entry : Type 0 where
  pub name : List ℕ
  pub count : ℕ

-- how many partitions the topic of this name has
abbrev pub count_of : List Entry → List ℕ → Option ℕ
count_of [] name = None
count_of (e ∷ table) name = if bytes_eq e.name name then Some e.count else count_of table name

-- how many partitions the topics have
abbrev pub partitions_of : List Entry → ℕ
partitions_of [] = 0
partitions_of (e ∷ table) = e.count + partitions_of table

-- partition `index` of a topic of `count` partitions that follow `before` others
abbrev pub place_at : ℕ → ℕ → ℕ → Option ℕ
place_at before count index = if nat_lt index count then Some (before + index) else None

-- after so many others come the partitions of the first topic, and then those of the next
abbrev pub partition_after : ℕ → List Entry → List ℕ → ℕ → Option ℕ
partition_after before [] name index = None
partition_after before (e ∷ table) name index =
    if bytes_eq e.name name then place_at before e.count index
    else partition_after (before + e.count) table name index

-- the core's partition of a topic's partition
abbrev pub partition_at : List Entry → List ℕ → ℤ → Option ℕ
partition_at table name (pos index) = partition_after 0 table name index
partition_at table name (negsuc n) = None

-- why a topic can't be made, the first that fits
abbrev pub add_fault : List Entry → List ℕ → ℕ → Option TopicFault
add_fault table name count =
    if not (is_topic_name name) then Some fault.Name
    else (if is_some (count_of table name) then Some fault.Twice
    else (if count == 0 || nat_lt (data_partitions - partitions_of table) count
    then Some fault.Count else None))

-- each topic could be made if the table had those before it alone
abbrev pub IsTableAfter : List Entry → List Entry → Type 0
IsTableAfter front [] = Unit {0}
IsTableAfter front (e ∷ table) =
    (add_fault front e.name e.count ≡ None) × IsTableAfter (front ++ e ∷ []) table

abbrev pub IsTable : List Entry → Type 0
IsTable table = IsTableAfter [] table
