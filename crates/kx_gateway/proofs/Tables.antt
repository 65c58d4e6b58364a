-- Facts of the table of topics.
use Rattle.std.proofs.Common.{◌≡◌, ◌≤◌, ◌+◌, ◌-◌, ℕ, zero, suc, List, [], ◌∷◌, ◌++◌, length, Bool, true, false}
use Rattle.std.proofs.Common.{cond, Option, Some, None, eqb, ltb, refl, sym, ap, ◌∙◌, arith}
use Rattle.std.proofs.Common.{append_assoc, ◌||◌, lit≤}
use Rattle.std.specs.Prelude.{is_some, not}
use Rattle.std.proofs.lemmas.Bool.{ltb-false}
use Rattle.std.proofs.lemmas.List.{append-nil}
use Rattle.kx_message.specs.Ranges.{data_partitions}
use Rattle.kx_gateway.specs.declared.topics.TopicFault.{TopicFault}
use Rattle.kx_gateway.specs.declared.topics.TopicFault.TheVariants as fault
use Rattle.kx_gateway.specs.Topics.{Entry, IsTable, IsTableAfter, add_fault, count_of}
use Rattle.kx_gateway.specs.Topics.{is_topic_name, partitions_of}

pub partitions_of-append : (front table : List Entry)
    → partitions_of (front ++ table) ≡ partitions_of front + partitions_of table
partitions_of-append [] table = omega arith
partitions_of-append (e ∷ front) table = omega (arith, partitions_of-append front table)

no_fault : (b : Bool) (f : TopicFault) (o : Option TopicFault) → cond b (Some f) o ≡ None
    → (b ≡ false) × (o ≡ None)
no_fault true f o e = absurd cc
no_fault false f o e = (refl, e)

neither : (a b : Bool) → (a || b) ≡ false → (a ≡ false) × (b ≡ false)
neither true b e = absurd cc
neither false b e = (refl, e)

some_count : (n : ℕ) → eqb n 0 ≡ false → 1 ≤ n
some_count zero e = absurd cc
some_count (suc n) e = omega arith

-- what can be added has partitions, and no more than are free
pub record Fits (table : List Entry) (count : ℕ) : Type 0 where
  pub some : 1 ≤ count
  pub room : partitions_of table + count ≤ data_partitions

pub fits : (table : List Entry) (name : List ℕ) (count : ℕ) → partitions_of table ≤ data_partitions
    → add_fault table name count ≡ None → Fits table count
fits table name count le e =
    let a = no_fault (not (is_topic_name name)) fault.Name _ e in
    let b = no_fault (is_some (count_of table name)) fault.Twice _ a.1 in
    let c = no_fault (eqb count 0 || ltb (data_partitions - partitions_of table) count)
    fault.Count None b.1 in
    let d = neither (eqb count 0) (ltb (data_partitions - partitions_of table) count) c.0 in
    let le2 : count ≤ data_partitions - partitions_of table = ltb-false _ _ d.1 in
    let some = some_count count d.0 in
    record { some = some; room = omega (arith, le2, le) }

after_room : (front table : List Entry) → partitions_of front ≤ data_partitions
    → IsTableAfter front table
    → (partitions_of front + partitions_of table ≤ data_partitions)
    × (length table ≤ partitions_of table)
after_room front [] le h = (omega (arith, le), omega arith)
after_room front (e ∷ table) le h =
    let f = fits front e.name e.count le h.0 in
    let size = partitions_of-append front (e ∷ []) in
    let more = after_room (front ++ e ∷ []) table (omega (arith, size, f.room)) h.1 in
    (omega (arith, size, more.0), omega (arith, f.some, more.1))

-- a table has no more than 16 partitions, and no more topics than those
pub table_room : (table : List Entry) → IsTable table → partitions_of table ≤ data_partitions
table_room table h =
    let r = after_room [] table (lit≤ tt) h in
    omega (arith, r.0)

pub table_length : (table : List Entry) → IsTable table → length table ≤ data_partitions
table_length table h =
    let r = after_room [] table (lit≤ tt) h in
    omega (arith, r.0, r.1)

after_push : (front table : List Entry) (e : Entry) → IsTableAfter front table
    → add_fault (front ++ table) e.name e.count ≡ None → IsTableAfter front (table ++ e ∷ [])
after_push front [] e h free =
    (ap (λ (t : List Entry). add_fault t e.name e.count) (sym (append-nil front)) ∙ free, tt)
after_push front (x ∷ table) e h free = (
  h.0,
  after_push (front ++ x ∷ []) table e h.1
      (ap (λ (t : List Entry). add_fault t e.name e.count) (append_assoc front (x ∷ []) table)
      ∙ free),
)

-- a topic that can be added is the last of a table
pub table_push : (table : List Entry) (e : Entry) → IsTable table
    → add_fault table e.name e.count ≡ None → IsTable (table ++ e ∷ [])
table_push table e h free = after_push [] table e h free

yes_name : (b : Bool) → not b ≡ false → b ≡ true
yes_name true e = refl
yes_name false e = absurd cc

-- what can be added has a name that Kafka allows
pub fits_name : (table : List Entry) (name : List ℕ) (count : ℕ)
    → add_fault table name count ≡ None → is_topic_name name ≡ true
fits_name table name count e =
    yes_name (is_topic_name name) (no_fault (not (is_topic_name name)) fault.Name _ e).0

-- the front of a table is one
pub table_front : (front table rest : List Entry) → IsTableAfter front (table ++ rest)
    → IsTableAfter front table
table_front front [] rest h = tt
table_front front (e ∷ table) rest h = (h.0, table_front (front ++ e ∷ []) table rest h.1)
