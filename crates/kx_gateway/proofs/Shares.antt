-- Which partitions the topics of a table have.
use Rattle.std.proofs.Common.{◌≡◌, ◌≤◌, ◌<◌, ◌+◌, ℕ, ℤ, pos, negsuc, List, [], ◌∷◌, ◌++◌, Bool, true}
use Rattle.std.proofs.Common.{false, cond, ltb, Option, Some, sym, ap, ◌∙◌, arith, inl, inr}
use Rattle.std.proofs.Common.{◌⊎◌, refl}
use Rattle.std.specs.Str.{bytes_eq}
use Rattle.std.proofs.lemmas.Bool.{cond-true, cond-false, ltb-true}
use Rattle.std.proofs.lemmas.Option.{cond_some}
use Rattle.std.proofs.lemmas.Slice.Eq.{bytes_eq-Decides}
use Rattle.kx_message.specs.Ranges.{data_partitions}
use Rattle.kx_gateway.specs.Topics.{Entry, IsTable, partition_after, partition_at, partitions_of}
use Rattle.kx_gateway.specs.Topics.{place_at}
use Rattle.kx_gateway.proofs.Tables.{table_room}

place_is : (before count index p : ℕ) → place_at before count index ≡ Some p
    → (p ≡ before + index) × (index < count)
place_is before count index p e =
    let s = cond_some (ltb index count) (before + index) p e in
    (sym s.1, ltb-true index count s.0)

choose : (b : Bool) (x y : Option ℕ) (p : ℕ) → cond b x y ≡ Some p
    → ((b ≡ true) × (x ≡ Some p)) ⊎ ((b ≡ false) × (y ≡ Some p))
choose true x y p e = inl (refl, e)
choose false x y p e = inr (refl, e)

-- a topic has partitions after those before it, and no more than all have
pub within : (before : ℕ) (table : List Entry) (name : List ℕ) (index p : ℕ)
    → partition_after before table name index ≡ Some p
    → (before ≤ p) × (p < before + partitions_of table)
within before [] name index p h = absurd cc
within before (e ∷ table) name index p h =
    elim (choose (bytes_eq e.name name) (place_at before e.count index)
    (partition_after (before + e.count) table name index) p h) [
      | inl w ↦
          let q = place_is before e.count index p w.1 in
          (omega (arith, q.0), omega (arith, q.0, q.1))
      | inr w ↦
          let r = within (before + e.count) table name index p w.1 in
          (omega (arith, r.0), omega (arith, r.1))
    ]

pub stays : (before : ℕ) (table more : List Entry) (name : List ℕ) (index p : ℕ)
    → partition_after before table name index ≡ Some p
    → partition_after before (table ++ more) name index ≡ Some p
stays before [] more name index p h = absurd cc
stays before (e ∷ table) more name index p h =
    let b = bytes_eq e.name name in
    let x = place_at before e.count index in
    let y = partition_after (before + e.count) (table ++ more) name index in
    elim (choose b x (partition_after (before + e.count) table name index) p h) [
      | inl w ↦ cond-true b x y w.0 ∙ w.1
      | inr w ↦ cond-false b x y w.0 ∙ stays (before + e.count) table more name index p w.1
    ]

pub apart : (before : ℕ) (table : List Entry) (name other : List ℕ) (index place p : ℕ)
    → partition_after before table name index ≡ Some p
    → partition_after before table other place ≡ Some p
    → (name ≡ other) × (index ≡ place)
apart before [] name other index place p g h = absurd cc
apart before (e ∷ table) name other index place p g h =
    let one = choose (bytes_eq e.name name) (place_at before e.count index)
    (partition_after (before + e.count) table name index) p g in
    let two = choose (bytes_eq e.name other) (place_at before e.count place)
    (partition_after (before + e.count) table other place) p h in
    elim one [
      | inl a ↦
          let q = place_is before e.count index p a.1 in
          elim two [
            | inl b ↦
                let r = place_is before e.count place p b.1 in (
                  sym ((bytes_eq-Decides e.name name).0 a.0) ∙ (bytes_eq-Decides e.name other).0 b.0,
                  omega (arith, q.0, r.0),
                )
            | inr b ↦
                let r = within (before + e.count) table other place p b.1 in
                absurd (omega (arith, q.0, q.1, r.0))
          ]
      | inr a ↦
          elim two [
            | inl b ↦
                let q = place_is before e.count place p b.1 in
                let r = within (before + e.count) table name index p a.1 in
                absurd (omega (arith, q.0, q.1, r.0))
            | inr b ↦ apart (before + e.count) table name other index place p a.1 b.1
          ]
    ]

pub at_within : (table : List Entry) (name : List ℕ) (index : ℤ) (p : ℕ) → IsTable table
    → partition_at table name index ≡ Some p → p < data_partitions
at_within table name (pos index) p h e =
    let r = within 0 table name index p e in
    let room = table_room table h in
    omega (arith, r.1, room)
at_within table name (negsuc n) p h e = absurd cc

pub at_stays : (table more : List Entry) (name : List ℕ) (index : ℤ) (p : ℕ)
    → partition_at table name index ≡ Some p → partition_at (table ++ more) name index ≡ Some p
at_stays table more name (pos index) p e = stays 0 table more name index p e
at_stays table more name (negsuc n) p e = absurd cc

pub at_apart : (table : List Entry) (name other : List ℕ) (index place : ℤ) (p : ℕ)
    → partition_at table name index ≡ Some p → partition_at table other place ≡ Some p
    → (name ≡ other) × (index ≡ place)
at_apart table name other (pos index) (pos place) p g h =
    let r = apart 0 table name other index place p g h in
    (r.0, ap pos r.1)
at_apart table name other (pos index) (negsuc n) p g h = absurd cc
at_apart table name other (negsuc n) place p g h = absurd cc
