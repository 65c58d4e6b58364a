-- Facts of the file of topics.
use Rattle.std.proofs.Common.{◌≡◌, ◌≤◌, ◌<◌, ◌+◌, ◌-◌, ◌/◌, ◌%◌, ◌^◌, ℕ, List, [], ◌∷◌, ◌++◌}
use Rattle.std.proofs.Common.{Bool, true, false, ◌&&◌, eqb, length, refl, sym, ap}
use Rattle.std.proofs.Common.{◌∙◌, subst, append_assoc, arith, Option, Some, None}
use Rattle.std.specs.Prelude.{not, IsSome, decimal}
use Rattle.std.specs.List.{list_all}
use Rattle.std.proofs.lemmas.Bool.{eq-eqb, eqb-true}
use Rattle.std.proofs.lemmas.Fmt.{decimal_digit, decimal_step, decimal_injective}
use Rattle.std.proofs.Common.{inl, inr, ◌⊎◌}
use Rattle.kx_message.specs.Ranges.{data_partitions}
use Rattle.kx_gateway.specs.declared.topics.TopicFault.{TopicFault}
use Rattle.kx_gateway.specs.declared.topics.TopicFault.TheVariants as fault
use Rattle.kx_gateway.specs.declared.table_file.TopicsFault.{TopicsFault}
use Rattle.kx_gateway.specs.declared.table_file.TopicsFault.TheVariants.{Damaged, Memory}
use Rattle.kx_gateway.specs.Topics.{Entry, IsTable, IsTableAfter, add_fault, partitions_of, are_dots, has_name_length}
use Rattle.kx_gateway.specs.Topics.{is_name_byte}
use Rattle.kx_gateway.specs.TableFile.{IsDamaged, Refuses, SaysNothing, lacks, line_fault}
use Rattle.kx_gateway.specs.TableFile.{table_text, words_of}
use Rattle.std.proofs.lemmas.Bool.{cases_lt}
use Rattle.std.proofs.lemmas.List.{append-nil}
use Rattle.std.proofs.lemmas.List.Folds.{list_all-append}
use Rattle.kx_gateway.proofs.Tables.{fits, fits_name, partitions_of-append, table_room}

both : (a b : Bool) → (a && b) ≡ true → (a ≡ true) × (b ≡ true)
both true b e = (refl, e)
both false b e = absurd cc

differs : (b byte : ℕ) → not (eqb b byte) ≡ true → b ≡ byte → ⊥
differs b byte e same =
    let yes : eqb b byte ≡ true = eq-eqb b byte same in
    let no : not true ≡ true = ap not (sym yes) ∙ e in
    cc

-- what is in front of the first such byte, and what comes after it
pub split_once : (byte : ℕ) (a b c d : List ℕ) → lacks byte a ≡ true → lacks byte b ≡ true
    → a ++ byte ∷ c ≡ b ++ byte ∷ d → (a ≡ b) × (c ≡ d)
split_once byte [] [] c d la lb e = (refl, cc)
split_once byte [] (y ∷ b) c d la lb e =
    let no = both (not (eqb y byte)) (lacks byte b) lb in
    let is : y ≡ byte = cc in
    absurd (differs y byte no.0 is)
split_once byte (x ∷ a) [] c d la lb e =
    let no = both (not (eqb x byte)) (lacks byte a) la in
    let is : x ≡ byte = cc in
    absurd (differs x byte no.0 is)
split_once byte (x ∷ a) (y ∷ b) c d la lb e =
    let head : x ≡ y = cc in
    let tail : a ++ byte ∷ c ≡ b ++ byte ∷ d = cc in
    let more = split_once byte a b c d (both (not (eqb x byte)) (lacks byte a) la).1
    (both (not (eqb y byte)) (lacks byte b) lb).1 tail in
    (ap (λ (z : ℕ). z ∷ a) head ∙ ap (λ (t : List ℕ). y ∷ t) more.0, more.1)

-- what lacks a byte isn't made with it
pub lacks_none : (byte : ℕ) (a c : List ℕ) → lacks byte (a ++ byte ∷ c) ≡ true → ⊥
lacks_none byte [] c e =
    differs byte byte (both (not (eqb byte byte)) (lacks byte c) e).0 refl
lacks_none byte (x ∷ a) c e =
    lacks_none byte a c (both (not (eqb x byte)) (lacks byte (a ++ byte ∷ c)) e).1

no_byte : (byte : ℕ) → is_name_byte byte ≡ false → (b : ℕ) → is_name_byte b ≡ true
    → not (eqb b byte) ≡ true
no_byte byte none b e =
    let cases : (t : Bool) → eqb b byte ≡ t → not (eqb b byte) ≡ true =
    elim [
      | true ↦ λ h.
          let is : b ≡ byte = eqb-true b byte h in
          let wrong : true ≡ false = sym e ∙ ap is_name_byte is ∙ none in
          absurd cc
      | false ↦ λ h. ap not h
    ] in
    cases (eqb b byte) refl

-- a topic's name has no byte but those that Kafka allows
pub name_lacks : (byte : ℕ) → is_name_byte byte ≡ false → (name : List ℕ)
    → list_all is_name_byte name ≡ true → lacks byte name ≡ true
name_lacks byte none [] e = refl
name_lacks byte none (b ∷ name) e =
    let parts = both (is_name_byte b) (list_all is_name_byte name) e in
    ap (λ t. t && lacks byte name) (no_byte byte none b parts.0)
    ∙ name_lacks byte none name parts.1

------ numbers of at most 16

pub one_digit : (n : ℕ) → n < 10 → decimal n ≡ (48 + n) ∷ []
one_digit n lt = decimal_digit n lt

pub two_digits : (n : ℕ) → 10 ≤ n → n ≤ 16 → decimal n ≡ 49 ∷ (48 + (n - 10)) ∷ []
two_digits n ge le =
    let tens : n / 10 ≡ 1 = omega arith in
    let ones : n % 10 ≡ n - 10 = omega arith in
    decimal_step n ge (omega arith)
    ∙ ap (λ (ds : List ℕ). ds ++ ((48 + n % 10) ∷ [])) (ap decimal tens ∙ decimal_digit 1 (omega arith))
    ∙ ap (λ k. 49 ∷ (48 + k) ∷ []) ones

------ lines that say no topic

pub no_number : (line name digits : List ℕ) → line ≡ name ++ 32 ∷ digits → lacks 32 name ≡ true
    → ((n : ℕ) → 1 ≤ n → n ≤ data_partitions → decimal n ≡ digits → ⊥) → (e : Entry)
    → lacks 32 e.name ≡ true → 1 ≤ e.count → e.count ≤ data_partitions → words_of e ≡ line → ⊥
no_number line name digits is ln none e le some most w =
    none e.count some most (split_once 32 e.name name (decimal e.count) digits le ln (w ∙ is)).1

some_unless : {A : Type 0} (o : Option A) → (o ≡ None → ⊥) → IsSome o
some_unless None h = absurd (h refl)
some_unless (Some x) h = refl

digit_lacks : (b : ℕ) → 10 < b → not (eqb b 10) ≡ true
digit_lacks b lt =
    let cases : (t : Bool) → eqb b 10 ≡ t → not (eqb b 10) ≡ true =
    elim [
      | true ↦ λ h. let is : b ≡ 10 = eqb-true b 10 h in absurd (omega (arith, is))
      | false ↦ λ h. ap not h
    ] in
    cases (eqb b 10) refl

-- digits have no newline
pub digits_lack : (n : ℕ) → n ≤ data_partitions → lacks 10 (decimal n) ≡ true
digits_lack n le =
    elim (cases_lt n 10) [
      | inl lt ↦
          ap (lacks 10) (one_digit n lt)
          ∙ ap (λ t. t && true) (digit_lacks (48 + n) (omega arith))
      | inr ge ↦
          ap (lacks 10) (two_digits n ge le)
          ∙ ap (λ t. t && true) (digit_lacks (48 + (n - 10)) (omega arith))
    ]

-- what can be added is a topic that a line can say
pub record Sayable (e : Entry) : Type 0 where
  pub name : lacks 32 e.name ≡ true
  pub some : 1 ≤ e.count
  pub most : e.count ≤ data_partitions
  pub line : lacks 10 (words_of e) ≡ true

pub sayable_after : (front : List Entry) (e : Entry) → partitions_of front ≤ data_partitions
    → add_fault front e.name e.count ≡ None → Sayable e
sayable_after front e room free =
    let f = fits front e.name e.count room free in
    let named = fits_name front e.name e.count free in
    let parts = both (has_name_length e.name && list_all is_name_byte e.name)
    (not (are_dots e.name)) named in
    let bytes = both (has_name_length e.name) (list_all is_name_byte e.name) parts.0 in
    let most : e.count ≤ data_partitions = omega (arith, f.room) in
    let name : lacks 10 e.name ≡ true = name_lacks 10 refl e.name bytes.1 in
    record {
      name = name_lacks 32 refl e.name bytes.1;
      some = f.some;
      most = most;
      line =
          list_all-append (λ b. not (eqb b 10)) e.name (32 ∷ decimal e.count)
          ∙ ap (λ t. t && lacks 10 (decimal e.count)) name
          ∙ digits_lack e.count most;
    }

sayable : (table : List Entry) (e : Entry) → IsTable table
    → add_fault table e.name e.count ≡ None → Sayable e
sayable table e h free = sayable_after table e (table_room table h) free

pub unread : (table : List Entry) (line : List ℕ) → IsTable table
    → ((e : Entry) → lacks 32 e.name ≡ true → 1 ≤ e.count → e.count ≤ data_partitions
    → words_of e ≡ line → ⊥)
    → SaysNothing table line
unread table line h none = λ e w. some_unless (add_fault table e.name e.count) (λ free.
    let s = sayable table e h free in
    none e s.name s.some s.most w)

pub refused : (table : List Entry) (line name : List ℕ) (count : ℕ) (f : TopicFault)
    → IsTable table → name ++ 32 ∷ decimal count ≡ line → lacks 32 name ≡ true → count < 2 ^ 64
    → add_fault table name count ≡ Some f → SaysNothing table line
refused table line name count f h is ln small wrong =
    λ e w. some_unless (add_fault table e.name e.count) (λ free.
    let s = sayable table e h free in
    let parts = split_once 32 e.name name (decimal e.count) (decimal count) s.name ln
    (w ∙ sym is) in
    let same : e.count ≡ count =
    decimal_injective e.count count (omega (arith, s.most)) small parts.1 in
    let other : add_fault table name count ≡ None =
    subst (λ k. add_fault table name k ≡ None) same
    (subst (λ (n : List ℕ). add_fault table n e.count ≡ None) parts.0 free) in
    let no : None ≡ Some f = sym other ∙ wrong in
    cc)

name_no : fault.Name ≡ fault.Memory → ⊥
name_no e = cc

twice_no : fault.Twice ≡ fault.Memory → ⊥
twice_no e = cc

count_no : fault.Count ≡ fault.Memory → ⊥
count_no e = cc

pub refuses : (table : List Entry) (line name : List ℕ) (count number : ℕ) (f : TopicFault)
    → number ≡ length table + 1 → IsTable table → name ++ 32 ∷ decimal count ≡ line
    → lacks 32 name ≡ true → count < 2 ^ 64
    → (add_fault table name count ≡ Some f)
    ⊎ ((add_fault table name count ≡ None) × (f ≡ fault.Memory))
    → Refuses table line (line_fault f number)
refuses table line name count number fault.Name e h is ln small why = (
  h,
  e,
  refused table line name count fault.Name h is ln small
      (elim why [ inl x ↦ x | inr x ↦ absurd (name_no x.1) ]),
)
refuses table line name count number fault.Twice e h is ln small why = (
  h,
  e,
  refused table line name count fault.Twice h is ln small
      (elim why [ inl x ↦ x | inr x ↦ absurd (twice_no x.1) ]),
)
refuses table line name count number fault.Count e h is ln small why = (
  h,
  e,
  refused table line name count fault.Count h is ln small
      (elim why [ inl x ↦ x | inr x ↦ absurd (count_no x.1) ]),
)
refuses table line name count number fault.Memory e h is ln small why = tt

pub damaged : (text : List ℕ) (table : List Entry) (line rest : List ℕ) (f : TopicsFault)
    → text ≡ table_text table ++ (line ++ 10 ∷ rest) → lacks 10 line ≡ true
    → Refuses table line f → IsDamaged text f
damaged text table line rest (Damaged number) is whole r = record {
  table = table;
  before = r.0;
  counted = r.1;
  line = line;
  rest = rest;
  parts = is;
  whole = whole;
  bad = r.2;
}
damaged text table line rest Memory is whole r = tt

------ lines that are read again

pub same_words : (x y : Entry) → Sayable x → Sayable y → words_of x ≡ words_of y → x ≡ y
same_words x y sx sy w =
    let parts = split_once 32 x.name y.name (decimal x.count) (decimal y.count) sx.name sy.name w in
    let counts : x.count ≡ y.count =
    decimal_injective x.count y.count (omega (arith, sx.most)) (omega (arith, sy.most)) parts.1 in
    let make : List ℕ → ℕ → Entry = λ name count. record { name = name; count = count } in
    ap (λ (n : List ℕ). make n x.count) parts.0 ∙ ap (λ k. make y.name k) counts

line_front : (x : Entry) (table : List Entry) (rest : List ℕ)
    → table_text (x ∷ table) ++ rest ≡ words_of x ++ 10 ∷ (table_text table ++ rest)
line_front x table rest = simp append_assoc

more_room : (front : List Entry) (e : Entry) → partitions_of front ≤ data_partitions
    → add_fault front e.name e.count ≡ None → partitions_of (front ++ e ∷ []) ≤ data_partitions
more_room front e room free =
    let f = fits front e.name e.count room free in
    omega (arith, partitions_of-append front (e ∷ []), f.room)

-- the first lines of two tables are the same
pub first_same : (front : List Entry) (x y : Entry) (t1 t2 : List Entry) (r1 r2 : List ℕ)
    → partitions_of front ≤ data_partitions → IsTableAfter front (x ∷ t1)
    → IsTableAfter front (y ∷ t2)
    → table_text (x ∷ t1) ++ r1 ≡ table_text (y ∷ t2) ++ r2
    → (x ≡ y) × (table_text t1 ++ r1 ≡ table_text t2 ++ r2)
first_same front x y t1 t2 r1 r2 room h1 h2 e =
    let sx = sayable_after front x room h1.0 in
    let sy = sayable_after front y room h2.0 in
    let parts = split_once 10 (words_of x) (words_of y) (table_text t1 ++ r1) (table_text t2 ++ r2)
    sx.line sy.line (sym (line_front x t1 r1) ∙ e ∙ line_front y t2 r2) in
    (same_words x y sx sy parts.0, parts.1)

torn_none : (x : Entry) (table : List Entry) (torn rest : List ℕ) → lacks 10 torn ≡ true
    → torn ≡ table_text (x ∷ table) ++ rest → ⊥
torn_none x table torn rest whole e =
    lacks_none 10 (words_of x) (table_text table ++ rest)
    (ap (lacks 10) (sym (e ∙ line_front x table rest)) ∙ whole)

pub lines_again : (front t1 t2 : List Entry) (r1 r2 : List ℕ)
    → partitions_of front ≤ data_partitions → IsTableAfter front t1 → IsTableAfter front t2
    → lacks 10 r1 ≡ true → lacks 10 r2 ≡ true → table_text t1 ++ r1 ≡ table_text t2 ++ r2
    → t1 ≡ t2
lines_again front [] [] r1 r2 room h1 h2 l1 l2 e = refl
lines_again front [] (y ∷ t2) r1 r2 room h1 h2 l1 l2 e = absurd (torn_none y t2 r1 r2 l1 e)
lines_again front (x ∷ t1) [] r1 r2 room h1 h2 l1 l2 e = absurd (torn_none x t1 r2 r1 l2 (sym e))
lines_again front (x ∷ t1) (y ∷ t2) r1 r2 room h1 h2 l1 l2 e =
    let s = first_same front x y t1 t2 r1 r2 room h1 h2 e in
    let t : IsTableAfter (front ++ x ∷ []) t2 =
    subst (λ (z : Entry). IsTableAfter (front ++ z ∷ []) t2) (sym s.0) h2.1 in
    let more = lines_again (front ++ x ∷ []) t1 t2 r1 r2 (more_room front x room h1.0) h1.1 t l1 l2 s.1 in
    ap (λ (z : Entry). z ∷ t1) s.0 ∙ ap (λ (ts : List Entry). y ∷ ts) more

none_some : (o : Option TopicFault) → o ≡ None → IsSome o → ⊥
none_some None e h = cc
none_some (Some f) e h = cc

pub none_bad : (front t1 t2 : List Entry) (torn line rest : List ℕ)
    → partitions_of front ≤ data_partitions → IsTableAfter front t1 → IsTableAfter front t2
    → lacks 10 torn ≡ true → lacks 10 line ≡ true
    → table_text t1 ++ torn ≡ table_text t2 ++ (line ++ 10 ∷ rest)
    → SaysNothing (front ++ t2) line → ⊥
none_bad front [] [] torn line rest room h1 h2 lt ll e bad =
    lacks_none 10 line rest (ap (lacks 10) (sym e) ∙ lt)
none_bad front [] (y ∷ t2) torn line rest room h1 h2 lt ll e bad =
    torn_none y t2 torn (line ++ 10 ∷ rest) lt e
none_bad front (x ∷ t1) [] torn line rest room h1 h2 lt ll e bad =
    let sx = sayable_after front x room h1.0 in
    let parts = split_once 10 (words_of x) line (table_text t1 ++ torn) rest sx.line ll
    (sym (line_front x t1 torn) ∙ e) in
    none_some (add_fault (front ++ []) x.name x.count)
    (ap (λ (t : List Entry). add_fault t x.name x.count) (append-nil front) ∙ h1.0)
    (bad x parts.0)
none_bad front (x ∷ t1) (y ∷ t2) torn line rest room h1 h2 lt ll e bad =
    let s = first_same front x y t1 t2 torn (line ++ 10 ∷ rest) room h1 h2 e in
    let t : IsTableAfter (front ++ y ∷ []) t1 =
    subst (λ (z : Entry). IsTableAfter (front ++ z ∷ []) t1) s.0 h1.1 in
    none_bad (front ++ y ∷ []) t1 t2 torn line rest (more_room front y room h2.0) t h2.1 lt ll s.1
    (subst (λ (ts : List Entry). SaysNothing ts line) (sym (append_assoc front (y ∷ []) t2)) bad)
