-- Value after value, a builder comes to the plain batch of all.
use Rattle.std.proofs.Common.{◌≡◌, ◌<◌, ◌≤◌, ◌+◌, ℕ, pos, negsuc, List, [], ◌∷◌, ◌++◌, Option, None}
use Rattle.std.proofs.Common.{Some, Bool, true, false, cond, ltb, length, map, refl, sym, ap, ◌∙◌}
use Rattle.std.proofs.Common.{append_assoc, append-nil, arith, drop, is_some, subst, true≢false}
use Rattle.std.specs.List.{enumerate_from}
use Rattle.std.proofs.lemmas.Bool.{ltb-true, lt-ltb}
use Rattle.std.proofs.lemmas.List.{length-append, length-drop}
use Rattle.std.proofs.lemmas.List.Concat.{flat_map-append}
use Rattle.kx_batch.proofs.Making.{length-fields_text, length-whole_text}
use Rattle.kx_batch.specs.Batch.{Batch, SpellsBatch, batch_limit}
use Rattle.kx_batch.specs.Build.{Builds, Draft, Refuses, batch_text, drafted, fields_text, made}
use Rattle.kx_batch.specs.Build.{pushed, record_text, records_text, with_pushed, within_limit}
use Rattle.kx_batch.specs.Record.{Record}
use Rattle.kx_batch.specs.declared.fault.BuildFault.TheVariants.{Empty, TooLarge}
use Rattle.kx_broker.specs.Serving.{plain_batch}
use Rattle.kx_model.specs.Client.{value_records}
use Rattle.kx_model.specs.Step.{plain_text}

-- the draft of a producer without an id
abbrev pub plain : Option (List Record) → Draft
plain records = record {
  attributes = pos 0;
  producer_id = negsuc 0;
  producer_epoch = negsuc 0;
  base_sequence = negsuc 0;
  records = records;
}

abbrev records_from : ℕ → List (List ℕ) → List Record
records_from n values = map (λ v. pushed v.0 None (Some v.1) []) (enumerate_from n values)

-- the records after so many more values
abbrev pub pushes : Option (List Record) → List (List ℕ) → Option (List Record)
pushes records [] = records
pushes records (value ∷ values) = pushes (with_pushed records None (Some value) []) values

pub pushes-none : (values : List (List ℕ)) → pushes None values ≡ None
pushes-none [] = refl
pushes-none (value ∷ values) = pushes-none values

abbrev passes : List Record → Bool
passes records = ltb batch_limit (61 + length (records_text records))

-- more records have no fewer bytes
more_passes : (records more : List Record) → passes records ≡ true
    → passes (records ++ more) ≡ true
more_passes records more h =
    let l : batch_limit < 61 + length (records_text records) = ltb-true _ _ h in
    let e : length (records_text (records ++ more))
    ≡ length (records_text records) + length (records_text more) =
    ap length (flat_map-append record_text records more)
    ∙ length-append (records_text records) (records_text more) in
    lt-ltb _ _ (omega arith)

module _ (records : List Record) (value : List ℕ) (values : List (List ℕ)) where
  abbrev next : List Record
  next = records ++ pushed (length records) None (Some value) [] ∷ []

  joined : next ++ records_from (length next) values
      ≡ records ++ records_from (length records) (value ∷ values)
  joined = ap (λ (n : ℕ). next ++ records_from n values)
      (length-append records (pushed (length records) None (Some value) [] ∷ []))
      ∙ append_assoc records (pushed (length records) None (Some value) [] ∷ [])
      (records_from (length records + 1) values)

  step : (b : Bool) → passes next ≡ b
      → (b ≡ false → pushes (Some next) values
      ≡ within_limit (next ++ records_from (length next) values))
      → pushes (cond b None (Some next)) values
      ≡ within_limit (records ++ records_from (length records) (value ∷ values))
  step true e h = pushes-none values
      ∙ sym (ap (λ (b : Bool). cond b None (Some (next ++ records_from (length next) values)))
      (more_passes next (records_from (length next) values) e))
      ∙ ap within_limit joined
  step false e h = h refl ∙ ap within_limit joined

pushes-some : (records : List Record) (values : List (List ℕ)) → passes records ≡ false
    → pushes (Some records) values
    ≡ within_limit (records ++ records_from (length records) values)
pushes-some records [] h = sym (ap within_limit (append-nil records)
    ∙ ap (λ (b : Bool). cond b None (Some records)) h)
pushes-some records (value ∷ values) h = step records value values
    (passes (next records value values)) refl
    (λ e. pushes-some (next records value values) values e)

pub pushes-all : (values : List (List ℕ))
    → pushes (Some []) values ≡ within_limit (value_records values)
pushes-all values = pushes-some [] values refl

pub limited : (records all : List Record) → within_limit all ≡ Some records
    → (passes all ≡ false) × (records ≡ all)
limited records all = at (passes all) where
  at : (b : Bool) → cond b None (Some all) ≡ Some records → (b ≡ false) × (records ≡ all)
  at true h = absurd (cc)
  at false h = (refl, cc)

passed : (all : List Record) → within_limit all ≡ None → passes all ≡ true
passed all = at (passes all) where
  at : (b : Bool) → cond b None (Some all) ≡ None → b ≡ true
  at true h = refl
  at false h = absurd (cc)

length_plain : (values : List (List ℕ))
    → length (plain_text values) ≡ 61 + length (records_text (value_records values))
length_plain values =
    let records = value_records values in
    let v = made (pos 0) (negsuc 0) (negsuc 0) (negsuc 0) records in
    omega (
      arith,
      length-whole_text (pos 0) (pos 0) (fields_text v (length records) ++ records_text records),
      length-append (fields_text v (length records)) (records_text records),
      length-fields_text v (length records),
    )

is_none : (o : Option (List Record)) → is_some o ≡ false → o ≡ None
is_none None e = refl
is_none (Some records) e = absurd (true≢false e)

-- what would pass the limit
pub passes_limit : (values : List (List ℕ)) → is_some (within_limit (value_records values)) ≡ false
    → batch_limit < length (plain_text values)
passes_limit values none =
    let over : batch_limit < 61 + length (records_text (value_records values)) =
    ltb-true _ _ (passed (value_records values) (is_none (within_limit (value_records values)) none))
    in omega (arith, over, length_plain values)

-- the draft of all values
abbrev pub limited_to : List (List ℕ) → Draft
limited_to values = plain (within_limit (value_records values))

no_length : (items : List (List ℕ)) → length items ≤ 0 → items ≡ []
no_length [] le = refl
no_length (value ∷ items) le = absurd (omega (arith, le))

drop_past : (items : List (List ℕ)) (i : ℕ) → length items ≤ i → drop i items ≡ []
drop_past items i le = no_length (drop i items) (omega (arith, length-drop i items, le))

-- once no value is left
pub all_pushed : (values items : List (List ℕ)) (i : ℕ) (d : Draft) → length items ≤ i
    → d ≡ plain d.records → pushes d.records (drop i items) ≡ pushes (Some []) values
    → d ≡ limited_to values
all_pushed values items i d le is same =
    is ∙ ap plain (sym (ap (pushes d.records) (drop_past items i le)) ∙ same ∙ pushes-all values)

no_values : (value : List ℕ) (values : List (List ℕ))
    → [] ≡ value_records (value ∷ values) → ⊥
no_values value values h = cc

-- what a builder of that draft answers
module _ (value : List ℕ) (more : List (List ℕ)) (d : Draft) (is : d ≡ limited_to (value ∷ more))
  where
    abbrev all : List (List ℕ)
    all = value ∷ more

    records_are : d.records ≡ within_limit (value_records all)
    records_are = ap (λ (d : Draft). d.records) is

    pub made_of : (text : List ℕ) → Builds d text
        → (text ≡ plain_text all) × SpellsBatch (plain_batch all) text
    made_of text h =
        let l = limited h.0 (value_records all) (sym records_are ∙ h.1) in
        let same : drafted d h.0 ≡ plain_batch all =
        ap (λ (d : Draft). drafted d h.0) is
        ∙ ap (λ (rs : List Record). made (pos 0) (negsuc 0) (negsuc 0) (negsuc 0) rs) l.1 in
        (h.2 ∙ ap batch_text same, subst (λ (b : Batch). SpellsBatch b text) same h.3)

    pub never_large : is_some (within_limit (value_records all)) ≡ true → Refuses d TooLarge → ⊥
    never_large fits h =
        let none : within_limit (value_records all) ≡ None = sym records_are ∙ h in
        let never : is_some (within_limit (value_records all)) ≡ false = ap is_some none in
        absurd (true≢false (sym fits ∙ never))

    pub never_empty : Refuses d Empty → ⊥
    never_empty h =
        no_values value more
        (limited [] (value_records all) (sym records_are ∙ h)).1
