-- An array that is read as it is asked for.
use Rattle.std.specs.Prelude.{◌≡◌, ℕ, List, [], ◌∷◌, Option, Some, None, Result, Ok, Err, IsOk}
use Rattle.kx_kafka_types.specs.declared.version.Version.{Version}
use Rattle.kx_kafka_types.specs.declared.fault.KafkaFault.{KafkaFault}
use Rattle.kx_kafka_types.specs.Schema.{Fields, Values}
use Rattle.kx_kafka_types.specs.Reading.{repeated, fields_at}

-- so many structs at the front of a text
pub record Rows : Type 0 where
  pub version : Version
  pub left : ℕ
  pub text : List ℕ

abbrev pub list_of : {A : Type 0} → Result (List A × List ℕ) KafkaFault → List A
list_of (Ok x) = x.0
list_of (Err f) = []

-- their values
abbrev pub elements : (fields : Fields) → Rows → List (Values fields)
elements fields rows = list_of (repeated (fields_at rows.version fields) rows.left rows.text)

-- they are there
abbrev pub AreRows : Fields → Version → ℕ → List ℕ → Type 0
AreRows fields version left text = IsOk (repeated (fields_at version fields) left text)

-- the first of them is taken, if there is one
abbrev pub FirstOf : {T : Type 0} → (fields : Fields) → (T → Values fields) → Rows → Option T
    → Rows → Type 0
FirstOf fields values old None new = (elements fields old ≡ []) × (new ≡ old)
FirstOf fields values old (Some x) new = elements fields old ≡ values x ∷ elements fields new
