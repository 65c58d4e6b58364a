-- What is appended behind a text is the text of the fields.
use Rattle.std.proofs.Common.{◌≡◌, ℕ, List, ◌++◌, refl, ◌∙◌, append_assoc}
use Rattle.kx_kafka_types.specs.declared.version.Version.{Version}
use Rattle.kx_kafka_types.specs.Schema.{Fields, End, One, Field, Array, NullableArray, Values}
use Rattle.kx_kafka_types.specs.Writing.{fields_text, fields_onto, text_in, primitive_text}
use Rattle.kx_kafka_types.specs.Writing.{array_text, nullable_array_text}

pub onto_is : (version : Version) (fields : Fields) (v : Values fields) (front : List ℕ)
    → fields_onto version fields v front ≡ front ++ fields_text version fields v
onto_is version End v front = refl
onto_is version (One p) v front = refl
onto_is version (Field versions p other rest) v front =
    onto_is version rest v.1 (front ++ text_in versions version (primitive_text version p v.0))
    ∙ append_assoc front (text_in versions version (primitive_text version p v.0))
    (fields_text version rest v.1)
onto_is version (Array versions element rest) v front =
    let text = text_in versions version (array_text version (fields_text version element) v.0) in
    onto_is version rest v.1 (front ++ text)
    ∙ append_assoc front text (fields_text version rest v.1)
onto_is version (NullableArray since element rest) v front =
    let text = nullable_array_text version (fields_text version element) v.0 in
    onto_is version rest v.1 (front ++ text)
    ∙ append_assoc front text (fields_text version rest v.1)
