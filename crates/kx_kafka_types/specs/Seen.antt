-- What a version has of values.
use Rattle.std.specs.Prelude.{[], nat_lt, ◌==◌, if◌then◌else◌, map}
use Rattle.std.specs.Prelude.{option_map}
use Rattle.kx_kafka_types.specs.declared.version.Version.{Version}
use Rattle.kx_kafka_types.specs.Schema.{Versions, Always, Since, Only, Fields, End, One, Field}
use Rattle.kx_kafka_types.specs.Schema.{Array, NullableArray, Values}

abbrev pub seen_in : {A : Type 0} → Versions → Version → A → A → A
seen_in Always version other x = x
seen_in (Since first) version other x = if nat_lt version.number first then other else x
seen_in (Only one) version other x = if version.number == one then x else other

-- the values, with the other value of each field that the version doesn't have
abbrev pub seen : Version → (fields : Fields) → Values fields → Values fields
seen version End v = v
seen version (One p) v = v
seen version (Field versions p other rest) v =
    (seen_in versions version other v.0, seen version rest v.1)
seen version (Array versions element rest) v =
    (seen_in versions version [] (map (seen version element) v.0), seen version rest v.1)
seen version (NullableArray since element rest) v =
    (option_map (map (seen version element)) v.0, seen version rest v.1)
