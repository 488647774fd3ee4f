-- What contracts see of the variant that has a name. Source: serde's data model.
use Rattle.std.specs.Prelude.{List, [], ◌∷◌, if◌then◌else◌, Ok, string_bytes}
use Rattle.std.specs.Str.{bytes_eq}
use Rattle.bson_kinds.specs.Text.{Utf8}
use Rattle.bson_shape.specs.declared.shape.VariantShape.{VariantShape}
use Rattle.bson_values.specs.Cause.{unknown_variant}
use Rattle.bson_laws.specs.Judged.{Reading, refused}

-- the variant that has the name
abbrev pub variant_named : List VariantShape → Utf8 → Reading VariantShape
variant_named [] name = refused (unknown_variant name)
variant_named (v ∷ vs) name = if bytes_eq (string_bytes v.name) name then Ok v else variant_named vs name
