-- The kinds whose values JSON has too. Source: JSON (RFC 8259).
use Rattle.std.specs.Prelude.{Bool, true, false}
use Rattle.bson_kinds.specs.declared.element_type.ElementType.{ElementType}
use Rattle.bson_kinds.specs.declared.element_type.ElementType.TheVariants.{Double, String, EmbeddedDocument, Array, Boolean, Null, Int32, Int64}

-- whether values of the kind are numbers, texts, documents, arrays, booleans or null
abbrev pub is_of_json : ElementType → Bool
is_of_json Double = true
is_of_json String = true
is_of_json EmbeddedDocument = true
is_of_json Array = true
is_of_json Boolean = true
is_of_json Null = true
is_of_json Int32 = true
is_of_json Int64 = true
is_of_json k = false
