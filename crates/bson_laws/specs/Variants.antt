-- The variants of an enum by their names. Source: serde's data model.
use Rattle.std.specs.Prelude.{Option, Some, None, if◌then◌else◌}
use Rattle.std.specs.Str.{bytes_eq}
use Rattle.bson_kinds.specs.Text.{Utf8}
use Rattle.bson_shape.specs.Form.{Content, Variants, no_variants, variant}

-- the contents of the variant of a name
abbrev pub content_of : Variants → Utf8 → Option Content
content_of no_variants key = None
content_of (variant name c vs) key = if bytes_eq name key then Some c else content_of vs key
