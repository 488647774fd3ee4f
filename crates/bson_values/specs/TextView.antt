-- What contracts see of a text: its contents, whoever owns them. Source: this library's own types.
use Rattle.std.specs.Prelude.{string_bytes}
use Rattle.bson_kinds.specs.Text.{Utf8}
use Rattle.bson_values.specs.declared.text.Text.{Text}
use Rattle.bson_values.specs.declared.text.Text.TheVariants.{Borrowed, Owned}

abbrev pub text_view : Text → Utf8
text_view (Borrowed s) = s.now
text_view (Owned s) = string_bytes s
