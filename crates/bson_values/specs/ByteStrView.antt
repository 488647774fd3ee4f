-- What contracts see of a byte string: its contents, whoever owns them. Source: this library's own types.
use Rattle.bson_kinds.specs.Text.{Bytes}
use Rattle.bson_values.specs.declared.byte_str.ByteStr.{ByteStr}
use Rattle.bson_values.specs.declared.byte_str.ByteStr.TheVariants.{Borrowed, Owned}

abbrev pub bytes_view : ByteStr → Bytes
bytes_view (Borrowed s) = s.now
bytes_view (Owned v) = v.items
