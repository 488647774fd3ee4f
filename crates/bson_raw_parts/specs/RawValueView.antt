-- What contracts see of a raw value: its kind and its bytes, whoever owns them. Source: this library's own types.
use Rattle.std.specs.Prelude.{◌≡◌}
use Rattle.bson_kinds.specs.Text.{Bytes}
use Rattle.bson_values.specs.ByteStrView.{bytes_view}
use Rattle.bson_values.specs.declared.byte_str.ByteStr.{ByteStr}
use Rattle.bson_values.specs.declared.byte_str.ByteStr.TheVariants.{Borrowed, Owned}
use Rattle.bson_laws.specs.Assembled.{RawBytes}
use Rattle.bson_raw_parts.specs.declared.raw_value.RawValue.{RawValue}

abbrev pub raw_view : RawValue → RawBytes
raw_view v = record { kind = v.element_type; bytes = bytes_view v.bytes }

-- these bytes, borrowed
abbrev pub IsBorrowed : ByteStr → Bytes → Type 0
IsBorrowed (Borrowed s) b = s.now ≡ b
IsBorrowed (Owned v) b = ⊥
