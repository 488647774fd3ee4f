-- What contracts see of what is accepted. Source: this library's own types.
use Rattle.std.specs.Prelude.{ℕ, Bool, true, false, Option, Some, None, option_map}
use Rattle.bson_kinds.specs.Text.{Bytes, Utf8}
use Rattle.bson_base.specs.Instant.{millis}
use Rattle.bson_base.specs.Parsed.{bytes_of_base64}
use Rattle.bson_base.specs.Tree as tree
use Rattle.bson_base.specs.Tree.{Tree}
use Rattle.bson_kinds.specs.declared.element_type.ElementType.{ElementType}
use Rattle.bson_kinds.specs.declared.element_type.ElementType.TheVariants as kinds
use Rattle.bson_values.specs.Value.{Value, map, raw_document}
use Rattle.bson_reserved.specs.declared.accepted.Accepted.{Accepted}
use Rattle.bson_reserved.specs.declared.accepted.Accepted.TheVariants.{ObjectId, DateTime, Base64, Binary, Timestamp, JavaScriptCode, Symbol, RegularExpression, DbPointer, Decimal128, MinKey, MaxKey, Undefined}
use Rattle.bson_reserved.specs.declared.unique_id.UuidBytes.{UuidBytes}
use Rattle.bson_reserved.specs.declared.unique_id.UuidBytes.TheVariants as uuid

-- the value; none where the text of a binary is not base64 of bytes
abbrev pub accepted_view : Accepted → Option Tree
accepted_view (ObjectId id) = Some (tree.object_id id.0)
accepted_view (DateTime d) = Some (tree.date_time (millis d))
accepted_view (Base64 subtype text) = option_map (λ b. tree.binary subtype.0 b) (bytes_of_base64 text.now)
accepted_view (Binary subtype bytes) = Some (tree.binary subtype.0 bytes.now)
accepted_view (Timestamp t) = Some (tree.timestamp t.time t.increment)
accepted_view (JavaScriptCode code) = Some (tree.javascript_code code.now)
accepted_view (Symbol text) = Some (tree.symbol text.now)
accepted_view (RegularExpression pattern options) = Some (tree.regular_expression pattern.now options.now)
accepted_view (DbPointer namespace id) = Some (tree.db_pointer namespace.now id.0)
accepted_view (Decimal128 bits) = Some (tree.decimal128 bits.0)
accepted_view MinKey = Some tree.min_key
accepted_view MaxKey = Some tree.max_key
accepted_view Undefined = Some tree.undefined

-- the subtype and the text of a binary whose bytes are given as base64
abbrev pub base64_view : Accepted → Option (ℕ × Utf8)
base64_view (Base64 subtype text) = Some (subtype.0, text.now)
base64_view accepted = None

-- the value is what a scope is given as: a map, or a document in its bytes
abbrev pub IsScope : Value → Type 0
IsScope (map es) = Unit {0}
IsScope (raw_document bs) = Unit {0}
IsScope v = ⊥

-- the bytes of a UUID
abbrev pub uuid_view : UuidBytes → Bytes
uuid_view (uuid.Uuid id) = id.0
uuid_view (uuid.Bytes bs) = bs.now

-- the bytes are those of a text
abbrev pub is_of_text : UuidBytes → Bool
is_of_text (uuid.Uuid id) = true
is_of_text (uuid.Bytes bs) = false

-- the kind of what is accepted
abbrev pub accepted_kind : Accepted → ElementType
accepted_kind (ObjectId id) = kinds.ObjectId
accepted_kind (DateTime d) = kinds.DateTime
accepted_kind (Base64 subtype text) = kinds.Binary
accepted_kind (Binary subtype bytes) = kinds.Binary
accepted_kind (Timestamp t) = kinds.Timestamp
accepted_kind (JavaScriptCode code) = kinds.JavaScriptCode
accepted_kind (Symbol text) = kinds.Symbol
accepted_kind (RegularExpression pattern options) = kinds.RegularExpression
accepted_kind (DbPointer namespace id) = kinds.DbPointer
accepted_kind (Decimal128 bits) = kinds.Decimal128
accepted_kind MinKey = kinds.MinKey
accepted_kind MaxKey = kinds.MaxKey
accepted_kind Undefined = kinds.Undefined
