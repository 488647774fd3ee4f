-- What each part has to be of the list that a kind takes: tables of places, against which a list is compared part by part. Source: the reserved names of MongoDB's crate bson, version 2.
use Rattle.std.specs.Prelude.{pos, ◌^◌, nat_lt, Bool, true, false, ◌&&◌, ◌||◌, List, [], ◌∷◌, is_some, codes}
use Rattle.std.specs.Str.{bytes_eq}
use Rattle.bson_base.specs.Parsed.{bytes_of_digits, integer_of_text, bytes_of_base64, subtype_of_text}
use Rattle.bson_kinds.specs.Text.{Bytes, Utf8}
use Rattle.bson_kinds.specs.declared.element_type.ElementType.{ElementType}
use Rattle.bson_kinds.specs.declared.element_type.ElementType.TheVariants.{Binary, ObjectId, DateTime, RegularExpression, DbPointer, JavaScriptCode, JavaScriptCodeWithScope, Symbol, Timestamp, Decimal128}
use Rattle.bson_values.specs.Value.{i64, u8, Value, integer, str, bytes, map, raw_document}
use Rattle.bson_laws.specs.Unwrap.{Part, a_key, a_value, sixteen}

-- what a part of a list has to be
pub data Place : Type 0 where
  this_key : Utf8 → Place
  -- one of these keys
  key_of : Utf8 → Utf8 → Place
  -- a text of 24 hexadecimal digits
  object_id : Place
  -- a text of a number of 64 bits
  number : Place
  -- a text of standard base64
  base64 : Place
  -- a text of an even number of hexadecimal digits, of which the first two are a subtype
  subtype : Place
  text : Place
  byte_string : Place
  -- sixteen bytes
  decimal : Place
  -- a number of `u8`
  byte : Place
  -- a number of `i64` that is one of 32 bits without a sign
  unsigned : Place
  -- a map, or a document in its bytes
  scope : Place

-- ---- whether a part is what it has to be

abbrev pub is_key : (Utf8 → Bool) → Part Value → Bool
is_key test (a_key k) = test k
is_key test (a_value v s) = false

abbrev pub is_text : (Utf8 → Bool) → Part Value → Bool
is_text test (a_value (str t) s) = test t
is_text test part = false

abbrev pub is_bytes : (Bytes → Bool) → Part Value → Bool
is_bytes test (a_value (bytes b) s) = test b
is_bytes test part = false

abbrev pub is_byte : Part Value → Bool
is_byte (a_value (integer u8 (pos n)) s) = true
is_byte part = false

abbrev pub is_unsigned : Part Value → Bool
is_unsigned (a_value (integer i64 (pos n)) s) = nat_lt n (2 ^ 32)
is_unsigned part = false

abbrev pub is_scope : Part Value → Bool
is_scope (a_value (map es) s) = true
is_scope (a_value (raw_document b) s) = true
is_scope part = false

abbrev pub takes : Place → Part Value → Bool
takes (this_key name) part = is_key (λ k. bytes_eq k name) part
takes (key_of name other) part = is_key (λ k. bytes_eq k name || bytes_eq k other) part
takes object_id part = is_text (λ t. is_some (bytes_of_digits 12 t)) part
takes number part = is_text (λ t. is_some (integer_of_text t)) part
takes base64 part = is_text (λ t. is_some (bytes_of_base64 t)) part
takes subtype part = is_text (λ t. is_some (subtype_of_text t)) part
takes text part = is_text (λ t. true) part
takes byte_string part = is_bytes (λ b. true) part
takes decimal part = is_bytes (λ b. is_some (sixteen b)) part
takes byte part = is_byte part
takes unsigned part = is_unsigned part
takes scope part = is_scope part

-- the parts of a list are what they have to be, as far as it goes
abbrev pub agrees : List Place → List (Part Value) → Bool
agrees ps [] = true
agrees [] (x ∷ list) = false
agrees (p ∷ ps) (x ∷ list) = takes p x && agrees ps list

-- they are what one of some lists of places says
abbrev pub agrees_some : List (List Place) → List (Part Value) → Bool
agrees_some [] list = false
agrees_some (ps ∷ []) list = agrees ps list
agrees_some (ps ∷ more) list = agrees ps list || agrees_some more list

-- ---- the lists of places of each kind

abbrev pub as_text : List Place
as_text = this_key (codes "$binary") ∷ key_of (codes "base64") (codes "bytes") ∷ base64 ∷ this_key (codes "subType") ∷ subtype ∷ []

abbrev pub as_bytes : List Place
as_bytes = this_key (codes "$binary") ∷ key_of (codes "base64") (codes "bytes") ∷ byte_string ∷ this_key (codes "subType") ∷ byte ∷ []

abbrev pub ways : ElementType → List (List Place)
ways ObjectId = (this_key (codes "$oid") ∷ object_id ∷ []) ∷ []
ways DateTime = (this_key (codes "$date") ∷ this_key (codes "$numberLong") ∷ number ∷ []) ∷ []
ways Binary = as_text ∷ as_bytes ∷ []
ways Timestamp = (this_key (codes "$timestamp") ∷ this_key (codes "t") ∷ unsigned ∷ this_key (codes "i") ∷ unsigned ∷ []) ∷ []
ways JavaScriptCode = (this_key (codes "$code") ∷ text ∷ []) ∷ []
ways JavaScriptCodeWithScope = (this_key (codes "$code") ∷ text ∷ this_key (codes "$scope") ∷ scope ∷ []) ∷ []
ways Symbol = (this_key (codes "$symbol") ∷ text ∷ []) ∷ []
ways RegularExpression = (this_key (codes "$regularExpression") ∷ this_key (codes "pattern") ∷ text ∷ this_key (codes "options") ∷ text ∷ []) ∷ []
ways DbPointer = (this_key (codes "$dbPointer") ∷ this_key (codes "$ref") ∷ text ∷ this_key (codes "$id") ∷ this_key (codes "$oid") ∷ object_id ∷ []) ∷ []
ways Decimal128 = (key_of (codes "$numberDecimal") (codes "$numberDecimalBytes") ∷ decimal ∷ []) ∷ []
ways k = []
