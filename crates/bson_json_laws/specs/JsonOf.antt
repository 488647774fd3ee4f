-- The JSON value that a BSON value is written as. Source: MongoDB's extended JSON, version 2, "Conversion table", the canonical and the relaxed form.
use Rattle.std.specs.Prelude.{◌≡◌, ◌⊎◌, [], ◌∷◌, Bool, true, false, ℤ, pos, negsuc, codes}
use Rattle.std.specs.Fmt.{decimal}
use Rattle.std.specs.Float.{float_is_finite}
use Rattle.json.specs.Json as json
use Rattle.json.specs.Json.{Json, Items, no_items, item, Members, no_members, member, object}
use Rattle.bson_dates.specs.DatePrinted.{IsDateText, HasYear}
use Rattle.bson_decimals.specs.Decimals.{decimal_text}
use Rattle.bson_kinds.specs.Text.{Bytes, Utf8}
use Rattle.bson_base.specs.Made.{digits, number_text, base64_text}
use Rattle.bson_base.specs.Tree.{Tree, double, string, document, array, binary, undefined, object_id, boolean, date_time, null, regular_expression, db_pointer, javascript_code, symbol, javascript_code_with_scope, int32, timestamp, int64, decimal128, max_key, min_key, raw, Pairs, no_pairs, pair, Trees, no_trees, tree}
use Rattle.bson_json_laws.specs.Doubles.{float_in, IsFloatText}
use Rattle.bson_json_laws.specs.declared.form.JsonForm.{JsonForm}
use Rattle.bson_json_laws.specs.declared.form.JsonForm.TheVariants.{Canonical, Relaxed}

-- the object of one member, and of two
abbrev pub one : Utf8 → Json → Json
one key j = object (member key j no_members)

abbrev pub two : Utf8 → Json → Utf8 → Json → Json
two key j other k = object (member key j (member other k no_members))

-- the object of one member that is a text
abbrev pub text_at : Utf8 → Utf8 → Json
text_at key s = one key (json.string s)

-- the number 1 at a key
abbrev pub one_at : Utf8 → Json
one_at key = one key (json.number (decimal 1))

-- a double as a text at its key
abbrev pub WrapsDouble : Bytes → Json → Type 0
WrapsDouble bytes j = (s : Utf8) × (j ≡ text_at (codes "$numberDouble") s) × IsFloatText (float_in bytes) s

-- a finite double as a number
abbrev pub IsDoubleNumber : Bytes → Json → Type 0
IsDoubleNumber bytes j = (s : Utf8) × (j ≡ json.number s) × IsFloatText (float_in bytes) s

abbrev pub IsRelaxedDouble : (finite : Bool) → Bytes → Json → Type 0
IsRelaxedDouble true bytes j = IsDoubleNumber bytes j
IsRelaxedDouble false bytes j = WrapsDouble bytes j

abbrev pub IsDouble : JsonForm → Bytes → Json → Type 0
IsDouble Canonical bytes j = WrapsDouble bytes j
IsDouble Relaxed bytes j = IsRelaxedDouble (float_is_finite (float_in bytes)) bytes j

-- an integer: its digits at a key, or a number
abbrev pub integer_json : JsonForm → Utf8 → ℤ → Json
integer_json Canonical key n = text_at key (number_text n)
integer_json Relaxed key n = json.number (number_text n)

-- the milliseconds of a date
abbrev pub millis_json : ℤ → Json
millis_json n = one (codes "$date") (text_at (codes "$numberLong") (number_text n))

-- the text of a date
abbrev pub IsDateString : ℤ → Json → Type 0
IsDateString n j = (s : Utf8) × (j ≡ text_at (codes "$date") s) × IsDateText n s

-- from 1970 to 9999 its text, else its milliseconds
abbrev pub IsRelaxedDate : ℤ → Json → Type 0
IsRelaxedDate (pos n) j = IsDateString (pos n) j ⊎ ((HasYear (pos n) → ⊥) × (j ≡ millis_json (pos n)))
IsRelaxedDate (negsuc n) j = j ≡ millis_json (negsuc n)

abbrev pub IsDate : JsonForm → ℤ → Json → Type 0
IsDate Canonical n j = j ≡ millis_json n
IsDate Relaxed n j = IsRelaxedDate n j

abbrev mutual
  -- the JSON value is one that the value is written as
  pub IsJson : JsonForm → Tree → Json → Type 0
  IsJson form (double bytes) j = IsDouble form bytes j
  IsJson form (string t) j = j ≡ json.string t
  IsJson form (document ps) j = (ms : Members) × (j ≡ object ms) × AreMembers form ps ms
  IsJson form (array ts) j = (js : Items) × (j ≡ json.array js) × AreItems form ts js
  IsJson form (binary subtype bytes) j = j ≡ one (codes "$binary") (two (codes "base64") (json.string (base64_text bytes)) (codes "subType") (json.string (digits (subtype ∷ []))))
  IsJson form undefined j = j ≡ one (codes "$undefined") (json.boolean true)
  IsJson form (object_id id) j = j ≡ text_at (codes "$oid") (digits id)
  IsJson form (boolean b) j = j ≡ json.boolean b
  IsJson form (date_time n) j = IsDate form n j
  IsJson form null j = j ≡ json.null
  IsJson form (regular_expression pattern options) j = j ≡ one (codes "$regularExpression") (two (codes "pattern") (json.string pattern) (codes "options") (json.string options))
  IsJson form (db_pointer namespace id) j = j ≡ one (codes "$dbPointer") (two (codes "$ref") (json.string namespace) (codes "$id") (text_at (codes "$oid") (digits id)))
  IsJson form (javascript_code t) j = j ≡ text_at (codes "$code") t
  IsJson form (symbol t) j = j ≡ text_at (codes "$symbol") t
  IsJson form (javascript_code_with_scope code scope) j = (ms : Members) × (j ≡ two (codes "$code") (json.string code) (codes "$scope") (object ms)) × AreMembers form scope ms
  IsJson form (int32 n) j = j ≡ integer_json form (codes "$numberInt") n
  IsJson form (timestamp time increment) j = j ≡ one (codes "$timestamp") (two (codes "t") (json.number (decimal time)) (codes "i") (json.number (decimal increment)))
  IsJson form (int64 n) j = j ≡ integer_json form (codes "$numberLong") n
  IsJson form (decimal128 bytes) j = j ≡ text_at (codes "$numberDecimal") (decimal_text bytes)
  IsJson form max_key j = j ≡ one_at (codes "$maxKey")
  IsJson form min_key j = j ≡ one_at (codes "$minKey")
  IsJson form (raw k bytes) j = ⊥

  -- pair by pair
  pub AreMembers : JsonForm → Pairs → Members → Type 0
  AreMembers form no_pairs no_members = Unit {0}
  AreMembers form no_pairs (member k j ms) = ⊥
  AreMembers form (pair key t ps) no_members = ⊥
  AreMembers form (pair key t ps) (member k j ms) = (k ≡ key) × IsJson form t j × AreMembers form ps ms

  -- value by value
  pub AreItems : JsonForm → Trees → Items → Type 0
  AreItems form no_trees no_items = Unit {0}
  AreItems form no_trees (item j js) = ⊥
  AreItems form (tree t ts) no_items = ⊥
  AreItems form (tree t ts) (item j js) = IsJson form t j × AreItems form ts js
