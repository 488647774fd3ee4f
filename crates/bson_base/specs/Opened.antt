-- The documents that extended values are opened to, for readers without their kinds. Source: MongoDB's extended JSON, but for `$numberDecimalBytes`, the order of
-- `$binary`, and the Int64s of `$timestamp`.
use Rattle.std.specs.Prelude.{◌≢◌, [], ◌∷◌, pos, true, nat_eq, if◌then◌else◌, codes}
use Rattle.bson_kinds.specs.Text.{Utf8}
use Rattle.bson_base.specs.Made.{digits, number_text, base64_text}
use Rattle.bson_base.specs.Tree.{Tree, double, string, document, array, binary, undefined, object_id, boolean, date_time, null, regular_expression, db_pointer, javascript_code, symbol, javascript_code_with_scope, int32, timestamp, int64, decimal128, max_key, min_key, raw, Pairs, no_pairs, pair}

-- an extended value: none of double, string, document, array, binary of subtype 0, boolean, null, int32 and int64
abbrev pub IsExtended : Tree → Type 0
IsExtended (double bytes) = ⊥
IsExtended (string t) = ⊥
IsExtended (document ps) = ⊥
IsExtended (array ts) = ⊥
IsExtended (binary subtype bytes) = subtype ≢ 0
IsExtended (boolean b) = ⊥
IsExtended null = ⊥
IsExtended (int32 n) = ⊥
IsExtended (int64 n) = ⊥
IsExtended (raw k bytes) = ⊥
IsExtended t = Unit {0}

-- the pair of a key
abbrev pub one : Utf8 → Tree → Pairs
one key t = pair key t no_pairs

-- the pairs of two keys
abbrev pub two : Utf8 → Tree → Utf8 → Tree → Pairs
two key t other u = pair key t (one other u)

-- the document that a value is opened to; no pairs where it is not extended
abbrev pub opened : Tree → Pairs
opened (object_id id) = one (codes "$oid") (string (digits id))
opened (date_time n) = one (codes "$date") (document (one (codes "$numberLong") (string (number_text n))))
opened (binary subtype bytes) = if nat_eq subtype 0 then no_pairs else one (codes "$binary") (document (two (codes "subType") (string (digits (subtype ∷ []))) (codes "base64") (string (base64_text bytes))))
opened (timestamp time increment) = one (codes "$timestamp") (document (two (codes "t") (int64 (pos time)) (codes "i") (int64 (pos increment))))
opened (regular_expression pattern options) = one (codes "$regularExpression") (document (two (codes "pattern") (string pattern) (codes "options") (string options)))
opened (javascript_code t) = one (codes "$code") (string t)
opened (javascript_code_with_scope code scope) = two (codes "$code") (string code) (codes "$scope") (document scope)
opened (symbol t) = one (codes "$symbol") (string t)
opened (db_pointer namespace id) = one (codes "$dbPointer") (document (two (codes "$ref") (string namespace) (codes "$id") (document (one (codes "$oid") (string (digits id))))))
opened (decimal128 bytes) = one (codes "$numberDecimalBytes") (binary 0 bytes)
opened undefined = one (codes "$undefined") (boolean true)
opened max_key = one (codes "$maxKey") (int32 (pos 1))
opened min_key = one (codes "$minKey") (int32 (pos 1))
opened t = no_pairs
