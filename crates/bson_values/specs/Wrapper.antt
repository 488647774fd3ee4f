-- The wrapper keys: a document with one of them stands for a value, most of them for an extended one. Source: MongoDB's extended JSON, version 2, with `$numberDecimalBytes`.
use Rattle.std.specs.Prelude.{List, [], ◌∷◌, if◌then◌else◌, Option, Some, None, codes}
use Rattle.std.specs.Str.{bytes_eq}
use Rattle.bson_kinds.specs.Text.{Utf8}
use Rattle.bson_values.specs.declared.wrapper.Wrapper.{Wrapper}
use Rattle.bson_values.specs.declared.wrapper.Wrapper.TheVariants.{Oid, Symbol, NumberInt, NumberLong, NumberDouble, Binary, Uuid, Code, Scope, Timestamp, RegularExpression, DbPointer, Date, MinKey, MaxKey, Undefined, NumberDecimal, NumberDecimalBytes}

abbrev pub key : Wrapper → Utf8
key Oid = codes "$oid"
key Symbol = codes "$symbol"
key NumberInt = codes "$numberInt"
key NumberLong = codes "$numberLong"
key NumberDouble = codes "$numberDouble"
key Binary = codes "$binary"
key Uuid = codes "$uuid"
key Code = codes "$code"
key Scope = codes "$scope"
key Timestamp = codes "$timestamp"
key RegularExpression = codes "$regularExpression"
key DbPointer = codes "$dbPointer"
key Date = codes "$date"
key MinKey = codes "$minKey"
key MaxKey = codes "$maxKey"
key Undefined = codes "$undefined"
key NumberDecimal = codes "$numberDecimal"
key NumberDecimalBytes = codes "$numberDecimalBytes"

-- all wrapper keys
abbrev pub wrappers : List Wrapper
wrappers = Oid ∷ Symbol ∷ NumberInt ∷ NumberLong ∷ NumberDouble ∷ Binary ∷ Uuid ∷ Code ∷ Scope ∷ Timestamp ∷ RegularExpression ∷ DbPointer ∷ Date ∷ MinKey ∷ MaxKey ∷ Undefined ∷ NumberDecimal ∷ NumberDecimalBytes ∷ []

-- the one of these that has the key
abbrev pub with_key : Utf8 → List Wrapper → Option Wrapper
with_key k [] = None
with_key k (w ∷ ws) = if bytes_eq k (key w) then Some w else with_key k ws

-- the wrapper key that a key is
unfoldable pub of_key : Utf8 → Option Wrapper
of_key k = with_key k wrappers
