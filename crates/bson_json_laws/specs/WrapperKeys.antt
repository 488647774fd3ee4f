-- The wrapper keys of extended JSON: an object that has one stands for one value. Source: MongoDB's extended JSON, version 2.
use Rattle.std.specs.Prelude.{List, [], ◌∷◌, Option, None}
use Rattle.bson_kinds.specs.Outcome.{or_else}
use Rattle.bson_kinds.specs.Text.{Utf8}
use Rattle.bson_base.specs.Tree.{Pairs, no_pairs, pair}
use Rattle.bson_values.specs.Wrapper.{with_key}
use Rattle.bson_values.specs.declared.wrapper.Wrapper.{Wrapper}
use Rattle.bson_values.specs.declared.wrapper.Wrapper.TheVariants.{Oid, Symbol, NumberInt, NumberLong, NumberDouble, Binary, Uuid, Code, Scope, Timestamp, RegularExpression, DbPointer, Date, MinKey, MaxKey, Undefined, NumberDecimal}

abbrev pub json_wrappers : List Wrapper
json_wrappers = Oid ∷ Symbol ∷ NumberInt ∷ NumberLong ∷ NumberDouble ∷ Binary ∷ Uuid ∷ Code ∷ Scope ∷ Timestamp ∷ RegularExpression ∷ DbPointer ∷ Date ∷ MinKey ∷ MaxKey ∷ Undefined ∷ NumberDecimal ∷ []

-- the wrapper key that a key is
abbrev pub wrapper_of : Utf8 → Option Wrapper
wrapper_of key = with_key key json_wrappers

-- the first wrapper key among the keys of an object
abbrev pub first_wrapper : Pairs → Option Wrapper
first_wrapper no_pairs = None
first_wrapper (pair key t ps) = or_else (wrapper_of key) (first_wrapper ps)
