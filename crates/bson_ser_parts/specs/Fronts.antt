-- Which fields are the first of some with which a struct whose name is reserved is accepted. Source: the reserved names of MongoDB's crate bson, version 2.
use Rattle.std.specs.Prelude.{◌≡◌, Bool, true, false, List, [], ◌++◌, Option, Some, None, is_some, codes}
use Rattle.bson_kinds.specs.Text.{Utf8}
use Rattle.bson_kinds.specs.declared.element_type.ElementType.{ElementType}
use Rattle.bson_kinds.specs.declared.element_type.ElementType.TheVariants.{Binary, Undefined, ObjectId, DateTime, RegularExpression, DbPointer, JavaScriptCode, JavaScriptCodeWithScope, Symbol, Timestamp, Decimal128, MaxKey, MinKey}
use Rattle.bson_values.specs.Value.{Value, FieldValues, no_field_values}
use Rattle.bson_laws.specs.Unwrap.{Part, listed, lone_field, object_id_list, date_time_list, binary_list, timestamp_list, text_list, regular_expression_list, db_pointer_list, decimal128_list, scoped_code}

-- a list of keys and values is accepted for a kind
abbrev pub accepts : ElementType → List (Part Value) → Bool
accepts ObjectId list = is_some (object_id_list list)
accepts DateTime list = is_some (date_time_list list)
accepts Binary list = is_some (binary_list list)
accepts Timestamp list = is_some (timestamp_list list)
accepts JavaScriptCode list = is_some (text_list (codes "$code") list)
accepts JavaScriptCodeWithScope list = is_some (scoped_code list)
accepts Symbol list = is_some (text_list (codes "$symbol") list)
accepts RegularExpression list = is_some (regular_expression_list list)
accepts DbPointer list = is_some (db_pointer_list list)
accepts Decimal128 list = is_some (decimal128_list list)
accepts k list = false

-- some list that is accepted begins with it
abbrev pub Begins : ElementType → List (Part Value) → Type 0
Begins k list = (rest : List (Part Value)) × (accepts k (list ++ rest) ≡ true)

-- the name of the one field of a struct whose value is not looked at
abbrev pub lone_name : ElementType → Option Utf8
lone_name MinKey = Some (codes "$minKey")
lone_name MaxKey = Some (codes "$maxKey")
lone_name Undefined = Some (codes "$undefined")
lone_name k = None

-- no field, or one of this name
abbrev pub is_lone : Utf8 → FieldValues → Bool
is_lone name no_field_values = true
is_lone name fs = is_some (lone_field name fs)

abbrev pub FirstOf : Option Utf8 → ElementType → FieldValues → Type 0
FirstOf (Some name) k fs = is_lone name fs ≡ true
FirstOf None k fs = Begins k (listed fs [])

-- the fields are the first of those of some struct that is accepted, by the list of their keys and values
abbrev pub AreFirst : ElementType → FieldValues → Type 0
AreFirst k fs = FirstOf (lone_name k) k fs
