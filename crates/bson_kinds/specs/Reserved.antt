-- The struct names that carry extended values through serde's data model. Source: the reserved names of MongoDB's crate bson, version 2.
use Rattle.std.specs.Prelude.{List, [], ◌∷◌, if◌then◌else◌, Option, Some, None, codes}
use Rattle.std.specs.Str.{bytes_eq}
use Rattle.bson_kinds.specs.declared.element_type.ElementType.{ElementType}
use Rattle.bson_kinds.specs.declared.element_type.ElementType.TheVariants.{Binary, Undefined, ObjectId, DateTime, RegularExpression, DbPointer, JavaScriptCode, Symbol, JavaScriptCodeWithScope, Timestamp, Decimal128, MaxKey, MinKey}
use Rattle.bson_kinds.specs.Text.{Utf8}

-- a reserved name, and the kind of value that a struct of that name is
pub record Reserved : Type 0 where
  pub name : Utf8
  pub kind : ElementType

abbrev pub reserved_names : List Reserved
reserved_names =
    record { name = codes "$oid"; kind = ObjectId } ∷ record { name = codes "$date"; kind = DateTime } ∷ record { name = codes "$binary"; kind = Binary }
    ∷ record { name = codes "$timestamp"; kind = Timestamp } ∷ record { name = codes "$code"; kind = JavaScriptCode }
    ∷ record { name = codes "$codeWithScope"; kind = JavaScriptCodeWithScope } ∷ record { name = codes "$symbol"; kind = Symbol }
    ∷ record { name = codes "$regularExpression"; kind = RegularExpression } ∷ record { name = codes "$dbPointer"; kind = DbPointer }
    ∷ record { name = codes "$numberDecimal"; kind = Decimal128 } ∷ record { name = codes "$minKey"; kind = MinKey }
    ∷ record { name = codes "$maxKey"; kind = MaxKey } ∷ record { name = codes "$undefined"; kind = Undefined } ∷ []

-- the kind that a name is reserved for, in a list of reserved names
abbrev pub kind_in : Utf8 → List Reserved → Option ElementType
kind_in n [] = None
kind_in n (r ∷ rs) = if bytes_eq n r.name then Some r.kind else kind_in n rs

-- the kind that a name is reserved for
abbrev pub reserved_kind : Utf8 → Option ElementType
reserved_kind n = kind_in n reserved_names
