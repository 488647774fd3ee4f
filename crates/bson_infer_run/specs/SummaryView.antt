-- What contracts see of a summary: the form of the values that were joined. Source: this library's own types.
use Rattle.std.specs.Prelude.{◌≡◌, ℕ, zero, suc, ◌<◌, Bool, true, false, List, [], ◌∷◌, length}
use Rattle.std.specs.Str.{bytes_eq}
use Rattle.bson_kinds.specs.Text.{Utf8}
use Rattle.bson_shape.specs.Form.{dropped, Form, leaf, optional, sequence, structure}
use Rattle.bson_infer_laws.specs.Above.{IsJoined}
use Rattle.bson_infer_laws.specs.Join.{nothing}
use Rattle.bson_infer_run.specs.Counted.{Counted, settled, AreCounted}
use Rattle.bson_infer_run.specs.declared.summary.Kind.{Kind}
use Rattle.bson_infer_run.specs.declared.summary.Kind.TheVariants as kinds
use Rattle.bson_infer_run.specs.declared.summary.StructSummary.{StructSummary}
use Rattle.bson_infer_run.specs.declared.summary.FieldSummary.{FieldSummary}

abbrev pub counted_field : Utf8 → FieldSummary → Counted
counted_field name f = record { name = name; count = f.count; form = f.summary }

-- each name with the field at its index
abbrev pub counted : List Utf8 → List FieldSummary → List Counted
counted [] fs = []
counted (k ∷ ks) [] = []
counted (k ∷ ks) (f ∷ fs) = counted_field k f ∷ counted ks fs

abbrev pub counted_of : StructSummary → List Counted
counted_of s = counted s.names s.fields.items

abbrev pub struct_form : StructSummary → Form
struct_form s = structure dropped [] (settled s.count (counted_of s))

abbrev pub kind_form : Kind → Form
kind_form kinds.Nothing = nothing
kind_form (kinds.Leaf l) = leaf l
kind_form (kinds.Sequence item) = sequence item.value
kind_form (kinds.Structure fields) = struct_form fields.value

abbrev pub summary_form : Bool → Kind → Form
summary_form true k = optional (kind_form k)
summary_form false k = kind_form k

-- the form is an option
abbrev pub is_option : Form → Bool
is_option (optional s) = true
is_option s = false

-- as many names as fields
abbrev pub IsEven : StructSummary → Type 0
IsEven s = length s.names ≡ length s.fields.items

-- the name is at this index, and not before it
abbrev pub IsAt : List Utf8 → Utf8 → ℕ → Type 0
IsAt [] name i = ⊥
IsAt (k ∷ ks) name zero = bytes_eq name k ≡ true
IsAt (k ∷ ks) name (suc i) = (bytes_eq name k ≡ false) × IsAt ks name i

-- At least one struct was joined, there are as many names as fields, and no field was in more structs than were joined.
pub record IsSome (s : StructSummary) : Type 0 where
  pub even : IsEven s
  pub some : 0 < s.count
  pub counted : AreCounted s.count (counted_of s)

-- the same, and it is a form that joins are of
abbrev pub IsKnown : StructSummary → Type 0
IsKnown s = IsSome s × IsJoined (struct_form s)

abbrev pub IsKind : Kind → Type 0
IsKind (kinds.Structure fields) = IsSome fields.value
IsKind k = Unit {0}

-- what is true of every summary
abbrev pub IsSummary : Bool → Kind → Type 0
IsSummary or_null k = IsKind k × IsJoined (summary_form or_null k)
