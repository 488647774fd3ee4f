-- Fields and variants that are added behind others, and what the makers of their shapes answer.
use Rattle.std.proofs.Common.{◌≡◌, Bool, true, false, List, [], ◌∷◌, ◌++◌, nat_lt, Option, Some, None, refl, ap, ◌∙◌, subst, sym}
use Rattle.std.specs.Global.{Global}
use Rattle.std.specs.Prelude.{String, string_bytes, cond, is_some, Result, Ok, Err}
use Rattle.bson_kinds.specs.Reserved.{reserved_kind}
use Rattle.bson_kinds.specs.Text.{Utf8}
use Rattle.bson_kinds.specs.declared.element_type.ElementType.{ElementType}
use Rattle.bson_shape.specs.Form.{dropped, Form, structure, enumeration, Fields, field, push_field, Variants, variant, push_variant}
use Rattle.bson_shape.specs.Levels.{levels, max_shape_levels}
use Rattle.bson_shape.specs.Makers.{Makes, repeats, variants_repeat, within_levels, made_structure, made_enumeration}
use Rattle.bson_shape.specs.ShapeView.{fields_of, content_of, variants_of}
use Rattle.bson_shape.specs.declared.error.ShapeError.{ShapeError}
use Rattle.bson_shape.specs.declared.error.ShapeError.TheVariants.{ReservedName, RepeatedName, KeyNotText, Unguarded, TooDeep, NoMemory}
use Rattle.bson_shape.specs.declared.shape.FieldShape.{FieldShape}
use Rattle.bson_shape.specs.declared.shape.VariantShape.{VariantShape}
use Rattle.bson_values.specs.TextView.{text_view}
use Rattle.bson_values.specs.Value.{field_value}
use Rattle.bson_datum.specs.View.{view, fields_view}
use Rattle.bson_datum.specs.declared.datum.Field.{Field}
use Rattle.bson_traits.specs.ShapeOf.{IsShapeOf}
use Rattle.bson_structs.specs.FieldsAdded.{with_field}
use Rattle.bson_traits.proofs.ShapesMade.{made_within}

pub fields_added : (fs : List FieldShape) (f : FieldShape) → fields_of (fs ++ f ∷ []) ≡ push_field (fields_of fs) (string_bytes f.name) f.shape
fields_added [] f = refl
fields_added (g ∷ fs) f = ap (field (string_bytes g.name) g.shape) (fields_added fs f)

pub variants_added : (vs : List VariantShape) (v : VariantShape) → variants_of (vs ++ v ∷ []) ≡ push_variant (variants_of vs) (string_bytes v.name) (content_of v.content)
variants_added [] v = refl
variants_added (w ∷ vs) v = ap (variant (string_bytes w.name) (content_of w.content)) (variants_added vs v)

pub values_added : (fs : List Field) (f : Field) → fields_view (fs ++ f ∷ []) ≡ with_field (fields_view fs) (text_view f.name) (view f.value)
values_added [] f = refl
values_added (g ∷ fs) f = ap (field_value (text_view g.name) (view g.value)) (values_added fs f)

-- a maker that takes no memory
never : (f : Form) (b : Bool) → Err NoMemory ≡ cond b (Err TooDeep) (Ok f) → ⊥
never f true e = cc
never f false e = cc

within_at_once : (f : Form) (r : Result Form ShapeError) → r ≡ within_levels f → Makes r (within_levels f)
within_at_once f (Ok s) e = sym e
within_at_once f (Err NoMemory) e = absurd (never f (nat_lt max_shape_levels (levels f)) e)
within_at_once f (Err ReservedName) e = sym e
within_at_once f (Err RepeatedName) e = sym e
within_at_once f (Err KeyNotText) e = sym e
within_at_once f (Err Unguarded) e = sym e
within_at_once f (Err TooDeep) e = sym e

struct_expected : (k : Option ElementType) (b : Bool) (expected : Result Form ShapeError) → k ≡ None → b ≡ false → cond (is_some k) (Err ReservedName) (cond b (Err RepeatedName) expected) ≡ expected
struct_expected None false expected k b = refl
struct_expected None true expected k b = absurd cc
struct_expected (Some x) b expected k d = absurd cc

pub struct_made : (name : Utf8) (n : String Global) (fs : Fields) (r : Result Form ShapeError) → string_bytes n ≡ name → reserved_kind name ≡ None → repeats fs ≡ false → r ≡ made_structure dropped (string_bytes n) fs → IsShapeOf (structure dropped name fs) r
struct_made name n fs r named free distinct made =
    made_within (structure dropped name fs) r (within_at_once (structure dropped name fs) r
    (subst (λ m. r ≡ made_structure dropped m fs) named made ∙ struct_expected (reserved_kind name) (repeats fs) (within_levels (structure dropped name fs)) free distinct))

enum_expected : (b : Bool) (expected : Result Form ShapeError) → b ≡ false → cond b (Err RepeatedName) expected ≡ expected
enum_expected false expected b = refl
enum_expected true expected b = absurd cc

pub enum_made : (vs : Variants) (r : Result Form ShapeError) → variants_repeat vs ≡ false → r ≡ made_enumeration vs → IsShapeOf (enumeration vs) r
enum_made vs r distinct made = made_within (enumeration vs) r (within_at_once (enumeration vs) r (made ∙ enum_expected (variants_repeat vs) (within_levels (enumeration vs)) distinct))
