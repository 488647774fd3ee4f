-- Newtypes, and enums of unit variants.
use Rattle.std.proofs.Common.{◌≡◌, ℕ, List, [], ◌∷◌, Bool, true, false, cond, Option, Some, Ok, Err, refl, ap, string_bytes}
use Rattle.std.specs.Str.{bytes_eq, is_utf8}
use Rattle.bson_kinds.specs.Outcome.{result_map}
use Rattle.bson_kinds.specs.Text.{Utf8}
use Rattle.bson_base.specs.Tree as tree
use Rattle.bson_rawdoc.specs.Node.{Node, string}
use Rattle.bson_kinds.specs.Piece.{borrowed, made}
use Rattle.bson_shape.specs.Form.{Form, newtype, enumeration, Variants, no_variants, variant, Content, unit_content, newtype_content, tuple_content, struct_content}
use Rattle.bson_shape.specs.Makers.{is_reserved_newtype, is_unit}
use Rattle.bson_shape.specs.ShapeView as shape_view
use Rattle.bson_shape.specs.ShapeView.{variants_of}
use Rattle.bson_shape.specs.declared.shape.VariantShape.{VariantShape}
use Rattle.bson_values.specs.Marked.{Marked, contents}
use Rattle.bson_values.specs.Value as value
use Rattle.bson_laws.specs.Judged.{Reading}
use Rattle.bson_laws.specs.Settled.{settled_variants, settled_content}
use Rattle.bson_laws.specs.Scopes.{laid_variants, laid_content}
use Rattle.bson_laws.specs.declared.origin.Reader.{Reader}
use Rattle.bson_laws.specs.Spell.{spell}
use Rattle.bson_laws.specs.Variants.{content_of}
use Rattle.bson_laws.proofs.Free.{free_spelled}
use Rattle.bson_pass_parts.specs.ReadsUnrolled.{reads}
use Rattle.bson_pass_parts.specs.Free.{names_unit}
use Rattle.bson_pass_parts.specs.Put.{of_writing, recast_by, recast_node, recast_for}

-- ---- newtypes

newtype_by : (name : Utf8) (levels : ℕ) (r : Reading Marked) → is_reserved_newtype name ≡ false
    → recast_by (λ v. spell (contents v) levels) (result_map (value.newtype (made name)) r) ≡ recast_by (λ v. spell (contents v) levels) r
newtype_by name levels (Err e) free = refl
newtype_by name levels (Ok v) free = ap of_writing (free_spelled name (contents v) levels free)

-- a newtype of a name that is not reserved is written as its value
pub newtype_is : (name : Utf8) (s : Form) (levels : ℕ) (n : Node) → is_reserved_newtype name ≡ false → recast_node (newtype name s) levels n ≡ recast_node s levels n
newtype_is name s levels n free = newtype_by name levels (reads s n) free

-- ---- unit variants

unit_is : (c : Content) → is_unit c ≡ true → c ≡ unit_content
unit_is unit_content e = refl
unit_is (newtype_content s) e = absurd cc
unit_is (tuple_content ps) e = absurd cc
unit_is (struct_content fs) e = absurd cc

named_unit : (b : Bool) (c : Content) (rest : Bool) (other : Option Content) → (rest ≡ true → other ≡ Some unit_content) → cond b (is_unit c) rest ≡ true → cond b (Some c) other ≡ Some unit_content
named_unit true c rest other others e = ap Some (unit_is c e)
named_unit false c rest other others e = others e

pub names_is : (vs : List VariantShape) (name : Utf8) → names_unit name vs ≡ true → content_of (variants_of vs) name ≡ Some unit_content
names_is [] name e = absurd cc
names_is (v ∷ vs) name e = named_unit (bytes_eq (string_bytes v.name) name) (shape_view.content_of v.content) (names_unit name vs) (content_of (variants_of vs) name) (names_is vs name) e

-- a unit variant has its name alone for each reader
settled_either : (reader : Reader) (b : Bool) (c : Content) (o p : Option Content) → (o ≡ Some unit_content → p ≡ Some unit_content) → cond b (Some c) o ≡ Some unit_content
    → cond b (Some (settled_content false (laid_content reader c))) p ≡ Some unit_content
settled_either reader true unit_content o p others e = refl
settled_either reader true (newtype_content s) o p others e = absurd cc
settled_either reader true (tuple_content ps) o p others e = absurd cc
settled_either reader true (struct_content fs) o p others e = absurd cc
settled_either reader false c o p others e = others e

settled_unit : (reader : Reader) (vs : Variants) (name : Utf8) → content_of vs name ≡ Some unit_content → content_of (settled_variants false (laid_variants reader vs)) name ≡ Some unit_content
settled_unit reader no_variants name e = absurd cc
settled_unit reader (variant n c vs) name e =
    settled_either reader (bytes_eq n name) c (content_of vs name) (content_of (settled_variants false (laid_variants reader vs)) name) (settled_unit reader vs name) e

-- the name of a unit variant is written as it is
pub unit_read : (reader : Reader) (vs : Variants) (name : Utf8) (levels : ℕ) → is_utf8 name ≡ true → content_of vs name ≡ Some unit_content → recast_for reader (enumeration vs) levels (string (borrowed name)) ≡ Some (tree.string name)
unit_read reader vs name levels text found = rw (text, settled_unit reader vs name found) refl
