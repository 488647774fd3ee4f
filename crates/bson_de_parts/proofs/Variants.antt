-- The variant that has a name, and its contents.
use Rattle.std.proofs.Common.{◌≡◌, ◌<◌, List, [], ◌∷◌, Bool, true, false, Ok, refl, ap, sym, subst, ◌∙◌, arith}
use Rattle.std.specs.Str.{bytes_eq}
use Rattle.bson_kinds.specs.Text.{Utf8}
use Rattle.bson_kinds.specs.Outcome.{◌>>=◌}
use Rattle.bson_rawdoc.specs.Node.{Node, string, Nodes, ended, faulty, then_node}
use Rattle.bson_kinds.specs.Piece.{Piece}
use Rattle.bson_shape.specs.Form.{enumeration, Variants}
use Rattle.bson_shape.specs.Makers.{AreVariants, IsContent}
use Rattle.bson_shape.specs.ShapeView as shape_view
use Rattle.bson_shape.specs.ShapeView.{variants_of, variants_nodes, content_nodes}
use Rattle.bson_shape.specs.declared.shape.VariantShape.{VariantShape}
use Rattle.bson_values.specs.Marked.{Marked}
use Rattle.bson_values.specs.declared.de.Fault.{Fault}
use Rattle.bson_values.specs.declared.stop.Stop.{Stop}
use Rattle.bson_laws.specs.declared.origin.Origin.{Origin}
use Rattle.bson_laws.specs.declared.origin.Origin.TheVariants as origins
use Rattle.bson_laws.specs.declared.origin.Reader.{Reader}
use Rattle.bson_laws.specs.Containers.{Pair, unit_of}
use Rattle.bson_laws.specs.FromTree.{tree_unit_of, unit_named, unit_at, element_at, enum_at}
use Rattle.bson_laws.specs.Judged.{Reading, judged}
use Rattle.bson_laws.specs.ReadsFrom.{reads_for, variant_for, content_for}
use Rattle.bson_laws.specs.Scopes.{meanings_of, laid_variants, laid_content, formed_variants}
use Rattle.bson_laws.specs.Taken.{document_of}
use Rattle.bson_laws.specs.Variants.{content_of}
use Rattle.bson_laws.proofs.Scoped.{unit_formed, tree_unit_formed}
use Rattle.bson_met.specs.ValueView.{value_view}
use Rattle.bson_met.specs.declared.text.MetText.{MetText}
use Rattle.bson_met.specs.declared.value.Value as met
use Rattle.bson_met.specs.declared.value.Value.TheVariants.{String}
use Rattle.bson_met.proofs.Refusals.{StopsAs, stops_bind}
use Rattle.bson_leaves.specs.Named.{variant_named}
use Rattle.bson_leaves.proofs.Variants.{named, this_or, then_read}
use Rattle.bson_de_parts.specs.Enums.{element_of}

-- an element is read at the variant that has its key as its name
abbrev pub content_read : (reader : Reader) → Node → VariantShape → Reading Marked
content_read reader n v = content_for reader (named v) (shape_view.content_of v.content) n

pub element_read : (reader : Reader) (vs : List VariantShape) (key : Utf8) (n : Node)
    → variant_for reader (variants_of vs) key n ≡ (variant_named vs key >>= content_read reader n)
element_read reader [] key n = refl
element_read reader (v ∷ vs) key n =
    then_read (bytes_eq (named v) key) v (variant_named vs key) (content_read reader n) (variant_for reader (variants_of vs) key n) (element_read reader vs key n)

-- a text names the same unit variant for each reader
pub unit_settled : (reader : Reader) (vs : Variants) (name : Utf8) → unit_of name (content_of (formed_variants reader vs) name) ≡ unit_of name (content_of vs name)
unit_settled reader vs name = unit_formed reader.readable (meanings_of reader) vs name

-- what holds of this variant, and of the one that is found among the others, holds of the one that is found
found : (P : VariantShape → Type 0) (b : Bool) (v w : VariantShape) (q : Reading VariantShape) → this_or b v q ≡ Ok w → P v → (q ≡ Ok w → P w) → P w
found P true v w q e this others = let same : v ≡ w = cc in subst P same this
found P false v w q e this others = others e

-- its contents have fewer nodes than the variants, for each reader
pub named_smaller : (r : Reader) (vs : List VariantShape) (name : Utf8) (w : VariantShape) → variant_named vs name ≡ Ok w
    → content_nodes (laid_content r (shape_view.content_of w.content)) < variants_nodes (laid_variants r (variants_of vs))
named_smaller r [] name w e = absurd cc
named_smaller r (v ∷ vs) name w e =
    found (λ u. content_nodes (laid_content r (shape_view.content_of u.content)) < variants_nodes (laid_variants r (variants_of (v ∷ vs)))) (bytes_eq (named v) name) v w (variant_named vs name) e
    (omega arith) (λ f. omega (arith, named_smaller r vs name w f))

-- its contents are as their maker asks
pub named_content : (vs : List VariantShape) (name : Utf8) (w : VariantShape) → AreVariants (variants_of vs) → variant_named vs name ≡ Ok w → IsContent (shape_view.content_of w.content)
named_content [] name w shapes e = absurd cc
named_content (v ∷ vs) name w shapes e =
    found (λ u. IsContent (shape_view.content_of u.content)) (bytes_eq (named v) name) v w (variant_named vs name) e shapes.1 (named_content vs name w shapes.2)

-- the same of a text of a tree
pub tree_unit_settled : (reader : Reader) (vs : Variants) (name : Utf8) → tree_unit_of name (content_of (formed_variants reader vs) name) ≡ tree_unit_of name (content_of vs name)
tree_unit_settled reader vs name = tree_unit_formed reader.readable (meanings_of reader) vs name

-- the element that names a variant is the one that is read
pub element_first : (o : Origin) (contents : Utf8 → Node → Reading Marked) (ns : Nodes) → element_at o contents ns ≡ (element_of o ns >>= λ (p : Pair). contents p.key.bytes p.value)
element_first origins.Bytes contents ns = refl
element_first origins.Tree contents ns = refl

-- a text at an enum
enum_text : (o : Origin) (vs : Variants) (contents : Utf8 → Node → Reading Marked) (t : Piece) → enum_at o (unit_at o vs) contents (string t) ≡ unit_named o t.bytes (content_of vs t.bytes)
enum_text origins.Bytes vs contents t = refl
enum_text origins.Tree vs contents t = refl

named_settled : (o : Origin) (reader : Reader) (vs : Variants) (name : Utf8) → unit_named o name (content_of (formed_variants reader vs) name) ≡ unit_named o name (content_of vs name)
named_settled origins.Bytes reader vs name = unit_settled reader vs name
named_settled origins.Tree reader vs name = tree_unit_settled reader vs name

enum_named : (reader : Reader) (vs : Variants) (t : Piece)
    → enum_at reader.origin (unit_at reader.origin (formed_variants reader vs)) (variant_for reader vs) (string t) ≡ unit_named reader.origin t.bytes (content_of vs t.bytes)
enum_named reader vs t = enum_text reader.origin (formed_variants reader vs) (variant_for reader vs) t ∙ named_settled reader.origin reader vs t.bytes

-- what is no text is read as a document
enum_other : (o : Origin) (unit : Piece → Reading Marked) (contents : Utf8 → Node → Reading Marked) (v : met.Value) → ((t : MetText) → v ≡ String t → ⊥)
    → enum_at o unit contents (value_view v) ≡ (document_of (value_view v) >>= element_at o contents)
enum_other o unit contents (String t) h = absurd (h t refl)
enum_other origins.Bytes unit contents v h = refl
enum_other origins.Tree unit contents v h = refl

module _ (reader : Reader) (vs : Variants) (n : Node) where
  -- a text is the unit variant that it names
  pub text_named : (t : Piece) (name : Utf8) → judged n ≡ Ok (string t) → name ≡ t.bytes → reads_for reader (enumeration vs) n ≡ unit_named reader.origin name (content_of vs name)
  text_named t name is same =
      ap (λ r. r >>= enum_at reader.origin (unit_at reader.origin (formed_variants reader vs)) (variant_for reader vs)) is
      ∙ enum_named reader vs t ∙ ap (λ x. unit_named reader.origin x (content_of vs x)) (sym same)

  module _ (v : met.Value) (is : judged n ≡ Ok (value_view v)) (other : (t : MetText) → v ≡ String t → ⊥) where
    by_elements : reads_for reader (enumeration vs) n ≡ (document_of (value_view v) >>= element_at reader.origin (variant_for reader vs))
    by_elements =
        ap (λ r. r >>= enum_at reader.origin (unit_at reader.origin (formed_variants reader vs)) (variant_for reader vs)) is
        ∙ enum_other reader.origin (unit_at reader.origin (formed_variants reader vs)) (variant_for reader vs) v other

    -- a document is the variant that its elements name
    pub elements_read : (ns : Nodes) → document_of (value_view v) ≡ Ok ns → reads_for reader (enumeration vs) n ≡ element_at reader.origin (variant_for reader vs) ns
    elements_read ns e = by_elements ∙ ap (λ r. r >>= element_at reader.origin (variant_for reader vs)) e

    -- another value is refused
    pub elements_stop : (s : Stop Fault) → StopsAs s (document_of (value_view v)) → StopsAs s (reads_for reader (enumeration vs) n)
    elements_stop s h =
        subst (λ (r : Reading Marked). StopsAs s r) (sym by_elements) (stops_bind s (document_of (value_view v)) (element_at reader.origin (variant_for reader vs)) h)
