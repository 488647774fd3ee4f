-- What a reader of trees asks of the elements of a document and of an array, and of a text.
use Rattle.std.proofs.Common.{◌≡◌, ◌⊎◌, inl, inr, List, [], ◌∷◌, Bool, true, false, cond, Option, Some, Ok, Err, refl, ap, sym, subst, ◌∙◌}
use Rattle.std.specs.Global.{Vec}
use Rattle.std.specs.Str.{bytes_eq}
use Rattle.bson_kinds.specs.Outcome.{◌>>=◌}
use Rattle.bson_kinds.specs.Text.{Utf8}
use Rattle.bson_kinds.specs.declared.element_type.ElementType.TheVariants.{Null}
use Rattle.bson_rawdoc.specs.Node.{Node, Nodes, ended, faulty, then_node}
use Rattle.bson_kinds.specs.Piece.{Piece}
use Rattle.bson_shape.specs.Form.{Content}
use Rattle.bson_shape.specs.ShapeView as shape_view
use Rattle.bson_shape.specs.ShapeView.{variants_of}
use Rattle.bson_shape.specs.declared.shape.FieldShape.{FieldShape}
use Rattle.bson_shape.specs.declared.shape.Shape.{Shape}
use Rattle.bson_shape.specs.declared.shape.VariantContent.{VariantContent}
use Rattle.bson_shape.specs.declared.shape.VariantContent.TheVariants as contents
use Rattle.bson_shape.specs.declared.shape.VariantShape.{VariantShape}
use Rattle.bson_values.specs.Cause.{raw, invalid_type, empty_enum, extra_key}
use Rattle.bson_values.specs.Marked.{Marked}
use Rattle.bson_values.specs.Refusal.{here, end_of_stream}
use Rattle.bson_values.specs.declared.de.Fault.{Fault}
use Rattle.bson_values.specs.declared.stop.Stop.{Stop}
use Rattle.bson_laws.specs.Containers.{Pair}
use Rattle.bson_laws.specs.FromTree.{only_of, tree_unit_of}
use Rattle.bson_laws.specs.Judged.{Reading, refused}
use Rattle.bson_laws.specs.Variants.{content_of}
use Rattle.bson_met.specs.Next.{IsAdvanced, IsItemAdvanced}
use Rattle.bson_met.specs.PieceView.{str_piece}
use Rattle.bson_met.specs.declared.elements.Step.{Step}
use Rattle.bson_met.proofs.Refusals.{StopsAs, refused_stops}
use Rattle.bson_leaves.specs.Named.{variant_named}
use Rattle.bson_leaves.proofs.Variants.{named, then_read}
use Rattle.bson_de_parts.specs.Enums.{pair_of, end_at}
use Rattle.bson_de_parts.specs.TreeContents.{not_ended}

-- ---- the elements of an array

pub not_ended_is : (old new : Nodes) (b : Bool) (v : Node) → IsItemAdvanced old (Ok b) v new → b ≡ true → not_ended old ≡ Ok old
not_ended_is old new true v h e = ap not_ended h.first ∙ ap Ok (sym h.first)
not_ended_is old new false v h e = absurd cc

pub ended_refused : (old new : Nodes) (b : Bool) (v : Node) → IsItemAdvanced old (Ok b) v new → b ≡ false → not_ended old ≡ refused (invalid_type Null)
ended_refused old new false v h e = ap not_ended h.0
ended_refused old new true v h e = absurd cc

pub faulty_stops : (old new : Nodes) (v : Node) (s : Stop Fault) → IsItemAdvanced old (Err s) v new → StopsAs s (not_ended old)
faulty_stops old new v s h = subst (λ (r : Reading Nodes). StopsAs s r) (ap not_ended (sym h.0.first)) (refused_stops Nodes (raw h.0.fault) s h.0.refused)

-- ---- the elements of a document

pub none_refused : (old new : Nodes) (b : Bool) (s : Step) → IsAdvanced old (Ok b) s new → b ≡ false → only_of old ≡ refused empty_enum
none_refused old new false s h e = ap only_of h.0
none_refused old new true s h e = absurd cc

pub first_stops : (old new : Nodes) (s : Step) (t : Stop Fault) → IsAdvanced old (Err t) s new → StopsAs t (only_of old)
first_stops old new s t h = subst (λ (r : Reading Pair). StopsAs t r) (ap only_of (sym h.0.first)) (refused_stops Pair (raw h.0.fault) t h.0.refused)

-- the first is the only one where none is left behind it
then_end : (key : Piece) (n : Node) (rest : Nodes) → only_of (then_node key n rest) ≡ (end_at rest >>= λ _. Ok (record { key = key; value = n }))
then_end key n ended = refl
then_end key n (faulty e) = refl
then_end key n (then_node other m ns) = refl

pub only_first : (old new : Nodes) (b : Bool) (s : Step) → IsAdvanced old (Ok b) s new → b ≡ true → only_of old ≡ (end_at new >>= λ _. Ok (pair_of s))
only_first old new true s h e = ap only_of h ∙ then_end (str_piece s.key) s.value new
only_first old new false s h e = absurd cc

pub end_refused : (old new : Nodes) (b : Bool) (s : Step) → IsAdvanced old (Ok b) s new → b ≡ true → end_at old ≡ refused (extra_key (str_piece s.key).bytes)
end_refused old new true s h e = ap end_at h
end_refused old new false s h e = absurd cc

pub end_is : (old new : Nodes) (b : Bool) (s : Step) → IsAdvanced old (Ok b) s new → b ≡ false → end_at old ≡ Ok tt
end_is old new false s h e = ap end_at h.0
end_is old new true s h e = absurd cc

pub end_stops : (old new : Nodes) (s : Step) (t : Stop Fault) → IsAdvanced old (Err t) s new → StopsAs t (end_at old)
end_stops old new s t h = subst (λ (r : Reading (Unit {0})). StopsAs t r) (ap end_at (sym h.0.first)) (refused_stops (Unit {0}) (raw h.0.fault) t h.0.refused)

-- ---- a text at an enum

-- a text as the variant that has it as its name
abbrev pub unit_read : Utf8 → VariantShape → Reading Marked
unit_read name v = tree_unit_of name (Some (shape_view.content_of v.content))

unit_or : (b : Bool) (name : Utf8) (c : Content) (o : Option Content) → tree_unit_of name (cond b (Some c) o) ≡ cond b (tree_unit_of name (Some c)) (tree_unit_of name o)
unit_or true name c o = refl
unit_or false name c o = refl

pub text_read : (vs : List VariantShape) (name : Utf8) → tree_unit_of name (content_of (variants_of vs) name) ≡ (variant_named vs name >>= unit_read name)
text_read [] name = refl
text_read (v ∷ vs) name =
    unit_or (bytes_eq (named v) name) name (shape_view.content_of v.content) (content_of (variants_of vs) name)
    ∙ then_read (bytes_eq (named v) name) v (variant_named vs name) (unit_read name) (tree_unit_of name (content_of (variants_of vs) name)) (text_read vs name)

-- of a variant with contents the text ends before them
pub contents_missing : (name : Utf8) (c : VariantContent) → ((x : Shape) × (c ≡ contents.Newtype x)) ⊎ ((x : Vec Shape) × (c ≡ contents.Tuple x)) ⊎ ((x : Vec FieldShape) × (c ≡ contents.Struct x))
    → tree_unit_of name (Some (shape_view.content_of c)) ≡ Err (here end_of_stream)
contents_missing name c (inl p) = ap (λ d. tree_unit_of name (Some (shape_view.content_of d))) p.1
contents_missing name c (inr (inl p)) = ap (λ d. tree_unit_of name (Some (shape_view.content_of d))) p.1
contents_missing name c (inr (inr p)) = ap (λ d. tree_unit_of name (Some (shape_view.content_of d))) p.1
