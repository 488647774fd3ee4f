-- The fields of a shape, one after another.
use Rattle.std.proofs.Common.{◌≡◌, ℕ, zero, suc, ◌+◌, ◌<◌, ◌≤◌, max, List, [], ◌∷◌, ◌++◌, length, get_or, take, Bool, true, false, ◌||◌, ◌&&◌, refl, ap, ◌∙◌, sym, subst, string_bytes, arith}
use Rattle.std.specs.Str.{is_utf8}
use Rattle.std.proofs.Math.Bool.{or-false, or_assoc}
use Rattle.std.proofs.lemmas.Bool.{or_left, or_right, or_parts, or_from, and_from, and_right}
use Rattle.std.proofs.lemmas.List.{take_more}
use Rattle.std.proofs.lemmas.Str.{is_utf8-from_IsUtf8, IsUtf8-had}
use Rattle.bson_kinds.specs.Text.{Utf8}
use Rattle.bson_shape.specs.Form.{Form, leaf, optional, lossy, human_readable, by_mode, sequence, map, tuple, tuple_structure, newtype, unit_structure, structure, enumeration, reference, definitions, Fields, no_fields, field, joined, push_field, Parts, no_parts, part, joined_parts, push_part, Variants, no_variants, variant, joined_variants, push_variant, Content}
use Rattle.bson_shape.specs.Levels.{levels, deepest, deepest_part, deepest_variant, deepest_inside, max_shape_levels}
use Rattle.bson_shape.specs.Makers.{contents_repeat, content_repeats, is_unit, are_units, IsShape, AreShapes, AreParts, AreVariants, IsContent}
use Rattle.bson_shape.specs.ShapeView.{fields_of, parts_of, variants_of, content_of, nodes, fields_nodes, parts_nodes, variants_nodes, content_nodes}
use Rattle.bson_shape.specs.declared.shape.FieldShape.{FieldShape}
use Rattle.bson_shape.specs.declared.shape.VariantShape.{VariantShape}

pub joined-assoc : (a b c : Fields) → joined (joined a b) c ≡ joined a (joined b c)
joined-assoc no_fields b c = refl
joined-assoc (field name f fs) b c = ap (field name f) (joined-assoc fs b c)

pub joined-none : (a : Fields) → joined a no_fields ≡ a
joined-none no_fields = refl
joined-none (field name f fs) = ap (field name f) (joined-none fs)

pub fields_of-append : (fs gs : List FieldShape) → fields_of (fs ++ gs) ≡ joined (fields_of fs) (fields_of gs)
fields_of-append [] gs = refl
fields_of-append (f ∷ fs) gs = ap (field (string_bytes f.name) f.shape) (fields_of-append fs gs)

pub fields_of-push : (fs : List FieldShape) (f : FieldShape) → fields_of (fs ++ f ∷ []) ≡ push_field (fields_of fs) (string_bytes f.name) f.shape
fields_of-push fs f = fields_of-append fs (f ∷ [])

-- one more of the fields that a loop has gone over
pub fields_of-take_more : (fs : List FieldShape) (i : ℕ) (d : FieldShape) → i < length fs → fields_of (take (i + 1) fs) ≡ push_field (fields_of (take i fs)) (string_bytes (get_or fs i d).name) (get_or fs i d).shape
fields_of-take_more fs i d h = ap fields_of (take_more fs i d h) ∙ fields_of-push (take i fs) (get_or fs i d)

-- a `String` is a text
name_is_text : (f : FieldShape) → is_utf8 (string_bytes f.name) ≡ true
name_is_text f = is_utf8-from_IsUtf8 _ (IsUtf8-had _ f.name.ok)

pub deepest-joined : (fs gs : Fields) → deepest (joined fs gs) ≡ max (deepest fs) (deepest gs)
deepest-joined no_fields gs = omega arith
deepest-joined (field name f fs) gs = omega (arith, deepest-joined fs gs)

pub deepest-push : (fs : Fields) (name : Utf8) (f : Form) → deepest (push_field fs name f) ≡ max (levels f) (deepest fs)
deepest-push fs name f = omega (arith, deepest-joined fs (field name f no_fields))

pub AreShapes-push : (fs : Fields) (name : Utf8) (f : Form) → AreShapes fs → is_utf8 name ≡ true → IsShape f → AreShapes (push_field fs name f)
AreShapes-push no_fields name f shapes text shape = (text, shape, tt)
AreShapes-push (field n g fs) name f shapes text shape = (shapes.0, shapes.1, AreShapes-push fs name f shapes.2 text shape)

-- one more of the fields that a loop has gone over
pub deepest_more : (fs : List FieldShape) (i : ℕ) (d : FieldShape) → i < length fs → deepest (fields_of (take (i + 1) fs)) ≡ max (levels (get_or fs i d).shape) (deepest (fields_of (take i fs)))
deepest_more fs i d h = ap deepest (fields_of-take_more fs i d h) ∙ deepest-push (fields_of (take i fs)) _ _

pub AreShapes_more : (fs : List FieldShape) (i : ℕ) (d : FieldShape) → i < length fs → AreShapes (fields_of (take i fs)) → IsShape (get_or fs i d).shape → AreShapes (fields_of (take (i + 1) fs))
AreShapes_more fs i d h shapes shape =
    subst AreShapes (sym (fields_of-take_more fs i d h)) (AreShapes-push (fields_of (take i fs)) _ _ shapes (name_is_text (get_or fs i d)) shape)

pub levels_few : (f : Form) → IsShape f → levels f ≤ max_shape_levels
levels_few (leaf l) shape = omega arith
levels_few (optional f) shape = shape.0
levels_few (lossy f) shape = shape.0
levels_few (human_readable f) shape = shape.0
levels_few (sequence f) shape = shape.0
levels_few (by_mode r c) shape = shape.0
levels_few (map k v) shape = shape.1
levels_few (tuple ps) shape = shape.0
levels_few (tuple_structure name ps) shape = shape.1
levels_few (newtype name f) shape = shape.0.few
levels_few (unit_structure name) shape = omega arith
levels_few (structure u name fs) shape = shape.0.few
levels_few (enumeration vs) shape = shape.0.few
levels_few (reference name) shape = omega arith
levels_few (definitions h f) shape = shape.0.few

-- each field's shape has fewer nodes than the fields
pub field_smaller : (fs : List FieldShape) (i : ℕ) (d : FieldShape) → i < length fs → nodes (get_or fs i d).shape < fields_nodes (fields_of fs)
field_smaller [] i d h = absurd (omega arith)
field_smaller (f ∷ fs) zero d h = omega arith
field_smaller (f ∷ fs) (suc i) d h = omega (arith, field_smaller fs i d (omega arith))

-- ---- parts

pub joined_parts-assoc : (a b c : Parts) → joined_parts (joined_parts a b) c ≡ joined_parts a (joined_parts b c)
joined_parts-assoc no_parts b c = refl
joined_parts-assoc (part f ps) b c = ap (part f) (joined_parts-assoc ps b c)

pub joined_parts-none : (a : Parts) → joined_parts a no_parts ≡ a
joined_parts-none no_parts = refl
joined_parts-none (part f ps) = ap (part f) (joined_parts-none ps)

pub parts_of-push : (fs : List Form) (f : Form) → parts_of (fs ++ f ∷ []) ≡ push_part (parts_of fs) f
parts_of-push [] f = refl
parts_of-push (g ∷ fs) f = ap (part g) (parts_of-push fs f)

pub parts_of-take_more : (fs : List Form) (i : ℕ) (d : Form) → i < length fs → parts_of (take (i + 1) fs) ≡ push_part (parts_of (take i fs)) (get_or fs i d)
parts_of-take_more fs i d h = ap parts_of (take_more fs i d h) ∙ parts_of-push (take i fs) (get_or fs i d)

deepest_part-push : (ps : Parts) (f : Form) → deepest_part (push_part ps f) ≡ max (levels f) (deepest_part ps)
deepest_part-push no_parts f = omega arith
deepest_part-push (part g ps) f = omega (arith, deepest_part-push ps f)

AreParts-push : (ps : Parts) (f : Form) → AreParts ps → IsShape f → AreParts (push_part ps f)
AreParts-push no_parts f shapes shape = (shape, tt)
AreParts-push (part g ps) f shapes shape = (shapes.0, AreParts-push ps f shapes.1 shape)

pub deepest_part_more : (fs : List Form) (i : ℕ) (d : Form) → i < length fs → deepest_part (parts_of (take (i + 1) fs)) ≡ max (levels (get_or fs i d)) (deepest_part (parts_of (take i fs)))
deepest_part_more fs i d h = ap deepest_part (parts_of-take_more fs i d h) ∙ deepest_part-push (parts_of (take i fs)) _

pub AreParts_more : (fs : List Form) (i : ℕ) (d : Form) → i < length fs → AreParts (parts_of (take i fs)) → IsShape (get_or fs i d) → AreParts (parts_of (take (i + 1) fs))
AreParts_more fs i d h shapes shape = subst AreParts (sym (parts_of-take_more fs i d h)) (AreParts-push (parts_of (take i fs)) _ shapes shape)

pub part_smaller : (fs : List Form) (i : ℕ) (d : Form) → i < length fs → nodes (get_or fs i d) < parts_nodes (parts_of fs)
part_smaller [] i d h = absurd (omega arith)
part_smaller (f ∷ fs) zero d h = omega arith
part_smaller (f ∷ fs) (suc i) d h = omega (arith, part_smaller fs i d (omega arith))

-- ---- variants

pub joined_variants-assoc : (a b c : Variants) → joined_variants (joined_variants a b) c ≡ joined_variants a (joined_variants b c)
joined_variants-assoc no_variants b c = refl
joined_variants-assoc (variant name k vs) b c = ap (variant name k) (joined_variants-assoc vs b c)

pub joined_variants-none : (a : Variants) → joined_variants a no_variants ≡ a
joined_variants-none no_variants = refl
joined_variants-none (variant name k vs) = ap (variant name k) (joined_variants-none vs)

pub variants_of-push : (vs : List VariantShape) (v : VariantShape) → variants_of (vs ++ v ∷ []) ≡ push_variant (variants_of vs) (string_bytes v.name) (content_of v.content)
variants_of-push [] v = refl
variants_of-push (w ∷ vs) v = ap (variant (string_bytes w.name) (content_of w.content)) (variants_of-push vs v)

pub variants_of-take_more : (vs : List VariantShape) (i : ℕ) (d : VariantShape) → i < length vs → variants_of (take (i + 1) vs) ≡ push_variant (variants_of (take i vs)) (string_bytes (get_or vs i d).name) (content_of (get_or vs i d).content)
variants_of-take_more vs i d h = ap variants_of (take_more vs i d h) ∙ variants_of-push (take i vs) (get_or vs i d)

variant_name_is_text : (v : VariantShape) → is_utf8 (string_bytes v.name) ≡ true
variant_name_is_text v = is_utf8-from_IsUtf8 _ (IsUtf8-had _ v.name.ok)

deepest_variant-push : (vs : Variants) (name : Utf8) (c : Content) → deepest_variant (push_variant vs name c) ≡ max (deepest_inside c) (deepest_variant vs)
deepest_variant-push no_variants name c = omega arith
deepest_variant-push (variant n k vs) name c = omega (arith, deepest_variant-push vs name c)

AreVariants-push : (vs : Variants) (name : Utf8) (c : Content) → AreVariants vs → is_utf8 name ≡ true → IsContent c → AreVariants (push_variant vs name c)
AreVariants-push no_variants name c shapes text shape = (text, shape, tt)
AreVariants-push (variant n k vs) name c shapes text shape = (shapes.0, shapes.1, AreVariants-push vs name c shapes.2 text shape)

pub deepest_variant_more : (vs : List VariantShape) (i : ℕ) (d : VariantShape) → i < length vs → deepest_variant (variants_of (take (i + 1) vs)) ≡ max (deepest_inside (content_of (get_or vs i d).content)) (deepest_variant (variants_of (take i vs)))
deepest_variant_more vs i d h = ap deepest_variant (variants_of-take_more vs i d h) ∙ deepest_variant-push (variants_of (take i vs)) _ _

pub AreVariants_more : (vs : List VariantShape) (i : ℕ) (d : VariantShape) → i < length vs → AreVariants (variants_of (take i vs)) → IsContent (content_of (get_or vs i d).content) → AreVariants (variants_of (take (i + 1) vs))
AreVariants_more vs i d h shapes shape = subst AreVariants (sym (variants_of-take_more vs i d h)) (AreVariants-push (variants_of (take i vs)) _ _ shapes (variant_name_is_text (get_or vs i d)) shape)

pub variant_smaller : (vs : List VariantShape) (i : ℕ) (d : VariantShape) → i < length vs → content_nodes (content_of (get_or vs i d).content) < variants_nodes (variants_of vs)
variant_smaller [] i d h = absurd (omega arith)
variant_smaller (v ∷ vs) zero d h = omega arith
variant_smaller (v ∷ vs) (suc i) d h = omega (arith, variant_smaller vs i d (omega arith))

-- where no struct variant has two fields of one name, each of them has none
pub content_repeats-at : (vs : List VariantShape) (i : ℕ) (d : VariantShape) → i < length vs → contents_repeat (variants_of vs) ≡ false → content_repeats (content_of (get_or vs i d).content) ≡ false
content_repeats-at [] i d h e = absurd (omega arith)
content_repeats-at (v ∷ vs) zero d h e = (or_parts (content_repeats (content_of v.content)) (contents_repeat (variants_of vs)) e).0
content_repeats-at (v ∷ vs) (suc i) d h e = content_repeats-at vs i d (omega arith) (or_parts (content_repeats (content_of v.content)) (contents_repeat (variants_of vs)) e).1

contents_repeat-push : (vs : Variants) (name : Utf8) (c : Content) → contents_repeat (push_variant vs name c) ≡ (contents_repeat vs || content_repeats c)
contents_repeat-push no_variants name c = or-false (content_repeats c)
contents_repeat-push (variant n k vs) name c = ap (λ b. content_repeats k || b) (contents_repeat-push vs name c) ∙ sym (or_assoc (content_repeats k) (contents_repeat vs) (content_repeats c))

-- a loop comes to a variant in which a name is repeated, or to another
pub contents_repeat_found : (vs : List VariantShape) (i : ℕ) (v : VariantShape) → i < length vs → v ≡ get_or vs i v → content_repeats (content_of v.content) ≡ true → contents_repeat (variants_of vs) ≡ true
contents_repeat_found [] i v h e found = absurd (omega arith)
contents_repeat_found (w ∷ vs) zero v h e found = or_left _ _ (ap (λ (u : VariantShape). content_repeats (content_of u.content)) (sym e) ∙ found)
contents_repeat_found (w ∷ vs) (suc i) v h e found = or_right _ _ (contents_repeat_found vs i v (omega arith) e found)

pub contents_repeat_missed : (vs : List VariantShape) (i : ℕ) (v : VariantShape) → i < length vs → v ≡ get_or vs i v → contents_repeat (variants_of (take i vs)) ≡ false → content_repeats (content_of v.content) ≡ false → contents_repeat (variants_of (take (i + 1) vs)) ≡ false
contents_repeat_missed vs i v h e so_far none =
    ap contents_repeat (variants_of-take_more vs i v h) ∙ contents_repeat-push (variants_of (take i vs)) _ _
    ∙ or_from _ _ so_far (ap (λ (u : VariantShape). content_repeats (content_of u.content)) (sym e) ∙ none)

are_units-push : (vs : Variants) (name : Utf8) (c : Content) → are_units (push_variant vs name c) ≡ (is_unit c && are_units vs)
are_units-push no_variants name c = refl
are_units-push (variant n k vs) name c = ap (λ b. is_unit k && b) (are_units-push vs name c) ∙ swapped (is_unit k) (is_unit c) (are_units vs)
  where
    swapped : (a b d : Bool) → (a && (b && d)) ≡ (b && (a && d))
    swapped true b d = refl
    swapped false true d = refl
    swapped false false d = refl

-- a loop comes to a variant with more than its name, or to another
pub are_units_missed : (vs : List VariantShape) (i : ℕ) (v : VariantShape) → i < length vs → v ≡ get_or vs i v → is_unit (content_of v.content) ≡ false → are_units (variants_of vs) ≡ false
are_units_missed [] i v h e found = absurd (omega arith)
are_units_missed (w ∷ vs) zero v h e found = ap (λ b. b && are_units (variants_of vs)) (ap (λ (u : VariantShape). is_unit (content_of u.content)) (sym e) ∙ found)
are_units_missed (w ∷ vs) (suc i) v h e found = and_right _ _ (are_units_missed vs i v (omega arith) e found)

pub are_units_more : (vs : List VariantShape) (i : ℕ) (v : VariantShape) → i < length vs → v ≡ get_or vs i v → are_units (variants_of (take i vs)) ≡ true → is_unit (content_of v.content) ≡ true → are_units (variants_of (take (i + 1) vs)) ≡ true
are_units_more vs i v h e so_far unit =
    ap are_units (variants_of-take_more vs i v h) ∙ are_units-push (variants_of (take i vs)) _ _
    ∙ and_from _ _ (ap (λ (u : VariantShape). is_unit (content_of u.content)) (sym e) ∙ unit) so_far
