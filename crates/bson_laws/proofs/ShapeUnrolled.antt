-- What is unrolled of a shape is one, but for its levels.
use Rattle.std.proofs.Common.{ℕ, Bool, true, false, cond, ap, ◌∙◌}
use Rattle.std.specs.Str.{bytes_eq}
use Rattle.bson_kinds.specs.Text.{Utf8}
use Rattle.bson_shape.specs.Form.{Form, leaf, optional, lossy, human_readable, by_mode, sequence, newtype, unit_structure, map, tuple, tuple_structure, structure, enumeration, reference, definitions, Fields, no_fields, field, Parts, no_parts, part, Content, unit_content, newtype_content, tuple_content, struct_content, Variants, no_variants, variant}
use Rattle.bson_shape.specs.Makers as makers
use Rattle.bson_shape.specs.Makers.{has_repeat}
use Rattle.bson_laws.specs.Unrolled.{Meanings, unrolled, unrolled_name, unrolled_fields, unrolled_parts, unrolled_variants, unrolled_content, names_in, in_table, max_steps, whole}
use Rattle.bson_laws.proofs.ShapeForms.{IsShape, AreShapes, AreParts, AreVariants, IsContent}
use Rattle.bson_laws.proofs.Unrolling.{names_keep, key_unrolled, fields_named, variants_named}

abbrev AllShapes : Meanings → Type 0
AllShapes g = (name : Utf8) → IsShape (g name)

module _ (m : ℕ) where
  mutual
    pub shape_unrolled : (s : Form) (g : Meanings) → AllShapes g → makers.IsShape s → IsShape (unrolled m s g)
    shape_unrolled (leaf l) g h p = tt
    shape_unrolled (optional s) g h p = shape_unrolled s g h p.1
    shape_unrolled (lossy s) g h p = shape_unrolled s g h p.1
    shape_unrolled (human_readable s) g h p = shape_unrolled s g h p.1
    shape_unrolled (by_mode r c) g h p = (shape_unrolled r g h p.1, shape_unrolled c g h p.2)
    shape_unrolled (sequence s) g h p = shape_unrolled s g h p.1
    shape_unrolled (map key s) g h p = (key_unrolled m key g ∙ p.0, shape_unrolled key g h p.2, shape_unrolled s g h p.3)
    shape_unrolled (tuple ps) g h p = shape_parts ps g h p.1
    shape_unrolled (tuple_structure name ps) g h p = (p.0, shape_parts ps g h p.2)
    shape_unrolled (newtype name s) g h p = (record { text = p.0.text; free = p.0.free }, shape_unrolled s g h p.1)
    shape_unrolled (unit_structure name) g h p = p
    shape_unrolled (structure u name fs) g h p = (record { text = p.0.text; free = p.0.free; distinct = ap has_repeat (fields_named m fs g) ∙ p.0.distinct }, shape_fields fs g h p.1)
    shape_unrolled (enumeration vs) g h p = (ap has_repeat (variants_named m vs g) ∙ p.0.distinct, shape_variants vs g h p.1)
    shape_unrolled (reference name) g h p = h name
    shape_unrolled (definitions t s) g h p = shape_unrolled s (names_in m t) (names_keep m AllShapes t (λ name. tt) (λ k q name. shape_name t k q p.1 name)) p.2

    shape_name : (t : Fields) (g : Meanings) → AllShapes g → makers.AreShapes t → (key : Utf8) → IsShape (unrolled_name m t g key)
    shape_name no_fields g h p key = tt
    shape_name (field name s t) g h p key = by_case (bytes_eq name key) (shape_unrolled s g h p.1) (shape_name t g h p.2 key) where
      by_case : (b : Bool) → IsShape (unrolled m s g) → IsShape (unrolled_name m t g key) → IsShape (cond b (unrolled m s g) (unrolled_name m t g key))
      by_case true x y = x
      by_case false x y = y

    shape_fields : (fs : Fields) (g : Meanings) → AllShapes g → makers.AreShapes fs → AreShapes (unrolled_fields m fs g)
    shape_fields no_fields g h p = tt
    shape_fields (field name s fs) g h p = (p.0, shape_unrolled s g h p.1, shape_fields fs g h p.2)

    shape_parts : (ps : Parts) (g : Meanings) → AllShapes g → makers.AreParts ps → AreParts (unrolled_parts m ps g)
    shape_parts no_parts g h p = tt
    shape_parts (part s ps) g h p = (shape_unrolled s g h p.0, shape_parts ps g h p.1)

    shape_variants : (vs : Variants) (g : Meanings) → AllShapes g → makers.AreVariants vs → AreVariants (unrolled_variants m vs g)
    shape_variants no_variants g h p = tt
    shape_variants (variant name c vs) g h p = (p.0, shape_content c g h p.1, shape_variants vs g h p.2)

    shape_content : (c : Content) (g : Meanings) → AllShapes g → makers.IsContent c → IsContent (unrolled_content m c g)
    shape_content unit_content g h p = tt
    shape_content (newtype_content s) g h p = shape_unrolled s g h p
    shape_content (tuple_content ps) g h p = shape_parts ps g h p
    shape_content (struct_content fs) g h p = (ap has_repeat (fields_named m fs g) ∙ p.0, shape_fields fs g h p.1)

  pub shape_in : (t : Fields) (s : Form) → makers.AreShapes t → makers.IsShape s → IsShape (in_table m t s)
  shape_in t s p q = shape_unrolled s (names_in m t) (names_keep m AllShapes t (λ name. tt) (λ k r name. shape_name t k r p name)) q

pub shape_whole : (s : Form) → makers.IsShape s → IsShape (whole s)
shape_whole s p = shape_in max_steps no_fields s tt p
