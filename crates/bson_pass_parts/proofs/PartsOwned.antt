-- Parts, fields and variants that borrow nothing, one by one.
use Rattle.std.proofs.Common.{◌≡◌, ℕ, ◌+◌, ◌<◌, ◌≤◌, List, length, get_or, drop, refl, sym, subst}
use Rattle.std.proofs.lemmas.List.{drop_all, drop_more}
use Rattle.bson_shape.specs.Form.{Form, leaf}
use Rattle.bson_shape.specs.ShapeView.{fields_of, parts_of, variants_of, content_of}
use Rattle.bson_shape.specs.declared.leaf.Leaf.{Leaf}
use Rattle.bson_shape.specs.declared.leaf.Leaf.TheVariants.{Str, Bytes}
use Rattle.bson_shape.specs.declared.shape.FieldShape.{FieldShape}
use Rattle.bson_shape.specs.declared.shape.VariantShape.{VariantShape}
use Rattle.bson_laws.specs.Owned.{IsOwned, AreFieldsOwned, ArePartsOwned, AreVariantsOwned, IsContentOwned}

pub leaf_owned : (l : Leaf) → (l ≡ Str → ⊥) → (l ≡ Bytes → ⊥) → IsOwned (leaf l)
leaf_owned Str text bytes = absurd (text refl)
leaf_owned Bytes text bytes = absurd (bytes refl)
leaf_owned l text bytes = tt

pub part_owned : (ss : List Form) (s : Form) (i : ℕ) → i < length ss → s ≡ get_or ss i s → IsOwned s → ArePartsOwned (parts_of (drop (i + 1) ss)) → ArePartsOwned (parts_of (drop i ss))
part_owned ss s i lt is owned rest = subst (λ xs. ArePartsOwned (parts_of xs)) (sym (drop_more ss i s lt)) (subst IsOwned is owned, rest)

pub parts_owned : (ss : List Form) (i : ℕ) → length ss ≤ i → ArePartsOwned (parts_of (drop i ss))
parts_owned ss i all = subst (λ xs. ArePartsOwned (parts_of xs)) (sym (drop_all i ss all)) tt

pub field_owned : (fs : List FieldShape) (f : FieldShape) (i : ℕ) → i < length fs → f ≡ get_or fs i f → IsOwned f.shape → AreFieldsOwned (fields_of (drop (i + 1) fs)) → AreFieldsOwned (fields_of (drop i fs))
field_owned fs f i lt is owned rest = subst (λ xs. AreFieldsOwned (fields_of xs)) (sym (drop_more fs i f lt)) (subst (λ (g : FieldShape). IsOwned g.shape) is owned, rest)

pub fields_owned : (fs : List FieldShape) (i : ℕ) → length fs ≤ i → AreFieldsOwned (fields_of (drop i fs))
fields_owned fs i all = subst (λ xs. AreFieldsOwned (fields_of xs)) (sym (drop_all i fs all)) tt

pub variant_owned : (vs : List VariantShape) (v : VariantShape) (i : ℕ) → i < length vs → v ≡ get_or vs i v → IsContentOwned (content_of v.content) → AreVariantsOwned (variants_of (drop (i + 1) vs)) → AreVariantsOwned (variants_of (drop i vs))
variant_owned vs v i lt is owned rest = subst (λ xs. AreVariantsOwned (variants_of xs)) (sym (drop_more vs i v lt)) (subst (λ (w : VariantShape). IsContentOwned (content_of w.content)) is owned, rest)

pub variants_owned : (vs : List VariantShape) (i : ℕ) → length vs ≤ i → AreVariantsOwned (variants_of (drop i vs))
variants_owned vs i all = subst (λ xs. AreVariantsOwned (variants_of xs)) (sym (drop_all i vs all)) tt
