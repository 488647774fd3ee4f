-- A simple shape is plain, takes what a tree has, and refers to no definition.
use Rattle.std.proofs.Common.{◌≡◌, ℕ, Bool, true, false, refl, ap, rules}
use Rattle.std.specs.Prelude.{◌&&◌, not}
use Rattle.bson_kinds.specs.Text.{Utf8, has_zero, IsFreeName, is_free_name}
use Rattle.bson_shape.specs.Form.{Form, leaf, optional, sequence, structure, dropped, Fields, no_fields, field}
use Rattle.bson_shape.specs.declared.leaf.Leaf.{Leaf}
use Rattle.bson_shape.specs.declared.leaf.Leaf.TheVariants as leaves
use Rattle.bson_laws.specs.Leaves.{leaf_kind}
use Rattle.bson_laws.specs.Owned.{IsLeafOwned}
use Rattle.bson_laws.specs.Plain.{IsKept, IsPlainIn, AreFieldsPlainIn}
use Rattle.bson_laws.specs.ReadsLeaf.{borrows}
use Rattle.bson_laws.specs.Every.{EveryField}
use Rattle.bson_laws.specs.SuitsTrees.{SuitsTrees, trees_rows}
use Rattle.bson_laws.specs.Unrolled.{Meanings, unrolled, unrolled_fields}
use Rattle.bson_moved.specs.Simple.{is_simple, are_simple, is_simple_leaf}

not_true : (b : Bool) → not b ≡ true → b ≡ false
not_true true e = absurd cc
not_true false e = refl

pub both : (b c : Bool) → (b && c) ≡ true → (b ≡ true) × (c ≡ true)
both true c h = (refl, h)
both false c h = absurd cc

-- a field has a free name and a simple shape, and so have those after it
pub field_parts : (name : Utf8) (s : Form) (fs : Fields) → are_simple (field name s fs) ≡ true → (is_free_name name ≡ true) × (is_simple s ≡ true) × (are_simple fs ≡ true)
field_parts name s fs h =
    let last = both (is_free_name name && is_simple s) (are_simple fs) h in
    let first = both (is_free_name name) (is_simple s) last.0 in
    (first.0, first.1, last.1)

pub free_name : (name : Utf8) → is_free_name name ≡ true → IsFreeName name
free_name name h = record { no_zero = not_true _ (both (not (has_zero name)) _ h).0; no_dollar = not_true _ (both (not (has_zero name)) _ h).1 }

kept : (l : Leaf) → is_simple_leaf l ≡ true → IsKept (leaf_kind l)
kept leaves.Bool h = tt
kept leaves.I8 h = tt
kept leaves.I16 h = tt
kept leaves.I32 h = tt
kept leaves.I64 h = tt
kept leaves.U8 h = tt
kept leaves.U16 h = tt
kept leaves.U32 h = tt
kept leaves.U64 h = tt
kept leaves.Double h = tt
kept leaves.String h = tt
kept l h = search rules

owned : (l : Leaf) → is_simple_leaf l ≡ true → IsLeafOwned (borrows l) (leaf_kind l)
owned l h = search rules

mutual
  pub plain : (around : Fields) (s : Form) → is_simple s ≡ true → IsPlainIn around s
  plain around (leaf l) h = kept l h
  plain around (optional s) h = plain around s h
  plain around (sequence s) h = plain around s h
  plain around (structure dropped name fs) h = let parts = both (is_free_name name) (are_simple fs) h in
      (free_name name parts.0, fields_plain around fs parts.1)
  plain around s h = absurd cc

  pub fields_plain : (around : Fields) (fs : Fields) → are_simple fs ≡ true → AreFieldsPlainIn around fs
  fields_plain around no_fields h = tt
  fields_plain around (field name s fs) h =
      let parts = field_parts name s fs h in
      (free_name name parts.0, plain around s parts.1, fields_plain around fs parts.2)

mutual
  pub suits : (s : Form) → is_simple s ≡ true → SuitsTrees s
  suits (leaf l) h = owned l h
  suits (optional s) h = suits s h
  suits (sequence s) h = suits s h
  suits (structure dropped name fs) h = fields_suit fs (both (is_free_name name) (are_simple fs) h).1
  suits s h = absurd cc

  pub fields_suit : (fs : Fields) → are_simple fs ≡ true → EveryField trees_rows fs
  fields_suit no_fields h = tt
  fields_suit (field name s fs) h =
      let parts = field_parts name s fs h in
      (suits s parts.1, fields_suit fs parts.2)

mutual
  pub alone : (rounds : ℕ) (g : Meanings) (s : Form) → is_simple s ≡ true → unrolled rounds s g ≡ s
  alone rounds g (leaf l) h = refl
  alone rounds g (optional s) h = ap optional (alone rounds g s h)
  alone rounds g (sequence s) h = ap sequence (alone rounds g s h)
  alone rounds g (structure dropped name fs) h = ap (structure dropped name) (fields_alone rounds g fs (both (is_free_name name) (are_simple fs) h).1)
  alone rounds g s h = absurd cc

  pub fields_alone : (rounds : ℕ) (g : Meanings) (fs : Fields) → are_simple fs ≡ true → unrolled_fields rounds fs g ≡ fs
  fields_alone rounds g no_fields h = refl
  fields_alone rounds g (field name s fs) h =
      let parts = field_parts name s fs h in
      λ i. field name (alone rounds g s parts.1 i) (fields_alone rounds g fs parts.2 i)
