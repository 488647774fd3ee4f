-- What fits a plain shape is written alike by both writers, and what it means is the tree that it is made into.
use Rattle.std.proofs.Common.{◌≡◌, ℕ, suc, ◌≤◌, Bool, true, false, Some, Ok, refl, ap, sym, ◌∙◌, subst}
use Rattle.bson_kinds.specs.Reserved.{reserved_kind}
use Rattle.bson_base.specs.Sound.{IsClean, ArePairsClean, AreTreesClean}
use Rattle.bson_base.specs.Tree as tree
use Rattle.bson_base.specs.Tree.{Tree, document, array, javascript_code_with_scope, Pairs, no_pairs, pair, Trees, no_trees, depth}
use Rattle.bson_shape.specs.Form.{Form, leaf, optional, lossy, sequence, newtype, unit_structure, map, tuple, tuple_structure, structure, enumeration, definitions, Fields, no_fields, field, Parts, no_parts, part, newtype_content, tuple_content, struct_content}
use Rattle.bson_values.specs.Value as value
use Rattle.bson_values.specs.Value.{Value, Items, no_items, item, Entries, no_entries, entry, FieldValues, no_field_values, field_value}
use Rattle.bson_laws.specs.Datum.{datum, itself, pair_data, tree_data}
use Rattle.bson_laws.specs.Depths.{value_depth}
use Rattle.bson_laws.specs.Fits.{IsText, IsAny, AreAnyItems, AreAnyEntries, IsTreeValue, FitsExtended, FitsLeaf, FitsLeafKey, FitsKey, Fits, ItemsFit, PartsFit, EntriesFit, FieldsFit}
use Rattle.bson_laws.specs.InRange.{IsInRange, ArePairsInRange, AreTreesInRange}
use Rattle.bson_laws.specs.Leaves.{LeafKind, anything, booleans, numbers, doubles, characters, texts, byte_strings, byte_buffers, units, extended_values, ExtendedLeaf, uuids, trees, leaf_kind}
use Rattle.bson_laws.specs.Means.{means}
use Rattle.bson_laws.specs.Plain as plain
use Rattle.bson_laws.specs.Recursive.{FitsIn}
use Rattle.bson_laws.specs.Spell.{spell_as}
use Rattle.bson_laws.specs.Unrolled.{in_table}
use Rattle.bson_laws.proofs.Fitted.{content_plain}
use Rattle.bson_laws.proofs.Fitting.{fits_leaf, fits_lossy, fits_body}
use Rattle.bson_laws.proofs.Free.{free_struct_name}
use Rattle.bson_laws.proofs.PlainForms.{IsPlain, AreFieldsPlain, ArePartsPlain}
use Rattle.bson_laws.proofs.PlainUnrolled.{plain_in}
use Rattle.bson_laws.proofs.Spelled.{spell_is}
use Rattle.bson_tree_laws.specs.Alike.{HasFreeKeys, PairsHaveFreeKeys, TreesHaveFreeKeys, IsWrap, IsTextKey, IsAlike, AreAlike, EntriesAlike, FieldsAlike}
use Rattle.bson_tree_laws.specs.TreeSpell.{tree_spell}
use Rattle.bson_tree_laws.proofs.OneForm.{one_form}
use Rattle.bson_tree_laws.proofs.Writers.{writers}

-- ---- leaves

-- a tree as data: each extended value is the struct of its reserved name
mutual
  datum_alike : (t : Tree) → IsInRange t → IsAlike (datum itself t)
  datum_alike (tree.document ps) r = pairs_alike ps r
  datum_alike (tree.array ts) r = trees_alike ts r
  datum_alike (tree.binary (suc n) b) r = ((tree.binary (suc n) b, r.0, refl), ((tt, (tt, (tt, tt))), tt))
  datum_alike tree.undefined r = ((tree.undefined, tt, refl), (tt, tt))
  datum_alike (tree.object_id id) r = ((tree.object_id id, tt, refl), (tt, tt))
  datum_alike (tree.date_time n) r = ((tree.date_time n, tt, refl), ((tt, (tt, tt)), tt))
  datum_alike (tree.regular_expression pattern options) r = ((tree.regular_expression pattern options, tt, refl), ((tt, (tt, (tt, tt))), tt))
  datum_alike (tree.db_pointer namespace id) r = ((tree.db_pointer namespace id, tt, refl), ((tt, (tt, ((tt, (tt, tt)), tt))), tt))
  datum_alike (tree.javascript_code t) r = ((tree.javascript_code t, tt, refl), (tt, tt))
  datum_alike (tree.symbol t) r = ((tree.symbol t, tt, refl), (tt, tt))
  datum_alike (tree.javascript_code_with_scope code scope) r = ((tree.javascript_code_with_scope code scope, tt, refl), (tt, (pairs_alike scope r.1, tt)))
  datum_alike (tree.timestamp time increment) r = ((tree.timestamp time increment, tt, refl), ((tt, (tt, (tt, tt))), tt))
  datum_alike (tree.decimal128 b) r = ((tree.decimal128 b, tt, refl), (tt, tt))
  datum_alike tree.max_key r = ((tree.max_key, tt, refl), (tt, tt))
  datum_alike tree.min_key r = ((tree.min_key, tt, refl), (tt, tt))
  datum_alike (tree.raw k b) r = absurd r
  datum_alike t r = tt

  pairs_alike : (ps : Pairs) → ArePairsInRange ps → EntriesAlike (pair_data itself ps)
  pairs_alike no_pairs r = tt
  pairs_alike (pair key t ps) r = (tt, datum_alike t r.1, pairs_alike ps r.2)

  trees_alike : (ts : Trees) → AreTreesInRange ts → AreAlike (tree_data itself ts)
  trees_alike no_trees r = tt
  trees_alike (tree.tree t ts) r = (datum_alike t r.0, trees_alike ts r.1)

tree_alike : (v : Value) → IsTreeValue v → IsAlike v
tree_alike v h = subst IsAlike h.is_datum (datum_alike h.tree h.ranges)

extended_alike : (k : ExtendedLeaf) (v : Value) → FitsExtended k v → IsAlike v
extended_alike uuids v h = subst IsAlike h.is_datum (tt, tt)
extended_alike trees v h = tree_alike v h
extended_alike k v h = tree_alike v h.of_tree

text_alike : (v : Value) → IsText v → IsAlike v
text_alike (value.str t) h = tt
text_alike v h = absurd h

text_key : (k : Value) → IsText k → IsTextKey k
text_key (value.str t) h = tt
text_key k h = absurd h

-- a value that is read without a shape
mutual
  any_alike : (v : Value) → IsAny v → IsAlike v
  any_alike (value.boolean b) h = tt
  any_alike (value.integer type n) h = tt
  any_alike (value.double bits) h = tt
  any_alike (value.str t) h = tt
  any_alike (value.bytes bs) h = tt
  any_alike value.unit h = tt
  any_alike (value.sequence vs) h = any_items vs h
  any_alike (value.map es) h = any_entries es h
  any_alike v h = absurd h

  any_items : (vs : Items) → AreAnyItems vs → AreAlike vs
  any_items no_items h = tt
  any_items (item v vs) h = (any_alike v h.0, any_items vs h.1)

  any_entries : (es : Entries) → AreAnyEntries es → EntriesAlike es
  any_entries no_entries h = tt
  any_entries (entry k v es) h = (text_key k h.0, any_alike v h.1, any_entries es h.2)

leaf_alike : (k : LeafKind) (v : Value) → FitsLeaf k v → IsAlike v
leaf_alike anything v h = any_alike v h
leaf_alike booleans (value.boolean b) h = tt
leaf_alike (numbers type) (value.integer t n) h = tt
leaf_alike doubles (value.double bits) h = tt
leaf_alike characters (value.character c) h = tt
leaf_alike texts v h = text_alike v h
leaf_alike byte_strings (value.bytes bs) h = tt
leaf_alike byte_buffers (value.bytes bs) h = tt
leaf_alike units value.unit h = tt
leaf_alike (extended_values k) v h = extended_alike k v h
leaf_alike k v h = absurd h

-- ---- all forms

leaf_key_alike : (kind : LeafKind) (k : Value) → FitsLeafKey kind k → IsTextKey k
leaf_key_alike texts k h = text_key k h
leaf_key_alike kind k h = absurd h

key_alike : (key : Form) (k : Value) → FitsKey key k → IsTextKey k
key_alike (leaf l) k h = leaf_key_alike (leaf_kind l) k h
key_alike (enumeration vs) (value.unit_variant name) h = tt
key_alike key k h = absurd h

mutual
  pub fits_alike : (v : Value) (s : Form) → IsPlain s → Fits v s → IsAlike v
  fits_alike v (leaf l) p f = leaf_alike (leaf_kind l) v (fits_leaf v l f)
  fits_alike v (lossy s) p f = fits_alike v s p.1 (fits_lossy v s f)
  fits_alike v (definitions h s) p f = fits_alike v s p.1 (fits_body v h s f)
  fits_alike value.none (optional s) p f = tt
  fits_alike (value.some v) (optional s) p f = fits_alike v s p f
  fits_alike (value.newtype m v) (newtype n s) p f = fits_alike v s p.1 f.1
  fits_alike (value.unit_structure m) (unit_structure n) p f = tt
  fits_alike (value.sequence vs) (sequence s) p f = items_alike vs s p f
  fits_alike (value.map es) (map key s) p f = entries_alike es key s p.2 f
  fits_alike (value.structure m vs) (structure u n fs) p f =
      (subst (λ k. IsWrap k m vs) (sym (ap reserved_kind f.0 ∙ free_struct_name n p.0)) tt, fields_alike vs fs p.1 f.1)
  fits_alike (value.tuple vs) (tuple ps) p f = parts_alike vs ps p f
  fits_alike (value.tuple_structure m vs) (tuple_structure n ps) p f = parts_alike vs ps p f.1
  fits_alike (value.unit_variant name) (enumeration vs) p f = tt
  fits_alike (value.newtype_variant name v) (enumeration vs) p f = fits_alike v f.0 (content_plain vs name (newtype_content f.0) p f.1) f.2
  fits_alike (value.tuple_variant name ws) (enumeration vs) p f = parts_alike ws f.0 (content_plain vs name (tuple_content f.0) p f.1) f.2
  fits_alike (value.structure_variant name ws) (enumeration vs) p f = fields_alike ws f.0 (content_plain vs name (struct_content f.0) p f.1) f.2
  fits_alike v s p f = absurd f

  items_alike : (vs : Items) (s : Form) → IsPlain s → ItemsFit vs s → AreAlike vs
  items_alike no_items s p f = tt
  items_alike (item v vs) s p f = (fits_alike v s p f.0, items_alike vs s p f.1)

  parts_alike : (vs : Items) (ps : Parts) → ArePartsPlain ps → PartsFit vs ps → AreAlike vs
  parts_alike no_items no_parts p f = tt
  parts_alike (item v vs) (part s ps) p f = (fits_alike v s p.0 f.0, parts_alike vs ps p.1 f.1)
  parts_alike vs ps p f = absurd f

  entries_alike : (es : Entries) (key s : Form) → IsPlain s → EntriesFit es key s → EntriesAlike es
  entries_alike no_entries key s p f = tt
  entries_alike (entry k v es) key s p f = (key_alike key k f.0, fits_alike v s p f.1, entries_alike es key s p f.2)

  fields_alike : (vs : FieldValues) (fs : Fields) → AreFieldsPlain fs → FieldsFit vs fs → FieldsAlike vs
  fields_alike no_field_values no_fields p f = tt
  fields_alike (field_value name v vs) (field n s fs) p f = (fits_alike v s p.1 f.1, fields_alike vs fs p.2 f.2)
  fields_alike vs fs p f = absurd f

-- ---- trees

-- the keys of a clean tree are free
mutual
  pub clean_free : (t : Tree) → IsClean t → HasFreeKeys t
  clean_free (document ps) c = pairs_free ps c
  clean_free (array ts) c = trees_free ts c
  clean_free (javascript_code_with_scope code scope) c = pairs_free scope c.1
  clean_free t c = tt

  pairs_free : (ps : Pairs) → ArePairsClean ps → PairsHaveFreeKeys ps
  pairs_free no_pairs c = tt
  pairs_free (pair key t ps) c = (c.0.free.no_dollar, c.1, clean_free t c.2, pairs_free ps c.3)

  trees_free : (ts : Trees) → AreTreesClean ts → TreesHaveFreeKeys ts
  trees_free no_trees c = tt
  trees_free (tree.tree t ts) c = (clean_free t c.0, trees_free ts c.1)

-- ---- shapes

pub shape_alike : (s : Form) (d : Value) → plain.IsPlain s → FitsIn no_fields d s → IsAlike d
shape_alike s d p f = let rounds = suc (value_depth d) in fits_alike d (in_table rounds no_fields s) (plain_in rounds s p) f

-- it is spelled as what it means in both forms
spelled : (readable : Bool) (d : Value) (s : Form) (t : Tree) (levels : ℕ) → IsPlain s → Fits d s → means d ≡ Some t → IsClean t → depth t ≤ levels → spell_as readable d levels ≡ Ok t
spelled false d s t levels p f e clean deep = spell_is d t levels e clean deep
spelled true d s t levels p f e clean deep = one_form d s p f levels ∙ spell_is d t levels e clean deep

-- what a value that fits a plain shape means is the tree that it is made into
pub meant_written : (readable : Bool) (s : Form) (d : Value) (t : Tree) (levels : ℕ) → plain.IsPlain s → FitsIn no_fields d s → means d ≡ Some t → IsClean t → depth t ≤ levels → tree_spell readable false d levels ≡ Ok t
meant_written readable s d t levels p f e clean deep =
    let rounds = suc (value_depth d) in
    writers readable d levels t (shape_alike s d p f) (spelled readable d (in_table rounds no_fields s) t levels (plain_in rounds s p) f e clean deep) (clean_free t clean)
