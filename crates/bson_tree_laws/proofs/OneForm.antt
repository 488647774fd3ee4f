-- What fits a plain shape is spelled in its readable form as in its compact one.
use Rattle.std.proofs.Common.{◌≡◌, ℕ, zero, suc, [], ◌∷◌, Bool, true, false, cond, None, Ok, refl, ap, sym, ◌∙◌, subst}
use Rattle.std.specs.Prelude.{◌||◌, codes}
use Rattle.std.specs.Str.{bytes_eq}
use Rattle.bson_kinds.specs.Outcome.{◌>>=◌}
use Rattle.bson_kinds.specs.Reserved.{reserved_kind}
use Rattle.bson_kinds.specs.Text.{Utf8}
use Rattle.bson_base.specs.Tree as tree
use Rattle.bson_base.specs.Tree.{Tree, document, array, Pairs, no_pairs, pair, Trees, no_trees}
use Rattle.bson_shape.specs.Form.{Form, leaf, optional, lossy, sequence, newtype, unit_structure, map, tuple, tuple_structure, structure, enumeration, definitions, Fields, no_fields, field, Parts, no_parts, part, newtype_content, tuple_content, struct_content}
use Rattle.bson_shape.specs.Makers.{is_reserved_newtype}
use Rattle.bson_values.specs.Refusal.{under, under_index}
use Rattle.bson_values.specs.Value as value
use Rattle.bson_values.specs.Value.{Value, uuid_newtype, Items, no_items, item, Entries, no_entries, entry, FieldValues, no_field_values, field_value}
use Rattle.bson_laws.specs.Datum.{datum, itself, pair_data, tree_data}
use Rattle.bson_laws.specs.Fits.{IsText, IsAny, AreAnyItems, AreAnyEntries, IsTreeValue, FitsExtended, FitsLeaf, Fits, ItemsFit, PartsFit, EntriesFit, FieldsFit}
use Rattle.bson_laws.specs.Leaves.{LeafKind, anything, booleans, numbers, doubles, characters, texts, byte_strings, byte_buffers, units, extended_values, ExtendedLeaf, uuids, trees, leaf_kind}
use Rattle.bson_laws.specs.Spell.{spell_uuid, spell_scoped, spell_key, named, enclosed_at, variant_at, struct_at, reserved_at, spell_as, spell_items_as, spell_entries_as, spell_fields_as, spell_list}
use Rattle.bson_laws.specs.Unwrap.{a_key, a_value, unwrap, scoped_code}
use Rattle.bson_laws.specs.UuidBytes.{uuid_bytes}
use Rattle.bson_laws.proofs.DatumSpelled.{uuid_spelled}
use Rattle.bson_laws.proofs.Fitted.{content_plain}
use Rattle.bson_laws.proofs.Fitting.{fits_leaf, fits_lossy, fits_body}
use Rattle.bson_laws.proofs.Free.{free_spelled, free_struct, free_newtype_name, free_struct_name}
use Rattle.bson_laws.proofs.PlainForms.{IsPlain, AreFieldsPlain, ArePartsPlain}

-- it is spelled in one way
abbrev HasOneForm : Value → Type 0
HasOneForm v = (levels : ℕ) → spell_as true v levels ≡ spell_as false v levels

-- ---- leaves

mutual
  datum_one : (t : Tree) → HasOneForm (datum itself t)
  datum_one (tree.document ps) levels = λ i. enclosed_at document levels (λ n. pairs_one ps n i)
  datum_one (tree.array ts) levels = λ i. enclosed_at array levels (λ n. trees_one ts 0 n i)
  datum_one (tree.javascript_code_with_scope code scope) levels = λ i.
      spell_scoped (scoped_code (a_key (codes "$code") ∷ (a_value (value.str code) (Ok (tree.string code)) ∷ (a_key (codes "$scope") ∷ (a_value (value.map (pair_data itself scope)) (enclosed_at document levels (λ n. pairs_one scope n i)) ∷ [])))))
  datum_one (tree.binary zero b) levels = refl
  datum_one (tree.binary (suc n) b) levels = refl
  datum_one t levels = refl

  pairs_one : (ps : Pairs) (levels : ℕ) → spell_entries_as true (pair_data itself ps) levels ≡ spell_entries_as false (pair_data itself ps) levels
  pairs_one no_pairs levels = refl
  pairs_one (pair key t ps) levels = λ i. spell_key (value.str key) >>= λ name. under name (datum_one t levels i) >>= λ u. pairs_one ps levels i >>= λ us. Ok (pair name u us)

  trees_one : (ts : Trees) (index levels : ℕ) → spell_items_as true index (tree_data itself ts) levels ≡ spell_items_as false index (tree_data itself ts) levels
  trees_one no_trees index levels = refl
  trees_one (tree.tree t ts) index levels = λ i. under_index index (datum_one t levels i) >>= λ u. trees_one ts (suc index) levels i >>= λ us. Ok (tree.tree u us)

tree_one : (v : Value) → IsTreeValue v → HasOneForm v
tree_one v h = subst HasOneForm h.is_datum (datum_one h.tree)

extended_one : (k : ExtendedLeaf) (v : Value) → FitsExtended k v → HasOneForm v
extended_one uuids v h = subst HasOneForm h.is_datum (λ levels. uuid_spelled true h.id levels h.sixteen ∙ sym (uuid_spelled false h.id levels h.sixteen))
extended_one trees v h = tree_one v h
extended_one k v h = tree_one v h.of_tree

text_one : (v : Value) → IsText v → HasOneForm v
text_one (value.str t) h levels = refl
text_one v h levels = absurd h

mutual
  any_one : (v : Value) → IsAny v → HasOneForm v
  any_one (value.sequence vs) h levels = λ i. enclosed_at array levels (λ n. any_items_one vs h 0 n i)
  any_one (value.map es) h levels = λ i. enclosed_at document levels (λ n. any_entries_one es h n i)
  any_one (value.boolean b) h levels = refl
  any_one (value.integer type n) h levels = refl
  any_one (value.double bits) h levels = refl
  any_one (value.str t) h levels = refl
  any_one (value.bytes bs) h levels = refl
  any_one value.unit h levels = refl
  any_one v h levels = absurd h

  any_items_one : (vs : Items) → AreAnyItems vs → (index levels : ℕ) → spell_items_as true index vs levels ≡ spell_items_as false index vs levels
  any_items_one no_items h index levels = refl
  any_items_one (item v vs) h index levels = λ i. under_index index (any_one v h.0 levels i) >>= λ u. any_items_one vs h.1 (suc index) levels i >>= λ us. Ok (tree.tree u us)

  any_entries_one : (es : Entries) → AreAnyEntries es → (levels : ℕ) → spell_entries_as true es levels ≡ spell_entries_as false es levels
  any_entries_one no_entries h levels = refl
  any_entries_one (entry k v es) h levels = λ i. spell_key k >>= λ name. under name (any_one v h.1 levels i) >>= λ u. any_entries_one es h.2 levels i >>= λ us. Ok (pair name u us)

leaf_one : (k : LeafKind) (v : Value) → FitsLeaf k v → HasOneForm v
leaf_one anything v h = any_one v h
leaf_one booleans (value.boolean b) h = λ levels. refl
leaf_one (numbers type) (value.integer t n) h = λ levels. refl
leaf_one doubles (value.double bits) h = λ levels. refl
leaf_one characters (value.character c) h = λ levels. refl
leaf_one texts v h = text_one v h
leaf_one byte_strings (value.bytes bs) h = λ levels. refl
leaf_one byte_buffers (value.bytes bs) h = λ levels. refl
leaf_one units value.unit h = λ levels. refl
leaf_one (extended_values k) v h = extended_one k v h
leaf_one k v h = absurd h

-- ---- all forms

first_false : (a b : Bool) → (a || b) ≡ false → a ≡ false
first_false true b e = absurd cc
first_false false b e = refl

newtype_one : (name : Utf8) (v : Value) → is_reserved_newtype name ≡ false → HasOneForm v → HasOneForm (value.newtype name v)
newtype_one name v free h levels =
    ap (λ b. cond b (spell_uuid (uuid_bytes true v)) (spell_as true v levels)) (first_false (bytes_eq name uuid_newtype) _ free) ∙ h levels ∙ sym (free_spelled name v levels free)

struct_one : (name : Utf8) (fs : FieldValues) → reserved_kind name ≡ None → ((levels : ℕ) → spell_fields_as true fs levels ≡ spell_fields_as false fs levels) → HasOneForm (value.structure name fs)
struct_one name fs free h levels =
    ap (λ o. struct_at o levels (spell_fields_as true fs) (λ k. reserved_at k (unwrap k fs) (scoped_code (spell_list true fs levels [])))) free
    ∙ (λ i. enclosed_at document levels (λ n. h n i)) ∙ sym (free_struct name fs levels free)

mutual
  pub one_form : (v : Value) (s : Form) → IsPlain s → Fits v s → HasOneForm v
  one_form v (leaf l) p f levels = leaf_one (leaf_kind l) v (fits_leaf v l f) levels
  one_form v (lossy s) p f levels = one_form v s p.1 (fits_lossy v s f) levels
  one_form v (definitions h s) p f levels = one_form v s p.1 (fits_body v h s f) levels
  one_form value.none (optional s) p f levels = refl
  one_form (value.some v) (optional s) p f levels = one_form v s p f levels
  one_form (value.newtype m v) (newtype n s) p f levels = newtype_one m v (ap is_reserved_newtype f.0 ∙ free_newtype_name n p.0) (one_form v s p.1 f.1) levels
  one_form (value.unit_structure m) (unit_structure n) p f levels = refl
  one_form (value.sequence vs) (sequence s) p f levels = λ i. enclosed_at array levels (λ n. items_one vs s p f 0 n i)
  one_form (value.map es) (map key s) p f levels = λ i. enclosed_at document levels (λ n. entries_one es key s p.2 f n i)
  one_form (value.structure m vs) (structure u n fs) p f levels = struct_one m vs (ap reserved_kind f.0 ∙ free_struct_name n p.0) (fields_one vs fs p.1 f.1) levels
  one_form (value.tuple vs) (tuple ps) p f levels = λ i. enclosed_at array levels (λ n. parts_one vs ps p f 0 n i)
  one_form (value.tuple_structure m vs) (tuple_structure n ps) p f levels = λ i. enclosed_at array levels (λ n. parts_one vs ps p f.1 0 n i)
  one_form (value.unit_variant name) (enumeration vs) p f levels = refl
  one_form (value.newtype_variant name v) (enumeration vs) p f levels = λ i. variant_at name levels (λ n. one_form v f.0 (content_plain vs name (newtype_content f.0) p f.1) f.2 n i)
  one_form (value.tuple_variant name ws) (enumeration vs) p f levels = λ i. variant_at name levels (λ m. enclosed_at array m (λ n. parts_one ws f.0 (content_plain vs name (tuple_content f.0) p f.1) f.2 0 n i))
  one_form (value.structure_variant name ws) (enumeration vs) p f levels = λ i. variant_at name levels (λ m. enclosed_at document m (λ n. fields_one ws f.0 (content_plain vs name (struct_content f.0) p f.1) f.2 n i))
  one_form v s p f levels = absurd f

  items_one : (vs : Items) (s : Form) → IsPlain s → ItemsFit vs s → (index levels : ℕ) → spell_items_as true index vs levels ≡ spell_items_as false index vs levels
  items_one no_items s p f index levels = refl
  items_one (item v vs) s p f index levels = λ i. under_index index (one_form v s p f.0 levels i) >>= λ u. items_one vs s p f.1 (suc index) levels i >>= λ us. Ok (tree.tree u us)

  parts_one : (vs : Items) (ps : Parts) → ArePartsPlain ps → PartsFit vs ps → (index levels : ℕ) → spell_items_as true index vs levels ≡ spell_items_as false index vs levels
  parts_one no_items no_parts p f index levels = refl
  parts_one (item v vs) (part s ps) p f index levels = λ i. under_index index (one_form v s p.0 f.0 levels i) >>= λ u. parts_one vs ps p.1 f.1 (suc index) levels i >>= λ us. Ok (tree.tree u us)
  parts_one vs ps p f index levels = absurd f

  entries_one : (es : Entries) (key s : Form) → IsPlain s → EntriesFit es key s → (levels : ℕ) → spell_entries_as true es levels ≡ spell_entries_as false es levels
  entries_one no_entries key s p f levels = refl
  entries_one (entry k v es) key s p f levels = λ i. spell_key k >>= λ name. under name (one_form v s p f.1 levels i) >>= λ u. entries_one es key s p f.2 levels i >>= λ us. Ok (pair name u us)

  fields_one : (vs : FieldValues) (fs : Fields) → AreFieldsPlain fs → FieldsFit vs fs → (levels : ℕ) → spell_fields_as true vs levels ≡ spell_fields_as false vs levels
  fields_one no_field_values no_fields p f levels = refl
  fields_one (field_value name v vs) (field n s fs) p f levels = λ i. named name (one_form v s p.1 f.1 levels i) >>= λ u. fields_one vs fs p.2 f.2 levels i >>= λ us. Ok (pair name u us)
  fields_one vs fs p f levels = absurd f
