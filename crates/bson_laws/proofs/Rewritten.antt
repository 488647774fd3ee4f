-- What is given at a shape is written, unless it is too large.
use Rattle.std.proofs.Common.{◌≡◌, ℕ, zero, suc, Bool, true, false, cond, Option, Some, Ok, Err, ap, sym, subst, ◌∙◌}
use Rattle.std.specs.Prelude.{codes}
use Rattle.bson_kinds.specs.Reserved.{reserved_kind}
use Rattle.bson_kinds.specs.Text.{Bytes, Utf8, has_zero}
use Rattle.bson_base.specs.Tree as tree
use Rattle.bson_base.specs.Tree.{Tree, kind, document, array}
use Rattle.bson_kinds.specs.declared.element_type.ElementType.TheVariants.{EmbeddedDocument, Array, Int32, Int64}
use Rattle.bson_kinds.specs.declared.element_type.ElementType.{ElementType}
use Rattle.bson_rawdoc.specs.Node.{Sight}
use Rattle.bson_shape.specs.Form.{Form, leaf, optional, lossy, human_readable, by_mode, sequence, newtype, unit_structure, map, tuple, tuple_structure, structure, enumeration, definitions, Fields, no_fields, field, Parts, no_parts, part, Content, newtype_content, tuple_content, struct_content, Variants, no_variants, variant}
use Rattle.bson_shape.specs.Makers.{is_reserved_newtype}
use Rattle.bson_values.specs.Value as value
use Rattle.bson_values.specs.Value.{IntegerType, i8, i16, i32, i64, u8, u16, u32, u64, in_range, written_as, Value, Items, no_items, item, Entries, no_entries, entry, FieldValues, no_field_values, field_value}
use Rattle.bson_values.specs.Refusal.{WriteFault, Refusal, at_key, at_index, here, invalid_cstring, under, under_index}
use Rattle.bson_laws.specs.Leaves.{LeafKind, anything, ignored, booleans, numbers, doubles, characters, texts, byte_strings, byte_buffers, units, ExtendedLeaf, object_ids, uuids, of_kind, trees, documents, extended_values, raw_documents, raw_arrays, raw_values, leaf_kind}
use Rattle.bson_laws.specs.Plain.{IsPlainKey}
use Rattle.bson_laws.specs.Variants.{content_of}
use Rattle.bson_laws.specs.Spell.{enclosed_at, in_bytes, named, spell_key, spell, spell_items, spell_entries, spell_fields, IsWrittenUnlessLarge}
use Rattle.bson_laws.specs.Written.{zero_free, with_scope}
use Rattle.bson_laws.specs.Every.{EveryContent, EveryField, EveryPart, EveryVariant}
use Rattle.bson_laws.specs.Writable.{HoldsNoExpression, IsWritableLeaf, HasWritableKeys, writable_rows}
use Rattle.bson_laws.specs.Datum.{datum, itself}
use Rattle.bson_laws.proofs.ShapeForms.{IsShape, AreShapes, AreParts, AreVariants, IsContent}
use Rattle.bson_laws.proofs.DatumNormal.{same_kind}
use Rattle.bson_laws.proofs.DatumSpelled.{accepted}
use Rattle.bson_laws.proofs.GivenRaw.{a_document, an_array, a_tree, a_binary, a_code, IsWhole, by_whole, IsGivenRaw}
use Rattle.bson_laws.proofs.GivenTrees.{IsGivenTree, IsGivenExtended}
use Rattle.bson_laws.proofs.Given.{IsGivenAny, AreGivenItems, AreGivenEntries, IsGivenLeaf, IsGivenLeafKey, IsGivenKey, IsGiven, ItemsGiven, PartsGiven, EntriesGiven, FieldsGiven, given_leaf, given_lossy, given_body}
use Rattle.bson_laws.proofs.Borrowed.{marked}
use Rattle.bson_laws.proofs.Free.{free_spelled, free_struct}
use Rattle.bson_laws.proofs.Writable.{wide_small, short_small, taken, binary_written, unless_bind, unless_map, unless_inside, unless_named, Written, number_written, bytes_written, enclosed_written, variant_written}
use Rattle.std.specs.Str.{bytes_eq}
use Rattle.bson_kinds.proofs.Outcomes.{some_is}
use Rattle.bson_kinds.proofs.Apart.{no_some, true_no}

-- ---- items, entries and fields

abbrev ItemsWritten : ℕ → Items → Type 0
ItemsWritten i vs = (levels : ℕ) → IsWrittenUnlessLarge (spell_items i vs levels)

abbrev EntriesWritten : Entries → Type 0
EntriesWritten es = (levels : ℕ) → IsWrittenUnlessLarge (spell_entries es levels)

abbrev FieldsWritten : FieldValues → Type 0
FieldsWritten fs = (levels : ℕ) → IsWrittenUnlessLarge (spell_fields fs levels)

item_written : (i : ℕ) (v : Value) (vs : Items) → Written v → ItemsWritten (suc i) vs → ItemsWritten i (item v vs)
item_written i v vs w ws levels =
    unless_bind (under_index i (spell v levels)) _ (unless_inside (at_index i) (spell v levels) (w levels)) (λ t. unless_bind (spell_items (suc i) vs levels) _ (ws levels) (λ ts. tt))

entry_written : (k v : Value) (es : Entries) → IsWrittenUnlessLarge (spell_key k) → Written v → EntriesWritten es → EntriesWritten (entry k v es)
entry_written k v es key w ws levels =
    unless_bind (spell_key k) _ key
    (λ x. unless_bind (under x (spell v levels)) _ (unless_inside (at_key x) (spell v levels) (w levels)) (λ t. unless_bind (spell_entries es levels) _ (ws levels) (λ ps. tt)))

next_written : (name : Utf8) (v : Value) (fs : FieldValues) → has_zero name ≡ false → Written v → FieldsWritten fs → FieldsWritten (field_value name v fs)
next_written name v fs free w ws levels =
    unless_bind (named name (spell v levels)) _ (unless_named name (spell v levels) free (w levels)) (λ t. unless_bind (spell_fields fs levels) _ (ws levels) (λ ps. tt))

free_written : (b : Bool) (f : Refusal WriteFault) (key : Utf8) → b ≡ false → IsWrittenUnlessLarge {A = Utf8} (cond b (Err f) (Ok key))
free_written true f key e = absurd (true_no e)
free_written false f key e = tt

-- a text without a zero is written as a key
text_written : (key : Utf8) → has_zero key ≡ false → IsWrittenUnlessLarge (spell_key (value.str key))
text_written key e = free_written (has_zero key) (here (invalid_cstring key)) key e

-- ---- values without a shape

mutual
  any_written : (v : Value) → IsGivenAny v → Written v
  any_written (value.boolean b) g levels = tt
  any_written (value.integer i32 n) g levels = number_written Int32 n (short_small n g)
  any_written (value.integer i64 n) g levels = number_written Int64 n (wide_small n g)
  any_written (value.double bits) g levels = tt
  any_written (value.str t) g levels = tt
  any_written (value.bytes bs) g levels = bytes_written bs
  any_written value.unit g levels = tt
  any_written (value.sequence vs) g levels = enclosed_written array (spell_items 0 vs) (any_items_written 0 vs g) levels
  any_written (value.map es) g levels = enclosed_written document (spell_entries es) (any_entries_written es g.1) levels
  any_written v g levels = absurd g

  any_items_written : (i : ℕ) (vs : Items) → AreGivenItems vs → ItemsWritten i vs
  any_items_written i no_items g levels = tt
  any_items_written i (item v vs) g levels = item_written i v vs (any_written v g.0) (any_items_written (suc i) vs g.1) levels

  any_entries_written : (es : Entries) → AreGivenEntries es → EntriesWritten es
  any_entries_written no_entries g levels = tt
  any_entries_written (entry (value.str x) v es) g levels = entry_written (value.str x) v es (text_written x g.0.1) (any_written v g.1) (any_entries_written es g.2) levels
  any_entries_written (entry k v es) g levels = absurd g.0

-- ---- leaves and keys

-- a tree that is or holds no regular expression
scalar_written : (t : Tree) → IsGivenTree t → HoldsNoExpression (kind t) → Written (datum itself t)
scalar_written (tree.double bits) g h levels = tt
scalar_written (tree.string x) g h levels = tt
scalar_written (tree.binary zero b) g h levels = bytes_written b
scalar_written (tree.binary (suc n) b) g h levels = taken (tree.binary (suc n) b) _ (accepted (tree.binary (suc n) b) g) (binary_written (suc n) b)
scalar_written tree.undefined g h levels = taken tree.undefined _ (accepted tree.undefined tt) tt
scalar_written (tree.object_id id) g h levels = taken (tree.object_id id) _ (accepted (tree.object_id id) g) tt
scalar_written (tree.boolean b) g h levels = tt
scalar_written (tree.date_time n) g h levels = taken (tree.date_time n) _ (accepted (tree.date_time n) g) tt
scalar_written tree.null g h levels = tt
scalar_written (tree.db_pointer namespace id) g h levels = taken (tree.db_pointer namespace id) _ (accepted (tree.db_pointer namespace id) (g.1, g.2)) tt
scalar_written (tree.javascript_code x) g h levels = taken (tree.javascript_code x) _ (accepted (tree.javascript_code x) tt) tt
scalar_written (tree.symbol x) g h levels = taken (tree.symbol x) _ (accepted (tree.symbol x) tt) tt
scalar_written (tree.int32 n) g h levels = number_written Int32 n (short_small n g)
scalar_written (tree.timestamp time increment) g h levels = taken (tree.timestamp time increment) _ (accepted (tree.timestamp time increment) g) tt
scalar_written (tree.int64 n) g h levels = number_written Int64 n (wide_small n g)
scalar_written (tree.decimal128 b) g h levels = taken (tree.decimal128 b) _ (accepted (tree.decimal128 b) g) tt
scalar_written tree.max_key g h levels = taken tree.max_key _ (accepted tree.max_key tt) tt
scalar_written tree.min_key g h levels = taken tree.min_key _ (accepted tree.min_key tt) tt
scalar_written (tree.raw k b) g h levels = absurd g
scalar_written t g h levels = absurd h

extended_written : (k : ExtendedLeaf) (v : Value) → IsWritableLeaf (extended_values k) → IsGivenExtended k v → Written v
extended_written object_ids v c g = subst Written (sym g.2) (scalar_written (tree.object_id g.0) g.1 tt)
extended_written uuids v c g = subst Written (sym g.2) (λ levels. binary_written 4 g.0)
extended_written (of_kind k) v c g = subst Written (sym g.3) (scalar_written g.0 g.2 (subst HoldsNoExpression (sym (same_kind (kind g.0) k g.1)) c))
extended_written trees v c g = absurd c
extended_written documents v c g = absurd c

-- a regular expression whose texts hold no zero
expression_written : (p q : Utf8) → IsWhole (tree.regular_expression p q) → Written (datum itself (tree.regular_expression p q))
expression_written p q w levels =
    unless_bind (zero_free p) _ (free_written (has_zero p) (here (invalid_cstring p)) p w.2) (λ x. unless_bind (zero_free q) _ (free_written (has_zero q) (here (invalid_cstring q)) q w.3) (λ y. tt))

-- what stays in its bytes
bytes_kept : (k : ElementType) (b : Bytes) (levels : ℕ) → IsWrittenUnlessLarge (in_bytes k b levels)
bytes_kept k b = enclosed_written {A = Bytes} (tree.raw k) (λ n. Ok b) (λ n. tt)

raw_written : (v : Value) → IsGivenRaw v → Written v
raw_written v (a_document b, f, is) = subst Written (sym is) (bytes_kept EmbeddedDocument b)
raw_written v (an_array b, f, is) = subst Written (sym is) (bytes_kept Array b)
raw_written v (a_tree t, f, is) = subst Written (sym is) (by_whole (λ u. Written (datum itself u)) scalar_written expression_written t f)
raw_written v (a_binary n b, f, is) = subst Written (sym is) (λ levels. binary_written n b)
raw_written v (a_code code scope, f, is) =
    subst Written (sym is)
    (λ levels.
    unless_map (with_scope code) (under (codes "$scope") (in_bytes EmbeddedDocument scope levels)) (unless_inside (at_key (codes "$scope")) (in_bytes EmbeddedDocument scope levels) (bytes_kept EmbeddedDocument scope levels)))

leaf_written : (k : LeafKind) (v : Value) → IsWritableLeaf k → IsGivenLeaf k v → Written v
leaf_written anything v c g levels = any_written v g levels
leaf_written ignored value.unit c g levels = tt
leaf_written booleans (value.boolean b) c g levels = tt
leaf_written (numbers type) (value.integer t n) c g levels = number_written (written_as t) n (wide_small n g.2)
leaf_written doubles (value.double bits) c g levels = tt
leaf_written characters (value.character x) c g levels = tt
leaf_written texts (value.str t) c g levels = tt
leaf_written byte_strings (value.bytes bs) c g levels = bytes_written bs
leaf_written byte_buffers (value.bytes bs) c g levels = bytes_written bs
leaf_written units value.unit c g levels = tt
leaf_written (extended_values k) v c g levels = extended_written k v c g levels
leaf_written raw_documents (value.raw_document b) c g levels = bytes_kept EmbeddedDocument b levels
leaf_written raw_arrays (value.raw_array b) c g levels = bytes_kept Array b levels
leaf_written raw_values v c g levels = raw_written v g levels
leaf_written k v c g levels = absurd g

text_key : (k : Value) → IsGivenLeafKey texts k → IsWrittenUnlessLarge (spell_key k)
text_key (value.str x) g = text_written x g.1
text_key k g = absurd g

key_written : (at : Sight) (s : Form) (k : Value) → IsPlainKey s → IsGivenKey at s k → IsWrittenUnlessLarge (spell_key k)
key_written at (leaf l) k plain g = text_key k (subst (λ x. IsGivenLeafKey x k) plain g.0)
key_written at (enumeration vs) (value.unit_variant name) plain g = text_written name g.1
key_written at (enumeration vs) k plain g = absurd g
key_written at s k plain g = absurd plain

-- ---- variants

chosen_writable : (b : Bool) (c d : Content) (o : Option Content) → IsContent c × EveryContent writable_rows c → cond b (Some c) o ≡ Some d → (o ≡ Some d → IsContent d × EveryContent writable_rows d) → IsContent d × EveryContent writable_rows d
chosen_writable true c d o p e h = subst (λ x. IsContent x × EveryContent writable_rows x) (some_is c d e) p
chosen_writable false c d o p e h = h e

-- the contents of a variant have writable keys
content_writable : (vs : Variants) (name : Utf8) (c : Content) → AreVariants vs → EveryVariant writable_rows vs → content_of vs name ≡ Some c → IsContent c × EveryContent writable_rows c
content_writable no_variants name c p w e = absurd (no_some e)
content_writable (variant n d vs) name c p w e = chosen_writable (bytes_eq n name) d c (content_of vs name) (p.1, w.0) e (content_writable vs name c p.2 w.1)

-- ---- all values

mutual
  pub written : (at : Sight) (v : Value) (s : Form) → IsShape s → HasWritableKeys s → IsGiven at v s → Written v
  written at v (leaf l) p c g levels = leaf_written (leaf_kind l) v c (given_leaf at v l g).0 levels
  written at v (lossy s) p c g levels = written (marked at) v s p c (given_lossy at v s g) levels
  written at v (human_readable s) p c g levels = absurd c
  written at v (by_mode readable compact) p c g levels = absurd c
  written at v (definitions h s) p c g levels = written at v s p c.1 (given_body at v h s g) levels
  written at value.none (optional s) p c g levels = tt
  written at (value.some v) (optional s) p c g levels = written at v s p c g levels
  written at (value.newtype m v) (newtype n s) p c g levels =
      subst IsWrittenUnlessLarge (sym (free_spelled m v levels (ap is_reserved_newtype g.0 ∙ p.0.free))) (written at v s p.1 c g.1 levels)
  written at (value.unit_structure m) (unit_structure n) p c g levels = tt
  written at (value.sequence vs) (sequence s) p c g levels = enclosed_written array (spell_items 0 vs) (items_written at vs s 0 p c g) levels
  written at (value.map es) (map key s) p c g levels = enclosed_written document (spell_entries es) (entries_written at es key s p.2 c.0 c.1 g.1) levels
  written at (value.tuple vs) (tuple ps) p c g levels = enclosed_written array (spell_items 0 vs) (parts_written at vs ps 0 p c g) levels
  written at (value.tuple_structure m vs) (tuple_structure n ps) p c g levels = enclosed_written array (spell_items 0 vs) (parts_written at vs ps 0 p.1 c g.1) levels
  written at (value.structure m vs) (structure u n fs) p c g levels =
      subst IsWrittenUnlessLarge (sym (free_struct m vs levels (ap reserved_kind g.0 ∙ p.0.free))) (enclosed_written document (spell_fields vs) (fields_written at vs fs p.1 c g.1) levels)
  written at (value.unit_variant name) (enumeration vs) p c g levels = tt
  written at (value.newtype_variant name v) (enumeration vs) p c g levels =
      let w = content_writable vs name (newtype_content g.0) p.1 c g.1 in variant_written name (spell v) g.3 (written at v g.0 w.0 w.1 g.2) levels
  written at (value.tuple_variant name ws) (enumeration vs) p c g levels =
      let w = content_writable vs name (tuple_content g.0) p.1 c g.1 in
      variant_written name (λ n. enclosed_at array n (spell_items 0 ws)) g.3 (enclosed_written array (spell_items 0 ws) (parts_written at ws g.0 0 w.0 w.1 g.2)) levels
  written at (value.structure_variant name ws) (enumeration vs) p c g levels =
      let w = content_writable vs name (struct_content g.0) p.1 c g.1 in
      variant_written name (λ n. enclosed_at document n (spell_fields ws)) g.3 (enclosed_written document (spell_fields ws) (fields_written at ws g.0 w.0.1 w.1 g.2)) levels
  written at v s p c g levels = absurd g

  items_written : (at : Sight) (vs : Items) (s : Form) (i : ℕ) → IsShape s → HasWritableKeys s → ItemsGiven at vs s → ItemsWritten i vs
  items_written at no_items s i p c g levels = tt
  items_written at (item v vs) s i p c g levels = item_written i v vs (written at v s p c g.0) (items_written at vs s (suc i) p c g.1) levels

  parts_written : (at : Sight) (vs : Items) (ps : Parts) (i : ℕ) → AreParts ps → EveryPart writable_rows ps → PartsGiven at vs ps → ItemsWritten i vs
  parts_written at no_items no_parts i p c g levels = tt
  parts_written at (item v vs) (part s ps) i p c g levels = item_written i v vs (written at v s p.0 c.0 g.0) (parts_written at vs ps (suc i) p.1 c.1 g.1) levels
  parts_written at vs ps i p c g levels = absurd g

  entries_written : (at : Sight) (es : Entries) (key s : Form) → IsShape s → IsPlainKey key → HasWritableKeys s → EntriesGiven at es key s → EntriesWritten es
  entries_written at no_entries key s p k c g levels = tt
  entries_written at (entry x v es) key s p k c g levels = entry_written x v es (key_written at key x k g.0) (written at v s p c g.1) (entries_written at es key s p k c g.2) levels

  fields_written : (at : Sight) (vs : FieldValues) (fs : Fields) → AreShapes fs → EveryField writable_rows fs → FieldsGiven at vs fs → FieldsWritten vs
  fields_written at no_field_values no_fields p c g levels = tt
  fields_written at (field_value m v vs) (field n s fs) p c g levels = next_written m v vs (ap has_zero g.0 ∙ c.0) (written at v s p.1 c.1 g.1) (fields_written at vs fs p.2 c.2 g.2) levels
  fields_written at vs fs p c g levels = absurd g
