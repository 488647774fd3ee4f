-- The value that a tree is at a shape. Source: serde's data model.
use Rattle.std.specs.Prelude.{ℕ, Bool, true, ◌&&◌, nat_eq, length, [], ◌∷◌, List, zero, if◌then◌else◌, ℤ, Option, Some, None, option_map, option_and_then}
use Rattle.std.specs.Str.{bytes_eq, chars}
use Rattle.bson_kinds.specs.Text.{Utf8}
use Rattle.bson_base.specs.Pairs.{lookup}
use Rattle.bson_kinds.specs.Kind.{byte}
use Rattle.bson_base.specs.Tree.{Tree, kind, object_id, double, string, document, array, binary, boolean, null, int32, int64, Pairs, no_pairs, pair, Trees, no_trees, tree}
use Rattle.bson_shape.specs.Form.{UnknownFields, dropped, denied, Form, leaf, optional, lossy, sequence, newtype, unit_structure, map, tuple, tuple_structure, structure, enumeration, definitions, Fields, no_fields, field, Parts, no_parts, part, Content, unit_content, newtype_content, tuple_content, struct_content, Variants, no_variants, variant}
use Rattle.bson_shape.specs.Makers.{has_field}
use Rattle.bson_laws.specs.Variants.{content_of}
use Rattle.bson_laws.specs.Leaves.{LeafKind, anything, booleans, numbers, doubles, characters, texts, byte_strings, byte_buffers, units, extended_values, ExtendedLeaf, object_ids, uuids, of_kind, trees, documents, leaf_kind}
use Rattle.bson_laws.specs.Datum.{datum, uuid_datum, itself, sorted_tree}
use Rattle.bson_values.specs.Value as value
use Rattle.bson_values.specs.Value.{IntegerType, i32, i64, in_range, ValueOf, Value, integer, Items, no_items, item, Entries, no_entries, entry, FieldValues, no_field_values, field_value}

-- ---- leaves

-- the number as a value of an integer type, where it is one of the type
abbrev pub as_integer : IntegerType → ℤ → Option Value
as_integer type n = if in_range type n then Some (integer type n) else None

-- the one character of a text that has one
abbrev pub one_character : List ℕ → Option ℕ
one_character (c ∷ []) = Some c
one_character cs = None

abbrev pub as_character : Utf8 → Option Value
as_character t = option_map value.character (one_character (chars t))

abbrev mutual
  -- The value that a tree is without a shape: numbers as `i32` and `i64`, null as the unit, an array as a sequence, a document as a map. A tree
  -- that is, or holds, a value of another kind has no value.
  pub views_any : Tree → Option Value
  views_any (boolean b) = Some (value.boolean b)
  views_any (int32 n) = Some (integer i32 n)
  views_any (int64 n) = Some (integer i64 n)
  views_any (double bits) = Some (value.double bits)
  views_any (string t) = Some (value.str t)
  views_any (binary zero bytes) = Some (value.bytes bytes)
  views_any null = Some value.unit
  views_any (array ts) = option_map value.sequence (views_any_items ts)
  views_any (document ps) = option_map value.map (views_any_entries ps)
  views_any t = None

  pub views_any_items : Trees → Option Items
  views_any_items no_trees = Some no_items
  views_any_items (tree t ts) = option_and_then (λ v. option_map (item v) (views_any_items ts)) (views_any t)

  pub views_any_entries : Pairs → Option Entries
  views_any_entries no_pairs = Some no_entries
  views_any_entries (pair key t ps) = option_and_then (λ v. option_map (entry (value.str key) v) (views_any_entries ps)) (views_any t)

-- An extended value as the struct of its reserved name, a UUID as its newtype; at `bson` and `document` the value that the tree is. The options of
-- regular expressions are sorted by character.
abbrev pub views_extended : ExtendedLeaf → Tree → Option Value
views_extended object_ids (object_id id) = Some (datum itself (object_id id))
views_extended uuids (binary subtype b) = if nat_eq subtype 4 && nat_eq (length b) 16 then Some (uuid_datum itself b) else None
views_extended (of_kind k) t = if nat_eq (byte (kind t)) (byte k) then Some (datum itself (sorted_tree t)) else None
views_extended trees t = Some (datum itself (sorted_tree t))
views_extended documents (document ps) = Some (datum itself (sorted_tree (document ps)))
views_extended k t = None

abbrev pub views_leaf : LeafKind → Tree → Option Value
views_leaf anything t = views_any t
views_leaf booleans (boolean b) = Some (value.boolean b)
views_leaf (numbers type) (int32 n) = as_integer type n
views_leaf (numbers type) (int64 n) = as_integer type n
views_leaf doubles (double bits) = Some (value.double bits)
views_leaf characters (string t) = as_character t
views_leaf texts (string t) = Some (value.str t)
views_leaf byte_strings (binary zero bytes) = Some (value.bytes bytes)
views_leaf byte_buffers (binary zero bytes) = Some (value.bytes bytes)
views_leaf units null = Some value.unit
views_leaf (extended_values k) t = views_extended k t
views_leaf k t = None

-- a key where the keys are what a leaf takes
abbrev pub views_leaf_key : LeafKind → Utf8 → Option Value
views_leaf_key texts key = Some (value.str key)
views_leaf_key k key = None

-- ---- shapes

-- the values that these trees are, each where it is one
abbrev pub views_items : (Tree → Option Value) → Trees → Option Items
views_items views no_trees = Some no_items
views_items views (tree t ts) = option_and_then (λ v. option_map (item v) (views_items views ts)) (views t)

-- the unit variant that a text names, where it names one
abbrev pub named_unit : Utf8 → Option Content → Option Value
named_unit name (Some unit_content) = Some (value.unit_variant name)
named_unit name o = None

abbrev pub views_unit : Variants → Utf8 → Option Value
views_unit vs name = named_unit name (content_of vs name)

-- the key of a map that a key of a document is: a text, or the unit variant that it names; a key that is a character has no view, since such a map is not written
abbrev pub views_key : Form → Utf8 → Option Value
views_key (leaf l) key = views_leaf_key (leaf_kind l) key
views_key (enumeration vs) key = views_unit vs key
views_key s key = None

-- the entries of a map that these pairs are, each key and each value where it is one
abbrev pub views_entries : (Utf8 → Option Value) → (Tree → Option Value) → Pairs → Option Entries
views_entries view_key views no_pairs = Some no_entries
views_entries view_key views (pair key t ps) = option_and_then (λ k. option_and_then (λ v. option_map (entry k v) (views_entries view_key views ps)) (views t)) (view_key key)

-- the value of a field that no pair has: none, where its shape is an option
abbrev pub absent : {T : Type 0} → Form → Option (ValueOf T)
absent (optional s) = Some value.none
absent s = None

-- the value of a field at what is at its key
abbrev pub views_at : (Tree → Option Value) → Option Value → Option Tree → Option Value
views_at views missing None = missing
views_at views missing (Some t) = views t

-- each key is the name of a field
abbrev pub are_named : Fields → Pairs → Bool
are_named fs no_pairs = true
are_named fs (pair key t ps) = has_field key fs && are_named fs ps

-- a struct takes each of these keys: all, or where it denies unknown fields the names of its own
abbrev pub all_known : UnknownFields → Fields → Pairs → Bool
all_known dropped fs ps = true
all_known denied fs ps = are_named fs ps

abbrev mutual
  -- The value that a tree is at a shape, where it is one. The texts of a tree are UTF-8, so none of them is mended. What is read for a reader who is human
  -- has no view. A sequence takes the values of an array, each at its shape, a map the pairs of a
  -- document in their order. A struct takes each of its fields from the document by its key, in the shape's order; other keys are dropped, and where the struct
  -- denies them a document that has one has no view. A tuple takes an array of as many values as it has parts. An enum takes a text that names a unit variant,
  -- and a document of one pair whose key names a variant with contents.
  pub views : Form → Tree → Option Value
  views (leaf l) t = views_leaf (leaf_kind l) t
  views (optional s) null = Some value.none
  views (optional s) t = option_map value.some (views s t)
  views (lossy s) t = views s t
  views (definitions h s) t = views s t
  views (newtype name s) t = option_map (value.newtype name) (views s t)
  views (unit_structure name) null = Some (value.unit_structure name)
  views (sequence s) (array ts) = option_map value.sequence (views_items (views s) ts)
  views (map key s) (document ps) = option_map value.map (views_entries (views_key key) (views s) ps)
  views (tuple ps) (array ts) = option_map value.tuple (views_parts ps ts)
  views (tuple_structure name ps) (array ts) = option_map (value.tuple_structure name) (views_parts ps ts)
  views (structure u name fs) (document ps) = if all_known u fs ps then option_map (value.structure name) (views_fields fs ps) else None
  views (enumeration vs) (string name) = views_unit vs name
  views (enumeration vs) (document (pair name t no_pairs)) = views_variant vs name t
  views s t = None

  pub views_fields : Fields → Pairs → Option FieldValues
  views_fields no_fields ps = Some no_field_values
  views_fields (field name s fs) ps = option_and_then (λ v. option_map (field_value name v) (views_fields fs ps)) (views_at (views s) (absent s) (lookup name ps))

  -- as many values as there are parts, each at its own
  pub views_parts : Parts → Trees → Option Items
  views_parts no_parts no_trees = Some no_items
  views_parts (part s ps) (tree t ts) = option_and_then (λ v. option_map (item v) (views_parts ps ts)) (views s t)
  views_parts ps ts = None

  -- the contents of the variant that a name names, where it has some
  pub views_variant : Variants → Utf8 → Tree → Option Value
  views_variant no_variants key t = None
  views_variant (variant name c vs) key t = if bytes_eq name key then views_content name c t else views_variant vs key t

  pub views_content : Utf8 → Content → Tree → Option Value
  views_content name (newtype_content s) t = option_map (value.newtype_variant name) (views s t)
  views_content name (tuple_content ps) (array ts) = option_map (value.tuple_variant name) (views_parts ps ts)
  views_content name (struct_content fs) (document ps) = option_map (value.structure_variant name) (views_fields fs ps)
  views_content name c t = None
