-- The values that are values of a shape. Source: serde's data model.
use Rattle.std.specs.Prelude.{◌≡◌, true, Some}
use Rattle.std.specs.Char.{IsScalar}
use Rattle.std.specs.Str.{is_utf8}
use Rattle.bson_laws.specs.InRange.{IsInRange}
use Rattle.bson_base.specs.Sound.{HasBytes}
use Rattle.bson_base.specs.Tree.{Tree, kind}
use Rattle.bson_kinds.specs.declared.element_type.ElementType.{ElementType}
use Rattle.bson_kinds.specs.declared.element_type.ElementType.TheVariants as kinds
use Rattle.bson_kinds.specs.Text.{Bytes, AreBytes}
use Rattle.bson_shape.specs.Form.{Form, leaf, optional, lossy, sequence, newtype, unit_structure, map, tuple, tuple_structure, structure, enumeration, definitions, Fields, no_fields, field, Parts, no_parts, part, unit_content, newtype_content, tuple_content, struct_content}
use Rattle.bson_laws.specs.Variants.{content_of}
use Rattle.bson_laws.specs.Leaves.{LeafKind, anything, booleans, numbers, doubles, characters, texts, byte_strings, byte_buffers, units, extended_values, ExtendedLeaf, object_ids, uuids, of_kind, trees, documents, leaf_kind}
use Rattle.bson_laws.specs.Datum.{datum, uuid_datum, itself}
use Rattle.bson_values.specs.Value as value
use Rattle.bson_values.specs.Value.{i32, i64, in_range, Value, boolean, integer, double, character, str, bytes, none, some, unit, Items, no_items, item, Entries, no_entries, entry, FieldValues, no_field_values, field_value}

-- a text
abbrev pub IsText : Value → Type 0
IsText (str t) = is_utf8 t ≡ true
IsText v = ⊥

abbrev mutual
  -- a value that is read without a shape, in its range: its numbers are of `i32` and `i64`, and its maps have texts as their keys
  pub IsAny : Value → Type 0
  IsAny (boolean b) = Unit {0}
  IsAny (integer i32 n) = in_range i32 n ≡ true
  IsAny (integer i64 n) = in_range i64 n ≡ true
  IsAny (double bits) = HasBytes 8 bits
  IsAny (str t) = is_utf8 t ≡ true
  IsAny (bytes bs) = AreBytes bs
  IsAny unit = Unit {0}
  IsAny (value.sequence vs) = AreAnyItems vs
  IsAny (value.map es) = AreAnyEntries es
  IsAny v = ⊥

  pub AreAnyItems : Items → Type 0
  AreAnyItems no_items = Unit {0}
  AreAnyItems (item v vs) = IsAny v × AreAnyItems vs

  pub AreAnyEntries : Entries → Type 0
  AreAnyEntries no_entries = Unit {0}
  AreAnyEntries (entry k v es) = IsText k × IsAny v × AreAnyEntries es

-- the value is that of a tree, each number, byte and text of which is in its range
pub record IsTreeValue (v : Value) : Type 0 where
  pub tree : Tree
  pub ranges : IsInRange tree
  pub is_datum : datum itself tree ≡ v

-- the value is that of such a tree of this kind
pub record IsValueOfKind (k : ElementType) (v : Value) : Type 0 where
  pub of_tree : IsTreeValue v
  pub has_kind : kind of_tree.tree ≡ k

-- the value is that of a UUID
pub record IsUuidValue (v : Value) : Type 0 where
  pub id : Bytes
  pub sixteen : HasBytes 16 id
  pub is_datum : uuid_datum itself id ≡ v

-- a value of what an extended leaf takes
abbrev pub FitsExtended : ExtendedLeaf → Value → Type 0
FitsExtended object_ids v = IsValueOfKind kinds.ObjectId v
FitsExtended uuids v = IsUuidValue v
FitsExtended (of_kind k) v = IsValueOfKind k v
FitsExtended trees v = IsTreeValue v
FitsExtended documents v = IsValueOfKind kinds.EmbeddedDocument v

-- a value of what a leaf takes, in its range
abbrev pub FitsLeaf : LeafKind → Value → Type 0
FitsLeaf anything v = IsAny v
FitsLeaf booleans (boolean b) = Unit {0}
FitsLeaf (numbers type) (integer t n) = (t ≡ type) × (in_range type n ≡ true)
FitsLeaf doubles (double bits) = HasBytes 8 bits
FitsLeaf characters (character c) = IsScalar c
FitsLeaf texts v = IsText v
FitsLeaf byte_strings (bytes bs) = AreBytes bs
FitsLeaf byte_buffers (bytes bs) = AreBytes bs
FitsLeaf units unit = Unit {0}
FitsLeaf (extended_values k) v = FitsExtended k v
FitsLeaf k v = ⊥

-- a key where the keys are what a leaf takes
abbrev pub FitsLeafKey : LeafKind → Value → Type 0
FitsLeafKey texts k = IsText k
FitsLeafKey kind k = ⊥

-- a key of a map: a text, where the keys are texts, or a unit variant of the enum that the keys are
abbrev pub FitsKey : Form → Value → Type 0
FitsKey (leaf l) k = FitsLeafKey (leaf_kind l) k
FitsKey (enumeration vs) (value.unit_variant name) = content_of vs name ≡ Some unit_content
FitsKey s k = ⊥

abbrev mutual
  -- A value of the kind that a leaf takes; what fits the inner shape, where texts are mended; none, or what fits the inner shape; a newtype or a
  -- unit struct of the shape's name; a sequence whose values fit its shape; a map whose keys and values fit theirs; a tuple, or a tuple struct of
  -- the shape's name, of as many values as the shape has parts, each fitting its own; a variant of the enum, with contents that fit those of that
  -- name; a struct of the shape's name, with its fields in its order, whose values fit theirs. Nothing fits what is read for a human reader.
  pub Fits : Value → Form → Type 0
  Fits v (leaf l) = FitsLeaf (leaf_kind l) v
  Fits v (lossy s) = Fits v s
  Fits v (definitions h s) = Fits v s
  Fits none (optional s) = Unit {0}
  Fits (some v) (optional s) = Fits v s
  Fits (value.newtype name v) (newtype n s) = (name ≡ n) × Fits v s
  Fits (value.unit_structure name) (unit_structure n) = name ≡ n
  Fits (value.sequence vs) (sequence s) = ItemsFit vs s
  Fits (value.map es) (map key s) = EntriesFit es key s
  Fits (value.tuple vs) (tuple ps) = PartsFit vs ps
  Fits (value.tuple_structure name vs) (tuple_structure n ps) = (name ≡ n) × PartsFit vs ps
  Fits (value.unit_variant name) (enumeration vs) = content_of vs name ≡ Some unit_content
  Fits (value.newtype_variant name v) (enumeration vs) = (s : Form) × (content_of vs name ≡ Some (newtype_content s)) × Fits v s
  Fits (value.tuple_variant name vs) (enumeration ws) = (ps : Parts) × (content_of ws name ≡ Some (tuple_content ps)) × PartsFit vs ps
  Fits (value.structure_variant name vs) (enumeration ws) = (fs : Fields) × (content_of ws name ≡ Some (struct_content fs)) × FieldsFit vs fs
  Fits (value.structure name vs) (structure u n fs) = (name ≡ n) × FieldsFit vs fs
  Fits v s = ⊥

  pub ItemsFit : Items → Form → Type 0
  ItemsFit no_items s = Unit {0}
  ItemsFit (item v vs) s = Fits v s × ItemsFit vs s

  pub PartsFit : Items → Parts → Type 0
  PartsFit no_items no_parts = Unit {0}
  PartsFit (item v vs) (part s ps) = Fits v s × PartsFit vs ps
  PartsFit vs ps = ⊥

  pub EntriesFit : Entries → Form → Form → Type 0
  EntriesFit no_entries key s = Unit {0}
  EntriesFit (entry k v es) key s = FitsKey key k × Fits v s × EntriesFit es key s

  pub FieldsFit : FieldValues → Fields → Type 0
  FieldsFit no_field_values no_fields = Unit {0}
  FieldsFit (field_value name v vs) (field n s fs) = (name ≡ n) × Fits v s × FieldsFit vs fs
  FieldsFit vs fs = ⊥
