-- The document that a value means. Source: serde's data model, and the kinds of bsonspec.org.
use Rattle.std.specs.Prelude.{encode_utf8, ℤ, int_lt, false, List, [], ◌∷◌, Option, Some, None, if◌then◌else◌, option_map, option_and_then}
use Rattle.std.specs.Result.{result_ok}
use Rattle.std.specs.Str.{bytes_eq}
use Rattle.bson_kinds.specs.Text.{Bytes, Utf8}
use Rattle.bson_kinds.specs.Reserved.{reserved_kind}
use Rattle.bson_base.specs.Sorted.{sorted}
use Rattle.bson_kinds.specs.declared.element_type.ElementType.{ElementType}
use Rattle.bson_kinds.specs.declared.element_type.ElementType.TheVariants.{EmbeddedDocument, Array, JavaScriptCodeWithScope, RegularExpression, Int32}
use Rattle.bson_base.specs.Tree as tree
use Rattle.bson_base.specs.Tree.{Tree, string, document, array, binary, null, int32, int64, Pairs, no_pairs, pair, Trees, no_trees}
use Rattle.bson_shape.specs.Makers.{is_reserved_newtype}
use Rattle.bson_values.specs.Value.{i64, greatest, written_as, Value, boolean, integer, double, character, str, bytes, none, some, unit, unit_structure, newtype, sequence, map, structure, unit_variant, newtype_variant, tuple, tuple_structure, tuple_variant, structure_variant, raw_document, raw_array, mode, uuid_newtype, Items, no_items, item, Entries, no_entries, entry, FieldValues, no_field_values, field_value}
use Rattle.bson_laws.specs.Unwrap.{Part, a_key, a_value, unwrap, scoped_code}
use Rattle.bson_laws.specs.UuidBytes.{uuid_bytes}
use Rattle.bson_laws.specs.Written.{with_scope, spell_whole}

-- a number as a value of a kind; one that is greater than the greatest of `i64` is no Int64
abbrev pub number_of : ElementType → ℤ → Option Tree
number_of Int32 n = Some (int32 n)
number_of k n = if int_lt (greatest i64) n then None else Some (int64 n)

-- the value where there is one, and none where it is read back so: a value that means null
abbrev pub some_or_none : Option Tree → Value → Value
some_or_none (Some null) v = none
some_or_none t v = some v

-- The key that a value is written as in a map: a text as it is, a unit variant as its name, some value and a newtype, whatever its name, as what
-- they hold, a value with two forms as its readable one. Others are no keys.
abbrev pub key_text : Value → Option Utf8
key_text (str t) = Some t
key_text (unit_variant name) = Some name
key_text (some v) = key_text v
key_text (newtype name v) = key_text v
key_text (mode readable compact) = key_text readable
key_text v = None

-- a variant with contents: the document of one pair, whose key is the name of the variant
abbrev pub under_name : Utf8 → Tree → Tree
under_name name t = document (pair name t no_pairs)

-- a newtype: that of a UUID is a binary of subtype 4, another one of a reserved name means nothing
abbrev pub newtype_means : (name : Utf8) → Option Bytes → Option Tree → Option Tree
newtype_means name uuid content = if bytes_eq name uuid_newtype then option_map (binary 4) uuid else if is_reserved_newtype name then None else content

-- a reserved struct, by what it is accepted as
abbrev pub unwrapped_means : Option Tree → Option Tree
unwrapped_means o = option_and_then (λ t. result_ok (spell_whole t)) o

abbrev pub scoped_means : Option (Utf8 × Option Tree) → Option Tree
scoped_means o = option_and_then (λ p. option_map (with_scope p.0) p.1) o

abbrev pub reserved_means : ElementType → Option Tree → Option (Utf8 × Option Tree) → Option Tree
reserved_means JavaScriptCodeWithScope unwrapped scoped = scoped_means scoped
reserved_means k unwrapped scoped = unwrapped_means unwrapped

-- the fields of a regular expression, of the form that `datum` gives, with its options sorted by character; fields of another form, which no value that fits a shape has, as they are
abbrev pub with_sorted_options : FieldValues → FieldValues
with_sorted_options (field_value key (structure name (field_value p pattern (field_value o (str options) rest))) others) =
    field_value key (structure name (field_value p pattern (field_value o (str (sorted options)) rest))) others
with_sorted_options fs = fs

-- the fields of a struct as they are read back, by the kind that its name is reserved for
abbrev pub norm_struct : Option ElementType → FieldValues → FieldValues
norm_struct (Some RegularExpression) fs = with_sorted_options fs
norm_struct k fs = fs

-- a struct: a document, or what its reserved name stands for
abbrev pub struct_means : Option ElementType → Option Pairs → (ElementType → Option Tree) → Option Tree
struct_means None pairs reserved = option_map document pairs
struct_means (Some k) pairs reserved = reserved k

abbrev mutual
  -- The tree that a value is written as in its compact form, where it is written. The newtype of the readable form and `$__bson_private_utf8_lossy` mean
  -- none, though they are written.
  pub means : Value → Option Tree
  means (boolean b) = Some (tree.boolean b)
  means (double bits) = Some (tree.double bits)
  means (character c) = Some (string (encode_utf8 c))
  means (bytes bs) = Some (binary 0 bs)
  means none = Some null
  means (some v) = means v
  means unit = Some null
  means (unit_structure name) = Some null
  means (newtype name v) = newtype_means name (uuid_bytes false v) (means v)
  means (mode readable compact) = means compact
  means (integer type n) = number_of (written_as type) n
  means (str t) = Some (string t)
  means (sequence vs) = option_map array (means_items vs)
  means (map es) = option_map document (means_entries es)
  means (unit_variant name) = Some (string name)
  means (newtype_variant name v) = option_map (under_name name) (means v)
  means (tuple vs) = option_map array (means_items vs)
  means (tuple_structure name vs) = option_map array (means_items vs)
  means (tuple_variant name vs) = option_map (λ ts. under_name name (array ts)) (means_items vs)
  means (structure_variant name fs) = option_map (λ ps. under_name name (document ps)) (means_fields fs)
  means (raw_document bs) = Some (tree.raw EmbeddedDocument bs)
  means (raw_array bs) = Some (tree.raw Array bs)
  means (structure name fs) = struct_means (reserved_kind name) (means_fields fs) (λ k. reserved_means k (unwrap k fs) (scoped_code (means_list fs [])))

  pub means_items : Items → Option Trees
  means_items no_items = Some no_trees
  means_items (item v vs) = option_and_then (λ t. option_map (tree.tree t) (means_items vs)) (means v)

  pub means_entries : Entries → Option Pairs
  means_entries no_entries = Some no_pairs
  means_entries (entry k v es) = option_and_then (λ key. option_and_then (λ t. option_map (pair key t) (means_entries es)) (means v)) (key_text k)

  pub means_fields : FieldValues → Option Pairs
  means_fields no_field_values = Some no_pairs
  means_fields (field_value name v fs) = option_and_then (λ t. option_map (pair name t) (means_fields fs)) (means v)

  -- the list of the fields of a reserved struct, each value with what it means, before what follows
  pub means_list : FieldValues → List (Part (Option Tree)) → List (Part (Option Tree))
  means_list no_field_values rest = rest
  means_list (field_value name v fs) rest = a_key name ∷ means_part v (means v) (means_list fs rest)

  pub means_part : Value → Option Tree → List (Part (Option Tree)) → List (Part (Option Tree))
  means_part (structure name fs) t rest = means_list fs rest
  means_part (mode readable compact) t rest = means_part compact (means compact) rest
  means_part v t rest = a_value v t ∷ rest

abbrev mutual
  -- the value that a value is read back as: null is read as none at an option, and the options of a regular expression are sorted by character
  pub norm : Value → Value
  norm (boolean b) = boolean b
  norm (double bits) = double bits
  norm (character c) = character c
  norm (bytes bs) = bytes bs
  norm none = none
  norm (some v) = some_or_none (means v) (norm v)
  norm unit = unit
  norm (unit_structure name) = unit_structure name
  norm (newtype name v) = newtype name (norm v)
  norm (mode readable compact) = mode (norm readable) (norm compact)
  norm (integer type n) = integer type n
  norm (str t) = str t
  norm (sequence vs) = sequence (norm_items vs)
  norm (map es) = map (norm_entries es)
  norm (unit_variant name) = unit_variant name
  norm (newtype_variant name v) = newtype_variant name (norm v)
  norm (tuple vs) = tuple (norm_items vs)
  norm (tuple_structure name vs) = tuple_structure name (norm_items vs)
  norm (tuple_variant name vs) = tuple_variant name (norm_items vs)
  norm (structure_variant name fs) = structure_variant name (norm_fields fs)
  norm (raw_document bs) = raw_document bs
  norm (raw_array bs) = raw_array bs
  norm (structure name fs) = structure name (norm_struct (reserved_kind name) (norm_fields fs))

  pub norm_items : Items → Items
  norm_items no_items = no_items
  norm_items (item v vs) = item (norm v) (norm_items vs)

  pub norm_entries : Entries → Entries
  norm_entries no_entries = no_entries
  norm_entries (entry k v es) = entry (norm k) (norm v) (norm_entries es)

  pub norm_fields : FieldValues → FieldValues
  norm_fields no_field_values = no_field_values
  norm_fields (field_value name v fs) = field_value name (norm v) (norm_fields fs)
