-- The tree that a value is written as, or why it is not written, and how large it is. Source: serde's data model, and bsonspec.org, version 1.1,
-- `document`, `e_name` and `cstring`.
use Rattle.std.specs.Prelude.{encode_utf8, ◌<◌, ℕ, ℤ, int_lt, zero, suc, ◌+◌, List, [], ◌∷◌, length, Bool, false, Option, Some, None, if◌then◌else◌, Ok, Err}
use Rattle.std.specs.Fmt.{decimal}
use Rattle.std.specs.Str.{bytes_eq}
use Rattle.bson_kinds.specs.Text.{Bytes, Utf8, has_zero}
use Rattle.bson_kinds.specs.Outcome.{◌>>=◌, result_map}
use Rattle.bson_kinds.specs.Reserved.{reserved_kind}
use Rattle.bson_base.specs.Sound.{max_levels, max_binary}
use Rattle.bson_base.specs.Tree as tree
use Rattle.bson_base.specs.Tree.{Tree, string, document, array, binary, null, int32, int64, Pairs, no_pairs, pair, Trees, no_trees}
use Rattle.bson_kinds.specs.declared.element_type.ElementType.{ElementType}
use Rattle.bson_kinds.specs.declared.element_type.ElementType.TheVariants.{EmbeddedDocument, Array, JavaScriptCodeWithScope, Int32}
use Rattle.bson_values.specs.Value.{i64, greatest, written_as, Value, boolean, integer, double, character, str, bytes, none, some, unit, unit_structure, newtype, sequence, map, structure, unit_variant, newtype_variant, tuple, tuple_structure, tuple_variant, structure_variant, raw_document, raw_array, mode, Items, no_items, item, Entries, no_entries, entry, FieldValues, no_field_values, field_value, kind_of, uuid_newtype, readable_inside}
use Rattle.bson_values.specs.Cause.{too_deep, binary_too_long, top_level}
use Rattle.bson_values.specs.Refusal.{WriteFault, unwritable, invalid_document_key, invalid_cstring, unsigned_exceeds, here, under, under_index}
use Rattle.bson_laws.specs.Means.{number_of, key_text}
use Rattle.bson_laws.specs.UuidBytes.{uuid_bytes}
use Rattle.bson_laws.specs.Unwrap.{Part, a_key, a_value, unwrap, scoped_code}
pub use Rattle.bson_laws.specs.Written.{Writing, spell_binary, spell_whole, spell_unwrapped, spell_scoped, spell_uuid, written_size}

-- a document or an array takes one of the levels that are left, and its parts are written with the others
abbrev pub enclosed_at : {A : Type 0} → (A → Tree) → ℕ → (ℕ → Writing A) → Writing Tree
enclosed_at container zero parts = Err (here (unwritable too_deep))
enclosed_at container (suc levels) parts = result_map container (parts levels)

-- a document or an array that is given by its bytes takes one of the levels that are left
abbrev pub in_bytes : ElementType → Bytes → ℕ → Writing Tree
in_bytes k bs levels = enclosed_at (tree.raw k) levels (λ inside. Ok bs)

-- a struct: a document of its fields, or what its reserved name stands for, which takes no level
abbrev pub struct_at : Option ElementType → ℕ → (ℕ → Writing Pairs) → (ElementType → Writing Tree) → Writing Tree
struct_at None levels pairs reserved = enclosed_at document levels pairs
struct_at (Some k) levels pairs reserved = reserved k

-- a struct of a name that is reserved for a kind, by what it is accepted as
abbrev pub reserved_at : ElementType → Option Tree → Option (Utf8 × Writing Tree) → Writing Tree
reserved_at JavaScriptCodeWithScope unwrapped scoped = spell_scoped scoped
reserved_at k unwrapped scoped = spell_unwrapped unwrapped

-- the value of a field, whose name is judged before it
abbrev pub named : Utf8 → Writing Tree → Writing Tree
named name r = if has_zero name then Err (here (invalid_cstring name)) else under name r

-- A variant with contents: a document of one pair, whose key is the name of the variant. Its level is taken first, then its name is judged, then its
-- contents are written under it.
abbrev pub variant_at : Utf8 → ℕ → (ℕ → Writing Tree) → Writing Tree
variant_at name levels content = enclosed_at document levels (λ inside. named name (content inside) >>= λ t. Ok (pair name t no_pairs))

-- a number as a value of a kind; one that is greater than the greatest of `i64` is no Int64
abbrev pub spell_number : ElementType → ℤ → Writing Tree
spell_number Int32 n = Ok (int32 n)
spell_number k n = if int_lt (greatest i64) n then Err (here (unsigned_exceeds n)) else Ok (int64 n)

-- a byte string: a binary of subtype 0
abbrev pub spell_bytes : Bytes → Writing Tree
spell_bytes bs = spell_binary 0 bs

-- a tree, null where there is none
abbrev pub or_null : Option Tree → Tree
or_null (Some t) = t
or_null None = null

-- a newtype: that of a UUID, or what its content is written as
abbrev pub newtype_at : (name : Utf8) → (uuid content : Writing Tree) → Writing Tree
newtype_at name uuid content = if bytes_eq name uuid_newtype then uuid else content

-- What the refusal of a key carries: a scalar as it would be written, null for none, a unit, a unit struct and a number that is not written, an
-- empty array for a sequence, a tuple, a tuple variant and an array in its bytes, for some value and for a newtype what their content would carry, for a value with two
-- forms what its readable one would, an empty document for every other value, a tuple struct among them. A text and a unit variant are keys, and never carried.
abbrev pub carried : Value → Tree
carried (boolean b) = tree.boolean b
carried (integer type n) = or_null (number_of (written_as type) n)
carried (double bits) = tree.double bits
carried (character c) = string (encode_utf8 c)
carried (str t) = string t
carried (bytes bs) = binary 0 bs
carried none = null
carried unit = null
carried (unit_structure name) = null
carried (some v) = carried v
carried (newtype name v) = carried v
carried (mode readable compact) = carried readable
carried (sequence vs) = array no_trees
carried (unit_variant name) = string name
carried (tuple vs) = array no_trees
carried (tuple_variant name vs) = array no_trees
carried (raw_array bs) = array no_trees
carried (map es) = document no_pairs
carried (newtype_variant name v) = document no_pairs
carried (tuple_structure name vs) = document no_pairs
carried (structure_variant name fs) = document no_pairs
carried (structure name fs) = document no_pairs
carried (raw_document bs) = document no_pairs

-- the text of a key, which holds no zero character; a value that is no key is refused, and carried
abbrev pub written_key : Value → Option Utf8 → Writing Utf8
written_key k None = Err (here (invalid_document_key (carried k)))
written_key k (Some key) = if has_zero key then Err (here (invalid_cstring key)) else Ok key

-- a key of a map; its refusal is that of the map
abbrev pub spell_key : Value → Writing Utf8
spell_key k = written_key k (key_text k)

abbrev mutual
  -- The tree of a value, in its readable form or in its compact one, with so many levels left, or the first refusal in document order.
  pub spell_as : (readable : Bool) → Value → (levels : ℕ) → Writing Tree
  spell_as readable (boolean b) levels = Ok (tree.boolean b)
  spell_as readable (double bits) levels = Ok (tree.double bits)
  spell_as readable (character c) levels = Ok (string (encode_utf8 c))
  spell_as readable (bytes bs) levels = spell_bytes bs
  spell_as readable none levels = Ok null
  spell_as readable (some v) levels = spell_as readable v levels
  spell_as readable unit levels = Ok null
  spell_as readable (unit_structure name) levels = Ok null
  spell_as readable (newtype name v) levels = newtype_at name (spell_uuid (uuid_bytes readable v)) (spell_as (readable_inside readable name) v levels)
  spell_as readable (mode v w) levels = if readable then spell_as readable v levels else spell_as readable w levels
  spell_as readable (integer type n) levels = spell_number (written_as type) n
  spell_as readable (str t) levels = Ok (string t)
  spell_as readable (sequence vs) levels = enclosed_at array levels (spell_items_as readable 0 vs)
  spell_as readable (map es) levels = enclosed_at document levels (spell_entries_as readable es)
  spell_as readable (unit_variant name) levels = Ok (string name)
  spell_as readable (newtype_variant name v) levels = variant_at name levels (spell_as readable v)
  spell_as readable (tuple vs) levels = enclosed_at array levels (spell_items_as readable 0 vs)
  spell_as readable (tuple_structure name vs) levels = enclosed_at array levels (spell_items_as readable 0 vs)
  spell_as readable (tuple_variant name vs) levels = variant_at name levels (λ inside. enclosed_at array inside (spell_items_as readable 0 vs))
  spell_as readable (structure_variant name fs) levels = variant_at name levels (λ inside. enclosed_at document inside (spell_fields_as readable fs))
  spell_as readable (raw_document bs) levels = in_bytes EmbeddedDocument bs levels
  spell_as readable (raw_array bs) levels = in_bytes Array bs levels
  spell_as readable (structure name fs) levels = struct_at (reserved_kind name) levels (spell_fields_as readable fs) (λ k. reserved_at k (unwrap k fs) (scoped_code (spell_list readable fs levels [])))

  -- the values of a sequence from this index on
  pub spell_items_as : (readable : Bool) → (index : ℕ) → Items → (levels : ℕ) → Writing Trees
  spell_items_as readable i no_items levels = Ok no_trees
  spell_items_as readable i (item v vs) levels = under_index i (spell_as readable v levels) >>= λ t. spell_items_as readable (suc i) vs levels >>= λ ts. Ok (tree.tree t ts)

  pub spell_entries_as : (readable : Bool) → Entries → (levels : ℕ) → Writing Pairs
  spell_entries_as readable no_entries levels = Ok no_pairs
  spell_entries_as readable (entry k v es) levels = spell_key k >>= λ key. under key (spell_as readable v levels) >>= λ t. spell_entries_as readable es levels >>= λ ps. Ok (pair key t ps)

  pub spell_fields_as : (readable : Bool) → FieldValues → (levels : ℕ) → Writing Pairs
  spell_fields_as readable no_field_values levels = Ok no_pairs
  spell_fields_as readable (field_value name v fs) levels = named name (spell_as readable v levels) >>= λ t. spell_fields_as readable fs levels >>= λ ps. Ok (pair name t ps)

  -- the list of the fields of a reserved struct, each value with what it is written as, before what follows
  pub spell_list : (readable : Bool) → FieldValues → (levels : ℕ) → List (Part (Writing Tree)) → List (Part (Writing Tree))
  spell_list readable no_field_values levels rest = rest
  spell_list readable (field_value name v fs) levels rest = a_key name ∷ spell_part readable v levels (spell_as readable v levels) (spell_list readable fs levels rest)

  pub spell_part : (readable : Bool) → Value → (levels : ℕ) → Writing Tree → List (Part (Writing Tree)) → List (Part (Writing Tree))
  spell_part readable (structure name fs) levels r rest = spell_list readable fs levels rest
  spell_part readable (mode v w) levels r rest = spell_part readable w levels (spell_as readable w levels) rest
  spell_part readable v levels r rest = a_value v r ∷ rest

-- the same in their compact forms
abbrev pub spell : Value → (levels : ℕ) → Writing Tree
spell v levels = spell_as false v levels

abbrev pub spell_items : (index : ℕ) → Items → (levels : ℕ) → Writing Trees
spell_items i vs levels = spell_items_as false i vs levels

abbrev pub spell_entries : Entries → (levels : ℕ) → Writing Pairs
spell_entries es levels = spell_entries_as false es levels

abbrev pub spell_fields : FieldValues → (levels : ℕ) → Writing Pairs
spell_fields fs levels = spell_fields_as false fs levels

-- a value that is written as a document goes on; any other is refused at the top level
abbrev pub at_top : ElementType → Writing Tree → Writing Tree
at_top EmbeddedDocument r = r
at_top k r = Err (here (unwritable (top_level k)))

-- a whole document
abbrev pub spell_document : Value → Writing Tree
spell_document v = at_top (kind_of v) (spell v max_levels)

-- how many bytes a number of a kind takes
abbrev pub number_size : ElementType → ℕ
number_size Int32 = 4
number_size k = 8

-- how many bytes the key of a map takes; a value that is no key counts 0
abbrev pub key_size : Option Utf8 → ℕ
key_size (Some key) = length key
key_size None = 0

-- how many bytes a variant takes whose contents take so many
abbrev pub variant_size : Utf8 → ℕ → ℕ
variant_size name content = length name + 2 + content + 5

-- how many bytes a struct takes: a document of its fields, or what its reserved name stands for
abbrev pub struct_size : Option ElementType → ℕ → (ElementType → ℕ) → ℕ
struct_size None fields reserved = fields + 5
struct_size (Some k) fields reserved = reserved k

-- how many bytes a reserved struct takes: those of its value, or its code, a length and its scope; 0 where it is not accepted, or its value is refused
abbrev pub scoped_size : Option (Utf8 × ℕ) → ℕ
scoped_size None = 0
scoped_size (Some p) = length p.0 + 9 + p.1

abbrev pub reserved_size : ElementType → Option Tree → Option (Utf8 × ℕ) → ℕ
reserved_size JavaScriptCodeWithScope unwrapped scoped = scoped_size scoped
reserved_size k unwrapped scoped = written_size (spell_unwrapped unwrapped)

-- how many bytes a newtype takes
abbrev pub newtype_size : (name : Utf8) → (uuid content : ℕ) → ℕ
newtype_size name uuid content = if bytes_eq name uuid_newtype then uuid else content

abbrev mutual
  -- how many bytes a value takes, in its readable form or in its compact one
  pub size_as : (readable : Bool) → Value → ℕ
  size_as readable (boolean b) = 1
  size_as readable (double bits) = length bits
  size_as readable (character c) = length (encode_utf8 c) + 5
  size_as readable (bytes bs) = length bs + 5
  size_as readable none = 0
  size_as readable (some v) = size_as readable v
  size_as readable unit = 0
  size_as readable (unit_structure name) = 0
  size_as readable (newtype name v) = newtype_size name (written_size (spell_uuid (uuid_bytes readable v))) (size_as (readable_inside readable name) v)
  size_as readable (mode v w) = if readable then size_as readable v else size_as readable w
  size_as readable (integer type n) = number_size (written_as type)
  size_as readable (str t) = length t + 5
  size_as readable (sequence vs) = size_items_as readable 0 vs + 5
  size_as readable (map es) = size_entries_as readable es + 5
  size_as readable (unit_variant name) = length name + 5
  size_as readable (newtype_variant name v) = variant_size name (size_as readable v)
  size_as readable (tuple vs) = size_items_as readable 0 vs + 5
  size_as readable (tuple_structure name vs) = size_items_as readable 0 vs + 5
  size_as readable (tuple_variant name vs) = variant_size name (size_items_as readable 0 vs + 5)
  size_as readable (structure_variant name fs) = variant_size name (size_fields_as readable fs + 5)
  size_as readable (raw_document bs) = length bs
  size_as readable (raw_array bs) = length bs
  size_as readable (structure name fs) = struct_size (reserved_kind name) (size_fields_as readable fs) (λ k. reserved_size k (unwrap k fs) (scoped_code (size_list readable fs [])))

  -- an element takes one byte for its kind, its key and a zero, and its value; the keys of an array are the decimal indexes from this one on
  pub size_items_as : (readable : Bool) → (index : ℕ) → Items → ℕ
  size_items_as readable i no_items = 0
  size_items_as readable i (item v vs) = length (decimal i) + 2 + size_as readable v + size_items_as readable (suc i) vs

  pub size_entries_as : (readable : Bool) → Entries → ℕ
  size_entries_as readable no_entries = 0
  size_entries_as readable (entry k v es) = key_size (key_text k) + 2 + size_as readable v + size_entries_as readable es

  pub size_fields_as : (readable : Bool) → FieldValues → ℕ
  size_fields_as readable no_field_values = 0
  size_fields_as readable (field_value name v fs) = length name + 2 + size_as readable v + size_fields_as readable fs

  -- the list of the fields of a reserved struct, each value with its size, before what follows
  pub size_list : (readable : Bool) → FieldValues → List (Part ℕ) → List (Part ℕ)
  size_list readable no_field_values rest = rest
  size_list readable (field_value name v fs) rest = a_key name ∷ size_part readable v (size_as readable v) (size_list readable fs rest)

  pub size_part : (readable : Bool) → Value → ℕ → List (Part ℕ) → List (Part ℕ)
  size_part readable (structure name fs) n rest = size_list readable fs rest
  size_part readable (mode v w) n rest = size_part readable w (size_as readable w) rest
  size_part readable v n rest = a_value v n ∷ rest

-- the same in their compact forms
abbrev pub size : Value → ℕ
size v = size_as false v

-- what nests too deep, or a binary that has more bytes than a binary may
abbrev pub IsTooLarge : WriteFault → Type 0
IsTooLarge (unwritable too_deep) = Unit {0}
IsTooLarge (unwritable (binary_too_long n)) = max_binary 0 < n
IsTooLarge f = ⊥

-- It is written, or refused for nothing but its size.
abbrev pub IsWrittenUnlessLarge : {A : Type 0} → Writing A → Type 0
IsWrittenUnlessLarge (Ok x) = Unit {0}
IsWrittenUnlessLarge (Err r) = IsTooLarge r.fault

-- a number that no Int64 holds
abbrev pub IsNumber : WriteFault → Type 0
IsNumber (unsigned_exceeds n) = Unit {0}
IsNumber f = ⊥

-- It is not refused for a number that no Int64 holds.
abbrev pub HoldsNumbers : {A : Type 0} → Writing A → Type 0
HoldsNumbers (Ok x) = Unit {0}
HoldsNumbers (Err r) = IsNumber r.fault → ⊥
