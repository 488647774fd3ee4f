-- Values in memory as trees: each is written as the datum of its tree, and a datum gives the tree again.
-- Source: serde's data model, and the extended types of MongoDB's crate bson, version 2.
use Rattle.std.specs.Prelude.{◌≡◌, ℤ, Bool, ◌&&◌, if◌then◌else◌, Option, Some, None, option_and_then, Ok, Err, codes, string_bytes}
use Rattle.std.specs.Str.{bytes_eq}
use Rattle.bson_kinds.specs.Outcome.{◌>>=◌, result_map}
use Rattle.bson_kinds.specs.Reserved.{reserved_kind}
use Rattle.bson_kinds.specs.Text.{Utf8}
use Rattle.bson_kinds.specs.declared.element_type.ElementType.{ElementType}
use Rattle.bson_kinds.specs.declared.element_type.ElementType.TheVariants.{Binary, Undefined, ObjectId, DateTime, RegularExpression, DbPointer, JavaScriptCode, Symbol, Timestamp, Decimal128, MaxKey, MinKey}
use Rattle.bson_base.specs.BsonView.{pairs_of}
use Rattle.bson_base.specs.Pairs.{put, AreDistinct}
use Rattle.bson_base.specs.Sorted.{sorted}
use Rattle.bson_base.specs.Tree as tree
use Rattle.bson_base.specs.Tree.{Tree, Pairs, no_pairs, pair, Trees, no_trees}
use Rattle.bson_base.specs.declared.code_with_scope.JavaScriptCodeWithScope.{JavaScriptCodeWithScope}
use Rattle.bson_datum.specs.Access.{field, as_str}
use Rattle.bson_values.specs.Value.{IntegerType, i32, i64, Value, boolean, integer, double, str, bytes, unit, sequence, map, structure, Items, no_items, item, Entries, no_entries, entry, FieldValues, no_field_values, field_value}
use Rattle.bson_laws.specs.Datum.{datum, itself, wrapped}
use Rattle.bson_laws.specs.InRange.{IsInRange}
use Rattle.bson_type_data.specs.Answers.{Reading, not_fitting}
use Rattle.bson_type_data.specs.Extended.{taken_where, taken_as, taken_id, taken_date, taken_stamp, taken_decimal, taken_binary, taken_pointer, taken_regex}
use Rattle.bson_type_data.specs.Scalars.{natural, taken_text}

-- the datum of a tree
abbrev pub tree_datum : Tree → Value
tree_datum t = datum itself t

-- the datum of a document
abbrev pub document_datum : Pairs → Value
document_datum ps = tree_datum (tree.document ps)

-- the tree and the datum of code with its scope
abbrev pub scoped_tree : Utf8 × Pairs → Tree
scoped_tree p = tree.javascript_code_with_scope p.0 p.1

abbrev pub scoped_datum : Utf8 × Pairs → Value
scoped_datum p = tree_datum (scoped_tree p)

-- ---- kinds that have no type of their own

-- a text under a name: the struct of this reserved name whose one field has the same name
abbrev pub text_under : (name : Utf8) → Utf8 → Value
text_under name t = wrapped itself name (str t)

-- the text that the field of a name gives
abbrev pub text_said : (name : Utf8) → Value → Option Utf8
text_said name v = option_and_then as_str (field name v)

-- the text whose datum under this name a value is
abbrev pub taken_under : (name : Utf8) → Value → Reading Utf8
taken_under name v = taken_as (text_under name) (text_said name) v

-- this tree, where the value is its datum
abbrev pub taken_only : Tree → Value → Reading Tree
taken_only t v = taken_where tree_datum v (Some t)

-- ---- trees

-- a number of a kind
abbrev pub taken_number : IntegerType → ℤ → Reading Tree
taken_number i32 n = Ok (tree.int32 n)
taken_number i64 n = Ok (tree.int64 n)
taken_number type n = Err not_fitting

-- a time in seconds and an increment; those of a time stamp that was taken have no sign, so none of them is refused
abbrev pub stamp_tree : ℤ × ℤ → Reading Tree
stamp_tree p = natural p.0 >>= λ time. result_map (tree.timestamp time) (natural p.1)

-- The tree of this kind whose datum a struct is. Code with its scope is taken before (`taken_fields`), so no struct of a reserved name comes to the last row.
abbrev pub taken_kind : ElementType → Value → Reading Tree
taken_kind Binary v = result_map (λ p. tree.binary p.0 p.1) (taken_binary v)
taken_kind Undefined v = taken_only tree.undefined v
taken_kind ObjectId v = result_map tree.object_id (taken_id v)
taken_kind DateTime v = result_map tree.date_time (taken_date v)
taken_kind RegularExpression v = result_map (λ p. tree.regular_expression p.0 p.1) (taken_regex v)
taken_kind DbPointer v = result_map (λ p. tree.db_pointer p.0 p.1) (taken_pointer v)
taken_kind JavaScriptCode v = result_map tree.javascript_code (taken_under (codes "$code") v)
taken_kind Symbol v = result_map tree.symbol (taken_under (codes "$symbol") v)
taken_kind Timestamp v = taken_stamp v >>= stamp_tree
taken_kind Decimal128 v = result_map tree.decimal128 (taken_decimal v)
taken_kind MaxKey v = taken_only tree.max_key v
taken_kind MinKey v = taken_only tree.min_key v
taken_kind k v = Err not_fitting

-- the same, by the kind that the name of the struct is reserved for
abbrev pub taken_struct : Option ElementType → Value → Reading Tree
taken_struct None v = Err not_fitting
taken_struct (Some k) v = taken_kind k v

-- the name of the struct that code with its scope is
abbrev pub scoped_name : Utf8
scoped_name = codes "$codeWithScope"

-- the fields of that struct have these names
abbrev pub are_scoped : Utf8 → Utf8 → Bool
are_scoped code scope = bytes_eq code (codes "$code") && bytes_eq scope (codes "$scope")

-- the code, where the fields have these names
abbrev pub named_code : (code_name scope_name : Utf8) → (code : Reading Utf8) → Reading Utf8
named_code c s code = if are_scoped c s then code else Err not_fitting

-- a text of code, and the pairs of its scope
abbrev pub code_and_scope : Reading Utf8 → Reading Pairs → Reading (Utf8 × Pairs)
code_and_scope code scope = code >>= λ t. result_map (λ ps. (t, ps)) scope

abbrev mutual
  -- The tree whose datum a value is, with the options of its regular expressions in order; of a key that is there already the value is replaced in its place.
  pub taken_tree : Value → Reading Tree
  taken_tree (boolean b) = Ok (tree.boolean b)
  taken_tree (integer type n) = taken_number type n
  taken_tree (double bits) = Ok (tree.double bits)
  taken_tree (str t) = Ok (tree.string t)
  taken_tree (bytes b) = Ok (tree.binary 0 b)
  taken_tree unit = Ok tree.null
  taken_tree (sequence vs) = result_map tree.array (taken_trees vs)
  taken_tree (map es) = result_map tree.document (taken_pairs no_pairs es)
  taken_tree (structure name fs) = if bytes_eq name scoped_name then result_map scoped_tree (taken_fields fs) else taken_struct (reserved_kind name) (structure name fs)
  taken_tree v = Err not_fitting

  -- the trees of items
  pub taken_trees : Items → Reading Trees
  taken_trees no_items = Ok no_trees
  taken_trees (item v vs) = taken_tree v >>= λ t. result_map (tree.tree t) (taken_trees vs)

  -- the pairs that are there, with those of entries, whose keys are texts
  pub taken_pairs : (done : Pairs) → Entries → Reading Pairs
  taken_pairs done no_entries = Ok done
  taken_pairs done (entry k v es) = taken_text k >>= λ key. taken_tree v >>= λ t. taken_pairs (put key t done) es

  -- the pairs of a document
  pub taken_document : Value → Reading Pairs
  taken_document (map es) = taken_pairs no_pairs es
  taken_document v = Err not_fitting

  -- code and the pairs of its scope, of the two fields of its struct
  pub taken_fields : FieldValues → Reading (Utf8 × Pairs)
  taken_fields (field_value c code (field_value s scope no_field_values)) = code_and_scope (named_code c s (taken_text code)) (taken_document scope)
  taken_fields fs = Err not_fitting

-- code and the pairs of its scope
abbrev pub taken_scoped : Value → Reading (Utf8 × Pairs)
taken_scoped (structure name fs) = if bytes_eq name scoped_name then taken_fields fs else Err not_fitting
taken_scoped v = Err not_fitting

-- what code with its scope contains
abbrev pub scoped_contents : JavaScriptCodeWithScope → Utf8 × Pairs
scoped_contents c = (string_bytes c.code, pairs_of c.scope)

-- ---- what each tree in memory is

abbrev mutual
  -- no key is twice in a document or in a scope, and the options of each regular expression are in order
  pub IsInMemory : Tree → Type 0
  IsInMemory (tree.document ps) = AreDistinct ps × ArePairsInMemory ps
  IsInMemory (tree.array ts) = AreTreesInMemory ts
  IsInMemory (tree.regular_expression pattern options) = sorted options ≡ options
  IsInMemory (tree.javascript_code_with_scope code scope) = AreDistinct scope × ArePairsInMemory scope
  IsInMemory t = Unit {0}

  pub ArePairsInMemory : Pairs → Type 0
  ArePairsInMemory no_pairs = Unit {0}
  ArePairsInMemory (pair key t ps) = IsInMemory t × ArePairsInMemory ps

  pub AreTreesInMemory : Trees → Type 0
  AreTreesInMemory no_trees = Unit {0}
  AreTreesInMemory (tree.tree t ts) = IsInMemory t × AreTreesInMemory ts

-- a tree that a value in memory may be: its parts are in the ranges of their kinds too
abbrev pub IsTree : Tree → Type 0
IsTree t = IsInRange t × IsInMemory t

-- the same for the pairs of a document, and for code with its scope
abbrev pub IsTreeDocument : Pairs → Type 0
IsTreeDocument ps = IsTree (tree.document ps)

abbrev pub IsTreeScoped : Utf8 × Pairs → Type 0
IsTreeScoped p = IsTree (scoped_tree p)
