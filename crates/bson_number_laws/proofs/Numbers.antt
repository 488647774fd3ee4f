-- Values that are made into trees with no refusal for a number.
use Rattle.std.proofs.lemmas.Int.{ints}
use Rattle.std.proofs.Common.{◌≡◌, ℕ, ℤ, pos, zero, suc, ◌<◌, ◌^◌, Bool, true, false, cond, Option, Some, None, Result, Ok, Err, arith}
use Rattle.std.specs.Str.{bytes_eq}
use Rattle.bson_kinds.specs.Text.{Bytes, Utf8}
use Rattle.bson_kinds.specs.Outcome.{◌>>=◌, result_map}
use Rattle.bson_kinds.specs.declared.element_type.ElementType.{ElementType}
use Rattle.bson_kinds.specs.declared.element_type.ElementType.TheVariants.{Int32}
use Rattle.bson_kinds.proofs.Apart.{true_no}
use Rattle.bson_base.specs.Folded.{fold}
use Rattle.bson_base.specs.Pairs.{put}
use Rattle.bson_base.specs.Tree as tree
use Rattle.bson_base.specs.Tree.{Tree, int64, Pairs, no_pairs, pair, Trees}
use Rattle.bson_faults.specs.declared.raw.Error.{Error}
use Rattle.bson_rawdoc.specs.DocumentTree.{document_pairs, array_trees}
use Rattle.bson_values.specs.Refusal.{Segment, unsigned_exceeds, here, inside, under, under_index, at_key, at_index}
use Rattle.bson_values.specs.Value as value
use Rattle.bson_values.specs.Value.{IntegerType, u8, i32, written_as, uuid_newtype, readable_inside, Value, Items, no_items, item, Entries, no_entries, entry, FieldValues, no_field_values, field_value}
use Rattle.bson_laws.specs.Spell.{Writing, enclosed_at, spell_number, HoldsNumbers}
use Rattle.bson_laws.specs.UuidBytes.{uuid_bytes}
use Rattle.bson_laws.proofs.Writable.{IsSmall}
use Rattle.bson_tree_laws.specs.TreeSpell.{tree_uuid, tree_key, tree_read, tree_variant, is_levelless, tree_struct, tree_spell, tree_items, tree_entries, tree_fields}

-- ---- steps

pub bound : {A B : Type 0} (r : Writing A) (f : A → Writing B) → HoldsNumbers r → ((x : A) → HoldsNumbers (f x)) → HoldsNumbers (r >>= f)
bound (Ok x) f w h = h x
bound (Err e) f w h = w

mapped : {A B : Type 0} (f : A → B) (r : Writing A) → HoldsNumbers r → HoldsNumbers (result_map f r)
mapped f (Ok x) w = tt
mapped f (Err e) w = w

placed : {A : Type 0} (segment : Segment) (r : Writing A) → HoldsNumbers r → HoldsNumbers (inside segment r)
placed segment (Ok x) w = tt
placed segment (Err e) w = w

enclosed : {A : Type 0} (container : A → Tree) (parts : ℕ → Writing A) → ((levels : ℕ) → HoldsNumbers (parts levels)) → (levels : ℕ) → HoldsNumbers (enclosed_at container levels parts)
enclosed container parts w zero = λ e. e
enclosed container parts w (suc levels) = mapped container (parts levels) (w levels)

in_variant : (name : Utf8) (content : ℕ → Writing Tree) → ((levels : ℕ) → HoldsNumbers (content levels)) → (levels : ℕ) → HoldsNumbers (tree_variant name levels content)
in_variant name content w =
    enclosed tree.document (λ inner. under name (content inner) >>= λ t. Ok (pair name t no_pairs))
    (λ levels. bound (under name (content levels)) _ (placed (at_key name) (content levels) (w levels)) (λ t. tt))

in_struct : (levelless : Bool) (parts : ℕ → Writing Pairs) → ((levels : ℕ) → HoldsNumbers (parts levels)) → (levels : ℕ) → HoldsNumbers (tree_struct levelless levels parts)
in_struct true parts w levels = mapped fold (parts levels) (w levels)
in_struct false parts w levels = enclosed fold parts w levels

numbered : (k : ElementType) (n : ℤ) → IsSmall n → HoldsNumbers (spell_number k n)
numbered Int32 n e = tt
numbered k n e = either _ n e where
  either : (b : Bool) (n : ℤ) → b ≡ false → HoldsNumbers (cond b (Err (here (unsigned_exceeds n))) (Ok (int64 n)))
  either true n e = absurd (true_no e)
  either false n e = tt

uuid_or : (b : Bool) (o : Option Bytes) (r : Writing Tree) → HoldsNumbers r → HoldsNumbers (cond b (tree_uuid o) r)
uuid_or true None r w = λ e. e
uuid_or true (Some bs) r w = tt
uuid_or false o r w = w

read_in_bytes : (levels : ℕ) (r : Result Tree Error) → HoldsNumbers (tree_read levels r)
read_in_bytes zero r = λ e. e
read_in_bytes (suc levels) (Ok t) = tt
read_in_bytes (suc levels) (Err e) = λ q. q

keyed : (t : Tree) → HoldsNumbers (tree_key t)
keyed (tree.string x) = tt
keyed t = λ e. e

-- ---- values

-- it is made into a tree, in either form and whatever levels are left, or refused for something else than a number
pub record Holds (v : Value) : Type 0 where
  pub made : (readable in_reserved : Bool) (levels : ℕ) → HoldsNumbers (tree_spell readable in_reserved v levels)

pub record ItemsHold (vs : Items) : Type 0 where
  pub made : (readable : Bool) (index levels : ℕ) → HoldsNumbers (tree_items readable index vs levels)

pub record FieldsHold (fs : FieldValues) : Type 0 where
  pub made : (readable in_reserved : Bool) (ps : Pairs) (levels : ℕ) → HoldsNumbers (tree_fields readable in_reserved fs ps levels)

-- the keys too
abbrev pub EntriesHold : Entries → Type 0
EntriesHold no_entries = Unit {0}
EntriesHold (entry k v es) = Holds k × Holds v × EntriesHold es

-- ---- scalars

pub boolean_holds : (b : Bool) → Holds (value.boolean b)
boolean_holds b = record { made = λ readable r levels. tt }

pub double_holds : (bits : Bytes) → Holds (value.double bits)
double_holds bits = record { made = λ readable r levels. tt }

pub character_holds : (c : ℕ) → Holds (value.character c)
character_holds c = record { made = λ readable r levels. tt }

pub text_holds : (t : Utf8) → Holds (value.str t)
text_holds t = record { made = λ readable r levels. tt }

pub bytes_hold : (b : Bytes) → Holds (value.bytes b)
bytes_hold b = record { made = λ readable r levels. tt }

pub none_holds : Holds value.none
none_holds = record { made = λ readable r levels. tt }

pub unit_holds : Holds value.unit
unit_holds = record { made = λ readable r levels. tt }

pub unit_structure_holds : (name : Utf8) → Holds (value.unit_structure name)
unit_structure_holds name = record { made = λ readable r levels. tt }

pub unit_variant_holds : (name : Utf8) → Holds (value.unit_variant name)
unit_variant_holds name = record { made = λ readable r levels. tt }

-- a number that an Int64 holds, and every number of a type that is written as an Int32
pub small_holds : (type : IntegerType) (n : ℤ) → IsSmall n → Holds (value.integer type n)
small_holds type n e = record { made = λ readable r levels. numbered (written_as type) n e }

pub byte_holds : (n : ℤ) → Holds (value.integer u8 n)
byte_holds n = record { made = λ readable r levels. tt }

pub short_holds : (n : ℤ) → Holds (value.integer i32 n)
short_holds n = record { made = λ readable r levels. tt }

-- 32 bits without a sign
pub word_small : (n : ℕ) → n < 2 ^ 32 → IsSmall (pos n)
word_small n h = grind (arith, ints, h)

pub raw_document_holds : (b : Bytes) → Holds (value.raw_document b)
raw_document_holds b = record { made = λ readable r levels. read_in_bytes levels (result_map tree.document (document_pairs b)) }

pub raw_array_holds : (b : Bytes) → Holds (value.raw_array b)
raw_array_holds b = record { made = λ readable r levels. read_in_bytes levels (result_map tree.array (array_trees b)) }

-- ---- values of others

pub some_holds : (v : Value) → Holds v → Holds (value.some v)
some_holds v h = record { made = λ readable r levels. h.made readable false levels }

pub newtype_holds : (name : Utf8) (v : Value) → Holds v → Holds (value.newtype name v)
newtype_holds name v h =
    record { made = λ readable r levels. uuid_or (bytes_eq name uuid_newtype) (uuid_bytes readable v) (tree_spell (readable_inside readable name) false v levels) (h.made (readable_inside readable name) false levels) }

pub mode_holds : (v w : Value) → Holds v → Holds w → Holds (value.mode v w)
mode_holds v w h g = record { made = by_form } where
  by_form : (readable in_reserved : Bool) (levels : ℕ) → HoldsNumbers (tree_spell readable in_reserved (value.mode v w) levels)
  by_form true r levels = h.made true false levels
  by_form false r levels = g.made false false levels

pub newtype_variant_holds : (name : Utf8) (v : Value) → Holds v → Holds (value.newtype_variant name v)
newtype_variant_holds name v h = record { made = λ readable r levels. in_variant name (tree_spell readable false v) (λ n. h.made readable false n) levels }

-- ---- sequences and tuples

pub no_items_hold : ItemsHold no_items
no_items_hold = record { made = λ readable i levels. tt }

pub item_holds : (v : Value) (vs : Items) → Holds v → ItemsHold vs → ItemsHold (item v vs)
item_holds v vs h g =
    record {
      made = λ readable i levels.
          bound (under_index i (tree_spell readable false v levels)) _ (placed (at_index i) (tree_spell readable false v levels) (h.made readable false levels))
          (λ t. bound (tree_items readable (suc i) vs levels) _ (g.made readable (suc i) levels) (λ ts. tt));
    }

pub sequence_holds : (vs : Items) → ItemsHold vs → Holds (value.sequence vs)
sequence_holds vs h = record { made = λ readable r levels. enclosed tree.array (tree_items readable 0 vs) (h.made readable 0) levels }

pub tuple_holds : (vs : Items) → ItemsHold vs → Holds (value.tuple vs)
tuple_holds vs h = record { made = λ readable r levels. enclosed tree.array (tree_items readable 0 vs) (h.made readable 0) levels }

pub tuple_structure_holds : (name : Utf8) (vs : Items) → ItemsHold vs → Holds (value.tuple_structure name vs)
tuple_structure_holds name vs h = record { made = λ readable r levels. enclosed tree.array (tree_items readable 0 vs) (h.made readable 0) levels }

pub tuple_variant_holds : (name : Utf8) (vs : Items) → ItemsHold vs → Holds (value.tuple_variant name vs)
tuple_variant_holds name vs h =
    record { made = λ readable r levels. in_variant name (λ n. enclosed_at tree.array n (tree_items readable 0 vs)) (enclosed tree.array (tree_items readable 0 vs) (h.made readable 0)) levels }

-- ---- maps

entries_made : (es : Entries) → EntriesHold es → (readable : Bool) (ps : Pairs) (levels : ℕ) → HoldsNumbers (tree_entries readable es ps levels)
entries_made no_entries h readable ps levels = tt
entries_made (entry k v es) h readable ps levels =
    bound (tree_spell readable false k levels >>= tree_key) _ (bound (tree_spell readable false k levels) tree_key (h.0.made readable false levels) keyed)
    (λ key. bound (under key (tree_spell readable false v levels)) _ (placed (at_key key) (tree_spell readable false v levels) (h.1.made readable false levels)) (λ t. entries_made es h.2 readable (put key t ps) levels))

pub map_holds : (es : Entries) → EntriesHold es → Holds (value.map es)
map_holds es h = record { made = λ readable r levels. enclosed fold (tree_entries readable es no_pairs) (entries_made es h readable no_pairs) levels }

-- ---- structs

pub no_fields_hold : FieldsHold no_field_values
no_fields_hold = record { made = λ readable r ps levels. tt }

pub field_holds : (name : Utf8) (v : Value) (fs : FieldValues) → Holds v → FieldsHold fs → FieldsHold (field_value name v fs)
field_holds name v fs h g =
    record { made = λ readable r ps levels. bound (under name (tree_spell readable r v levels)) _ (placed (at_key name) (tree_spell readable r v levels) (h.made readable r levels)) (λ t. g.made readable r (put name t ps) levels) }

pub structure_holds : (name : Utf8) (fs : FieldValues) → FieldsHold fs → Holds (value.structure name fs)
structure_holds name fs h =
    record { made = λ readable r levels. in_struct (is_levelless r name) (tree_fields readable (is_levelless r name) fs no_pairs) (h.made readable (is_levelless r name) no_pairs) levels }

pub structure_variant_holds : (name : Utf8) (fs : FieldValues) → FieldsHold fs → Holds (value.structure_variant name fs)
structure_variant_holds name fs h =
    record { made = λ readable r levels. in_variant name (λ n. enclosed_at fold n (tree_fields readable false fs no_pairs)) (enclosed fold (tree_fields readable false fs no_pairs) (h.made readable false no_pairs)) levels }

-- a struct of one field, and of two
pub one_holds : (name key : Utf8) (v : Value) → Holds v → Holds (value.structure name (field_value key v no_field_values))
one_holds name key v h = structure_holds name (field_value key v no_field_values) (field_holds key v no_field_values h no_fields_hold)

pub two_hold : (name key : Utf8) (v : Value) (other : Utf8) (w : Value) → Holds v → Holds w → Holds (value.structure name (field_value key v (field_value other w no_field_values)))
two_hold name key v other w h g =
    let rest = field_value other w no_field_values in
    structure_holds name (field_value key v rest) (field_holds key v rest h (field_holds other w no_field_values g no_fields_hold))
