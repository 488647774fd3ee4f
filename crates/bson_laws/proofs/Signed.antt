-- What reading gives is never refused for a number that no Int64 holds.
use Rattle.std.proofs.lemmas.Int.{ints}
use Rattle.std.proofs.Common.{◌≡◌, ℕ, ℤ, pos, zero, suc, ◌<◌, ◌^◌, List, [], Bool, true, false, cond, Option, Some, None, Ok, Err, refl, sym, subst, arith}
use Rattle.std.specs.Prelude.{length, nat_lt, codes}
use Rattle.std.specs.Str.{bytes_eq}
use Rattle.bson_kinds.specs.Text.{Bytes, Utf8, has_zero}
use Rattle.bson_kinds.specs.Outcome.{◌>>=◌, result_map}
use Rattle.bson_kinds.specs.Reserved.{reserved_kind}
use Rattle.bson_base.specs.Sound.{max_binary}
use Rattle.bson_base.specs.Tree as tree
use Rattle.bson_base.specs.Tree.{Tree, Trees, no_trees, document, array, no_pairs, pair, binary, regular_expression, int64, Pairs, behind_subtype}
use Rattle.bson_kinds.specs.declared.element_type.ElementType.{ElementType}
use Rattle.bson_kinds.specs.declared.element_type.ElementType.TheVariants.{JavaScriptCodeWithScope, Int32, EmbeddedDocument, Array}
use Rattle.bson_rawdoc.specs.Node.{Sight}
use Rattle.bson_shape.specs.Form.{Form, leaf, optional, lossy, human_readable, by_mode, sequence, newtype, unit_structure, map, tuple, tuple_structure, structure, enumeration, definitions, Fields, no_fields, field, Parts, no_parts, part}
use Rattle.bson_values.specs.Value as value
use Rattle.bson_values.specs.Value.{i32, i64, written_as, greatest, uuid_newtype, readable_inside, Value, Items, no_items, item, Entries, no_entries, entry, FieldValues, no_field_values, field_value}
use Rattle.bson_values.specs.Cause.{binary_too_long}
use Rattle.bson_values.specs.Refusal.{Segment, unwritable, here, inside, under, at_key, at_index, under_index, unsigned_exceeds, invalid_cstring}
use Rattle.bson_laws.specs.Means.{key_text}
use Rattle.bson_laws.specs.Leaves.{LeafKind, anything, ignored, booleans, numbers, doubles, characters, texts, byte_strings, byte_buffers, units, ExtendedLeaf, object_ids, uuids, of_kind, trees, documents, extended_values, raw_documents, raw_arrays, raw_values, leaf_kind}
use Rattle.bson_laws.specs.Datum.{datum, itself, pair_data, tree_data}
use Rattle.bson_laws.specs.Unwrap.{Part, unwrap, scoped_code}
use Rattle.bson_laws.specs.UuidBytes.{uuid_bytes}
use Rattle.bson_laws.specs.Written.{zero_free, with_scope}
use Rattle.bson_laws.specs.Spell.{Writing, spell_binary, spell_whole, spell_unwrapped, spell_scoped, spell_uuid, struct_at, reserved_at, enclosed_at, variant_at, named, written_key, spell_key, spell_number, spell_as, spell_items_as, spell_entries_as, spell_fields_as, spell_list, spell_part, spell, at_top, HoldsNumbers}
use Rattle.bson_laws.proofs.Alike.{AreAlike, Both, SameScope, scopes_alike}
use Rattle.bson_laws.proofs.Given.{IsGivenAny, AreGivenItems, AreGivenEntries, IsGivenLeaf, IsGiven, ItemsGiven, PartsGiven, EntriesGiven, FieldsGiven, given_leaf, given_lossy, given_expected, given_body}
use Rattle.bson_laws.proofs.GivenRaw.{a_document, an_array, a_tree, a_binary, a_code, by_whole, IsGivenRaw}
use Rattle.bson_laws.proofs.GivenTrees.{IsGivenTree, ArePairsGiven, AreTreesGiven, IsGivenExtended}
use Rattle.bson_laws.proofs.Borrowed.{marked}
use Rattle.bson_laws.proofs.Writable.{IsSmall, wide_small, short_small}
use Rattle.bson_kinds.proofs.Apart.{true_no}

-- ---- values whose numbers an Int64 holds

abbrev mutual
  pub AreSigned : Value → Type 0
  AreSigned (value.integer type n) = IsSmall n
  AreSigned (value.some v) = AreSigned v
  AreSigned (value.newtype name v) = AreSigned v
  AreSigned (value.newtype_variant name v) = AreSigned v
  AreSigned (value.mode v w) = AreSigned v × AreSigned w
  AreSigned (value.sequence vs) = ItemsSigned vs
  AreSigned (value.tuple vs) = ItemsSigned vs
  AreSigned (value.tuple_structure name vs) = ItemsSigned vs
  AreSigned (value.tuple_variant name vs) = ItemsSigned vs
  AreSigned (value.map es) = EntriesSigned es
  AreSigned (value.structure name fs) = FieldsSigned fs
  AreSigned (value.structure_variant name fs) = FieldsSigned fs
  AreSigned v = Unit {0}

  pub ItemsSigned : Items → Type 0
  ItemsSigned no_items = Unit {0}
  ItemsSigned (item v vs) = AreSigned v × ItemsSigned vs

  pub EntriesSigned : Entries → Type 0
  EntriesSigned no_entries = Unit {0}
  EntriesSigned (entry k v es) = AreSigned v × EntriesSigned es

  pub FieldsSigned : FieldValues → Type 0
  FieldsSigned no_field_values = Unit {0}
  FieldsSigned (field_value name v fs) = AreSigned v × FieldsSigned fs

-- ---- they are never refused for a number

bound : {A B : Type 0} (r : Writing A) (f : A → Writing B) → HoldsNumbers r → ((x : A) → HoldsNumbers (f x)) → HoldsNumbers (r >>= f)
bound (Ok x) f w h = h x
bound (Err e) f w h = w

mapped : {A B : Type 0} (f : A → B) (r : Writing A) → HoldsNumbers r → HoldsNumbers (result_map f r)
mapped f (Ok x) w = tt
mapped f (Err e) w = w

placed : {A : Type 0} (segment : Segment) (r : Writing A) → HoldsNumbers r → HoldsNumbers (inside segment r)
placed segment (Ok x) w = tt
placed segment (Err e) w = w

named_one : (name : Utf8) (b : Bool) (r : Writing Tree) → HoldsNumbers r → HoldsNumbers (cond b (Err (here (invalid_cstring name))) (under name r))
named_one name true r w = λ e. e
named_one name false r w = placed (at_key name) r w

numbered : (k : ElementType) (n : ℤ) → IsSmall n → HoldsNumbers (spell_number k n)
numbered Int32 n e = tt
numbered k n e = either _ n e where
  either : (b : Bool) (n : ℤ) → b ≡ false → HoldsNumbers (cond b (Err (here (unsigned_exceeds n))) (Ok (int64 n)))
  either true n e = absurd (true_no e)
  either false n e = tt

counted : (b : Bool) (n : ℕ) (t : Tree) → HoldsNumbers (cond b (Err (here (unwritable (binary_too_long n)))) (Ok t))
counted true n t = λ e. e
counted false n t = tt

enclosed : {A : Type 0} (container : A → Tree) (parts : ℕ → Writing A) → ((levels : ℕ) → HoldsNumbers (parts levels)) → (levels : ℕ) → HoldsNumbers (enclosed_at container levels parts)
enclosed container parts w zero = λ e. e
enclosed container parts w (suc levels) = mapped container (parts levels) (w levels)

in_variant : (name : Utf8) (content : ℕ → Writing Tree) → ((levels : ℕ) → HoldsNumbers (content levels)) → (levels : ℕ) → HoldsNumbers (variant_at name levels content)
in_variant name content w =
    enclosed document (λ inner. named name (content inner) >>= λ t. Ok (pair name t no_pairs))
    (λ levels. bound (named name (content levels)) _ (named_one name (has_zero name) (content levels) (w levels)) (λ t. tt))

bytes_counted : (subtype : ℕ) (bs : Bytes) → HoldsNumbers (spell_binary subtype bs)
bytes_counted subtype bs = counted (nat_lt (max_binary subtype) (length bs)) (length (behind_subtype subtype bs)) (binary subtype bs)

uuid_or : (b : Bool) (o : Option Bytes) (r : Writing Tree) → HoldsNumbers r → HoldsNumbers (cond b (spell_uuid o) r)
uuid_or true None r w = λ e. e
uuid_or true (Some bs) r w = bytes_counted 4 bs
uuid_or false o r w = w

zero_or : (b : Bool) (text : Utf8) → HoldsNumbers {A = Utf8} (cond b (Err (here (invalid_cstring text))) (Ok text))
zero_or true text = λ e. e
zero_or false text = tt

whole_or : (t : Tree) → HoldsNumbers (spell_whole t)
whole_or (regular_expression pattern options) =
    bound (zero_free pattern) _ (zero_or (has_zero pattern) pattern) (λ p. bound (zero_free options) _ (zero_or (has_zero options) options) (λ o. tt))
whole_or (binary subtype bs) = bytes_counted subtype bs
whole_or t = tt

unwrapped_or : (o : Option Tree) → HoldsNumbers (spell_unwrapped o)
unwrapped_or None = λ e. e
unwrapped_or (Some t) = whole_or t

-- each value that may be a scope is never refused for a number
abbrev HoldsIn : Value → Writing Tree → Writing Tree → Type 0
HoldsIn v r s = HoldsNumbers r

scoped_or : (o : Option (Utf8 × Writing Tree)) → Both (SameScope HoldsIn) o o → HoldsNumbers (spell_scoped o)
scoped_or None h = λ e. e
scoped_or (Some p) h = mapped (with_scope p.0) (under (codes "$scope") p.1) (placed (at_key (codes "$scope")) p.1 h.1.2)

reserved_or : (k : ElementType) (u : Option Tree) (o : Option (Utf8 × Writing Tree)) → Both (SameScope HoldsIn) o o → HoldsNumbers (reserved_at k u o)
reserved_or JavaScriptCodeWithScope u o h = scoped_or o h
reserved_or k u o h = unwrapped_or u

struct_or : (n : Option ElementType) (fs : FieldValues) (parts : ℕ → Writing Pairs) (o : Option (Utf8 × Writing Tree)) → Both (SameScope HoldsIn) o o → ((levels : ℕ) → HoldsNumbers (parts levels)) → (levels : ℕ)
    → HoldsNumbers (struct_at n levels parts (λ k. reserved_at k (unwrap k fs) o))
struct_or None fs parts o h w levels = enclosed document parts w levels
struct_or (Some k) fs parts o h w levels = reserved_or k (unwrap k fs) o h

free_or : (key : Utf8) (b : Bool) → HoldsNumbers {A = Utf8} (cond b (Err (here (invalid_cstring key))) (Ok key))
free_or key true = λ e. e
free_or key false = tt

keyed : (k : Value) (o : Option Utf8) → HoldsNumbers (written_key k o)
keyed k None = λ e. e
keyed k (Some key) = free_or key (has_zero key)

mutual
  spelled : (r : Bool) (v : Value) → AreSigned v → (levels : ℕ) → HoldsNumbers (spell_as r v levels)
  spelled r (value.bytes bs) g levels = bytes_counted 0 bs
  spelled r (value.some v) g levels = spelled r v g levels
  spelled r (value.newtype name v) g levels =
      uuid_or (bytes_eq name uuid_newtype) (uuid_bytes r v) (spell_as (readable_inside r name) v levels) (spelled (readable_inside r name) v g levels)
  spelled true (value.mode v w) g levels = spelled true v g.0 levels
  spelled false (value.mode v w) g levels = spelled false w g.1 levels
  spelled r (value.integer type n) g levels = numbered (written_as type) n g
  spelled r (value.sequence vs) g levels = enclosed array (spell_items_as r 0 vs) (items_spelled r 0 vs g) levels
  spelled r (value.map es) g levels = enclosed document (spell_entries_as r es) (entries_spelled r es g) levels
  spelled r (value.newtype_variant name v) g levels = in_variant name (spell_as r v) (spelled r v g) levels
  spelled r (value.tuple vs) g levels = enclosed array (spell_items_as r 0 vs) (items_spelled r 0 vs g) levels
  spelled r (value.tuple_structure name vs) g levels = enclosed array (spell_items_as r 0 vs) (items_spelled r 0 vs g) levels
  spelled r (value.tuple_variant name vs) g levels = in_variant name (λ n. enclosed_at array n (spell_items_as r 0 vs)) (enclosed array (spell_items_as r 0 vs) (items_spelled r 0 vs g)) levels
  spelled r (value.structure_variant name fs) g levels = in_variant name (λ n. enclosed_at document n (spell_fields_as r fs)) (enclosed document (spell_fields_as r fs) (fields_spelled r fs g)) levels
  spelled r (value.raw_document b) g levels = enclosed (tree.raw EmbeddedDocument) (λ n. Ok b) (λ n. tt) levels
  spelled r (value.raw_array b) g levels = enclosed (tree.raw Array) (λ n. Ok b) (λ n. tt) levels
  spelled r (value.structure name fs) g levels =
      struct_or (reserved_kind name) fs (spell_fields_as r fs) (scoped_code (spell_list r fs levels []))
      (scopes_alike HoldsIn (spell_list r fs levels []) (spell_list r fs levels []) (list_holds r fs levels g [] tt)) (fields_spelled r fs g) levels
  spelled r v g levels = tt

  items_spelled : (r : Bool) (i : ℕ) (vs : Items) → ItemsSigned vs → (levels : ℕ) → HoldsNumbers (spell_items_as r i vs levels)
  items_spelled r i no_items g levels = tt
  items_spelled r i (item v vs) g levels =
      bound (under_index i (spell_as r v levels)) _ (placed (at_index i) (spell_as r v levels) (spelled r v g.0 levels)) (λ t. bound (spell_items_as r (suc i) vs levels) _ (items_spelled r (suc i) vs g.1 levels) (λ ts. tt))

  entries_spelled : (r : Bool) (es : Entries) → EntriesSigned es → (levels : ℕ) → HoldsNumbers (spell_entries_as r es levels)
  entries_spelled r no_entries g levels = tt
  entries_spelled r (entry k v es) g levels =
      bound (spell_key k) _ (keyed k (key_text k))
      (λ key. bound (under key (spell_as r v levels)) _ (placed (at_key key) (spell_as r v levels) (spelled r v g.0 levels)) (λ t. bound (spell_entries_as r es levels) _ (entries_spelled r es g.1 levels) (λ ps. tt)))

  fields_spelled : (r : Bool) (fs : FieldValues) → FieldsSigned fs → (levels : ℕ) → HoldsNumbers (spell_fields_as r fs levels)
  fields_spelled r no_field_values g levels = tt
  fields_spelled r (field_value name v fs) g levels =
      bound (named name (spell_as r v levels)) _ (named_one name (has_zero name) (spell_as r v levels) (spelled r v g.0 levels)) (λ t. bound (spell_fields_as r fs levels) _ (fields_spelled r fs g.1 levels) (λ ps. tt))

  list_holds : (r : Bool) (fs : FieldValues) (levels : ℕ) → FieldsSigned fs → (xs : List (Part (Writing Tree))) → AreAlike HoldsIn xs xs → AreAlike HoldsIn (spell_list r fs levels xs) (spell_list r fs levels xs)
  list_holds r no_field_values levels g xs h = h
  list_holds r (field_value name v fs) levels g xs h =
      (refl, part_holds r v levels g.0 (spell_as r v levels) (spelled r v g.0 levels) (spell_list r fs levels xs) (list_holds r fs levels g.1 xs h))

  part_holds : (r : Bool) (v : Value) (levels : ℕ) → AreSigned v → (s : Writing Tree) → HoldsNumbers s → (xs : List (Part (Writing Tree))) → AreAlike HoldsIn xs xs → AreAlike HoldsIn (spell_part r v levels s xs) (spell_part r v levels s xs)
  part_holds r (value.structure name fs) levels g s p xs h = list_holds r fs levels g xs h
  part_holds r (value.mode v w) levels g s p xs h = part_holds r w levels g.1 (spell_as r w levels) (spelled r w g.1 levels) xs h
  part_holds r v levels g s p xs h = (refl, p, h)

-- nor is a whole document
pub document_spelled : (k : ElementType) (v : Value) (levels : ℕ) → AreSigned v → HoldsNumbers (at_top k (spell v levels))
document_spelled EmbeddedDocument v levels g = spelled false v g levels
document_spelled k v levels g = λ e. e

-- ---- what reading gives

mutual
  any_signed : (v : Value) → IsGivenAny v → AreSigned v
  any_signed (value.integer i32 n) g = short_small n g
  any_signed (value.integer i64 n) g = wide_small n g
  any_signed (value.boolean b) g = tt
  any_signed (value.double bits) g = tt
  any_signed (value.str t) g = tt
  any_signed (value.bytes bs) g = tt
  any_signed value.unit g = tt
  any_signed (value.sequence vs) g = any_items_signed vs g
  any_signed (value.map es) g = any_entries_signed es g.1
  any_signed v g = absurd g

  any_items_signed : (vs : Items) → AreGivenItems vs → ItemsSigned vs
  any_items_signed no_items g = tt
  any_items_signed (item v vs) g = (any_signed v g.0, any_items_signed vs g.1)

  any_entries_signed : (es : Entries) → AreGivenEntries es → EntriesSigned es
  any_entries_signed no_entries g = tt
  any_entries_signed (entry k v es) g = (any_signed v g.1, any_entries_signed es g.2)

word_small : (n : ℕ) → n < 2 ^ 32 → IsSmall (pos n)
word_small n h = grind (arith, ints, h)

mutual
  tree_signed : (t : Tree) → IsGivenTree t → AreSigned (datum itself t)
  tree_signed (tree.document ps) g = pairs_signed ps g
  tree_signed (tree.array ts) g = trees_signed ts g
  tree_signed (tree.binary (suc n) b) g = ((tt, (tt, tt)), tt)
  tree_signed tree.undefined g = (tt, tt)
  tree_signed (tree.object_id id) g = (tt, tt)
  tree_signed (tree.date_time n) g = ((tt, tt), tt)
  tree_signed (tree.regular_expression p q) g = ((tt, (tt, tt)), tt)
  tree_signed (tree.db_pointer namespace id) g = ((tt, ((tt, tt), tt)), tt)
  tree_signed (tree.javascript_code x) g = (tt, tt)
  tree_signed (tree.symbol x) g = (tt, tt)
  tree_signed (tree.javascript_code_with_scope code scope) g = (tt, (pairs_signed scope g.1, tt))
  tree_signed (tree.int32 n) g = short_small n g
  tree_signed (tree.timestamp time increment) g = ((word_small time g.0, (word_small increment g.1, tt)), tt)
  tree_signed (tree.int64 n) g = wide_small n g
  tree_signed (tree.decimal128 b) g = (tt, tt)
  tree_signed tree.max_key g = (refl, tt)
  tree_signed tree.min_key g = (refl, tt)
  tree_signed (tree.raw k b) g = absurd g
  tree_signed t g = tt

  pairs_signed : (ps : Pairs) → ArePairsGiven ps → EntriesSigned (pair_data itself ps)
  pairs_signed no_pairs g = tt
  pairs_signed (pair key t ps) g = (tree_signed t g.3, pairs_signed ps g.4)

  trees_signed : (ts : Trees) → AreTreesGiven ts → ItemsSigned (tree_data itself ts)
  trees_signed no_trees g = tt
  trees_signed (tree.tree t ts) g = (tree_signed t g.0, trees_signed ts g.1)

extended_signed : (k : ExtendedLeaf) (v : Value) → IsGivenExtended k v → AreSigned v
extended_signed object_ids v g = subst AreSigned (sym g.2) (tree_signed (tree.object_id g.0) g.1)
extended_signed uuids v g = subst AreSigned (sym g.2) (tt, tt)
extended_signed (of_kind k) v g = subst AreSigned (sym g.3) (tree_signed g.0 g.2)
extended_signed trees v g = subst AreSigned (sym g.2) (tree_signed g.0 g.1)
extended_signed documents v g = subst AreSigned (sym g.2) (tree_signed (tree.document g.0) g.1)

raw_signed : (v : Value) → IsGivenRaw v → AreSigned v
raw_signed v (a_document b, f, is) = subst AreSigned (sym is) tt
raw_signed v (an_array b, f, is) = subst AreSigned (sym is) tt
raw_signed v (a_tree t, f, is) = subst AreSigned (sym is) (by_whole (λ u. AreSigned (datum itself u)) (λ u g h. tree_signed u g) (λ p q w. ((tt, (tt, tt)), tt)) t f)
raw_signed v (a_binary n b, f, is) = subst AreSigned (sym is) ((tt, (word_small n (omega (arith, f)), tt)), tt)
raw_signed v (a_code code scope, f, is) = subst AreSigned (sym is) (tt, (tt, tt))

pub leaf_signed : (k : LeafKind) (v : Value) → IsGivenLeaf k v → AreSigned v
leaf_signed anything v g = any_signed v g
leaf_signed ignored value.unit g = tt
leaf_signed booleans (value.boolean b) g = tt
leaf_signed (numbers type) (value.integer t n) g = wide_small n g.2
leaf_signed doubles (value.double bits) g = tt
leaf_signed characters (value.character c) g = tt
leaf_signed texts (value.str t) g = tt
leaf_signed byte_strings (value.bytes bs) g = tt
leaf_signed byte_buffers (value.bytes bs) g = tt
leaf_signed units value.unit g = tt
leaf_signed (extended_values k) v g = extended_signed k v g
leaf_signed raw_documents (value.raw_document b) g = tt
leaf_signed raw_arrays (value.raw_array b) g = tt
leaf_signed raw_values v g = raw_signed v g
leaf_signed k v g = absurd g

mutual
  pub given_signed : (at : Sight) (v : Value) (s : Form) → IsGiven at v s → AreSigned v
  given_signed at v (leaf l) g = leaf_signed (leaf_kind l) v (given_leaf at v l g).0
  given_signed at v (lossy s) g = given_signed (marked at) v s (given_lossy at v s g)
  given_signed at v (by_mode readable compact) g = given_signed at v compact (given_expected at v readable compact g)
  given_signed at v (definitions h s) g = given_signed at v s (given_body at v h s g)
  given_signed at (value.newtype m v) (human_readable s) g = given_signed at v s g.1
  given_signed at value.none (optional s) g = tt
  given_signed at (value.some v) (optional s) g = given_signed at v s g
  given_signed at (value.newtype m v) (newtype n s) g = given_signed at v s g.1
  given_signed at (value.unit_structure m) (unit_structure n) g = tt
  given_signed at (value.sequence vs) (sequence s) g = items_signed at vs s g
  given_signed at (value.map es) (map key s) g = entries_signed at es key s g.1
  given_signed at (value.tuple vs) (tuple ps) g = parts_signed at vs ps g
  given_signed at (value.tuple_structure m vs) (tuple_structure n ps) g = parts_signed at vs ps g.1
  given_signed at (value.structure m vs) (structure u n fs) g = fields_signed at vs fs g.1
  given_signed at (value.unit_variant name) (enumeration vs) g = tt
  given_signed at (value.newtype_variant name v) (enumeration vs) g = given_signed at v g.0 g.2
  given_signed at (value.tuple_variant name ws) (enumeration vs) g = parts_signed at ws g.0 g.2
  given_signed at (value.structure_variant name ws) (enumeration vs) g = fields_signed at ws g.0 g.2
  given_signed at v s g = absurd g

  items_signed : (at : Sight) (vs : Items) (s : Form) → ItemsGiven at vs s → ItemsSigned vs
  items_signed at no_items s g = tt
  items_signed at (item v vs) s g = (given_signed at v s g.0, items_signed at vs s g.1)

  parts_signed : (at : Sight) (vs : Items) (ps : Parts) → PartsGiven at vs ps → ItemsSigned vs
  parts_signed at no_items no_parts g = tt
  parts_signed at (item v vs) (part s ps) g = (given_signed at v s g.0, parts_signed at vs ps g.1)
  parts_signed at vs ps g = absurd g

  entries_signed : (at : Sight) (es : Entries) (key s : Form) → EntriesGiven at es key s → EntriesSigned es
  entries_signed at no_entries key s g = tt
  entries_signed at (entry x v es) key s g = (given_signed at v s g.1, entries_signed at es key s g.2)

  fields_signed : (at : Sight) (vs : FieldValues) (fs : Fields) → FieldsGiven at vs fs → FieldsSigned vs
  fields_signed at no_field_values no_fields g = tt
  fields_signed at (field_value m v vs) (field n s fs) g = (given_signed at v s g.1, fields_signed at vs fs g.2)
  fields_signed at vs fs g = absurd g
