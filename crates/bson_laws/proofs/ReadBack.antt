-- What a sound tree is at a shape is read from it, and so from its bytes.
use Rattle.std.proofs.Common.{◌≡◌, ℕ, zero, suc, ◌+◌, ◌-◌, ◌^◌, ◌<◌, ◌≤◌, [], ◌∷◌, ◌++◌, length, Bool, true, false, cond, Option, Some, None, Ok, Err, refl, ap, sym, subst, ◌∙◌, arith, pos, ℤ}
use Rattle.std.specs.Prelude.{option_map, option_and_then, ◌||◌, ◌&&◌}
use Rattle.std.specs.Str.{bytes_eq, chars}
use Rattle.bson_base.specs.Pairs.{lookup}
use Rattle.bson_kinds.specs.Text.{Bytes, Utf8}
use Rattle.bson_kinds.specs.Outcome.{◌>>=◌, result_map}
use Rattle.bson_base.specs.Sound.{max_levels, IsClean, ArePairsClean, AreTreesClean, IsSound}
use Rattle.bson_base.specs.Tree.{Tree, double, string, boolean, binary, null, int32, int64, document, array, Pairs, no_pairs, pair, Trees, no_trees, tree, enc, elements, depth, pairs_depth, trees_depth, enclosed}
use Rattle.bson_kinds.specs.declared.element_type.ElementType.TheVariants.{EmbeddedDocument}
use Rattle.bson_base.proofs.Lengths.{length-enclosed}
use Rattle.bson_kinds.proofs.Outcomes.{some_is, some_map, some_then}
use Rattle.bson_rawdoc.specs.Envelope.{envelope}
use Rattle.bson_rawdoc.specs.Node as node
use Rattle.bson_rawdoc.specs.Node.{Sight, Node, from_input, from_memory, piece, Nodes, node_in, tree_node, pair_nodes, tree_nodes}
use Rattle.bson_kinds.specs.Piece.{made}
use Rattle.bson_shape.specs.Form.{UnknownFields, dropped, denied, Form, leaf, optional, lossy, sequence, newtype, unit_structure, map, tuple, tuple_structure, structure, enumeration, definitions, Fields, no_fields, field, Parts, no_parts, part, Content, unit_content, newtype_content, tuple_content, struct_content, Variants, no_variants, variant}
use Rattle.bson_shape.specs.Makers.{has_field, repeats}
use Rattle.bson_laws.specs.Leaves.{LeafKind, anything, booleans, numbers, doubles, characters, texts, byte_strings, byte_buffers, units, extended_values, leaf_kind}
use Rattle.bson_values.specs.Value as value
use Rattle.bson_values.specs.Value.{IntegerType, in_range, Value, Items, no_items, item, no_entries, FieldValues, no_field_values, field_value}
use Rattle.bson_values.specs.Marked.{Marked, MarkedItems, MarkedFields, contents, item_contents, field_contents}
use Rattle.bson_values.specs.Cause.{raw, out_of_range}
use Rattle.bson_values.specs.Refusal.{under, under_index, bare, unreadable}
use Rattle.bson_laws.specs.Variants.{content_of}
use Rattle.bson_laws.specs.Judged.{Reading, refused, judged}
use Rattle.bson_laws.specs.Taken.{read_character, borrow, array_of}
use Rattle.bson_laws.specs.ReadsLeaf.{borrows, no_extended, read_leaf_with}
use Rattle.bson_laws.specs.Containers.{reads_items, reads_entries, reads_key, reads_option}
use Rattle.bson_laws.specs.Slots.{Slots, missing_value, fill, finish, read_structure}
use Rattle.bson_laws.specs.declared.origin.Origin.{Origin}
use Rattle.bson_laws.specs.declared.origin.Origin.TheVariants as origins
use Rattle.bson_laws.specs.FromTree.{tree_unit_of, unit_at, enum_at, tuple_content_at, struct_content_at}
use Rattle.bson_laws.specs.Reads as in_bytes
use Rattle.bson_laws.specs.Reads.{answered, document_at}
use Rattle.bson_laws.specs.ReadsFrom.{read_leaf, slots_of, reads_from, reads_parts, reads_variant, reads_content, tree_at}
use Rattle.bson_laws.specs.SuitsTrees.{SuitsTrees}
use Rattle.bson_laws.specs.Owned.{IsLeafOwned}
use Rattle.bson_laws.specs.Settled.{settled}
use Rattle.bson_laws.specs.Views.{all_known, are_named, absent, views_at, one_character, views_leaf, views_leaf_key, views_key, views_items, views_entries, views, views_fields, views_parts, views_variant, views_content}
use Rattle.bson_laws.proofs.TreesRead.{extended_again}
use Rattle.bson_laws.proofs.Fitted.{Unnamed, unlike_swap}
use Rattle.bson_laws.proofs.PlainForms.{IsPlain}
use Rattle.bson_laws.proofs.ShapeForms.{IsShape, AreShapes, AreParts, AreVariants, IsContent}
use Rattle.bson_laws.proofs.Numbers.{length_again}
use Rattle.bson_laws.proofs.Closed.{closed_again}
use Rattle.bson_laws.proofs.Coded.{IsCoded, clean_coded}
use Rattle.bson_laws.proofs.Framed.{IsFramed, framed}
use Rattle.bson_laws.proofs.Codec.{seen_again}
use Rattle.bson_laws.proofs.Filled.{Distinct, ArePassed, seen_of, seen_at, seen_fields, fields_seen}
use Rattle.bson_laws.proofs.Ignored.{ignores_again}
use Rattle.bson_laws.proofs.Judged.{ReadAs, by_null, judged_again, document_again, array_again}
use Rattle.bson_laws.proofs.Borrowed.{LeafBorrowed, LeafSuits, Suits, FieldsSuit, PartsSuit, VariantsSuit, ContentSuits, HasParts, marked_at, borrowed_from_input, borrowed_text}
use Rattle.bson_laws.proofs.Suited.{suits_borrowed, tree_suits}
use Rattle.bson_laws.proofs.Mended.{tree_mended}
use Rattle.bson_laws.proofs.Settled.{settled_same, plain_settled}
use Rattle.bson_laws.proofs.Known.{where_known}
use Rattle.bson_laws.proofs.Items.{ReadsBack, items_again}
use Rattle.bson_laws.proofs.Entries.{KeepsApart, ReadsKeys, new_first, entries_again}
use Rattle.bson_laws.proofs.Unshaped.{any_again}
use Rattle.bson_laws.proofs.Variants.{unit_is}
use Rattle.bson_kinds.proofs.Apart.{no_some, false_no, true_no}

-- ---- the names of a shape's fields

neither : (a b : Bool) → (a || b) ≡ false → (a ≡ false) × (b ≡ false)
neither true b e = absurd (true_no e)
neither false b e = (refl, e)

unnamed_from : (name : Utf8) (fs : Fields) → has_field name fs ≡ false → Unnamed name fs
unnamed_from name no_fields e = tt
unnamed_from name (field n s fs) e = let b = neither (bytes_eq name n) (has_field name fs) e in (unlike_swap name n b.0, unnamed_from name fs b.1)

pub distinct_from : (fs : Fields) → repeats fs ≡ false → Distinct fs
distinct_from no_fields e = tt
distinct_from (field n s fs) e = let b = neither (has_field n fs) (repeats fs) e in (unnamed_from n fs b.0, distinct_from fs b.1)

-- the key that a field names is that of a field
not_named : (a b : Bool) → (a || b) ≡ true → a ≡ false → (b ≡ true → ⊥) → ⊥
not_named true b h e others = absurd cc
not_named false b h e others = others h

named_not : (key : Utf8) (fs : Fields) → has_field key fs ≡ true → Unnamed key fs → ⊥
named_not key no_fields h u = absurd cc
named_not key (field n s fs) h u = not_named (bytes_eq key n) (has_field key fs) h (unlike_swap n key u.0) (λ others. named_not key fs others u.1)

-- ---- leaves

number_read : (type : IntegerType) (n : ℤ) (b : Bool) (v : Value) → cond b (Some (value.integer type n)) None ≡ Some v → ReadAs contents (cond b (Ok (value.integer type n)) (refused (out_of_range n))) v
number_read type n true v e = (value.integer type n, refl, some_is (value.integer type n) v e)
number_read type n false v e = absurd (no_some e)

-- what may be borrowed is
borrowed_bytes : (b : Bool) (bs : Bytes) (v : Value) → b ≡ true → value.bytes bs ≡ v → ReadAs contents (result_map value.bytes (borrow (piece b bs))) v
borrowed_bytes true bs v borrows_input e = (value.bytes (piece true bs), refl, e)
borrowed_bytes false bs v borrows_input e = absurd cc

leaf_read : (at : Sight) (l : Bool) (k : LeafKind) (t : Tree) (v : Value) (levels : ℕ) → LeafBorrowed at l k → IsClean t → depth t ≤ levels → views_leaf k t ≡ Some v → ReadAs contents (in_bytes.read_leaf l k (tree_node at t levels)) v
leaf_read at l anything t v levels borrows_input c d e = any_again at levels t v c d e
leaf_read at l booleans (boolean b) v levels borrows_input c d e = (value.boolean b, refl, some_is (value.boolean b) v e)
leaf_read at l booleans t v levels borrows_input c d e = absurd cc
leaf_read at l (numbers type) (int32 n) v levels borrows_input c d e = number_read type n (in_range type n) v e
leaf_read at l (numbers type) (int64 n) v levels borrows_input c d e = number_read type n (in_range type n) v e
leaf_read at l doubles (double bits) v levels borrows_input c d e = (value.double bits, refl, some_is (value.double bits) v e)
leaf_read at l characters (string t) v levels borrows_input c d e = let m = some_map value.character (one_character (chars t)) v e in (value.character m.0, ap read_character m.1, m.2)
leaf_read at l texts (string t) v levels borrows_input c d e = borrowed_text at l t v borrows_input (some_is (value.str t) v e)
leaf_read at l byte_strings (binary zero bs) v levels borrows_input c d e = borrowed_bytes at.bytes bs v borrows_input (some_is (value.bytes bs) v e)
leaf_read at l byte_buffers (binary zero bs) v levels borrows_input c d e = (value.bytes (made bs), refl, some_is (value.bytes bs) v e)
leaf_read at l units null v levels borrows_input c d e = (value.unit, refl, some_is value.unit v e)
leaf_read at l (extended_values k) t v levels borrows_input c d e = extended_again at k t v levels c d e
leaf_read at l k t v levels borrows_input c d e = absurd (no_some e)

-- the same of a tree in memory, of which nothing is borrowed
tree_leaf_read : (at : Sight) (l : Bool) (k : LeafKind) (t : Tree) (v : Value) (levels : ℕ) → IsLeafOwned l k → IsClean t → depth t ≤ levels → views_leaf k t ≡ Some v → ReadAs contents (read_leaf origins.Tree l k (tree_node at t levels)) v
tree_leaf_read at true texts t v levels owned c d e = absurd owned
tree_leaf_read at false texts t v levels owned c d e = leaf_read at false texts t v levels tt c d e
tree_leaf_read at l byte_strings t v levels owned c d e = absurd owned
tree_leaf_read at l anything t v levels owned c d e = leaf_read at l anything t v levels tt c d e
tree_leaf_read at l booleans t v levels owned c d e = leaf_read at l booleans t v levels tt c d e
tree_leaf_read at l (numbers type) t v levels owned c d e = leaf_read at l (numbers type) t v levels tt c d e
tree_leaf_read at l doubles t v levels owned c d e = leaf_read at l doubles t v levels tt c d e
tree_leaf_read at l characters t v levels owned c d e = leaf_read at l characters t v levels tt c d e
tree_leaf_read at l byte_buffers t v levels owned c d e = leaf_read at l byte_buffers t v levels tt c d e
tree_leaf_read at l units t v levels owned c d e = leaf_read at l units t v levels tt c d e
tree_leaf_read at l (extended_values k) t v levels owned c d e = leaf_read at l (extended_values k) t v levels tt c d e
tree_leaf_read at l k t v levels owned c d e = absurd (no_some e)

leaf_read_from : (o : Origin) (at : Sight) (l : Bool) (k : LeafKind) (t : Tree) (v : Value) (levels : ℕ) → LeafSuits o at l k → IsClean t → depth t ≤ levels → views_leaf k t ≡ Some v → ReadAs contents (read_leaf o l k (tree_node at t levels)) v
leaf_read_from origins.Bytes at l k t v levels suits c d e = leaf_read at l k t v levels suits c d e
leaf_read_from origins.Tree at l k t v levels suits c d e = tree_leaf_read at l k t v levels suits c d e

-- ---- the keys of maps

leaf_key_again : (at : Sight) (l : Bool) (k : LeafKind) (key : Utf8) (v : Value) → LeafBorrowed at l k → views_leaf_key k key ≡ Some v → (v ≡ value.str key) × ReadAs contents (read_leaf_with no_extended l k (node.string (piece at.texts key))) (value.str key)
leaf_key_again at l texts key v borrows_input e = (sym (some_is (value.str key) v e), borrowed_text at l key (value.str key) borrows_input refl)
leaf_key_again at l k key v borrows_input e = absurd (no_some e)

-- what a text is as a key: the unit variant of that name, where the keys are an enum
abbrev key_of : Form → Utf8 → Value
key_of (enumeration vs) key = value.unit_variant key
key_of s key = value.str key

keys_apart : (s : Form) → KeepsApart (key_of s)
keys_apart (enumeration vs) a b = refl
keys_apart s a b = refl

key_again : (o : Origin) (at : Sight) (s : Form) → Suits o at s → ReadsKeys at (key_of s) (views_key s) (reads_key s)
key_again o at (leaf l) suits key v e = leaf_key_again at (borrows l) (leaf_kind l) key v (suits_borrowed o at (borrows l) (leaf_kind l) suits) e
key_again o at (enumeration vs) suits key v e = let u = unit_is key (content_of vs key) v e in (u.1, (value.unit_variant (made key), u.2, refl))
key_again o at s suits key v e = absurd (no_some e)

-- ---- null, and what is not null

null_viewed : (s : Form) (t : Tree) (v : Value) → t ≡ null → views (optional s) t ≡ Some v → value.none ≡ v
null_viewed s t v is e = some_is value.none v (ap (views (optional s)) (sym is) ∙ e)

option_again : (at : Sight) (s : Form) (t : Tree) (v : Value) (levels : ℕ) (r : Reading Marked) → IsCoded t → ((w : Value) → views s t ≡ Some w → ReadAs contents r w) → views (optional s) t ≡ Some v → ReadAs contents (reads_option (tree_node at t levels) r) v
option_again at s null v levels r c inner e = (value.none, refl, some_is value.none v e)
option_again at s t v levels r c inner e =
    let m = some_map value.some (views s t) v e in
    let h = inner m.0 m.1 in
    by_null (λ q. ReadAs contents q v) at t levels r c (λ is. (value.none, refl, null_viewed s t v is e)) (value.some h.0, ap (result_map value.some) h.1, ap value.some h.2 ∙ m.2)

unit_again : (o : Origin) (at : Sight) (name : Utf8) (t : Tree) (v : Value) (levels : ℕ) → views (unit_structure name) t ≡ Some v → ReadAs contents (reads_from o (unit_structure name) (tree_node at t levels)) v
unit_again o at name null v levels e = (value.unit_structure (made name), refl, some_is (value.unit_structure name) v e)
unit_again o at name t v levels e = absurd (no_some e)

-- ---- documents and arrays

-- the values of an array, read where those in it are
parts_again : (at : Sight) (f : Items → Value) (g : MarkedItems → Marked) (view : Trees → Option Items) (read : Nodes → Reading MarkedItems) (ts : Trees) (v : Value) (levels : ℕ) → ((x : MarkedItems) → contents (g x) ≡ f (item_contents x))
    → ((vs : Items) → AreTreesClean ts → trees_depth ts ≤ levels - 1 → view ts ≡ Some vs → ReadAs item_contents (read (tree_nodes at 0 ts (levels - 1))) vs)
    → IsClean (array ts) → depth (array ts) ≤ levels → option_map f (view ts) ≡ Some v
    → ReadAs contents (judged (tree_node at (array ts) levels) >>= array_of >>= λ ns. result_map g (read ns)) v
parts_again at f g view read ts v levels same all c d e =
    let m = some_map f (view ts) v e in
    let h = all m.0 c (omega arith) m.1 in
    (g h.0, ap (λ r. r >>= λ ns. result_map g (read ns)) (array_again at ts levels c d) ∙ ap (result_map g) h.1, same h.0 ∙ ap f h.2 ∙ m.2)

-- the entries of a document, read where its values are
map_again : (o : Origin) (at : Sight) (key s : Form) (t : Tree) (v : Value) (levels : ℕ) → Suits o at key → ReadsBack at (views s) (reads_from o s) (levels - 1) → IsClean t → depth t ≤ levels → views (map key s) t ≡ Some v → ReadAs contents (reads_from o (map key s) (tree_node at t levels)) v
map_again o at key s (document ps) v levels suits each c d e =
    let below = levels - 1 in
    let m = some_map value.map (views_entries (views_key key) (views s) ps) v e in
    let read = λ (ns : Nodes). reads_entries (reads_key key) (reads_from o s) ns no_entries in
    let h = entries_again at (key_of key) (keys_apart key) (views_key key) (reads_key key) (views s) (reads_from o s) below (key_again o at key suits) each ps no_entries m.0 c (omega arith) (new_first (key_of key) ps) m.1 in
    (value.map h.0, ap (λ r. r >>= λ ns. result_map value.map (read ns)) (document_again at ps levels c d) ∙ ap (result_map value.map) h.1, ap value.map h.2 ∙ m.2)
map_again o at key s t v levels suits each c d e = absurd (no_some e)

-- what a struct reads from a document is read by its keys
keyed : (at : Sight) (u : UnknownFields) (slots : Slots) (ps : Pairs) (levels : ℕ) → depth (document ps) ≤ levels → read_structure u slots (tree_node at (document ps) levels) ≡ (fill u (pair_nodes at ps (levels - 1)) slots >>= finish)
keyed at u slots ps zero d = absurd (omega arith)
keyed at u slots ps (suc n) d = let below : n ≡ suc n - 1 = omega arith in ap (λ m. fill u (pair_nodes at ps m) slots >>= finish) below

-- what the fields are viewed as is what they are seen as
abbrev SeesFields : Origin → (at : Sight) → Fields → ℕ → Type 0
SeesFields o at fs levels = (ps : Pairs) (vs : FieldValues) → ArePairsClean ps → pairs_depth ps ≤ levels → views_fields fs ps ≡ Some vs → (out : MarkedFields) × (seen_fields o at levels fs ps ≡ Some out) × (field_contents out ≡ vs)

both_true : (a b : Bool) → (a && b) ≡ true → (a ≡ true) × (b ≡ true)
both_true true b e = (refl, e)
both_true false b e = absurd (false_no e)

-- a key that no field names is dropped, and where it is denied there is none
all_passed : (at : Sight) (u : UnknownFields) (fs : Fields) (ps : Pairs) (levels : ℕ) → ArePairsClean ps → pairs_depth ps ≤ levels → all_known u fs ps ≡ true → ArePassed at levels u fs ps
all_passed at u fs no_pairs levels c d known = tt
all_passed at dropped fs (pair k t ps) levels c d known =
    (c.1, (λ none. ap (under k) (ignores_again at t levels c.2 (omega arith))), all_passed at dropped fs ps levels c.3 (omega arith) refl)
all_passed at denied fs (pair k t ps) levels c d known =
    let b = both_true (has_field k fs) (are_named fs ps) known in
    (c.1, (λ none. absurd (named_not k fs b.0 none)), all_passed at denied fs ps levels c.3 (omega arith) b.1)

-- a reader of the fields of a struct takes those of a document by their keys
abbrev TakesKeys : (at : Sight) → UnknownFields → (Slots → Node → Reading MarkedFields) → Type 0
TakesKeys at u read = (slots : Slots) (ps : Pairs) (levels : ℕ) → depth (document ps) ≤ levels → read slots (tree_node at (document ps) levels) ≡ (fill u (pair_nodes at ps (levels - 1)) slots >>= finish)

content_keyed : (o : Origin) (at : Sight) → TakesKeys at dropped (struct_content_at o)
content_keyed origins.Bytes at slots ps levels d = keyed at dropped slots ps levels d
content_keyed origins.Tree at slots ps zero d = absurd (omega arith)
content_keyed origins.Tree at slots ps (suc n) d = let below : n ≡ suc n - 1 = omega arith in ap (λ m. fill dropped (pair_nodes at ps m) slots >>= finish) below

-- the fields of a struct, read by their keys where each is
fields_again : (o : Origin) (at : Sight) (u : UnknownFields) (read : Slots → Node → Reading MarkedFields) (f : FieldValues → Value) (g : MarkedFields → Marked) (fs : Fields) (ps : Pairs) (v : Value) (levels : ℕ) → TakesKeys at u read → ((x : MarkedFields) → contents (g x) ≡ f (field_contents x)) → repeats fs ≡ false → SeesFields o at fs (levels - 1)
    → IsClean (document ps) → depth (document ps) ≤ levels → all_known u fs ps ≡ true → option_map f (views_fields fs ps) ≡ Some v
    → ReadAs contents (judged (tree_node at (document ps) levels) >>= λ m. result_map g (read (slots_of o fs) m)) v
fields_again o at u read f g fs ps v levels by_keys same distinct each c d known e =
    let below = levels - 1 in
    let m = some_map f (views_fields fs ps) v e in
    let slots = slots_of o fs in
    let h = each ps m.0 c (omega arith) m.1 in (
      g h.0,
      ap (λ r. r >>= λ x. result_map g (read slots x)) (judged_again at (document ps) levels c d)
          ∙ ap (result_map g) (by_keys slots ps levels d ∙ fields_seen at below o u fs (distinct_from fs distinct) ps h.0 (all_passed at u fs ps below c (omega arith) known) h.1),
      same h.0 ∙ ap f h.2 ∙ m.2,
    )

-- what is at a key
at_either : (P : Tree → Type 0) (b : Bool) (t u : Tree) (o : Option Tree) → P t → (o ≡ Some u → P u) → cond b (Some t) o ≡ Some u → P u
at_either P true t u o h g e = subst P (some_is t u e) h
at_either P false t u o h g e = g e

lookup_inside : (key : Utf8) (ps : Pairs) (t : Tree) (levels : ℕ) → ArePairsClean ps → pairs_depth ps ≤ levels → lookup key ps ≡ Some t → IsClean t × (depth t ≤ levels)
lookup_inside key no_pairs t levels c d e = absurd (no_some e)
lookup_inside key (pair k u ps) t levels c d e =
    at_either (λ x. IsClean x × (depth x ≤ levels)) (bytes_eq key k) u t (lookup key ps) (c.2, omega arith) (λ h. lookup_inside key ps t levels c.3 (omega arith) h) e

absent_seen : (s : Form) (v : Value) → absent s ≡ Some v → (m : Marked) × (missing_value s ≡ Some m) × (contents m ≡ v)
absent_seen (optional s) v e = (value.none, refl, some_is value.none v e)
absent_seen s v e = absurd (no_some e)

field_seen : (o : Origin) (at : Sight) (s : Form) (there : Option Tree) (v : Value) (levels : ℕ) → ((t : Tree) → there ≡ Some t → views s t ≡ Some v → ReadAs contents (reads_from o s (tree_node at t levels)) v)
    → views_at (views s) (absent s) there ≡ Some v → (m : Marked) × (seen_at o at levels s there ≡ Some m) × (contents m ≡ v)
field_seen o at s None v levels found e = absent_seen s v e
field_seen o at s (Some t) v levels found e = let h = found t refl e in (h.0, seen_of o at levels s t h.0 h.1, h.2)

-- ---- enums

-- what the variants of an enum are viewed as is read at the key that names one
abbrev ReadsVariants : Origin → (at : Sight) → Variants → ℕ → Type 0
ReadsVariants o at vs levels = (name : Utf8) (t : Tree) (v : Value) → IsClean t → depth t ≤ levels → views_variant vs name t ≡ Some v → ReadAs contents (reads_variant o vs name (tree_node at t levels)) v

tree_unit_is : (name : Utf8) (o : Option Content) → o ≡ Some unit_content → tree_unit_of name o ≡ Ok (value.unit_variant (made name))
tree_unit_is name o e = ap (tree_unit_of name) e

enum_again : (o : Origin) (at : Sight) (vs : Variants) (t : Tree) (v : Value) (levels : ℕ) → ReadsVariants o at vs (levels - 1) → IsClean t → depth t ≤ levels → views (enumeration vs) t ≡ Some v → ReadAs contents (reads_from o (enumeration vs) (tree_node at t levels)) v
enum_again origins.Bytes at vs (string name) v levels each c d e =
    let u = unit_is name (content_of vs name) v e in
    (value.unit_variant (made name), ap (λ r. r >>= enum_at origins.Bytes (unit_at origins.Bytes vs) (reads_variant origins.Bytes vs)) (judged_again at (string name) levels c d) ∙ u.2, sym u.1)
enum_again origins.Tree at vs (string name) v levels each c d e =
    let u = unit_is name (content_of vs name) v e in
    (value.unit_variant (made name), ap (λ r. r >>= enum_at origins.Tree (unit_at origins.Tree vs) (reads_variant origins.Tree vs)) (judged_again at (string name) levels c d) ∙ tree_unit_is name (content_of vs name) u.0, sym u.1)
enum_again o at vs (document (pair name t no_pairs)) v zero each c d e = absurd (omega arith)
enum_again origins.Bytes at vs (document (pair name t no_pairs)) v (suc n) each c d e =
    let below : suc n - 1 ≡ n = omega arith in
    let h = each name t v c.2 (omega arith) e in
    (h.0, ap (λ m. reads_variant origins.Bytes vs name (tree_node at t m)) (sym below) ∙ h.1, h.2)
enum_again origins.Tree at vs (document (pair name t no_pairs)) v (suc n) each c d e =
    let below : suc n - 1 ≡ n = omega arith in
    let h = each name t v c.2 (omega arith) e in
    (h.0, ap (λ m. reads_variant origins.Tree vs name (tree_node at t m)) (sym below) ∙ h.1, h.2)
enum_again o at vs t v levels each c d e = absurd (no_some e)

-- the contents of a tuple variant, which have a part where they are taken from a tree
tuple_content_again : (o : Origin) (at : Sight) (n : Utf8) (ps : Parts) (ts : Trees) (v : Value) (levels : ℕ) → HasParts o ps
    → ((vs : Items) → AreTreesClean ts → trees_depth ts ≤ levels - 1 → views_parts ps ts ≡ Some vs → ReadAs item_contents (reads_parts o ps 0 (tree_nodes at 0 ts (levels - 1))) vs)
    → IsClean (array ts) → depth (array ts) ≤ levels → option_map (value.tuple_variant n) (views_parts ps ts) ≡ Some v
    → ReadAs contents (judged (tree_node at (array ts) levels) >>= array_of >>= λ ns. tuple_content_at o (λ ms. result_map (value.tuple_variant (made n)) (reads_parts o ps 0 ms)) ns) v
tuple_content_again origins.Bytes at n ps ts v levels has all c d e = parts_again at (value.tuple_variant n) (value.tuple_variant (made n)) (views_parts ps) (reads_parts origins.Bytes ps 0) ts v levels (λ x. refl) all c d e
tuple_content_again origins.Tree at n no_parts ts v levels has all c d e = absurd has
tuple_content_again origins.Tree at n (part s ps) no_trees v levels has all c d e = absurd (no_some e)
tuple_content_again origins.Tree at n (part s ps) (tree t ts) v levels has all c d e =
    let read = reads_parts origins.Tree (part s ps) 0 in
    let m = some_map (value.tuple_variant n) (views_parts (part s ps) (tree t ts)) v e in
    let h = all m.0 c (omega arith) m.1 in (
      value.tuple_variant (made n) h.0,
      ap (λ r. r >>= λ ns. tuple_content_at origins.Tree (λ ms. result_map (value.tuple_variant (made n)) (read ms)) ns) (array_again at (tree t ts) levels c d) ∙ ap (result_map (value.tuple_variant (made n))) h.1,
      ap (value.tuple_variant n) h.2 ∙ m.2,
    )

-- a mark: in bytes the texts are mended, and of a tree they are what they are
lossy_again : (o : Origin) (at : Sight) (s : Form) (t : Tree) (v : Value) (levels : ℕ) → IsCoded t → ReadAs contents (reads_from o s (tree_node (marked_at o at) t levels)) v → ReadAs contents (reads_from o (lossy s) (tree_node at t levels)) v
lossy_again origins.Bytes at s t v levels c h = (h.0, ap (reads_from origins.Bytes s) (tree_mended at t levels c) ∙ h.1, h.2)
lossy_again origins.Tree at s t v levels c h = h

chosen_read : (b : Bool) (x y : Option Value) (r q : Reading Marked) (v : Value) → cond b x y ≡ Some v → (x ≡ Some v → ReadAs contents r v) → (y ≡ Some v → ReadAs contents q v) → ReadAs contents (cond b r q) v
chosen_read true x y r q v e first others = first e
chosen_read false x y r q v e first others = others e

under_read : (key : Utf8) (r : Reading Marked) (v : Value) → ReadAs contents r v → ReadAs contents (under key r) v
under_read key r v h = (h.0, ap (under key) h.1, h.2)

-- ---- all forms

mutual
  pub reads_back : (o : Origin) (at : Sight) (s : Form) (t : Tree) (v : Value) (levels : ℕ) → IsShape s → Suits o at s → IsClean t → depth t ≤ levels → views s t ≡ Some v → ReadAs contents (reads_from o s (tree_node at t levels)) v
  reads_back o at (leaf w) t v levels p suits c d e = let h = leaf_read_from o at (borrows w) (leaf_kind w) t v levels suits c d e in (h.0, ap (λ r. r >>= read_leaf o (borrows w) (leaf_kind w)) (judged_again at t levels c d) ∙ h.1, h.2)
  reads_back o at (optional s) t v levels p suits c d e = option_again at s t v levels (reads_from o s (tree_node at t levels)) (clean_coded t c) (λ w h. reads_back o at s t w levels p suits c d h) e
  reads_back o at (lossy s) t v levels p suits c d e = lossy_again o at s t v levels (clean_coded t c) (reads_back o (marked_at o at) s t v levels p suits c d e)
  reads_back o at (definitions h s) t v levels p suits c d e = reads_back o at s t v levels p suits c d e
  reads_back o at (newtype name s) t v levels p suits c d e =
      let m = some_map (value.newtype name) (views s t) v e in
      let h = reads_back o at s t m.0 levels p.1 suits c d m.1 in
      (value.newtype (made name) h.0, ap (result_map (value.newtype (made name))) h.1, ap (value.newtype name) h.2 ∙ m.2)
  reads_back o at (unit_structure name) t v levels p suits c d e = unit_again o at name t v levels e
  reads_back o at (sequence s) (array ts) v levels p suits c d e =
      parts_again at value.sequence value.sequence (views_items (views s)) (reads_items (reads_from o s) 0) ts v levels (λ x. refl)
      (λ vs c' d' h. items_again at (views s) (reads_from o s) (levels - 1) (λ u w. reads_back o at s u w (levels - 1) p suits) 0 ts vs c' d' h) c d e
  reads_back o at (map key s) t v levels p suits c d e = map_again o at key s t v levels suits.0 (λ u w. reads_back o at s u w (levels - 1) p.2 suits.1) c d e
  reads_back o at (structure u name fs) (document qs) v levels p suits c d e =
      let k = where_known (all_known u fs qs) (option_map (value.structure name) (views_fields fs qs)) v e in
      fields_again o at u (read_structure u) (value.structure name) (value.structure (made name)) fs qs v levels (keyed at u) (λ x. refl) p.0.distinct (λ ps vs c' d' h. sees_fields_again o at fs ps vs (levels - 1) p.1 suits c' d' h) c d k.0 k.1
  reads_back o at (tuple ps) (array ts) v levels p suits c d e =
      parts_again at value.tuple value.tuple (views_parts ps) (reads_parts o ps 0) ts v levels (λ x. refl) (λ vs c' d' h. reads_parts_again o at ps 0 ts vs (levels - 1) p suits c' d' h) c d e
  reads_back o at (tuple_structure name ps) (array ts) v levels p suits c d e =
      parts_again at (value.tuple_structure name) (value.tuple_structure (made name)) (views_parts ps) (reads_parts o ps 0) ts v levels (λ x. refl) (λ vs c' d' h. reads_parts_again o at ps 0 ts vs (levels - 1) p.1 suits c' d' h) c d e
  reads_back o at (enumeration vs) t v levels p suits c d e = enum_again o at vs t v levels (λ name u w. reads_variant_again o at vs name u w (levels - 1) p.1 suits) c d e
  reads_back o at s t v levels p suits c d e = absurd (no_some e)

  sees_fields_again : (o : Origin) (at : Sight) (fs : Fields) (ps : Pairs) (vs : FieldValues) (levels : ℕ) → AreShapes fs → FieldsSuit o at fs → ArePairsClean ps → pairs_depth ps ≤ levels → views_fields fs ps ≡ Some vs → (out : MarkedFields) × (seen_fields o at levels fs ps ≡ Some out) × (field_contents out ≡ vs)
  sees_fields_again o at no_fields ps vs levels p suits c d e = (no_field_values, refl, some_is no_field_values vs e)
  sees_fields_again o at (field n s fs) ps vs levels p suits c d e =
      let a = some_then (λ v. option_map (field_value n v) (views_fields fs ps)) (views_at (views s) (absent s) (lookup n ps)) vs e in
      let b = some_map (field_value n a.0) (views_fields fs ps) vs a.2 in
      let first = field_seen o at s (lookup n ps) a.0 levels (λ t h w. let within = lookup_inside n ps t levels c d h in reads_back o at s t a.0 levels p.1 suits.0 within.0 within.1 w) a.1 in
      let rest = sees_fields_again o at fs ps b.0 levels p.2 suits.1 c d b.1 in (
        field_value (made n) first.0 rest.0,
        ap (option_and_then (λ v. option_map (field_value (made n) v) (seen_fields o at levels fs ps))) first.1 ∙ ap (option_map (field_value (made n) first.0)) rest.1,
        (λ i. field_value n (first.2 i) (rest.2 i)) ∙ b.2,
      )

  reads_parts_again : (o : Origin) (at : Sight) (ps : Parts) (i : ℕ) (ts : Trees) (vs : Items) (levels : ℕ) → AreParts ps → PartsSuit o at ps → AreTreesClean ts → trees_depth ts ≤ levels → views_parts ps ts ≡ Some vs → ReadAs item_contents (reads_parts o ps i (tree_nodes at i ts levels)) vs
  reads_parts_again o at no_parts i no_trees vs levels p suits c d e = (no_items, refl, some_is no_items vs e)
  reads_parts_again o at (part s ps) i (tree t ts) vs levels p suits c d e =
      let a = some_then (λ v. option_map (item v) (views_parts ps ts)) (views s t) vs e in
      let b = some_map (item a.0) (views_parts ps ts) vs a.2 in
      let first = reads_back o at s t a.0 levels p.0 suits.0 c.0 (omega arith) a.1 in
      let rest = reads_parts_again o at ps (suc i) ts b.0 levels p.1 suits.1 c.1 (omega arith) b.1 in (
        item first.0 rest.0,
        ap (λ r. under_index i r >>= λ v. result_map (item v) (reads_parts o ps (suc i) (tree_nodes at (suc i) ts levels))) first.1 ∙ ap (result_map (item first.0)) rest.1,
        (λ j. item (first.2 j) (rest.2 j)) ∙ b.2,
      )
  reads_parts_again o at ps i ts vs levels p suits c d e = absurd (no_some e)

  reads_variant_again : (o : Origin) (at : Sight) (vs : Variants) (name : Utf8) (t : Tree) (v : Value) (levels : ℕ) → AreVariants vs → VariantsSuit o at vs → IsClean t → depth t ≤ levels → views_variant vs name t ≡ Some v → ReadAs contents (reads_variant o vs name (tree_node at t levels)) v
  reads_variant_again o at no_variants name t v levels p suits c d e = absurd (no_some e)
  reads_variant_again o at (variant n x vs) name t v levels p suits c d e =
      chosen_read (bytes_eq n name) (views_content n x t) (views_variant vs name t) (reads_content o n x (tree_node at t levels)) (reads_variant o vs name (tree_node at t levels)) v e
      (λ h. reads_content_again o at x n t v levels p.1 suits.0 c d h) (λ h. reads_variant_again o at vs name t v levels p.2 suits.1 c d h)

  reads_content_again : (o : Origin) (at : Sight) (x : Content) (n : Utf8) (t : Tree) (v : Value) (levels : ℕ) → IsContent x → ContentSuits o at x → IsClean t → depth t ≤ levels → views_content n x t ≡ Some v → ReadAs contents (reads_content o n x (tree_node at t levels)) v
  reads_content_again o at (newtype_content s) n t v levels p suits c d e =
      let m = some_map (value.newtype_variant n) (views s t) v e in
      let h = reads_back o at s t m.0 levels p suits c d m.1 in
      (value.newtype_variant (made n) h.0, ap (λ r. under n (result_map (value.newtype_variant (made n)) r)) h.1, ap (value.newtype_variant n) h.2 ∙ m.2)
  reads_content_again o at (tuple_content ps) n (array ts) v levels p suits c d e =
      under_read n _ v (tuple_content_again o at n ps ts v levels suits.0 (λ vs c' d' h. reads_parts_again o at ps 0 ts vs (levels - 1) p suits.1 c' d' h) c d e)
  reads_content_again o at (struct_content fs) n (document qs) v levels p suits c d e =
      under_read n _ v (fields_again o at dropped (struct_content_at o) (value.structure_variant n) (value.structure_variant (made n)) fs qs v levels (content_keyed o at) (λ x. refl) p.0 (λ ps vs c' d' h. sees_fields_again o at fs ps vs (levels - 1) p.1 suits c' d' h) c d refl e)
  reads_content_again o at x n t v levels p suits c d e = absurd (no_some e)

-- what a clean tree is at a shape is read from it in bytes
pub reads_again : (at : Sight) (s : Form) (t : Tree) (v : Value) (levels : ℕ) → IsShape s → Suits origins.Bytes at s → IsClean t → depth t ≤ levels → views s t ≡ Some v → ReadAs contents (in_bytes.reads s (tree_node at t levels)) v
reads_again at s t v levels p borrows_input c d e = reads_back origins.Bytes at s t v levels p borrows_input c d e

pub enclosed_framed : (b : Bytes) → length (enclosed b) < 2 ^ 31 → IsFramed (enclosed b)
enclosed_framed b l =
    framed (enclosed b)
    (record { least = omega (arith, length-enclosed b); told = length_again (length b + 5) (b ++ 0 ∷ []) (omega (arith, l, length-enclosed b)) ∙ ap pos (sym (length-enclosed b)) })
    (closed_again (length b + 5) b)

pub envelope_again : (ps : Pairs) → length (enc (document ps)) < 2 ^ 31 → envelope (enc (document ps)) ≡ Ok (enc (document ps))
envelope_again ps l = enclosed_framed (elements ps) l

-- what a sound tree is at a shape is read from its bytes
pub views_reads : (s : Form) (t : Tree) (v : Value) → IsShape s → IsPlain s → IsSound t → views s t ≡ Some v → document_at s (enc t) ≡ Ok v
views_reads s (document ps) v p plain h e =
    let small : length (enc (document ps)) < 2 ^ 31 = let f = h.fits in omega arith in
    let r = reads_again from_input s (document ps) v max_levels p (borrowed_from_input s plain) h.clean h.nests e in
    ap (λ r. result_map contents (elim r [ Ok b ↦ answered (in_bytes.reads (settled false s) (node_in max_levels EmbeddedDocument b)) | Err f ↦ Err (bare (unreadable (raw f))) ])) (envelope_again ps small)
    ∙ ap (λ n. result_map contents (answered (in_bytes.reads (settled false s) n))) (seen_again max_levels (document ps) (clean_coded (document ps) h.clean) small)
    ∙ ap (λ x. result_map contents (answered (in_bytes.reads x (tree_node from_input (document ps) max_levels)))) (settled_same false s (plain_settled s plain))
    ∙ ap (λ q. result_map contents (answered q)) r.1
    ∙ ap Ok r.2
views_reads s t v p plain h e = absurd h.document

-- what a clean tree is at a shape is read from it in memory
pub views_reads_tree : (readable : Bool) (s : Form) (t : Tree) (v : Value) → IsShape s → IsPlain s → SuitsTrees s → IsClean t → depth t ≤ max_levels → views s t ≡ Some v → result_map contents (tree_at readable s t) ≡ Ok v
views_reads_tree readable s t v p plain suits c d e =
    let r = reads_back origins.Tree from_memory s t v max_levels p (tree_suits from_memory s suits) c d e in
    ap (λ x. result_map contents (reads_from origins.Tree x (tree_node from_memory t max_levels))) (settled_same readable s (plain_settled s plain)) ∙ ap (result_map contents) r.1 ∙ ap Ok r.2
