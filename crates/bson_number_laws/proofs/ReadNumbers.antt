-- What is read of a tree in memory at a shape holds no number that no Int64 holds.
use Rattle.std.proofs.Common.{◌≡◌, ℕ, suc, [], ◌∷◌, Bool, true, false, cond, Option, Some, None, Ok, refl, sym, subst}
use Rattle.std.specs.Str.{bytes_eq, chars}
use Rattle.bson_kinds.specs.Outcome.{◌>>=◌, result_map}
use Rattle.bson_kinds.specs.Piece.{Piece, made}
use Rattle.bson_kinds.specs.Text.{Utf8}
use Rattle.bson_kinds.specs.declared.element_type.ElementType.{ElementType}
use Rattle.bson_kinds.specs.declared.element_type.ElementType.TheVariants as kinds
use Rattle.bson_kinds.proofs.Apart.{no_ok}
use Rattle.bson_kinds.proofs.Outcomes.{ok_is, map_ok, bind_ok}
use Rattle.bson_base.specs.Tree.{Tree, kind, enc}
use Rattle.bson_rawdoc.specs.Node as node
use Rattle.bson_rawdoc.specs.Node.{Node, Nodes, ended, faulty, then_node, from_memory}
use Rattle.bson_shape.specs.Form.{UnknownFields, dropped, denied, Form, leaf, optional, lossy, human_readable, by_mode, sequence, newtype, unit_structure, map, tuple, tuple_structure, structure, enumeration, reference, definitions, Fields, no_fields, field, Parts, no_parts, part, Content, unit_content, newtype_content, tuple_content, struct_content, Variants, no_variants, variant}
use Rattle.bson_shape.specs.declared.leaf.Leaf.{Leaf}
use Rattle.bson_values.specs.Cause.{unknown_reference, invalid_type}
use Rattle.bson_values.specs.Marked.{Marked, MarkedItems, MarkedEntries, MarkedFields, contents, item_contents, entry_contents, field_contents}
use Rattle.bson_values.specs.Refusal.{at_index, under, under_index}
use Rattle.bson_values.specs.Same.{same}
use Rattle.bson_values.specs.Value as value
use Rattle.bson_values.specs.Value.{readable_newtype, no_items, item, no_entries, entry, no_field_values, field_value}
use Rattle.bson_laws.specs.declared.origin.Origin.TheVariants as origins
use Rattle.bson_laws.specs.Containers.{reads_items, reads_next, unit_of, reads_key, reads_entries, reads_option}
use Rattle.bson_laws.specs.FromTree.{tree_unit_of, reads_tree_unit, read_only, read_tree_enum, tuple_content_at, struct_content_at}
use Rattle.bson_laws.specs.Judged.{Reading, refused, judged}
use Rattle.bson_laws.specs.Leaves.{LeafKind, anything, ignored, characters, texts, byte_strings, byte_buffers, extended_values, trees, raw_documents, raw_arrays, raw_values, leaf_kind}
use Rattle.bson_laws.specs.ReadsExtended.{read_extended}
use Rattle.bson_laws.specs.ReadsFrom.{reads_from, reads_parts, slots_of, reads_variant, reads_content}
use Rattle.bson_laws.specs.ReadsLeaf.{borrows, put_entry, no_extended, read_leaf_with}
use Rattle.bson_laws.specs.Slots.{Slot, Slots, missing_value, fill_slot, unknown, put_at, fill, value_or, finish, reads_places, read_structure}
use Rattle.bson_laws.specs.Taken.{borrow, borrow_or_own, text_of, null_of, document_of, array_of, read_character}
use Rattle.bson_laws.specs.TreeLeaf.{tree_text, read_tree_leaf}
use Rattle.bson_laws.specs.TreeRaw.{in_bytes, built_container}
use Rattle.bson_laws.specs.Variants.{content_of}
use Rattle.bson_laws.specs.Views.{one_character}
use Rattle.bson_laws.proofs.Given.{given_leaf}
use Rattle.bson_laws.proofs.GivenAt.{reads_given}
use Rattle.bson_laws.proofs.Sizes.{inside_ok, under_ok}
use Rattle.bson_laws.proofs.Tame.{after_judged, judged_refused}
use Rattle.bson_number_laws.proofs.GivenNumbers.{TakesRawValues, leaf_holds}
use Rattle.bson_number_laws.proofs.Numbers.{Holds, ItemsHold, EntriesHold, FieldsHold, character_holds, text_holds, bytes_hold, none_holds, unit_holds, unit_structure_holds, unit_variant_holds, raw_document_holds, raw_array_holds, some_holds, newtype_holds, newtype_variant_holds, no_items_hold, item_holds, sequence_holds, tuple_holds, tuple_structure_holds, tuple_variant_holds, map_holds, no_fields_hold, field_holds, structure_holds, structure_variant_holds}
use Rattle.bson_number_laws.proofs.RawNumbers.{raw_value_holds}
use Rattle.bson_number_laws.proofs.TameTrees.{IsSeen, AreSeen}

-- ---- nodes inside others

document_seen : (n : Node) (ns : Nodes) → IsSeen n → document_of n ≡ Ok ns → AreSeen ns
document_seen (node.document w ms) ns s e = subst AreSeen (ok_is ms ns e) (s.0.1, s.1.1)
document_seen (node.extended x ms) ns s e = subst AreSeen (ok_is ms ns e) (s.0.1, s.1)
document_seen n ns s e = absurd (no_ok e)

array_seen : (n : Node) (ns : Nodes) → IsSeen n → array_of n ≡ Ok ns → AreSeen ns
array_seen (node.array w ms) ns s e = subst AreSeen (ok_is ms ns e) (s.0.1, s.1.1)
array_seen n ns s e = absurd (no_ok e)

-- ---- leaves

-- what is read holds no number that no Int64 holds
abbrev ReadHolds : Marked → Type 0
ReadHolds v = Holds (contents v)

text_read : (b : Bool) (n : Node) (v : Marked) → tree_text b n ≡ Ok v → ReadHolds v
text_read true n v e = absurd (no_ok e)
text_read false n v e = let r = map_ok value.str (text_of false n) v e in subst ReadHolds r.2 (text_holds _)

bytes_read : (k : ElementType) (make : Piece → Marked) (n : Node) (v : Marked) → ((p : Piece) → ReadHolds (make p)) → (built_container n >>= in_bytes k make) ≡ Ok v → ReadHolds v
bytes_read k make n v each e = let b = bind_ok (built_container n) (in_bytes k make) v e in by_case b.0 _ b.2 where
  by_case : (t : Tree) (b : Bool) → cond b (Ok (make (made (enc t)))) (refused (invalid_type (kind t))) ≡ Ok v → ReadHolds v
  by_case t true q = subst ReadHolds (ok_is (make (made (enc t))) v q) (each (made (enc t)))
  by_case t false q = absurd (no_ok q)

-- what is read at a leaf as it is in bytes
as_in_bytes : (l : Leaf) (n : Node) (v : Marked) → IsSeen n → (TakesRawValues (leaf_kind l) → ⊥) → (judged n >>= read_leaf_with read_extended (borrows l) (leaf_kind l)) ≡ Ok v → ReadHolds v
as_in_bytes l n v s free e = leaf_holds (leaf_kind l) (contents v) free (given_leaf from_memory (contents v) l (reads_given from_memory (leaf l) n v s.0 e)).0

-- the leaf is of this kind
at_kind : (l : Leaf) (k : LeafKind) → leaf_kind l ≡ k → (n : Node) (v : Marked) → IsSeen n → (judged n >>= read_tree_leaf (borrows l) k) ≡ Ok v → ReadHolds v
at_kind l texts is n v s e = text_read (borrows l) n v (after_judged n (tree_text (borrows l)) v e)
at_kind l byte_strings is n v s e = absurd (no_ok (after_judged n (read_tree_leaf (borrows l) byte_strings) v e))
at_kind l raw_documents is n v s e = bytes_read kinds.EmbeddedDocument value.raw_document n v (λ p. raw_document_holds _) (after_judged n (read_tree_leaf (borrows l) raw_documents) v e)
at_kind l raw_arrays is n v s e = bytes_read kinds.Array value.raw_array n v (λ p. raw_array_holds _) (after_judged n (read_tree_leaf (borrows l) raw_arrays) v e)
at_kind l raw_values is n v s e = raw_value_holds n v s (after_judged n (read_tree_leaf (borrows l) raw_values) v e)
at_kind l k is n v s e = as_in_bytes l n v s (λ r. subst TakesRawValues is r) (subst (λ j. (judged n >>= read_leaf_with read_extended (borrows l) j) ≡ Ok v) (sym is) e)

-- ---- keys

leaf_key_holds : (l : Bool) (k : LeafKind) (key : Piece) (v : Marked) → read_leaf_with no_extended l k (node.string key) ≡ Ok v → ReadHolds v
leaf_key_holds l anything key v e = subst ReadHolds (ok_is (value.str key) v e) (text_holds _)
leaf_key_holds l raw_values key v e = subst ReadHolds (ok_is (value.str key) v e) (text_holds _)
leaf_key_holds l ignored key v e = subst ReadHolds (ok_is value.unit v e) unit_holds
leaf_key_holds l characters key v e = by_case (one_character (chars key.bytes)) e where
  by_case : (o : Option ℕ) → read_character o ≡ Ok v → ReadHolds v
  by_case (Some c) q = subst ReadHolds (ok_is (value.character c) v q) (character_holds c)
  by_case None q = absurd (no_ok q)
leaf_key_holds l texts key v e = let r = map_ok value.str (borrow_or_own l key) v e in subst ReadHolds r.2 (text_holds _)
leaf_key_holds l byte_strings key v e = let r = map_ok value.bytes (borrow key) v e in subst ReadHolds r.2 (bytes_hold _)
leaf_key_holds l byte_buffers key v e = subst ReadHolds (ok_is (value.bytes (made key.bytes)) v e) (bytes_hold _)
leaf_key_holds l k key v e = absurd (no_ok e)

unit_key_holds : (name : Utf8) (o : Option Content) (v : Marked) → unit_of name o ≡ Ok v → ReadHolds v
unit_key_holds name None v e = absurd (no_ok e)
unit_key_holds name (Some unit_content) v e = subst ReadHolds (ok_is (value.unit_variant (made name)) v e) (unit_variant_holds _)
unit_key_holds name (Some c) v e = absurd (no_ok e)

key_holds : (s : Form) (key : Piece) (v : Marked) → reads_key s key ≡ Ok v → ReadHolds v
key_holds (leaf l) key v e = leaf_key_holds (borrows l) (leaf_kind l) key v e
key_holds (enumeration vs) key v e = unit_key_holds key.bytes (content_of vs key.bytes) v e
key_holds s key v e = absurd (no_ok e)

-- ---- lists

-- what is read so holds none
abbrev EachHolds : (Node → Reading Marked) → Type 0
EachHolds read = (n : Node) (v : Marked) → IsSeen n → read n ≡ Ok v → ReadHolds v

items_hold : (read : Node → Reading Marked) → EachHolds read → (i : ℕ) (ns : Nodes) (vs : MarkedItems) → AreSeen ns → reads_items read i ns ≡ Ok vs → ItemsHold (item_contents vs)
items_hold read each i ended vs s e = subst (λ x. ItemsHold (item_contents x)) (ok_is no_items vs e) no_items_hold
items_hold read each i (faulty f) vs s e = absurd (no_ok e)
items_hold read each i (then_node key n ns) vs s e =
    let a = bind_ok (under_index i (read n)) (λ v. result_map (item v) (reads_items read (suc i) ns)) vs e in
    let b = map_ok (item a.0) (reads_items read (suc i) ns) vs a.2 in
    subst (λ x. ItemsHold (item_contents x)) b.2
    (item_holds _ _ (each n a.0 (s.0.1, s.1.0) (inside_ok (at_index i) (read n) a.0 a.1)) (items_hold read each (suc i) ns b.0 (s.0.2, s.1.1) b.1))

-- the value that is read for the next element, and what is read from those behind it
next_read : {A : Type 0} (i : ℕ) (read : Node → Reading Marked) (others : Marked → Nodes → Reading A) (ns : Nodes) (x : A) → EachHolds read → AreSeen ns → reads_next i read others ns ≡ Ok x
    → (v : Marked) × (rest : Nodes) × AreSeen rest × ReadHolds v × (others v rest ≡ Ok x)
next_read i read others ended x each s e = absurd (no_ok e)
next_read i read others (faulty f) x each s e = absurd (no_ok e)
next_read i read others (then_node key n ns) x each s e =
    let a = bind_ok (under_index i (read n)) (λ v. others v ns) x e in
    (a.0, ns, (s.0.2, s.1.1), each n a.0 (s.0.1, s.1.0) (inside_ok (at_index i) (read n) a.0 a.1), a.2)

-- what is read from a judged array: its elements, and what is built of them
array_read : {A : Type 0} (build : A → Marked) (parts : Nodes → Reading A) (n : Node) (v : Marked) → IsSeen n → (judged n >>= array_of >>= λ ns. result_map build (parts ns)) ≡ Ok v
    → (ns : Nodes) × (x : A) × AreSeen ns × (parts ns ≡ Ok x) × (build x ≡ v)
array_read build parts n v s e =
    let d = bind_ok (judged n >>= array_of) (λ ns. result_map build (parts ns)) v e in
    let m = map_ok build (parts d.0) v d.2 in
    (d.0, m.0, array_seen n d.0 s (after_judged n array_of d.0 d.1), m.1, m.2)

-- ---- entries

either_hold : (b : Bool) (es ds : MarkedEntries) → EntriesHold (entry_contents es) → EntriesHold (entry_contents ds) → EntriesHold (entry_contents (cond b es ds))
either_hold true es ds h g = h
either_hold false es ds h g = g

put_holds : (k v : Marked) (es : MarkedEntries) → ReadHolds k → ReadHolds v → EntriesHold (entry_contents es) → EntriesHold (entry_contents (put_entry k v es))
put_holds k v no_entries p q h = (p, q, tt)
put_holds k v (entry l old es) p q h = either_hold (same (contents k) (contents l)) (entry l v es) (entry l old (put_entry k v es)) (h.0, q, h.2) (h.0, h.1, put_holds k v es p q h.2)

entries_hold : (key : Form) (read : Node → Reading Marked) → EachHolds read → (ns : Nodes) (es out : MarkedEntries) → AreSeen ns → EntriesHold (entry_contents es) → reads_entries (reads_key key) read ns es ≡ Ok out → EntriesHold (entry_contents out)
entries_hold key read each ended es out s h e = subst (λ x. EntriesHold (entry_contents x)) (ok_is es out e) h
entries_hold key read each (faulty f) es out s h e = absurd (no_ok e)
entries_hold key read each (then_node k n ns) es out s h e =
    let a = bind_ok (reads_key key k) (λ x. under k.bytes (read n) >>= λ v. reads_entries (reads_key key) read ns (put_entry x v es)) out e in
    let b = bind_ok (under k.bytes (read n)) (λ v. reads_entries (reads_key key) read ns (put_entry a.0 v es)) out a.2 in
    let there = put_holds a.0 b.0 es (key_holds key k a.0 a.1) (each n b.0 (s.0.1, s.1.0) (under_ok k.bytes (read n) b.0 b.1)) h in
    entries_hold key read each ns (put_entry a.0 b.0 es) out (s.0.2, s.1.1) there b.2

-- ---- fields

abbrev FieldsRead : MarkedFields → Type 0
FieldsRead vs = FieldsHold (field_contents vs)

abbrev OptionHolds : Option Marked → Type 0
OptionHolds None = Unit {0}
OptionHolds (Some v) = ReadHolds v

record SlotHolds (slot : Slot) : Type 0 where
  pub missing : OptionHolds slot.missing
  pub each : EachHolds slot.read
  pub value : OptionHolds slot.value

abbrev SlotsHold : Slots → Type 0
SlotsHold [] = Unit {0}
SlotsHold (slot ∷ slots) = SlotHolds slot × SlotsHold slots

missing_holds : (s : Form) → OptionHolds (missing_value s)
missing_holds (optional s) = none_holds
missing_holds (by_mode readable (optional s)) = none_holds
missing_holds (by_mode readable compact) = tt
missing_holds s = tt

value_holds : (name : Utf8) (missing o : Option Marked) (v : Marked) → OptionHolds missing → OptionHolds o → value_or name missing o ≡ Ok v → ReadHolds v
value_holds name missing (Some w) v m h e = subst ReadHolds (ok_is w v e) h
value_holds name (Some w) None v m h e = subst ReadHolds (ok_is w v e) m
value_holds name None None v m h e = absurd (no_ok e)

finish_holds : (slots : Slots) (vs : MarkedFields) → SlotsHold slots → finish slots ≡ Ok vs → FieldsRead vs
finish_holds [] vs h e = subst FieldsRead (ok_is no_field_values vs e) no_fields_hold
finish_holds (slot ∷ slots) vs h e =
    let a = bind_ok (value_or slot.name slot.missing slot.value) (λ v. result_map (field_value (made slot.name) v) (finish slots)) vs e in
    let b = map_ok (field_value (made slot.name) a.0) (finish slots) vs a.2 in
    subst FieldsRead b.2 (field_holds _ _ _ (value_holds slot.name slot.missing slot.value a.0 h.0.missing h.0.value a.1) (finish_holds slots b.0 h.1 b.1))

filled_holds : (key : Utf8) (n : Node) (slot out : Slot) (o : Option Marked) → IsSeen n → SlotHolds slot → fill_slot key n slot o ≡ Ok out → SlotHolds out
filled_holds key n slot out None s h e =
    let b = bind_ok (under key (slot.read n)) (λ v. Ok (record slot { value = Some v })) out e in
    subst SlotHolds (ok_is (record slot { value = Some b.0 }) out b.2) (record { missing = h.missing; each = h.each; value = h.each n b.0 s (under_ok key (slot.read n) b.0 b.1) })
filled_holds key n slot out (Some v) s h e = absurd (no_ok e)

put_slots_hold : (u : UnknownFields) (key : Utf8) (n : Node) (slots out : Slots) → IsSeen n → SlotsHold slots → put_at u key n slots ≡ Ok out → SlotsHold out
put_slots_hold u key n [] out s h e = let b = bind_ok (unknown u key n) (λ _. Ok []) out e in subst SlotsHold (ok_is [] out b.2) tt
put_slots_hold u key n (slot ∷ slots) out s h e = by_case (bytes_eq slot.name key) (λ xs q. put_slots_hold u key n slots xs s h.1 q) e where
  by_case : (b : Bool) → ((xs : Slots) → put_at u key n slots ≡ Ok xs → SlotsHold xs) → cond b (result_map (λ x. x ∷ slots) (fill_slot key n slot slot.value)) (result_map (λ xs. slot ∷ xs) (put_at u key n slots)) ≡ Ok out → SlotsHold out
  by_case true later q = let m = map_ok (λ x. x ∷ slots) (fill_slot key n slot slot.value) out q in subst SlotsHold m.2 (filled_holds key n slot m.0 slot.value s h.0 m.1, h.1)
  by_case false later q = let m = map_ok (λ xs. slot ∷ xs) (put_at u key n slots) out q in subst SlotsHold m.2 (h.0, later m.0 m.1)

fill_holds : (u : UnknownFields) (ns : Nodes) (slots out : Slots) → AreSeen ns → SlotsHold slots → fill u ns slots ≡ Ok out → SlotsHold out
fill_holds u ended slots out s h e = subst SlotsHold (ok_is slots out e) h
fill_holds u (faulty f) slots out s h e = absurd (no_ok e)
fill_holds u (then_node key n ns) slots out s h e =
    let b = bind_ok (put_at u key.bytes n slots) (fill u ns) out e in
    fill_holds u ns b.0 out (s.0.2, s.1.1) (put_slots_hold u key.bytes n slots b.0 (s.0.1, s.1.0) h b.1) b.2

places_hold : (slots : Slots) (i : ℕ) (ns : Nodes) (vs : MarkedFields) → AreSeen ns → SlotsHold slots → reads_places i slots ns ≡ Ok vs → FieldsRead vs
places_hold [] i ns vs s h e = subst FieldsRead (ok_is no_field_values vs e) no_fields_hold
places_hold (slot ∷ slots) i ns vs s h e =
    let r = next_read i slot.read (λ v rest. result_map (field_value (made slot.name) v) (reads_places (suc i) slots rest)) ns vs h.0.each s e in
    let m = map_ok (field_value (made slot.name) r.0) (reads_places (suc i) slots r.1) vs r.4 in
    subst FieldsRead m.2 (field_holds _ _ _ r.3 (places_hold slots (suc i) r.1 m.0 r.2 h.1 m.1))

keyed_hold : (u : UnknownFields) (slots : Slots) (ns : Nodes) (vs : MarkedFields) → AreSeen ns → SlotsHold slots → (fill u ns slots >>= finish) ≡ Ok vs → FieldsRead vs
keyed_hold u slots ns vs s h e = let b = bind_ok (fill u ns slots) finish vs e in finish_holds b.0 vs (fill_holds u ns slots b.0 s h b.1) b.2

structure_read : (u : UnknownFields) (slots : Slots) (n : Node) (vs : MarkedFields) → IsSeen n → SlotsHold slots → read_structure u slots n ≡ Ok vs → FieldsRead vs
structure_read dropped slots (node.array w ns) vs s h e = places_hold slots 0 ns vs (s.0.1, s.1.1) h e
structure_read denied slots (node.array w ns) vs s h e = absurd (no_ok e)
structure_read u slots n vs s h e = let d = bind_ok (document_of n) (λ ns. fill u ns slots >>= finish) vs e in keyed_hold u slots d.0 vs (document_seen n d.0 s d.1) h d.2

contents_read : (slots : Slots) (n : Node) (vs : MarkedFields) → IsSeen n → SlotsHold slots → struct_content_at origins.Tree slots n ≡ Ok vs → FieldsRead vs
contents_read slots (node.document w ns) vs s h e = keyed_hold dropped slots ns vs (s.0.1, s.1.1) h e
contents_read slots n vs s h e = absurd (no_ok e)

-- ---- variants

unit_read : (name : Utf8) (o : Option Content) (v : Marked) → tree_unit_of name o ≡ Ok v → ReadHolds v
unit_read name None v e = absurd (no_ok e)
unit_read name (Some unit_content) v e = subst ReadHolds (ok_is (value.unit_variant (made name)) v e) (unit_variant_holds _)
unit_read name (Some c) v e = absurd (no_ok e)

-- what is read at each variant holds none
abbrev EachVariant : (Utf8 → Node → Reading Marked) → Type 0
EachVariant contents_at = (key : Utf8) → EachHolds (contents_at key)

only_read : (contents_at : Utf8 → Node → Reading Marked) → EachVariant contents_at → (ns : Nodes) (v : Marked) → AreSeen ns → read_only contents_at ns ≡ Ok v → ReadHolds v
only_read contents_at each (then_node k n ended) v s e = each k.bytes n v (s.0.1, s.1.0) e
only_read contents_at each (then_node k n (faulty f)) v s e = absurd (no_ok e)
only_read contents_at each (then_node k n (then_node j m ns)) v s e = absurd (no_ok e)
only_read contents_at each ns v s e = absurd (no_ok e)

enum_read : (vs : Variants) (contents_at : Utf8 → Node → Reading Marked) → EachVariant contents_at → (n : Node) (v : Marked) → IsSeen n → read_tree_enum (reads_tree_unit vs) contents_at n ≡ Ok v → ReadHolds v
enum_read vs contents_at each (node.string p) v s e = unit_read p.bytes (content_of vs p.bytes) v e
enum_read vs contents_at each n v s e = let d = bind_ok (document_of n) (read_only contents_at) v e in only_read contents_at each d.0 v (document_seen n d.0 s d.1) d.2

-- the contents of a tuple variant are read where there are some
tuple_read : (read : Nodes → Reading Marked) (ns : Nodes) (v : Marked) → tuple_content_at origins.Tree read ns ≡ Ok v → read ns ≡ Ok v
tuple_read read ended v e = absurd (no_ok e)
tuple_read read (faulty f) v e = absurd (no_ok e)
tuple_read read (then_node key n ns) v e = e

chosen : (b : Bool) (r q : Reading Marked) (v : Marked) → (r ≡ Ok v → ReadHolds v) → (q ≡ Ok v → ReadHolds v) → cond b r q ≡ Ok v → ReadHolds v
chosen true r q v first rest e = first e
chosen false r q v first rest e = rest e

option_read : (n : Node) (r : Reading Marked) (v : Marked) → ((w : Marked) → r ≡ Ok w → ReadHolds w) → reads_option n r ≡ Ok v → ReadHolds v
option_read node.null r v inner e = subst ReadHolds (ok_is value.none v e) none_holds
option_read n r v inner e = let m = map_ok value.some r v e in subst ReadHolds m.2 (some_holds _ (inner m.0 m.1))

-- ---- at every form

abbrev reads : Form → Node → Reading Marked
reads = reads_from origins.Tree

mutual
  pub reads_hold : (s : Form) → EachHolds (reads s)
  reads_hold (leaf l) n v s e = at_kind l (leaf_kind l) refl n v s e
  reads_hold (optional f) n v s e = option_read n (reads f n) v (λ w h. reads_hold f n w s h) e
  reads_hold (lossy f) n v s e = reads_hold f n v s e
  reads_hold (human_readable f) n v s e = let m = map_ok (value.newtype (made readable_newtype)) (reads f n) v e in subst ReadHolds m.2 (newtype_holds _ _ (reads_hold f n m.0 s m.1))
  reads_hold (by_mode readable compact) n v s e = reads_hold compact n v s e
  reads_hold (reference name) n v s e = absurd (judged_refused n (unknown_reference name) v e)
  reads_hold (definitions h f) n v s e = reads_hold f n v s e
  reads_hold (newtype name f) n v s e = let m = map_ok (value.newtype (made name)) (reads f n) v e in subst ReadHolds m.2 (newtype_holds _ _ (reads_hold f n m.0 s m.1))
  reads_hold (unit_structure name) n v s e =
      let d = bind_ok (judged n >>= null_of) (λ _. Ok (value.unit_structure (made name))) v e in subst ReadHolds (ok_is (value.unit_structure (made name)) v d.2) (unit_structure_holds _)
  reads_hold (sequence f) n v s e =
      let r = array_read value.sequence (reads_items (reads f) 0) n v s e in subst ReadHolds r.4 (sequence_holds _ (items_hold (reads f) (reads_hold f) 0 r.0 r.1 r.2 r.3))
  reads_hold (map key f) n v s e =
      let entries = λ (ns : Nodes). reads_entries (reads_key key) (reads f) ns no_entries in
      let d = bind_ok (judged n >>= document_of) (λ ns. result_map value.map (entries ns)) v e in
      let m = map_ok value.map (entries d.0) v d.2 in
      subst ReadHolds m.2 (map_holds _ (entries_hold key (reads f) (reads_hold f) d.0 no_entries m.0 (document_seen n d.0 s (after_judged n document_of d.0 d.1)) tt m.1))
  reads_hold (tuple ps) n v s e =
      let r = array_read value.tuple (reads_parts origins.Tree ps 0) n v s e in subst ReadHolds r.4 (tuple_holds _ (parts_hold ps 0 r.0 r.1 r.2 r.3))
  reads_hold (tuple_structure name ps) n v s e =
      let r = array_read (value.tuple_structure (made name)) (reads_parts origins.Tree ps 0) n v s e in subst ReadHolds r.4 (tuple_structure_holds _ _ (parts_hold ps 0 r.0 r.1 r.2 r.3))
  reads_hold (enumeration vs) n v s e =
      enum_read vs (reads_variant origins.Tree vs) (variant_holds vs) n v s (after_judged n (read_tree_enum (reads_tree_unit vs) (reads_variant origins.Tree vs)) v e)
  reads_hold (structure u name fs) n v s e =
      let read = read_structure u (slots_of origins.Tree fs) in
      let m = map_ok (value.structure (made name)) (read n) v (after_judged n (λ k. result_map (value.structure (made name)) (read k)) v e) in
      subst ReadHolds m.2 (structure_holds _ _ (structure_read u (slots_of origins.Tree fs) n m.0 s (slots_hold fs) m.1))

  slots_hold : (fs : Fields) → SlotsHold (slots_of origins.Tree fs)
  slots_hold no_fields = tt
  slots_hold (field name f fs) = (record { missing = missing_holds f; each = λ n v s e. reads_hold f n v s e; value = tt }, slots_hold fs)

  parts_hold : (ps : Parts) (i : ℕ) (ns : Nodes) (vs : MarkedItems) → AreSeen ns → reads_parts origins.Tree ps i ns ≡ Ok vs → ItemsHold (item_contents vs)
  parts_hold no_parts i ns vs s e = subst (λ x. ItemsHold (item_contents x)) (ok_is no_items vs e) no_items_hold
  parts_hold (part f ps) i ns vs s e =
      let r = next_read i (reads f) (λ v rest. result_map (item v) (reads_parts origins.Tree ps (suc i) rest)) ns vs (λ n v t q. reads_hold f n v t q) s e in
      let m = map_ok (item r.0) (reads_parts origins.Tree ps (suc i) r.1) vs r.4 in
      subst (λ x. ItemsHold (item_contents x)) m.2 (item_holds _ _ r.3 (parts_hold ps (suc i) r.1 m.0 r.2 m.1))

  variant_holds : (vs : Variants) → EachVariant (reads_variant origins.Tree vs)
  variant_holds no_variants key n v s e = absurd (no_ok e)
  variant_holds (variant name c vs) key n v s e =
      chosen (bytes_eq name key) (reads_content origins.Tree name c n) (reads_variant origins.Tree vs key n) v (λ q. content_holds name c n v s q) (λ q. variant_holds vs key n v s q) e

  content_holds : (name : Utf8) (c : Content) → EachHolds (reads_content origins.Tree name c)
  content_holds name unit_content n v s e =
      let b = bind_ok (under name (judged n >>= read_tree_leaf false (extended_values trees))) (λ _. Ok (value.unit_variant (made name))) v e in
      subst ReadHolds (ok_is (value.unit_variant (made name)) v b.2) (unit_variant_holds _)
  content_holds name (newtype_content f) n v s e =
      let m = map_ok (value.newtype_variant (made name)) (reads f n) v (under_ok name (result_map (value.newtype_variant (made name)) (reads f n)) v e) in
      subst ReadHolds m.2 (newtype_variant_holds _ _ (reads_hold f n m.0 s m.1))
  content_holds name (tuple_content ps) n v s e =
      let read = λ (ms : Nodes). result_map (value.tuple_variant (made name)) (reads_parts origins.Tree ps 0 ms) in
      let whole = judged n >>= array_of >>= tuple_content_at origins.Tree read in
      let d = bind_ok (judged n >>= array_of) (tuple_content_at origins.Tree read) v (under_ok name whole v e) in
      let m = map_ok (value.tuple_variant (made name)) (reads_parts origins.Tree ps 0 d.0) v (tuple_read read d.0 v d.2) in
      subst ReadHolds m.2 (tuple_variant_holds _ _ (parts_hold ps 0 d.0 m.0 (array_seen n d.0 s (after_judged n array_of d.0 d.1)) m.1))
  content_holds name (struct_content fs) n v s e =
      let read = struct_content_at origins.Tree (slots_of origins.Tree fs) in
      let made_of = λ (k : Node). result_map (value.structure_variant (made name)) (read k) in
      let m = map_ok (value.structure_variant (made name)) (read n) v (after_judged n made_of v (under_ok name (judged n >>= made_of) v e)) in
      subst ReadHolds m.2 (structure_variant_holds _ _ (contents_read (slots_of origins.Tree fs) n m.0 s (slots_hold fs) m.1))
