-- A value is read at a form as at the form without what is deeper than the value.
use Rattle.std.proofs.Common.{◌≡◌, ℕ, zero, suc, ◌≤◌, Bool, true, false, cond, Option, Some, None, Ok, Err, refl, ap, arith}
use Rattle.std.specs.Str.{bytes_eq}
use Rattle.bson_kinds.specs.Text.{Utf8}
use Rattle.bson_kinds.specs.Outcome.{◌>>=◌, result_map}
use Rattle.bson_rawdoc.specs.Node.{Node, string, document, array, extended, too_deep, Extended, binary, javascript_code_with_scope, Nodes, ended, faulty, then_node, fault, mended, mended_nodes, mended_value, opened}
use Rattle.bson_kinds.specs.Piece.{Piece, made}
use Rattle.bson_faults.specs.declared.raw.Error.{Error}
use Rattle.bson_shape.specs.Form.{dropped, Form, leaf, optional, lossy, human_readable, by_mode, sequence, newtype, map, tuple, tuple_structure, structure, enumeration, definitions, Fields, no_fields, field, Parts, no_parts, part, Content, unit_content, newtype_content, tuple_content, struct_content, Variants, no_variants, variant}
use Rattle.bson_values.specs.Value as value
use Rattle.bson_values.specs.Value.{readable_newtype, item, no_entries}
use Rattle.bson_values.specs.Marked.{Marked, MarkedItems, MarkedEntries}
use Rattle.bson_values.specs.Refusal.{ReadFault, Refusal, under, under_index}
use Rattle.bson_laws.specs.declared.origin.Origin.{Origin}
use Rattle.bson_laws.specs.declared.origin.Origin.TheVariants as origins
use Rattle.bson_laws.specs.Containers.{reads_option, reads_items, unit_of, reads_unit, read_enum, reads_key, reads_entries}
use Rattle.bson_laws.specs.Depths.{height, heights, opened_height}
use Rattle.bson_laws.specs.FromTree.{mended_at, tree_unit_of, reads_tree_unit, read_tree_enum, unit_at, enum_at, tuple_content_at, struct_content_at}
use Rattle.bson_laws.specs.Judged.{Reading, with_level, faultless, judged}
use Rattle.bson_laws.specs.Leaves.{LeafKind}
use Rattle.bson_laws.specs.ReadsLeaf.{put_entry}
use Rattle.bson_laws.specs.ReadsAt as at
use Rattle.bson_laws.specs.Slots.{Slots, missing_value, read_structure}
use Rattle.bson_laws.specs.Taken.{document_of, array_of}
use Rattle.bson_laws.specs.Variants.{content_of}
use Rattle.bson_laws.specs.Views.{absent}
use Rattle.bson_laws.proofs.Cut.{nothing, cut, cut_fields, cut_parts, cut_variants, cut_content}
use Rattle.bson_laws.proofs.SameSlots.{AllAlike, keyed_same, structure_flat, structure_same}

-- ---- a value whose texts are mended is no deeper

-- what a value is opened to
heights_opened : (x : Extended) → heights (opened x) ≤ opened_height x
heights_opened (binary subtype b) = omega arith
heights_opened x = omega arith

mutual
  pub height_mended : (n : Node) → height (mended n) ≤ height n
  height_mended (document slice ns) = let h = heights_mended ns in omega arith
  height_mended (array slice ns) = let h = heights_mended ns in omega arith
  height_mended (extended x ns) = let h = opened_mended x in let k = heights_opened (mended_value x) in omega arith
  height_mended n = omega arith

  heights_mended : (ns : Nodes) → heights (mended_nodes ns) ≤ heights ns
  heights_mended ended = omega arith
  heights_mended (faulty e) = omega arith
  heights_mended (then_node key n ns) = let h = height_mended n in let k = heights_mended ns in omega arith

  opened_mended : (x : Extended) → opened_height (mended_value x) ≤ opened_height x
  opened_mended (javascript_code_with_scope code scope) = height_mended scope
  opened_mended x = omega arith

mended_within : (o : Origin) (n : Node) (d : ℕ) → height n ≤ d → height (mended_at o n) ≤ d
mended_within origins.Bytes n d w = let h = height_mended n in omega arith
mended_within origins.Tree n d w = w

-- ---- judged values

level_cases : (P : Reading Node → Type 0) (n : Node) → P (Ok n) → ((e : Refusal ReadFault) → P (Err e)) → P (with_level n)
level_cases P (too_deep k) a b = b _
level_cases P n a b = a

fault_cases : (P : Reading Node → Type 0) (o : Option Error) (n : Node) → P (Ok n) → ((e : Refusal ReadFault) → P (Err e)) → P (faultless o n)
fault_cases P None n a b = level_cases P n a b
fault_cases P (Some e) n a b = b _

-- what holds of the value itself and of each refusal holds of the judged value
judged_cases : (P : Reading Node → Type 0) (n : Node) → P (Ok n) → ((e : Refusal ReadFault) → P (Err e)) → P (judged n)
judged_cases P n a b = fault_cases P (fault n) n a b

judged_alike : {A : Type 0} (n : Node) (f g : Node → Reading A) → f n ≡ g n → (judged n >>= f) ≡ (judged n >>= g)
judged_alike n f g h = judged_cases (λ r. (r >>= f) ≡ (r >>= g)) n h (λ e. refl)

-- ---- the parts of arrays and documents

array_flat : {A : Type 0} (f g : Nodes → Reading A) (n : Node) → height n ≤ 0 → (array_of n >>= f) ≡ (array_of n >>= g)
array_flat f g (array slice ns) w = absurd (omega arith)
array_flat f g n w = refl

array_parts : {A : Type 0} (f g : Nodes → Reading A) (n : Node) (d : ℕ) → height n ≤ suc d → ((ns : Nodes) → heights ns ≤ d → f ns ≡ g ns) → (array_of n >>= f) ≡ (array_of n >>= g)
array_parts f g (array slice ns) d w h = h ns (omega arith)
array_parts f g n d w h = refl

document_flat : {A : Type 0} (f g : Nodes → Reading A) (n : Node) → height n ≤ 0 → (document_of n >>= f) ≡ (document_of n >>= g)
document_flat f g (document slice ns) w = absurd (omega arith)
document_flat f g (extended x ns) w = absurd (omega arith)
document_flat f g n w = refl

document_parts : {A : Type 0} (f g : Nodes → Reading A) (n : Node) (d : ℕ) → height n ≤ suc d → ((ns : Nodes) → heights ns ≤ d → f ns ≡ g ns) → (document_of n >>= f) ≡ (document_of n >>= g)
document_parts f g (document slice ns) d w h = h ns (omega arith)
document_parts f g (extended x ns) d w h = h ns (omega arith)
document_parts f g n d w h = refl

array_then : {A : Type 0} (f g : Nodes → Reading A) (n : Node) → (array_of n >>= f) ≡ (array_of n >>= g) → (judged n >>= array_of >>= f) ≡ (judged n >>= array_of >>= g)
array_then f g n h = judged_cases (λ r. (r >>= array_of >>= f) ≡ (r >>= array_of >>= g)) n h (λ e. refl)

document_then : {A : Type 0} (f g : Nodes → Reading A) (n : Node) → (document_of n >>= f) ≡ (document_of n >>= g) → (judged n >>= document_of >>= f) ≡ (judged n >>= document_of >>= g)
document_then f g n h = judged_cases (λ r. (r >>= document_of >>= f) ≡ (r >>= document_of >>= g)) n h (λ e. refl)

-- both read alike what is no deeper
abbrev ReadAlike : ℕ → (Node → Reading Marked) → (Node → Reading Marked) → Type 0
ReadAlike d f g = (n : Node) → height n ≤ d → f n ≡ g n

items_alike : (f g : Node → Reading Marked) (d : ℕ) → ReadAlike d f g → (i : ℕ) (ns : Nodes) → heights ns ≤ d → reads_items f i ns ≡ reads_items g i ns
items_alike f g d h i ended w = refl
items_alike f g d h i (faulty e) w = refl
items_alike f g d h i (then_node key n ns) w =
    let first : height n ≤ d = omega arith in
    let rest : heights ns ≤ d = omega arith in
    λ j. under_index i (h n first j) >>= λ v. result_map (item v) (items_alike f g d h (suc i) ns rest j)

entries_alike : (k l : Piece → Reading Marked) (f g : Node → Reading Marked) (d : ℕ) → ((p : Piece) → k p ≡ l p) → ReadAlike d f g → (ns : Nodes) (es : MarkedEntries) → heights ns ≤ d → reads_entries k f ns es ≡ reads_entries l g ns es
entries_alike k l f g d q h ended es w = refl
entries_alike k l f g d q h (faulty e) es w = refl
entries_alike k l f g d q h (then_node key n ns) es w =
    let first : height n ≤ d = omega arith in
    let rest : heights ns ≤ d = omega arith in
    λ j. q key j >>= λ x. under key.bytes (h n first j) >>= λ v. entries_alike k l f g d q h ns (put_entry x v es) rest j

-- ---- what a cut form keeps

pub absent_kept : {T : Type 0} (s : Form) (d : ℕ) → absent {T = T} s ≡ absent (cut s d)
absent_kept (optional s) d = refl
absent_kept s d = refl

missing_kept : {T : Type 0} (s : Form) (d : ℕ) → missing_value {T = T} s ≡ missing_value (cut s d)
missing_kept (by_mode r c) d = absent_kept c d
missing_kept (optional s) d = refl
missing_kept s d = refl

unit_kept : (name : Utf8) (c : Content) (d : ℕ) → unit_of name (Some c) ≡ unit_of name (Some (cut_content c d))
unit_kept name unit_content d = refl
unit_kept name (newtype_content s) zero = refl
unit_kept name (newtype_content s) (suc d) = refl
unit_kept name (tuple_content ps) zero = refl
unit_kept name (tuple_content ps) (suc d) = refl
unit_kept name (struct_content fs) zero = refl
unit_kept name (struct_content fs) (suc d) = refl

units_kept : (name key : Utf8) (vs : Variants) (d : ℕ) → unit_of name (content_of vs key) ≡ unit_of name (content_of (cut_variants vs d) key)
units_kept name key no_variants d = refl
units_kept name key (variant word c vs) d = by_case (bytes_eq word key) (units_kept name key vs d) where
  by_case : (b : Bool) → unit_of name (content_of vs key) ≡ unit_of name (content_of (cut_variants vs d) key)
      → unit_of name (cond b (Some c) (content_of vs key)) ≡ unit_of name (cond b (Some (cut_content c d)) (content_of (cut_variants vs d) key))
  by_case true h = unit_kept name c d
  by_case false h = h

tree_unit_kept : (name : Utf8) (c : Content) (d : ℕ) → tree_unit_of name (Some c) ≡ tree_unit_of name (Some (cut_content c d))
tree_unit_kept name unit_content d = refl
tree_unit_kept name (newtype_content s) zero = refl
tree_unit_kept name (newtype_content s) (suc d) = refl
tree_unit_kept name (tuple_content ps) zero = refl
tree_unit_kept name (tuple_content ps) (suc d) = refl
tree_unit_kept name (struct_content fs) zero = refl
tree_unit_kept name (struct_content fs) (suc d) = refl

tree_units_kept : (name key : Utf8) (vs : Variants) (d : ℕ) → tree_unit_of name (content_of vs key) ≡ tree_unit_of name (content_of (cut_variants vs d) key)
tree_units_kept name key no_variants d = refl
tree_units_kept name key (variant word c vs) d = by_case (bytes_eq word key) (tree_units_kept name key vs d) where
  by_case : (b : Bool) → tree_unit_of name (content_of vs key) ≡ tree_unit_of name (content_of (cut_variants vs d) key)
      → tree_unit_of name (cond b (Some c) (content_of vs key)) ≡ tree_unit_of name (cond b (Some (cut_content c d)) (content_of (cut_variants vs d) key))
  by_case true h = tree_unit_kept name c d
  by_case false h = h

key_kept : (key : Form) (p : Piece) → reads_key key p ≡ reads_key (cut key 0) p
key_kept (enumeration vs) p = units_kept p.bytes p.bytes vs 0
key_kept (leaf l) p = refl
key_kept s p = refl

-- ---- all forms

-- the contents of a tuple variant, where they are read alike
tuple_content_alike : (o : Origin) (f g : Nodes → Reading Marked) (d : ℕ) → ((ns : Nodes) → heights ns ≤ d → f ns ≡ g ns) → (ns : Nodes) → heights ns ≤ d → tuple_content_at o f ns ≡ tuple_content_at o g ns
tuple_content_alike origins.Bytes f g d h ns w = h ns w
tuple_content_alike origins.Tree f g d h ended w = refl
tuple_content_alike origins.Tree f g d h (faulty e) w = refl
tuple_content_alike origins.Tree f g d h (then_node key n ns) w = h (then_node key n ns) w

-- the contents of a struct variant, whose fields are read alike
struct_content_alike : (o : Origin) (xs ys : Slots) (n : Node) (d : ℕ) → height n ≤ suc d → AllAlike d xs ys → struct_content_at o xs n ≡ struct_content_at o ys n
struct_content_alike origins.Bytes xs ys n d w h = structure_same dropped xs ys n d w h
struct_content_alike origins.Tree xs ys (document whole ns) d w h = keyed_same dropped ns d xs ys (omega arith) h
struct_content_alike origins.Tree xs ys n d w h = refl

-- where values are read from is given, and how a judged value is read at a leaf of a kind
module _ (o : Origin) (read_leaf : (is_borrowing : Bool) → LeafKind → Node → Reading Marked) where
  abbrev reads : Form → Node → Reading Marked
  reads = at.reads o read_leaf

  abbrev reads_parts : Parts → ℕ → Nodes → Reading MarkedItems
  reads_parts = at.reads_parts o read_leaf

  abbrev slots_of : Fields → Slots
  slots_of = at.slots_of o read_leaf

  abbrev reads_variant : Variants → Utf8 → Node → Reading Marked
  reads_variant = at.reads_variant o read_leaf

  abbrev reads_content : Utf8 → Content → Node → Reading Marked
  reads_content = at.reads_content o read_leaf

  -- the contents of each variant are given
  byte_enum_flat : (f g : Utf8 → Node → Reading Marked) (vs : Variants) (n : Node) → height n ≤ 0 → read_enum (reads_unit vs) f n ≡ read_enum (reads_unit (cut_variants vs zero)) g n
  byte_enum_flat f g vs (string t) w = units_kept t.bytes t.bytes vs zero
  byte_enum_flat f g vs (document whole ns) w = absurd (omega arith)
  byte_enum_flat f g vs (extended x ns) w = absurd (omega arith)
  byte_enum_flat f g vs n w = refl

  byte_enum_alike : (f g : Utf8 → Node → Reading Marked) (vs : Variants) (n : Node) (d : ℕ) → ((key : Utf8) → ReadAlike d (f key) (g key)) → height n ≤ suc d → read_enum (reads_unit vs) f n ≡ read_enum (reads_unit (cut_variants vs (suc d))) g n
  byte_enum_alike f g vs (string t) d h w = units_kept t.bytes t.bytes vs (suc d)
  byte_enum_alike f g vs (document whole (then_node key n ns)) d h w = h key.bytes n (omega arith)
  byte_enum_alike f g vs (extended x (then_node key n ns)) d h w = h key.bytes n (omega arith)
  byte_enum_alike f g vs n d h w = refl

  tree_enum_flat : (f g : Utf8 → Node → Reading Marked) (vs : Variants) (n : Node) → height n ≤ 0 → read_tree_enum (reads_tree_unit vs) f n ≡ read_tree_enum (reads_tree_unit (cut_variants vs zero)) g n
  tree_enum_flat f g vs (string t) w = tree_units_kept t.bytes t.bytes vs zero
  tree_enum_flat f g vs (document whole ns) w = absurd (omega arith)
  tree_enum_flat f g vs (extended x ns) w = absurd (omega arith)
  tree_enum_flat f g vs n w = refl

  tree_enum_alike : (f g : Utf8 → Node → Reading Marked) (vs : Variants) (n : Node) (d : ℕ) → ((key : Utf8) → ReadAlike d (f key) (g key)) → height n ≤ suc d → read_tree_enum (reads_tree_unit vs) f n ≡ read_tree_enum (reads_tree_unit (cut_variants vs (suc d))) g n
  tree_enum_alike f g vs (string t) d h w = tree_units_kept t.bytes t.bytes vs (suc d)
  tree_enum_alike f g vs (document whole (then_node key n ended)) d h w = h key.bytes n (omega arith)
  tree_enum_alike f g vs (extended x (then_node key n ended)) d h w = h key.bytes n (omega arith)
  tree_enum_alike f g vs n d h w = refl

  enum_flat : (p : Origin) (f g : Utf8 → Node → Reading Marked) (vs : Variants) (n : Node) → height n ≤ 0 → enum_at p (unit_at p vs) f n ≡ enum_at p (unit_at p (cut_variants vs zero)) g n
  enum_flat origins.Bytes f g vs n w = byte_enum_flat f g vs n w
  enum_flat origins.Tree f g vs n w = tree_enum_flat f g vs n w

  enum_alike : (p : Origin) (f g : Utf8 → Node → Reading Marked) (vs : Variants) (n : Node) (d : ℕ) → ((key : Utf8) → ReadAlike d (f key) (g key)) → height n ≤ suc d → enum_at p (unit_at p vs) f n ≡ enum_at p (unit_at p (cut_variants vs (suc d))) g n
  enum_alike origins.Bytes f g vs n d h w = byte_enum_alike f g vs n d h w
  enum_alike origins.Tree f g vs n d h w = tree_enum_alike f g vs n d h w

  mutual
    pub reads_cut : (s : Form) (d : ℕ) (n : Node) → height n ≤ d → reads s n ≡ reads (cut s d) n
    reads_cut (optional s) d n w = ap (reads_option n) (reads_cut s d n w)
    reads_cut (lossy s) d n w = reads_cut s d (mended_at o n) (mended_within o n d w)
    reads_cut (human_readable s) d n w = ap (result_map (value.newtype (made readable_newtype))) (reads_cut s d n w)
    reads_cut (by_mode r c) d n w = reads_cut c d n w
    reads_cut (newtype name s) d n w = ap (result_map (value.newtype (made name))) (reads_cut s d n w)
    reads_cut (definitions h s) d n w = reads_cut s d n w
    reads_cut (sequence s) zero n w = array_then (λ ns. result_map value.sequence (reads_items (reads s) 0 ns)) (λ ns. result_map value.sequence (reads_items (reads nothing) 0 ns)) n (array_flat _ _ n w)
    reads_cut (sequence s) (suc d) n w =
        array_then (λ ns. result_map value.sequence (reads_items (reads s) 0 ns)) (λ ns. result_map value.sequence (reads_items (reads (cut s d)) 0 ns)) n
        (array_parts _ _ n d w (λ ns v. ap (result_map value.sequence) (items_alike (reads s) (reads (cut s d)) d (λ m q. reads_cut s d m q) 0 ns v)))
    reads_cut (map key s) zero n w =
        document_then (λ ns. result_map value.map (reads_entries (reads_key key) (reads s) ns no_entries)) (λ ns. result_map value.map (reads_entries (reads_key nothing) (reads nothing) ns no_entries)) n (document_flat _ _ n w)
    reads_cut (map key s) (suc d) n w =
        document_then (λ ns. result_map value.map (reads_entries (reads_key key) (reads s) ns no_entries)) (λ ns. result_map value.map (reads_entries (reads_key (cut key 0)) (reads (cut s d)) ns no_entries)) n
        (document_parts _ _ n d w (λ ns v. ap (result_map value.map) (entries_alike (reads_key key) (reads_key (cut key 0)) (reads s) (reads (cut s d)) d (key_kept key) (λ m q. reads_cut s d m q) ns no_entries v)))
    reads_cut (tuple ps) zero n w = array_then (λ ns. result_map value.tuple (reads_parts ps 0 ns)) (λ ns. result_map value.tuple (reads_parts no_parts 0 ns)) n (array_flat _ _ n w)
    reads_cut (tuple ps) (suc d) n w =
        array_then (λ ns. result_map value.tuple (reads_parts ps 0 ns)) (λ ns. result_map value.tuple (reads_parts (cut_parts ps d) 0 ns)) n
        (array_parts _ _ n d w (λ ns v. ap (result_map value.tuple) (parts_cut ps 0 d ns v)))
    reads_cut (tuple_structure name ps) zero n w =
        array_then (λ ns. result_map (value.tuple_structure (made name)) (reads_parts ps 0 ns)) (λ ns. result_map (value.tuple_structure (made name)) (reads_parts no_parts 0 ns)) n (array_flat _ _ n w)
    reads_cut (tuple_structure name ps) (suc d) n w =
        array_then (λ ns. result_map (value.tuple_structure (made name)) (reads_parts ps 0 ns)) (λ ns. result_map (value.tuple_structure (made name)) (reads_parts (cut_parts ps d) 0 ns)) n
        (array_parts _ _ n d w (λ ns v. ap (result_map (value.tuple_structure (made name))) (parts_cut ps 0 d ns v)))
    reads_cut (structure u name fs) zero n w =
        judged_alike n (λ m. result_map (value.structure (made name)) (read_structure u (slots_of fs) m)) (λ m. result_map (value.structure (made name)) (read_structure u (slots_of no_fields) m))
        (ap (result_map (value.structure (made name))) (structure_flat u (slots_of fs) (slots_of no_fields) n w))
    reads_cut (structure u name fs) (suc d) n w =
        judged_alike n (λ m. result_map (value.structure (made name)) (read_structure u (slots_of fs) m)) (λ m. result_map (value.structure (made name)) (read_structure u (slots_of (cut_fields fs d)) m))
        (ap (result_map (value.structure (made name))) (structure_same u (slots_of fs) (slots_of (cut_fields fs d)) n d w (slots_cut fs d)))
    reads_cut (enumeration vs) zero n w =
        judged_alike n (enum_at o (unit_at o vs) (reads_variant vs)) (enum_at o (unit_at o (cut_variants vs zero)) (reads_variant (cut_variants vs zero))) (enum_flat o (reads_variant vs) (reads_variant (cut_variants vs zero)) vs n w)
    reads_cut (enumeration vs) (suc d) n w =
        judged_alike n (enum_at o (unit_at o vs) (reads_variant vs)) (enum_at o (unit_at o (cut_variants vs (suc d))) (reads_variant (cut_variants vs (suc d))))
        (enum_alike o (reads_variant vs) (reads_variant (cut_variants vs (suc d))) vs n d (λ key m q. variant_cut vs key d m q) w)
    reads_cut s d n w = refl

    parts_cut : (ps : Parts) (i d : ℕ) (ns : Nodes) → heights ns ≤ d → reads_parts ps i ns ≡ reads_parts (cut_parts ps d) i ns
    parts_cut no_parts i d ns w = refl
    parts_cut (part s ps) i d ended w = refl
    parts_cut (part s ps) i d (faulty e) w = refl
    parts_cut (part s ps) i d (then_node key n ns) w =
        let first : height n ≤ d = omega arith in
        let rest : heights ns ≤ d = omega arith in
        λ j. under_index i (reads_cut s d n first j) >>= λ v. result_map (item v) (parts_cut ps (suc i) d ns rest j)

    slots_cut : (fs : Fields) (d : ℕ) → AllAlike d (slots_of fs) (slots_of (cut_fields fs d))
    slots_cut no_fields d = tt
    slots_cut (field name s fs) d = (record { name = refl; missing = missing_kept s d; each = λ n w. reads_cut s d n w; value = refl }, slots_cut fs d)

    variant_cut : (vs : Variants) (key : Utf8) (d : ℕ) (n : Node) → height n ≤ d → reads_variant vs key n ≡ reads_variant (cut_variants vs (suc d)) key n
    variant_cut no_variants key d n w = refl
    variant_cut (variant name c vs) key d n w = λ j. cond (bytes_eq name key) (content_cut name c d n w j) (variant_cut vs key d n w j)

    content_cut : (name : Utf8) (c : Content) (d : ℕ) (n : Node) → height n ≤ d → reads_content name c n ≡ reads_content name (cut_content c (suc d)) n
    content_cut name unit_content d n w = refl
    content_cut name (newtype_content s) d n w = ap (λ r. under name (result_map (value.newtype_variant (made name)) r)) (reads_cut s d n w)
    content_cut name (tuple_content ps) d n w =
        ap (under name) (array_then (tuple_content_at o (λ ms. result_map (value.tuple_variant (made name)) (reads_parts ps 0 ms))) (tuple_content_at o (λ ms. result_map (value.tuple_variant (made name)) (reads_parts (cut_parts ps d) 0 ms))) n
        (array_parts _ _ n d (omega arith)
        (λ ns v. tuple_content_alike o (λ ms. result_map (value.tuple_variant (made name)) (reads_parts ps 0 ms)) (λ ms. result_map (value.tuple_variant (made name)) (reads_parts (cut_parts ps d) 0 ms)) d (λ ms x. ap (result_map (value.tuple_variant (made name))) (parts_cut ps 0 d ms x)) ns v)))
    content_cut name (struct_content fs) d n w =
        ap (under name) (judged_alike n (λ m. result_map (value.structure_variant (made name)) (struct_content_at o (slots_of fs) m)) (λ m. result_map (value.structure_variant (made name)) (struct_content_at o (slots_of (cut_fields fs d)) m))
        (ap (result_map (value.structure_variant (made name))) (struct_content_alike o (slots_of fs) (slots_of (cut_fields fs d)) n d (omega arith) (slots_cut fs d))))
