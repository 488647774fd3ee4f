-- What is read from a document is written as a document, unless it is too large.
use Rattle.std.proofs.Common.{◌≡◌, Bool, true, false, cond, Result, Ok, Err, refl, ap, sym, subst, ◌∙◌}
use Rattle.std.specs.Str.{bytes_eq}
use Rattle.bson_kinds.specs.Text.{Bytes, AreBytes, Utf8}
use Rattle.bson_kinds.specs.Outcome.{◌>>=◌, result_map}
use Rattle.bson_base.specs.Sound.{max_levels}
use Rattle.bson_kinds.specs.declared.element_type.ElementType.TheVariants.{EmbeddedDocument}
use Rattle.bson_kinds.proofs.Outcomes.{map_ok, bind_ok}
use Rattle.bson_rawdoc.specs.Envelope.{is_closed, envelope}
use Rattle.bson_rawdoc.specs.Node.{Whole, of_bytes, Sight, from_input, Node, document, broken, Nodes, ended, faulty, then_node, node_in, mended}
use Rattle.bson_kinds.specs.Piece.{made}
use Rattle.bson_faults.specs.declared.raw.Error as raw_error
use Rattle.bson_shape.specs.Form.{dropped, Form, leaf, optional, lossy, human_readable, by_mode, sequence, newtype, unit_structure, map, tuple, tuple_structure, structure, enumeration, reference, definitions, Content, unit_content, newtype_content, tuple_content, struct_content, Variants, no_variants, variant}
use Rattle.bson_values.specs.Value as value
use Rattle.bson_values.specs.Value.{Value, no_entries, kind_of, reserved_or_document}
use Rattle.bson_values.specs.Marked.{Marked, contents}
use Rattle.bson_values.specs.Cause.{raw, unknown_reference}
use Rattle.bson_values.specs.Refusal.{Failure, ReadFault, bare, unreadable}
use Rattle.bson_laws.specs.Leaves.{LeafKind, anything, ignored, extended_values, documents, raw_documents, raw_values, leaf_kind}
use Rattle.bson_laws.specs.Judged.{Reading, judged}
use Rattle.bson_laws.specs.ReadsRaw.{slice_of}
use Rattle.bson_laws.specs.Taken.{null_of, document_of, array_of}
use Rattle.bson_laws.specs.ReadsLeaf.{borrows, any_entries}
use Rattle.bson_laws.specs.Containers.{reads_entries, reads_key, read_enum, reads_unit, reads_items}
use Rattle.bson_laws.specs.Slots.{read_structure}
use Rattle.bson_laws.specs.Reads.{read_leaf, slots_of, reads_parts, reads_variant, reads_content, reads, answered, document_at}
use Rattle.bson_laws.specs.Settled.{settled}
use Rattle.bson_laws.specs.Spell.{at_top, spell, spell_document, IsWrittenUnlessLarge, HoldsNumbers}
use Rattle.bson_laws.specs.Writable.{HasWritableKeys, KeepsDocumentLeaf, KeepsDocument}
use Rattle.bson_laws.specs.Datum.{datum}
use Rattle.bson_laws.specs.Trees.{as_tree, pairs_in}
use Rattle.bson_base.specs.Tree as tree
use Rattle.bson_laws.proofs.ShapeForms.{IsShape}
use Rattle.bson_laws.proofs.Framed.{IsAnnounced, frame}
use Rattle.bson_laws.proofs.Given.{IsGiven}
use Rattle.bson_laws.proofs.GivenAt.{reads_given}
use Rattle.bson_laws.proofs.Settled.{settled_same, writable_settled}
use Rattle.bson_laws.proofs.Signed.{document_spelled, given_signed}
use Rattle.bson_laws.proofs.Rewritten.{written}
use Rattle.bson_laws.proofs.Sizes.{under_ok}
use Rattle.bson_laws.proofs.Free.{free_kind}
use Rattle.bson_laws.proofs.Tame.{IsTame, after_judged, judged_refused}
use Rattle.bson_laws.proofs.TameBytes.{seen_tame}
use Rattle.bson_kinds.proofs.Apart.{no_ok}

-- the value of a document's bytes: a document, or bytes that are none
abbrev pub IsTop : Node → Type 0
IsTop (document slice ns) = Unit {0}
IsTop (broken k e) = Unit {0}
IsTop n = ⊥

-- it is written as a document
abbrev IsMapping : Marked → Type 0
IsMapping v = kind_of (contents v) ≡ EmbeddedDocument

leaf_top : (l : Bool) (k : LeafKind) (n : Node) (v : Marked) → IsTop n → KeepsDocumentLeaf k → read_leaf l k n ≡ Ok v → IsMapping v
leaf_top l anything (document slice ns) v t kept e = let m = map_ok value.map (any_entries ns no_entries) v e in subst IsMapping m.2 refl
leaf_top l anything (broken k x) v t kept e = absurd (no_ok e)
leaf_top l anything n v t kept e = absurd t
leaf_top l ignored n v t kept e = absurd kept
leaf_top l (extended_values documents) (document slice ns) v t kept e = let m = map_ok (λ ps. datum made (tree.document ps)) (as_tree (document slice ns) >>= pairs_in) v e in subst IsMapping m.2 refl
leaf_top l (extended_values documents) (broken k x) v t kept e = absurd (no_ok e)
leaf_top l (extended_values documents) n v t kept e = absurd t
leaf_top l raw_documents (document slice ns) v t kept e = let m = map_ok value.raw_document (slice_of slice) v e in subst IsMapping m.2 refl
leaf_top l raw_values (document slice ns) v t kept e = let m = map_ok value.raw_document (slice_of slice) v e in subst IsMapping m.2 refl
leaf_top l (extended_values k) n v t kept e = absurd kept
leaf_top l k (document slice ns) v t kept e = absurd (no_ok e)
leaf_top l k (broken j x) v t kept e = absurd (no_ok e)
leaf_top l k n v t kept e = absurd t

no_array : (n : Node) (ns : Nodes) → IsTop n → array_of n ≡ Ok ns → ⊥
no_array (document slice ms) ns t e = absurd (no_ok e)
no_array (broken k x) ns t e = absurd (no_ok e)
no_array n ns t e = absurd t

no_null : (n : Node) (x : Unit {0}) → IsTop n → null_of n ≡ Ok x → ⊥
no_null (document slice ms) x t e = absurd (no_ok e)
no_null (broken k f) x t e = absurd (no_ok e)
no_null n x t e = absurd t

no_parts_there : {A : Type 0} (n : Node) (read : Nodes → Reading A) (x : A) → IsTop n → (judged n >>= array_of >>= read) ≡ Ok x → ⊥
no_parts_there n read x t e = let d = bind_ok (judged n >>= array_of) read x e in no_array n d.0 t (after_judged n array_of d.0 d.1)

-- the first of two readings, or the second, is the one that is chosen
chosen : {W : Type 0} (b : Bool) (first other : Reading Marked) (v : Marked) → (b ≡ true → first ≡ Ok v → W) → (other ≡ Ok v → W) → cond b first other ≡ Ok v → W
chosen true first other v one rest e = one refl e
chosen false first other v one rest e = rest e

content_kind : (name : Utf8) (c : Content) (n : Node) (v : Marked) → reads_content name c n ≡ Ok v → IsMapping v
content_kind name unit_content n v e = absurd (no_ok e)
content_kind name (newtype_content s) n v e =
    let read = result_map (value.newtype_variant (made name)) (reads s n) in
    let m = map_ok (value.newtype_variant (made name)) (reads s n) v (under_ok name read v e) in subst IsMapping m.2 refl
content_kind name (tuple_content ps) n v e =
    let d = bind_ok (judged n >>= array_of) (λ ns. result_map (value.tuple_variant (made name)) (reads_parts ps 0 ns)) v (under_ok name (judged n >>= array_of >>= λ ns. result_map (value.tuple_variant (made name)) (reads_parts ps 0 ns)) v e) in
    let m = map_ok (value.tuple_variant (made name)) (reads_parts ps 0 d.0) v d.2 in subst IsMapping m.2 refl
content_kind name (struct_content fs) n v e =
    let read = read_structure dropped (slots_of fs) in
    let d = bind_ok (judged n) (λ k. result_map (value.structure_variant (made name)) (read k)) v (under_ok name (judged n >>= λ k. result_map (value.structure_variant (made name)) (read k)) v e) in
    let m = map_ok (value.structure_variant (made name)) (read d.0) v d.2 in subst IsMapping m.2 refl

variant_kind : (vs : Variants) (key : Utf8) (n : Node) (v : Marked) → reads_variant vs key n ≡ Ok v → IsMapping v
variant_kind no_variants key n v e = absurd (no_ok e)
variant_kind (variant name c vs) key n v e =
    chosen (bytes_eq name key) (reads_content name c n) (reads_variant vs key n) v (λ is q. content_kind name c n v q) (λ q. variant_kind vs key n v q) e

enum_kind : (vs : Variants) (n : Node) (v : Marked) → IsTop n → read_enum (reads_unit vs) (reads_variant vs) n ≡ Ok v → IsMapping v
enum_kind vs (document slice ended) v t e = absurd (no_ok e)
enum_kind vs (document slice (faulty f)) v t e = absurd (no_ok e)
enum_kind vs (document slice (then_node key n ns)) v t e = variant_kind vs key.bytes n v e
enum_kind vs (broken k x) v t e = absurd (no_ok e)
enum_kind vs n v t e = absurd t

-- an option of a document is not none
some_top : (s : Form) (n : Node) (v : Marked) → IsTop n → ((w : Marked) → reads s n ≡ Ok w → IsMapping w) → reads (optional s) n ≡ Ok v → IsMapping v
some_top s (document slice ns) v t inner e = let m = map_ok value.some (reads s (document slice ns)) v e in subst IsMapping m.2 (inner m.0 m.1)
some_top s (broken k x) v t inner e = let m = map_ok value.some (reads s (broken k x)) v e in subst IsMapping m.2 (inner m.0 m.1)
some_top s n v t inner e = absurd t

-- a document whose texts are mended is a document, and bytes that are none stay so
pub mended_top : (n : Node) → IsTop n → IsTop (mended n)
mended_top (document slice ns) t = tt
mended_top (broken k e) t = tt
mended_top n t = absurd t

-- what is read from a document is written as a document
top_kind : (s : Form) (n : Node) (v : Marked) → IsTop n → IsShape s → KeepsDocument s → reads s n ≡ Ok v → IsMapping v
top_kind (leaf l) n v t p kept e = leaf_top (borrows l) (leaf_kind l) n v t kept (after_judged n (read_leaf (borrows l) (leaf_kind l)) v e)
top_kind (optional s) n v t p kept e = some_top s n v t (λ w h. top_kind s n w t p kept h) e
top_kind (lossy s) n v t p kept e = top_kind s (mended n) v (mended_top n t) p kept e
top_kind (human_readable s) n v t p kept e = absurd kept
top_kind (by_mode readable compact) n v t p kept e = absurd kept
top_kind (reference name) n v t p kept e = absurd (judged_refused n (unknown_reference name) v e)
top_kind (definitions h s) n v t p kept e = top_kind s n v t p kept e
top_kind (newtype name s) n v t p kept e =
    let m = map_ok (value.newtype (made name)) (reads s n) v e in
    subst IsMapping m.2 (free_kind name (contents m.0) p.0.free ∙ top_kind s n m.0 t p.1 kept m.1)
top_kind (unit_structure name) n v t p kept e =
    let d = bind_ok (judged n >>= null_of) (λ _. Ok (value.unit_structure (made name))) v e in absurd (no_null n d.0 t (after_judged n null_of d.0 d.1))
top_kind (sequence s) n v t p kept e = absurd (no_parts_there n (λ ns. result_map value.sequence (reads_items (reads s) 0 ns)) v t e)
top_kind (tuple ps) n v t p kept e = absurd (no_parts_there n (λ ns. result_map value.tuple (reads_parts ps 0 ns)) v t e)
top_kind (tuple_structure name ps) n v t p kept e = absurd (no_parts_there n (λ ns. result_map (value.tuple_structure (made name)) (reads_parts ps 0 ns)) v t e)
top_kind (enumeration vs) n v t p kept e = enum_kind vs n v t (after_judged n (read_enum (reads_unit vs) (reads_variant vs)) v e)
top_kind (map key s) n v t p kept e =
    let entries = λ (ns : Nodes). reads_entries (reads_key key) (reads s) ns no_entries in
    let d = bind_ok (judged n >>= document_of) (λ ns. result_map value.map (entries ns)) v e in
    let m = map_ok value.map (entries d.0) v d.2 in subst IsMapping m.2 refl
top_kind (structure u name fs) n v t p kept e =
    let read = read_structure u (slots_of fs) in
    let d = bind_ok (judged n) (λ k. result_map (value.structure (made name)) (read k)) v e in
    let m = map_ok (value.structure (made name)) (read d.0) v d.2 in
    subst IsMapping m.2 (ap reserved_or_document p.0.free)

-- ---- documents in bytes

pub closed_top : (p : Bool) (slice : Whole) (ns : Nodes) (e : raw_error.Error) → IsTop (cond p (document slice ns) (broken EmbeddedDocument e))
closed_top true slice ns e = tt
closed_top false slice ns e = tt

pub answered_is : (r : Reading Marked) (d : Marked) → answered r ≡ Ok d → r ≡ Ok d
answered_is (Ok v) d e = ap Ok cc
answered_is (Err f) d e = absurd (no_ok e)

abbrev pub read_in : Form → Result Bytes raw_error.Error → Result Marked (Failure ReadFault)
read_in s r = elim r [ Ok b ↦ answered (reads (settled false s) (node_in max_levels EmbeddedDocument b)) | Err f ↦ Err (bare (unreadable (raw f))) ]

-- what is read from a document's bytes is read from the node that they are
pub node_read : (s : Form) (bytes : Bytes) (d : Value) → AreBytes bytes → document_at s bytes ≡ Ok d
    → (b : Bytes) × (m : Marked) × IsTame from_input (node_in max_levels EmbeddedDocument b) × (reads (settled false s) (node_in max_levels EmbeddedDocument b) ≡ Ok m) × (contents m ≡ d)
node_read s bytes d h e = by_case (envelope bytes) (λ b q. let f = frame bytes b q in (f.0, f.1)) e where
  by_case : (r : Result Bytes raw_error.Error) → ((b : Bytes) → r ≡ Ok b → (bytes ≡ b) × IsAnnounced bytes) → result_map contents (read_in s r) ≡ Ok d
      → (b : Bytes) × (m : Marked) × IsTame from_input (node_in max_levels EmbeddedDocument b) × (reads (settled false s) (node_in max_levels EmbeddedDocument b) ≡ Ok m) × (contents m ≡ d)
  by_case (Ok b) same q =
      let n = node_in max_levels EmbeddedDocument b in
      let m = map_ok contents (answered (reads (settled false s) n)) d q in
      let f = same b refl in
      (b, m.0, seen_tame max_levels EmbeddedDocument b (subst AreBytes f.0 h) (subst IsAnnounced f.0 f.1), answered_is (reads (settled false s) n) m.0 m.1, m.2)
  by_case (Err f) same q = absurd (no_ok q)

-- what is read from a document, or from bytes that are none, is written, unless it is too large
pub top_written : (at : Sight) (s : Form) (n : Node) (m : Marked) → IsTop n → IsShape s → HasWritableKeys s → KeepsDocument s → IsGiven at (contents m) s → reads s n ≡ Ok m → IsWrittenUnlessLarge (spell_document (contents m))
top_written at s n m t p keys kept given e =
    subst (λ k. IsWrittenUnlessLarge (at_top k (spell (contents m) max_levels))) (sym (top_kind s n m t p kept e)) (written at (contents m) s p keys given max_levels)

-- what is read is written, unless it is too large
pub document_written : (s : Form) (bytes : Bytes) (d : Value) → IsShape s → HasWritableKeys s → KeepsDocument s → AreBytes bytes → document_at s bytes ≡ Ok d → IsWrittenUnlessLarge (spell_document d)
document_written s bytes d p keys kept h e =
    let r = node_read s bytes d h e in
    let n = node_in max_levels EmbeddedDocument r.0 in
    let there = subst (λ x. reads x n ≡ Ok r.1) (settled_same false s (writable_settled s keys)) r.3 in
    subst (λ v. IsWrittenUnlessLarge (spell_document v)) r.4 (top_written from_input s n r.1 (closed_top (is_closed r.0) (of_bytes r.0) _ _) p keys kept (reads_given from_input s n r.1 r.2 there) there)

-- what is read is never refused for a number
pub document_numbers : (s : Form) (bytes : Bytes) (d : Value) → AreBytes bytes → document_at s bytes ≡ Ok d → HoldsNumbers (spell_document d)
document_numbers s bytes d h e =
    let r = node_read s bytes d h e in
    let n = node_in max_levels EmbeddedDocument r.0 in
    subst (λ v. HoldsNumbers (spell_document v)) r.4 (document_spelled (kind_of (contents r.1)) (contents r.1) max_levels (given_signed from_input (contents r.1) (settled false s) (reads_given from_input (settled false s) n r.1 r.2 r.3)))
