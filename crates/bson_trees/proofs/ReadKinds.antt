-- No tree that is read is given by its bytes.
use Rattle.std.proofs.Common.{◌≡◌, ℕ, Bool, true, false, Option, Some, None, Ok, refl, ap, sym, ◌∙◌}
use Rattle.std.specs.Prelude.{option_map, option_and_then, codes}
use Rattle.uuid.specs.Text.{parsed}
use Rattle.bson_kinds.specs.Outcome.{◌>>=◌, result_map}
use Rattle.bson_base.specs.Pairs.{put}
use Rattle.bson_base.specs.Parsed.{bytes_of_digits, bytes_of_base64}
use Rattle.bson_base.specs.Sorted.{sorted}
use Rattle.bson_kinds.specs.Text.{Bytes, Utf8}
use Rattle.bson_base.specs.Tree as tree
use Rattle.bson_base.specs.Tree.{Tree, Pairs, no_pairs}
use Rattle.bson_kinds.proofs.Outcomes.{some_map, some_then, map_ok, bind_ok, ok_is}
use Rattle.bson_rawdoc.specs.Node as node
use Rattle.bson_rawdoc.specs.Node.{Node, Extended, Nodes, ended, faulty, then_node}
use Rattle.bson_values.specs.Marked.{contents}
use Rattle.bson_values.specs.Refusal.{under}
use Rattle.bson_values.specs.Value as value
use Rattle.bson_values.specs.Value.{Value, no_field_values, field_value}
use Rattle.bson_values.specs.Wrapper.{of_key}
use Rattle.bson_values.specs.declared.wrapper.Wrapper.{Wrapper}
use Rattle.bson_values.specs.declared.wrapper.Wrapper.TheVariants.{Binary, Uuid}
use Rattle.bson_laws.specs.Judged.{Reading, judged, scope_key}
use Rattle.bson_laws.specs.ReadsLeaf.{no_extended}
use Rattle.bson_laws.specs.Shaped.{reads}
use Rattle.bson_laws.specs.Trees.{or_bad, pairs_in, by_meaning, by_key, after_code, after_scope, as_tree, read_tree, extended_tree, array_trees, document_tree}
use Rattle.bson_laws.specs.Wrapped.{meaning, one_byte, binary_of_texts, a_text, two_fields, two_texts, text_at, with_fields, text, at, text_body}
use Rattle.bson_laws.proofs.Sizes.{under_ok}
use Rattle.bson_trees.specs.Trees.{is_raw}
use Rattle.bson_trees.proofs.WrappedKinds.{is_binary_or_raw, valid_is, wrapped_other}

pub other_not_raw : (t : Tree) → is_binary_or_raw t ≡ false → is_raw t ≡ false
other_not_raw (tree.raw k b) e = absurd cc
other_not_raw t e = refl

ok_not_raw : (u t : Tree) → is_raw u ≡ false → (let r : Reading Tree = Ok u in r) ≡ Ok t → is_raw t ≡ false
ok_not_raw u t other e = ap is_raw (sym (ok_is u t e)) ∙ other

-- ---- the wrapper keys that make binaries

texts_not_raw : (base64 subtype : Utf8) (t : Tree) → binary_of_texts base64 subtype ≡ Some t → is_raw t ≡ false
texts_not_raw base64 subtype t e =
    let b = some_then (λ (b : Bytes). option_map (λ n. tree.binary n b) (option_and_then one_byte (bytes_of_digits 1 subtype))) (bytes_of_base64 base64) t e in
    let n = some_map (λ (n : ℕ). tree.binary n b.0) (option_and_then one_byte (bytes_of_digits 1 subtype)) t b.2 in
    ap is_raw (sym n.2)

text_made : (make : Utf8 → Option Tree) → ((x : Utf8) (t : Tree) → make x ≡ Some t → is_raw t ≡ false) → (v : Value) (t : Tree) → a_text make v ≡ Some t → is_raw t ≡ false
text_made make h (value.str x) t e = h x t e
text_made make h v t e = absurd cc

fields_made : (make : Value → Value → Option Tree) → ((v w : Value) (t : Tree) → make v w ≡ Some t → is_raw t ≡ false) → (v : Value) (t : Tree) → two_fields make v ≡ Some t → is_raw t ≡ false
fields_made make h (value.structure name (field_value key v (field_value other w no_field_values))) t e = h v w t e
fields_made make h v t e = absurd cc

fields_not_raw : (v : Value) (t : Tree) → two_texts binary_of_texts v ≡ Some t → is_raw t ≡ false
fields_not_raw v t e =
    fields_made (λ v w. a_text (λ x. a_text (binary_of_texts x) w) v)
    (λ v w u f. text_made (λ x. a_text (binary_of_texts x) w) (λ x z g. text_made (binary_of_texts x) (λ y q k. texts_not_raw x y q k) w z g) v u f) v t e

binary_not_raw : (n : Node) (t : Tree) → at (with_fields (codes "base64") text (codes "subType") text) (two_texts binary_of_texts) n ≡ Ok (Some t) → is_raw t ≡ false
binary_not_raw n t e =
    let m = map_ok (λ v. two_texts binary_of_texts (contents v)) (reads no_extended (with_fields (codes "base64") text (codes "subType") text) n) (Some t) e in
    fields_not_raw (contents m.0) t m.2

abbrev binary_of_uuid : Utf8 → Option Tree
binary_of_uuid x = option_map (tree.binary 4) (parsed x)

uuid_not_raw : (n : Node) (t : Tree) → text_body binary_of_uuid n ≡ Ok (Some t) → is_raw t ≡ false
uuid_not_raw n t e =
    let m = map_ok binary_of_uuid (text_at n) (Some t) e in
    let b = some_map (tree.binary 4) (parsed m.0) t m.2 in
    ap is_raw (sym b.2)

-- ---- documents

-- a document from a wrapper key on
wrapped_not_raw : (w : Wrapper) (key : Utf8) (n : Node) (ns : Nodes) (r : Reading Tree) (t : Tree)
    → by_meaning w (meaning w) key n r (λ x. after_code x ns) (λ ps. after_scope ps ns) ≡ Ok t → is_raw t ≡ false
wrapped_not_raw Binary key n ns r t e =
    let read = at (with_fields (codes "base64") text (codes "subType") text) (two_texts binary_of_texts) in
    let m = bind_ok (read n) (or_bad Binary) t (under_ok key (read n >>= or_bad Binary) t e) in
    binary_not_raw n t (m.1 ∙ ap Ok (valid_is Binary m.0 t m.2))
wrapped_not_raw Uuid key n ns r t e =
    let read = text_body binary_of_uuid in
    let m = bind_ok (read n) (or_bad Uuid) t (under_ok key (read n >>= or_bad Uuid) t e) in
    uuid_not_raw n t (m.1 ∙ ap Ok (valid_is Uuid m.0 t m.2))
wrapped_not_raw w key n ns r t e = other_not_raw t (wrapped_other w refl key n ns r t e)

-- one from any key on, by what is read on from another one
element_not_raw : (o : Option Wrapper) (key : Utf8) (n : Node) (ns : Nodes) (r : Reading Tree) (others : Tree → Reading Tree) (t : Tree)
    → ((u : Tree) → others u ≡ Ok t → is_raw t ≡ false) → by_key o key n r others (λ x. after_code x ns) (λ ps. after_scope ps ns) ≡ Ok t → is_raw t ≡ false
element_not_raw None key n ns r others t h e = let m = bind_ok (under key r) others t e in h m.0 m.2
element_not_raw (Some w) key n ns r others t h e = wrapped_not_raw w key n ns r t e

pub document_not_raw : (ns : Nodes) (ps : Pairs) (t : Tree) → document_tree ns ps ≡ Ok t → is_raw t ≡ false
document_not_raw ended ps t e = ok_not_raw (tree.document ps) t refl e
document_not_raw (faulty f) ps t e = absurd cc
document_not_raw (then_node k n ns) ps t e =
    element_not_raw (of_key k.bytes) k.bytes n ns (judged n >>= λ _. as_tree n) (λ u. document_tree ns (put k.bytes u ps)) t (λ u q. document_not_raw ns (put k.bytes u ps) t q) e

-- ---- values

extended_not_raw : (x : Extended) (t : Tree) → extended_tree x ≡ Ok t → is_raw t ≡ false
extended_not_raw (node.binary subtype b) t e = ok_not_raw (tree.binary subtype b.bytes) t refl e
extended_not_raw node.undefined t e = ok_not_raw tree.undefined t refl e
extended_not_raw (node.object_id id) t e = ok_not_raw (tree.object_id id.bytes) t refl e
extended_not_raw (node.date_time n) t e = ok_not_raw (tree.date_time n) t refl e
extended_not_raw (node.regular_expression p o) t e = ok_not_raw (tree.regular_expression p.bytes (sorted o.bytes)) t refl e
extended_not_raw (node.db_pointer namespace id) t e = ok_not_raw (tree.db_pointer namespace.bytes id) t refl e
extended_not_raw (node.javascript_code p) t e = ok_not_raw (tree.javascript_code p.bytes) t refl e
extended_not_raw (node.symbol p) t e = ok_not_raw (tree.symbol p.bytes) t refl e
extended_not_raw (node.javascript_code_with_scope p n) t e =
    let m = map_ok (tree.javascript_code_with_scope p.bytes) (under scope_key ((judged n >>= λ _. as_tree n) >>= pairs_in)) t e in ap is_raw (sym m.2)
extended_not_raw (node.timestamp time increment) t e = ok_not_raw (tree.timestamp time increment) t refl e
extended_not_raw (node.decimal128 b) t e = ok_not_raw (tree.decimal128 b.bytes) t refl e
extended_not_raw node.max_key t e = ok_not_raw tree.max_key t refl e
extended_not_raw node.min_key t e = ok_not_raw tree.min_key t refl e

value_not_raw : (n : Node) (t : Tree) → as_tree n ≡ Ok t → is_raw t ≡ false
value_not_raw (node.double bits) t e = ok_not_raw (tree.double bits) t refl e
value_not_raw (node.string p) t e = ok_not_raw (tree.string p.bytes) t refl e
value_not_raw (node.document slice ns) t e = document_not_raw ns no_pairs t e
value_not_raw (node.array slice ns) t e = let m = map_ok tree.array (array_trees 0 ns) t e in ap is_raw (sym m.2)
value_not_raw (node.bytes u b) t e = ok_not_raw (tree.binary 0 b.bytes) t refl e
value_not_raw (node.boolean b) t e = ok_not_raw (tree.boolean b) t refl e
value_not_raw node.null t e = ok_not_raw tree.null t refl e
value_not_raw (node.int32 n) t e = ok_not_raw (tree.int32 n) t refl e
value_not_raw (node.int64 n) t e = ok_not_raw (tree.int64 n) t refl e
value_not_raw (node.extended x ns) t e = extended_not_raw x t e
value_not_raw n t e = absurd cc

pub read_not_raw : (n : Node) (t : Tree) → read_tree n ≡ Ok t → is_raw t ≡ false
read_not_raw n t e = let m = bind_ok (judged n) as_tree t e in value_not_raw m.0 t m.2
