-- Bytes that encode such a tree are kept at the leaf, those of a document at `document` too.
use Rattle.std.proofs.Common.{◌≡◌, ℕ, zero, suc, ◌^◌, ◌<◌, ◌≤◌, length, Bool, true, false, cond, Option, Some, None, Ok, Err, refl, ap, sym, subst, ◌∙◌, arith}
use Rattle.std.specs.Prelude.{nat_eq}
use Rattle.std.proofs.lemmas.Bool.{le-ltb}
use Rattle.std.proofs.lemmas.Bool.Decides.{nat_tests}
use Rattle.bson_kinds.specs.Kind.{byte}
use Rattle.bson_kinds.specs.Outcome.{◌>>=◌, result_map}
use Rattle.bson_base.specs.Sound.{max_binary}
use Rattle.bson_kinds.specs.Text.{Bytes}
use Rattle.bson_base.specs.Tree as tree
use Rattle.bson_base.specs.Tree.{Tree, kind, enc, behind_subtype}
use Rattle.bson_kinds.specs.declared.element_type.ElementType.{ElementType}
use Rattle.bson_kinds.specs.declared.element_type.ElementType.TheVariants.{EmbeddedDocument, Array, JavaScriptCodeWithScope}
use Rattle.bson_rawdoc.specs.Node as node
use Rattle.bson_rawdoc.specs.Envelope.{is_closed}
use Rattle.bson_rawdoc.specs.Node.{of_bytes, from_input, Node, Nodes, too_deep, nodes_with, node_in, tree_node}
use Rattle.bson_kinds.specs.Piece.{borrowed, made}
use Rattle.bson_rawdoc.specs.Walk.{walk}
use Rattle.bson_faults.specs.declared.raw.Error.{Error}
use Rattle.bson_faults.specs.declared.raw.Error.TheVariants.{ValueUnclosed}
use Rattle.bson_shape.specs.Form.{Form, leaf}
use Rattle.bson_shape.specs.declared.leaf.Leaf.{Leaf}
use Rattle.bson_shape.specs.declared.leaf.Leaf.TheVariants as leaves
use Rattle.bson_values.specs.Cause.{Cause, wrong_kind, binary_too_long}
use Rattle.bson_values.specs.Marked.{Marked, contents}
use Rattle.bson_values.specs.Refusal.{here, unwritable}
use Rattle.bson_values.specs.Value as value
use Rattle.bson_values.specs.Value.{Value}
use Rattle.bson_laws.specs.Datum.{datum, itself}
use Rattle.bson_laws.specs.Judged.{Reading, refused, judged, faultless, with_level}
use Rattle.bson_laws.specs.Leaves as leaf_kinds
use Rattle.bson_laws.specs.Leaves.{extended_values, leaf_kind, trees, documents}
use Rattle.bson_laws.specs.CompactReads.{reads}
use Rattle.bson_laws.specs.ReadsExtended.{read_extended, tree_of_kind}
use Rattle.bson_laws.specs.ReadsLeaf.{borrows, read_any, read_leaf_with}
use Rattle.bson_laws.specs.ReadsRaw.{raw_document_of, raw_array_of, raw_value_of}
use Rattle.bson_laws.specs.Spell.{spell}
use Rattle.bson_laws.specs.Trees.{as_tree, pairs_in}
use Rattle.bson_laws.proofs.Codec.{seen_again}
use Rattle.bson_laws.proofs.DatumContents.{datum_contents}
use Rattle.bson_laws.proofs.DatumSpelled.{tree_spelled}
use Rattle.bson_laws.proofs.GivenRaw.{a_tree, a_binary, binary_value, IsWhole, IsGivenRaw}
use Rattle.bson_laws.proofs.GivenTrees.{given_readable, given_sorted}
use Rattle.bson_laws.proofs.RawAgain.{raw_comes}
use Rattle.bson_laws.proofs.TreesRead.{judged_readable, tree_again}
use Rattle.bson_itself.specs.Encoded.{EncodesItself}
use Rattle.bson_itself.specs.Itself.{IsItself}
use Rattle.bson_itself.specs.Kept.{IsWrittenAsRead, leaf_of}
use Rattle.bson_itself.specs.declared.untyped.UntypedLeaf.{UntypedLeaf}
use Rattle.bson_itself.specs.declared.untyped.UntypedLeaf.TheVariants.{Any, Bson}
use Rattle.bson_itself.proofs.Bounds.{itself_coded, itself_within}
use Rattle.bson_itself.proofs.Given.{itself_given, itself_in_range, itself_encodable}
use Rattle.bson_itself.proofs.Law.{judged_any, same_tree}

-- what a tree that is itself at the leaf is read as at a shape
kept_at : (l : UntypedLeaf) (s : Form) (levels : ℕ) (b : Bytes) (t : Tree) (v : Marked) → length b < 2 ^ 31 → IsItself l t levels → enc t ≡ b → reads s (tree_node from_input t levels) ≡ Ok v → spell (contents v) levels ≡ Ok t → IsWrittenAsRead s levels (kind t) b
kept_at l s levels b t v small one is read spelled =
    let short : length (enc t) < 2 ^ 31 = subst (λ (x : Bytes). length x < 2 ^ 31) (sym is) small in
    let seen : node_in levels (kind t) b ≡ tree_node from_input t levels = ap (node_in levels (kind t)) (sym is) ∙ seen_again levels t (itself_coded l t levels one) short in
    record { given = v; tree = t; read = ap (reads s) seen ∙ read; spelled = spelled; kind_is = refl; encoded = is }

of_kind : (l : UntypedLeaf) (s : Form) (levels : ℕ) (k : ElementType) (b : Bytes) → EncodesItself l k levels b → ((t : Tree) → kind t ≡ k → IsItself l t levels → enc t ≡ b → IsWrittenAsRead s levels (kind t) b) → IsWrittenAsRead s levels k b
of_kind l s levels k b one each = subst (λ j. IsWrittenAsRead s levels j b) one.1 (each one.0 one.1 one.2 one.3)

-- ---- at `any`

-- what is judged is the node itself
level_same : (n m : Node) → with_level n ≡ Ok m → m ≡ n
level_same (too_deep k) m e = absurd cc
level_same n m e = cc

judged_same : (o : Option Error) (n m : Node) → faultless o n ≡ Ok m → m ≡ n
judged_same None n m e = level_same n m e
judged_same (Some f) n m e = absurd cc

any_by : (n : Node) (v : Marked) (r : Reading Node) → ((m : Node) → r ≡ Ok m → m ≡ n) → (r >>= λ _. read_any n) ≡ Ok v → (r >>= read_any) ≡ Ok v
any_by n v (Err f) same e = absurd cc
any_by n v (Ok m) same e = ap read_any (same m refl) ∙ e

reads_any : (n : Node) (v : Marked) → judged_any n ≡ Ok v → reads (leaf leaves.Any) n ≡ Ok v
reads_any n v e = any_by n v (judged n) (judged_same (node.fault n) n) e

any_kept : (levels : ℕ) (k : ElementType) (b : Bytes) → length b < 2 ^ 31 → EncodesItself Any k levels b → IsWrittenAsRead (leaf leaves.Any) levels k b
any_kept levels k b small one =
    of_kind Any (leaf leaves.Any) levels k b one
    (λ t is_kind own is. let s = same_tree t levels own in kept_at Any (leaf leaves.Any) levels b t s.given small own is (reads_any (tree_node from_input t levels) s.given s.read) s.spelled)

-- ---- at `bson` and at `document`

-- it is read as itself
tree_read : (t : Tree) (levels : ℕ) → IsItself Bson t levels → as_tree (tree_node from_input t levels) ≡ Ok t
tree_read t levels h =
    let given = itself_given t levels h in
    tree_again from_input t levels (given_readable t given) (itself_within Bson t levels h) ∙ ap Ok (given_sorted t given)

tree_judged : (t : Tree) (levels : ℕ) → IsItself Bson t levels → judged (tree_node from_input t levels) ≡ Ok (tree_node from_input t levels)
tree_judged t levels h = judged_readable from_input t levels (given_readable t (itself_given t levels h)) (itself_within Bson t levels h)

-- its data are spelled as itself
itself_spelled : (t : Tree) (levels : ℕ) → IsItself Bson t levels → spell (datum itself t) levels ≡ Ok t
itself_spelled t levels h =
    tree_spelled false t levels (itself_in_range t levels h) (itself_encodable t levels h) (itself_within Bson t levels h) ∙ ap Ok (given_sorted t (itself_given t levels h))

data_spelled : (t : Tree) (levels : ℕ) → IsItself Bson t levels → spell (contents (datum made t)) levels ≡ Ok t
data_spelled t levels h = ap (λ d. spell d levels) (datum_contents t) ∙ itself_spelled t levels h

bson_kept : (levels : ℕ) (k : ElementType) (b : Bytes) → length b < 2 ^ 31 → EncodesItself Bson k levels b → IsWrittenAsRead (leaf leaves.Bson) levels k b
bson_kept levels k b small one =
    of_kind Bson (leaf leaves.Bson) levels k b one
    (λ t is_kind own is.
    kept_at Bson (leaf leaves.Bson) levels b t (datum made t) small own is (ap (λ r. r >>= read_extended trees) (tree_judged t levels own) ∙ ap (result_map (datum made)) (tree_read t levels own))
    (data_spelled t levels own))

document_read : (t : Tree) (levels : ℕ) → kind t ≡ EmbeddedDocument → IsItself Bson t levels → read_extended documents (tree_node from_input t levels) ≡ Ok (datum made t)
document_read (tree.document ps) levels e h = ap (λ r. result_map (λ qs. datum made (tree.document qs)) (r >>= pairs_in)) (tree_read (tree.document ps) levels h)
document_read (tree.raw k b) levels e h = absurd h
document_read t levels e h = absurd cc

-- the law for a document at `document`
pub document_kept : (levels : ℕ) (b : Bytes) → length b < 2 ^ 31 → EncodesItself Bson EmbeddedDocument levels b → IsWrittenAsRead (leaf leaves.Document) levels EmbeddedDocument b
document_kept levels b small one =
    of_kind Bson (leaf leaves.Document) levels EmbeddedDocument b one
    (λ t is_kind own is.
    kept_at Bson (leaf leaves.Document) levels b t (datum made t) small own is (ap (λ r. r >>= read_extended documents) (tree_judged t levels own) ∙ document_read t levels is_kind own)
    (data_spelled t levels own))

-- the law for a value of a kind at a leaf of that kind
kind_same : (b : Bool) (t : Tree) (c : Cause) → b ≡ true → cond b (Ok t) (refused c) ≡ Ok t
kind_same b t c e = ap (λ x. cond x (Ok t) (refused c)) e

kind_read : (k : ElementType) (t : Tree) (levels : ℕ) → kind t ≡ k → IsItself Bson t levels → read_extended (leaf_kinds.of_kind k) (tree_node from_input t levels) ≡ Ok (datum made t)
kind_read k t levels e h =
    let alike : byte (kind t) ≡ byte k = ap byte e in
    let same : nat_eq (byte (kind t)) (byte k) ≡ true = grind (arith, nat_tests, alike) in
    ap (λ r. result_map (datum made) (r >>= tree_of_kind k)) (tree_read t levels h) ∙ ap (result_map (datum made)) (kind_same (nat_eq (byte (kind t)) (byte k)) t (wrong_kind (kind t)) same)

pub kind_kept : (l : Leaf) (levels : ℕ) (k : ElementType) (b : Bytes) → leaf_kind l ≡ extended_values (leaf_kinds.of_kind k) → length b < 2 ^ 31 → EncodesItself Bson k levels b → IsWrittenAsRead (leaf l) levels k b
kind_kept l levels k b is_leaf small one =
    of_kind Bson (leaf l) levels k b one
    (λ t is_kind own is.
    kept_at Bson (leaf l) levels b t (datum made t) small own is
    (ap (λ j. judged (tree_node from_input t levels) >>= read_leaf_with read_extended (borrows l) j) is_leaf ∙ ap (λ r. r >>= read_extended (leaf_kinds.of_kind k)) (tree_judged t levels own) ∙ kind_read k t levels is_kind own)
    (data_spelled t levels own))

-- ---- in its bytes

-- what is read at `rawbson` of such a tree, if no document is in it and no array is
record IsRawValue (t : Tree) (levels : ℕ) : Type 0 where
  pub given : Value
  pub is_given : IsGivenRaw given
  pub spelled : spell given levels ≡ Ok t

-- a tree without a document in it, or an array
abbrev HoldsNone : ElementType → Type 0
HoldsNone EmbeddedDocument = ⊥
HoldsNone Array = ⊥
HoldsNone JavaScriptCodeWithScope = ⊥
HoldsNone k = Unit {0}

same_value : (t : Tree) (levels : ℕ) → IsItself Bson t levels → IsWhole t → IsRawValue t levels
same_value t levels h w = record { given = datum itself t; is_given = (a_tree t, w, refl); spelled = itself_spelled t levels h }

binary_spelled : (n : ℕ) (b : Bytes) (levels : ℕ) → length b ≤ max_binary (suc n) → spell (binary_value (suc n) b) levels ≡ Ok (tree.binary (suc n) b)
binary_spelled n b levels fits = ap (λ c. cond c (Err (here (unwritable (binary_too_long (length (behind_subtype (suc n) b)))))) (Ok (tree.binary (suc n) b))) (le-ltb (max_binary (suc n)) (length b) fits)

raw_value : (t : Tree) (levels : ℕ) → HoldsNone (kind t) → IsItself Bson t levels → IsRawValue t levels
raw_value (tree.document ps) levels none h = absurd none
raw_value (tree.array ts) levels none h = absurd none
raw_value (tree.javascript_code_with_scope code scope) levels none h = absurd none
raw_value (tree.raw k b) levels none h = absurd h
raw_value (tree.binary zero b) levels none h = same_value (tree.binary zero b) levels h tt
raw_value (tree.binary (suc n) b) levels none h = record { given = binary_value (suc n) b; is_given = (a_binary (suc n) b, h.1.is_byte, refl); spelled = binary_spelled n b levels h.1.fits }
raw_value (tree.double b) levels none h = same_value (tree.double b) levels h h.count
raw_value (tree.object_id id) levels none h = same_value (tree.object_id id) levels h (h.count, h.are_bytes)
raw_value (tree.regular_expression p q) levels none h = same_value (tree.regular_expression p q) levels h (h.0.text, h.1.text, h.0.no_zero, h.1.no_zero)
raw_value (tree.db_pointer namespace id) levels none h = same_value (tree.db_pointer namespace id) levels h (h.0, h.1.count, h.1.are_bytes)
raw_value (tree.decimal128 b) levels none h = same_value (tree.decimal128 b) levels h h.count
raw_value t levels none h = same_value t levels h h

raw_kept : (levels : ℕ) (k : ElementType) (b : Bytes) → HoldsNone k → length b < 2 ^ 31 → EncodesItself Bson k levels b → IsWrittenAsRead (leaf leaves.RawBson) levels k b
raw_kept levels k b none small one =
    of_kind Bson (leaf leaves.RawBson) levels k b one
    (λ t is_kind own is.
    let v = raw_value t levels (subst HoldsNone (sym is_kind) none) own in
    let short : length (enc t) < 2 ^ 31 = subst (λ (x : Bytes). length x < 2 ^ 31) (sym is) small in
    let read = raw_comes from_input v.given levels t short v.is_given v.spelled in
    kept_at Bson (leaf leaves.RawBson) levels b t read.0 small own is read.1 read.2)

-- the law for a value of another kind at `rawbson`
pub raw_value_kept : (levels : ℕ) (k : ElementType) (b : Bytes) → (k ≡ EmbeddedDocument → ⊥) → (k ≡ Array → ⊥) → (k ≡ JavaScriptCodeWithScope → ⊥) → length b < 2 ^ 31 → EncodesItself Bson k levels b → IsWrittenAsRead (leaf leaves.RawBson) levels k b
raw_value_kept levels EmbeddedDocument b d a c small one = absurd (d refl)
raw_value_kept levels Array b d a c small one = absurd (a refl)
raw_value_kept levels JavaScriptCodeWithScope b d a c small one = absurd (c refl)
raw_value_kept levels k b d a c small one = raw_kept levels k b tt small one

-- the law for a document or an array at a leaf that takes it in its bytes, whatever is in them
framed_kept : (s : Form) (k : ElementType) (v : Marked) (levels : ℕ) (b : Bytes) → ((m : ℕ) → reads s (node_in (suc m) k b) ≡ Ok v) → ((m : ℕ) → spell (contents v) (suc m) ≡ Ok (tree.raw k b)) → 1 ≤ levels → IsWrittenAsRead s levels k b
framed_kept s k v zero b read spelled one = absurd (omega (arith, one))
framed_kept s k v (suc m) b read spelled one = record { given = v; tree = tree.raw k b; read = read m; spelled = spelled m; kind_is = refl; encoded = refl }

-- a document that is closed, and an array
closed_document : (m : ℕ) (b : Bytes) (read : Node → Reading Marked) (v : Marked) → is_closed b ≡ true → ((ns : Nodes) → read (node.document (of_bytes b) ns) ≡ Ok v) → (judged (node_in (suc m) EmbeddedDocument b) >>= read) ≡ Ok v
closed_document m b read v closed each =
    let ns = nodes_with (node_in m) (walk b) in ap (λ c. judged (cond c (node.document (of_bytes b) ns) (node.broken EmbeddedDocument ValueUnclosed)) >>= read) closed ∙ each ns

closed_array : (m : ℕ) (b : Bytes) (read : Node → Reading Marked) (v : Marked) → is_closed b ≡ true → ((ns : Nodes) → read (node.array (of_bytes b) ns) ≡ Ok v) → (judged (node_in (suc m) Array b) >>= read) ≡ Ok v
closed_array m b read v closed each =
    let ns = nodes_with (node_in m) (walk b) in ap (λ c. judged (cond c (node.array (of_bytes b) ns) (node.broken Array ValueUnclosed)) >>= read) closed ∙ each ns

pub raw_document_kept : (levels : ℕ) (b : Bytes) → 1 ≤ levels → is_closed b ≡ true → IsWrittenAsRead (leaf leaves.RawDocument) levels EmbeddedDocument b
raw_document_kept levels b one closed =
    framed_kept (leaf leaves.RawDocument) EmbeddedDocument (value.raw_document (borrowed b)) levels b (λ m. closed_document m b (λ n. result_map value.raw_document (raw_document_of n)) (value.raw_document (borrowed b)) closed (λ ns. refl)) (λ m. refl) one

pub raw_array_kept : (levels : ℕ) (b : Bytes) → 1 ≤ levels → is_closed b ≡ true → IsWrittenAsRead (leaf leaves.RawArray) levels Array b
raw_array_kept levels b one closed =
    framed_kept (leaf leaves.RawArray) Array (value.raw_array (borrowed b)) levels b (λ m. closed_array m b (λ n. result_map value.raw_array (raw_array_of n)) (value.raw_array (borrowed b)) closed (λ ns. refl)) (λ m. refl) one

pub raw_bson_document_kept : (levels : ℕ) (b : Bytes) → 1 ≤ levels → is_closed b ≡ true → IsWrittenAsRead (leaf leaves.RawBson) levels EmbeddedDocument b
raw_bson_document_kept levels b one closed =
    framed_kept (leaf leaves.RawBson) EmbeddedDocument (value.raw_document (borrowed b)) levels b (λ m. closed_document m b raw_value_of (value.raw_document (borrowed b)) closed (λ ns. refl)) (λ m. refl) one

pub raw_bson_array_kept : (levels : ℕ) (b : Bytes) → 1 ≤ levels → is_closed b ≡ true → IsWrittenAsRead (leaf leaves.RawBson) levels Array b
raw_bson_array_kept levels b one closed =
    framed_kept (leaf leaves.RawBson) Array (value.raw_array (borrowed b)) levels b (λ m. closed_array m b raw_value_of (value.raw_array (borrowed b)) closed (λ ns. refl)) (λ m. refl) one

-- the law at the leaf
pub itself_kept : (l : UntypedLeaf) (levels : ℕ) (k : ElementType) (b : Bytes) → length b < 2 ^ 31 → EncodesItself l k levels b → IsWrittenAsRead (leaf (leaf_of l)) levels k b
itself_kept Any levels k b small one = any_kept levels k b small one
itself_kept Bson levels k b small one = bson_kept levels k b small one
