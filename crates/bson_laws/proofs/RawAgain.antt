-- What stays in its bytes and is spelled as a tree is read from the tree again, as what is spelled as the same tree.
use Rattle.std.proofs.Common.{◌≡◌, ℕ, zero, suc, ◌^◌, ◌<◌, ◌++◌, length, pos, Bool, true, false, cond, Some, None, Ok, refl, ap, sym, subst, ◌∙◌, arith}
use Rattle.std.specs.Prelude.{codes}
use Rattle.std.specs.Str.{is_utf8}
use Rattle.std.proofs.lemmas.Bool.{cond-true}
use Rattle.bson_base.specs.Made.{digits}
use Rattle.bson_kinds.specs.Outcome.{◌>>=◌, result_map, or_else}
use Rattle.bson_base.specs.Sorted.{sorted}
use Rattle.bson_kinds.specs.Text.{Bytes, Utf8}
use Rattle.bson_base.specs.Tree as tree
use Rattle.bson_base.specs.Tree.{Tree, closed_text, after_total, enc}
use Rattle.bson_kinds.specs.declared.element_type.ElementType.{ElementType}
use Rattle.bson_kinds.specs.declared.element_type.ElementType.TheVariants.{EmbeddedDocument, Array, JavaScriptCodeWithScope}
use Rattle.bson_kinds.proofs.Outcomes.{ok_is}
use Rattle.bson_rawdoc.specs.Node as node
use Rattle.bson_rawdoc.specs.Node.{of_bytes, Sight, Node, Nodes, opens, text_fault, mended, mended_text, mended_nodes, or_broken, nodes_with, closed_node, node_in, piece, mended_if, tree_node}
use Rattle.bson_kinds.specs.Piece.{Piece, borrowed, made}
use Rattle.bson_rawdoc.specs.Walk.{walk}
use Rattle.bson_faults.specs.declared.raw.Error.TheVariants.{NotUtf8, ValueUnclosed}
use Rattle.bson_values.specs.Marked.{Marked, contents}
use Rattle.bson_values.specs.Value as value
use Rattle.bson_values.specs.Value.{i32, i64, u8, Value}
use Rattle.bson_laws.specs.Datum.{datum, itself, one, two, nameless, wrapped}
use Rattle.bson_laws.specs.Judged.{Reading, faultless, judged}
use Rattle.bson_laws.specs.ReadsRaw.{raw_document_of, raw_array_of, scoped_code, decimal_struct, raw_value_of}
use Rattle.bson_laws.specs.Spell.{in_bytes, spell}
use Rattle.bson_laws.proofs.Coded.{IsCoded}
use Rattle.bson_laws.proofs.Codec.{scoped_again}
use Rattle.bson_laws.proofs.DatumSpelled.{tree_spelled}
use Rattle.bson_laws.proofs.Framed.{IsFramed, frame}
use Rattle.bson_laws.proofs.GivenRaw.{a_document, an_array, a_tree, a_binary, a_code, binary_value, code_value, IsWhole, IsGivenRaw}
use Rattle.bson_laws.proofs.GivenTrees.{IsGivenTree}
use Rattle.bson_laws.proofs.Judged.{text_whole, both_whole}
use Rattle.bson_laws.proofs.Mended.{mended_text_fault}
use Rattle.bson_laws.proofs.MendedTexts.{whole_mended}
use Rattle.bson_laws.proofs.ParsedSizes.{sorted_text, sorted_twice}
use Rattle.bson_laws.proofs.Sizes.{binary_is, expression_spelled}
use Rattle.bson_laws.proofs.TreesAgain.{datum_spelled}
use Rattle.bson_laws.proofs.ZeroFree.{free_sorted}
use Rattle.bson_kinds.proofs.Apart.{no_ok}

-- what is read from the tree so is spelled as the tree
abbrev pub ComesBy : (at : Sight) → (Node → Reading Marked) → ℕ → Tree → Type 0
ComesBy at read levels t = (m : Marked) × ((judged (tree_node at t levels) >>= read) ≡ Ok m) × (spell (contents m) levels ≡ Ok t) × IsCoded t

-- ---- documents and arrays

-- where a level is left, it is what it is spelled as
in_bytes_case : (P : ℕ → Tree → Type 0) (k : ElementType) (b : Bytes) (levels : ℕ) (t : Tree) → in_bytes k b levels ≡ Ok t → ((n : ℕ) → P (suc n) (tree.raw k b)) → P levels t
in_bytes_case P k b zero t e f = absurd cc
in_bytes_case P k b (suc n) t e f = subst (P (suc n)) (ok_is (tree.raw k b) t e) (f n)

-- framed bytes are the document of their elements
framed_document : (n : ℕ) (b : Bytes) → IsFramed b → node_in (suc n) EmbeddedDocument b ≡ node.document (of_bytes b) (nodes_with (node_in n) (walk b))
framed_document n b f = ap (λ c. cond c (node.document (of_bytes b) (nodes_with (node_in n) (walk b))) (node.broken EmbeddedDocument ValueUnclosed)) (frame b b f).2

framed_array : (n : ℕ) (b : Bytes) → IsFramed b → node_in (suc n) Array b ≡ node.array (of_bytes b) (nodes_with (node_in n) (walk b))
framed_array n b f = ap (λ c. cond c (node.array (of_bytes b) (nodes_with (node_in n) (walk b))) (node.broken Array ValueUnclosed)) (frame b b f).2

-- mended or not, it keeps its bytes
document_node : (u : Bool) (n : ℕ) (b : Bytes) → IsFramed b → (ns : Nodes) × (mended_if u (node_in (suc n) EmbeddedDocument b) ≡ node.document (of_bytes b) ns)
document_node true n b f = (mended_nodes (nodes_with (node_in n) (walk b)), ap mended (framed_document n b f))
document_node false n b f = (nodes_with (node_in n) (walk b), framed_document n b f)

array_node : (u : Bool) (n : ℕ) (b : Bytes) → IsFramed b → (ns : Nodes) × (mended_if u (node_in (suc n) Array b) ≡ node.array (of_bytes b) ns)
array_node true n b f = (mended_nodes (nodes_with (node_in n) (walk b)), ap mended (framed_array n b f))
array_node false n b f = (nodes_with (node_in n) (walk b), framed_array n b f)

-- it is read wherever a document is read in its bytes
raw_document_comes : (at : Sight) (read : Node → Reading Marked) (b : Bytes) (levels : ℕ) (t : Tree) → ((ns : Nodes) → read (node.document (of_bytes b) ns) ≡ Ok (value.raw_document (borrowed b))) → IsFramed b
    → spell (value.raw_document b) levels ≡ Ok t → ComesBy at read levels t
raw_document_comes at read b levels t each f e =
    in_bytes_case (ComesBy at read) EmbeddedDocument b levels t e
    (λ n. let d = document_node at.under_mark n b f in (value.raw_document (borrowed b), ap (λ x. judged x >>= read) d.1 ∙ each d.0, refl, f))

raw_array_comes : (at : Sight) (read : Node → Reading Marked) (b : Bytes) (levels : ℕ) (t : Tree) → ((ns : Nodes) → read (node.array (of_bytes b) ns) ≡ Ok (value.raw_array (borrowed b))) → IsFramed b
    → spell (value.raw_array b) levels ≡ Ok t → ComesBy at read levels t
raw_array_comes at read b levels t each f e =
    in_bytes_case (ComesBy at read) Array b levels t e
    (λ n. let d = array_node at.under_mark n b f in (value.raw_array (borrowed b), ap (λ x. judged x >>= read) d.1 ∙ each d.0, refl, f))

pub document_comes : (at : Sight) (b : Bytes) (levels : ℕ) (t : Tree) → IsFramed b → spell (value.raw_document b) levels ≡ Ok t → ComesBy at (λ n. result_map value.raw_document (raw_document_of n)) levels t
document_comes at b levels t f e = raw_document_comes at (λ n. result_map value.raw_document (raw_document_of n)) b levels t (λ ns. refl) f e

pub array_comes : (at : Sight) (b : Bytes) (levels : ℕ) (t : Tree) → IsFramed b → spell (value.raw_array b) levels ≡ Ok t → ComesBy at (λ n. result_map value.raw_array (raw_array_of n)) levels t
array_comes at b levels t f e = raw_array_comes at (λ n. result_map value.raw_array (raw_array_of n)) b levels t (λ ns. refl) f e

-- ---- values that are the same as a tree

abbrev RawComes : (at : Sight) → ℕ → Tree → Type 0
RawComes at = ComesBy at raw_value_of

same_comes : (at : Sight) (t : Tree) (levels : ℕ) (u : Tree) (m : Marked) → IsGivenTree t → spell (datum itself t) levels ≡ Ok u → (judged (tree_node at t levels) >>= raw_value_of) ≡ Ok m → contents m ≡ datum itself t
    → RawComes at levels u
same_comes at t levels u m g e read is =
    let h = datum_spelled t levels u g e in
    subst (RawComes at levels) (sym h.0) (m, read, ap (λ x. spell x levels) is ∙ e ∙ ap Ok h.0, h.2)

text_read : (at : Sight) (x : Utf8) (n : Node) → is_utf8 x ≡ true → (faultless (text_fault (piece at.texts x)) n >>= raw_value_of) ≡ (faultless None n >>= raw_value_of)
text_read at x n h = ap (λ o. faultless o n >>= raw_value_of) (text_whole at x h)

expression_comes : (at : Sight) (p q : Utf8) (levels : ℕ) (u : Tree) → IsWhole (tree.regular_expression p q) → spell (datum itself (tree.regular_expression p q)) levels ≡ Ok u → RawComes at levels u
expression_comes at p q levels u w e =
    let h = expression_spelled p q u e in
    let s = sorted q in
    let text = sorted_text q w.1 in
    let zero = (free_sorted q (record { text = w.1; no_zero = w.3 })).no_zero in
    let first = piece at.texts p in
    let second = piece at.texts s in
    subst (RawComes at levels) (sym h.0) (
      wrapped made (codes "$regularExpression") (nameless made (two made (codes "pattern") (value.str first) (codes "options") (value.str second))),
      ap (λ o. faultless o (opens (node.regular_expression first second)) >>= raw_value_of) (both_whole _ _ (text_whole at p w.0) (text_whole at s text)),
      tree_spelled false (tree.regular_expression p s) levels (w.0, text) (w.2, zero) (omega arith) ∙ ap (λ x. Ok (tree.regular_expression p x)) (sorted_twice q w.1),
      ((w.0, w.2), (text, zero)),
    )

whole_comes : (at : Sight) (t : Tree) (levels : ℕ) (u : Tree) → IsWhole t → spell (datum itself t) levels ≡ Ok u → RawComes at levels u
whole_comes at (tree.double bits) levels u w e = same_comes at (tree.double bits) levels u (value.double bits) w e refl refl
whole_comes at (tree.string x) levels u w e = same_comes at (tree.string x) levels u (value.str (piece at.texts x)) w e (text_read at x (node.string (piece at.texts x)) w) refl
whole_comes at (tree.binary zero b) levels u w e = same_comes at (tree.binary 0 b) levels u (value.bytes (piece at.bytes b)) tt e refl refl
whole_comes at tree.undefined levels u w e = same_comes at tree.undefined levels u (datum made tree.undefined) tt e refl refl
whole_comes at (tree.object_id id) levels u w e = same_comes at (tree.object_id id) levels u (datum made (tree.object_id id)) w e refl refl
whole_comes at (tree.boolean b) levels u w e = same_comes at (tree.boolean b) levels u (value.boolean b) tt e refl refl
whole_comes at (tree.date_time n) levels u w e = same_comes at (tree.date_time n) levels u (datum made (tree.date_time n)) w e refl refl
whole_comes at tree.null levels u w e = same_comes at tree.null levels u value.unit tt e refl refl
whole_comes at (tree.regular_expression p q) levels u w e = expression_comes at p q levels u w e
whole_comes at (tree.db_pointer namespace id) levels u w e =
    let p = piece at.texts namespace in
    same_comes at (tree.db_pointer namespace id) levels u
    (wrapped made (codes "$dbPointer") (nameless made (two made (codes "$ref") (value.str p) (codes "$id") (nameless made (one made (codes "$oid") (value.str (made (digits id))))))))
    w e (text_read at namespace (opens (node.db_pointer p id)) w.0) refl
whole_comes at (tree.javascript_code x) levels u w e =
    let p = piece at.texts x in same_comes at (tree.javascript_code x) levels u (wrapped made (codes "$code") (value.str p)) w e (text_read at x (opens (node.javascript_code p)) w) refl
whole_comes at (tree.symbol x) levels u w e =
    let p = piece at.texts x in same_comes at (tree.symbol x) levels u (wrapped made (codes "$symbol") (value.str p)) w e (text_read at x (opens (node.symbol p)) w) refl
whole_comes at (tree.int32 n) levels u w e = same_comes at (tree.int32 n) levels u (value.integer i32 n) w e refl refl
whole_comes at (tree.timestamp time increment) levels u w e = same_comes at (tree.timestamp time increment) levels u (datum made (tree.timestamp time increment)) w e refl refl
whole_comes at (tree.int64 n) levels u w e = same_comes at (tree.int64 n) levels u (value.integer i64 n) w e refl refl
whole_comes at (tree.decimal128 b) levels u w e = same_comes at (tree.decimal128 b) levels u (decimal_struct (piece at.bytes b)) w e refl refl
whole_comes at tree.max_key levels u w e = same_comes at tree.max_key levels u (datum made tree.max_key) tt e refl refl
whole_comes at tree.min_key levels u w e = same_comes at tree.min_key levels u (datum made tree.min_key) tt e refl refl
whole_comes at t levels u w e = absurd w

-- ---- binaries

binary_comes : (at : Sight) (n : ℕ) (b : Bytes) (levels : ℕ) (t : Tree) → spell (binary_value n b) levels ≡ Ok t → RawComes at levels t
binary_comes at zero b levels t e =
    let is = binary_is _ _ 0 b t e in
    subst (RawComes at levels) is (value.bytes (piece at.bytes b), refl, e ∙ ap Ok (sym is), tt)
binary_comes at (suc n) b levels t e =
    let is = binary_is _ _ (suc n) b t e in
    let p = piece at.bytes b in
    subst (RawComes at levels) is
    (wrapped made (codes "$binary") (nameless made (two made (codes "bytes") (value.bytes p) (codes "subType") (value.integer u8 (pos (suc n))))), refl, e ∙ ap Ok (sym is), tt)

-- ---- code with a scope

-- the value of such bytes
abbrev code_node : Piece → Bytes → Nodes → Node
code_node p scope ns = opens (node.javascript_code_with_scope p (node.document (of_bytes scope) ns))

coded_node : (n : ℕ) (code : Utf8) (scope : Bytes) → IsFramed scope → length (after_total (closed_text code ++ scope)) < 2 ^ 31
    → node_in (suc n) JavaScriptCodeWithScope (after_total (closed_text code ++ scope)) ≡ code_node (borrowed code) scope (nodes_with (node_in n) (walk scope))
coded_node n code scope f l =
    ap (or_broken JavaScriptCodeWithScope (λ p. opens (node.javascript_code_with_scope p.0 (closed_node EmbeddedDocument p.1 (node.document (of_bytes p.1) (nodes_with (node_in n) (walk p.1))))))) (scoped_again code scope (frame scope scope f).1 l)
    ∙ ap (λ x. opens (node.javascript_code_with_scope (borrowed code) x)) (framed_document n scope f)

code_read : (u : Bool) (code : Utf8) (scope : Bytes) (ns : Nodes) → is_utf8 code ≡ true
    → (m : Marked) × ((judged (mended_if u (code_node (borrowed code) scope ns)) >>= raw_value_of) ≡ Ok m) × (contents m ≡ code_value code scope)
code_read false code scope ns h = (
  scoped_code (borrowed code) (borrowed scope),
  ap (λ o. faultless (or_else o None) (code_node (borrowed code) scope ns) >>= raw_value_of) (cond-true (is_utf8 code) None (Some NotUtf8) h),
  refl,
)
code_read true code scope ns h =
    let p = mended_text (borrowed code) in (
      scoped_code p (borrowed scope),
      ap (λ o. faultless (or_else o None) (code_node p scope (mended_nodes ns)) >>= raw_value_of) (mended_text_fault (borrowed code)),
      ap (λ x. code_value x scope) (whole_mended code h),
    )

code_comes : (at : Sight) (code : Utf8) (scope : Bytes) (levels : ℕ) (t : Tree) → length (enc t) < 2 ^ 31 → is_utf8 code ≡ true → IsFramed scope → spell (code_value code scope) levels ≡ Ok t → RawComes at levels t
code_comes at code scope zero t l h f e = absurd (no_ok e)
code_comes at code scope (suc n) t l h f e =
    let u = tree.raw JavaScriptCodeWithScope (after_total (closed_text code ++ scope)) in
    let is : u ≡ t = ok_is u t e in
    let r = code_read at.under_mark code scope (nodes_with (node_in n) (walk scope)) h in
    subst (RawComes at (suc n)) is (
      r.0,
      ap (λ x. judged (mended_if at.under_mark x) >>= raw_value_of) (coded_node n code scope f (subst (λ x. length (enc x) < 2 ^ 31) (sym is) l)) ∙ r.1,
      ap (λ v. spell v (suc n)) r.2,
      (code, scope, h, f, refl),
    )

-- ---- all

pub raw_comes : (at : Sight) (v : Value) (levels : ℕ) (t : Tree) → length (enc t) < 2 ^ 31 → IsGivenRaw v → spell v levels ≡ Ok t → ComesBy at raw_value_of levels t
raw_comes at v levels t l (a_document b, f, is) e = raw_document_comes at raw_value_of b levels t (λ ns. refl) f (ap (λ x. spell x levels) (sym is) ∙ e)
raw_comes at v levels t l (an_array b, f, is) e = raw_array_comes at raw_value_of b levels t (λ ns. refl) f (ap (λ x. spell x levels) (sym is) ∙ e)
raw_comes at v levels t l (a_tree u, f, is) e = whole_comes at u levels t f (ap (λ x. spell x levels) (sym is) ∙ e)
raw_comes at v levels t l (a_binary n b, f, is) e = binary_comes at n b levels t (ap (λ x. spell x levels) (sym is) ∙ e)
raw_comes at v levels t l (a_code code scope, f, is) e = code_comes at code scope levels t l f.0 f.1 (ap (λ x. spell x levels) (sym is) ∙ e)
