-- Whole documents whose texts are mended: what is read of one, and what was written of it is read and written so again.
use Rattle.std.proofs.Common.{◌≡◌, ◌^◌, ◌<◌, ◌≤◌, length, false, Some, Result, Ok, Err, refl, ap, sym, subst, ◌∙◌, arith}
use Rattle.bson_kinds.specs.Outcome.{result_map}
use Rattle.bson_base.specs.Sound.{IsSound, max_bytes, max_levels}
use Rattle.bson_kinds.specs.Text.{Bytes, AreBytes}
use Rattle.bson_base.specs.Tree.{Tree, document, raw, kind, enc}
use Rattle.bson_kinds.specs.declared.element_type.ElementType.{ElementType}
use Rattle.bson_kinds.specs.declared.element_type.ElementType.TheVariants.{EmbeddedDocument}
use Rattle.bson_rawdoc.specs.Envelope.{is_closed, envelope}
use Rattle.bson_rawdoc.specs.Node.{of_bytes, from_input, from_marked, node_in, inner_node, tree_node, mended}
use Rattle.bson_shape.specs.Form.{Form, lossy, no_fields}
use Rattle.bson_shape.specs.Makers as makers
use Rattle.bson_values.specs.Cause as cause
use Rattle.bson_values.specs.Marked.{Marked, contents}
use Rattle.bson_values.specs.Refusal.{ReadFault, Failure, bare, unreadable}
use Rattle.bson_values.specs.Value.{Value, kind_of}
use Rattle.bson_laws.specs.CompactReads.{reads_at, reads}
use Rattle.bson_laws.specs.Plain as plain
use Rattle.bson_laws.specs.Reads as at_settled
use Rattle.bson_laws.specs.Reads.{answered, document_at}
use Rattle.bson_laws.specs.Recursive.{view}
use Rattle.bson_laws.specs.Settled.{settled, IsSettled}
use Rattle.bson_laws.specs.Spell.{Writing, at_top, spell, spell_document, IsWrittenUnlessLarge, HoldsNumbers}
use Rattle.bson_laws.specs.Unrolled.{whole}
use Rattle.bson_laws.specs.Views.{views}
use Rattle.bson_laws.specs.Writable.{HasWritableKeys, KeepsDocument, IsWritable}
use Rattle.bson_laws.proofs.Again.{again}
use Rattle.bson_laws.proofs.AtShapes.{view_whole}
use Rattle.bson_laws.proofs.Codec.{seen_again}
use Rattle.bson_laws.proofs.Coded.{IsCoded, clean_coded}
use Rattle.bson_laws.proofs.Documents.{mended_top, closed_top, node_read, top_written, document_numbers}
use Rattle.bson_laws.proofs.Enveloped.{document_read}
use Rattle.bson_laws.proofs.Given.{given_lossy}
use Rattle.bson_laws.proofs.GivenAt.{reads_given}
use Rattle.bson_laws.proofs.Borrowed.{borrowed_owned}
use Rattle.bson_laws.proofs.Mended.{tree_mended}
use Rattle.bson_laws.proofs.PlainForms.{OwnsTexts, IsPlain}
use Rattle.bson_laws.proofs.PlainUnrolled.{own_whole, plain_whole}
use Rattle.bson_laws.proofs.ReadBack.{envelope_again, reads_again}
use Rattle.bson_laws.proofs.Settled.{settled_same, plain_settled, writable_settled}
use Rattle.bson_laws.proofs.SettledUnrolled.{settled_whole}
use Rattle.bson_laws.proofs.ShapeForms.{IsShape}
use Rattle.bson_laws.proofs.ShapeUnrolled.{shape_whole}
use Rattle.bson_laws.proofs.Sizes.{spell_kind}
use Rattle.bson_laws.proofs.WritableUnrolled.{writable_whole}
use Rattle.bson_de_raw.specs.ReadsLossy.{reads_lossy_marked, reads_lossy}

-- a document that passes the test of its envelope
pub lossy_read : (s : Form) (b d : Bytes) → envelope b ≡ Ok d → reads_lossy_marked s b ≡ answered (reads s (mended (inner_node max_levels EmbeddedDocument d)))
lossy_read s b d e = document_read (lossy (whole s)) b d e

-- ---- at the form that a shape is unrolled to

abbrev lossy_at : Form → Bytes → Result Value (Failure ReadFault)
lossy_at s = document_at (lossy s)

-- what is read is never refused for a number
pub lossy_numbers : (s : Form) (bytes : Bytes) (d : Value) → AreBytes bytes → reads_lossy s bytes ≡ Ok d → HoldsNumbers (spell_document d)
lossy_numbers s bytes d are e = document_numbers (lossy (whole s)) bytes d are e

-- what is read is written, unless it is too large
written_at : (s : Form) (bytes : Bytes) (d : Value) → IsShape s → HasWritableKeys s → KeepsDocument s → AreBytes bytes → lossy_at s bytes ≡ Ok d → IsWrittenUnlessLarge (spell_document d)
written_at s bytes d shape keys kept are e =
    let r = node_read (lossy s) bytes d are e in
    let n = node_in max_levels EmbeddedDocument r.0 in
    let there = subst (λ x. at_settled.reads (lossy x) n ≡ Ok r.1) (settled_same false s (writable_settled s keys)) r.3 in
    let given = given_lossy from_input (contents r.1) s (reads_given from_input (lossy s) n r.1 r.2 there) in
    subst (λ v. IsWrittenUnlessLarge (spell_document v)) r.4 (top_written from_marked s (mended n) r.1 (mended_top n (closed_top (is_closed r.0) (of_bytes r.0) _ _)) shape keys kept given there)

pub lossy_written : (s : Form) (bytes : Bytes) (d : Value) → makers.IsShape s → IsWritable s → AreBytes bytes → reads_lossy s bytes ≡ Ok d → IsWrittenUnlessLarge (spell_document d)
lossy_written s bytes d shape c are e = written_at (whole s) bytes d (shape_whole s shape) (writable_whole s c.keys) c.document are e

-- ---- again

top_ok : (k : ElementType) (r : Writing Tree) (t : Tree) → at_top k r ≡ Ok t → (k ≡ EmbeddedDocument) × (r ≡ Ok t)
top_ok EmbeddedDocument r t e = (refl, e)
top_ok k r t e = absurd cc

-- a document is read from its bytes as from itself
coded_read : (s : Form) (t : Tree) (m : Marked) → IsCoded t → kind t ≡ EmbeddedDocument → length (enc t) < 2 ^ 31 → at_settled.reads (settled false s) (mended (tree_node from_input t max_levels)) ≡ Ok m → lossy_at s (enc t) ≡ Ok (contents m)
coded_read s (document ps) m c k small e =
    ap (λ r. result_map contents (elim r [ Ok b ↦ answered (reads_at s (mended (node_in max_levels EmbeddedDocument b))) | Err f ↦ Err (bare (unreadable (cause.raw f))) ])) (envelope_again ps small)
    ∙ ap (λ n. result_map contents (answered (reads_at s (mended n)))) (seen_again max_levels (document ps) c small)
    ∙ ap (λ q. result_map contents (answered q)) e
coded_read s (raw EmbeddedDocument b) m c k small e =
    ap (λ r. result_map contents (elim r [ Ok b ↦ answered (reads_at s (mended (node_in max_levels EmbeddedDocument b))) | Err f ↦ Err (bare (unreadable (cause.raw f))) ])) c
    ∙ ap (λ q. result_map contents (answered q)) e
coded_read s t m c k small e = absurd cc

-- what a sound tree is at a plain shape is read from its bytes where texts are mended, if no text is borrowed
views_read : (s : Form) (t : Tree) (v : Value) → IsShape s → OwnsTexts s → IsPlain s → IsSound t → views s t ≡ Some v → lossy_at s (enc t) ≡ Ok v
views_read s (document ps) v shape owned is_plain h e =
    let small : length (enc (document ps)) < 2 ^ 31 = let f = h.fits in omega arith in
    let coded = clean_coded (document ps) h.clean in
    let r = reads_again from_marked s (document ps) v max_levels shape (borrowed_owned from_marked s refl owned) h.clean h.nests e in
    coded_read s (document ps) r.0 coded refl small
    (ap (λ x. at_settled.reads x (mended (tree_node from_input (document ps) max_levels))) (settled_same false s (plain_settled s is_plain)) ∙ ap (at_settled.reads s) (tree_mended from_input (document ps) max_levels coded) ∙ r.1)
    ∙ ap Ok r.2
views_read s t v shape owned is_plain h e = absurd h.document

pub lossy_views_read : (s : Form) (t : Tree) (v : Value) → makers.IsShape s → plain.OwnsTexts s → plain.IsPlain s → IsSound t → view no_fields s t ≡ Some v → reads_lossy s (enc t) ≡ Ok v
lossy_views_read s t v shape owned is_plain h e = views_read (whole s) t v (shape_whole s shape) (own_whole s owned) (plain_whole s is_plain) h (view_whole s t shape h.nests ∙ e)

-- What was read from bytes and is spelled as a tree is read from the bytes of the tree again, as what is spelled as the same tree. The shape may have all
-- levels that a shape may, so it is not the law at the shape whose texts are mended, which has one more.
again_at : (s : Form) (bytes : Bytes) (d : Value) (t : Tree) → IsShape s → IsSettled s → AreBytes bytes → lossy_at s bytes ≡ Ok d → spell_document d ≡ Ok t → length (enc t) ≤ max_bytes
    → (v : Value) × (lossy_at s (enc t) ≡ Ok v) × (spell_document v ≡ Ok t)
again_at s bytes d t shape expected are e spelled fits =
    let same = settled_same false s expected in
    let r = node_read (lossy s) bytes d are e in
    let top = top_ok (kind_of d) (spell d max_levels) t spelled in
    let n = node_in max_levels EmbeddedDocument r.0 in
    let given = reads_given from_input (lossy s) n r.1 r.2 (subst (λ x. at_settled.reads (lossy x) n ≡ Ok r.1) same r.3) in
    let k = again from_marked (contents r.1) s max_levels t shape expected (given_lossy from_input (contents r.1) s given) (omega (arith, fits)) (ap (λ v. spell v max_levels) r.4 ∙ top.1) in
    let is : kind t ≡ EmbeddedDocument = spell_kind false d max_levels t top.1 ∙ top.0 in (
      contents k.0,
      coded_read s t k.0 k.3 is (omega (arith, fits)) (ap (λ x. at_settled.reads x (mended (tree_node from_input t max_levels))) same ∙ ap (at_settled.reads s) (tree_mended from_input t max_levels k.3) ∙ k.1),
      ap (λ x. at_top x (spell (contents k.0) max_levels)) (sym (spell_kind false (contents k.0) max_levels t k.2) ∙ is) ∙ k.2,
    )

pub lossy_document_again : (s : Form) (bytes : Bytes) (d : Value) (t : Tree) → makers.IsShape s → IsSettled s → AreBytes bytes → reads_lossy s bytes ≡ Ok d → spell_document d ≡ Ok t → length (enc t) ≤ max_bytes
    → (v : Value) × (reads_lossy s (enc t) ≡ Ok v) × (spell_document v ≡ Ok t)
lossy_document_again s bytes d t shape expected are e spelled fits = again_at (whole s) bytes d t (shape_whole s shape) (settled_whole s expected) are e spelled fits
