-- What was read and written is read again, and written as the same bytes.
use Rattle.std.proofs.Common.{◌≡◌, ◌^◌, ◌<◌, ◌≤◌, length, false, Ok, Err, refl, ap, sym, subst, ◌∙◌, arith}
use Rattle.bson_kinds.specs.Outcome.{result_map}
use Rattle.bson_base.specs.Sound.{max_levels, max_bytes}
use Rattle.bson_kinds.specs.Text.{Bytes, AreBytes}
use Rattle.bson_base.specs.Tree.{Tree, document, raw, kind, enc}
use Rattle.bson_kinds.specs.declared.element_type.ElementType.{ElementType}
use Rattle.bson_kinds.specs.declared.element_type.ElementType.TheVariants.{EmbeddedDocument}
use Rattle.bson_rawdoc.specs.Node.{from_input, node_in, tree_node}
use Rattle.bson_shape.specs.Form.{Form}
use Rattle.bson_values.specs.Cause as cause
use Rattle.bson_values.specs.Marked.{Marked, contents}
use Rattle.bson_values.specs.Refusal.{bare, unreadable}
use Rattle.bson_values.specs.Value.{Value, kind_of}
use Rattle.bson_laws.specs.Reads.{reads, answered, document_at}
use Rattle.bson_laws.specs.Settled.{settled, IsSettled}
use Rattle.bson_laws.specs.Spell.{Writing, at_top, spell, spell_document, size}
use Rattle.bson_laws.proofs.ShapeForms.{IsShape}
use Rattle.bson_laws.proofs.Again.{again}
use Rattle.bson_laws.proofs.Codec.{seen_again}
use Rattle.bson_laws.proofs.Coded.{IsCoded}
use Rattle.bson_laws.proofs.Documents.{node_read}
use Rattle.bson_laws.proofs.GivenAt.{reads_given}
use Rattle.bson_laws.proofs.ReadBack.{envelope_again}
use Rattle.bson_laws.proofs.Settled.{settled_same}
use Rattle.bson_laws.proofs.Sizes.{spell_kind, length-spell}
use Rattle.bson_kinds.proofs.Apart.{no_ok}

top_ok : (k : ElementType) (r : Writing Tree) (t : Tree) → at_top k r ≡ Ok t → (k ≡ EmbeddedDocument) × (r ≡ Ok t)
top_ok EmbeddedDocument r t e = (refl, e)
top_ok k r t e = absurd (no_ok e)

-- a document takes as many bytes as the size of its value says
pub document_size : (d : Value) (t : Tree) → spell_document d ≡ Ok t → size d ≡ length (enc t)
document_size d t e = sym (length-spell false d max_levels t (top_ok (kind_of d) (spell d max_levels) t e).1)

-- a document is read from its bytes as from itself
coded_read : (s : Form) (t : Tree) (m : Marked) → IsCoded t → kind t ≡ EmbeddedDocument → length (enc t) < 2 ^ 31 → reads (settled false s) (tree_node from_input t max_levels) ≡ Ok m → document_at s (enc t) ≡ Ok (contents m)
coded_read s (document ps) m c k small e =
    ap (λ r. result_map contents (elim r [ Ok b ↦ answered (reads (settled false s) (node_in max_levels EmbeddedDocument b)) | Err f ↦ Err (bare (unreadable (cause.raw f))) ])) (envelope_again ps small)
    ∙ ap (λ n. result_map contents (answered (reads (settled false s) n))) (seen_again max_levels (document ps) c small)
    ∙ ap (λ q. result_map contents (answered q)) e
coded_read s (raw EmbeddedDocument b) m c k small e =
    ap (λ r. result_map contents (elim r [ Ok b ↦ answered (reads (settled false s) (node_in max_levels EmbeddedDocument b)) | Err f ↦ Err (bare (unreadable (cause.raw f))) ])) c
    ∙ ap (λ q. result_map contents (answered q)) e
coded_read s t m c k small e = absurd cc

-- what was read from bytes and is spelled as a tree is read from the bytes of the tree again, as what is spelled as the same tree
pub document_again : (s : Form) (bytes : Bytes) (d : Value) (t : Tree) → IsShape s → IsSettled s → AreBytes bytes → document_at s bytes ≡ Ok d → spell_document d ≡ Ok t → length (enc t) ≤ max_bytes
    → (v : Value) × (document_at s (enc t) ≡ Ok v) × (spell_document v ≡ Ok t)
document_again s bytes d t p expected h e q l =
    let same = settled_same false s expected in
    let r = node_read s bytes d h e in
    let top = top_ok (kind_of d) (spell d max_levels) t q in
    let n = node_in max_levels EmbeddedDocument r.0 in
    let given = reads_given from_input s n r.1 r.2 (subst (λ x. reads x n ≡ Ok r.1) same r.3) in
    let k = again from_input (contents r.1) s max_levels t p expected given (omega (arith, l)) (ap (λ v. spell v max_levels) r.4 ∙ top.1) in
    let is : kind t ≡ EmbeddedDocument = spell_kind false d max_levels t top.1 ∙ top.0 in (
      contents k.0,
      coded_read s t k.0 k.3 is (omega (arith, l)) (ap (λ x. reads x (tree_node from_input t max_levels)) same ∙ k.1),
      ap (λ x. at_top x (spell (contents k.0) max_levels)) (sym (spell_kind false (contents k.0) max_levels t k.2) ∙ is) ∙ k.2,
    )
