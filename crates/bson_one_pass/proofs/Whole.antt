-- A whole document.
use Rattle.std.proofs.Common.{◌≡◌, ◌≤◌, ℕ, [], length, false, Ok, Err, refl, ap, sym, subst, ◌∙◌}
use Rattle.bson_kinds.specs.Outcome.{result_map}
use Rattle.bson_base.specs.Sound.{max_bytes, max_levels}
use Rattle.bson_kinds.specs.Text.{Bytes}
use Rattle.bson_base.specs.Tree.{Tree, enc}
use Rattle.bson_kinds.specs.declared.element_type.ElementType.TheVariants.{EmbeddedDocument}
use Rattle.bson_rawdoc.specs.Envelope.{envelope}
use Rattle.bson_rawdoc.specs.Node.{Node, inner_node}
use Rattle.bson_shape.specs.Form.{Form}
use Rattle.bson_values.specs.Marked.{Marked, contents}
use Rattle.bson_laws.specs.Judged.{Reading}
use Rattle.bson_laws.specs.Reads as at_settled
use Rattle.bson_laws.specs.Reads.{answered, reads_document}
use Rattle.bson_laws.specs.Scopes.{laid, formed}
use Rattle.bson_laws.specs.Settled.{settled}
use Rattle.bson_laws.specs.declared.origin.Reader.{Reader}
use Rattle.bson_laws.specs.Spell.{Writing, spell, at_top, spell_document}
use Rattle.bson_laws.specs.Unrolled.{whole}
use Rattle.bson_laws.proofs.Enveloped.{document_read}
use Rattle.bson_laws.proofs.Sizes.{spell_kind}
use Rattle.bson_pass_parts.specs.Put.{of_writing, recast_by, recast_node, recast_for, IsPut}
use Rattle.bson_pass_parts.specs.ReadsUnrolled.{reads}
use Rattle.bson_pass_parts.specs.Recast.{IsRecastAs}

-- its value, and the tree that it is written as
written_by : (v : Marked) (made : Bytes) (w : Writing Tree) → spell (contents v) max_levels ≡ w → IsPut (of_writing w) [] made EmbeddedDocument → (t : Tree) × (spell_document (contents v) ≡ Ok t) × (enc t ≡ made)
written_by v made (Err r) is h = absurd h
written_by v made (Ok t) is h = (t, ap (λ k. at_top k (spell (contents v) max_levels)) (sym (spell_kind false (contents v) max_levels t is) ∙ h.0) ∙ is, sym h.1)

read_by : (s : Form) (b made : Bytes) (r : Reading Marked) → reads_document s b ≡ result_map contents (answered r) → IsPut (recast_by (λ v. spell (contents v) max_levels) r) [] made EmbeddedDocument → length made ≤ max_bytes → IsRecastAs s b made
read_by s b made (Err e) is h few = absurd h
read_by s b made (Ok v) is h few =
    let p = written_by v made (spell (contents v) max_levels) refl h in
    record { value = contents v; tree = p.0; read = is; spelled = p.1; encoded = p.2; fits = few }

-- where no definitions are around
whole_is : (r : Reader) (s : Form) (levels : ℕ) (n : Node) → r.readable ≡ false → formed r s ≡ settled false (whole s) → recast_for r s levels n ≡ recast_node (whole s) levels n
whole_is r s levels n readable form =
    ap (λ f. recast_by (λ v. spell (contents v) levels) (at_settled.reads f n)) (ap (λ b. settled b (laid r s)) (sym readable) ∙ form)

-- a whole document that was recast
pub document_put : (r : Reader) (s : Form) (b d made : Bytes) → r.readable ≡ false → formed r s ≡ settled false (whole s) → envelope b ≡ Ok d → IsPut (recast_for r s max_levels (inner_node max_levels EmbeddedDocument d)) [] made EmbeddedDocument
    → length made ≤ max_bytes → IsRecastAs s b made
document_put r s b d made readable form e h few =
    let n = inner_node max_levels EmbeddedDocument d in
    read_by s b made (reads (whole s) n) (ap (result_map contents) (document_read (whole s) b d e)) (subst (λ o. IsPut o [] made EmbeddedDocument) (whole_is r s max_levels n readable form) h) few
