-- A whole document as a reader meets it.
use Rattle.std.proofs.Common.{◌≡◌, true, false, cond, Result, Ok, Err, ap, subst, ◌∙◌}
use Rattle.bson_kinds.specs.Text.{Bytes}
use Rattle.bson_base.specs.Sound.{max_levels}
use Rattle.bson_kinds.specs.declared.element_type.ElementType.TheVariants.{EmbeddedDocument}
use Rattle.bson_rawdoc.specs.Envelope.{is_closed, envelope}
use Rattle.bson_rawdoc.specs.Node.{of_bytes, document, broken, nodes_with, node_in, inner_node}
use Rattle.bson_rawdoc.specs.Walk.{walk}
use Rattle.bson_faults.specs.declared.raw.Error.{Error}
use Rattle.bson_faults.specs.declared.raw.Error.TheVariants.{ValueUnclosed}
use Rattle.bson_shape.specs.Form.{Form}
use Rattle.bson_values.specs.Cause.{raw}
use Rattle.bson_values.specs.Marked.{Marked}
use Rattle.bson_values.specs.Refusal.{ReadFault, unreadable, Failure, bare}
use Rattle.bson_laws.specs.Reads.{reads, answered, marked_at}
use Rattle.bson_laws.specs.Settled.{settled}
use Rattle.bson_laws.proofs.Framed.{frame}

-- bytes that are closed are the value of their elements
closed_is : (b : Bytes) → is_closed b ≡ true → node_in max_levels EmbeddedDocument b ≡ inner_node max_levels EmbeddedDocument b
closed_is b e = ap (λ c. cond c (document (of_bytes b) (nodes_with (node_in 199) (walk b))) (broken EmbeddedDocument ValueUnclosed)) e

-- the bytes of an envelope, or its fault
abbrev reads_enveloped : Form → Result Bytes Error → Result Marked (Failure ReadFault)
reads_enveloped s (Ok d) = answered (reads (settled false s) (node_in max_levels EmbeddedDocument d))
reads_enveloped s (Err e) = Err (bare (unreadable (raw e)))

enveloped : (s : Form) (b : Bytes) (r : Result Bytes Error) → envelope b ≡ r → marked_at s b ≡ reads_enveloped s r
enveloped s b (Ok d) e = ap (λ r. elim r [ Ok d ↦ answered (reads (settled false s) (node_in max_levels EmbeddedDocument d)) | Err e ↦ Err (bare (unreadable (raw e))) ]) e
enveloped s b (Err f) e = ap (λ r. elim r [ Ok d ↦ answered (reads (settled false s) (node_in max_levels EmbeddedDocument d)) | Err e ↦ Err (bare (unreadable (raw e))) ]) e

-- a document that passes the test of its envelope
pub document_read : (s : Form) (b d : Bytes) → envelope b ≡ Ok d → marked_at s b ≡ answered (reads (settled false s) (inner_node max_levels EmbeddedDocument d))
document_read s b d e =
    let f = frame b d e in
    enveloped s b (Ok d) e ∙ ap (λ n. answered (reads (settled false s) n)) (subst (λ x. node_in max_levels EmbeddedDocument x ≡ inner_node max_levels EmbeddedDocument x) f.0 (closed_is b f.2))
