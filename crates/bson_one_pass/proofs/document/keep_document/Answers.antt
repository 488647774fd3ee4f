use Rattle.std.proofs.Common.{◌≡◌, length, Ok, ap, sym, subst, refl, ◌∙◌, arith}
use Rattle.std.specs.Option.{IfSome}
use Rattle.bson_base.specs.Sound.{max_levels}
use Rattle.bson_kinds.specs.declared.element_type.ElementType.TheVariants.{EmbeddedDocument}
use Rattle.bson_rawdoc.specs.DocumentView.{document_bytes}
use Rattle.bson_rawdoc.specs.Envelope.{envelope}
use Rattle.bson_shape.specs.Form.{leaf}
use Rattle.bson_laws.proofs.Framed.{frame}
use Rattle.bson_pass_parts.specs.Recast.{IsRecastAs}
use Rattle.bson_pass_parts.proofs.Copies.{document_copied, if_copied, kept_written}
use Rattle.bson_one_pass.proofs.document.keep_document.Goals as goal

pub returns : goal.returns
returns c =
    let b = c.args.bytes.now in
    let d = document_bytes c.in-Ok.document in
    let passed : envelope b ≡ Ok d = sym c.in-Ok.ensures.envelope in
    let same : c.as_bytes-bytes.result.now ≡ b = c.as_bytes-bytes.ensures.bytes ∙ sym (frame b d passed).0 in
    let l = c.args.leaf in
    subst (λ o. IfSome o (λ v. IsRecastAs (leaf l) b v.items)) (sym c.ok.ensures.value)
    (if_copied (λ v. v.items) (IsRecastAs (leaf l) b) b c.from_slice.result (rw same at c.from_slice.ensures.items)
    (λ made copied. document_copied l b d made passed (kept_written l max_levels EmbeddedDocument b (rw same at (c.if-not-is_leaf_kept.ensures refl))) (omega (arith, ap length same)) copied))
