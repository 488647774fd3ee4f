use Rattle.std.proofs.Common.{arith}
use Rattle.bson_shape.specs.declared.leaf.Leaf.TheVariants as leaves
use Rattle.bson_kinds.specs.declared.element_type.ElementType.TheVariants as kinds
use Rattle.bson_itself.proofs.Kept.{raw_bson_document_kept, raw_bson_array_kept, raw_value_kept}
use Rattle.bson_pass_parts.proofs.KeptLeaves.{kept_as_read}
use Rattle.bson_pass_parts.proofs.kept.is_raw_kept.Goals as goal

pub returns-in-EmbeddedDocument : goal.returns-in-EmbeddedDocument
returns-in-EmbeddedDocument c = λ h.
    let b = c.args.bytes.now in
    rw c.in-EmbeddedDocument.is (kept_as_read leaves.RawBson c.args.levels kinds.EmbeddedDocument b (raw_bson_document_kept c.args.levels b (c.is_one_level.ensures.level h) (c.is_one_level.ensures.closed h)))

pub returns-in-Array : goal.returns-in-Array
returns-in-Array c = λ h.
    let b = c.args.bytes.now in
    let test = c.is_one_level-in-Array.ensures in
    rw c.in-Array.is (kept_as_read leaves.RawBson c.args.levels kinds.Array b (raw_bson_array_kept c.args.levels b (test.level h) (test.closed h)))

pub returns-in_default : goal.returns-in_default
returns-in_default c = λ h.
    let b = c.args.bytes.now in
    let test = c.is_itself.ensures in
    let other = c.in_default in
    kept_as_read leaves.RawBson c.args.levels c.args.kind b
    (raw_value_kept c.args.levels c.args.kind b other.not-EmbeddedDocument other.not-Array other.not-JavaScriptCodeWithScope (omega (arith, test.few h)) (test.itself h))
