use Rattle.std.proofs.Common.{subst, arith}
use Rattle.std.proofs.lemmas.Bool.{eqb-true}
use Rattle.bson_shape.specs.declared.leaf.Leaf.TheVariants as leaves
use Rattle.bson_kinds.specs.declared.element_type.ElementType.{ElementType}
use Rattle.bson_kinds.specs.declared.element_type.ElementType.TheVariants as kinds
use Rattle.bson_itself.specs.Encoded.{EncodesItself}
use Rattle.bson_itself.specs.declared.untyped.UntypedLeaf.TheVariants.{Bson}
use Rattle.bson_itself.proofs.Kept.{document_kept, raw_document_kept, raw_array_kept}
use Rattle.bson_pass_parts.proofs.KeptLeaves.{kept_as_read, text_kept, string_kept, int32_kept, int64_kept, id_kept, date_kept, uuid_kept}
use Rattle.bson_pass_parts.proofs.kept.is_leaf_kept.Goals as goal

pub returns-in-Str-String : goal.returns-in-Str-String
returns-in-Str-String c = λ h.
    let b = c.args.bytes.now in
    rw (c.in-Str-String.is-0, c.in-Str-String.is-1) (kept_as_read leaves.Str c.args.levels kinds.String b (text_kept c.args.levels b (c.is_text.ensures.text h) (omega (arith, c.is_text.ensures.few h))))

pub returns-in-String-String : goal.returns-in-String-String
returns-in-String-String c = λ h.
    let b = c.args.bytes.now in
    let test = c.is_text-in-String-String.ensures in
    rw (c.in-String-String.is-0, c.in-String-String.is-1) (kept_as_read leaves.String c.args.levels kinds.String b (string_kept c.args.levels b (test.text h) (omega (arith, test.few h))))

pub returns-in-I32-Int32 : goal.returns-in-I32-Int32
returns-in-I32-Int32 c = λ h.
    let b = c.args.bytes.now in
    rw (c.in-I32-Int32.is-0, c.in-I32-Int32.is-1) (kept_as_read leaves.I32 c.args.levels kinds.Int32 b (int32_kept c.args.levels b c.known_bytes.ensures (eqb-true _ _ h)))

pub returns-in-I64-Int64 : goal.returns-in-I64-Int64
returns-in-I64-Int64 c = λ h.
    let b = c.args.bytes.now in
    rw (c.in-I64-Int64.is-0, c.in-I64-Int64.is-1) (kept_as_read leaves.I64 c.args.levels kinds.Int64 b (int64_kept c.args.levels b c.known_bytes.ensures (eqb-true _ _ h)))

pub returns-in-ObjectId-ObjectId : goal.returns-in-ObjectId-ObjectId
returns-in-ObjectId-ObjectId c = λ h.
    let b = c.args.bytes.now in
    rw (c.in-ObjectId-ObjectId.is-0, c.in-ObjectId-ObjectId.is-1) (kept_as_read leaves.ObjectId c.args.levels kinds.ObjectId b (id_kept c.args.levels b c.known_bytes.ensures (eqb-true _ _ h)))

pub returns-in-DateTime-DateTime : goal.returns-in-DateTime-DateTime
returns-in-DateTime-DateTime c = λ h.
    let b = c.args.bytes.now in
    rw (c.in-DateTime-DateTime.is-0, c.in-DateTime-DateTime.is-1) (kept_as_read leaves.DateTime c.args.levels kinds.DateTime b (date_kept c.args.levels b c.known_bytes.ensures (eqb-true _ _ h)))

pub returns-in-Uuid-Binary : goal.returns-in-Uuid-Binary
returns-in-Uuid-Binary c = λ h.
    let b = c.args.bytes.now in
    rw (c.in-Uuid-Binary.is-0, c.in-Uuid-Binary.is-1) (kept_as_read leaves.Uuid c.args.levels kinds.Binary b (uuid_kept c.args.levels b (c.is_uuid.ensures.uuid h) (c.is_uuid.ensures.few h)))

pub returns-in-Document-EmbeddedDocument : goal.returns-in-Document-EmbeddedDocument
returns-in-Document-EmbeddedDocument c = λ h.
    let b = c.args.bytes.now in
    let at = c.in-Document-EmbeddedDocument in
    let test = c.is_itself-in-Document-EmbeddedDocument.ensures in
    let one : EncodesItself Bson kinds.EmbeddedDocument c.args.levels b = subst (λ (k : ElementType). EncodesItself Bson k c.args.levels b) at.is-1 (test.itself h) in
    rw (at.is-0, at.is-1) (kept_as_read leaves.Document c.args.levels kinds.EmbeddedDocument b (document_kept c.args.levels b (omega (arith, test.few h)) one))

pub returns-in-RawDocument-EmbeddedDocument : goal.returns-in-RawDocument-EmbeddedDocument
returns-in-RawDocument-EmbeddedDocument c = λ h.
    let b = c.args.bytes.now in
    let at = c.in-RawDocument-EmbeddedDocument in
    rw (at.is-0, at.is-1) (kept_as_read leaves.RawDocument c.args.levels kinds.EmbeddedDocument b (raw_document_kept c.args.levels b (c.is_one_level.ensures.level h) (c.is_one_level.ensures.closed h)))

pub returns-in-RawArray-Array : goal.returns-in-RawArray-Array
returns-in-RawArray-Array c = λ h.
    let b = c.args.bytes.now in
    let at = c.in-RawArray-Array in
    let test = c.is_one_level-in-RawArray-Array.ensures in
    rw (at.is-0, at.is-1) (kept_as_read leaves.RawArray c.args.levels kinds.Array b (raw_array_kept c.args.levels b (test.level h) (test.closed h)))
