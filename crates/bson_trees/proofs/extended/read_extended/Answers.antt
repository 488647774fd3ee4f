use Rattle.std.proofs.Common.{sym, subst}
use Rattle.bson_kinds.specs.Piece.{made}
use Rattle.bson_shape.specs.Form.{leaf}
use Rattle.bson_values.specs.Marked.{Marked}
use Rattle.bson_datum.specs.MarkedView.{marked}
use Rattle.bson_laws.specs.Datum.{datum}
use Rattle.bson_laws.specs.Judged.{Reading, judged}
use Rattle.bson_laws.specs.Reads.{reads}
use Rattle.bson_laws.specs.Trees.{as_tree}
use Rattle.bson_met.specs.Gives.{Reaches}
use Rattle.bson_wrapped.proofs.Made.{mapped}
use Rattle.bson_trees.proofs.extended.read_extended.Goals as goal

pub returns-in-ObjectId : goal.returns-in-ObjectId
returns-in-ObjectId c = record { exact = subst (λ l. Reaches marked c.object_id.result (reads (leaf l) c.args.value.now)) (sym c.in-ObjectId.is) c.object_id.ensures.exact }

pub returns-in-Uuid : goal.returns-in-Uuid
returns-in-Uuid c = record { exact = subst (λ l. Reaches marked c.uuid.result (reads (leaf l) c.args.value.now)) (sym c.in-Uuid.is) c.uuid.ensures.exact }

pub returns-in-Document : goal.returns-in-Document
returns-in-Document c = record { exact = subst (λ l. Reaches marked c.document.result (reads (leaf l) c.args.value.now)) (sym c.in-Document.is) c.document.ensures.exact }

pub returns-in-Bson : goal.returns-in-Bson
returns-in-Bson c =
    let n = c.args.value.now in
    record {
      exact = subst (λ l. Reaches marked c.read_tree.result (reads (leaf l) n)) (sym c.in-Bson.is)
          (subst (λ (r : Reading Marked). Reaches marked c.read_tree.result r) (sym (mapped (datum made) (judged n) (as_tree))) c.read_tree.ensures.exact);
    }

pub returns-in-DateTime : goal.returns-in-DateTime
returns-in-DateTime c = record { exact = subst (λ l. Reaches marked c.of_kind.result (reads (leaf l) c.args.value.now)) (sym c.in-DateTime.is) c.of_kind.ensures.exact }

pub returns-in-Binary : goal.returns-in-Binary
returns-in-Binary c = record { exact = subst (λ l. Reaches marked c.of_kind-in-Binary.result (reads (leaf l) c.args.value.now)) (sym c.in-Binary.is) c.of_kind-in-Binary.ensures.exact }

pub returns-in-Timestamp : goal.returns-in-Timestamp
returns-in-Timestamp c = record { exact = subst (λ l. Reaches marked c.of_kind-in-Timestamp.result (reads (leaf l) c.args.value.now)) (sym c.in-Timestamp.is) c.of_kind-in-Timestamp.ensures.exact }

pub returns-in-Regex : goal.returns-in-Regex
returns-in-Regex c = record { exact = subst (λ l. Reaches marked c.of_kind-in-Regex.result (reads (leaf l) c.args.value.now)) (sym c.in-Regex.is) c.of_kind-in-Regex.ensures.exact }

pub returns-in-CodeWithScope : goal.returns-in-CodeWithScope
returns-in-CodeWithScope c = record { exact = subst (λ l. Reaches marked c.of_kind-in-CodeWithScope.result (reads (leaf l) c.args.value.now)) (sym c.in-CodeWithScope.is) c.of_kind-in-CodeWithScope.ensures.exact }

pub returns-in-Decimal128 : goal.returns-in-Decimal128
returns-in-Decimal128 c = record { exact = subst (λ l. Reaches marked c.of_kind-in-Decimal128.result (reads (leaf l) c.args.value.now)) (sym c.in-Decimal128.is) c.of_kind-in-Decimal128.ensures.exact }

pub returns-in-DbPointer : goal.returns-in-DbPointer
returns-in-DbPointer c = record { exact = subst (λ l. Reaches marked c.of_kind-in-DbPointer.result (reads (leaf l) c.args.value.now)) (sym c.in-DbPointer.is) c.of_kind-in-DbPointer.ensures.exact }

pub returns-in-RawDocument : goal.returns-in-RawDocument
returns-in-RawDocument c = record { exact = subst (λ l. Reaches marked c.raw_document.result (reads (leaf l) c.args.value.now)) (sym c.in-RawDocument.is) c.raw_document.ensures.exact }

pub returns-in-RawArray : goal.returns-in-RawArray
returns-in-RawArray c = record { exact = subst (λ l. Reaches marked c.raw_array.result (reads (leaf l) c.args.value.now)) (sym c.in-RawArray.is) c.raw_array.ensures.exact }

pub returns-in-RawBson : goal.returns-in-RawBson
returns-in-RawBson c = record { exact = subst (λ l. Reaches marked c.raw_value.result (reads (leaf l) c.args.value.now)) (sym c.in-RawBson.is) c.raw_value.ensures.exact }
