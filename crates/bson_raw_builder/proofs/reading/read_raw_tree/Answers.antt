use Rattle.std.proofs.Common.{sym, subst}
use Rattle.bson_shape.specs.Form.{leaf}
use Rattle.bson_datum.specs.MarkedView.{marked}
use Rattle.bson_laws.specs.ReadsFrom.{reads_from}
use Rattle.bson_laws.specs.declared.origin.Origin.TheVariants as origins
use Rattle.bson_met.specs.Gives.{Reaches}
use Rattle.bson_raw_builder.proofs.RawLeaves.{raw_leaf}
use Rattle.bson_raw_builder.proofs.reading.read_raw_tree.Goals as goal

pub returns-in-RawDocument : goal.returns-in-RawDocument
returns-in-RawDocument c = record { exact = subst (λ l. Reaches marked c.read_of_kind.result (reads_from origins.Tree (leaf l) c.args.value.now)) (sym c.in-RawDocument.is) c.read_of_kind.ensures.exact }

pub returns-in-RawArray : goal.returns-in-RawArray
returns-in-RawArray c =
    record { exact = subst (λ l. Reaches marked c.read_of_kind-in-RawArray.result (reads_from origins.Tree (leaf l) c.args.value.now)) (sym c.in-RawArray.is) c.read_of_kind-in-RawArray.ensures.exact }

pub returns-in_default : goal.returns-in_default
returns-in_default c =
    let is = raw_leaf c.args.leaf c.requires.raw c.in_default.not-RawDocument c.in_default.not-RawArray in
    record { exact = subst (λ l. Reaches marked c.read_whole.result (reads_from origins.Tree (leaf l) c.args.value.now)) (sym is) c.read_whole.ensures.exact }
