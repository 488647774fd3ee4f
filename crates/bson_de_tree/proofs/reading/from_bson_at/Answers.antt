use Rattle.std.proofs.Common.{true, subst}
use Rattle.bson_base.specs.BsonView.{tree_of}
use Rattle.bson_values.specs.Returned.{Reads}
use Rattle.bson_datum.specs.View.{view}
use Rattle.bson_laws.specs.Reads.{answered}
use Rattle.bson_laws.specs.ReadsFrom.{reads_tree_value}
use Rattle.bson_de_tree.proofs.Readings.{read_back}
use Rattle.bson_de_tree.proofs.reading.from_bson_at.Goals as goal

pub returns : goal.returns
returns c =
    let s = c.args.shape.now in
    let exact = c.with_path.ensures.exact (reads_tree_value true s (tree_of c.args.bson)) c.read_tree.ensures.exact in
    record {
      exact = exact;
      owned = c.with_path.ensures.owned c.read_tree.ensures.owned;
      read_back = λ v t plain suits fits mean clean deep is.
          read_back s v t c.with_path.result c.known.ensures.shape plain suits fits mean clean deep true (subst (λ x. Reads view c.with_path.result (answered (reads_tree_value true s x))) is exact);
    }
