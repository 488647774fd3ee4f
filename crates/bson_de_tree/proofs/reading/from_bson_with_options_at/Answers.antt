use Rattle.std.proofs.Common.{subst}
use Rattle.bson_base.specs.BsonView.{tree_of}
use Rattle.bson_values.specs.Returned.{Reads}
use Rattle.bson_datum.specs.View.{view}
use Rattle.bson_laws.specs.ReadsFrom.{answered_bare, reads_tree_value}
use Rattle.bson_de_tree.proofs.reading.from_bson_with_options_at.Goals as goal

pub returns : goal.returns
returns c =
    let s = c.args.shape.now in
    let t = tree_of c.args.bson in
    record {
      exact = subst (λ readable. Reads view c.without_path.result (answered_bare (reads_tree_value readable s t))) c.is_readable.ensures (c.without_path.ensures.exact (reads_tree_value c.is_readable.result s t) c.read_tree.ensures.exact);
      owned = c.without_path.ensures.owned c.read_tree.ensures.owned;
    }
