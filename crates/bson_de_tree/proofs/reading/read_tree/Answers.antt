use Rattle.bson_base.specs.BsonView.{tree_of}
use Rattle.bson_datum.specs.View.{view}
use Rattle.bson_de_tree.proofs.Readings.{simple_read}
use Rattle.bson_de_tree.proofs.reading.read_tree.Goals as goal

pub returns-then-can_take : goal.returns-then-can_take
returns-then-can_take c =
    let test = c.if-can_take.true in
    record {
      exact = simple_read c.args.readable c.args.shape.now (tree_of c.args.tree) (view c.in_ok-take.field-0) c.known.ensures.shape (c.can_take.ensures.simple test) (c.can_take.ensures.clean test) (c.can_take.ensures.nests test) c.in_ok-take.ensures.value;
      owned = c.in_ok-take.ensures.owned;
    }
