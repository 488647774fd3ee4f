-- What contracts see of the parts that a writer was given: what was made of them. Source: this library's own types.
use Rattle.std.specs.Prelude.{ℕ, Option, option_map}
use Rattle.bson_base.specs.BsonView.{trees_of, pairs_of}
use Rattle.bson_ser_tree.specs.Made.{ItemsMade, PairsMade}
use Rattle.bson_ser_tree.specs.declared.items.ItemsWriter.{ItemsWriter}
use Rattle.bson_ser_tree.specs.declared.pairs.PairsWriter.{PairsWriter}

abbrev pub items_made : ItemsWriter → ItemsMade
items_made w = record { readable = w.readable; trees = option_map (λ v. trees_of v.items) w.trees }

abbrev pub pairs_made : PairsWriter → PairsMade
pairs_made w = record { readable = w.readable; pairs = option_map pairs_of w.document }
