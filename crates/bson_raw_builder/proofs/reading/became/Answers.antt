use Rattle.std.proofs.Common.{ap, sym, ◌∙◌}
use Rattle.std.specs.Prelude.{option_map}
use Rattle.bson_base.specs.BsonView.{tree_of}
use Rattle.bson_raw_parts.specs.BodyView.{body_tree}
use Rattle.bson_raw_parts.proofs.BuiltValues.{body_none}
use Rattle.bson_raw_builder.proofs.reading.became.Goals as goal

pub returns-in-None : goal.returns-in-None
returns-in-None c =
    let stands = ap (option_map body_tree) (sym c.in-None.is) ∙ c.in_ok-body.ensures in
    record { exact = λ t e. absurd (body_none c.args.wrapper (tree_of c.args.value.now) t stands e) }
