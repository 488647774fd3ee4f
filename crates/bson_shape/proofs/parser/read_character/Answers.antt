use Rattle.std.proofs.Common.{arith}
use Rattle.std.proofs.lemmas.Grind.{common_steps}
use Rattle.bson_shape.specs.ParserView.{mode_view, levels_view}
use Rattle.bson_shape.proofs.CharRuns.{ascii_read, other_read, gives_same}
use Rattle.bson_shape.proofs.parser.read_character.Goals as goal

pub returns-then-is_ascii : goal.returns-then-is_ascii
returns-then-is_ascii c = gives_same _ c.step.result _ _ (ascii_read c.args.c c.args.at (mode_view c.args.mode) (levels_view c.args.levels.now.items) (grind (arith, common_steps))) c.step.ensures

pub returns : goal.returns
returns c = gives_same _ c.other_character.result _ _ (other_read c.args.c c.args.at (mode_view c.args.mode) (levels_view c.args.levels.now.items) (grind (arith, common_steps))) c.other_character.ensures
