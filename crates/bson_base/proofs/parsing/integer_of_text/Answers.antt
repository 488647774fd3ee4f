use Rattle.std.proofs.Common.{◌∙◌}
use Rattle.bson_base.proofs.IntegerTexts.{integer_parsed}
use Rattle.bson_base.proofs.parsing.integer_of_text.Goals as goal

pub returns : goal.returns
returns c = c.ok.ensures.value ∙ integer_parsed _ _ c.parse.ensures.value.0
