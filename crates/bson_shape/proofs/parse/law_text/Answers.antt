use Rattle.bson_shape.proofs.Texts.{parsed-shape}
use Rattle.bson_shape.proofs.parse.law_text.Goals as goal

pub returns : goal.returns
returns c = parsed-shape
