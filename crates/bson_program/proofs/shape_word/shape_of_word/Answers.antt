use Rattle.bson_program.proofs.OneShape.{asks_one}
use Rattle.bson_program.proofs.shape_word.shape_of_word.Goals as goal

pub returns-clause-asks : goal.returns-clause-asks
returns-clause-asks c = λ usage plain. asks_one usage c.args.word.now c.parse_word.result plain c.parse_word.ensures.exact
