use Rattle.bson_json_laws.proofs.TextBack.{text_is_json, text_back, text_injective, relaxed_text_back}
use Rattle.bson_json_laws.proofs.laws.law_text_back.Goals as goal

pub returns-clause-json : goal.returns-clause-json
returns-clause-json c = text_is_json

pub returns-clause-back : goal.returns-clause-back
returns-clause-back c = text_back

pub returns-clause-one_text : goal.returns-clause-one_text
returns-clause-one_text c = text_injective

pub returns-clause-relaxed : goal.returns-clause-relaxed
returns-clause-relaxed c = relaxed_text_back
