use Rattle.bson_json_text.proofs.Nested.{one_closed}
use Rattle.bson_json_text.proofs.leaves.put_binary_texts.Goals as goal

pub returns : goal.returns
returns c = one_closed c.close.result _ _ _ _ _ _ c.in_ok-open.ensures c.in_ok-put_texts.ensures c.close.ensures
