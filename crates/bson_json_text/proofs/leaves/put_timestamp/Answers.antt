use Rattle.bson_json_text.proofs.Nested.{one_closed}
use Rattle.bson_json_text.proofs.leaves.put_timestamp.Goals as goal

pub returns : goal.returns
returns c = one_closed c.close.result _ _ _ _ _ _ c.in_ok-open.ensures c.in_ok-put_timestamp_parts.ensures c.close.ensures
