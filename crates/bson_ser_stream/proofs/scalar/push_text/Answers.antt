use Rattle.bson_ser_stream.proofs.Texts.{wrote_text}
use Rattle.bson_ser_stream.proofs.scalar.push_text.Goals as goal

pub returns-clause-ok : goal.returns-clause-ok
returns-clause-ok g c = wrote_text c.args.out.now c.push_all.new.self c.push_all-2.new.self c.push.new.self c.args.text.now _ _ _ _ _ _ c.requires c.as_bytes.ensures.value c.to_le_bytes.ensures c.in_ok-push_all.ensures.ok c.in_ok-push_all-2.ensures.ok c.in_ok-push.ensures.ok
