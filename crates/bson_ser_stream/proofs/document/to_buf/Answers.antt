use Rattle.bson_datum.specs.View.{view}
use Rattle.bson_laws.specs.Spell.{spell_document, size}
use Rattle.bson_ser_stream.proofs.Halted.{sound_written}
use Rattle.bson_ser_stream.proofs.Limits.{fails, only_too_long}
use Rattle.bson_ser_stream.proofs.document.to_buf.Goals as goal

pub returns-in-Err-clause-refused : goal.returns-in-Err-clause-refused
returns-in-Err-clause-refused g c = let v = view c.args.value.now in fails c.in-Err.halt _ (size v) _ _ (spell_document v) c.in-Err.ensures.bytes c.into_error.ensures.placed

pub returns-in-Err-clause-too_long : goal.returns-in-Err-clause-too_long
returns-in-Err-clause-too_long g c =
    let v = view c.args.value.now in
    only_too_long v _ (fails c.in-Err.halt _ (size v) _ _ (spell_document v) c.in-Err.ensures.bytes c.into_error.ensures.placed)

pub returns-in-Err-clause-memory : goal.returns-in-Err-clause-memory
returns-in-Err-clause-memory g c = λ t e s room. absurd (sound_written c.in-Err.halt (view c.args.value.now) t _ _ e s room c.in-Err.ensures.bytes)
