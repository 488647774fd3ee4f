use Rattle.bson_base.specs.Instant.{millis}
use Rattle.bson_base.proofs.Lengths.{length-text, length-date_time, length-timestamp, length-db_pointer}
use Rattle.bson_reserved.specs.declared.accepted.Accepted.TheVariants.{DateTime, Timestamp, JavaScriptCode, Symbol, DbPointer}
use Rattle.bson_ser_stream.proofs.Accepted.{puts_accepted}
use Rattle.bson_ser_stream.proofs.reserved.put_accepted.Goals as goal

pub returns-in-DateTime : goal.returns-in-DateTime
returns-in-DateTime g c = let it = c.in-DateTime in puts_accepted _ _ _ _ _ c.args.accepted (DateTime it.time) _ it.is (length-date_time (millis it.time)) c.put_date_time.ensures

pub returns-in-Timestamp : goal.returns-in-Timestamp
returns-in-Timestamp g c = let it = c.in-Timestamp in puts_accepted _ _ _ _ _ c.args.accepted (Timestamp it.timestamp) _ it.is (length-timestamp it.timestamp.time it.timestamp.increment) c.put_timestamp.ensures

pub returns-in-JavaScriptCode : goal.returns-in-JavaScriptCode
returns-in-JavaScriptCode g c = let it = c.in-JavaScriptCode in puts_accepted _ _ _ _ _ c.args.accepted (JavaScriptCode it.code) _ it.is (length-text it.code.now) c.put_code.ensures

pub returns-in-Symbol : goal.returns-in-Symbol
returns-in-Symbol g c = let it = c.in-Symbol in puts_accepted _ _ _ _ _ c.args.accepted (Symbol it.text) _ it.is (length-text it.text.now) c.put_symbol.ensures

pub returns-in-DbPointer : goal.returns-in-DbPointer
returns-in-DbPointer g c = let it = c.in-DbPointer in puts_accepted _ _ _ _ _ c.args.accepted (DbPointer it.namespace it.id) _ it.is (length-db_pointer it.namespace.now it.id.0) c.put_db_pointer.ensures
