-- What contracts see of what a first key stands for. Source: this library's own types.
use Rattle.bson_base.specs.Instant.{millis}
use Rattle.bson_base.specs.Tree as tree
use Rattle.bson_base.specs.Tree.{Tree}
use Rattle.bson_raw_parts.specs.declared.body.Body.{Body}
use Rattle.bson_raw_parts.specs.declared.body.Body.TheVariants.{ObjectId, Symbol, Decimal128, RegularExpression, Undefined, Binary, DateTime, Timestamp, MinKey, MaxKey, DbPointer}

abbrev pub body_tree : Body → Tree
body_tree (ObjectId id) = tree.object_id id.0
body_tree (Symbol t) = tree.symbol t.now
body_tree (Decimal128 d) = tree.decimal128 d.0
body_tree (RegularExpression pattern options) = tree.regular_expression pattern.now options.now
body_tree Undefined = tree.undefined
body_tree (Binary subtype b) = tree.binary subtype b.now
body_tree (DateTime d) = tree.date_time (millis d)
body_tree (Timestamp t) = tree.timestamp t.time t.increment
body_tree MinKey = tree.min_key
body_tree MaxKey = tree.max_key
body_tree (DbPointer namespace id) = tree.db_pointer namespace.now id.0
