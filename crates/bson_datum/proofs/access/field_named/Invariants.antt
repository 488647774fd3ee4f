use Rattle.std.proofs.Common.{◌≡◌, drop}
use Rattle.bson_datum.specs.Access.{field_named}
use Rattle.bson_datum.specs.View.{fields_view}
use Rattle.bson_datum.proofs.access.field_named.Given as goal

abbrev pub invariant-loop-field : goal.invariant-loop-field
invariant-loop-field l = field_named l.name (fields_view l.fields) ≡ field_named l.name (fields_view (drop l.field-index l.fields))
