-- What the list holds before a field leaves to come what was to come from the fields that are left.
use Rattle.std.proofs.Common.{◌≡◌, ◌≤◌, ◌++◌, List, drop, max}
use Rattle.bson_values.specs.Value.{Value}
use Rattle.bson_datum.specs.View.{fields_view}
use Rattle.bson_laws.specs.Unwrap.{Part, listed}
use Rattle.bson_reserved.specs.ListView.{parts_view}
use Rattle.bson_reserved.specs.Prover.Sized.{fields_size, parts_size}
use Rattle.bson_reserved.proofs.list.+put.Given as goal

abbrev pub invariant-put_fields-loop-field : goal.invariant-put_fields-loop-field
invariant-put_fields-loop-field l = record {
  value : (rest : List (Part Value)) → parts_view l.initial.list.items ++ listed (fields_view l.fields) rest ≡ parts_view l.list.items ++ listed (fields_view (drop l.field-index l.fields)) rest;
  size : parts_size l.list.items ≤ max (parts_size l.initial.list.items) (fields_size l.fields);
}
