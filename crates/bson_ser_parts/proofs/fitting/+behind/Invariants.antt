-- What the fields so far left of the places is what all fields leave of them, by the fields that are left.
use Rattle.std.proofs.Common.{◌≡◌, List, drop}
use Rattle.bson_values.specs.Value.{Value}
use Rattle.bson_datum.specs.View.{fields_view}
use Rattle.bson_laws.specs.Unwrap.{Part, listed}
use Rattle.bson_ser_parts.specs.Places.{agrees}
use Rattle.bson_ser_parts.specs.PlaceView.{places_view}
use Rattle.bson_ser_parts.proofs.fitting.+behind.Given as goal

abbrev pub invariant-behind_fields-loop-field : goal.invariant-behind_fields-loop-field
invariant-behind_fields-loop-field l =
    (rest : List (Part Value)) → agrees (places_view l.initial.rest) (listed (fields_view l.fields) rest) ≡ agrees (places_view l.rest) (listed (fields_view (drop l.field-index l.fields)) rest)
