-- The value that is under a key. Source: serde's data model.
use Rattle.std.specs.Prelude.{[]}
use Rattle.bson_values.specs.Value.{Value, tuple, structure}
use Rattle.bson_datum.specs.View.{view, items_view, fields_view}
use Rattle.bson_ser_stream.specs.declared.value.Contents.{Contents}
use Rattle.bson_ser_stream.specs.declared.value.Contents.TheVariants as contents

-- a value itself; the values of a tuple variant as a tuple, and the fields of a struct variant as a struct without a name
abbrev pub contents_view : Contents → Value
contents_view (contents.Value d) = view d.now
contents_view (contents.Items ds) = tuple (items_view ds.now)
contents_view (contents.Fields fs) = structure [] (fields_view fs.now)
