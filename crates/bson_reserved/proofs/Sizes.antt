-- A struct is no smaller than its fields.
use Rattle.std.proofs.Common.{◌≤◌, arith}
use Rattle.std.specs.Global.{Vec}
use Rattle.bson_values.specs.declared.text.Text.{Text}
use Rattle.bson_datum.specs.declared.datum.Field.{Field}
use Rattle.bson_datum.specs.declared.datum.Datum.{Struct}
use Rattle.bson_datum.specs.declared.datum.Datum.TheViews.{size-Datum, sized-Struct}
use Rattle.bson_reserved.specs.Prover.Sized.{fields_size}

pub struct_size : (name : Text) (fields : Vec Field) → fields_size fields.items ≤ size-Datum (Struct name fields)
struct_size name fields = omega (arith, sized-Struct name fields)
