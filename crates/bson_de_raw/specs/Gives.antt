-- What a reader of whole documents returns for a document that it reads. Source: this library's own errors.
use Rattle.std.specs.Prelude.{◌≡◌, Result, Ok, Err}
use Rattle.bson_values.specs.Refusal.{no_memory}
use Rattle.bson_values.specs.Value.{Value}
use Rattle.bson_datum.specs.View.{view}
use Rattle.bson_values.specs.ErrorView.{read_failure}
use Rattle.bson_datum.specs.declared.datum.Datum.{Datum}
use Rattle.bson_values.specs.declared.de.Error.{Error}

-- A reader of whole documents gives this value; or memory ran out.
abbrev pub GivesValue : Value → Result Datum Error → Type 0
GivesValue v (Ok d) = view d ≡ v
GivesValue v (Err e) = read_failure e ≡ no_memory
