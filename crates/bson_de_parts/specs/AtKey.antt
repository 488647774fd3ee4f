-- What contracts see of a reading at a key. Source: serde's data model.
use Rattle.std.specs.Prelude.{◌≡◌, Result, Ok, Err}
use Rattle.bson_kinds.specs.Text.{Utf8}
use Rattle.bson_values.specs.Stop.{IsUnderKey}
use Rattle.bson_values.specs.declared.de.Fault.{Fault}
use Rattle.bson_values.specs.declared.stop.Stop.{Stop}

-- the same, seen from the document that has the value at the key; or out of memory
abbrev pub IsAtKey : {X : Type 0} → Utf8 → Result X (Stop Fault) → Result X (Stop Fault) → Type 0
IsAtKey key (Ok x) new = new ≡ Ok x
IsAtKey key (Err s) (Ok x) = ⊥
IsAtKey key (Err s) (Err t) = IsUnderKey key s t
