-- The laws of types whose values are read as they were written. Source: serde's data model.
use Rattle.std.specs.Prelude.{◌≡◌, Ok, Err, Some}
use Rattle.bson_base.specs.Tree.{null}
use Rattle.bson_shape.specs.Form.{Form, no_fields}
use Rattle.bson_values.specs.Value.{Value}
use Rattle.bson_laws.specs.Means.{means, norm}
use Rattle.bson_laws.specs.Recursive.{FitsIn}
use Rattle.bson_type_data.specs.Answers.{Reading, Writing}

-- A value fits the form of a type, and what is read back of it gives these contents.
pub record GivesBack {C : Type 0} (form : Form) (contents : C) (taken : Value → Reading C) (v : Value) : Type 0 where
  pub fits : FitsIn no_fields v form
  pub again : taken (norm v) ≡ Ok contents

-- the same where a value is written
abbrev pub Returns : {C : Type 0} → Form → C → (Value → Reading C) → Writing Value → Type 0
Returns form contents taken (Ok v) = GivesBack form contents taken v
Returns form contents taken (Err e) = Unit {0}

-- what is written does not mean Null
abbrev pub IsNeverNull : Writing Value → Type 0
IsNeverNull (Ok v) = means v ≡ Some null → ⊥
IsNeverNull (Err e) = Unit {0}
