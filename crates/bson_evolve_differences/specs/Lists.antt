-- What is answered for two shapes. Source: this library's own comparison of shapes.
use Rattle.std.specs.Prelude.{Result, Ok, Err}
use Rattle.std.specs.Global.{Vec}
use Rattle.bson_shape.specs.Form.{Form}
use Rattle.bson_laws.specs.Plain.{IsPlain}
use Rattle.bson_evolve_check.specs.Checks.{ArePlain}
use Rattle.bson_evolve_check.specs.declared.checking.CheckError.{CheckError}
use Rattle.bson_evolve_check.specs.declared.checking.CheckError.TheVariants.{OldNotPlain, NewNotPlain, NoMemory}
use Rattle.bson_evolve_differences.specs.Views.{differences_view}
use Rattle.bson_evolve_differences.specs.Differences.{AreDifferences}
use Rattle.bson_evolve_differences.specs.declared.difference.Difference.{Difference}

-- What is answered: the differences where both shapes are plain, unless memory runs out, and else which is not.
abbrev pub Lists : Result (Vec Difference) CheckError → (old new : Form) → Type 0
Lists (Ok ds) old new = ArePlain old new × AreDifferences old new (differences_view ds.items)
Lists (Err OldNotPlain) old new = IsPlain old → ⊥
Lists (Err NewNotPlain) old new = IsPlain old × (IsPlain new → ⊥)
Lists (Err NoMemory) old new = ArePlain old new
