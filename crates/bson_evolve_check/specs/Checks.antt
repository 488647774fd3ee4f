-- What is answered for two shapes. Source: this library's own comparison of shapes.
use Rattle.std.specs.Prelude.{Result, Ok, Err}
use Rattle.bson_shape.specs.Form.{Form}
use Rattle.bson_values.specs.PathView.{path_view}
use Rattle.bson_laws.specs.Plain.{IsPlain}
use Rattle.bson_evolve_laws.specs.Compatible.{IsCompatible}
use Rattle.bson_evolve_laws.specs.First.{IsFirstFault}
use Rattle.bson_evolve_check.specs.declared.checking.CheckError.{CheckError}
use Rattle.bson_evolve_check.specs.declared.checking.CheckError.TheVariants.{OldNotPlain, NewNotPlain, NoMemory}
use Rattle.bson_evolve_check.specs.declared.checking.Verdict.{Verdict}
use Rattle.bson_evolve_check.specs.declared.checking.Verdict.TheVariants.{Yes, No}

-- both shapes are plain
pub record ArePlain (old new : Form) : Type 0 where
  pub old_plain : IsPlain old
  pub new_plain : IsPlain new

-- the verdict on two plain shapes: yes where they are compatible, and else the path to the first pair of parts that does not pass
abbrev pub IsVerdict : Verdict → (old new : Form) → Type 0
IsVerdict Yes old new = IsCompatible old new
IsVerdict (No path) old new = IsFirstFault old new (path_view path)

-- What is answered: the verdict where both shapes are plain, unless memory runs out, and else which is not.
abbrev pub Checks : Result Verdict CheckError → (old new : Form) → Type 0
Checks (Ok verdict) old new = ArePlain old new × IsVerdict verdict old new
Checks (Err OldNotPlain) old new = IsPlain old → ⊥
Checks (Err NewNotPlain) old new = IsPlain old × (IsPlain new → ⊥)
Checks (Err NoMemory) old new = ArePlain old new
