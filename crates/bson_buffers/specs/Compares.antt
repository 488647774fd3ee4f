-- Comparing two shapes: when each status comes, and what the call did then. Source: this library's own calls with buffers.
use Rattle.std.specs.Prelude.{◌≡◌, ◌⊎◌, List, [], ◌∷◌, ◌++◌, if◌then◌else◌, Option, Some, None, Result, Ok, Err}
use Rattle.bson_kinds.specs.Text.{Bytes, Utf8}
use Rattle.bson_shape.specs.Form.{Form}
use Rattle.bson_values.specs.Printed.{printed_path}
use Rattle.bson_values.specs.Refusal.{Path}
use Rattle.bson_laws.specs.Plain.{IsPlain}
use Rattle.bson_evolve_laws.specs.Compatible.{IsCompatible}
use Rattle.bson_evolve_laws.specs.First.{first_fault}
use Rattle.bson_evolve_laws.specs.PlainTest.{is_plain}
use Rattle.bson_evolve_check.specs.Checks.{ArePlain}
use Rattle.bson_evolve_check.specs.Printed.{check_error_text}
use Rattle.bson_evolve_check.specs.declared.checking.CheckError.{CheckError}
use Rattle.bson_evolve_check.specs.declared.checking.CheckError.TheVariants.{OldNotPlain, NewNotPlain}
use Rattle.bson_evolve_differences.specs.Differences.{Difference, AreDifferences}
use Rattle.bson_evolve_differences.specs.Printed.{reason_text}
use Rattle.bson_buffers.specs.Asked.{NoShape, shape_of_bytes, DenotesShape}
use Rattle.bson_buffers.specs.Buffers.{Call, Writes, Tells, IsSilent}
use Rattle.bson_buffers.specs.Checks.{NoShapeRow}
use Rattle.bson_buffers.specs.declared.status.Status.{Status}
use Rattle.bson_buffers.specs.declared.status.Status.TheVariants as statuses

-- a text with a zero byte behind it, and then what comes behind that
abbrev pub ended : Utf8 → Utf8 → Utf8
ended text rest = text ++ 0 ∷ rest

-- the texts of a difference: the path, the notation of both parts, and the reason
abbrev pub texts_of : Difference → Utf8
texts_of d = ended (printed_path d.path) (ended d.old (ended d.new (ended (reason_text d.reason) [])))

-- those of each, one after another
abbrev pub difference_texts : List Difference → Utf8
difference_texts [] = []
difference_texts (d ∷ ds) = texts_of d ++ difference_texts ds

-- The bytes are the notations of these two shapes.
pub record DenoteShapes (old new : Bytes) (a b : Form) : Type 0 where
  pub old_notation : DenotesShape old a
  pub new_notation : DenotesShape new b

-- The shapes are plain, and they are compatible.
pub record CompatibleRow (old new : Bytes) (c : Call) : Type 0 where
  pub old_form : Form
  pub new_form : Form
  pub notations : DenoteShapes old new old_form new_form
  pub plain : ArePlain old_form new_form
  pub compatible : IsCompatible old_form new_form
  pub silent : IsSilent c

-- The shapes are plain, and the text tells their differences, of which there is one at least.
pub record DifferentRow (old new : Bytes) (c : Call) : Type 0 where
  pub old_form : Form
  pub new_form : Form
  pub notations : DenoteShapes old new old_form new_form
  pub plain : ArePlain old_form new_form
  pub first : Difference
  pub others : List Difference
  pub differences : AreDifferences old_form new_form (first ∷ others)
  pub says : Tells c (difference_texts (first ∷ others))
  pub no_output : Writes c []
  pub no_place : c.place ≡ 0

-- Both are shapes, and the text tells that this one is not plain.
pub record NotPlainRow (Faulty : (old new : Form) → Type 0) (error : CheckError) (old new : Bytes) (c : Call) : Type 0 where
  pub old_form : Form
  pub new_form : Form
  pub notations : DenoteShapes old new old_form new_form
  pub faulty : Faulty old_form new_form
  pub says : Tells c (check_error_text error)
  pub no_output : Writes c []
  pub no_place : c.place ≡ 0

-- The old one is no shape, or not plain.
abbrev pub OldRefusedRow : (old new : Bytes) → Call → Type 0
OldRefusedRow old new c = NoShapeRow old c ⊎ NotPlainRow (λ a b. IsPlain a → ⊥) OldNotPlain old new c

-- The old one is a shape and the new one is none, or both are and the new one alone is not plain.
abbrev pub NewRefusedRow : (old new : Bytes) → Call → Type 0
NewRefusedRow old new c = ((a : Form) × DenotesShape old a × NoShapeRow new c) ⊎ NotPlainRow (λ a b. IsPlain a × (IsPlain b → ⊥)) NewNotPlain old new c

-- the status where these are the differences
abbrev pub differing_status : List Difference → Status
differing_status [] = statuses.Done
differing_status (d ∷ ds) = statuses.Different

-- the status for the path to the first pair of parts that does not pass, where there is one
abbrev pub fault_status : Option Path → Status
fault_status None = statuses.Done
fault_status (Some path) = statuses.Different

-- the status for two shapes
abbrev pub shapes_status : (old new : Form) → Status
shapes_status a b = if is_plain a then (if is_plain b then fault_status (first_fault a b) else statuses.NewRefused) else statuses.OldRefused

-- the status for what may be two shapes
abbrev pub compared : (old new : Result Form NoShape) → Status
compared (Err why) o = statuses.OldRefused
compared (Ok a) (Err why) = statuses.NewRefused
compared (Ok a) (Ok b) = shapes_status a b

-- The table of statuses: each status comes only where its row holds, and it is the one that must be returned, or out of memory.
pub record IsCompared (old new : Bytes) (status : Status) (c : Call) : Type 0 where
  pub done : status ≡ statuses.Done → CompatibleRow old new c
  pub different : status ≡ statuses.Different → DifferentRow old new c
  pub old_refused : status ≡ statuses.OldRefused → OldRefusedRow old new c
  pub new_refused : status ≡ statuses.NewRefused → NewRefusedRow old new c
  pub no_memory : status ≡ statuses.NoMemory → IsSilent c
  pub complete : (status ≡ compared (shape_of_bytes old) (shape_of_bytes new)) ⊎ (status ≡ statuses.NoMemory)
