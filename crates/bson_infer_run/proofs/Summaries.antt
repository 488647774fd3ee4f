-- The form of a summary, and what is true of it.
use Rattle.std.proofs.Common.{◌≡◌, Bool, true, false, refl, sym}
use Rattle.bson_shape.specs.Form.{optional}
use Rattle.bson_infer_laws.specs.Above.{IsBare}
use Rattle.bson_infer_laws.specs.Join.{opt}
use Rattle.bson_infer_laws.proofs.Above.{bare_opt}
use Rattle.bson_infer_run.specs.SummaryView.{kind_form, summary_form}
use Rattle.bson_infer_run.specs.declared.summary.Kind.{Kind}
use Rattle.bson_infer_run.specs.declared.summary.Kind.TheVariants as kinds

pub kind_bare : (k : Kind) → IsBare (kind_form k)
kind_bare kinds.Nothing = tt
kind_bare (kinds.Leaf l) = tt
kind_bare (kinds.Sequence item) = tt
kind_bare (kinds.Structure fields) = tt

pub with_null : (n : Bool) (k : Kind) → optional (kind_form k) ≡ opt (summary_form n k)
with_null true k = refl
with_null false k = sym (bare_opt (kind_form k) (kind_bare k))
