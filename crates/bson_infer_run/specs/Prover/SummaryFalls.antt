-- Each summary inside a summary has fewer nodes than it.
use Rattle.std.specs.Prelude.{◌≡◌, ◌+◌, ◌≤◌, max, Bool, true, false, nat_lt, List, [], ◌∷◌, length}
use Rattle.std.proofs.Common.{arith}
use denote.Param.Weighed.{most}
use Rattle.bson_kinds.specs.Text.{Utf8}
use Rattle.bson_shape.specs.Form.{Form, optional}
use Rattle.bson_shape.specs.ShapeView.{nodes, fields_nodes}
use Rattle.bson_infer_run.specs.Counted.{opt_if, settled}
use Rattle.bson_infer_run.specs.SummaryView.{counted, kind_form, summary_form, IsSummary}
use Rattle.bson_infer_run.specs.declared.summary.Kind.{Kind}
use Rattle.bson_infer_run.specs.declared.summary.Kind.TheVariants as kinds
use Rattle.bson_infer_run.specs.declared.summary.FieldSummary.{FieldSummary}
use Rattle.bson_infer_run.specs.declared.summary.Summary.TheDeep.{deep-Kind, deep-FieldSummary}
use Rattle.bson_infer_laws.specs.Join.{opt}

opt_nodes : (s : Form) → nodes s ≤ nodes (opt s)
opt_nodes (optional s) = omega arith
opt_nodes s = omega arith

pub opt_if_nodes : (b : Bool) (s : Form) → nodes s ≤ nodes (opt_if b s)
opt_if_nodes true s = opt_nodes s
opt_if_nodes false s = omega arith

most_falls : (n : _) (ks : List Utf8) (fs : List FieldSummary) → length ks ≡ length fs → most deep-FieldSummary fs ≤ fields_nodes (settled n (counted ks fs)) + 1
most_falls n [] [] e = omega arith
most_falls n [] (f ∷ fs) e = absurd (omega (arith, e))
most_falls n (k ∷ ks) [] e = absurd (omega (arith, e))
most_falls n (k ∷ ks) (f ∷ fs) e = omega (arith, opt_if_nodes (nat_lt f.count n) f.summary, most_falls n ks fs (omega (arith, e)))

kind_falls : (n : Bool) (k : Kind) → IsSummary n k → max (deep-Kind k) 0 ≤ nodes (kind_form k)
kind_falls n kinds.Nothing h = omega arith
kind_falls n (kinds.Leaf l) h = omega arith
kind_falls n (kinds.Sequence item) h = omega arith
kind_falls n (kinds.Structure s) h = omega (arith, most_falls s.value.count s.value.names s.value.fields.items h.0.even)

pub falls : (n : Bool) (k : Kind) → IsSummary n k → max (deep-Kind k) 0 ≤ nodes (summary_form n k)
falls true k h = omega (arith, kind_falls true k h)
falls false k h = kind_falls false k h
