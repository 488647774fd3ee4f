-- The fields of a shape that is made of a struct, one after another.
use Rattle.std.proofs.Common.{◌≡◌, ℕ, ◌+◌, ◌<◌, List, [], ◌∷◌, ◌++◌, length, get_or, drop, Result, Ok, nat_lt, refl, ap, sym, subst, ◌∙◌, string_bytes, arith, add-one}
use Rattle.bson_kinds.specs.Text.{Utf8}
use Rattle.bson_shape.specs.Form.{dropped, Form, structure, Fields, no_fields, field, joined}
use Rattle.bson_shape.specs.Makers.{IsShape, Makes, made_structure}
use Rattle.bson_shape.specs.ShapeView.{fields_of}
use Rattle.bson_shape.specs.declared.error.ShapeError.{ShapeError}
use Rattle.bson_shape.specs.declared.shape.FieldShape.{FieldShape}
use Rattle.bson_shape.proofs.Made.{made_form-IsShape}
use Rattle.bson_shape.proofs.Shapes.{joined-assoc, joined-none, fields_of-push}
use Rattle.bson_infer_run.specs.Counted.{opt_if, settled}
use Rattle.bson_infer_run.specs.SummaryView.{counted}
use Rattle.bson_infer_run.specs.declared.summary.FieldSummary.{FieldSummary}
use Rattle.bson_infer_run.proofs.Places.{drop_counted}

pub settled_next : (n : ℕ) (ks : List Utf8) (gs : List FieldSummary) (i : ℕ) (k : Utf8) (g : FieldSummary) → length ks ≡ length gs → i < length gs → k ≡ get_or ks i k → g ≡ get_or gs i g
    → settled n (drop i (counted ks gs)) ≡ field k (opt_if (nat_lt g.count n) g.summary) (settled n (drop (i + 1) (counted ks gs)))
settled_next n ks gs i k g even lt e s =
    ap (settled n) (drop_counted ks gs i k g (omega (arith, even, lt)) lt e s)
    ∙ ap (λ j. field k (opt_if (nat_lt g.count n) g.summary) (settled n (drop j (counted ks gs)))) (sym (add-one i))

-- one more field that is made
pub fields_next : (fs : List FieldShape) (f : FieldShape) (name : Utf8) (s : Form) (rest all : Fields) → string_bytes f.name ≡ name → f.shape ≡ s → joined (fields_of fs) (field name s rest) ≡ all
    → joined (fields_of (fs ++ f ∷ [])) rest ≡ all
fields_next fs f name s rest all n e h =
    ap (λ gs. joined gs rest) (fields_of-push fs f) ∙ joined-assoc (fields_of fs) (field (string_bytes f.name) f.shape no_fields) rest
    ∙ (λ i. joined (fields_of fs) (field (n i) (e i) rest)) ∙ h

pub made_is : (f g : Form) → Makes (Ok f) (Ok g) → f ≡ g
made_is f g e = cc

-- the struct of all fields
pub struct_made : (r : Result Form ShapeError) (name : Utf8) (fs : List FieldShape) (all : Fields) → r ≡ made_structure dropped name (fields_of fs) → name ≡ [] → joined (fields_of fs) no_fields ≡ all → IsShape (structure dropped [] all)
    → Makes r (Ok (structure dropped [] all))
struct_made r name fs all e n h s =
    subst (λ x. Makes x (Ok (structure dropped [] all))) (sym (e ∙ (λ i. made_structure dropped (n i) ((sym (joined-none (fields_of fs)) ∙ h) i)) ∙ made_form-IsShape (structure dropped [] all) s)) refl
