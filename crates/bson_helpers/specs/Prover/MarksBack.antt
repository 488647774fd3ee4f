-- The law of values whose texts are mended.
use Rattle.std.specs.Prelude.{suc, Ok, Err}
use Rattle.bson_shape.specs.Form as form
use Rattle.bson_shape.specs.Form.{Form}
use Rattle.bson_values.specs.Value.{Value}
use Rattle.bson_laws.specs.Depths.{value_depth}
use Rattle.bson_laws.specs.Unrolled.{in_table}
use Rattle.bson_laws.proofs.Fitting.{lossy_fits}
use Rattle.bson_type_data.specs.Answers.{Reading, Writing}
use Rattle.bson_traits.specs.Laws.{Returns}

pub lossy_returns : {C : Type 0} (f : Form) (c : C) (t : Value → Reading C) (r : Writing Value) → Returns f c t r → Returns (form.lossy f) c t r
lossy_returns f c t (Err e) a = tt
lossy_returns f c t (Ok v) a = record { fits = lossy_fits v (in_table (suc (value_depth v)) form.no_fields f) a.fits; again = a.again }
