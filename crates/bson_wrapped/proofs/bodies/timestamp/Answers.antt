use Rattle.std.proofs.Common.{Ok, Some, ap, sym, ◌∙◌, rules}
use Rattle.std.specs.Prelude.{codes, pos, unsigned_abs}
use Rattle.bson_base.specs.Tree as tree
use Rattle.bson_kinds.specs.Piece.{made}
use Rattle.bson_shape.specs.Form.{leaf, field, no_fields, Fields}
use Rattle.bson_shape.specs.declared.leaf.Leaf.TheVariants.{U32}
use Rattle.bson_values.specs.Value.{integer, u32}
use Rattle.bson_laws.specs.Datum.{two}
use Rattle.bson_laws.specs.Wrapped.{two_numbers}
use Rattle.bson_wrapped.proofs.Made.{fields_done, fields_stop}
use Rattle.bson_wrapped.proofs.bodies.timestamp.Goals as goal

abbrev fs : Fields
fs = field (codes "t") (leaf U32) (field (codes "i") (leaf U32) no_fields)

pub returns-in_err-time : goal.returns-in_err-time
returns-in_err-time c =
    let here = fields_stop fs (two_numbers (λ t i. Some (tree.timestamp (unsigned_abs t) (unsigned_abs i)))) c.args.value.now c.in_err-time.field-0.0 c.in_err-time.ensures.exact in record { exact = search (rules, here) }

pub returns : goal.returns
returns c =
    let t = integer u32 (pos c.in_ok-time.time) in
    let i = integer u32 (pos c.in_ok-time.increment) in
    record {
      exact = fields_done fs (two_numbers (λ t i. Some (tree.timestamp (unsigned_abs t) (unsigned_abs i)))) c.args.value.now (two made (codes "t") t (codes "i") i) c.in_ok-time.ensures.exact
          ∙ ap (λ d. Ok (Some d)) (sym c.in_ok-timestamp.ensures.datum);
    }
