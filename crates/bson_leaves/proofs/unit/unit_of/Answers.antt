use Rattle.std.proofs.Common.{rules, Some, Ok, ap, sym, subst, ◌∙◌}
use Rattle.bson_kinds.specs.Outcome.{◌>>=◌}
use Rattle.bson_kinds.specs.Piece.{made}
use Rattle.bson_shape.specs.ShapeView as shape_view
use Rattle.bson_values.specs.Cause.{contents_wanted}
use Rattle.bson_values.specs.Marked.{Marked}
use Rattle.bson_datum.specs.MarkedView.{marked}
use Rattle.bson_values.specs.Value.{unit_variant}
use Rattle.bson_laws.specs.Containers.{unit_of as reads_unit}
use Rattle.bson_laws.specs.Judged.{Reading, refused}
use Rattle.bson_met.specs.Gives.{Reaches}
use Rattle.bson_met.proofs.Refusals.{StopsAs}
use Rattle.bson_leaves.specs.Named.{variant_named}
use Rattle.bson_leaves.proofs.Variants.{text_read, unit_read, contents_missing}
use Rattle.bson_leaves.proofs.unit.unit_of.Goals as goal

pub returns-in_err-variant_of : goal.returns-in_err-variant_of
returns-in_err-variant_of c =
    let vs = c.args.variants.now in
    let name = c.args.name.now in
    let here : Reaches marked c.from_residual.result (variant_named vs name >>= unit_read name) = search rules in
    record { exact = subst (λ (r : Reading Marked). Reaches marked c.from_residual.result r) (sym (text_read vs name)) here }

pub returns-in_ok-from_str-in-Unit : goal.returns-in_ok-from_str-in-Unit
returns-in_ok-from_str-in-Unit c =
    let name = c.args.name.now in
    record {
      exact = text_read c.args.variants.now name ∙ ap (λ r. r >>= unit_read name) c.in_ok-variant_of.ensures
          ∙ ap (λ k. reads_unit name (Some (shape_view.content_of k))) c.in-Unit.is
          ∙ ap (λ t. Ok (unit_variant (made t))) (sym c.in_ok-from_str-in-Unit.ensures.ok);
    }

pub returns-in-Newtype : goal.returns-in-Newtype
returns-in-Newtype c =
    let name = c.args.name.now in
    let here : StopsAs c.refused.result (refused {A = Marked} contents_wanted) = search rules in
    record {
      exact = subst (λ (r : Reading Marked). StopsAs c.refused.result r)
          (sym (text_read c.args.variants.now name ∙ ap (λ r. r >>= unit_read name) c.in_ok-variant_of.ensures ∙ contents_missing name c.in_ok-variant_of.field-0.now.content c.in-Newtype.is)) here;
    }
