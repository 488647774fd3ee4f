use Rattle.std.proofs.Common.{rules, Some, Ok, Err, ap, sym, subst, ◌∙◌}
use Rattle.bson_kinds.specs.Outcome.{◌>>=◌}
use Rattle.bson_kinds.specs.Piece.{made}
use Rattle.bson_shape.specs.ShapeView as shape_view
use Rattle.bson_values.specs.Marked.{Marked}
use Rattle.bson_datum.specs.MarkedView.{marked}
use Rattle.bson_values.specs.Refusal.{here, end_of_stream}
use Rattle.bson_values.specs.Value.{unit_variant}
use Rattle.bson_laws.specs.FromTree.{tree_unit_of}
use Rattle.bson_laws.specs.Judged.{Reading}
use Rattle.bson_met.specs.Gives.{Reaches}
use Rattle.bson_met.proofs.Refusals.{StopsAs}
use Rattle.bson_leaves.specs.Named.{variant_named}
use Rattle.bson_de_parts.proofs.TreeElements.{unit_read, text_read, contents_missing}
use Rattle.bson_de_parts.proofs.from_tree.tree_unit_of.Goals as goal

pub returns-in_err-variant_of : goal.returns-in_err-variant_of
returns-in_err-variant_of c =
    let vs = c.args.variants.now in
    let name = c.args.name.now in
    let here : Reaches marked c.from_residual.result (variant_named vs name >>= unit_read name) = search rules in
    record { exact = subst (λ (r : Reading Marked). Reaches marked c.from_residual.result r) (sym (text_read vs name)) here }

pub returns-in_ok-from_str-in-Unit : goal.returns-in_ok-from_str-in-Unit
returns-in_ok-from_str-in-Unit c =
    let name = c.args.name.now in
    record {
      exact = text_read c.args.variants.now name ∙ ap (λ r. r >>= unit_read name) c.in_ok-variant_of.ensures
          ∙ ap (λ k. tree_unit_of name (Some (shape_view.content_of k))) c.in-Unit.is
          ∙ ap (λ t. Ok (unit_variant (made t))) (sym c.in_ok-from_str-in-Unit.ensures.ok);
    }

pub returns-in-Newtype : goal.returns-in-Newtype
returns-in-Newtype c =
    let name = c.args.name.now in
    let expected : Reading Marked = Err (here end_of_stream) in
    let stops : StopsAs c.here.result expected = search rules in
    record {
      exact = subst (λ (r : Reading Marked). StopsAs c.here.result r)
          (sym (text_read c.args.variants.now name ∙ ap (λ r. r >>= unit_read name) c.in_ok-variant_of.ensures ∙ contents_missing name c.in_ok-variant_of.field-0.now.content c.in-Newtype.is)) stops;
    }
