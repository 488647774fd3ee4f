use Rattle.std.proofs.Common.{List, ap, sym, ◌∙◌, refl, arith}
use Rattle.std.specs.Borrow.{Bor}
use Rattle.std.specs.Prelude.{string_bytes}
use Rattle.bson_shape.specs.Makers.{has_repeat}
use Rattle.bson_shape.specs.ShapeView as view
use Rattle.bson_shape.specs.ShapeView.{variants_of}
use Rattle.bson_shape.specs.declared.shape.VariantShape.{VariantShape}
use Rattle.bson_laws.specs.Variants.{content_of}
use Rattle.bson_evolve_laws.specs.Rows as rows
use Rattle.bson_evolve_check.specs.Steps.{behind, steps_view}
use Rattle.bson_evolve_check.proofs.Found.{variant_names_of}
use Rattle.bson_evolve_check.proofs.Pushes.{enum_all, enum_goes, enum_stops, shapes_here}
use Rattle.bson_evolve_check.proofs.content.push_enum.Goals as goal

pub new-index-requires : goal.new-index-requires
new-index-requires c = ap has_repeat (sym (variant_names_of c.args.new.now)) ∙ c.requires.new

pub loop-variant-init : goal.loop-variant-init
loop-variant-init c = record { items = ap (λ (vs : Bor (List VariantShape)). vs.now) c.new-index.ensures; shapes = c.requires.old; left = refl }

pub push_variant-requires : goal.push_variant-requires
push_variant-requires c = (shapes_here c.args.old.now c.loop-variant.variant-index c.variant-item.result (omega arith) c.variant-item.is c.loop-variant.invariant.shapes).0

pub returns-then-not-branch : goal.returns-then-not-branch
returns-then-not-branch c =
    let ss = steps_view c.loop-variant.steps.items in
    let v = c.variant-item.result in
    enum_stops c.args.old.now (variants_of c.args.new.now) c.loop-variant.variant-index ss _ v (omega arith) c.variant-item.is c.loop-variant.invariant.left _ (steps_view c.push_variant.new.steps.items)
    (λ others. c.in_ok-push_variant.ensures.row others
    ∙ ap (λ vs. behind ss (rows.and_also (rows.content_row (string_bytes v.name) (view.content_of v.content) (content_of (variants_of vs) (string_bytes v.name))) others)) c.loop-variant.invariant.items)
    c.if-not-branch.true

pub loop-variant-preserved : goal.loop-variant-preserved
loop-variant-preserved c =
    let ss = steps_view c.loop-variant.steps.items in
    let v = c.variant-item.result in
    record {
      items = ap (λ (vs : Bor (List VariantShape)). vs.now) c.push_variant.ensures.items ∙ c.loop-variant.invariant.items;
      shapes = (shapes_here c.args.old.now c.loop-variant.variant-index v (omega arith) c.variant-item.is c.loop-variant.invariant.shapes).1;
      left = enum_goes c.args.old.now (variants_of c.args.new.now) c.loop-variant.variant-index ss _ v (omega arith) c.variant-item.is c.loop-variant.invariant.left _ (steps_view c.push_variant.new.steps.items)
          (λ others. c.in_ok-push_variant.ensures.row others
          ∙ ap (λ vs. behind ss (rows.and_also (rows.content_row (string_bytes v.name) (view.content_of v.content) (content_of (variants_of vs) (string_bytes v.name))) others)) c.loop-variant.invariant.items)
          c.if-not-branch.false;
    }

pub returns : goal.returns
returns c = enum_all c.args.old.now (variants_of c.args.new.now) c.loop-variant.variant-index (steps_view c.loop-variant.steps.items) _ (omega arith) c.loop-variant.invariant.left
