use Rattle.std.proofs.Common.{List, ap, sym, ◌∙◌, refl, arith}
use Rattle.std.specs.Borrow.{Bor}
use Rattle.std.specs.Prelude.{option_and_then, string_bytes}
use Rattle.bson_shape.specs.Makers.{has_repeat}
use Rattle.bson_shape.specs.ShapeView.{fields_of}
use Rattle.bson_shape.specs.declared.shape.FieldShape.{FieldShape}
use Rattle.bson_laws.specs.Named.{form_of}
use Rattle.bson_evolve_laws.specs.Rows as rows
use Rattle.bson_evolve_check.specs.Steps.{behind, steps_view, variant_path}
use Rattle.bson_evolve_check.proofs.Found.{field_names_of}
use Rattle.bson_evolve_check.proofs.Pushes.{struct_all, struct_goes, struct_stops}
use Rattle.bson_evolve_check.proofs.content.push_struct.Goals as goal

pub new-index-requires : goal.new-index-requires
new-index-requires c = ap has_repeat (sym (field_names_of c.args.old.now)) ∙ c.requires

pub loop-field-init : goal.loop-field-init
loop-field-init c = record { items = ap (λ (fs : Bor (List FieldShape)). fs.now) c.new-index.ensures; left = refl }

pub returns-then-not-branch : goal.returns-then-not-branch
returns-then-not-branch c =
    let path = variant_path c.args.variant in
    let ss = steps_view c.loop-field.steps.items in
    let f = c.field-item.result in
    struct_stops path (fields_of c.args.old.now) c.args.new.now c.loop-field.field-index ss _ f (omega arith) c.field-item.is c.loop-field.invariant.left _ (steps_view c.push_field.new.steps.items)
    (λ others. c.in_ok-push_field.ensures.row others ∙ ap (λ fs. behind ss (option_and_then (rows.field_row path (string_bytes f.name) (form_of (fields_of fs) (string_bytes f.name)) f.shape) others)) c.loop-field.invariant.items)
    c.if-not-branch.true

pub loop-field-preserved : goal.loop-field-preserved
loop-field-preserved c =
    let path = variant_path c.args.variant in
    let ss = steps_view c.loop-field.steps.items in
    let f = c.field-item.result in
    record {
      items = ap (λ (fs : Bor (List FieldShape)). fs.now) c.push_field.ensures.items ∙ c.loop-field.invariant.items;
      left = struct_goes path (fields_of c.args.old.now) c.args.new.now c.loop-field.field-index ss _ f (omega arith) c.field-item.is c.loop-field.invariant.left _ (steps_view c.push_field.new.steps.items)
          (λ others. c.in_ok-push_field.ensures.row others ∙ ap (λ fs. behind ss (option_and_then (rows.field_row path (string_bytes f.name) (form_of (fields_of fs) (string_bytes f.name)) f.shape) others)) c.loop-field.invariant.items)
          c.if-not-branch.false;
    }

pub returns : goal.returns
returns c = struct_all (variant_path c.args.variant) (fields_of c.args.old.now) c.args.new.now c.loop-field.field-index (steps_view c.loop-field.steps.items) _ (omega arith) c.loop-field.invariant.left
