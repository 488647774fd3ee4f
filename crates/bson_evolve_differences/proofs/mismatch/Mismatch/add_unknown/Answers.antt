use Rattle.std.proofs.Common.{List, [], ap, sym, subst, ◌∙◌, refl, arith}
use Rattle.std.specs.Borrow.{Bor}
use Rattle.std.specs.Prelude.{string_bytes}
use Rattle.bson_kinds.specs.Text.{Utf8}
use Rattle.bson_shape.specs.Makers.{has_repeat}
use Rattle.bson_shape.specs.ShapeView.{fields_of}
use Rattle.bson_shape.specs.declared.shape.FieldShape.{FieldShape}
use Rattle.bson_laws.specs.Named.{has}
use Rattle.bson_evolve_check.proofs.Found.{field_names_of}
use Rattle.bson_evolve_differences.specs.Mismatch.{unknown, unless}
use Rattle.bson_evolve_differences.specs.Reasons.{unknown_field}
use Rattle.bson_evolve_differences.specs.Views.{Adds}
use Rattle.bson_evolve_differences.proofs.Adding.{left_more, left_none}
use Rattle.bson_evolve_differences.proofs.mismatch.Mismatch.add_unknown.Goals as goal

pub new-index-requires : goal.new-index-requires
new-index-requires c = ap has_repeat (sym (field_names_of c.args.new.now)) ∙ c.requires

pub loop-field-init : goal.loop-field-init
loop-field-init c = record { items = ap (λ (fs : Bor (List FieldShape)). fs.now) c.new-index.ensures; left = record { reasons = refl; common = refl } }

pub loop-field-preserved : goal.loop-field-preserved
loop-field-preserved c =
    let gs = fields_of c.args.new.now in
    record {
      items = ap (λ (fs : Bor (List FieldShape)). fs.now) c.add_unknown_field.ensures.items ∙ c.loop-field.invariant.items;
      left = left_more (λ fs. unknown (fields_of fs) gs) (λ fs. []) c.args.old.now c.loop-field.field-index c.args.self.now c.loop-field.self c.loop-field.invariant.left
          (λ (f : FieldShape). unless (has gs (string_bytes f.name)) (unknown_field (string_bytes f.name))) (λ f. []) (λ f fs. refl) (λ f fs. refl) c.field-item.result c.add_unknown_field.new.self (omega arith) c.field-item.is
          (subst (λ (name : Utf8). Adds c.loop-field.self c.add_unknown_field.new.self (unless (has gs name) (unknown_field name)) []) c.as_str.ensures.value
          (subst (λ (hs : List FieldShape). Adds c.loop-field.self c.add_unknown_field.new.self (unless (has (fields_of hs) c.as_str.result.now) (unknown_field c.as_str.result.now)) []) c.loop-field.invariant.items c.in_ok-add_unknown_field.ensures.adds));
    }

pub returns : goal.returns
returns c =
    let gs = fields_of c.args.new.now in
    left_none (λ fs. unknown (fields_of fs) gs) (λ fs. []) c.args.old.now c.loop-field.field-index c.args.self.now c.loop-field.self c.loop-field.invariant.left refl refl (omega arith)
