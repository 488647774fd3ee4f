use Rattle.std.proofs.Common.{List, ap, sym, subst, ◌∙◌, refl, arith}
use Rattle.std.specs.Borrow.{Bor}
use Rattle.std.specs.Prelude.{string_bytes}
use Rattle.bson_shape.specs.Makers.{has_repeat}
use Rattle.bson_shape.specs.ShapeView.{fields_of}
use Rattle.bson_shape.specs.declared.shape.FieldShape.{FieldShape}
use Rattle.bson_laws.specs.Named.{form_of}
use Rattle.bson_evolve_check.specs.Steps.{variant_path}
use Rattle.bson_evolve_check.proofs.Found.{field_names_of}
use Rattle.bson_evolve_differences.specs.Mismatch.{common_field, common_fields, is_given, missing, unless}
use Rattle.bson_evolve_differences.specs.Views.{missing_in, Adds}
use Rattle.bson_evolve_differences.proofs.Adding.{left_more, left_none}
use Rattle.bson_evolve_differences.proofs.mismatch.Mismatch.add_fields.Goals as goal

pub new-index-requires : goal.new-index-requires
new-index-requires c = ap has_repeat (sym (field_names_of c.args.old.now)) ∙ c.requires

pub loop-field-init : goal.loop-field-init
loop-field-init c = record { items = ap (λ (fs : Bor (List FieldShape)). fs.now) c.new-index.ensures; left = record { reasons = refl; common = refl } }

pub loop-field-preserved : goal.loop-field-preserved
loop-field-preserved c =
    let path = variant_path c.args.variant in
    let because = missing_in c.args.variant in
    let fs = fields_of c.args.old.now in
    record {
      items = ap (λ (fs : Bor (List FieldShape)). fs.now) c.add_field.ensures.items ∙ c.loop-field.invariant.items;
      left = left_more (λ gs. missing because fs (fields_of gs)) (λ gs. common_fields path fs (fields_of gs)) c.args.new.now c.loop-field.field-index c.args.self.now c.loop-field.self c.loop-field.invariant.left
          (λ (g : FieldShape). unless (is_given (form_of fs (string_bytes g.name)) g.shape) (because (string_bytes g.name))) (λ (g : FieldShape). common_field path (string_bytes g.name) (form_of fs (string_bytes g.name)) g.shape)
          (λ g gs. refl) (λ g gs. refl) c.field-item.result c.add_field.new.self (omega arith) c.field-item.is
          (subst (λ (hs : List FieldShape). let f = c.field-item.result in let found = form_of (fields_of hs) (string_bytes f.name) in Adds c.loop-field.self c.add_field.new.self (unless (is_given found f.shape) (because (string_bytes f.name))) (common_field path (string_bytes f.name) found f.shape))
          c.loop-field.invariant.items c.in_ok-add_field.ensures.adds);
    }

pub returns : goal.returns
returns c =
    let path = variant_path c.args.variant in
    let because = missing_in c.args.variant in
    let fs = fields_of c.args.old.now in
    left_none (λ gs. missing because fs (fields_of gs)) (λ gs. common_fields path fs (fields_of gs)) c.args.new.now c.loop-field.field-index c.args.self.now c.loop-field.self c.loop-field.invariant.left refl refl (omega arith)
