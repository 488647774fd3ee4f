use Rattle.std.proofs.Common.{◌≡◌}
use Rattle.bson_shape.specs.ShapeView.{fields_of}
use Rattle.bson_evolve_check.specs.Steps.{variant_path}
use Rattle.bson_evolve_differences.specs.Mismatch.{common_fields, missing}
use Rattle.bson_evolve_differences.specs.Views.{missing_in}
use Rattle.bson_evolve_differences.proofs.Adding.{Left}
use Rattle.bson_evolve_differences.proofs.mismatch.Mismatch.add_fields.Given as goal

-- the fields from here on add what is left
abbrev pub invariant-loop-field : goal.invariant-loop-field
invariant-loop-field l = record {
  items : l.index.items.now ≡ l.old;
  left : Left (λ gs. missing (missing_in l.variant) (fields_of l.old) (fields_of gs)) (λ gs. common_fields (variant_path l.variant) (fields_of l.old) (fields_of gs)) l.new l.field-index l.initial.self l.self;
}
