use Rattle.std.proofs.Common.{◌≡◌, []}
use Rattle.bson_shape.specs.ShapeView.{fields_of}
use Rattle.bson_evolve_differences.specs.Mismatch.{unknown}
use Rattle.bson_evolve_differences.proofs.Adding.{Left}
use Rattle.bson_evolve_differences.proofs.mismatch.Mismatch.add_unknown.Given as goal

-- the fields from here on add what is left
abbrev pub invariant-loop-field : goal.invariant-loop-field
invariant-loop-field l = record {
  items : l.index.items.now ≡ l.new;
  left : Left (λ fs. unknown (fields_of fs) (fields_of l.new)) (λ fs. []) l.old l.field-index l.initial.self l.self;
}
