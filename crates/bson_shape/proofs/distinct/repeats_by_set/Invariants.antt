use Rattle.std.proofs.Common.{◌≡◌, false, Bor, ℕ, List, map, take}
use Rattle.std.specs.BTreeSet.{contains_by}
use Rattle.std.specs.Cmp.Lexicographic.{slice_cmp}
use Rattle.std.specs.Ordering.{nat_cmp}
use Rattle.bson_shape.specs.Makers.{has_name, has_repeat}
use Rattle.bson_shape.proofs.distinct.repeats_by_set.Given as goal

abbrev pub invariant-loop-item : goal.invariant-loop-item
invariant-loop-item g l = record {
  known : (q : Bor (List ℕ)) → contains_by (λ k. slice_cmp nat_cmp q.now k.now) l.names ≡ has_name q.now (map g.T.Named.named (take l.item-index l.items));
  distinct : has_repeat (map g.T.Named.named (take l.item-index l.items)) ≡ false;
}
