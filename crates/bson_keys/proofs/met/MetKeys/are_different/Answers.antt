use Rattle.std.proofs.Common.{subst, rules, map}
use Rattle.std.specs.List.{IsDistinct}
use Rattle.std.specs.Map.Iter.{deref}
use Rattle.std.specs.Str.{bytes_eq}
use Rattle.bson_keys.proofs.More.{no_items, different_few, different_many}
use Rattle.bson_keys.proofs.met.MetKeys.are_different.Goals as goal

pub returns-then-is_empty : goal.returns-then-is_empty
returns-then-is_empty c = record { different = λ h. different_few c.args.self.now (no_items c.args.self.now.many.items c.args.self.now.many.len (search rules) c.if-is_empty.ensures) }

pub returns-else-is_empty : goal.returns-else-is_empty
returns-else-is_empty c = record { different = λ h. different_many c.args.self.now (subst (λ ks. IsDistinct bytes_eq (map deref ks)) c.as_slice.ensures.value (c.are_different.ensures h)) }
