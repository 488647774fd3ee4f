use Rattle.std.proofs.Common.{◌≡◌, drop, map}
use Rattle.std.specs.Map.Iter.{deref}
use Rattle.bson_keys.specs.New.{is_new}
use Rattle.bson_keys.proofs.met.is_new.Given as goal

abbrev pub invariant-loop-name : goal.invariant-loop-name
invariant-loop-name l = is_new l.key (map deref l.names) ≡ is_new l.key (map deref (drop l.name-index l.names))
