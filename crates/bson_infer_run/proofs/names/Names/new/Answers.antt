use Rattle.std.proofs.Common.{map, ap, sym, subst, string_bytes}
use Rattle.bson_infer_run.specs.NamesView.{IsIndexed}
use Rattle.bson_infer_run.proofs.NamePlaces.{indexed_none}
use Rattle.bson_infer_run.proofs.names.Names.new.Goals as goal

pub invariant_of-result : goal.invariant_of-result
invariant_of-result c = subst (λ ks. IsIndexed ks c.new-2.result) (sym (ap (map string_bytes) c.new.ensures.items)) (indexed_none c.new-2.result)
