use Rattle.std.proofs.Common.{sym, subst}
use Rattle.std.specs.List.{IsDistinct}
use Rattle.std.specs.Str.{bytes_eq}
use Rattle.bson_key_map.specs.Keys.{key_texts}
use Rattle.bson_key_map.proofs.Texts.{no_texts}
use Rattle.bson_key_map.proofs.key_map.KeyMap.with_seed.Goals as goal

pub invariant_of-result : goal.invariant_of-result
invariant_of-result g c = (subst (λ ps. IsDistinct bytes_eq (key_texts ps)) (sym c.new.ensures.items) no_texts, tt)
