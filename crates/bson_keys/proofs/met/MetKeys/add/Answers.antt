use Rattle.std.proofs.Common.{map, ap, sym, ◌∙◌, rules}
use Rattle.std.specs.Map.Iter.{deref}
use Rattle.bson_keys.specs.New.{is_new}
use Rattle.bson_keys.proofs.More.{no_items, few_more}
use Rattle.bson_keys.proofs.met.MetKeys.add.Goals as goal

pub returns : goal.returns
returns c =
    let empty = no_items c.args.self.now.many.items c.args.self.now.many.len (search rules) c.if-not-is_empty.ensures in
    record { added = λ _. few_more c.args.self.now _ c.args.key empty empty c.push.ensures.items (ap (λ ns. is_new c.args.key.now (map deref ns)) (sym c.as_slice.ensures.value) ∙ sym c.if-not-is_new.ensures) }
