use Rattle.std.proofs.Common.{◌<◌, ap, sym, subst, ◌∙◌, length, map}
use Rattle.std.specs.Prelude.{IfSome}
use Rattle.bson_slots.specs.Place.{place_of}
use Rattle.bson_slots.proofs.Places.{place_within}
use Rattle.bson_slots.proofs.index.NameIndex.find_in_map.Goals as goal

pub returns-in-Some-clause-place : goal.returns-in-Some-clause-place
returns-in-Some-clause-place g c =
    c.copied.ensures ∙ c.get.ensures.value ∙ c.make_map.new.self.indexed c.in-Some.places c.in-Some.is c.args.name.now
    ∙ ap (λ xs. place_of (map g.T.Named.named xs.now) c.args.name.now) c.make_map.ensures

pub returns-in-Some-clause-within : goal.returns-in-Some-clause-within
returns-in-Some-clause-within g c =
    let xs = c.args.self.now.items.now in
    subst (λ o. IfSome o (λ i. i < length xs)) (sym (returns-in-Some-clause-place g c)) (place_within g.T.Named.named xs c.args.name.now)
