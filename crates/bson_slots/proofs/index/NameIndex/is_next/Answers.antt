use Rattle.std.proofs.Common.{ap, sym, ◌∙◌}
use Rattle.std.proofs.lemmas.Bool.{OnTrue_from}
use Rattle.std.specs.Str.{bytes_eq}
use Rattle.bson_slots.proofs.Places.{place_got}
use Rattle.bson_slots.proofs.index.NameIndex.is_next.Goals as goal

pub returns-in-Some-clause-place : goal.returns-in-Some-clause-place
returns-in-Some-clause-place g c =
    let index = c.args.self.now in
    let name = c.args.name.now in
    let found = c.in-Some.ensures.lookup in
    OnTrue_from _ _ (λ is. place_got g.T.Named.named index.items.now name index.next c.in-Some.item.now index.distinct found.3.0 found.1 (ap (λ n. bytes_eq n name) (sym c.name.ensures) ∙ sym c.eq.ensures ∙ is))
