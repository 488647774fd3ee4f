use Rattle.std.proofs.Common.{ap, sym, ◌∙◌, arith}
use Rattle.std.specs.Str.{bytes_eq}
use Rattle.bson_slots.proofs.Places.{place_found, place_none}
use Rattle.bson_slots.proofs.index.scan.Goals as goal

pub returns-then-eq-clause-place : goal.returns-then-eq-clause-place
returns-then-eq-clause-place g c =
    let named = g.T.Named.named in
    let key = c.args.name.now in
    sym (place_found named c.args.items.now key c.loop-place.place c.index-items-place.result c.loop-place-test.true c.loop-place.invariant
    (ap (λ x. bytes_eq (named x) key) (sym c.index-items-place.is) ∙ ap (λ b. bytes_eq b key) (sym c.name.ensures) ∙ sym c.eq.ensures ∙ c.if-eq.true))

pub returns-clause-place : goal.returns-clause-place
returns-clause-place g c = sym (place_none g.T.Named.named c.args.items.now c.args.name.now (λ k e l. c.loop-place.invariant k e (omega arith)))
