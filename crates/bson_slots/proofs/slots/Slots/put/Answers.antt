use Rattle.std.proofs.Common.{◌≡◌, ◌+◌, ◌-◌, List, [], ◌∷◌, Option, length, Some, IfOk, ap, sym, subst, ◌∙◌, arith}
use Rattle.bson_laws.specs.declared.origin.Reader.{Reader}
use Rattle.bson_datum.specs.MarkedView.{marked}
use Rattle.bson_datum.specs.declared.datum.Datum.{Datum}
use Rattle.bson_slots.specs.SlotsView.{slots_view}
use Rattle.bson_slots.specs.FieldSlots.{field_slots, with_value}
use Rattle.bson_slots.proofs.Finished.{behind_first, next_kept, ok_then}
use Rattle.bson_slots.proofs.slots.Slots.put.Goals as goal

pub returns-then-is_next-clause-put : goal.returns-then-is_next-clause-put
returns-then-is_next-clause-put c =
    let s = c.args.self.now in
    let none = c.if-is_next.ensures.later in
    let first = c.push.new.first.items in
    ok_then c.push.result
    (λ (pushed : (reader : Reader) (later : List (Option Datum)) → field_slots reader s.fields.now first later ≡ field_slots reader s.fields.now s.first.items (Some c.args.value ∷ later)).
    ap (field_slots s.reader.now s.fields.now first) none ∙ pushed s.reader.now [] ∙ next_kept s.reader.now s.fields.now s.first.items c.args.value
    ∙ (λ i. with_value (field_slots s.reader.now s.fields.now s.first.items (sym none i)) (sym c.if-is_next.ensures.place i) (marked c.args.value))) c.push.ensures.pushed

pub overflow_sub-behind : goal.overflow_sub-behind
overflow_sub-behind c =
    let s = c.args.self.now in
    omega (arith, behind_first s.reader.now s.fields.now s.first.items s.later.items c.args.place s.named c.requires.unfilled)

pub put_later-requires : goal.put_later-requires
put_later-requires c =
    let s = c.args.self.now in
    omega (arith, behind_first s.reader.now s.fields.now s.first.items s.later.items c.args.place s.named c.requires.unfilled, c.requires.within)

pub returns-clause-put : goal.returns-clause-put
returns-clause-put c =
    let s = c.args.self.now in
    let at : length s.first.items + (c.args.place - c.len.result) ≡ c.args.place = omega (arith, behind_first s.reader.now s.fields.now s.first.items s.later.items c.args.place s.named c.requires.unfilled) in
    subst (λ n. IfOk c.put_later.result (λ x. slots_view c.put_later.new.self ≡ with_value (slots_view s) n (marked c.args.value))) at c.put_later.ensures.put
