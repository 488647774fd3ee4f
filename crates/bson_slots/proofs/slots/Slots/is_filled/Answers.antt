use Rattle.std.proofs.Common.{◌≡◌, ◌-◌, length, get_or, ap, sym, ◌∙◌, arith}
use Rattle.bson_slots.proofs.Finished.{first_filled, later_filled, later_empty}
use Rattle.bson_slots.proofs.slots.Slots.is_filled.Goals as goal

pub returns-then-place-len : goal.returns-then-place-len
returns-then-place-len c = sym (first_filled c.args.self.now.reader.now c.args.self.now.fields.now c.args.self.now.first.items c.args.self.now.later.items c.args.place c.args.self.now.named (omega arith))

pub returns-in-Some : goal.returns-in-Some
returns-in-Some c =
    let s = c.args.self.now in
    let k = c.args.place - c.len-2.result in
    let found = c.in-Some.ensures.lookup in
    let all = c.deref.ensures.value in
    let got : c.in-Some.value.now ≡ get_or s.later.items k c.in-Some.value.now = found.1 ∙ ap (λ xs. get_or xs k c.in-Some.value.now) all in
    c.is_some.ensures ∙ sym (later_filled s.reader.now s.fields.now s.first.items s.later.items c.args.place k c.in-Some.value.now (omega arith) c.requires (omega (arith, found.3.0, ap length all)) got)

pub returns-in-None : goal.returns-in-None
returns-in-None c =
    let s = c.args.self.now in
    let all = c.deref.ensures.value in
    sym (later_empty s.reader.now s.fields.now s.first.items s.later.items c.args.place (c.args.place - c.len-2.result) (omega arith) (omega (arith, ap length all, c.in-None.ensures.lookup)))
