use Rattle.std.proofs.Common.{◌<◌, length, get_or, List, Option, None, ap, sym, subst, ◌∙◌}
use Rattle.bson_rawdoc.specs.Walk.{Element}
use Rattle.bson_slots.specs.FieldsRead.{unknown_of}
use Rattle.bson_pass_parts.specs.Found.{IsField}
use Rattle.bson_pass_parts.specs.Free.{is_free}
use Rattle.bson_pass_parts.proofs.AnyOrder.{element_noted, element_dropped}
use Rattle.bson_pass_parts.proofs.found.note_element.Goals as goal

pub returns-in_default : goal.returns-in_default
returns-in_default c =
    record {
      noted = λ r.
          (element_dropped r (unknown_of c.args.closed) c.args.levels c.args.front.now c.args.fields.now c.args.element c.args.found.now.items (ap (λ k. is_free k c.args.fields.now) (sym c.key.ensures.key) ∙ c.in_default.ensures.free)
          (ap (λ k. is_free k c.args.front.now) (sym c.key-in_default.ensures.key) ∙ sym c.if-not-is_free.ensures) (ap unknown_of c.if-closed.false) c.in_ok-drop_value.ensures);
    }

pub returns-in-Some-None : goal.returns-in-Some-None
returns-in-Some-None c =
    let place = c.in-Some.place in
    let got = c.in-Some-None.ensures.lookup in
    let empty = rw c.in-Some-None.field-0-is at got.1 in
    record {
      noted = λ r.
          (element_noted r (unknown_of c.args.closed) c.args.levels c.args.front.now c.args.fields.now c.args.element place c.args.found.now.items c.requires.distinct (subst (IsField c.args.fields.now place) c.key.ensures.key c.in-Some.ensures.found)
          (subst (λ (xs : List (Option Element)). place < length xs) c.deref.ensures.value got.3.0) (ap (λ (xs : List (Option Element)). get_or xs place None) (sym c.deref.ensures.value) ∙ sym empty));
    }
