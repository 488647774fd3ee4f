-- What an element does to the slots of a struct of one field or of two.
use Rattle.std.proofs.Common.{◌≡◌, [], ◌∷◌, true, false, cond, Ok, ap, ◌∙◌}
use Rattle.std.specs.Str.{bytes_eq}
use Rattle.bson_kinds.specs.Outcome.{◌>>=◌, result_map}
use Rattle.bson_kinds.specs.Text.{Utf8}
use Rattle.bson_rawdoc.specs.Node.{Node}
use Rattle.bson_shape.specs.Form.{dropped}
use Rattle.bson_laws.specs.Judged.{Reading}
use Rattle.bson_laws.specs.Slots.{Slot, Slots, fill_slot, put_at}
use Rattle.bson_wrapped.specs.Fields.{drop_at}

-- an element that goes into the first slot, one that goes into another, and one that is dropped
module _ (key : Utf8) (n : Node) where
  abbrev here : Slot → Slots → Reading Slots
  here slot slots = result_map (λ filled. filled ∷ slots) (fill_slot key n slot slot.value)

  abbrev further : Slot → Slots → Reading Slots
  further slot slots = result_map (λ others. slot ∷ others) (put_at dropped key n slots)

  pub put_here : (slot filled : Slot) (slots : Slots) → bytes_eq slot.name key ≡ true → fill_slot key n slot slot.value ≡ Ok filled → put_at dropped key n (slot ∷ slots) ≡ Ok (filled ∷ slots)
  put_here slot filled slots e is = ap (λ b. cond b (here slot slots) (further slot slots)) e ∙ ap (result_map (λ x. x ∷ slots)) is

  pub put_further : (slot : Slot) (slots others : Slots) → bytes_eq slot.name key ≡ false → put_at dropped key n slots ≡ Ok others → put_at dropped key n (slot ∷ slots) ≡ Ok (slot ∷ others)
  put_further slot slots others e is = ap (λ b. cond b (here slot slots) (further slot slots)) e ∙ ap (result_map (λ xs. slot ∷ xs)) is

  pub put_dropped : drop_at key n ≡ Ok tt → put_at dropped key n [] ≡ Ok []
  put_dropped is = ap (λ r. r >>= λ _. Ok []) is
