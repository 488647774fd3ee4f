-- What an element does to the slots of a struct, by the place of its slot.
use Rattle.std.proofs.Common.{◌≡◌, ℕ, zero, suc, [], ◌∷◌, List, get_or, set, true, false, cond, Ok, Err, refl, ap, ◌∙◌}
use Rattle.std.specs.Str.{bytes_eq}
use Rattle.bson_kinds.specs.Text.{Utf8}
use Rattle.bson_kinds.specs.Outcome.{◌>>=◌, result_map}
use Rattle.bson_rawdoc.specs.Node.{Node}
use Rattle.bson_shape.specs.Form.{UnknownFields}
use Rattle.bson_laws.specs.Judged.{Reading}
use Rattle.bson_laws.specs.Slots.{Slot, Slots, fill_slot, unknown, put_at}

abbrev pub names_of : Slots → List Utf8
names_of [] = []
names_of (slot ∷ slots) = slot.name ∷ names_of slots

-- none of the names is this one
abbrev pub IsNone : Utf8 → List Utf8 → Type 0
IsNone key [] = Unit {0}
IsNone key (name ∷ names) = (bytes_eq name key ≡ false) × IsNone key names

-- the first of the names that is this one is at a place
abbrev pub IsFirst : Utf8 → List Utf8 → ℕ → Type 0
IsFirst key [] i = ⊥
IsFirst key (name ∷ names) zero = bytes_eq name key ≡ true
IsFirst key (name ∷ names) (suc i) = (bytes_eq name key ≡ false) × IsFirst key names i

mapped_then : {A B C : Type 0} (f : B → C) (r : Reading A) (x : B) → result_map f (r >>= λ _. Ok x) ≡ (r >>= λ _. Ok (f x))
mapped_then f (Ok y) x = refl
mapped_then f (Err e) x = refl

mapped_twice : {A B C : Type 0} (f : B → C) (g : A → B) (r : Reading A) → result_map f (result_map g r) ≡ result_map (λ x. f (g x)) r
mapped_twice f g (Ok x) = refl
mapped_twice f g (Err e) = refl

-- an element whose key is no name is dropped, or refused
pub put_none : (u : UnknownFields) (key : Utf8) (n : Node) (slots : Slots) → IsNone key (names_of slots) → put_at u key n slots ≡ (unknown u key n >>= λ _. Ok slots)
put_none u key n [] h = refl
put_none u key n (slot ∷ slots) h =
    ap (λ b. cond b (result_map (λ x. x ∷ slots) (fill_slot key n slot slot.value)) (result_map (λ xs. slot ∷ xs) (put_at u key n slots))) h.0
    ∙ ap (result_map (λ xs. slot ∷ xs)) (put_none u key n slots h.1)
    ∙ mapped_then (λ xs. slot ∷ xs) (unknown u key n) slots

-- an element whose key is a name goes to the slot at the place of the name
pub put_first : (u : UnknownFields) (key : Utf8) (n : Node) (slots : Slots) (i : ℕ) (default : Slot) → IsFirst key (names_of slots) i
    → put_at u key n slots ≡ result_map (λ filled. set slots i filled) (fill_slot key n (get_or slots i default) (get_or slots i default).value)
put_first u key n [] i default h = absurd h
put_first u key n (slot ∷ slots) zero default h = ap (λ b. cond b (result_map (λ x. x ∷ slots) (fill_slot key n slot slot.value)) (result_map (λ xs. slot ∷ xs) (put_at u key n slots))) h
put_first u key n (slot ∷ slots) (suc i) default h =
    ap (λ b. cond b (result_map (λ x. x ∷ slots) (fill_slot key n slot slot.value)) (result_map (λ xs. slot ∷ xs) (put_at u key n slots))) h.0
    ∙ ap (result_map (λ xs. slot ∷ xs)) (put_first u key n slots i default h.1)
    ∙ mapped_twice (λ xs. slot ∷ xs) (λ filled. set slots i filled) (fill_slot key n (get_or slots i default) (get_or slots i default).value)
