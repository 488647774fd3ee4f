-- Texts that are made, numbers and structs in the values of wrapper keys are read back.
use Rattle.std.proofs.Common.{◌≡◌, ℕ, ◌<◌, ◌^◌, pos, [], ◌∷◌, true, false, cond, Some, None, Ok, Err, refl, ap, ◌∙◌, arith}
use Rattle.std.specs.Str.{bytes_eq, is_utf8}
use Rattle.std.proofs.lemmas.Int.{ints}
use Rattle.bson_kinds.specs.Outcome.{◌>>=◌, result_map}
use Rattle.bson_kinds.specs.Text.{Utf8}
use Rattle.bson_rawdoc.specs.Node.{Node, string, made_document, int64, ended, one, two}
use Rattle.bson_kinds.specs.Piece.{made}
use Rattle.bson_faults.specs.declared.raw.Error.TheVariants.{NotUtf8}
use Rattle.bson_shape.specs.Form.{dropped, Form, leaf}
use Rattle.bson_shape.specs.declared.leaf.Leaf.TheVariants.{U32}
use Rattle.bson_values.specs.Cause.{out_of_range}
use Rattle.bson_values.specs.Marked.{Marked}
use Rattle.bson_values.specs.Refusal.{under}
use Rattle.bson_values.specs.Value as value
use Rattle.bson_values.specs.Value.{u32, in_range, no_field_values, field_value}
use Rattle.bson_laws.specs.Judged.{Reading, refused, judged, faultless}
use Rattle.bson_laws.specs.Leaves.{texts}
use Rattle.bson_laws.specs.ReadsLeaf.{no_extended, read_leaf_with}
use Rattle.bson_laws.specs.Shaped.{reads}
use Rattle.bson_laws.specs.Slots.{Slot, Slots, missing_value, fill_slot, put_at, fill, finish}
use Rattle.bson_laws.specs.Wrapped.{text, with_field, with_fields}

-- ---- texts

-- a text that is well-formed has no fault
pub made_judged : (t : Utf8) → is_utf8 t ≡ true → judged (string (made t)) ≡ Ok (string (made t))
made_judged t e = ap (λ c. faultless (cond c None (Some NotUtf8)) (string (made t))) e

-- so it is read at `string`
pub made_read : (t : Utf8) → is_utf8 t ≡ true → reads no_extended text (string (made t)) ≡ Ok (value.str (made t))
made_read t e = ap (λ r. r >>= read_leaf_with no_extended false texts) (made_judged t e)

-- ---- numbers

unsigned_fits : (n : ℕ) → n < 2 ^ 32 → in_range u32 (pos n) ≡ true
unsigned_fits n h = grind (arith, ints, h)

pub unsigned_read : (n : ℕ) → n < 2 ^ 32 → reads no_extended (leaf U32) (int64 (pos n)) ≡ Ok (value.integer u32 (pos n))
unsigned_read n h = ap (λ b. cond b (Ok (value.integer u32 (pos n))) (refused (out_of_range (pos n)))) (unsigned_fits n h)

-- ---- structs

-- the slot of a field, for which no value has been read yet
abbrev slot_of : Utf8 → Form → Slot
slot_of name s = record { name = name; missing = missing_value s; read = reads no_extended s; value = None }

abbrev filled : Utf8 → Form → Marked → Slot
filled name s v = record { name = name; missing = missing_value s; read = reads no_extended s; value = Some v }

abbrev of_slots : Reading Slots → Reading Marked
of_slots r = result_map (value.structure (made [])) (r >>= finish)

-- one element that is read goes to its slot
abbrev taken : Utf8 → Form → Reading Marked → Reading Slot
taken name s r = under name r >>= λ v. Ok (filled name s v)

-- what a struct of one field is, and one of two
abbrev pub struct_of_one : Utf8 → Marked → Marked
struct_of_one a v = value.structure (made []) (field_value (made a) v no_field_values)

abbrev pub struct_of_two : Utf8 → Marked → Utf8 → Marked → Marked
struct_of_two a v b w = value.structure (made []) (field_value (made a) v (field_value (made b) w no_field_values))

pub field_read : (a : Utf8) (s : Form) (n : Node) (v : Marked) → bytes_eq a a ≡ true → reads no_extended s n ≡ Ok v → reads no_extended (with_field a s) (made_document (one a n)) ≡ Ok (struct_of_one a v)
field_read a s n v same p =
    let slot = slot_of a s in
    ap (λ b. of_slots (cond b (result_map (λ x. x ∷ []) (taken a s (reads no_extended s n))) (result_map (λ xs. slot ∷ xs) (put_at dropped a n [])) >>= fill dropped ended)) same
    ∙ ap (λ r. of_slots (result_map (λ x. x ∷ []) (taken a s r) >>= fill dropped ended)) p

-- two fields in their order, each read or refused
abbrev pub both_read : Utf8 → Reading Marked → Utf8 → Reading Marked → Reading Marked
both_read a v b w = under a v >>= λ x. under b w >>= λ y. Ok (struct_of_two a x b y)

module _ (a : Utf8) (s : Form) (b : Utf8) (r : Form) (n m : Node) (same : bytes_eq a a ≡ true) (other : bytes_eq a b ≡ false) (same_too : bytes_eq b b ≡ true) where
  -- the element of the second field, where nothing or something was read for the first
  second_put : (slot : Slot) (w : Reading Marked) → slot.name ≡ a → reads no_extended r m ≡ w
      → put_at dropped b m (slot ∷ slot_of b r ∷ []) ≡ result_map (λ y. slot ∷ y ∷ []) (taken b r w)
  second_put slot w is q =
      let late = slot_of b r in
      ap (λ t. cond t (result_map (λ y. y ∷ late ∷ []) (fill_slot b m slot slot.value)) (result_map (λ xs. slot ∷ xs) (put_at dropped b m (late ∷ [])))) (ap (λ x. bytes_eq x b) is ∙ other)
      ∙ ap (λ t. result_map (λ xs. slot ∷ xs) (cond t (result_map (λ y. y ∷ []) (taken b r (reads no_extended r m))) (result_map (λ xs. late ∷ xs) (put_at dropped b m [])))) same_too
      ∙ ap (λ z. result_map (λ xs. slot ∷ xs) (result_map (λ y. y ∷ []) (taken b r z))) q
      ∙ both w
    where
      both : (w : Reading Marked) → result_map (λ xs. slot ∷ xs) (result_map (λ y. y ∷ []) (taken b r w)) ≡ result_map (λ y. slot ∷ y ∷ []) (taken b r w)
      both (Ok y) = refl
      both (Err f) = refl

  first_put : (slot : Slot) (v : Reading Marked) → reads no_extended s n ≡ v → put_at dropped a n (slot_of a s ∷ slot ∷ []) ≡ result_map (λ x. x ∷ slot ∷ []) (taken a s v)
  first_put slot v p =
      let early = slot_of a s in
      ap (λ t. cond t (result_map (λ x. x ∷ slot ∷ []) (taken a s (reads no_extended s n))) (result_map (λ xs. early ∷ xs) (put_at dropped a n (slot ∷ [])))) same
      ∙ ap (λ z. result_map (λ x. x ∷ slot ∷ []) (taken a s z)) p

  -- a struct of two fields
  pub fields_read : (v w : Reading Marked) → reads no_extended s n ≡ v → reads no_extended r m ≡ w → reads no_extended (with_fields a s b r) (made_document (two a n b m)) ≡ both_read a v b w
  fields_read v w p q = ap (λ z. of_slots (z >>= fill dropped (one b m))) (first_put (slot_of b r) v p) ∙ rest v w q
    where
      rest : (v w : Reading Marked) → reads no_extended r m ≡ w → of_slots (result_map (λ x. x ∷ slot_of b r ∷ []) (taken a s v) >>= fill dropped (one b m)) ≡ both_read a v b w
      rest (Ok x) (Ok y) e = ap (λ z. of_slots (z >>= fill dropped ended)) (second_put (filled a s x) (Ok y) refl e)
      rest (Ok x) (Err f) e = ap (λ z. of_slots (z >>= fill dropped ended)) (second_put (filled a s x) (Err f) refl e)
      rest (Err f) w e = refl

  -- and where the second field comes first
  pub fields_read_turned : (x y : Marked) → reads no_extended s n ≡ Ok x → reads no_extended r m ≡ Ok y → reads no_extended (with_fields a s b r) (made_document (two b m a n)) ≡ Ok (struct_of_two a x b y)
  fields_read_turned x y p q =
      ap (λ z. of_slots (z >>= fill dropped (one a n))) (second_put (slot_of a s) (Ok y) refl q)
      ∙ ap (λ z. of_slots (z >>= fill dropped ended)) (first_put (filled b r y) (Ok x) p)
