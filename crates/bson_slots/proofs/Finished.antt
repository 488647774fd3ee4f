-- The slots of the fields of a struct: which have a value, how one more is kept, and what all give.
use Rattle.std.proofs.Common.{◌≡◌, ℕ, zero, suc, ◌+◌, ◌<◌, ◌≤◌, List, [], ◌∷◌, ◌++◌, length, get_or, set, true, false, Option, Some, None, Result, Ok, Err, IfOk, refl, ap, sym, ◌∙◌, subst, string_bytes, arith}
use Rattle.std.specs.Prelude.{option_map, is_some}
use Rattle.bson_kinds.specs.Outcome.{◌>>=◌, result_map}
use Rattle.bson_kinds.specs.Piece.{Piece, made}
use Rattle.bson_shape.specs.ShapeView.{fields_of}
use Rattle.bson_shape.specs.declared.shape.FieldShape.{FieldShape}
use Rattle.bson_values.specs.Marked.{Marked}
use Rattle.bson_values.specs.Pieces.{text_piece}
use Rattle.bson_datum.specs.MarkedView.{marked}
use Rattle.bson_values.specs.Value.{field_value}
use Rattle.bson_datum.specs.declared.datum.Datum.{Datum}
use Rattle.bson_datum.specs.declared.datum.Field.{Field}
use Rattle.bson_values.specs.declared.de.Fault.{Fault}
use Rattle.bson_values.specs.declared.stop.Stop.{Stop}
use Rattle.bson_laws.specs.declared.origin.Reader.{Reader}
use Rattle.bson_laws.specs.ReadsFrom.{reads_for, slots_for}
use Rattle.bson_laws.specs.Scopes.{meanings_of}
use Rattle.bson_laws.specs.Settled.{settled}
use Rattle.bson_laws.specs.Slots.{Slot, Slots, missing_value, finish, value_or}
use Rattle.bson_laws.proofs.Scoped.{missing_formed}
use Rattle.bson_slots.specs.FieldSlots as spec
use Rattle.bson_slots.specs.FieldSlots.{AreFirst, IsNamed, fields_marked, value_at, with_value}
use Rattle.bson_met.proofs.Refusals.{StopsAs, stops_bind, stops_map}

-- whether there is a value is seen of what it stands for
is_some_marked : (v : Option Datum) → is_some (option_map marked v) ≡ is_some v
is_some_marked None = refl
is_some_marked (Some d) = refl

is_named : (f : FieldShape) (x : Field) → text_piece x.name ≡ made (string_bytes f.name) → IsNamed f x
is_named f x name = (ap (λ (p : Piece). p.bytes) name, ap (λ (p : Piece). p.in_input) name)

name_made : (f : FieldShape) (x : Field) → IsNamed f x → text_piece x.name ≡ made (string_bytes f.name)
name_made f x named = λ i. record { bytes = named.0 i; in_input = named.1 i }

pub named_more : (fs : List FieldShape) (first : List Field) (x : Field) (f : FieldShape) → AreFirst fs first → length first < length fs → f ≡ get_or fs (length first) f → text_piece x.name ≡ made (string_bytes f.name) → AreFirst fs (first ++ x ∷ [])
named_more [] first x f named lt stands name = absurd (omega arith)
named_more (g ∷ fs) [] x f named lt stands name = (is_named g x (name ∙ ap (λ (h : FieldShape). made (string_bytes h.name)) stands), tt)
named_more (g ∷ fs) (y ∷ first) x f named lt stands name = (named.0, named_more fs first x f named.1 (omega arith) stands name)

-- what follows from a promise for where there was memory holds there too
pub ok_then : {T E : Type 0} {P Q : Type 0} (r : Result T E) → (P → Q) → IfOk r (λ _. P) → IfOk r (λ _. Q)
ok_then (Ok x) f p = f p
ok_then (Err e) f p = tt

-- ---- the slots for a reader

module _ (reader : Reader) where
  abbrev slot_of : FieldShape → Option Marked → Slot
  slot_of = spec.slot_of reader

  abbrev field_slots : List FieldShape → List Field → List (Option Datum) → Slots
  field_slots = spec.field_slots reader

  -- no value yet
  pub none_yet : (fs : List FieldShape) → field_slots fs [] [] ≡ slots_for reader (fields_of fs)
  none_yet [] = refl
  none_yet (f ∷ fs) = λ i.
      record { name = string_bytes f.name; missing = sym (missing_formed reader.readable (meanings_of reader) f.shape) i; read = reads_for reader f.shape; value = None } ∷ none_yet fs i

  -- each of the first has its value
  pub first_filled : (fs : List FieldShape) (first : List Field) (later : List (Option Datum)) (i : ℕ) → AreFirst fs first → i < length first → is_some (value_at (field_slots fs first later) i) ≡ true
  first_filled fs [] later i named lt = absurd (omega arith)
  first_filled [] (x ∷ first) later i named lt = absurd named
  first_filled (f ∷ fs) (x ∷ first) later zero named lt = refl
  first_filled (f ∷ fs) (x ∷ first) later (suc i) named lt = first_filled fs first later i named.1 (omega arith)

  -- a field without a value is none of the first
  pub behind_first : (fs : List FieldShape) (first : List Field) (later : List (Option Datum)) (i : ℕ) → AreFirst fs first → is_some (value_at (field_slots fs first later) i) ≡ false → length first ≤ i
  behind_first fs [] later i named new = omega arith
  behind_first [] (x ∷ first) later i named new = absurd named
  behind_first (f ∷ fs) (x ∷ first) later zero named new = absurd cc
  behind_first (f ∷ fs) (x ∷ first) later (suc i) named new = let below : length first ≤ i = behind_first fs first later i named.1 new in omega (arith, below)

  -- a field behind the first has a value where one was kept for it
  pub later_filled : (fs : List FieldShape) (first : List Field) (later : List (Option Datum)) (i k : ℕ) (v : Option Datum) → i ≡ length first + k → i < length fs → k < length later → v ≡ get_or later k v → is_some (value_at (field_slots fs first later) i) ≡ is_some v
  later_filled [] first later i k v at lt there got = absurd (omega arith)
  later_filled (f ∷ fs) (x ∷ first) later zero k v at lt there got = absurd (omega (arith, at))
  later_filled (f ∷ fs) (x ∷ first) later (suc i) k v at lt there got = later_filled fs first later i k v (omega (arith, at)) (omega arith) there got
  later_filled (f ∷ fs) [] [] i k v at lt there got = absurd (omega arith)
  later_filled (f ∷ fs) [] (w ∷ later) zero zero v at lt there got = is_some_marked w ∙ ap is_some (sym got)
  later_filled (f ∷ fs) [] (w ∷ later) zero (suc k) v at lt there got = absurd (omega (arith, at))
  later_filled (f ∷ fs) [] (w ∷ later) (suc i) zero v at lt there got = absurd (omega (arith, at))
  later_filled (f ∷ fs) [] (w ∷ later) (suc i) (suc k) v at lt there got = later_filled fs [] later i k v (omega (arith, at)) (omega arith) (omega arith) got

  pub later_empty : (fs : List FieldShape) (first : List Field) (later : List (Option Datum)) (i k : ℕ) → i ≡ length first + k → length later ≤ k → is_some (value_at (field_slots fs first later) i) ≡ false
  later_empty [] first later i k at beyond = refl
  later_empty (f ∷ fs) (x ∷ first) later zero k at beyond = absurd (omega (arith, at))
  later_empty (f ∷ fs) (x ∷ first) later (suc i) k at beyond = later_empty fs first later i k (omega (arith, at)) beyond
  later_empty (f ∷ fs) [] [] zero k at beyond = refl
  later_empty (f ∷ fs) [] [] (suc i) k at beyond = later_empty fs [] [] i i (omega arith) (omega arith)
  later_empty (f ∷ fs) [] (w ∷ later) zero k at beyond = absurd (omega (arith, at))
  later_empty (f ∷ fs) [] (w ∷ later) (suc i) zero at beyond = absurd (omega arith)
  later_empty (f ∷ fs) [] (w ∷ later) (suc i) (suc k) at beyond = later_empty fs [] later i k (omega (arith, at)) (omega arith)

  -- one more of the first
  pub first_more : (fs : List FieldShape) (first : List Field) (x : Field) (later : List (Option Datum)) → field_slots fs (first ++ x ∷ []) later ≡ field_slots fs first (Some x.value ∷ later)
  first_more [] first x later = refl
  first_more (f ∷ fs) [] x later = refl
  first_more (f ∷ fs) (y ∷ first) x later = ap (λ r. slot_of f (Some (marked y.value)) ∷ r) (first_more fs first x later)

  -- room for a value that has not come is no value
  pub none_more : (fs : List FieldShape) (first : List Field) (later : List (Option Datum)) → field_slots fs first (later ++ None ∷ []) ≡ field_slots fs first later
  none_more [] first later = refl
  none_more (f ∷ fs) (x ∷ first) later = ap (λ r. slot_of f (Some (marked x.value)) ∷ r) (none_more fs first later)
  none_more (f ∷ fs) [] [] = refl
  none_more (f ∷ fs) [] (v ∷ later) = ap (λ r. slot_of f (option_map marked v) ∷ r) (none_more fs [] later)

  -- a value that is kept behind the first
  pub later_kept : (fs : List FieldShape) (first : List Field) (later : List (Option Datum)) (i k : ℕ) (v : Datum) → i ≡ length first + k → k < length later → field_slots fs first (set later k (Some v)) ≡ with_value (field_slots fs first later) i (marked v)
  later_kept [] first later i k v at lt = refl
  later_kept (f ∷ fs) (x ∷ first) later zero k v at lt = absurd (omega (arith, at))
  later_kept (f ∷ fs) (x ∷ first) later (suc i) k v at lt = ap (λ r. slot_of f (Some (marked x.value)) ∷ r) (later_kept fs first later i k v (omega (arith, at)) lt)
  later_kept (f ∷ fs) [] [] i k v at lt = absurd (omega arith)
  later_kept (f ∷ fs) [] (w ∷ later) zero zero v at lt = refl
  later_kept (f ∷ fs) [] (w ∷ later) zero (suc k) v at lt = absurd (omega (arith, at))
  later_kept (f ∷ fs) [] (w ∷ later) (suc i) zero v at lt = absurd (omega (arith, at))
  later_kept (f ∷ fs) [] (w ∷ later) (suc i) (suc k) v at lt = ap (λ r. slot_of f (option_map marked w) ∷ r) (later_kept fs [] later i k v (omega (arith, at)) (omega arith))

  -- a value that is kept as one more of the first
  pub next_kept : (fs : List FieldShape) (first : List Field) (v : Datum) → field_slots fs first (Some v ∷ []) ≡ with_value (field_slots fs first []) (length first) (marked v)
  next_kept [] first v = refl
  next_kept (f ∷ fs) (x ∷ first) v = ap (λ r. slot_of f (Some (marked x.value)) ∷ r) (next_kept fs first v)
  next_kept (f ∷ fs) [] v = refl

  -- all fields are among the first
  pub all_finished : (fs : List FieldShape) (first : List Field) (later : List (Option Datum)) → AreFirst fs first → length fs ≤ length first → finish (field_slots fs first later) ≡ Ok (fields_marked first)
  all_finished [] [] later named le = refl
  all_finished [] (x ∷ first) later named le = absurd named
  all_finished (f ∷ fs) [] later named le = absurd (omega arith)
  all_finished (f ∷ fs) (x ∷ first) later named le =
      ap (result_map (field_value (made (string_bytes f.name)) (marked x.value))) (all_finished fs first later named.1 (omega arith)) ∙ ap (λ n. Ok (field_value n (marked x.value) (fields_marked first))) (sym (name_made f x named.0))

  -- the field behind the first, with the value that was read for it or that stands for a missing one
  pub first_given : (fs : List FieldShape) (first : List Field) (o : Option Datum) (later : List (Option Datum)) (f : FieldShape) (v : Datum) → length first < length fs → f ≡ get_or fs (length first) f
      → value_or (string_bytes f.name) (missing_value (settled reader.readable f.shape)) (option_map marked o) ≡ Ok (marked v) → finish (field_slots fs first (Some v ∷ later)) ≡ finish (field_slots fs first (o ∷ later))
  first_given [] first o later f v lt stands given = absurd (omega arith)
  first_given (g ∷ fs) [] o later f v lt stands given =
      sym (ap (λ r. r >>= λ x. result_map (field_value (made (string_bytes g.name)) x) (finish (field_slots fs [] later)))
      (ap (λ (h : FieldShape). value_or (string_bytes h.name) (missing_value (settled reader.readable h.shape)) (option_map marked o)) (sym stands) ∙ given))
  first_given (g ∷ fs) (x ∷ first) o later f v lt stands given = ap (result_map (field_value (made (string_bytes g.name)) (marked x.value))) (first_given fs first o later f v (omega arith) stands given)

  -- where it has none and none stands for it, the struct is refused
  pub first_missing : (fs : List FieldShape) (first : List Field) (o : Option Datum) (later : List (Option Datum)) (f : FieldShape) (s : Stop Fault) → length first < length fs → f ≡ get_or fs (length first) f
      → StopsAs s (value_or (string_bytes f.name) (missing_value (settled reader.readable f.shape)) (option_map marked o)) → StopsAs s (finish (field_slots fs first (o ∷ later)))
  first_missing [] first o later f s lt stands h = absurd (omega arith)
  first_missing (g ∷ fs) [] o later f s lt stands h =
      stops_bind s (value_or (string_bytes g.name) (missing_value (settled reader.readable g.shape)) (option_map marked o)) (λ x. result_map (field_value (made (string_bytes g.name)) x) (finish (field_slots fs [] later)))
      (subst (λ (e : FieldShape). StopsAs s (value_or (string_bytes e.name) (missing_value (settled reader.readable e.shape)) (option_map marked o))) stands h)
  first_missing (g ∷ fs) (x ∷ first) o later f s lt stands h =
      stops_map s (field_value (made (string_bytes g.name)) (marked x.value)) (finish (field_slots fs first (o ∷ later))) (first_missing fs first o later f s (omega arith) stands h)
