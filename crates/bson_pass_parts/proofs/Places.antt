-- Recasting the fields of a struct one by one, in the shape's order.
use Rattle.std.proofs.Common.{◌≡◌, ℕ, suc, ◌+◌, ◌<◌, ◌≤◌, List, [], ◌∷◌, ◌++◌, length, get_or, take, drop, map, Bool, true, false, ◌||◌, Option, Some, None, Ok, Err, refl, ap, sym, subst, ◌∙◌, string_bytes, add-one}
use Rattle.std.specs.Str.{bytes_eq}
use Rattle.std.proofs.Math.Seq.{drop-cons}
use Rattle.std.proofs.lemmas.Bool.{false≢true}
use Rattle.std.proofs.lemmas.Slice.Eq.{bytes_eq-Decides}
use Rattle.std.proofs.lemmas.List.{append_assoc, append-nil, map-append, map_more, take-append-drop, drop_all}
use Rattle.bson_kinds.specs.Text.{Bytes, Utf8, has_zero}
use Rattle.bson_base.specs.Tree.{Tree, Pairs, null, enc, kind, element}
use Rattle.bson_kinds.specs.declared.element_type.ElementType.TheVariants.{Null}
use Rattle.bson_kinds.proofs.Tests.{not_taken}
use Rattle.bson_rawdoc.specs.Node.{Nodes, ended, then_node, node_in, nodes_with}
use Rattle.bson_kinds.specs.Piece.{Piece, borrowed}
use Rattle.bson_rawdoc.specs.Walk.{Element, Walk, then_walk}
use Rattle.bson_shape.specs.Form.{UnknownFields, dropped}
use Rattle.bson_shape.specs.Makers.{AreDistinct, has_name, has_repeat}
use Rattle.bson_shape.specs.ShapeView.{fields_of}
use Rattle.bson_shape.specs.declared.shape.FieldShape.{FieldShape}
use Rattle.bson_shape.proofs.Names.{repeat_found, field_names_are}
use Rattle.bson_values.specs.Marked.{Marked, contents}
use Rattle.bson_values.specs.Value.{none}
use Rattle.bson_laws.specs.Judged.{Reading, ignores}
use Rattle.bson_laws.specs.Scopes.{laid, laid_fields}
use Rattle.bson_laws.specs.declared.origin.Reader.{Reader}
use Rattle.bson_laws.specs.Slots.{Slot, Slots, put_at, value_or}
use Rattle.bson_laws.specs.Spell.{Writing, spell}
use Rattle.bson_pass_parts.specs.ReadsUnrolled.{reads, slots_of, missing_value}
use Rattle.bson_pass_parts.specs.Free.{is_free}
use Rattle.bson_pass_parts.specs.Put.{of_writing, recast_by, recast_for, recast_fields, IsElementPut, ArePairsPut}
use Rattle.bson_pass_parts.specs.Found.{name_of, names, AreWritten}
use Rattle.bson_pass_parts.proofs.Fields.{LacksName, names-append, filled, put_dropped, put_expected, written_more, fields_end, fields_step}

-- the slot of a field for a reader
abbrev pub slot_of : Reader → FieldShape → Slot
slot_of reader f = record { name = string_bytes f.name; missing = missing_value (laid reader f.shape); read = reads (laid reader f.shape); value = None }

-- The fields up to a place were written: what is left of the document fills the other slots, and these bytes were appended.
pub record AreUnderWay (reader : Reader) (u : UnknownFields) (fs : List FieldShape) (levels : ℕ) (whole : Option Pairs) (ns : Nodes) (place : ℕ) (old made : Bytes) : Type 0 where
  pub front : Slots
  pub bytes : Bytes
  pub names_are : map name_of (take place fs) ≡ names front
  pub left : whole ≡ recast_fields u (front ++ slots_of (laid_fields reader (fields_of (drop place fs)))) levels ns
  pub written : AreWritten levels front bytes
  pub put : made ≡ old ++ bytes

-- ---- names

names-slots : (reader : Reader) (fs : List FieldShape) → names (slots_of (laid_fields reader (fields_of fs))) ≡ map name_of fs
names-slots reader [] = refl
names-slots reader (f ∷ fs) = ap (λ ns. name_of f ∷ ns) (names-slots reader fs)

pub or_false : (a b : Bool) → (a || b) ≡ false → (a ≡ false) × (b ≡ false)
or_false true b h = absurd cc
or_false false b h = (refl, h)

pub same_name : (x y : Utf8) → bytes_eq x y ≡ true → x ≡ y
same_name x y h = (bytes_eq-Decides x y).0 h

swapped : (x y : Utf8) → bytes_eq x y ≡ false → bytes_eq y x ≡ false
swapped x y h = by_case (bytes_eq y x) refl where
  by_case : (b : Bool) → bytes_eq y x ≡ b → b ≡ false
  by_case true is = absurd (false≢true (sym h ∙ (bytes_eq-Decides x y).1 (sym (same_name y x is))))
  by_case false is = refl

lacks_of : (key : Utf8) (ns : List Utf8) → has_name key ns ≡ false → LacksName key ns
lacks_of key [] h = tt
lacks_of key (n ∷ ns) h = let parts = or_false (bytes_eq key n) (has_name key ns) h in (swapped key n parts.0, lacks_of key ns parts.1)

pub free_lacks : (key : Utf8) (fs : List FieldShape) → is_free key fs ≡ true → LacksName key (map name_of fs)
free_lacks key [] h = tt
free_lacks key (f ∷ fs) h = let parts = not_taken (bytes_eq (name_of f) key) (is_free key fs) h in (parts.0, free_lacks key fs parts.1)

-- the name of a field is none of those before it, where they are distinct
none_before : (fs : List FieldShape) (place : ℕ) (f : FieldShape) → place < length fs → f ≡ get_or fs place f → AreDistinct (fields_of fs) → has_name (name_of f) (map name_of (take place fs)) ≡ false
none_before fs place f lt got distinct = by_case (has_name (name_of f) (map name_of (take place fs))) refl where
  by_case : (b : Bool) → has_name (name_of f) (map name_of (take place fs)) ≡ b → b ≡ false
  by_case true is = absurd (false≢true (sym distinct ∙ sym (ap has_repeat (field_names_are fs)) ∙ repeat_found name_of fs place f lt got is))
  by_case false is = refl

-- ---- a value that was written

written_by : (key : Utf8) (made new : Bytes) (r : Writing Tree) → IsElementPut (of_writing r) key made new → (t : Tree) × (r ≡ Ok t) × (new ≡ made ++ element (kind t) key (enc t))
written_by key made new (Err r) h = absurd h
written_by key made new (Ok t) h = (t, refl, h)

-- the value, its tree, and the element
pub read_by : (levels : ℕ) (key : Utf8) (made new : Bytes) (r : Reading Marked) → IsElementPut (recast_by (λ v. spell (contents v) levels) r) key made new
    → (v : Marked) × (t : Tree) × (r ≡ Ok v) × (spell (contents v) levels ≡ Ok t) × (new ≡ made ++ element (kind t) key (enc t))
read_by levels key made new (Err r) h = absurd h
read_by levels key made new (Ok v) h = let p = written_by key made new (spell (contents v) levels) h in (v, p.0, refl, p.1, p.2)

-- ---- steps

names-push : (front : Slots) (s : Slot) → names (front ++ s ∷ []) ≡ names front ++ s.name ∷ []
names-push front s = names-append front (s ∷ [])

module _ (reader : Reader) (u : UnknownFields) (fs : List FieldShape) (levels : ℕ) (whole : Option Pairs) (place : ℕ) (old made : Bytes) where
  -- the fields from a place on
  left_there : (f : FieldShape) → place < length fs → f ≡ get_or fs place f → drop place fs ≡ f ∷ drop (suc place) fs
  left_there f lt got = drop-cons fs place f lt ∙ ap (λ g. g ∷ drop (suc place) fs) (sym got)

  -- the names up to a place and one more
  one_more : (front : Slots) (s : Slot) (f : FieldShape) → place < length fs → f ≡ get_or fs place f → s.name ≡ name_of f → map name_of (take place fs) ≡ names front → map name_of (take (place + 1) fs) ≡ names (front ++ s ∷ [])
  one_more front s f lt got named before =
      map_more name_of fs place f lt ∙ ap (λ ns. ns ++ name_of (get_or fs place f) ∷ []) before ∙ ap (λ g. names front ++ name_of g ∷ []) (sym got) ∙ ap (λ n. names front ++ n ∷ []) (sym named) ∙ sym (names-push front s)

  -- the names of all slots are those of the fields
  all_names : (front : Slots) → map name_of (take place fs) ≡ names front → names (front ++ slots_of (laid_fields reader (fields_of (drop place fs)))) ≡ map name_of fs
  all_names front before =
      names-append front (slots_of (laid_fields reader (fields_of (drop place fs))))
      ∙ (λ j. sym before j ++ names-slots reader (drop place fs) j)
      ∙ sym (map-append name_of (take place fs) (drop place fs))
      ∙ ap (map name_of) (take-append-drop place fs)

  -- the element of the next field
  pub expected_step : (old_walk new_walk : Walk) (e : Element) (f : FieldShape) (new : Bytes) → AreUnderWay reader u fs levels whole (nodes_with (node_in levels) old_walk) place old made → old_walk ≡ then_walk e new_walk → place < length fs
      → f ≡ get_or fs place f → bytes_eq (name_of f) e.key ≡ true → AreDistinct (fields_of fs) → has_zero (name_of f) ≡ false → IsElementPut (recast_for reader f.shape levels (node_in levels e.kind e.value)) (name_of f) made new
      → AreUnderWay reader u fs levels whole (nodes_with (node_in levels) new_walk) (place + 1) old new
  expected_step old_walk new_walk e f new p step lt got same distinct closed h =
      let n = node_in levels e.kind e.value in
      let ns = nodes_with (node_in levels) new_walk in
      let q = read_by levels (name_of f) made new (reads (laid reader f.shape) n) h in
      let s = slot_of reader f in
      let back = slots_of (laid_fields reader (fields_of (drop (suc place) fs))) in
      let el = element (kind q.1) (name_of f) (enc q.1) in
      let lacks : LacksName e.key (names p.front) =
      subst (λ k. LacksName k (names p.front)) (same_name (name_of f) e.key same) (subst (LacksName (name_of f)) p.names_are (lacks_of (name_of f) (map name_of (take place fs)) (none_before fs place f lt got distinct))) in
      record {
        front = p.front ++ filled s q.0 ∷ [];
        bytes = p.bytes ++ el;
        names_are = one_more p.front (filled s q.0) f lt got refl p.names_are;
        left = p.left
            ∙ ap (λ w. recast_fields u (p.front ++ slots_of (laid_fields reader (fields_of (drop place fs)))) levels (nodes_with (node_in levels) w)) step
            ∙ ap (λ xs. recast_fields u (p.front ++ slots_of (laid_fields reader (fields_of xs))) levels (then_node (borrowed e.key) n ns)) (left_there f lt got)
            ∙ fields_step u levels (borrowed e.key) n ns (p.front ++ s ∷ back) (p.front ++ filled s q.0 ∷ back) (put_expected u e.key n p.front back s q.0 lacks same refl q.2)
            ∙ ap (λ ss. recast_fields u ss levels ns) (sym (append_assoc p.front (filled s q.0 ∷ []) back))
            ∙ ap (λ k. recast_fields u ((p.front ++ filled s q.0 ∷ []) ++ slots_of (laid_fields reader (fields_of (drop k fs)))) levels ns) (sym (add-one place));
        written = written_more levels p.front (filled s q.0) p.bytes el p.written (record { value = q.0; tree = q.1; given = refl; spelled = q.3; closed = closed; bytes_are = refl });
        put = q.4 ∙ ap (λ b. b ++ el) p.put ∙ append_assoc old p.bytes el;
      }

  -- an element that no field has, where it is dropped
  pub dropped_step : (old_walk new_walk : Walk) (e : Element) → AreUnderWay reader u fs levels whole (nodes_with (node_in levels) old_walk) place old made → old_walk ≡ then_walk e new_walk → is_free e.key fs ≡ true
      → u ≡ dropped → ignores (node_in levels e.kind e.value) ≡ Ok tt → AreUnderWay reader u fs levels whole (nodes_with (node_in levels) new_walk) place old made
  dropped_step old_walk new_walk e p step free drops passed =
      let n = node_in levels e.kind e.value in
      let ns = nodes_with (node_in levels) new_walk in
      let ss = p.front ++ slots_of (laid_fields reader (fields_of (drop place fs))) in
      record {
        front = p.front;
        bytes = p.bytes;
        names_are = p.names_are;
        left = p.left
            ∙ ap (λ w. recast_fields u ss levels (nodes_with (node_in levels) w)) step
            ∙ fields_step u levels (borrowed e.key) n ns ss ss
            (subst (λ v. put_at v e.key n ss ≡ Ok ss) (sym drops) (put_dropped e.key n ss (subst (LacksName e.key) (sym (all_names p.front p.names_are)) (free_lacks e.key fs free)) passed));
        written = p.written;
        put = p.put;
      }

  -- a field that no element has
  pub missing_step : (f : FieldShape) (new : Bytes) → AreUnderWay reader u fs levels whole ended place old made → place < length fs → f ≡ get_or fs place f → has_zero (name_of f) ≡ false → missing_value {T = Piece} (laid reader f.shape) ≡ Some none
      → new ≡ made ++ element Null (name_of f) [] → AreUnderWay reader u fs levels whole ended (place + 1) old new
  missing_step f new p lt got closed none_there h =
      let s = slot_of reader f in
      let back = slots_of (laid_fields reader (fields_of (drop (suc place) fs))) in
      let el = element Null (name_of f) [] in
      record {
        front = p.front ++ s ∷ [];
        bytes = p.bytes ++ el;
        names_are = one_more p.front s f lt got refl p.names_are;
        left = p.left
            ∙ ap (λ xs. recast_fields u (p.front ++ slots_of (laid_fields reader (fields_of xs))) levels ended) (left_there f lt got)
            ∙ ap (λ ss. recast_fields u ss levels ended) (sym (append_assoc p.front (s ∷ []) back))
            ∙ ap (λ k. recast_fields u ((p.front ++ s ∷ []) ++ slots_of (laid_fields reader (fields_of (drop k fs)))) levels ended) (sym (add-one place));
        written = written_more levels p.front s p.bytes el p.written (record { value = none; tree = null; given = ap (λ m. value_or (name_of f) m None) none_there; spelled = refl; closed = closed; bytes_are = refl });
        put = h ∙ ap (λ b. b ++ el) p.put ∙ append_assoc old p.bytes el;
      }

  -- no field is left
  pub places_end : AreUnderWay reader u fs levels whole ended place old made → length fs ≤ place → ArePairsPut whole old made
  places_end p all =
      fields_end u levels whole p.front old p.bytes made
      (p.left ∙ ap (λ xs. recast_fields u (p.front ++ slots_of (laid_fields reader (fields_of xs))) levels ended) (drop_all place fs all) ∙ ap (λ ss. recast_fields u ss levels ended) (append-nil p.front)) p.written p.put
