-- What `==` answers is whether the contents are equal.
use Rattle.std.proofs.Common.{◌≡◌, ℕ, true, refl, ap, sym, subst, ◌∙◌}
use Rattle.std.specs.Prelude.{◌&&◌, if◌then◌else◌, eqb}
use Rattle.std.specs.Bool.{Decides}
use Rattle.std.specs.Ordering.{int_eq}
use Rattle.std.specs.Str.{bytes_eq}
use Rattle.std.specs.Cmp.{IsPartialEquivalence, partial_equiv_from_equiv, decided, on_equiv, booleans_Decides, signed_Decides, unsigned_Decides}
use Rattle.std.specs.Cmp.Lexicographic.{pointwise_decides}
use Rattle.std.proofs.lemmas.Bool.{and_parts, and_from, false≢true}
use Rattle.std.proofs.lemmas.Slice.Eq.{bytes_eq-Decides}
use Rattle.bson_kinds.specs.Text.{Bytes, Utf8}
use Rattle.bson_values.specs.Value.{IntegerType, i8, i16, i32, i64, u8, u16, u32, u64, Value, boolean, integer, double, character, str, bytes, none, some, unit, unit_structure, unit_variant, newtype, newtype_variant, sequence, tuple, tuple_structure, tuple_variant, map, structure, structure_variant, raw_document, raw_array, mode, Items, no_items, item, Entries, no_entries, entry, FieldValues, no_field_values, field_value}
use Rattle.bson_values.specs.Refusal as refusal
use Rattle.bson_values.specs.Refusal.{at_key, at_index}
use Rattle.bson_values.specs.Same.{type_number, same_type, same, same_items, same_entries, same_entry, same_fields, same_field, same_segment, same_path}
use Rattle.bson_values.specs.TextView.{text_view}
use Rattle.bson_values.specs.ByteStrView.{bytes_view}
use Rattle.bson_values.specs.PathView.{path_view, segment_view}
use Rattle.bson_values.specs.declared.text.Text.{Text}
use Rattle.bson_values.specs.declared.byte_str.ByteStr.{ByteStr}
use Rattle.bson_values.specs.declared.path.Segment.{Segment}
use Rattle.bson_values.specs.declared.path.Path.{Path}

bytes_alike : (bs : Bytes) → bytes_eq bs bs ≡ true
bytes_alike bs = (bytes_eq-Decides bs bs).1 refl

-- the integer type of a number
abbrev of_number : ℕ → IntegerType
of_number n =
    if eqb n 0 then i8 else if eqb n 1 then i16 else if eqb n 2 then i32 else if eqb n 3 then i64
    else if eqb n 4 then u8 else if eqb n 5 then u16 else if eqb n 6 then u32 else u64

of_type_number : (type : IntegerType) → of_number (type_number type) ≡ type
of_type_number i8 = refl
of_type_number i16 = refl
of_type_number i32 = refl
of_type_number i64 = refl
of_type_number u8 = refl
of_type_number u16 = refl
of_type_number u32 = refl
of_type_number u64 = refl

type_same : (type other : IntegerType) → same_type type other ≡ true → type ≡ other
type_same type other e = sym (of_type_number type) ∙ ap of_number ((unsigned_Decides _ _).0 e) ∙ of_type_number other

mutual
  same_is : (v w : Value) → same v w ≡ true → v ≡ w
  same_is (boolean a) (boolean b) e = ap boolean ((booleans_Decides a b).0 e)
  same_is (integer type m) (integer other n) e =
      let b = and_parts (same_type type other) (int_eq m n) e in
      λ i. integer (type_same type other b.0 i) ((signed_Decides m n).0 b.1 i)
  same_is (double a) (double b) e = ap double ((bytes_eq-Decides a b).0 e)
  same_is (character a) (character b) e = ap character ((unsigned_Decides a b).0 e)
  same_is (str t) (str u) e = ap str ((bytes_eq-Decides t u).0 e)
  same_is (bytes a) (bytes b) e = ap bytes ((bytes_eq-Decides a b).0 e)
  same_is none none e = refl
  same_is (some v) (some w) e = ap some (same_is v w e)
  same_is unit unit e = refl
  same_is (unit_structure name) (unit_structure n) e = ap unit_structure ((bytes_eq-Decides name n).0 e)
  same_is (unit_variant variant) (unit_variant n) e = ap unit_variant ((bytes_eq-Decides variant n).0 e)
  same_is (newtype name v) (newtype n w) e =
      let b = and_parts (bytes_eq name n) (same v w) e in
      λ i. newtype ((bytes_eq-Decides name n).0 b.0 i) (same_is v w b.1 i)
  same_is (newtype_variant variant v) (newtype_variant n w) e =
      let b = and_parts (bytes_eq variant n) (same v w) e in
      λ i. newtype_variant ((bytes_eq-Decides variant n).0 b.0 i) (same_is v w b.1 i)
  same_is (sequence is) (sequence js) e = ap sequence (items_are is js e)
  same_is (tuple is) (tuple js) e = ap tuple (items_are is js e)
  same_is (tuple_structure name is) (tuple_structure n js) e =
      let b = and_parts (bytes_eq name n) (same_items is js) e in
      λ i. tuple_structure ((bytes_eq-Decides name n).0 b.0 i) (items_are is js b.1 i)
  same_is (tuple_variant variant is) (tuple_variant n js) e =
      let b = and_parts (bytes_eq variant n) (same_items is js) e in
      λ i. tuple_variant ((bytes_eq-Decides variant n).0 b.0 i) (items_are is js b.1 i)
  same_is (map es) (map ds) e = ap map (entries_are es ds e)
  same_is (structure name fs) (structure n gs) e =
      let b = and_parts (bytes_eq name n) (same_fields fs gs) e in
      λ i. structure ((bytes_eq-Decides name n).0 b.0 i) (fields_are fs gs b.1 i)
  same_is (structure_variant variant fs) (structure_variant n gs) e =
      let b = and_parts (bytes_eq variant n) (same_fields fs gs) e in
      λ i. structure_variant ((bytes_eq-Decides variant n).0 b.0 i) (fields_are fs gs b.1 i)
  same_is (raw_document a) (raw_document b) e = ap raw_document ((bytes_eq-Decides a b).0 e)
  same_is (raw_array a) (raw_array b) e = ap raw_array ((bytes_eq-Decides a b).0 e)
  same_is (mode r c) (mode s d) e =
      let b = and_parts (same r s) (same c d) e in
      λ i. mode (same_is r s b.0 i) (same_is c d b.1 i)
  same_is v w e = absurd (false≢true e)

  items_are : (is js : Items) → same_items is js ≡ true → is ≡ js
  items_are no_items no_items e = refl
  items_are (item v is) (item w js) e =
      let b = and_parts (same v w) (same_items is js) e in
      λ i. item (same_is v w b.0 i) (items_are is js b.1 i)
  items_are is js e = absurd (false≢true e)

  entries_are : (es ds : Entries) → same_entries es ds ≡ true → es ≡ ds
  entries_are no_entries no_entries e = refl
  entries_are (entry k v es) (entry l w ds) e =
      let b = and_parts (same k l && same v w) (same_entries es ds) e in
      let d = and_parts (same k l) (same v w) b.0 in
      λ i. entry (same_is k l d.0 i) (same_is v w d.1 i) (entries_are es ds b.1 i)
  entries_are es ds e = absurd (false≢true e)

  fields_are : (fs gs : FieldValues) → same_fields fs gs ≡ true → fs ≡ gs
  fields_are no_field_values no_field_values e = refl
  fields_are (field_value name v fs) (field_value n w gs) e =
      let b = and_parts (bytes_eq name n && same v w) (same_fields fs gs) e in
      let d = and_parts (bytes_eq name n) (same v w) b.0 in
      λ i. field_value ((bytes_eq-Decides name n).0 d.0 i) (same_is v w d.1 i) (fields_are fs gs b.1 i)
  fields_are fs gs e = absurd (false≢true e)

mutual
  same_itself : (v : Value) → same v v ≡ true
  same_itself (boolean b) = (booleans_Decides b b).1 refl
  same_itself (integer type n) = and_from _ _ ((unsigned_Decides (type_number type) (type_number type)).1 refl) ((signed_Decides n n).1 refl)
  same_itself (double bits) = bytes_alike bits
  same_itself (character c) = (unsigned_Decides c c).1 refl
  same_itself (str t) = bytes_alike t
  same_itself (bytes bs) = bytes_alike bs
  same_itself none = refl
  same_itself (some v) = same_itself v
  same_itself unit = refl
  same_itself (unit_structure name) = bytes_alike name
  same_itself (unit_variant variant) = bytes_alike variant
  same_itself (newtype name v) = and_from _ _ (bytes_alike name) (same_itself v)
  same_itself (newtype_variant variant v) = and_from _ _ (bytes_alike variant) (same_itself v)
  same_itself (sequence is) = items_alike is
  same_itself (tuple is) = items_alike is
  same_itself (tuple_structure name is) = and_from _ _ (bytes_alike name) (items_alike is)
  same_itself (tuple_variant variant is) = and_from _ _ (bytes_alike variant) (items_alike is)
  same_itself (map es) = entries_alike es
  same_itself (structure name fs) = and_from _ _ (bytes_alike name) (fields_alike fs)
  same_itself (structure_variant variant fs) = and_from _ _ (bytes_alike variant) (fields_alike fs)
  same_itself (raw_document bs) = bytes_alike bs
  same_itself (raw_array bs) = bytes_alike bs
  same_itself (mode r c) = and_from _ _ (same_itself r) (same_itself c)

  items_alike : (is : Items) → same_items is is ≡ true
  items_alike no_items = refl
  items_alike (item v is) = and_from _ _ (same_itself v) (items_alike is)

  entries_alike : (es : Entries) → same_entries es es ≡ true
  entries_alike no_entries = refl
  entries_alike (entry k v es) = and_from _ _ (and_from _ _ (same_itself k) (same_itself v)) (entries_alike es)

  fields_alike : (fs : FieldValues) → same_fields fs fs ≡ true
  fields_alike no_field_values = refl
  fields_alike (field_value name v fs) = and_from _ _ (and_from _ _ (bytes_alike name) (same_itself v)) (fields_alike fs)

-- `same` is true exactly where the values are equal
pub same_decides : (v w : Value) → Decides (same v w) (v ≡ w)
same_decides v w = (same_is v w, λ e. subst (λ x. same v x ≡ true) e (same_itself v))

pub same_entry_decides : (d e : Value × Value) → Decides (same_entry d e) (d ≡ e)
same_entry_decides d e = (
  λ h. let b = and_parts (same d.0 e.0) (same d.1 e.1) h in λ i. (same_is d.0 e.0 b.0 i, same_is d.1 e.1 b.1 i),
  λ h. subst (λ x. same_entry d x ≡ true) h (and_from _ _ (same_itself d.0) (same_itself d.1)),
)

pub same_field_decides : (f g : Utf8 × Value) → Decides (same_field f g) (f ≡ g)
same_field_decides f g = (
  λ e. let b = and_parts (bytes_eq f.0 g.0) (same f.1 g.1) e in λ i. ((bytes_eq-Decides f.0 g.0).0 b.0 i, same_is f.1 g.1 b.1 i),
  λ e. subst (λ h. same_field f h ≡ true) e (and_from _ _ (bytes_alike f.0) (same_itself f.1)),
)

segment_is : (s t : refusal.Segment) → same_segment s t ≡ true → s ≡ t
segment_is (at_key key) (at_key k) e = ap at_key ((bytes_eq-Decides key k).0 e)
segment_is (at_index i) (at_index j) e = ap at_index ((unsigned_Decides i j).0 e)
segment_is s t e = absurd (false≢true e)

segment_itself : (s : refusal.Segment) → same_segment s s ≡ true
segment_itself (at_key key) = bytes_alike key
segment_itself (at_index i) = (unsigned_Decides i i).1 refl

pub same_segment_decides : (s t : refusal.Segment) → Decides (same_segment s t) (s ≡ t)
same_segment_decides s t = (segment_is s t, λ e. subst (λ u. same_segment s u ≡ true) e (segment_itself s))

pub same_path_decides : (p q : refusal.Path) → Decides (same_path p q) (p ≡ q)
same_path_decides = pointwise_decides same_segment_decides

-- the laws of `==`
pub text_laws : IsPartialEquivalence (λ (a : Text) (b : Text). bytes_eq (text_view a) (text_view b))
text_laws = partial_equiv_from_equiv (on_equiv text_view (decided bytes_eq bytes_eq-Decides))

pub byte_str_laws : IsPartialEquivalence (λ (a : ByteStr) (b : ByteStr). bytes_eq (bytes_view a) (bytes_view b))
byte_str_laws = partial_equiv_from_equiv (on_equiv bytes_view (decided bytes_eq bytes_eq-Decides))

pub segment_laws : IsPartialEquivalence (λ (a : Segment) (b : Segment). same_segment (segment_view a) (segment_view b))
segment_laws = partial_equiv_from_equiv (on_equiv segment_view (decided same_segment same_segment_decides))

pub path_laws : IsPartialEquivalence (λ (a : Path) (b : Path). same_path (path_view a) (path_view b))
path_laws = partial_equiv_from_equiv (on_equiv path_view (decided same_path same_path_decides))
