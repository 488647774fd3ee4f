-- The elements that are found for the fields of a struct, and what is written of them.
use Rattle.std.proofs.Common.{◌≡◌, ℕ, zero, suc, ◌+◌, ◌<◌, ◌≤◌, List, [], ◌∷◌, ◌++◌, length, get_or, set, take, drop, map, replicate, false, true, Option, Some, None, Ok, refl, ap, sym, subst, ◌∙◌, add-one, arith}
use Rattle.std.specs.Prelude.{IfSome}
use Rattle.std.specs.Str.{bytes_eq}
use Rattle.std.proofs.Math.Seq.{drop-cons}
use Rattle.std.proofs.lemmas.List.{append_assoc, append-nil, drop_all}
use Rattle.bson_kinds.specs.Outcome.{◌>>=◌}
use Rattle.bson_kinds.specs.Text.{Bytes, Utf8, has_zero}
use Rattle.bson_base.specs.Tree.{Pairs, null, kind, enc, element}
use Rattle.bson_kinds.specs.declared.element_type.ElementType.TheVariants.{Null}
use Rattle.bson_rawdoc.specs.Node.{Node, Nodes, node_in, nodes_with}
use Rattle.bson_kinds.specs.Piece.{Piece}
use Rattle.bson_rawdoc.specs.Walk.{Element, Walk, then_walk}
use Rattle.bson_shape.specs.Form.{UnknownFields, dropped}
use Rattle.bson_shape.specs.Makers.{AreDistinct, has_name, has_repeat}
use Rattle.bson_shape.specs.ShapeView.{fields_of, fields_nodes}
use Rattle.bson_shape.specs.declared.shape.FieldShape.{FieldShape}
use Rattle.bson_shape.proofs.Names.{field_names_are}
use Rattle.bson_values.specs.Marked.{Marked, field_contents}
use Rattle.bson_values.specs.Value.{none}
use Rattle.bson_laws.specs.Judged.{ignores}
use Rattle.bson_laws.specs.Scopes.{laid, laid_fields}
use Rattle.bson_laws.specs.declared.origin.Reader.{Reader}
use Rattle.bson_laws.specs.Slots.{Slots, fill, finish, put_at, value_or}
use Rattle.bson_laws.specs.Spell.{spell_fields}
use Rattle.bson_pass_parts.specs.ReadsUnrolled.{reads, slots_of, missing_value}
use Rattle.bson_pass_parts.specs.Found.{name_of, names, IsField, slots_with, AreReadAs, IsNoted, AreFound, AreWritten, IsFoundPut, AreFoundPut, AreOthersPut}
use Rattle.bson_pass_parts.specs.Free.{is_free}
use Rattle.bson_pass_parts.specs.Put.{recast_by, recast_for, IsElementPut, ArePairsPut}
use Rattle.bson_pass_parts.proofs.Fields.{LacksName, names-append, put_dropped, fields_end}
use Rattle.bson_pass_parts.proofs.Places.{AreUnderWay, or_false, same_name, free_lacks, read_by, slot_of}

-- ---- names

-- a name that none of the fields has is no key that names one of them
apart : (fs : List FieldShape) (i : ℕ) (name key : Utf8) → has_name name (map name_of fs) ≡ false → IsField fs i key → bytes_eq name key ≡ false
apart [] i name key other at = absurd at
apart (f ∷ fs) zero name key other at = ap (bytes_eq name) (sym (same_name (name_of f) key at)) ∙ (or_false (bytes_eq name (name_of f)) (has_name name (map name_of fs)) other).0
apart (f ∷ fs) (suc i) name key other at = apart fs i name key (or_false (bytes_eq name (name_of f)) (has_name name (map name_of fs)) other).1 at

apart_behind : (front fs : List FieldShape) (i : ℕ) (name key : Utf8) → has_name name (map name_of (front ++ fs)) ≡ false → IsField fs i key → bytes_eq name key ≡ false
apart_behind [] fs i name key other at = apart fs i name key other at
apart_behind (f ∷ front) fs i name key other at = apart_behind front fs i name key (or_false (bytes_eq name (name_of f)) (has_name name (map name_of (front ++ fs))) other).1 at

-- a key that names a field names none before it
lacks_before : (fs : List FieldShape) (i : ℕ) (key : Utf8) → has_repeat (map name_of fs) ≡ false → IsField fs i key → LacksName key (map name_of (take i fs))
lacks_before [] i key distinct at = absurd at
lacks_before (f ∷ fs) zero key distinct at = tt
lacks_before (f ∷ fs) (suc i) key distinct at =
    let parts = or_false (has_name (name_of f) (map name_of fs)) (has_repeat (map name_of fs)) distinct in
    (apart fs i (name_of f) key parts.0 at, lacks_before fs i key parts.1 at)

lacks_front : (front fs : List FieldShape) (i : ℕ) (key : Utf8) → has_repeat (map name_of (front ++ fs)) ≡ false → IsField fs i key → LacksName key (map name_of front)
lacks_front [] fs i key distinct at = tt
lacks_front (f ∷ front) fs i key distinct at =
    let parts = or_false (has_name (name_of f) (map name_of (front ++ fs))) (has_repeat (map name_of (front ++ fs))) distinct in
    (apart_behind front fs i (name_of f) key parts.0 at, lacks_front front fs i key parts.1 at)

distinct_behind : (front fs : List FieldShape) → has_repeat (map name_of (front ++ fs)) ≡ false → has_repeat (map name_of fs) ≡ false
distinct_behind [] fs distinct = distinct
distinct_behind (f ∷ front) fs distinct = distinct_behind front fs (or_false (has_name (name_of f) (map name_of (front ++ fs))) (has_repeat (map name_of (front ++ fs))) distinct).1

lacks_both : (key : Utf8) (xs ys : List Utf8) → LacksName key xs → LacksName key ys → LacksName key (xs ++ ys)
lacks_both key [] ys first rest = rest
lacks_both key (x ∷ xs) ys first rest = (first.0, lacks_both key xs ys first.1 rest)

-- the field that was looked at is the one that the key names
pub field_at : (fs : List FieldShape) (i : ℕ) (f : FieldShape) (key : Utf8) → i < length fs → f ≡ get_or fs i f → bytes_eq (name_of f) key ≡ true → IsField fs i key
field_at [] i f key lt got same = absurd (omega (arith, lt))
field_at (g ∷ fs) zero f key lt got same = ap (λ x. bytes_eq (name_of x) key) (sym got) ∙ same
field_at (g ∷ fs) (suc i) f key lt got same = field_at fs i f key (omega (arith, lt)) got same

-- ---- elements that are found

-- no element was found
none_read : (reader : Reader) (levels : ℕ) (fs : List FieldShape) (values : List (Option Marked)) → AreReadAs reader levels fs (replicate (length fs) None) values → slots_with reader fs values ≡ slots_of (laid_fields reader (fields_of fs))
none_read reader levels [] values h = refl
none_read reader levels (f ∷ fs) [] h = absurd h
none_read reader levels (f ∷ fs) (None ∷ values) h = ap (λ ss. slot_of reader f ∷ ss) (none_read reader levels fs values h.1)
none_read reader levels (f ∷ fs) (Some v ∷ values) h = absurd h.0

names-with : (reader : Reader) (levels : ℕ) (fs : List FieldShape) (es : List (Option Element)) (values : List (Option Marked)) → AreReadAs reader levels fs es values → names (slots_with reader fs values) ≡ map name_of fs
names-with reader levels [] es values h = refl
names-with reader levels (f ∷ fs) [] values h = absurd h
names-with reader levels (f ∷ fs) (e ∷ es) [] h = absurd h
names-with reader levels (f ∷ fs) (e ∷ es) (v ∷ values) h = ap (λ ns. name_of f ∷ ns) (names-with reader levels fs es values h.1)

-- an element that slots behind others take
put_behind : (u : UnknownFields) (key : Utf8) (n : Node) (front old new : Slots) → LacksName key (names front) → put_at u key n old ≡ Ok new → put_at u key n (front ++ old) ≡ Ok (front ++ new)
put_behind u key n [] old new free h = h
put_behind u key n (s ∷ front) old new free h = rw (free.0, put_behind u key n front old new free.1 h) refl

-- a field that had no element has this one
noted : (reader : Reader) (u : UnknownFields) (levels : ℕ) (e : Element) (fs : List FieldShape) (i : ℕ) (es : List (Option Element)) (after : List (Option Marked)) → LacksName e.key (map name_of (take i fs)) → IsField fs i e.key → i < length es → get_or es i None ≡ None
    → AreReadAs reader levels fs (set es i (Some e)) after
    → (before : List (Option Marked)) × AreReadAs reader levels fs es before × (put_at u e.key (node_in levels e.kind e.value) (slots_with reader fs before) ≡ Ok (slots_with reader fs after))
noted reader u levels e [] i es after lacks at lt empty h = absurd at
noted reader u levels e (f ∷ fs) i [] after lacks at lt empty h = absurd (omega (arith, lt))
noted reader u levels e (f ∷ fs) zero (o ∷ es) [] lacks at lt empty h = absurd h
noted reader u levels e (f ∷ fs) zero (None ∷ es) (None ∷ values) lacks at lt empty h = absurd h.0
noted reader u levels e (f ∷ fs) zero (None ∷ es) (Some v ∷ values) lacks at lt empty h = (None ∷ values, (tt, h.1), rw (at, h.0) refl)
noted reader u levels e (f ∷ fs) zero (Some x ∷ es) (v ∷ values) lacks at lt empty h = absurd cc
noted reader u levels e (f ∷ fs) (suc i) (o ∷ es) [] lacks at lt empty h = absurd h
noted reader u levels e (f ∷ fs) (suc i) (o ∷ es) (v ∷ values) lacks at lt empty h =
    let rest = noted reader u levels e fs i es values lacks.1 at (omega (arith, lt)) empty h.1 in
    (v ∷ rest.0, (h.0, rest.1), rw (lacks.0, rest.2) refl)

pub element_noted : (reader : Reader) (u : UnknownFields) (levels : ℕ) (front fs : List FieldShape) (e : Element) (i : ℕ) (es : List (Option Element)) → AreDistinct (fields_of (front ++ fs)) → IsField fs i e.key → i < length es → get_or es i None ≡ None
    → IsNoted reader u levels front fs e es (set es i (Some e))
element_noted reader u levels front fs e i es distinct at lt empty after h =
    let d : has_repeat (map name_of (front ++ fs)) ≡ false = ap has_repeat (field_names_are (front ++ fs)) ∙ distinct in
    let r = noted reader u levels e fs i es after (lacks_before fs i e.key (distinct_behind front fs d) at) at lt empty h in
    (r.0, r.1, λ slots named. put_behind u e.key (node_in levels e.kind e.value) slots (slots_with reader fs r.0) (slots_with reader fs after) (subst (LacksName e.key) named (lacks_front front fs i e.key d at)) r.2)

-- an element that no field has, where it is dropped
pub element_dropped : (reader : Reader) (u : UnknownFields) (levels : ℕ) (front fs : List FieldShape) (e : Element) (es : List (Option Element)) → is_free e.key fs ≡ true → is_free e.key front ≡ true → u ≡ dropped → ignores (node_in levels e.kind e.value) ≡ Ok tt → IsNoted reader u levels front fs e es es
element_dropped reader u levels front fs e es free free_front drops passed after h = (
  after,
  h,
  λ slots named.
      let lacks : LacksName e.key (names slots ++ names (slots_with reader fs after)) =
      lacks_both e.key (names slots) (names (slots_with reader fs after)) (subst (LacksName e.key) named (free_lacks e.key front free_front)) (subst (LacksName e.key) (sym (names-with reader levels fs es after h)) (free_lacks e.key fs free)) in
      subst (λ v. put_at v e.key (node_in levels e.kind e.value) (slots ++ slots_with reader fs after) ≡ Ok (slots ++ slots_with reader fs after)) (sym drops)
      (put_dropped e.key (node_in levels e.kind e.value) (slots ++ slots_with reader fs after) (subst (LacksName e.key) (sym (names-append slots (slots_with reader fs after))) lacks) passed),
)

-- no element is looked at yet
pub found_none : (reader : Reader) (u : UnknownFields) (levels : ℕ) (front fs : List FieldShape) (whole : Nodes) (es : List (Option Element)) → es ≡ replicate (length fs) None → AreFound reader u levels front fs whole whole es
found_none reader u levels front fs whole es is values h slots named = ap (λ ss. fill u whole (slots ++ ss)) (sym (none_read reader levels fs values (subst (λ l. AreReadAs reader levels fs l values) is h)))

-- one element more
pub found_step : (reader : Reader) (u : UnknownFields) (levels : ℕ) (front fs : List FieldShape) (whole : Nodes) (old_walk new_walk : Walk) (e : Element) (old new : List (Option Element)) → AreFound reader u levels front fs whole (nodes_with (node_in levels) old_walk) old → old_walk ≡ then_walk e new_walk
    → IsNoted reader u levels front fs e old new → AreFound reader u levels front fs whole (nodes_with (node_in levels) new_walk) new
found_step reader u levels front fs whole old_walk new_walk e old new found step is values h slots named =
    let before = is values h in
    found before.0 before.1 slots named
    ∙ ap (λ w. fill u (nodes_with (node_in levels) w) (slots ++ slots_with reader fs before.0)) step
    ∙ ap (λ r. r >>= fill u (nodes_with (node_in levels) new_walk)) (before.2 slots named)

-- ---- what is written

written_both : (levels : ℕ) (ss ts : Slots) (bytes more : Bytes) → AreWritten levels ss bytes → AreWritten levels ts more → AreWritten levels (ss ++ ts) (bytes ++ more)
written_both levels [] ts bytes more h rest = subst (λ (b : Bytes). AreWritten levels ts (b ++ more)) (sym h) rest
written_both levels (s ∷ ss) ts bytes more h rest = (h.0, h.1 ++ more, h.2, written_both levels ss ts h.1 more h.3 rest, ap (λ b. b ++ more) h.4 ∙ append_assoc h.0 h.1 more)

-- The fields from a place on are left: whatever they are read and written as, with them all fields are written.
abbrev pub FoundLeft : Reader → (levels : ℕ) → List FieldShape → List (Option Element) → (place : ℕ) → (old made : Bytes) → Type 0
FoundLeft reader levels fs es i old made =
    (values : List (Option Marked)) (bytes : Bytes) → AreReadAs reader levels (drop i fs) (drop i es) values → AreWritten levels (slots_with reader (drop i fs) values) bytes → AreFoundPut reader levels fs es old (made ++ bytes)

pub left_all : (reader : Reader) (levels : ℕ) (fs : List FieldShape) (es : List (Option Element)) (old : Bytes) → FoundLeft reader levels fs es 0 old old
left_all reader levels fs es old values bytes h written = (values, bytes, h, written, refl)

-- one field less
pub left_less : (reader : Reader) (levels : ℕ) (fs : List FieldShape) (es : List (Option Element)) (i : ℕ) (old made new : Bytes) (f : FieldShape) (o : Option Element) → FoundLeft reader levels fs es i old made → i < length fs → f ≡ get_or fs i f → i < length es
    → o ≡ get_or es i o → IsFoundPut reader levels f o made new → FoundLeft reader levels fs es (i + 1) old new
left_less reader levels fs es i old made new f o left lt got within found one values more h rest =
    let fields_are : drop i fs ≡ f ∷ drop (i + 1) fs = drop-cons fs i f lt ∙ ap (λ g. g ∷ drop (suc i) fs) (sym got) ∙ ap (λ k. f ∷ drop k fs) (sym (add-one i)) in
    let elements_are : drop i es ≡ o ∷ drop (i + 1) es = drop-cons es i o within ∙ ap (λ g. g ∷ drop (suc i) es) (sym found) ∙ ap (λ k. o ∷ drop k es) (sym (add-one i)) in
    subst (AreFoundPut reader levels fs es old) (sym (ap (λ b. b ++ more) one.4 ∙ append_assoc made one.1 more))
    (left (one.0 ∷ values) (one.1 ++ more)
    (subst (λ xs. AreReadAs reader levels xs (drop i es) (one.0 ∷ values)) (sym fields_are) (subst (λ ys. AreReadAs reader levels (f ∷ drop (i + 1) fs) ys (one.0 ∷ values)) (sym elements_are) (one.2, h)))
    (subst (λ xs. AreWritten levels (slots_with reader xs (one.0 ∷ values)) (one.1 ++ more)) (sym fields_are) (one.1, more, one.3, rest, refl)))

-- a field that has an element
element_put : (reader : Reader) (levels : ℕ) (f : FieldShape) (e : Element) (made new : Bytes) → has_zero (name_of f) ≡ false → IsElementPut (recast_for reader f.shape levels (node_in levels e.kind e.value)) (name_of f) made new → IsFoundPut reader levels f (Some e) made new
element_put reader levels f e made new closed put =
    let q = read_by levels (name_of f) made new (reads (laid reader f.shape) (node_in levels e.kind e.value)) put in
    (Some q.0, element (kind q.1) (name_of f) (enc q.1), q.2, record { value = q.0; tree = q.1; given = refl; spelled = q.3; closed = closed; bytes_are = refl }, q.4)

pub if_element_put : {A : Type 0} (reader : Reader) (levels : ℕ) (f : FieldShape) (e : Element) (made new : Bytes) (r : Option A) → IfSome r (λ _. has_zero (name_of f) ≡ false) → IfSome r (λ _. IsElementPut (recast_for reader f.shape levels (node_in levels e.kind e.value)) (name_of f) made new)
    → IfSome r (λ _. IsFoundPut reader levels f (Some e) made new)
if_element_put reader levels f e made new None closed put = tt
if_element_put reader levels f e made new (Some x) closed put = element_put reader levels f e made new closed put

-- a field that has none
pub if_missing_put : {A : Type 0} (reader : Reader) (levels : ℕ) (f : FieldShape) (made new : Bytes) (r : Option A) → IfSome r (λ _. has_zero (name_of f) ≡ false) → IfSome r (λ _. (q : Reader) → missing_value {T = Piece} (laid q f.shape) ≡ Some none) → IfSome r (λ _. new ≡ made ++ element Null (name_of f) [])
    → IfSome r (λ _. IsFoundPut reader levels f None made new)
if_missing_put reader levels f made new None closed none_there put = tt
if_missing_put reader levels f made new (Some x) closed none_there put = (
  None,
  element Null (name_of f) [],
  tt,
  record { value = none; tree = null; given = ap (λ m. value_or (name_of f) m None) (none_there reader); spelled = refl; closed = closed; bytes_are = refl },
  put,
)

pub left_none : (reader : Reader) (levels : ℕ) (fs : List FieldShape) (es : List (Option Element)) (i : ℕ) (old made : Bytes) → FoundLeft reader levels fs es i old made → length fs ≤ i → AreFoundPut reader levels fs es old made
left_none reader levels fs es i old made left all =
    subst (AreFoundPut reader levels fs es old) (append-nil made)
    (left [] [] (subst (λ xs. AreReadAs reader levels xs (drop i es) []) (sym (drop_all i fs all)) refl) (subst (λ xs. AreWritten levels (slots_with reader xs []) []) (sym (drop_all i fs all)) refl))

-- the fields up to a place were written, and those behind it from the elements that were found for them
others_put : (reader : Reader) (u : UnknownFields) (fs : List FieldShape) (levels : ℕ) (whole : Option Pairs) (place : ℕ) (old made new : Bytes) (w : Walk) → AreUnderWay reader u fs levels whole (nodes_with (node_in levels) w) place old made → AreOthersPut reader u levels (take place fs) (drop place fs) w made new
    → ArePairsPut whole old new
others_put reader u fs levels whole place old made new w p others =
    let rest = drop place fs in
    let found = others.1 in
    let h = others.2 in
    fields_end u levels whole (p.front ++ slots_with reader rest h.0) old (p.bytes ++ h.1) new (p.left ∙ ap (λ r. recast_by (λ vs. spell_fields (field_contents vs) levels) (r >>= finish)) (found h.0 h.2 p.front p.names_are))
    (written_both levels p.front (slots_with reader rest h.0) p.bytes h.1 p.written h.3) (h.4 ∙ ap (λ b. b ++ h.1) p.put ∙ append_assoc old p.bytes h.1)

pub if_others_put : {A : Type 0} (reader : Reader) (u : UnknownFields) (fs : List FieldShape) (levels : ℕ) (whole : Option Pairs) (place : ℕ) (old made new : Bytes) (w : Walk) (r : Option A) → AreUnderWay reader u fs levels whole (nodes_with (node_in levels) w) place old made
    → IfSome r (λ _. AreOthersPut reader u levels (take place fs) (drop place fs) w made new) → IfSome r (λ _. ArePairsPut whole old new)
if_others_put reader u fs levels whole place old made new w None p h = tt
if_others_put reader u fs levels whole place old made new w (Some x) p h = others_put reader u fs levels whole place old made new w p h

-- the fields from a place on are no larger together
pub fewer : (reader : Reader) (fs : List FieldShape) (i : ℕ) → fields_nodes (laid_fields reader (fields_of (drop i fs))) ≤ fields_nodes (laid_fields reader (fields_of fs))
fewer reader fs zero = omega arith
fewer reader [] (suc i) = omega arith
fewer reader (f ∷ fs) (suc i) = omega (arith, fewer reader fs i)
