-- What is read of a value after one change of its pieces is read of it after another, where each text that is one after the first has the same bytes after the
-- second, and nothing is borrowed that may not be.
use Rattle.std.proofs.Common.{◌≡◌, ℕ, ℤ, pos, suc, [], ◌∷◌, Bool, true, false, cond, Option, Some, None, Ok, refl, ap, sym, subst, ◌∙◌}
use Rattle.std.specs.Prelude.{codes, option_map}
use Rattle.std.specs.Str.{bytes_eq, chars, is_utf8}
use Rattle.bson_base.specs.Made.{digits}
use Rattle.bson_kinds.specs.Text.{Bytes, Utf8}
use Rattle.bson_kinds.specs.Outcome.{◌>>=◌, result_map, or_else}
use Rattle.bson_kinds.proofs.Outcomes.{ok_is, map_ok, bind_ok}
use Rattle.bson_rawdoc.specs.Node.{Whole, Node, double, string, document, array, bytes, boolean, null, int32, int64, extended, too_deep, Extended, binary, object_id, regular_expression, db_pointer, javascript_code, symbol, javascript_code_with_scope, decimal128, Nodes, ended, faulty, then_node, text_fault, fault, extended_fault, piece, mended}
use Rattle.bson_kinds.specs.Piece.{Piece, made}
use Rattle.bson_faults.specs.declared.raw.Error.{Error}
use Rattle.bson_faults.specs.declared.raw.Error.TheVariants.{NotUtf8}
use Rattle.bson_shape.specs.Form.{UnknownFields, dropped, denied, Form, leaf, optional, lossy, human_readable, by_mode, sequence, newtype, unit_structure, map, tuple, tuple_structure, structure, enumeration, reference, definitions, Fields, no_fields, field, Parts, no_parts, part, Content, unit_content, newtype_content, tuple_content, struct_content, Variants, no_variants, variant}
use Rattle.bson_values.specs.Value as value
use Rattle.bson_values.specs.Value.{u8, readable_newtype, Value, Entries, item, no_entries, entry, field_value}
use Rattle.bson_values.specs.Marked.{Marked, MarkedItems, MarkedEntries, MarkedFields, contents, item_contents, entry_contents, field_contents}
use Rattle.bson_values.specs.Same.{same}
use Rattle.bson_values.specs.Cause.{unknown_reference, not_utf8, not_borrowed}
use Rattle.bson_values.specs.Refusal.{Segment, at_index, inside, under, under_index}
use Rattle.bson_laws.specs.Datum.{one, two, nameless, wrapped}
use Rattle.bson_laws.specs.Leaves.{LeafKind, anything, ignored, booleans, numbers, doubles, characters, texts, byte_strings, byte_buffers, units, ExtendedLeaf, extended_values, raw_documents, raw_arrays, raw_values, leaf_kind}
use Rattle.bson_laws.specs.Owned.{IsTextOwned, IsLeafOwned, IsOwned, AreFieldsOwned, ArePartsOwned, AreVariantsOwned, IsContentOwned}
use Rattle.bson_laws.specs.Variants.{content_of}
use Rattle.bson_laws.specs.Judged.{Reading, refused, with_level, faultless, judged, at_its_key, at_its_index, scope_key, passes, pass_scope, pass_nodes, ignores}
use Rattle.bson_laws.specs.ReadsRaw.{slice_of, raw_document_of, raw_array_of, scoped_code, decimal_struct, raw_extended, raw_value_of}
use Rattle.bson_laws.specs.Taken.{owned_under_mark, boolean_of, integer_of, double_of, character_of, text_of, bytes_of, null_of, buffer_of, reads_bytes, as_byte, borrow, borrow_or_own, as_text, document_of, array_of, read_integer, read_character}
use Rattle.bson_laws.specs.ReadsLeaf.{borrows, put_entry, read_any, any_items, any_entries, no_extended, read_leaf_with}
use Rattle.bson_laws.specs.Containers.{reads_items, reads_entries, unit_of, reads_unit, reads_key, reads_next, read_enum, reads_option}
use Rattle.bson_laws.specs.Slots.{Slot, Slots, fill_slot, unknown, put_at, fill, value_or, finish, reads_places, read_structure}
use Rattle.bson_laws.specs.Shaped as shaped
use Rattle.bson_laws.specs.Views.{one_character}
use Rattle.bson_laws.proofs.ChangedNodes.{Change, changed, changed_value, changed_nodes}
use Rattle.bson_laws.proofs.Judged.{ReadAs, both_whole}
use Rattle.bson_laws.proofs.Borrowed.{owned_same}
use Rattle.bson_laws.proofs.Sizes.{inside_ok, under_ok}
use Rattle.bson_kinds.proofs.Apart.{no_ok, some_no}

-- The second change follows the first: a text that is one after the first has the same bytes after the second, and both commute with mending.
pub record Follows (a b : Change) (is_bare : Bool) : Type 0 where
  pub texts : (t : Piece) → is_utf8 (a.text t).bytes ≡ true → (b.text t).bytes ≡ (a.text t).bytes
  -- where it is bare, nothing is in the input after the first
  pub no_text : is_bare ≡ true → (t : Piece) → (a.text t).in_input ≡ false
  pub no_key : is_bare ≡ true → (k : Piece) → a.borrows_key k ≡ false
  pub no_bytes : is_bare ≡ true → (x : Piece) → a.borrows_bytes x ≡ false
  pub slices : (s : Whole) (p : Piece) → slice_of (a.slice s) ≡ Ok p → slice_of (b.slice s) ≡ Ok p
  pub mends : (n : Node) → mended (changed a n) ≡ changed a (mended n)
  pub mends_then : (n : Node) → changed b (mended n) ≡ mended (changed b n)

-- ---- pieces

is_text : (c : Bool) → cond c None (Some NotUtf8) ≡ None → c ≡ true
is_text true e = refl
is_text false e = absurd (some_no e)

pub neither : (o p : Option Error) → or_else o p ≡ None → (o ≡ None) × (p ≡ None)
neither None p e = (refl, e)
neither (Some x) p e = absurd (some_no e)

-- what is neither in the input nor owned is not borrowed
never : (is_bare : Bool) (p r : Piece) → (is_bare ≡ true → p.in_input ≡ false) → (is_bare ≡ false → ⊥) → borrow p ≡ Ok r → ⊥
never true p r un owned e = refuses p.in_input (un refl) e where
  refuses : (c : Bool) → c ≡ false → cond c (Ok p) (refused not_borrowed) ≡ Ok r → ⊥
  refuses true u h = absurd cc
  refuses false u h = absurd (no_ok h)
never false p r un owned e = owned refl

-- what is not borrowed is owned as any other of the same bytes
own_as : (is_bare l : Bool) (p q r : Piece) → (is_bare ≡ true → p.in_input ≡ false) → (is_bare ≡ false → IsTextOwned l) → p.bytes ≡ q.bytes → borrow_or_own l p ≡ Ok r → (borrow_or_own l q ≡ Ok (made q.bytes)) × (r.bytes ≡ q.bytes)
own_as is_bare true p q r un owned is e = absurd (never is_bare p r un owned e)
own_as is_bare false p q r un owned is e = (refl, ap (λ (x : Piece). x.bytes) (sym (ok_is (made p.bytes) r e)) ∙ is)

abbrev bytes_in : Piece → Bytes
bytes_in p = p.bytes

whole_text : (b : Bool) (t p : Piece) → cond b (Ok t) (refused not_utf8) ≡ Ok p → (b ≡ true) × (t ≡ p)
whole_text true t p e = (refl, ok_is t p e)
whole_text false t p e = absurd (no_ok e)

binary_as : (is_bare l : Bool) (x y p : Piece) → (is_bare ≡ true → x.in_input ≡ false) → (is_bare ≡ false → IsTextOwned l) → x.bytes ≡ y.bytes → (borrow_or_own l x >>= as_text) ≡ Ok p → ReadAs bytes_in (borrow_or_own l y >>= as_text) p.bytes
binary_as is_bare l x y p un owned is e =
    let b = bind_ok (borrow_or_own l x) as_text p e in
    let h = own_as is_bare l x y b.0 un owned is b.1 in
    let w = whole_text (is_utf8 b.0.bytes) b.0 p b.2 in
    (made y.bytes, ap (λ q. q >>= as_text) h.0 ∙ ap (λ q. cond q (Ok (made y.bytes)) (refused not_utf8)) (ap is_utf8 (sym h.1) ∙ w.0), sym h.1 ∙ ap bytes_in w.1)

-- a binary that is not in the input is not under a mark either
owned_unlent : (u : Bool) (p : Piece) → p.in_input ≡ false → (owned_under_mark u p).in_input ≡ false
owned_unlent true p h = refl
owned_unlent false p h = h

-- ---- entries

put_plain : Value → Value → Entries → Entries
put_plain k v no_entries = entry k v no_entries
put_plain k v (entry key old es) = cond (same k key) (entry key v es) (entry key old (put_plain k v es))

put_either : (b : Bool) (xs ys : MarkedEntries) → entry_contents (cond b xs ys) ≡ cond b (entry_contents xs) (entry_contents ys)
put_either true xs ys = refl
put_either false xs ys = refl

put_contents : (k v : Marked) (es : MarkedEntries) → entry_contents (put_entry k v es) ≡ put_plain (contents k) (contents v) (entry_contents es)
unfolding put_plain
put_contents k v no_entries = refl
put_contents k v (entry key old es) =
    put_either (same (contents k) (contents key)) (entry key v es) (entry key old (put_entry k v es))
    ∙ ap (λ x. cond (same (contents k) (contents key)) (entry (contents key) (contents v) (entry_contents es)) (entry (contents key) (contents old) x)) (put_contents k v es)

put_alike : (k j v w : Marked) (es ds : MarkedEntries) → contents k ≡ contents j → contents v ≡ contents w → entry_contents es ≡ entry_contents ds → entry_contents (put_entry k v es) ≡ entry_contents (put_entry j w ds)
put_alike k j v w es ds p q r = put_contents k v es ∙ (λ i. put_plain (p i) (q i) (r i)) ∙ sym (put_contents j w ds)

chosen_as : (b : Bool) (x y z w : Reading Marked) (m : Marked) → (x ≡ Ok m → ReadAs contents z (contents m)) → (y ≡ Ok m → ReadAs contents w (contents m)) → cond b x y ≡ Ok m → ReadAs contents (cond b z w) (contents m)
chosen_as true x y z w m first rest e = first e
chosen_as false x y z w m first rest e = rest e

under_as : (key : Utf8) (r q : Reading Marked) (m : Marked) → ((r ≡ Ok m) → ReadAs contents q (contents m)) → under key r ≡ Ok m → ReadAs contents (under key q) (contents m)
under_as key r q m each e = let h = each (under_ok key r m e) in (h.0, ap (under key) h.1, h.2)

value_as : (name : Utf8) (missing o p : Option Marked) (v : Marked) → option_map contents o ≡ option_map contents p → value_or name missing o ≡ Ok v → ReadAs contents (value_or name missing p) (contents v)
value_as name missing None None v h e = (v, e, refl)
value_as name missing None (Some w) v h e = absurd cc
value_as name missing (Some x) None v h e = absurd cc
value_as name missing (Some x) (Some w) v h e = (w, refl, sym (some_contents x w h) ∙ ap contents (ok_is x v e)) where
  some_contents : (a b : Marked) → Some (contents a) ≡ Some (contents b) → contents a ≡ contents b
  some_contents a b q = cc

-- ---- structs of extended values

abbrev binary_struct : ℕ → Piece → Marked
binary_struct subtype b = wrapped made (codes "$binary") (nameless made (two made (codes "bytes") (value.bytes b) (codes "subType") (value.integer u8 (pos subtype))))

abbrev expression_struct : Piece → Piece → Marked
expression_struct p q = wrapped made (codes "$regularExpression") (nameless made (two made (codes "pattern") (value.str p) (codes "options") (value.str q)))

abbrev pointer_struct : Piece → Bytes → Marked
pointer_struct namespace id =
    wrapped made (codes "$dbPointer") (nameless made (two made (codes "$ref") (value.str namespace) (codes "$id") (nameless made (one made (codes "$oid") (value.str (made (digits id)))))))

abbrev code_struct : Piece → Marked
code_struct t = wrapped made (codes "$code") (value.str t)

abbrev symbol_struct : Piece → Marked
symbol_struct t = wrapped made (codes "$symbol") (value.str t)

module _ (a b : Change) (is_bare : Bool) (f : Follows a b is_bare) where
  abbrev before : Node → Node
  before = changed a

  abbrev nodes_before : Nodes → Nodes
  nodes_before = changed_nodes a

  abbrev after : Node → Node
  after = changed b

  abbrev nodes_after : Nodes → Nodes
  nodes_after = changed_nodes b

  -- ---- judged

  -- the value has no fault of its own after the first change
  abbrev pub IsWhole : Node → Type 0
  IsWhole n = fault (before n) ≡ None

  pub text_same : (t : Piece) → text_fault (a.text t) ≡ None → (b.text t).bytes ≡ (a.text t).bytes
  text_same t e = f.texts t (is_text (is_utf8 (a.text t).bytes) e)

  text_whole : (t : Piece) → text_fault (a.text t) ≡ None → text_fault (b.text t) ≡ None
  text_whole t e = ap (λ x. cond (is_utf8 x) None (Some NotUtf8)) (text_same t e) ∙ e

  mutual
    whole_after : (n : Node) → IsWhole n → fault (after n) ≡ None
    whole_after (string t) w = text_whole t w
    whole_after (extended x ns) w = value_whole x w
    whole_after n w = w

    value_whole : (x : Extended) → extended_fault (changed_value a x) ≡ None → extended_fault (changed_value b x) ≡ None
    value_whole (regular_expression p q) w =
        let both = neither (text_fault (a.text p)) (text_fault (a.text q)) w in both_whole (text_fault (b.text p)) (text_fault (b.text q)) (text_whole p both.0) (text_whole q both.1)
    value_whole (db_pointer namespace id) w = text_whole namespace w
    value_whole (javascript_code t) w = text_whole t w
    value_whole (symbol t) w = text_whole t w
    value_whole (javascript_code_with_scope t s) w =
        let both = neither (text_fault (a.text t)) (fault (before s)) w in both_whole (text_fault (b.text t)) (fault (after s)) (text_whole t both.0) (whole_after s both.1)
    value_whole x w = w

  level_after : (n k : Node) → with_level (before n) ≡ Ok k → (with_level (after n) ≡ Ok (after n)) × (before n ≡ k)
  level_after (too_deep j) k e = absurd (no_ok e)
  level_after n k e = (refl, ok_is (before n) k e)

  judged_after : (n k : Node) → judged (before n) ≡ Ok k → IsWhole n × (judged (after n) ≡ Ok (after n)) × (before n ≡ k)
  judged_after n k e = by_fault (fault (before n)) refl e where
    by_fault : (o : Option Error) → fault (before n) ≡ o → faultless o (before n) ≡ Ok k → IsWhole n × (judged (after n) ≡ Ok (after n)) × (before n ≡ k)
    by_fault None is h = let l = level_after n k h in (is, ap (λ o. faultless o (after n)) (whole_after n is) ∙ l.0, l.1)
    by_fault (Some x) is h = absurd (no_ok h)

  -- what is read from the judged value is read from the value, which is judged after the second change too
  pub read_after : {A : Type 0} (n : Node) (read : Node → Reading A) (x : A) → (judged (before n) >>= read) ≡ Ok x → IsWhole n × (judged (after n) ≡ Ok (after n)) × (read (before n) ≡ Ok x)
  read_after n read x e =
      let d = bind_ok (judged (before n)) read x e in
      let j = judged_after n d.0 d.1 in
      (j.0, j.1, subst (λ k. read k ≡ Ok x) (sym j.2) d.2)

  pub then_after : {A : Type 0} (n : Node) (r : Reading A) (x : A) → (judged (before n) >>= λ _. r) ≡ Ok x → IsWhole n × (judged (after n) ≡ Ok (after n)) × (r ≡ Ok x)
  then_after n r x e = read_after n (λ _. r) x e

  -- ---- what is dropped

  mutual
    passes_after : (n : Node) → passes (before n) ≡ Ok tt → passes (after n) ≡ Ok tt
    passes_after (document slice ns) e = pass_after at_its_key 0 ns e
    passes_after (array slice ns) e = pass_after at_its_index 0 ns e
    passes_after (extended x ns) e = scope_after x e
    passes_after n e = refl

    scope_after : (x : Extended) → pass_scope (changed_value a x) ≡ Ok tt → pass_scope (changed_value b x) ≡ Ok tt
    scope_after (javascript_code_with_scope c s) e =
        let j = then_after s (passes (before s)) tt (under_ok scope_key (judged (before s) >>= λ _. passes (before s)) tt e) in
        ap (λ r. under scope_key (r >>= λ _. passes (after s))) j.1 ∙ ap (under scope_key) (passes_after s j.2)
    scope_after x e = refl

    pass_after : (place : ℕ → Piece → Segment) (i : ℕ) (ns : Nodes) → pass_nodes place i (nodes_before ns) ≡ Ok tt → pass_nodes place i (nodes_after ns) ≡ Ok tt
    pass_after place i ended e = refl
    pass_after place i (faulty g) e = absurd (no_ok e)
    pass_after place i (then_node key n ns) e =
        let r = judged (before n) >>= λ _. passes (before n) in
        let first = piece (a.borrows_key key) key.bytes in
        let second = piece (b.borrows_key key) key.bytes in
        let d = bind_ok (inside (place i first) r) (λ _. pass_nodes place (suc i) (nodes_before ns)) tt e in
        let j = then_after n (passes (before n)) tt (inside_ok (place i first) r tt d.1) in
        ap (λ q. inside (place i second) (q >>= λ _. passes (after n)) >>= λ _. pass_nodes place (suc i) (nodes_after ns)) j.1
        ∙ ap (λ q. inside (place i second) q >>= λ _. pass_nodes place (suc i) (nodes_after ns)) (passes_after n j.2)
        ∙ pass_after place (suc i) ns d.2

  ignores_after : (n : Node) → ignores (before n) ≡ Ok tt → ignores (after n) ≡ Ok tt
  ignores_after n e = let j = then_after n (passes (before n)) tt e in ap (λ q. q >>= λ _. passes (after n)) j.1 ∙ passes_after n j.2

  -- ---- values of a kind

  -- a binary where it is not taken as a byte string
  abbrev binary_before : Bool → Piece → Piece
  binary_before u x = owned_under_mark (a.marks u x) (piece (a.borrows_bytes x) x.bytes)

  abbrev binary_after : Bool → Piece → Piece
  binary_after u x = owned_under_mark (b.marks u x) (piece (b.borrows_bytes x) x.bytes)

  binary_same : (u : Bool) (x : Piece) → (binary_before u x).bytes ≡ (binary_after u x).bytes
  binary_same u x = owned_same (a.marks u x) (piece (a.borrows_bytes x) x.bytes) ∙ sym (owned_same (b.marks u x) (piece (b.borrows_bytes x) x.bytes))

  pub text_after : (l : Bool) (n : Node) (p : Piece) → (is_bare ≡ false → IsTextOwned l) → IsWhole n → text_of l (before n) ≡ Ok p → ReadAs bytes_in (text_of l (after n)) p.bytes
  text_after l (string t) p owned w e =
      let h = own_as is_bare l (a.text t) (b.text t) p (λ o. f.no_text o t) owned (sym (text_same t w)) e in (made (b.text t).bytes, h.0, sym h.1)
  text_after l (bytes u x) p owned w e =
      binary_as is_bare l (binary_before u x) (binary_after u x) p (λ o. owned_unlent (a.marks u x) (piece (a.borrows_bytes x) x.bytes) (f.no_bytes o x)) owned (binary_same u x) e
  text_after l n p owned w e = absurd (no_ok e)

  bytes_after : (n : Node) (p : Piece) → (is_bare ≡ false → ⊥) → bytes_of (before n) ≡ Ok p → ⊥
  bytes_after (string t) p owned e = never is_bare (a.text t) p (λ o. f.no_text o t) owned e
  bytes_after (bytes u x) p owned e = never is_bare (piece (a.borrows_bytes x) x.bytes) p (λ o. f.no_bytes o x) owned e
  bytes_after (extended (object_id id) ns) p owned e = never is_bare (piece (a.borrows_bytes id) id.bytes) p (λ o. f.no_bytes o id) owned e
  bytes_after n p owned e = absurd (no_ok e)

  boolean_after : (n : Node) (x : Bool) → boolean_of (before n) ≡ Ok x → boolean_of (after n) ≡ Ok x
  boolean_after (boolean c) x e = e
  boolean_after n x e = absurd (no_ok e)

  integer_after : (n : Node) (z : ℤ) → integer_of (before n) ≡ Ok z → integer_of (after n) ≡ Ok z
  integer_after (int32 c) z e = e
  integer_after (int64 c) z e = e
  integer_after n z e = absurd (no_ok e)

  double_after : (n : Node) (x : Bytes) → double_of (before n) ≡ Ok x → double_of (after n) ≡ Ok x
  double_after (double c) x e = e
  double_after n x e = absurd (no_ok e)

  null_after : (n : Node) (x : Unit {0}) → null_of (before n) ≡ Ok x → null_of (after n) ≡ Ok x
  null_after null x e = e
  null_after n x e = absurd (no_ok e)

  document_after : (n : Node) (ns : Nodes) → document_of (before n) ≡ Ok ns → (ms : Nodes) × (document_of (after n) ≡ Ok (nodes_after ms)) × (nodes_before ms ≡ ns)
  document_after (document slice ms) ns e = (ms, refl, ok_is (nodes_before ms) ns e)
  document_after (extended x ms) ns e = (ms, refl, ok_is (nodes_before ms) ns e)
  document_after n ns e = absurd (no_ok e)

  array_after : (n : Node) (ns : Nodes) → array_of (before n) ≡ Ok ns → (ms : Nodes) × (array_of (after n) ≡ Ok (nodes_after ms)) × (nodes_before ms ≡ ns)
  array_after (array slice ms) ns e = (ms, refl, ok_is (nodes_before ms) ns e)
  array_after n ns e = absurd (no_ok e)

  byte_after : (n : Node) (x : ℕ) → (judged (before n) >>= integer_of >>= as_byte) ≡ Ok x → (judged (after n) >>= integer_of >>= as_byte) ≡ Ok x
  byte_after n x e =
      let d = bind_ok (judged (before n) >>= integer_of) as_byte x e in
      let j = read_after n integer_of d.0 d.1 in
      ap (λ q. q >>= integer_of >>= as_byte) j.1 ∙ ap (λ q. q >>= as_byte) (integer_after n d.0 j.2) ∙ d.2

  bytes_read_after : (i : ℕ) (ns : Nodes) (xs : Bytes) → reads_bytes i (nodes_before ns) ≡ Ok xs → reads_bytes i (nodes_after ns) ≡ Ok xs
  bytes_read_after i ended xs e = e
  bytes_read_after i (faulty g) xs e = absurd (no_ok e)
  bytes_read_after i (then_node key n ns) xs e =
      let r = judged (before n) >>= integer_of >>= as_byte in
      let d = bind_ok (under_index i r) (λ y. result_map (λ x. y ∷ x) (reads_bytes (suc i) (nodes_before ns))) xs e in
      let m = map_ok (λ x. d.0 ∷ x) (reads_bytes (suc i) (nodes_before ns)) xs d.2 in
      ap (λ q. under_index i q >>= λ y. result_map (λ x. y ∷ x) (reads_bytes (suc i) (nodes_after ns))) (byte_after n d.0 (inside_ok (at_index i) r d.0 d.1))
      ∙ ap (result_map (λ x. d.0 ∷ x)) (bytes_read_after (suc i) ns m.0 m.1)
      ∙ ap Ok m.2

  buffer_after : (n : Node) (xs : Bytes) → IsWhole n → buffer_of (before n) ≡ Ok xs → buffer_of (after n) ≡ Ok xs
  buffer_after (string t) xs w e = ap Ok (text_same t w) ∙ e
  buffer_after (bytes u x) xs w e = e
  buffer_after (array slice ns) xs w e = bytes_read_after 0 ns xs e
  buffer_after n xs w e = absurd (no_ok e)

  character_after : (n : Node) (m : Marked) → IsWhole n → character_of (before n) ≡ Ok m → character_of (after n) ≡ Ok m
  character_after (string t) m w e = ap (λ x. read_character (one_character (chars x))) (text_same t w) ∙ e
  character_after n m w e = absurd (no_ok e)

  -- ---- values in their bytes

  raw_document_after : (n : Node) (p : Piece) → raw_document_of (before n) ≡ Ok p → raw_document_of (after n) ≡ Ok p
  raw_document_after (document slice ns) p e = f.slices slice p e
  raw_document_after n p e = absurd (no_ok e)

  raw_array_after : (n : Node) (p : Piece) → raw_array_of (before n) ≡ Ok p → raw_array_of (after n) ≡ Ok p
  raw_array_after (array slice ns) p e = f.slices slice p e
  raw_array_after n p e = absurd (no_ok e)

  -- the texts of the structs that a value is read as
  raw_extended_after : (x : Extended) (m : Marked) → extended_fault (changed_value a x) ≡ None → raw_extended (changed_value a x) ≡ Ok m → ReadAs contents (raw_extended (changed_value b x)) (contents m)
  raw_extended_after (binary subtype y) m w e =
      (binary_struct subtype (piece (b.borrows_bytes y) y.bytes), refl, ap contents (ok_is (binary_struct subtype (piece (a.borrows_bytes y) y.bytes)) m e))
  raw_extended_after (regular_expression p q) m w e =
      let both = neither (text_fault (a.text p)) (text_fault (a.text q)) w in (
        expression_struct (b.text p) (b.text q),
        refl,
        (λ i. contents (expression_struct (made (text_same p both.0 i)) (made (text_same q both.1 i)))) ∙ ap contents (ok_is (expression_struct (a.text p) (a.text q)) m e),
      )
  raw_extended_after (db_pointer namespace id) m w e =
      (pointer_struct (b.text namespace) id, refl, ap (λ t. contents (pointer_struct (made t) id)) (text_same namespace w) ∙ ap contents (ok_is (pointer_struct (a.text namespace) id) m e))
  raw_extended_after (javascript_code t) m w e = (code_struct (b.text t), refl, ap (λ x. contents (code_struct (made x))) (text_same t w) ∙ ap contents (ok_is (code_struct (a.text t)) m e))
  raw_extended_after (symbol t) m w e = (symbol_struct (b.text t), refl, ap (λ x. contents (symbol_struct (made x))) (text_same t w) ∙ ap contents (ok_is (symbol_struct (a.text t)) m e))
  raw_extended_after (javascript_code_with_scope t s) m w e =
      let both = neither (text_fault (a.text t)) (fault (before s)) w in
      let r = map_ok (scoped_code (a.text t)) (under scope_key (judged (before s) >>= raw_document_of)) m e in
      let j = read_after s raw_document_of r.0 (under_ok scope_key (judged (before s) >>= raw_document_of) r.0 r.1) in (
        scoped_code (b.text t) r.0,
        ap (λ q. result_map (scoped_code (b.text t)) (under scope_key (q >>= raw_document_of))) j.1 ∙ ap (λ q. result_map (scoped_code (b.text t)) (under scope_key q)) (raw_document_after s r.0 j.2),
        ap (λ x. contents (scoped_code (made x) r.0)) (text_same t both.0) ∙ ap contents r.2,
      )
  raw_extended_after (decimal128 y) m w e = (decimal_struct (piece (b.borrows_bytes y) y.bytes), refl, ap contents (ok_is (decimal_struct (piece (a.borrows_bytes y) y.bytes)) m e))
  raw_extended_after x m w e = (m, e, refl)

  raw_value_after : (n : Node) (m : Marked) → IsWhole n → raw_value_of (before n) ≡ Ok m → ReadAs contents (raw_value_of (after n)) (contents m)
  raw_value_after (document slice ns) m w e =
      let r = map_ok value.raw_document (slice_of (a.slice slice)) m e in (value.raw_document r.0, ap (result_map value.raw_document) (f.slices slice r.0 r.1), ap contents r.2)
  raw_value_after (array slice ns) m w e =
      let r = map_ok value.raw_array (slice_of (a.slice slice)) m e in (value.raw_array r.0, ap (result_map value.raw_array) (f.slices slice r.0 r.1), ap contents r.2)
  raw_value_after (string t) m w e = (value.str (b.text t), refl, ap value.str (text_same t w) ∙ ap contents (ok_is (value.str (a.text t)) m e))
  raw_value_after (bytes u x) m w e = (value.bytes (piece (b.borrows_bytes x) x.bytes), refl, ap contents (ok_is (value.bytes (piece (a.borrows_bytes x) x.bytes)) m e))
  raw_value_after (extended x ns) m w e = raw_extended_after x m w e
  raw_value_after n m w e = (m, e, refl)

  -- ---- values without a shape

  mutual
    any_after : (n : Node) (m : Marked) → IsWhole n → read_any (before n) ≡ Ok m → ReadAs contents (read_any (after n)) (contents m)
    any_after (string t) m w e = (value.str (b.text t), refl, ap value.str (text_same t w) ∙ ap contents (ok_is (value.str (a.text t)) m e))
    any_after (bytes u x) m w e = (value.bytes (binary_after u x), refl, ap value.bytes (sym (binary_same u x)) ∙ ap contents (ok_is (value.bytes (binary_before u x)) m e))
    any_after (array slice ns) m w e =
        let r = map_ok value.sequence (any_items 0 (nodes_before ns)) m e in
        let h = any_items_after 0 ns r.0 r.1 in
        (value.sequence h.0, ap (result_map value.sequence) h.1, ap value.sequence h.2 ∙ ap contents r.2)
    any_after (document slice ns) m w e =
        let r = map_ok value.map (any_entries (nodes_before ns) no_entries) m e in
        let h = any_entries_after ns no_entries no_entries r.0 refl r.1 in
        (value.map h.0, ap (result_map value.map) h.1, ap value.map h.2 ∙ ap contents r.2)
    any_after (extended x ns) m w e =
        let r = map_ok value.map (any_entries (nodes_before ns) no_entries) m e in
        let h = any_entries_after ns no_entries no_entries r.0 refl r.1 in
        (value.map h.0, ap (result_map value.map) h.1, ap value.map h.2 ∙ ap contents r.2)
    any_after n m w e = (m, e, refl)

    any_items_after : (i : ℕ) (ns : Nodes) (vs : MarkedItems) → any_items i (nodes_before ns) ≡ Ok vs → ReadAs item_contents (any_items i (nodes_after ns)) (item_contents vs)
    any_items_after i ended vs e = (vs, e, refl)
    any_items_after i (faulty g) vs e = absurd (no_ok e)
    any_items_after i (then_node key n ns) vs e =
        let r = judged (before n) >>= λ _. read_any (before n) in
        let d = bind_ok (under_index i r) (λ v. result_map (item v) (any_items (suc i) (nodes_before ns))) vs e in
        let m = map_ok (item d.0) (any_items (suc i) (nodes_before ns)) vs d.2 in
        let j = then_after n (read_any (before n)) d.0 (inside_ok (at_index i) r d.0 d.1) in
        let first = any_after n d.0 j.0 j.2 in
        let rest = any_items_after (suc i) ns m.0 m.1 in (
          item first.0 rest.0,
          ap (λ q. under_index i (q >>= λ _. read_any (after n)) >>= λ v. result_map (item v) (any_items (suc i) (nodes_after ns))) j.1
              ∙ ap (λ q. under_index i q >>= λ v. result_map (item v) (any_items (suc i) (nodes_after ns))) first.1
              ∙ ap (result_map (item first.0)) rest.1,
          (λ x. item (first.2 x) (rest.2 x)) ∙ ap item_contents m.2,
        )

    any_entries_after : (ns : Nodes) (es ds out : MarkedEntries) → entry_contents es ≡ entry_contents ds → any_entries (nodes_before ns) es ≡ Ok out → ReadAs entry_contents (any_entries (nodes_after ns) ds) (entry_contents out)
    any_entries_after ended es ds out h e = (ds, refl, sym h ∙ ap entry_contents (ok_is es out e))
    any_entries_after (faulty g) es ds out h e = absurd (no_ok e)
    any_entries_after (then_node key n ns) es ds out h e =
        let r = judged (before n) >>= λ _. read_any (before n) in
        let k = value.str (piece (a.borrows_key key) key.bytes) in
        let l = value.str (piece (b.borrows_key key) key.bytes) in
        let d = bind_ok (under key.bytes r) (λ v. any_entries (nodes_before ns) (put_entry k v es)) out e in
        let j = then_after n (read_any (before n)) d.0 (under_ok key.bytes r d.0 d.1) in
        let first = any_after n d.0 j.0 j.2 in
        let rest = any_entries_after ns (put_entry k d.0 es) (put_entry l first.0 ds) out (put_alike k l d.0 first.0 es ds refl (sym first.2) h) d.2 in (
          rest.0,
          ap (λ q. under key.bytes (q >>= λ _. read_any (after n)) >>= λ v. any_entries (nodes_after ns) (put_entry l v ds)) j.1
              ∙ ap (λ q. under key.bytes q >>= λ v. any_entries (nodes_after ns) (put_entry l v ds)) first.1
              ∙ rest.1,
          rest.2,
        )

  -- ---- keys, items and entries

  -- a key at a leaf
  key_leaf_after : (l : Bool) (k : LeafKind) (key : Piece) (m : Marked) → (is_bare ≡ false → IsLeafOwned l k) → read_leaf_with no_extended l k (string (piece (a.borrows_key key) key.bytes)) ≡ Ok m
      → ReadAs contents (read_leaf_with no_extended l k (string (piece (b.borrows_key key) key.bytes))) (contents m)
  key_leaf_after l anything key m owned e = (value.str (piece (b.borrows_key key) key.bytes), refl, ap contents (ok_is (value.str (piece (a.borrows_key key) key.bytes)) m e))
  key_leaf_after l ignored key m owned e = (value.unit, refl, ap contents (ok_is value.unit m e))
  key_leaf_after l characters key m owned e = (m, e, refl)
  key_leaf_after l texts key m owned e =
      let r = map_ok value.str (borrow_or_own l (piece (a.borrows_key key) key.bytes)) m e in
      let h = own_as is_bare l (piece (a.borrows_key key) key.bytes) (piece (b.borrows_key key) key.bytes) r.0 (λ o. f.no_key o key) owned refl r.1 in
      (value.str (made key.bytes), ap (result_map value.str) h.0, ap value.str (sym h.1) ∙ ap contents r.2)
  key_leaf_after l byte_strings key m owned e =
      let r = map_ok value.bytes (borrow (piece (a.borrows_key key) key.bytes)) m e in absurd (never is_bare (piece (a.borrows_key key) key.bytes) r.0 (λ o. f.no_key o key) owned r.1)
  key_leaf_after l byte_buffers key m owned e = (value.bytes (made key.bytes), refl, ap contents (ok_is (value.bytes (made key.bytes)) m e))
  key_leaf_after l raw_values key m owned e = (value.str (piece (b.borrows_key key) key.bytes), refl, ap contents (ok_is (value.str (piece (a.borrows_key key) key.bytes)) m e))
  key_leaf_after l k key m owned e = absurd (no_ok e)

  key_after : (s : Form) (key : Piece) (m : Marked) → (is_bare ≡ false → IsOwned s) → reads_key s (piece (a.borrows_key key) key.bytes) ≡ Ok m → ReadAs contents (reads_key s (piece (b.borrows_key key) key.bytes)) (contents m)
  key_after (leaf l) key m owned e = key_leaf_after (borrows l) (leaf_kind l) key m owned e
  key_after (enumeration vs) key m owned e = (m, e, refl)
  key_after s key m owned e = absurd (no_ok e)

  -- what is read after the first change is read after the second
  abbrev pub EachAfter : (Node → Reading Marked) → Type 0
  EachAfter read = (n : Node) (m : Marked) → read (before n) ≡ Ok m → ReadAs contents (read (after n)) (contents m)

  items_after : (read : Node → Reading Marked) → EachAfter read → (i : ℕ) (ns : Nodes) (vs : MarkedItems) → reads_items read i (nodes_before ns) ≡ Ok vs → ReadAs item_contents (reads_items read i (nodes_after ns)) (item_contents vs)
  items_after read each i ended vs e = (vs, e, refl)
  items_after read each i (faulty g) vs e = absurd (no_ok e)
  items_after read each i (then_node key n ns) vs e =
      let d = bind_ok (under_index i (read (before n))) (λ v. result_map (item v) (reads_items read (suc i) (nodes_before ns))) vs e in
      let m = map_ok (item d.0) (reads_items read (suc i) (nodes_before ns)) vs d.2 in
      let first = each n d.0 (inside_ok (at_index i) (read (before n)) d.0 d.1) in
      let rest = items_after read each (suc i) ns m.0 m.1 in (
        item first.0 rest.0,
        ap (λ q. under_index i q >>= λ v. result_map (item v) (reads_items read (suc i) (nodes_after ns))) first.1 ∙ ap (result_map (item first.0)) rest.1,
        (λ x. item (first.2 x) (rest.2 x)) ∙ ap item_contents m.2,
      )

  entries_after : (key : Form) (read : Node → Reading Marked) → (is_bare ≡ false → IsOwned key) → EachAfter read → (ns : Nodes) (es ds out : MarkedEntries) → entry_contents es ≡ entry_contents ds
      → reads_entries (reads_key key) read (nodes_before ns) es ≡ Ok out → ReadAs entry_contents (reads_entries (reads_key key) read (nodes_after ns) ds) (entry_contents out)
  entries_after key read owned each ended es ds out h e = (ds, refl, sym h ∙ ap entry_contents (ok_is es out e))
  entries_after key read owned each (faulty g) es ds out h e = absurd (no_ok e)
  entries_after key read owned each (then_node k n ns) es ds out h e =
      let keys = reads_key key in
      let c = bind_ok (keys (piece (a.borrows_key k) k.bytes)) (λ x. under k.bytes (read (before n)) >>= λ v. reads_entries keys read (nodes_before ns) (put_entry x v es)) out e in
      let d = bind_ok (under k.bytes (read (before n))) (λ v. reads_entries keys read (nodes_before ns) (put_entry c.0 v es)) out c.2 in
      let j = key_after key k c.0 owned c.1 in
      let first = each n d.0 (under_ok k.bytes (read (before n)) d.0 d.1) in
      let rest = entries_after key read owned each ns (put_entry c.0 d.0 es) (put_entry j.0 first.0 ds) out (put_alike c.0 j.0 d.0 first.0 es ds (sym j.2) (sym first.2) h) d.2 in (
        rest.0,
        ap (λ q. q >>= λ x. under k.bytes (read (after n)) >>= λ v. reads_entries keys read (nodes_after ns) (put_entry x v ds)) j.1
            ∙ ap (λ q. under k.bytes q >>= λ v. reads_entries keys read (nodes_after ns) (put_entry j.0 v ds)) first.1
            ∙ rest.1,
        rest.2,
      )

  -- the value of the next element, and those behind it
  next_after : {A B : Type 0} (g : A → B) (i : ℕ) (read : Node → Reading Marked) (others : Marked → Nodes → Reading A) (ns : Nodes) (x : A) → EachAfter read
      → ((v w : Marked) (ms : Nodes) → contents w ≡ contents v → others v (nodes_before ms) ≡ Ok x → ReadAs g (others w (nodes_after ms)) (g x)) → reads_next i read others (nodes_before ns) ≡ Ok x → ReadAs g (reads_next i read others (nodes_after ns)) (g x)
  next_after g i read others ended x each rest e = absurd (no_ok e)
  next_after g i read others (faulty h) x each rest e = absurd (no_ok e)
  next_after g i read others (then_node key n ns) x each rest e =
      let d = bind_ok (under_index i (read (before n))) (λ v. others v (nodes_before ns)) x e in
      let first = each n d.0 (inside_ok (at_index i) (read (before n)) d.0 d.1) in
      let h = rest d.0 first.0 ns first.2 d.2 in
      (h.0, ap (λ q. under_index i q >>= λ v. others v (nodes_after ns)) first.1 ∙ h.1, h.2)

  -- ---- structs

  -- slots of one field, of which one reads after the first change what the other reads after the second, and has a value of the same contents
  record AreAlike (x y : Slot) : Type 0 where
    pub name : x.name ≡ y.name
    pub missing : x.missing ≡ y.missing
    pub each : (n : Node) (m : Marked) → x.read (before n) ≡ Ok m → ReadAs contents (y.read (after n)) (contents m)
    pub value : option_map contents x.value ≡ option_map contents y.value

  abbrev AllAlike : Slots → Slots → Type 0
  AllAlike [] [] = Unit {0}
  AllAlike (x ∷ xs) (y ∷ ys) = AreAlike x y × AllAlike xs ys
  AllAlike xs ys = ⊥

  -- slots are read, as slots like these
  abbrev SlotsAlike : Reading Slots → Slots → Type 0
  SlotsAlike r xs = (ys : Slots) × (r ≡ Ok ys) × AllAlike xs ys

  slot_after : (key : Utf8) (n : Node) (x y out : Slot) (o p : Option Marked) → AreAlike x y → option_map contents o ≡ option_map contents p → fill_slot key (before n) x o ≡ Ok out → (to : Slot) × (fill_slot key (after n) y p ≡ Ok to) × AreAlike out to
  slot_after key n x y out None None h is e =
      let d = bind_ok (under key (x.read (before n))) (λ v. Ok (record x { value = Some v })) out e in
      let first = h.each n d.0 (under_ok key (x.read (before n)) d.0 d.1) in
      let to = record y { value = Some first.0 } in (
        to,
        ap (λ q. under key q >>= λ v. Ok (record y { value = Some v })) first.1,
        subst (λ z. AreAlike z to) (ok_is (record x { value = Some d.0 }) out d.2) (record { name = h.name; missing = h.missing; each = h.each; value = ap Some (sym first.2) }),
      )
  slot_after key n x y out None (Some w) h is e = absurd cc
  slot_after key n x y out (Some v) p h is e = absurd (no_ok e)

  unknown_after : (u : UnknownFields) (key : Utf8) (n : Node) → unknown u key (before n) ≡ Ok tt → unknown u key (after n) ≡ Ok tt
  unknown_after dropped key n e = ap (under key) (ignores_after n (under_ok key (ignores (before n)) tt e))
  unknown_after denied key n e = absurd (no_ok e)

  put_after : (u : UnknownFields) (key : Utf8) (n : Node) (xs ys out : Slots) → AllAlike xs ys → put_at u key (before n) xs ≡ Ok out → SlotsAlike (put_at u key (after n) ys) out
  put_after u key n [] [] out h e =
      let d = bind_ok (unknown u key (before n)) (λ _. Ok []) out e in
      ([], ap (λ q. q >>= λ _. Ok []) (unknown_after u key n d.1), subst (λ zs. AllAlike zs []) (ok_is [] out d.2) tt)
  put_after u key n [] (y ∷ ys) out h e = absurd h
  put_after u key n (x ∷ xs) [] out h e = absurd h
  put_after u key n (x ∷ xs) (y ∷ ys) out h e =
      subst (λ c. SlotsAlike (cond c (result_map (λ z. z ∷ ys) (fill_slot key (after n) y y.value)) (result_map (λ zs. y ∷ zs) (put_at u key (after n) ys))) out) (ap (λ name. bytes_eq name key) h.0.name)
      (by_case (bytes_eq x.name key) (λ zs q. put_after u key n xs ys zs h.1 q) e) where
        by_case : (c : Bool) → ((zs : Slots) → put_at u key (before n) xs ≡ Ok zs → SlotsAlike (put_at u key (after n) ys) zs)
            → cond c (result_map (λ z. z ∷ xs) (fill_slot key (before n) x x.value)) (result_map (λ zs. x ∷ zs) (put_at u key (before n) xs)) ≡ Ok out
            → SlotsAlike (cond c (result_map (λ z. z ∷ ys) (fill_slot key (after n) y y.value)) (result_map (λ zs. y ∷ zs) (put_at u key (after n) ys))) out
        by_case true later q =
            let m = map_ok (λ z. z ∷ xs) (fill_slot key (before n) x x.value) out q in
            let g = slot_after key n x y m.0 x.value y.value h.0 h.0.value m.1 in
            (g.0 ∷ ys, ap (result_map (λ z. z ∷ ys)) g.1, subst (λ zs. AllAlike zs (g.0 ∷ ys)) m.2 (g.2, h.1))
        by_case false later q =
            let m = map_ok (λ zs. x ∷ zs) (put_at u key (before n) xs) out q in
            let g = later m.0 m.1 in
            (y ∷ g.0, ap (result_map (λ zs. y ∷ zs)) g.1, subst (λ zs. AllAlike zs (y ∷ g.0)) m.2 (h.0, g.2))

  fill_after : (u : UnknownFields) (ns : Nodes) (xs ys out : Slots) → AllAlike xs ys → fill u (nodes_before ns) xs ≡ Ok out → SlotsAlike (fill u (nodes_after ns) ys) out
  fill_after u ended xs ys out h e = (ys, refl, subst (λ zs. AllAlike zs ys) (ok_is xs out e) h)
  fill_after u (faulty g) xs ys out h e = absurd (no_ok e)
  fill_after u (then_node key n ns) xs ys out h e =
      let d = bind_ok (put_at u key.bytes (before n) xs) (fill u (nodes_before ns)) out e in
      let first = put_after u key.bytes n xs ys d.0 h d.1 in
      let rest = fill_after u ns d.0 first.0 out first.2 d.2 in
      (rest.0, ap (λ q. q >>= fill u (nodes_after ns)) first.1 ∙ rest.1, rest.2)

  finish_after : (xs ys : Slots) (vs : MarkedFields) → AllAlike xs ys → finish xs ≡ Ok vs → ReadAs field_contents (finish ys) (field_contents vs)
  finish_after [] [] vs h e = (vs, e, refl)
  finish_after [] (y ∷ ys) vs h e = absurd h
  finish_after (x ∷ xs) [] vs h e = absurd h
  finish_after (x ∷ xs) (y ∷ ys) vs h e =
      let d = bind_ok (value_or x.name x.missing x.value) (λ v. result_map (field_value (made x.name) v) (finish xs)) vs e in
      let m = map_ok (field_value (made x.name) d.0) (finish xs) vs d.2 in
      let first = value_as y.name y.missing x.value y.value d.0 h.0.value ((λ i. value_or (sym h.0.name i) (sym h.0.missing i) x.value) ∙ d.1) in
      let rest = finish_after xs ys m.0 h.1 m.1 in (
        field_value (made y.name) first.0 rest.0,
        ap (λ q. q >>= λ v. result_map (field_value (made y.name) v) (finish ys)) first.1 ∙ ap (result_map (field_value (made y.name) first.0)) rest.1,
        (λ i. field_value (sym h.0.name i) (first.2 i) (rest.2 i)) ∙ ap field_contents m.2,
      )

  places_after : (xs ys : Slots) (i : ℕ) (ns : Nodes) (vs : MarkedFields) → AllAlike xs ys → reads_places i xs (nodes_before ns) ≡ Ok vs → ReadAs field_contents (reads_places i ys (nodes_after ns)) (field_contents vs)
  places_after [] [] i ns vs h e = (vs, e, refl)
  places_after [] (y ∷ ys) i ns vs h e = absurd h
  places_after (x ∷ xs) [] i ns vs h e = absurd h
  places_after (x ∷ xs) (y ∷ ys) i ended vs h e = absurd (no_ok e)
  places_after (x ∷ xs) (y ∷ ys) i (faulty g) vs h e = absurd (no_ok e)
  places_after (x ∷ xs) (y ∷ ys) i (then_node key n ns) vs h e =
      let d = bind_ok (under_index i (x.read (before n))) (λ v. result_map (field_value (made x.name) v) (reads_places (suc i) xs (nodes_before ns))) vs e in
      let m = map_ok (field_value (made x.name) d.0) (reads_places (suc i) xs (nodes_before ns)) vs d.2 in
      let first = h.0.each n d.0 (inside_ok (at_index i) (x.read (before n)) d.0 d.1) in
      let rest = places_after xs ys (suc i) ns m.0 h.1 m.1 in (
        field_value (made y.name) first.0 rest.0,
        ap (λ q. under_index i q >>= λ v. result_map (field_value (made y.name) v) (reads_places (suc i) ys (nodes_after ns))) first.1 ∙ ap (result_map (field_value (made y.name) first.0)) rest.1,
        (λ j. field_value (sym h.0.name j) (first.2 j) (rest.2 j)) ∙ ap field_contents m.2,
      )

  keyed_after : (u : UnknownFields) (xs ys : Slots) (ns : Nodes) (vs : MarkedFields) → AllAlike xs ys → (fill u (nodes_before ns) xs >>= finish) ≡ Ok vs → ReadAs field_contents (fill u (nodes_after ns) ys >>= finish) (field_contents vs)
  keyed_after u xs ys ns vs h e =
      let d = bind_ok (fill u (nodes_before ns) xs) finish vs e in
      let filled = fill_after u ns xs ys d.0 h d.1 in
      let done = finish_after d.0 filled.0 vs filled.2 d.2 in
      (done.0, ap (λ q. q >>= finish) filled.1 ∙ done.1, done.2)

  structure_after : (u : UnknownFields) (xs ys : Slots) (n : Node) (vs : MarkedFields) → AllAlike xs ys → read_structure u xs (before n) ≡ Ok vs → ReadAs field_contents (read_structure u ys (after n)) (field_contents vs)
  structure_after dropped xs ys (array slice ns) vs h e = places_after xs ys 0 ns vs h e
  structure_after denied xs ys (array slice ns) vs h e = absurd (no_ok e)
  structure_after u xs ys (document slice ns) vs h e = keyed_after u xs ys ns vs h e
  structure_after u xs ys (extended x ns) vs h e = keyed_after u xs ys ns vs h e
  structure_after u xs ys n vs h e = absurd (no_ok e)

  -- ---- options, arrays and documents

  option_after : (n : Node) (r q : Reading Marked) (m : Marked) → ((w : Marked) → r ≡ Ok w → ReadAs contents q (contents w)) → reads_option (before n) r ≡ Ok m → ReadAs contents (reads_option (after n) q) (contents m)
  option_after null r q m inner e = (m, e, refl)
  option_after n r q m inner e = let d = map_ok value.some r m e in let h = inner d.0 d.1 in (value.some h.0, ap (result_map value.some) h.1, ap value.some h.2 ∙ ap contents d.2)

  parts_after : {A B : Type 0} (g : A → B) (make : B → Value) (build : A → Marked) (parts : Nodes → Reading A) (n : Node) (m : Marked) → ((x : A) → contents (build x) ≡ make (g x)) → ((ns : Nodes) (x : A) → parts (nodes_before ns) ≡ Ok x → ReadAs g (parts (nodes_after ns)) (g x))
      → (judged (before n) >>= array_of >>= λ ns. result_map build (parts ns)) ≡ Ok m → ReadAs contents (judged (after n) >>= array_of >>= λ ns. result_map build (parts ns)) (contents m)
  parts_after g make build parts n m same_built each e =
      let d = bind_ok (judged (before n) >>= array_of) (λ ns. result_map build (parts ns)) m e in
      let j = read_after n array_of d.0 d.1 in
      let c = array_after n d.0 j.2 in
      let r = map_ok build (parts d.0) m d.2 in
      let h = each c.0 r.0 (ap parts c.2 ∙ r.1) in (
        build h.0,
        ap (λ q. q >>= array_of >>= λ ns. result_map build (parts ns)) j.1 ∙ ap (λ q. q >>= λ ns. result_map build (parts ns)) c.1 ∙ ap (result_map build) h.1,
        same_built h.0 ∙ ap make h.2 ∙ sym (same_built r.0) ∙ ap contents r.2,
      )

  -- ---- all forms

  -- Where this holds of the leaves of extended kinds, it holds of every form.
  module _ (at_extended : ExtendedLeaf → Node → Reading Marked)
      (each_extended : (k : ExtendedLeaf) (n : Node) (m : Marked) → IsWhole n → at_extended k (before n) ≡ Ok m → ReadAs contents (at_extended k (after n)) (contents m)) where
    abbrev reads : Form → Node → Reading Marked
    reads = shaped.reads at_extended

    abbrev reads_parts : Parts → ℕ → Nodes → Reading MarkedItems
    reads_parts = shaped.reads_parts at_extended

    abbrev slots_of : Fields → Slots
    slots_of = shaped.slots_of at_extended

    abbrev reads_variant : Variants → Utf8 → Node → Reading Marked
    reads_variant = shaped.reads_variant at_extended

    abbrev reads_content : Utf8 → Content → Node → Reading Marked
    reads_content = shaped.reads_content at_extended

    leaf_after : (l : Bool) (k : LeafKind) (n : Node) (m : Marked) → (is_bare ≡ false → IsLeafOwned l k) → IsWhole n → read_leaf_with at_extended l k (before n) ≡ Ok m → ReadAs contents (read_leaf_with at_extended l k (after n)) (contents m)
    leaf_after l anything n m owned w e = any_after n m w e
    leaf_after l ignored n m owned w e = let r = map_ok (λ _. value.unit) (passes (before n)) m e in (value.unit, ap (result_map (λ _. value.unit)) (passes_after n r.1), ap contents r.2)
    leaf_after l booleans n m owned w e = let r = map_ok value.boolean (boolean_of (before n)) m e in (value.boolean r.0, ap (result_map value.boolean) (boolean_after n r.0 r.1), ap contents r.2)
    leaf_after l (numbers type) n m owned w e =
        let d = bind_ok (integer_of (before n)) (read_integer type) m e in (m, ap (λ q. q >>= read_integer type) (integer_after n d.0 d.1) ∙ d.2, refl)
    leaf_after l doubles n m owned w e = let r = map_ok value.double (double_of (before n)) m e in (value.double r.0, ap (result_map value.double) (double_after n r.0 r.1), ap contents r.2)
    leaf_after l characters n m owned w e = (m, character_after n m w e, refl)
    leaf_after l texts n m owned w e =
        let r = map_ok value.str (text_of l (before n)) m e in
        let h = text_after l n r.0 owned w r.1 in
        (value.str h.0, ap (result_map value.str) h.1, ap value.str h.2 ∙ ap contents r.2)
    leaf_after l byte_strings n m owned w e = let r = map_ok value.bytes (bytes_of (before n)) m e in absurd (bytes_after n r.0 owned r.1)
    leaf_after l byte_buffers n m owned w e =
        let r = map_ok (λ x. value.bytes (made x)) (buffer_of (before n)) m e in (value.bytes (made r.0), ap (result_map (λ x. value.bytes (made x))) (buffer_after n r.0 w r.1), ap contents r.2)
    leaf_after l units n m owned w e = let r = map_ok (λ _. value.unit) (null_of (before n)) m e in (value.unit, ap (result_map (λ _. value.unit)) (null_after n r.0 r.1), ap contents r.2)
    leaf_after l (extended_values k) n m owned w e = each_extended k n m w e
    leaf_after l raw_documents n m owned w e =
        let r = map_ok value.raw_document (raw_document_of (before n)) m e in (value.raw_document r.0, ap (result_map value.raw_document) (raw_document_after n r.0 r.1), ap contents r.2)
    leaf_after l raw_arrays n m owned w e =
        let r = map_ok value.raw_array (raw_array_of (before n)) m e in (value.raw_array r.0, ap (result_map value.raw_array) (raw_array_after n r.0 r.1), ap contents r.2)
    leaf_after l raw_values n m owned w e = raw_value_after n m w e

    abbrev read_struct : UnknownFields → Fields → Node → Reading MarkedFields
    read_struct u fs = read_structure u (slots_of fs)

    enum_after : (vs : Variants) → ((key : Utf8) → EachAfter (reads_variant vs key)) → (n : Node) (m : Marked) → IsWhole n → read_enum (reads_unit vs) (reads_variant vs) (before n) ≡ Ok m → ReadAs contents (read_enum (reads_unit vs) (reads_variant vs) (after n)) (contents m)
    enum_after vs each (string t) m w e = (m, ap (λ x. unit_of x (content_of vs x)) (text_same t w) ∙ e, refl)
    enum_after vs each (document slice (then_node key n ns)) m w e = each key.bytes n m e
    enum_after vs each (extended x (then_node key n ns)) m w e = each key.bytes n m e
    enum_after vs each n m w e = absurd (no_ok e)

    built_after : (build : MarkedFields → Marked) (make : value.FieldValues → Value) (u : UnknownFields) (fs : Fields) (n : Node) (m : Marked) → ((x : MarkedFields) → contents (build x) ≡ make (field_contents x))
        → ((vs : MarkedFields) → read_struct u fs (before n) ≡ Ok vs → ReadAs field_contents (read_struct u fs (after n)) (field_contents vs))
        → (judged (before n) >>= λ k. result_map build (read_struct u fs k)) ≡ Ok m → ReadAs contents (judged (after n) >>= λ k. result_map build (read_struct u fs k)) (contents m)
    built_after build make u fs n m same_built each e =
        let j = read_after n (λ k. result_map build (read_struct u fs k)) m e in
        let r = map_ok build (read_struct u fs (before n)) m j.2 in
        let h = each r.0 r.1 in
        (build h.0, ap (λ q. q >>= λ k. result_map build (read_struct u fs k)) j.1 ∙ ap (result_map build) h.1, same_built h.0 ∙ ap make h.2 ∙ sym (same_built r.0) ∙ ap contents r.2)

    mutual
      -- what is read after the first change is read after the second, too, where nothing is in the input after the first or the form borrows nothing
      pub reads_after : (s : Form) → (is_bare ≡ false → IsOwned s) → EachAfter (reads s)
      reads_after (leaf l) owned n m e =
          let j = read_after n (read_leaf_with at_extended (borrows l) (leaf_kind l)) m e in
          let h = leaf_after (borrows l) (leaf_kind l) n m owned j.0 j.2 in
          (h.0, ap (λ q. q >>= read_leaf_with at_extended (borrows l) (leaf_kind l)) j.1 ∙ h.1, h.2)
      reads_after (optional s) owned n m e = option_after n (reads s (before n)) (reads s (after n)) m (λ w q. reads_after s owned n w q) e
      reads_after (lossy s) owned n m e = subst (λ k. ReadAs contents (reads s k) (contents m)) (f.mends_then n) (reads_after s owned (mended n) m (ap (reads s) (sym (f.mends n)) ∙ e))
      reads_after (human_readable s) owned n m e =
          let r = map_ok (value.newtype (made readable_newtype)) (reads s (before n)) m e in
          let h = reads_after s owned n r.0 r.1 in
          (value.newtype (made readable_newtype) h.0, ap (result_map (value.newtype (made readable_newtype))) h.1, ap (value.newtype readable_newtype) h.2 ∙ ap contents r.2)
      reads_after (by_mode readable compact) owned n m e = reads_after compact (λ o. (owned o).1) n m e
      reads_after (reference name) owned n m e = let q = (read_after n (λ _. refused (unknown_reference name)) m e).2 in absurd cc
      reads_after (definitions h s) owned n m e = reads_after s (λ o. (owned o).1) n m e
      reads_after (newtype name s) owned n m e =
          let r = map_ok (value.newtype (made name)) (reads s (before n)) m e in
          let h = reads_after s owned n r.0 r.1 in
          (value.newtype (made name) h.0, ap (result_map (value.newtype (made name))) h.1, ap (value.newtype name) h.2 ∙ ap contents r.2)
      reads_after (unit_structure name) owned n m e =
          let d = bind_ok (judged (before n) >>= null_of) (λ _. Ok (value.unit_structure (made name))) m e in
          let j = read_after n null_of d.0 d.1 in
          (m, ap (λ q. q >>= null_of >>= λ _. Ok (value.unit_structure (made name))) j.1 ∙ ap (λ q. q >>= λ _. Ok (value.unit_structure (made name))) (null_after n d.0 j.2) ∙ d.2, refl)
      reads_after (sequence s) owned n m e =
          parts_after item_contents value.sequence value.sequence (reads_items (reads s) 0) n m (λ x. refl) (λ ns x q. items_after (reads s) (reads_after s owned) 0 ns x q) e
      reads_after (map key s) owned n m e =
          let entries = λ (ns : Nodes). reads_entries (reads_key key) (reads s) ns no_entries in
          let d = bind_ok (judged (before n) >>= document_of) (λ ns. result_map value.map (entries ns)) m e in
          let j = read_after n document_of d.0 d.1 in
          let c = document_after n d.0 j.2 in
          let r = map_ok value.map (entries d.0) m d.2 in
          let h = entries_after key (reads s) (λ o. (owned o).0) (reads_after s (λ o. (owned o).1)) c.0 no_entries no_entries r.0 refl (ap entries c.2 ∙ r.1) in (
            value.map h.0,
            ap (λ q. q >>= document_of >>= λ ns. result_map value.map (entries ns)) j.1 ∙ ap (λ q. q >>= λ ns. result_map value.map (entries ns)) c.1 ∙ ap (result_map value.map) h.1,
            ap value.map h.2 ∙ ap contents r.2,
          )
      reads_after (tuple ps) owned n m e = parts_after item_contents value.tuple value.tuple (reads_parts ps 0) n m (λ x. refl) (λ ns x q. reads_parts_after ps owned 0 ns x q) e
      reads_after (tuple_structure name ps) owned n m e =
          parts_after item_contents (value.tuple_structure name) (value.tuple_structure (made name)) (reads_parts ps 0) n m (λ x. refl) (λ ns x q. reads_parts_after ps owned 0 ns x q) e
      reads_after (enumeration vs) owned n m e =
          let read = read_enum (reads_unit vs) (reads_variant vs) in
          let j = read_after n read m e in
          let h = enum_after vs (λ key k w q. reads_variant_after vs owned key k w q) n m j.0 j.2 in
          (h.0, ap (λ q. q >>= read) j.1 ∙ h.1, h.2)
      reads_after (structure u name fs) owned n m e =
          built_after (value.structure (made name)) (value.structure name) u fs n m (λ x. refl) (λ vs q. structure_after u (slots_of fs) (slots_of fs) n vs (slots_after fs owned) q) e

      slots_after : (fs : Fields) → (is_bare ≡ false → AreFieldsOwned fs) → AllAlike (slots_of fs) (slots_of fs)
      slots_after no_fields owned = tt
      slots_after (field name s fs) owned = (record { name = refl; missing = refl; each = λ n m e. reads_after s (λ o. (owned o).0) n m e; value = refl }, slots_after fs (λ o. (owned o).1))

      reads_parts_after : (ps : Parts) → (is_bare ≡ false → ArePartsOwned ps) → (i : ℕ) (ns : Nodes) (vs : MarkedItems) → reads_parts ps i (nodes_before ns) ≡ Ok vs → ReadAs item_contents (reads_parts ps i (nodes_after ns)) (item_contents vs)
      reads_parts_after no_parts owned i ns vs e = (vs, e, refl)
      reads_parts_after (part s ps) owned i ns vs e =
          next_after item_contents i (reads s) (λ v rest. result_map (item v) (reads_parts ps (suc i) rest)) ns vs (reads_after s (λ o. (owned o).0))
          (λ v w ms is q.
          let r = map_ok (item v) (reads_parts ps (suc i) (nodes_before ms)) vs q in
          let h = reads_parts_after ps (λ o. (owned o).1) (suc i) ms r.0 r.1 in
          (item w h.0, ap (result_map (item w)) h.1, (λ j. item (is j) (h.2 j)) ∙ ap item_contents r.2)) e

      reads_variant_after : (vs : Variants) → (is_bare ≡ false → AreVariantsOwned vs) → (key : Utf8) → EachAfter (reads_variant vs key)
      reads_variant_after no_variants owned key n m e = absurd (no_ok e)
      reads_variant_after (variant name c vs) owned key n m e =
          chosen_as (bytes_eq name key) (reads_content name c (before n)) (reads_variant vs key (before n)) (reads_content name c (after n)) (reads_variant vs key (after n)) m
          (λ q. reads_content_after name c (λ o. (owned o).0) n m q) (λ q. reads_variant_after vs (λ o. (owned o).1) key n m q) e

      reads_content_after : (name : Utf8) (c : Content) → (is_bare ≡ false → IsContentOwned c) → EachAfter (reads_content name c)
      reads_content_after name unit_content owned n m e = absurd (no_ok e)
      reads_content_after name (newtype_content s) owned n m e =
          under_as name (result_map (value.newtype_variant (made name)) (reads s (before n))) (result_map (value.newtype_variant (made name)) (reads s (after n))) m
          (λ q.
          let r = map_ok (value.newtype_variant (made name)) (reads s (before n)) m q in
          let h = reads_after s owned n r.0 r.1 in
          (value.newtype_variant (made name) h.0, ap (result_map (value.newtype_variant (made name))) h.1, ap (value.newtype_variant name) h.2 ∙ ap contents r.2)) e
      reads_content_after name (tuple_content ps) owned n m e =
          under_as name (judged (before n) >>= array_of >>= λ ns. result_map (value.tuple_variant (made name)) (reads_parts ps 0 ns)) (judged (after n) >>= array_of >>= λ ns. result_map (value.tuple_variant (made name)) (reads_parts ps 0 ns)) m
          (λ q. parts_after item_contents (value.tuple_variant name) (value.tuple_variant (made name)) (reads_parts ps 0) n m (λ x. refl) (λ ns x h. reads_parts_after ps owned 0 ns x h) q) e
      reads_content_after name (struct_content fs) owned n m e =
          under_as name (judged (before n) >>= λ k. result_map (value.structure_variant (made name)) (read_struct dropped fs k)) (judged (after n) >>= λ k. result_map (value.structure_variant (made name)) (read_struct dropped fs k)) m
          (λ q. built_after (value.structure_variant (made name)) (value.structure_variant name) dropped fs n m (λ x. refl) (λ vs h. structure_after dropped (slots_of fs) (slots_of fs) n vs (slots_after fs owned) h) q) e
