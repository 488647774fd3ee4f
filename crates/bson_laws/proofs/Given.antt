-- What reading gives at a shape, of whatever it is read.
use Rattle.std.proofs.Common.{◌≡◌, ℕ, ℤ, pos, negsuc, arith, suc, [], ◌∷◌, List, length, Bool, true, false, cond, Option, Some, None, Ok, refl, ap, sym, subst, ◌∙◌}
use Rattle.std.proofs.lemmas.Str.{scalars-chars, IsUtf8-from_is_utf8}
use Rattle.std.proofs.lemmas.Slice.Eq.{bytes_eq-Decides}
use Rattle.std.specs.Char.{IsScalar}
use Rattle.std.specs.Int.{w32, w64}
use Rattle.std.specs.Prelude.{FitsSigned}
use Rattle.std.specs.Str.{bytes_eq, is_utf8, chars}
use Rattle.bson_kinds.specs.Text.{Bytes, Utf8, has_zero}
use Rattle.bson_kinds.specs.Outcome.{◌>>=◌, result_map}
use Rattle.bson_kinds.proofs.Outcomes.{some_is, ok_is, map_ok, bind_ok}
use Rattle.bson_rawdoc.specs.Node as node
use Rattle.bson_rawdoc.specs.Node.{Sight, Node, Nodes, ended, faulty, then_node, mended}
use Rattle.bson_kinds.specs.Piece.{Piece, made}
use Rattle.bson_shape.specs.Form.{UnknownFields, dropped, denied, Form, leaf, optional, lossy, human_readable, by_mode, sequence, newtype, unit_structure, map, tuple, tuple_structure, structure, enumeration, reference, definitions, Fields, no_fields, field, Parts, no_parts, part, Content, unit_content, newtype_content, tuple_content, struct_content, Variants, no_variants, variant}
use Rattle.bson_shape.specs.declared.leaf.Leaf.{Leaf}
use Rattle.bson_values.specs.Value as value
use Rattle.bson_values.specs.Value.{readable_newtype, IntegerType, i32, i64, in_range, Value, Items, no_items, item, Entries, no_entries, entry, FieldValues, no_field_values, field_value}
use Rattle.bson_values.specs.Marked.{Marked, MarkedItems, MarkedEntries, MarkedFields, contents, item_contents, entry_contents, field_contents}
use Rattle.bson_values.specs.Same.{same}
use Rattle.bson_values.specs.Cause.{out_of_range, unknown_reference, not_utf8, not_borrowed}
use Rattle.bson_values.specs.Refusal.{at_index, under, under_index}
use Rattle.bson_laws.specs.Leaves.{LeafKind, anything, ignored, booleans, numbers, doubles, characters, texts, byte_strings, byte_buffers, units, ExtendedLeaf, extended_values, raw_documents, raw_arrays, raw_values, leaf_kind}
use Rattle.bson_laws.specs.Variants.{content_of}
use Rattle.bson_laws.specs.Views.{one_character}
use Rattle.bson_laws.specs.Judged.{Reading, refused, judged, passes}
use Rattle.bson_laws.specs.ReadsRaw.{raw_document_of, raw_array_of}
use Rattle.bson_laws.specs.Taken.{owned_under_mark, boolean_of, integer_of, double_of, character_of, borrow, borrow_or_own, as_text, text_of, bytes_of, buffer_of, null_of, read_integer, read_character, document_of, array_of}
use Rattle.bson_laws.specs.ReadsLeaf.{borrows, put_entry, read_any, any_items, any_entries, no_extended, read_leaf_with}
use Rattle.bson_laws.specs.Containers.{reads_items, reads_entries, unit_of, reads_unit, reads_key, read_enum, reads_option, reads_next}
use Rattle.bson_laws.specs.Slots.{Slot, Slots, missing_value, fill_slot, unknown, put_at, fill, value_or, finish, reads_places, read_structure}
use Rattle.bson_laws.specs.Shaped as shaped
use Rattle.bson_laws.proofs.Framed.{IsFramed}
use Rattle.bson_laws.proofs.GivenRaw.{IsGivenRaw, document_framed, array_framed, raw_given}
use Rattle.bson_laws.proofs.GivenTrees.{IsGivenExtended}
use Rattle.bson_laws.proofs.JudgedTexts.{judged_text}
use Rattle.bson_laws.proofs.Sizes.{inside_ok, under_ok}
use Rattle.bson_laws.proofs.Coded.{IsName}
use Rattle.bson_laws.proofs.Borrowed.{TextBorrowed, LeafBorrowed, marked}
use Rattle.bson_laws.proofs.Mended.{mended_tame}
use Rattle.bson_laws.proofs.Tame as tame
use Rattle.bson_laws.proofs.Tame.{IsTextSeen, after_judged, judged_refused, document_tame, array_tame}
use Rattle.bson_laws.proofs.Viewed.{one_scalar}
use Rattle.bson_kinds.proofs.Apart.{no_ok}

-- ---- what is given

-- no later entry has the key
abbrev pub Differs : Value → Entries → Type 0
Differs k no_entries = Unit {0}
Differs k (entry l v es) = (same l k ≡ false) × Differs k es

-- no two entries have one key
abbrev pub AreApart : Entries → Type 0
AreApart no_entries = Unit {0}
AreApart (entry k v es) = Differs k es × AreApart es

abbrev pub IsGivenText : Value → Type 0
IsGivenText (value.str t) = IsName t
IsGivenText v = ⊥

abbrev mutual
  pub IsGivenAny : Value → Type 0
  IsGivenAny (value.boolean b) = Unit {0}
  IsGivenAny (value.integer i32 n) = FitsSigned w32 n
  IsGivenAny (value.integer i64 n) = FitsSigned w64 n
  IsGivenAny (value.double bits) = length bits ≡ 8
  IsGivenAny (value.str t) = is_utf8 t ≡ true
  IsGivenAny (value.bytes bs) = Unit {0}
  IsGivenAny value.unit = Unit {0}
  IsGivenAny (value.sequence vs) = AreGivenItems vs
  IsGivenAny (value.map es) = AreApart es × AreGivenEntries es
  IsGivenAny v = ⊥

  pub AreGivenItems : Items → Type 0
  AreGivenItems no_items = Unit {0}
  AreGivenItems (item v vs) = IsGivenAny v × AreGivenItems vs

  pub AreGivenEntries : Entries → Type 0
  AreGivenEntries no_entries = Unit {0}
  AreGivenEntries (entry k v es) = IsGivenText k × IsGivenAny v × AreGivenEntries es

abbrev pub IsGivenLeaf : LeafKind → Value → Type 0
IsGivenLeaf anything v = IsGivenAny v
IsGivenLeaf ignored value.unit = Unit {0}
IsGivenLeaf booleans (value.boolean b) = Unit {0}
IsGivenLeaf (numbers type) (value.integer t n) = (t ≡ type) × (in_range type n ≡ true) × FitsSigned w64 n
IsGivenLeaf doubles (value.double bits) = length bits ≡ 8
IsGivenLeaf characters (value.character c) = IsScalar c
IsGivenLeaf texts (value.str t) = is_utf8 t ≡ true
IsGivenLeaf byte_strings (value.bytes bs) = Unit {0}
IsGivenLeaf byte_buffers (value.bytes bs) = Unit {0}
IsGivenLeaf units value.unit = Unit {0}
IsGivenLeaf (extended_values k) v = IsGivenExtended k v
IsGivenLeaf raw_documents (value.raw_document b) = IsFramed b
IsGivenLeaf raw_arrays (value.raw_array b) = IsFramed b
IsGivenLeaf raw_values v = IsGivenRaw v
IsGivenLeaf k v = ⊥

-- a key where the keys are what a leaf takes; one that is not a text is not written
abbrev pub IsGivenLeafKey : LeafKind → Value → Type 0
IsGivenLeafKey anything (value.str t) = IsName t
IsGivenLeafKey raw_values (value.str t) = IsName t
IsGivenLeafKey texts (value.str t) = IsName t
IsGivenLeafKey characters (value.character c) = Unit {0}
IsGivenLeafKey byte_strings (value.bytes bs) = Unit {0}
IsGivenLeafKey byte_buffers (value.bytes bs) = Unit {0}
IsGivenLeafKey ignored value.unit = Unit {0}
IsGivenLeafKey k v = ⊥

-- ---- texts

whole_binary : (b : Bool) (p q : Piece) → is_utf8 p.bytes ≡ b → cond b (Ok p) (refused not_utf8) ≡ Ok q → is_utf8 q.bytes ≡ true
whole_binary true p q is e = subst (λ (x : Piece). is_utf8 x.bytes ≡ true) (ok_is p q e) is
whole_binary false p q is e = absurd (no_ok e)

-- what is taken of a text is the text
borrow_is : (b : Bool) (t p : Piece) → borrow_or_own b t ≡ Ok p → p.bytes ≡ t.bytes
borrow_is true t p e = held t.in_input e where
  held : (b : Bool) → cond b (Ok t) (refused not_borrowed) ≡ Ok p → p.bytes ≡ t.bytes
  held true q = ap (λ (x : Piece). x.bytes) (sym (ok_is t p q))
  held false q = absurd (no_ok q)
borrow_is false t p e = ap (λ (x : Piece). x.bytes) (sym (ok_is (made t.bytes) p e))

pub whole_text : (b : Bool) (n m : Node) (p : Piece) → judged n ≡ Ok m → text_of b n ≡ Ok p → is_utf8 p.bytes ≡ true
whole_text b (node.string t) m p j e = ap is_utf8 (borrow_is b t p e) ∙ judged_text t m j
whole_text b (node.bytes u x) m p j e = let q = bind_ok (borrow_or_own b (owned_under_mark u x)) as_text p e in whole_binary (is_utf8 q.0.bytes) q.0 p refl q.2
whole_text b n m p j e = absurd (no_ok e)

-- ---- entries

-- each key and each value is so
abbrev AllSo : (Value → Type 0) → (Value → Type 0) → Entries → Type 0
AllSo P Q no_entries = Unit {0}
AllSo P Q (entry k v es) = P k × Q v × AllSo P Q es

either_so : (F : Entries → Type 0) (b : Bool) (es ds : MarkedEntries) → F (entry_contents es) → F (entry_contents ds) → F (entry_contents (cond b es ds))
either_so F true es ds h g = h
either_so F false es ds h g = g

put_so : (P Q : Value → Type 0) (k v : Marked) (es : MarkedEntries) → P (contents k) → Q (contents v) → AllSo P Q (entry_contents es) → AllSo P Q (entry_contents (put_entry k v es))
put_so P Q k v no_entries p q h = (p, q, tt)
put_so P Q k v (entry l old es) p q h = either_so (AllSo P Q) (same (contents k) (contents l)) (entry l v es) (entry l old (put_entry k v es)) (h.0, q, h.2) (h.0, h.1, put_so P Q k v es p q h.2)

put_differs : (j : Value) (k v : Marked) (es : MarkedEntries) → same (contents k) j ≡ false → Differs j (entry_contents es) → Differs j (entry_contents (put_entry k v es))
put_differs j k v no_entries d h = (d, tt)
put_differs j k v (entry l old es) d h = either_so (Differs j) (same (contents k) (contents l)) (entry l v es) (entry l old (put_entry k v es)) h (h.0, put_differs j k v es d h.1)

put_apart : (k v : Marked) (es : MarkedEntries) → AreApart (entry_contents es) → AreApart (entry_contents (put_entry k v es))
put_apart k v no_entries h = (tt, tt)
put_apart k v (entry l old es) h = by_case (put_apart k v es h.1) (same (contents k) (contents l)) refl where
  by_case : AreApart (entry_contents (put_entry k v es)) → (b : Bool) → same (contents k) (contents l) ≡ b → AreApart (entry_contents (cond b (entry l v es) (entry l old (put_entry k v es))))
  by_case later true is = h
  by_case later false unlike = (put_differs (contents l) k v es unlike h.0, later)

abbrev pub IsGivenKey : Sight → Form → Value → Type 0
IsGivenKey at (leaf l) k = IsGivenLeafKey (leaf_kind l) k × LeafBorrowed at (borrows l) (leaf_kind l)
IsGivenKey at (enumeration vs) (value.unit_variant name) = (content_of vs name ≡ Some unit_content) × (has_zero name ≡ false)
IsGivenKey at s k = ⊥

abbrev mutual
  pub IsGiven : Sight → Value → Form → Type 0
  IsGiven at v (leaf l) = IsGivenLeaf (leaf_kind l) v × LeafBorrowed at (borrows l) (leaf_kind l)
  IsGiven at v (lossy s) = IsGiven (marked at) v s
  IsGiven at v (by_mode readable compact) = IsGiven at v compact
  IsGiven at v (definitions h s) = IsGiven at v s
  IsGiven at (value.newtype name v) (human_readable s) = (name ≡ readable_newtype) × IsGiven at v s
  IsGiven at value.none (optional s) = Unit {0}
  IsGiven at (value.some v) (optional s) = IsGiven at v s
  IsGiven at (value.newtype name v) (newtype n s) = (name ≡ n) × IsGiven at v s
  IsGiven at (value.unit_structure name) (unit_structure n) = name ≡ n
  IsGiven at (value.sequence vs) (sequence s) = ItemsGiven at vs s
  IsGiven at (value.map es) (map key s) = AreApart es × EntriesGiven at es key s
  IsGiven at (value.tuple vs) (tuple ps) = PartsGiven at vs ps
  IsGiven at (value.tuple_structure name vs) (tuple_structure n ps) = (name ≡ n) × PartsGiven at vs ps
  IsGiven at (value.unit_variant name) (enumeration vs) = content_of vs name ≡ Some unit_content
  IsGiven at (value.newtype_variant name v) (enumeration vs) = (s : Form) × (content_of vs name ≡ Some (newtype_content s)) × IsGiven at v s × (has_zero name ≡ false)
  IsGiven at (value.tuple_variant name vs) (enumeration ws) = (ps : Parts) × (content_of ws name ≡ Some (tuple_content ps)) × PartsGiven at vs ps × (has_zero name ≡ false)
  IsGiven at (value.structure_variant name vs) (enumeration ws) = (fs : Fields) × (content_of ws name ≡ Some (struct_content fs)) × FieldsGiven at vs fs × (has_zero name ≡ false)
  IsGiven at (value.structure name vs) (structure u n fs) = (name ≡ n) × FieldsGiven at vs fs
  IsGiven at v s = ⊥

  pub ItemsGiven : Sight → Items → Form → Type 0
  ItemsGiven at no_items s = Unit {0}
  ItemsGiven at (item v vs) s = IsGiven at v s × ItemsGiven at vs s

  pub PartsGiven : Sight → Items → Parts → Type 0
  PartsGiven at no_items no_parts = Unit {0}
  PartsGiven at (item v vs) (part s ps) = IsGiven at v s × PartsGiven at vs ps
  PartsGiven at vs ps = ⊥

  pub EntriesGiven : Sight → Entries → Form → Form → Type 0
  EntriesGiven at no_entries key s = Unit {0}
  EntriesGiven at (entry k v es) key s = IsGivenKey at key k × IsGiven at v s × EntriesGiven at es key s

  pub FieldsGiven : Sight → FieldValues → Fields → Type 0
  FieldsGiven at no_field_values no_fields = Unit {0}
  FieldsGiven at (field_value name v vs) (field n s fs) = (name ≡ n) × IsGiven at v s × FieldsGiven at vs fs
  FieldsGiven at vs fs = ⊥

-- what is read of nodes that are tame when they are seen so
module _ (sight : Sight) where
  abbrev IsTame : Node → Type 0
  IsTame = tame.IsTame sight

  abbrev AreTame : Nodes → Type 0
  AreTame = tame.AreTame sight

  -- what is given at a leaf, of whatever form the value is; what the leaf borrows is there to be borrowed
  pub leaf_given_at : (l : Leaf) (v : Value) → IsGivenLeaf (leaf_kind l) v × LeafBorrowed sight (borrows l) (leaf_kind l) → IsGiven sight v (leaf l)
  leaf_given_at l (value.boolean b) g = g
  leaf_given_at l v g = g

  pub given_leaf : (v : Value) (l : Leaf) → IsGiven sight v (leaf l) → IsGivenLeaf (leaf_kind l) v × LeafBorrowed sight (borrows l) (leaf_kind l)
  given_leaf (value.boolean b) l g = g
  given_leaf v l g = g

  -- what is given where texts are mended, at the form that applies of two, and at definitions, of whatever form the value is
  lossy_given : (v : Value) (s : Form) → IsGiven (marked sight) v s → IsGiven sight v (lossy s)
  lossy_given value.none s g = g
  lossy_given v s g = g

  expected_given : (v : Value) (readable compact : Form) → IsGiven sight v compact → IsGiven sight v (by_mode readable compact)
  expected_given value.none readable compact g = g
  expected_given v readable compact g = g

  body_given : (v : Value) (h : Fields) (s : Form) → IsGiven sight v s → IsGiven sight v (definitions h s)
  body_given value.none h s g = g
  body_given v h s g = g

  pub given_lossy : (v : Value) (s : Form) → IsGiven sight v (lossy s) → IsGiven (marked sight) v s
  given_lossy value.none s g = g
  given_lossy v s g = g

  pub given_expected : (v : Value) (readable compact : Form) → IsGiven sight v (by_mode readable compact) → IsGiven sight v compact
  given_expected value.none readable compact g = g
  given_expected v readable compact g = g

  pub given_body : (v : Value) (h : Fields) (s : Form) → IsGiven sight v (definitions h s) → IsGiven sight v s
  given_body value.none h s g = g
  given_body v h s g = g

  -- ---- values without a shape

  given_entries : (es : Entries) → AllSo IsGivenText IsGivenAny es → AreGivenEntries es
  given_entries no_entries h = tt
  given_entries (entry k v es) h = (h.0, h.1, given_entries es h.2)

  abbrev AnyGiven : Marked → Type 0
  AnyGiven v = IsGivenAny (contents v)

  abbrev MapGiven : MarkedEntries → Type 0
  MapGiven es = AreApart (entry_contents es) × AllSo IsGivenText IsGivenAny (entry_contents es)

  map_given : (es : MarkedEntries) (v : Marked) → MapGiven es → value.map es ≡ v → AnyGiven v
  map_given es v h e = subst AnyGiven e (h.0, given_entries (entry_contents es) h.1)

  mutual
    any_given : (n m : Node) (v : Marked) → IsTame n → judged n ≡ Ok m → read_any n ≡ Ok v → AnyGiven v
    any_given (node.boolean b) m v t j e = subst AnyGiven (ok_is (value.boolean b) v e) tt
    any_given (node.int32 n) m v t j e = subst AnyGiven (ok_is (value.integer i32 n) v e) t
    any_given (node.int64 n) m v t j e = subst AnyGiven (ok_is (value.integer i64 n) v e) t
    any_given (node.double bits) m v t j e = subst AnyGiven (ok_is (value.double bits) v e) t
    any_given (node.string p) m v t j e = subst AnyGiven (ok_is (value.str p) v e) (judged_text p m j)
    any_given (node.bytes u p) m v t j e = subst AnyGiven (ok_is (value.bytes (owned_under_mark u p)) v e) tt
    any_given node.null m v t j e = subst AnyGiven (ok_is value.unit v e) tt
    any_given (node.array slice ns) m v t j e = let r = map_ok value.sequence (any_items 0 ns) v e in subst AnyGiven r.2 (any_items_given 0 ns r.0 t.1 r.1)
    any_given (node.document slice ns) m v t j e = let r = map_ok value.map (any_entries ns no_entries) v e in map_given r.0 v (any_entries_given ns no_entries r.0 t.1 (tt, tt) r.1) r.2
    any_given (node.extended x ns) m v t j e = let r = map_ok value.map (any_entries ns no_entries) v e in map_given r.0 v (any_entries_given ns no_entries r.0 t.1 (tt, tt) r.1) r.2
    any_given n m v t j e = absurd (no_ok e)

    any_items_given : (i : ℕ) (ns : Nodes) (vs : MarkedItems) → AreTame ns → any_items i ns ≡ Ok vs → AreGivenItems (item_contents vs)
    any_items_given i ended vs t e = subst (λ x. AreGivenItems (item_contents x)) (ok_is no_items vs e) tt
    any_items_given i (faulty f) vs t e = absurd (no_ok e)
    any_items_given i (then_node key n ns) vs t e =
        let a = bind_ok (under_index i (judged n >>= λ _. read_any n)) (λ v. result_map (item v) (any_items (suc i) ns)) vs e in
        let b = map_ok (item a.0) (any_items (suc i) ns) vs a.2 in
        let first = bind_ok (judged n) (λ _. read_any n) a.0 (inside_ok (at_index i) (judged n >>= λ _. read_any n) a.0 a.1) in
        subst (λ x. AreGivenItems (item_contents x)) b.2 (any_given n first.0 a.0 t.1 first.1 first.2, any_items_given (suc i) ns b.0 t.2 b.1)

    any_entries_given : (ns : Nodes) (es out : MarkedEntries) → AreTame ns → MapGiven es → any_entries ns es ≡ Ok out → MapGiven out
    any_entries_given ended es out t h e = subst MapGiven (ok_is es out e) h
    any_entries_given (faulty f) es out t h e = absurd (no_ok e)
    any_entries_given (then_node key n ns) es out t h e =
        let k = value.str key in
        let a = bind_ok (under key.bytes (judged n >>= λ _. read_any n)) (λ v. any_entries ns (put_entry k v es)) out e in
        let first = bind_ok (judged n) (λ _. read_any n) a.0 (under_ok key.bytes (judged n >>= λ _. read_any n) a.0 a.1) in
        any_entries_given ns (put_entry k a.0 es) out t.2 (put_apart k a.0 es h.0, put_so IsGivenText IsGivenAny k a.0 es t.0 (any_given n first.0 a.0 t.1 first.1 first.2) h.1) a.2

  -- ---- leaves

  abbrev LeafGiven : LeafKind → Marked → Type 0
  LeafGiven k v = IsGivenLeaf k (contents v)

  wider : (n : ℤ) → FitsSigned w32 n → FitsSigned w64 n
  wider (pos n) h = omega (arith, h)
  wider (negsuc n) h = omega (arith, h)

  integer_fits : (n : Node) (z : ℤ) → IsTame n → integer_of n ≡ Ok z → FitsSigned w64 z
  integer_fits (node.int32 x) z t e = subst (λ y. FitsSigned w64 y) (ok_is x z e) (wider x t)
  integer_fits (node.int64 x) z t e = subst (λ y. FitsSigned w64 y) (ok_is x z e) t
  integer_fits n z t e = absurd (no_ok e)

  number_given : (type : IntegerType) (n : ℤ) (b : Bool) (v : Marked) → FitsSigned w64 n → in_range type n ≡ b → cond b (Ok (value.integer type n)) (refused (out_of_range n)) ≡ Ok v → LeafGiven (numbers type) v
  number_given type n true v f is e = subst (LeafGiven (numbers type)) (ok_is (value.integer type n) v e) (refl, is, f)
  number_given type n false v f is e = absurd (no_ok e)

  character_given : (cs : List ℕ) (o : Option ℕ) (v : Marked) → ((c : ℕ) → o ≡ Some c → IsScalar c) → read_character o ≡ Ok v → LeafGiven characters v
  character_given cs (Some c) v h e = subst (LeafGiven characters) (ok_is (value.character c) v e) (h c refl)
  character_given cs None v h e = absurd (no_ok e)

  double_sized : (n : Node) (b : Bytes) → IsTame n → double_of n ≡ Ok b → length b ≡ 8
  double_sized (node.double bits) b t e = subst (λ (x : Bytes). length x ≡ 8) (ok_is bits b e) t
  double_sized n b t e = absurd (no_ok e)

  character_read : (n m : Node) (v : Marked) → judged n ≡ Ok m → character_of n ≡ Ok v → LeafGiven characters v
  character_read (node.string t) m v j e =
      character_given (chars t.bytes) (one_character (chars t.bytes)) v (λ c is. one_scalar (chars t.bytes) c (scalars-chars t.bytes (IsUtf8-from_is_utf8 t.bytes (judged_text t m j))) is) e
  character_read n m v j e = absurd (no_ok e)

  -- ---- what is borrowed

  borrowed_seen : (b : Bool) (p q : Piece) → p.in_input ≡ b → cond b (Ok p) (refused not_borrowed) ≡ Ok q → b ≡ true
  borrowed_seen true p q is e = refl
  borrowed_seen false p q is e = absurd (no_ok e)

  text_borrows : (l : Bool) (p q : Piece) → IsTextSeen sight p → borrow_or_own l p ≡ Ok q → TextBorrowed sight l
  text_borrows true p q t e = (t (borrowed_seen p.in_input p q refl e)).0
  text_borrows false p q t e = tt

  -- a leaf that reads a text, or a byte string, has it to borrow
  texts_borrow : (l : Bool) (n : Node) (q : Piece) → IsTame n → text_of l n ≡ Ok q → TextBorrowed sight l
  texts_borrow l (node.string p) q t e = text_borrows l p q t e
  texts_borrow l (node.bytes u b) q t e = let r = bind_ok (borrow_or_own l (owned_under_mark u b)) as_text q e in text_borrows l (owned_under_mark u b) r.0 t.2 r.1
  texts_borrow l n q t e = absurd (no_ok e)

  bytes_borrow : (n : Node) (q : Piece) → IsTame n → bytes_of n ≡ Ok q → sight.bytes ≡ true
  bytes_borrow (node.string p) q t e = (t (borrowed_seen p.in_input p q refl e)).1
  bytes_borrow (node.bytes u b) q t e = t.1 (borrowed_seen b.in_input b q refl e)
  bytes_borrow (node.extended (node.object_id id) ns) q t e = t.0.2 (borrowed_seen id.in_input id q refl e)
  bytes_borrow n q t e = absurd (no_ok e)

  leaf_borrowed : (extended : ExtendedLeaf → Node → Reading Marked) (l : Bool) (k : LeafKind) (n : Node) (v : Marked) → IsTame n → read_leaf_with extended l k n ≡ Ok v → LeafBorrowed sight l k
  leaf_borrowed extended l texts n v t e = let r = map_ok value.str (text_of l n) v e in texts_borrow l n r.0 t r.1
  leaf_borrowed extended l byte_strings n v t e = let r = map_ok value.bytes (bytes_of n) v e in bytes_borrow n r.0 t r.1
  leaf_borrowed extended l k n v t e = tt

  -- ---- keys

  abbrev LeafKeyGiven : LeafKind → Marked → Type 0
  LeafKeyGiven k v = IsGivenLeafKey k (contents v)

  leaf_key_given : (l : Bool) (k : LeafKind) (key : Piece) (v : Marked) → IsName key.bytes → read_leaf_with no_extended l k (node.string key) ≡ Ok v → LeafKeyGiven k v
  leaf_key_given l anything key v h e = subst (LeafKeyGiven anything) (ok_is (value.str key) v e) h
  leaf_key_given l raw_values key v h e = subst (LeafKeyGiven raw_values) (ok_is (value.str key) v e) h
  leaf_key_given l ignored key v h e = subst (LeafKeyGiven ignored) (ok_is value.unit v e) tt
  leaf_key_given l characters key v h e = by_case (one_character (chars key.bytes)) e where
    by_case : (o : Option ℕ) → read_character o ≡ Ok v → LeafKeyGiven characters v
    by_case (Some c) q = subst (LeafKeyGiven characters) (ok_is (value.character c) v q) tt
    by_case None q = absurd (no_ok q)
  leaf_key_given l texts key v h e = let r = map_ok value.str (borrow_or_own l key) v e in subst (LeafKeyGiven texts) r.2 (subst IsName (sym (borrow_is l key r.0 r.1)) h)
  leaf_key_given l byte_strings key v h e = let r = map_ok value.bytes (borrow key) v e in subst (LeafKeyGiven byte_strings) r.2 tt
  leaf_key_given l byte_buffers key v h e = subst (LeafKeyGiven byte_buffers) (ok_is (value.bytes (made key.bytes)) v e) tt
  leaf_key_given l k key v h e = absurd (no_ok e)

  unit_given : (vs : Variants) (name : Utf8) (o : Option Content) (v : Marked) → content_of vs name ≡ o → unit_of name o ≡ Ok v → IsGiven sight (contents v) (enumeration vs)
  unit_given vs name None v is e = absurd (no_ok e)
  unit_given vs name (Some unit_content) v is e = subst (λ x. IsGiven sight (contents x) (enumeration vs)) (ok_is (value.unit_variant (made name)) v e) is
  unit_given vs name (Some c) v is e = absurd (no_ok e)

  unit_key_given : (vs : Variants) (name : Utf8) (o : Option Content) (v : Marked) → has_zero name ≡ false → content_of vs name ≡ o → unit_of name o ≡ Ok v → IsGivenKey sight (enumeration vs) (contents v)
  unit_key_given vs name None v z is e = absurd (no_ok e)
  unit_key_given vs name (Some unit_content) v z is e = subst (λ x. IsGivenKey sight (enumeration vs) (contents x)) (ok_is (value.unit_variant (made name)) v e) (is, z)
  unit_key_given vs name (Some c) v z is e = absurd (no_ok e)

  key_given : (s : Form) (key : Piece) (v : Marked) → IsName key.bytes → IsTextSeen sight key → reads_key s key ≡ Ok v → IsGivenKey sight s (contents v)
  key_given (leaf l) key v h t e = (leaf_key_given (borrows l) (leaf_kind l) key v h e, leaf_borrowed no_extended (borrows l) (leaf_kind l) (node.string key) v t e)
  key_given (enumeration vs) key v h t e = unit_key_given vs key.bytes (content_of vs key.bytes) v h.1 refl e
  key_given s key v h t e = absurd (no_ok e)

  -- ---- lists

  -- what is read is given at the form
  abbrev EachGiven : (Node → Reading Marked) → Form → Type 0
  EachGiven read s = (n : Node) (v : Marked) → IsTame n → read n ≡ Ok v → IsGiven sight (contents v) s

  items_given : (read : Node → Reading Marked) (s : Form) → EachGiven read s → (i : ℕ) (ns : Nodes) (vs : MarkedItems) → AreTame ns → reads_items read i ns ≡ Ok vs → ItemsGiven sight (item_contents vs) s
  items_given read s each i ended vs t e = subst (λ x. ItemsGiven sight (item_contents x) s) (ok_is no_items vs e) tt
  items_given read s each i (faulty f) vs t e = absurd (no_ok e)
  items_given read s each i (then_node key n ns) vs t e =
      let a = bind_ok (under_index i (read n)) (λ v. result_map (item v) (reads_items read (suc i) ns)) vs e in
      let b = map_ok (item a.0) (reads_items read (suc i) ns) vs a.2 in
      subst (λ x. ItemsGiven sight (item_contents x) s) b.2 (each n a.0 t.1 (inside_ok (at_index i) (read n) a.0 a.1), items_given read s each (suc i) ns b.0 t.2 b.1)

  abbrev EntriesSo : Form → Form → MarkedEntries → Type 0
  EntriesSo key s es = AreApart (entry_contents es) × AllSo (IsGivenKey sight key) (λ v. IsGiven sight v s) (entry_contents es)

  entries_given : (key s : Form) (es : Entries) → AllSo (IsGivenKey sight key) (λ v. IsGiven sight v s) es → EntriesGiven sight es key s
  entries_given key s no_entries h = tt
  entries_given key s (entry k v es) h = (h.0, h.1, entries_given key s es h.2)

  -- the value that is read for the next element, and what is read from those behind it
  next_read : {A : Type 0} (i : ℕ) (read : Node → Reading Marked) (others : Marked → Nodes → Reading A) (ns : Nodes) (x : A) → AreTame ns → reads_next i read others ns ≡ Ok x
      → (n : Node) × (v : Marked) × (rest : Nodes) × IsTame n × AreTame rest × (read n ≡ Ok v) × (others v rest ≡ Ok x)
  next_read i read others ended x t e = absurd (no_ok e)
  next_read i read others (faulty f) x t e = absurd (no_ok e)
  next_read i read others (then_node key n ns) x t e =
      let a = bind_ok (under_index i (read n)) (λ v. others v ns) x e in
      (n, a.0, ns, t.1, t.2, inside_ok (at_index i) (read n) a.0 a.1, a.2)

  -- what is read from a judged array: its elements, and what is built of them
  array_read : {A : Type 0} (build : A → Marked) (parts : Nodes → Reading A) (n : Node) (v : Marked) → IsTame n → (judged n >>= array_of >>= λ ns. result_map build (parts ns)) ≡ Ok v
      → (ns : Nodes) × (x : A) × AreTame ns × (parts ns ≡ Ok x) × (build x ≡ v)
  array_read build parts n v t e =
      let d = bind_ok (judged n >>= array_of) (λ ns. result_map build (parts ns)) v e in
      let m = map_ok build (parts d.0) v d.2 in
      (d.0, m.0, array_tame sight n d.0 t (after_judged n array_of d.0 d.1), m.1, m.2)

  -- ---- fields

  abbrev StructGiven : Fields → MarkedFields → Type 0
  StructGiven fs vs = FieldsGiven sight (field_contents vs) fs

  -- what is read in the slot of a field is given at the shape of the field
  record IsSlotOf (name : Utf8) (s : Form) (slot : Slot) : Type 0 where
    pub name_is : slot.name ≡ name
    pub missing_is : slot.missing ≡ missing_value s
    pub each : EachGiven slot.read s
    pub value : (v : Marked) → slot.value ≡ Some v → IsGiven sight (contents v) s

  abbrev AreSlotsOf : Fields → Slots → Type 0
  AreSlotsOf no_fields [] = Unit {0}
  AreSlotsOf (field n s fs) (slot ∷ slots) = IsSlotOf n s slot × AreSlotsOf fs slots
  AreSlotsOf fs slots = ⊥

  absent_given : (name : Utf8) (s : Form) (v : Marked) → value_or name (missing_value s) None ≡ Ok v → IsGiven sight (contents v) s
  absent_given name (optional s) v e = subst (λ x. IsGiven sight (contents x) (optional s)) (ok_is value.none v e) tt
  absent_given name (by_mode readable (optional s)) v e = subst (λ x. IsGiven sight (contents x) (by_mode readable (optional s))) (ok_is value.none v e) tt
  absent_given name (by_mode readable compact) v e = absurd (no_ok e)
  absent_given name s v e = absurd (no_ok e)

  value_given : (name : Utf8) (s : Form) (missing o : Option Marked) (v : Marked) → missing ≡ missing_value s → ((w : Marked) → o ≡ Some w → IsGiven sight (contents w) s) → value_or name missing o ≡ Ok v → IsGiven sight (contents v) s
  value_given name s missing None v is h e = absent_given name s v (ap (λ m. value_or name m None) (sym is) ∙ e)
  value_given name s missing (Some w) v is h e = subst (λ x. IsGiven sight (contents x) s) (ok_is w v e) (h w refl)

  finish_given : (fs : Fields) (slots : Slots) (vs : MarkedFields) → AreSlotsOf fs slots → finish slots ≡ Ok vs → StructGiven fs vs
  finish_given no_fields [] vs h e = subst (StructGiven no_fields) (ok_is no_field_values vs e) tt
  finish_given no_fields (slot ∷ slots) vs h e = absurd h
  finish_given (field n s fs) [] vs h e = absurd h
  finish_given (field n s fs) (slot ∷ slots) vs h e =
      let a = bind_ok (value_or slot.name slot.missing slot.value) (λ v. result_map (field_value (made slot.name) v) (finish slots)) vs e in
      let b = map_ok (field_value (made slot.name) a.0) (finish slots) vs a.2 in
      subst (StructGiven (field n s fs)) b.2 (h.0.name_is, value_given slot.name s slot.missing slot.value a.0 h.0.missing_is h.0.value a.1, finish_given fs slots b.0 h.1 b.1)

  filled_given : (key name : Utf8) (n : Node) (s : Form) (slot out : Slot) (o : Option Marked) → IsTame n → IsSlotOf name s slot → fill_slot key n slot o ≡ Ok out → IsSlotOf name s out
  filled_given key name n s slot out None t h e =
      let b = bind_ok (under key (slot.read n)) (λ v. Ok (record slot { value = Some v })) out e in
      subst (IsSlotOf name s) (ok_is (record slot { value = Some b.0 }) out b.2) (record {
        name_is = h.name_is;
        missing_is = h.missing_is;
        each = h.each;
        value = λ v is. subst (λ x. IsGiven sight (contents x) s) (some_is b.0 v is) (h.each n b.0 t (under_ok key (slot.read n) b.0 b.1));
      })
  filled_given key name n s slot out (Some v) t h e = absurd (no_ok e)

  put_given : (u : UnknownFields) (key : Utf8) (n : Node) (fs : Fields) (slots out : Slots) → IsTame n → AreSlotsOf fs slots → put_at u key n slots ≡ Ok out → AreSlotsOf fs out
  put_given u key n no_fields [] out t h e = let b = bind_ok (unknown u key n) (λ _. Ok []) out e in subst (AreSlotsOf no_fields) (ok_is [] out b.2) tt
  put_given u key n no_fields (slot ∷ slots) out t h e = absurd h
  put_given u key n (field name s fs) [] out t h e = absurd h
  put_given u key n (field name s fs) (slot ∷ slots) out t h e = by_case (bytes_eq slot.name key) (λ xs q. put_given u key n fs slots xs t h.1 q) e where
    by_case : (b : Bool) → ((xs : Slots) → put_at u key n slots ≡ Ok xs → AreSlotsOf fs xs) → cond b (result_map (λ x. x ∷ slots) (fill_slot key n slot slot.value)) (result_map (λ xs. slot ∷ xs) (put_at u key n slots)) ≡ Ok out → AreSlotsOf (field name s fs) out
    by_case true later q =
        let m = map_ok (λ x. x ∷ slots) (fill_slot key n slot slot.value) out q in
        subst (AreSlotsOf (field name s fs)) m.2 (filled_given key name n s slot m.0 slot.value t h.0 m.1, h.1)
    by_case false later q = let m = map_ok (λ xs. slot ∷ xs) (put_at u key n slots) out q in subst (AreSlotsOf (field name s fs)) m.2 (h.0, later m.0 m.1)

  fill_given : (u : UnknownFields) (ns : Nodes) (fs : Fields) (slots out : Slots) → AreTame ns → AreSlotsOf fs slots → fill u ns slots ≡ Ok out → AreSlotsOf fs out
  fill_given u ended fs slots out t h e = subst (AreSlotsOf fs) (ok_is slots out e) h
  fill_given u (faulty f) fs slots out t h e = absurd (no_ok e)
  fill_given u (then_node key n ns) fs slots out t h e =
      let b = bind_ok (put_at u key.bytes n slots) (fill u ns) out e in
      fill_given u ns fs b.0 out t.2 (put_given u key.bytes n fs slots b.0 t.1 h b.1) b.2

  places_given : (fs : Fields) (slots : Slots) (i : ℕ) (ns : Nodes) (vs : MarkedFields) → AreTame ns → AreSlotsOf fs slots → reads_places i slots ns ≡ Ok vs → StructGiven fs vs
  places_given no_fields [] i ns vs t h e = subst (StructGiven no_fields) (ok_is no_field_values vs e) tt
  places_given no_fields (slot ∷ slots) i ns vs t h e = absurd h
  places_given (field n s fs) [] i ns vs t h e = absurd h
  places_given (field n s fs) (slot ∷ slots) i ns vs t h e =
      let r = next_read i slot.read (λ v rest. result_map (field_value (made slot.name) v) (reads_places (suc i) slots rest)) ns vs t e in
      let m = map_ok (field_value (made slot.name) r.1) (reads_places (suc i) slots r.2) vs r.6 in
      subst (StructGiven (field n s fs)) m.2 (h.0.name_is, h.0.each r.0 r.1 r.3 r.5, places_given fs slots (suc i) r.2 m.0 r.4 h.1 m.1)

  keyed_given : (u : UnknownFields) (fs : Fields) (slots : Slots) (ns : Nodes) (vs : MarkedFields) → AreTame ns → AreSlotsOf fs slots → (fill u ns slots >>= finish) ≡ Ok vs → StructGiven fs vs
  keyed_given u fs slots ns vs t h e = let b = bind_ok (fill u ns slots) finish vs e in finish_given fs b.0 vs (fill_given u ns fs slots b.0 t h b.1) b.2

  structure_given : (u : UnknownFields) (fs : Fields) (slots : Slots) (n : Node) (vs : MarkedFields) → IsTame n → AreSlotsOf fs slots → read_structure u slots n ≡ Ok vs → StructGiven fs vs
  structure_given dropped fs slots (node.array slice ns) vs t h e = places_given fs slots 0 ns vs t.1 h e
  structure_given denied fs slots (node.array slice ns) vs t h e = absurd (no_ok e)
  structure_given u fs slots (node.document slice ns) vs t h e = keyed_given u fs slots ns vs t.1 h e
  structure_given u fs slots (node.extended x ns) vs t h e = keyed_given u fs slots ns vs t.1 h e
  structure_given u fs slots n vs t h e = absurd (no_ok e)

  -- ---- variants

  -- the value is a variant of the name with contents that are given
  abbrev ContentGiven : Utf8 → Content → Marked → Type 0
  ContentGiven name unit_content v = ⊥
  ContentGiven name (newtype_content s) v = (w : Value) × (contents v ≡ value.newtype_variant name w) × IsGiven sight w s
  ContentGiven name (tuple_content ps) v = (ws : Items) × (contents v ≡ value.tuple_variant name ws) × PartsGiven sight ws ps
  ContentGiven name (struct_content fs) v = (ws : FieldValues) × (contents v ≡ value.structure_variant name ws) × FieldsGiven sight ws fs

  abbrev VariantGiven : Option Content → Utf8 → Marked → Type 0
  VariantGiven o name v = (c : Content) × (o ≡ Some c) × ContentGiven name c v

  chosen_given : (b : Bool) (n name : Utf8) (c : Content) (o : Option Content) (v : Marked) (r q : Reading Marked) → bytes_eq n name ≡ b → (r ≡ Ok v → ContentGiven n c v) → (q ≡ Ok v → VariantGiven o name v) → cond b r q ≡ Ok v → VariantGiven (cond b (Some c) o) name v
  chosen_given true n name c o v r q is first rest e = (c, refl, subst (λ m. ContentGiven m c v) ((bytes_eq-Decides n name).0 is) (first e))
  chosen_given false n name c o v r q is first rest e = rest e

  variant_given : (vs : Variants) (name : Utf8) (c : Content) (v : Marked) → has_zero name ≡ false → content_of vs name ≡ Some c → ContentGiven name c v → IsGiven sight (contents v) (enumeration vs)
  variant_given vs name unit_content v z there f = absurd f
  variant_given vs name (newtype_content s) v z there f = subst (λ x. IsGiven sight x (enumeration vs)) (sym f.1) (s, there, f.2, z)
  variant_given vs name (tuple_content ps) v z there f = subst (λ x. IsGiven sight x (enumeration vs)) (sym f.1) (ps, there, f.2, z)
  variant_given vs name (struct_content fs) v z there f = subst (λ x. IsGiven sight x (enumeration vs)) (sym f.1) (fs, there, f.2, z)

  option_given : (s : Form) (n : Node) (r : Reading Marked) (v : Marked) → ((w : Marked) → r ≡ Ok w → IsGiven sight (contents w) s) → reads_option n r ≡ Ok v → IsGiven sight (contents v) (optional s)
  option_given s node.null r v inner e = subst (λ x. IsGiven sight (contents x) (optional s)) (ok_is value.none v e) tt
  option_given s n r v inner e = let m = map_ok value.some r v e in subst (λ x. IsGiven sight (contents x) (optional s)) m.2 (inner m.0 m.1)

-- ---- at every form

-- Where what is read at the leaves of extended kinds is given there, what is read at every form is given.
module _ (at_extended : ExtendedLeaf → Node → Reading Marked)
    (each_extended : (at : Sight) (k : ExtendedLeaf) (n m : Node) (v : Marked) → tame.IsTame at n → judged n ≡ Ok m → at_extended k n ≡ Ok v → IsGivenExtended k (contents v)) where
  abbrev reads : Form → Node → Reading Marked
  reads = shaped.reads at_extended

  abbrev reads_parts : Parts → ℕ → Nodes → Reading MarkedItems
  reads_parts = shaped.reads_parts at_extended

  abbrev slots_of : Fields → Slots
  slots_of = shaped.slots_of at_extended

  abbrev reads_variant : Variants → Utf8 → Node → Reading Marked
  reads_variant = shaped.reads_variant at_extended

  abbrev reads_content : Utf8 → Content → Node → Reading Marked
  reads_content = shaped.reads_content at_extended

  pub leaf_given : (at : Sight) (l : Bool) (k : LeafKind) (n m : Node) (v : Marked) → tame.IsTame at n → judged n ≡ Ok m → read_leaf_with at_extended l k n ≡ Ok v → LeafGiven at k v
  leaf_given at l anything n m v t j e = any_given at n m v t j e
  leaf_given at l ignored n m v t j e = let r = map_ok (λ _. value.unit) (passes n) v e in subst (LeafGiven at ignored) r.2 tt
  leaf_given at l booleans n m v t j e = let r = map_ok value.boolean (boolean_of n) v e in subst (LeafGiven at booleans) r.2 tt
  leaf_given at l (numbers type) n m v t j e = let b = bind_ok (integer_of n) (read_integer type) v e in number_given at type b.0 (in_range type b.0) v (integer_fits at n b.0 t b.1) refl b.2
  leaf_given at l doubles n m v t j e = let r = map_ok value.double (double_of n) v e in subst (LeafGiven at doubles) r.2 (double_sized at n r.0 t r.1)
  leaf_given at l characters n m v t j e = character_read at n m v j e
  leaf_given at l texts n m v t j e = let r = map_ok value.str (text_of l n) v e in subst (LeafGiven at texts) r.2 (whole_text l n m r.0 j r.1)
  leaf_given at l byte_strings n m v t j e = let r = map_ok value.bytes (bytes_of n) v e in subst (LeafGiven at byte_strings) r.2 tt
  leaf_given at l byte_buffers n m v t j e = let r = map_ok (λ b. value.bytes (made b)) (buffer_of n) v e in subst (LeafGiven at byte_buffers) r.2 tt
  leaf_given at l units n m v t j e = let r = map_ok (λ _. value.unit) (null_of n) v e in subst (LeafGiven at units) r.2 tt
  leaf_given at l (extended_values k) n m v t j e = each_extended at k n m v t j e
  leaf_given at l raw_documents n m v t j e = let r = map_ok value.raw_document (raw_document_of n) v e in subst (LeafGiven at raw_documents) r.2 (document_framed at n r.0 t r.1)
  leaf_given at l raw_arrays n m v t j e = let r = map_ok value.raw_array (raw_array_of n) v e in subst (LeafGiven at raw_arrays) r.2 (array_framed at n r.0 t r.1)
  leaf_given at l raw_values n m v t j e = raw_given at n m v t j e

  entries_so : (at : Sight) (key s : Form) → EachGiven at (reads s) s → (ns : Nodes) (es out : MarkedEntries) → tame.AreTame at ns → EntriesSo at key s es → reads_entries (reads_key key) (reads s) ns es ≡ Ok out → EntriesSo at key s out
  entries_so at key s each ended es out t h e = subst (EntriesSo at key s) (ok_is es out e) h
  entries_so at key s each (faulty f) es out t h e = absurd (no_ok e)
  entries_so at key s each (then_node k n ns) es out t h e =
      let a = bind_ok (reads_key key k) (λ x. under k.bytes (reads s n) >>= λ v. reads_entries (reads_key key) (reads s) ns (put_entry x v es)) out e in
      let b = bind_ok (under k.bytes (reads s n)) (λ v. reads_entries (reads_key key) (reads s) ns (put_entry a.0 v es)) out a.2 in
      let there = put_so (IsGivenKey at key) (λ v. IsGiven at v s) a.0 b.0 es (key_given at key k a.0 t.0 t.3 a.1) (each n b.0 t.1 (under_ok k.bytes (reads s n) b.0 b.1)) h.1 in
      entries_so at key s each ns (put_entry a.0 b.0 es) out t.2 (put_apart a.0 b.0 es h.0, there) b.2

  enum_given : (at : Sight) (vs : Variants) → ((key : Utf8) (n : Node) (v : Marked) → tame.IsTame at n → reads_variant vs key n ≡ Ok v → VariantGiven at (content_of vs key) key v) → (n : Node) (v : Marked) → tame.IsTame at n → read_enum (reads_unit vs) (reads_variant vs) n ≡ Ok v → IsGiven at (contents v) (enumeration vs)
  enum_given at vs each (node.string p) v t e = unit_given at vs p.bytes (content_of vs p.bytes) v refl e
  enum_given at vs each (node.document slice (then_node key n ns)) v t e = let g = each key.bytes n v t.1.1 e in variant_given at vs key.bytes g.0 v t.1.0.1 g.1 g.2
  enum_given at vs each (node.extended x (then_node key n ns)) v t e = let g = each key.bytes n v t.1.1 e in variant_given at vs key.bytes g.0 v t.1.0.1 g.1 g.2
  enum_given at vs each n v t e = absurd (no_ok e)

  mutual
    pub reads_given : (at : Sight) (s : Form) (n : Node) (v : Marked) → tame.IsTame at n → reads s n ≡ Ok v → IsGiven at (contents v) s
    reads_given at (leaf l) n v t e =
        let b = bind_ok (judged n) (read_leaf_with at_extended (borrows l) (leaf_kind l)) v e in
        let there = after_judged n (read_leaf_with at_extended (borrows l) (leaf_kind l)) v e in
        leaf_given_at at l (contents v) (leaf_given at (borrows l) (leaf_kind l) n b.0 v t b.1 there, leaf_borrowed at at_extended (borrows l) (leaf_kind l) n v t there)
    reads_given at (optional s) n v t e = option_given at s n (reads s n) v (λ w h. reads_given at s n w t h) e
    reads_given at (lossy s) n v t e = lossy_given at (contents v) s (reads_given (marked at) s (mended n) v (mended_tame at n t) e)
    reads_given at (human_readable s) n v t e =
        let m = map_ok (value.newtype (made readable_newtype)) (reads s n) v e in subst (λ x. IsGiven at (contents x) (human_readable s)) m.2 (refl, reads_given at s n m.0 t m.1)
    reads_given at (by_mode readable compact) n v t e = expected_given at (contents v) readable compact (reads_given at compact n v t e)
    reads_given at (reference name) n v t e = absurd (judged_refused n (unknown_reference name) v e)
    reads_given at (definitions h s) n v t e = body_given at (contents v) h s (reads_given at s n v t e)
    reads_given at (newtype name s) n v t e = let m = map_ok (value.newtype (made name)) (reads s n) v e in subst (λ x. IsGiven at (contents x) (newtype name s)) m.2 (refl, reads_given at s n m.0 t m.1)
    reads_given at (unit_structure name) n v t e =
        let d = bind_ok (judged n >>= null_of) (λ _. Ok (value.unit_structure (made name))) v e in
        subst (λ x. IsGiven at (contents x) (unit_structure name)) (ok_is (value.unit_structure (made name)) v d.2) refl
    reads_given at (sequence s) n v t e =
        let r = array_read at value.sequence (reads_items (reads s) 0) n v t e in
        subst (λ x. IsGiven at (contents x) (sequence s)) r.4 (items_given at (reads s) s (λ m w q h. reads_given at s m w q h) 0 r.0 r.1 r.2 r.3)
    reads_given at (map key s) n v t e =
        let entries = λ (ns : Nodes). reads_entries (reads_key key) (reads s) ns no_entries in
        let d = bind_ok (judged n >>= document_of) (λ ns. result_map value.map (entries ns)) v e in
        let m = map_ok value.map (entries d.0) v d.2 in
        let tame = document_tame at n d.0 t (after_judged n document_of d.0 d.1) in
        let g = entries_so at key s (λ k w q h. reads_given at s k w q h) d.0 no_entries m.0 tame (tt, tt) m.1 in
        subst (λ x. IsGiven at (contents x) (map key s)) m.2 (g.0, entries_given at key s (entry_contents m.0) g.1)
    reads_given at (tuple ps) n v t e =
        let r = array_read at value.tuple (reads_parts ps 0) n v t e in
        subst (λ x. IsGiven at (contents x) (tuple ps)) r.4 (reads_parts_given at ps 0 r.0 r.1 r.2 r.3)
    reads_given at (tuple_structure name ps) n v t e =
        let r = array_read at (value.tuple_structure (made name)) (reads_parts ps 0) n v t e in
        subst (λ x. IsGiven at (contents x) (tuple_structure name ps)) r.4 (refl, reads_parts_given at ps 0 r.0 r.1 r.2 r.3)
    reads_given at (enumeration vs) n v t e = enum_given at vs (λ key m w q h. reads_variant_given at vs key m w q h) n v t (after_judged n (read_enum (reads_unit vs) (reads_variant vs)) v e)
    reads_given at (structure u name fs) n v t e =
        let read = read_structure u (slots_of fs) in
        let m = map_ok (value.structure (made name)) (read n) v (after_judged n (λ k. result_map (value.structure (made name)) (read k)) v e) in
        subst (λ x. IsGiven at (contents x) (structure u name fs)) m.2 (refl, structure_given at u fs (slots_of fs) n m.0 t (slots_given at fs) m.1)

    slots_given : (at : Sight) (fs : Fields) → AreSlotsOf at fs (slots_of fs)
    slots_given at no_fields = tt
    slots_given at (field name s fs) = (record { name_is = refl; missing_is = refl; each = λ n v t e. reads_given at s n v t e; value = λ v is. absurd cc }, slots_given at fs)

    reads_parts_given : (at : Sight) (ps : Parts) (i : ℕ) (ns : Nodes) (vs : MarkedItems) → tame.AreTame at ns → reads_parts ps i ns ≡ Ok vs → PartsGiven at (item_contents vs) ps
    reads_parts_given at no_parts i ns vs t e = subst (λ x. PartsGiven at (item_contents x) no_parts) (ok_is no_items vs e) tt
    reads_parts_given at (part s ps) i ns vs t e =
        let r = next_read at i (reads s) (λ v rest. result_map (item v) (reads_parts ps (suc i) rest)) ns vs t e in
        let m = map_ok (item r.1) (reads_parts ps (suc i) r.2) vs r.6 in
        subst (λ x. PartsGiven at (item_contents x) (part s ps)) m.2 (reads_given at s r.0 r.1 r.3 r.5, reads_parts_given at ps (suc i) r.2 m.0 r.4 m.1)

    reads_variant_given : (at : Sight) (vs : Variants) (key : Utf8) (n : Node) (v : Marked) → tame.IsTame at n → reads_variant vs key n ≡ Ok v → VariantGiven at (content_of vs key) key v
    reads_variant_given at no_variants key n v t e = absurd (no_ok e)
    reads_variant_given at (variant name c vs) key n v t e =
        chosen_given at (bytes_eq name key) name key c (content_of vs key) v (reads_content name c n) (reads_variant vs key n) refl (λ q. reads_content_given at name c n v t q) (λ q. reads_variant_given at vs key n v t q) e

    reads_content_given : (at : Sight) (name : Utf8) (c : Content) (n : Node) (v : Marked) → tame.IsTame at n → reads_content name c n ≡ Ok v → ContentGiven at name c v
    reads_content_given at name unit_content n v t e = absurd (no_ok e)
    reads_content_given at name (newtype_content s) n v t e =
        let m = map_ok (value.newtype_variant (made name)) (reads s n) v (under_ok name (result_map (value.newtype_variant (made name)) (reads s n)) v e) in
        (contents m.0, ap contents (sym m.2), reads_given at s n m.0 t m.1)
    reads_content_given at name (tuple_content ps) n v t e =
        let r = array_read at (value.tuple_variant (made name)) (reads_parts ps 0) n v t (under_ok name (judged n >>= array_of >>= λ ns. result_map (value.tuple_variant (made name)) (reads_parts ps 0 ns)) v e) in
        (item_contents r.1, ap contents (sym r.4), reads_parts_given at ps 0 r.0 r.1 r.2 r.3)
    reads_content_given at name (struct_content fs) n v t e =
        let read = read_structure dropped (slots_of fs) in
        let m = map_ok (value.structure_variant (made name)) (read n) v (after_judged n (λ k. result_map (value.structure_variant (made name)) (read k)) v (under_ok name (judged n >>= λ k. result_map (value.structure_variant (made name)) (read k)) v e)) in
        (field_contents m.0, ap contents (sym m.2), structure_given at dropped fs (slots_of fs) n m.0 t (slots_given at fs) m.1)
