-- What is given at a shape and spelled as a tree is read from the tree again, as what is spelled as the same tree.
use Rattle.std.proofs.Common.{◌≡◌, ◌^◌, ◌<◌, length, ℕ, ℤ, pos, negsuc, arith, zero, suc, Bool, true, false, cond, Option, Some, Ok, Err, refl, ap, sym, subst, ◌∙◌}
use Rattle.std.specs.Char.{IsScalar}
use Rattle.std.proofs.lemmas.Int.{ints}
use Rattle.std.specs.Int.{w32, w64}
use Rattle.std.specs.Prelude.{FitsSigned, int_lt, option_map, option_and_then, encode_utf8}
use Rattle.std.specs.Str.{bytes_eq, is_utf8}
use Rattle.bson_base.specs.Pairs.{lookup}
use Rattle.bson_kinds.specs.Text.{Utf8, has_zero}
use Rattle.bson_kinds.specs.Outcome.{◌>>=◌, result_map}
use Rattle.bson_base.specs.Sound.{Lacks}
use Rattle.bson_base.specs.Tree as tree
use Rattle.bson_base.specs.Tree.{Tree, string, document, array, null, int32, int64, Pairs, no_pairs, pair, Trees, no_trees, enc, elements, array_elements}
use Rattle.bson_kinds.specs.declared.element_type.ElementType.{ElementType}
use Rattle.bson_kinds.specs.declared.element_type.ElementType.TheVariants.{Int32}
use Rattle.bson_base.proofs.Lengths.{head_size, tail_size, elements_size, first_size, later_size, array_elements_size}
use Rattle.bson_kinds.proofs.Outcomes.{some_is, ok_is, map_ok, bind_ok}
use Rattle.bson_rawdoc.specs.Node as node
use Rattle.bson_rawdoc.specs.Node.{Sight, piece, Node, Nodes, tree_node, pair_nodes, tree_nodes}
use Rattle.bson_kinds.specs.Piece.{Piece, made}
use Rattle.bson_shape.proofs.TextStates.{text-encode}
use Rattle.bson_kinds.specs.Reserved.{reserved_kind}
use Rattle.bson_shape.specs.Form.{UnknownFields, dropped, Form, leaf, optional, lossy, human_readable, by_mode, sequence, newtype, unit_structure, map, tuple, tuple_structure, structure, enumeration, definitions, Fields, no_fields, field, Parts, no_parts, part, Content, unit_content, newtype_content, tuple_content, struct_content, Variants, no_variants, variant}
use Rattle.bson_shape.specs.Makers.{is_reserved_newtype}
use Rattle.bson_values.specs.Value as value
use Rattle.bson_values.specs.Value.{IntegerType, i8, i16, i32, i64, u8, u16, u32, u64, greatest, in_range, written_as, Value, Items, no_items, item, Entries, no_entries, entry, FieldValues, no_field_values, field_value}
use Rattle.bson_values.specs.Marked.{Marked, MarkedItems, MarkedEntries, MarkedFields, contents, item_contents, entry_contents, field_contents}
use Rattle.bson_values.specs.Cause.{out_of_range, not_borrowed}
use Rattle.bson_values.specs.Refusal.{at_index, here, unsigned_exceeds, under, under_index}
use Rattle.bson_laws.specs.Leaves.{LeafKind, anything, ignored, booleans, numbers, doubles, characters, texts, byte_strings, byte_buffers, units, extended_values, raw_documents, raw_arrays, raw_values, leaf_kind}
use Rattle.bson_laws.specs.Means.{key_text}
use Rattle.bson_laws.specs.Variants.{content_of}
use Rattle.bson_laws.specs.Views.{one_character}
use Rattle.bson_laws.specs.Judged.{Reading, refused, faultless, judged}
use Rattle.bson_laws.specs.Taken.{owned_under_mark, array_of, read_integer, read_character}
use Rattle.bson_laws.specs.ReadsLeaf.{borrows, put_entry, read_any, any_items, any_entries, no_extended, read_leaf_with}
use Rattle.bson_laws.specs.ReadsExtended.{read_extended}
use Rattle.bson_laws.specs.Containers.{reads_items, reads_entries, unit_of, reads_key, reads_unit, read_enum}
use Rattle.bson_laws.specs.Slots.{read_structure}
use Rattle.bson_laws.specs.Reads.{read_leaf, slots_of, reads, reads_parts, reads_variant, reads_content}
use Rattle.bson_laws.specs.Every.{EveryField, EveryPart}
use Rattle.bson_laws.specs.Settled.{IsSettled, settled_rows}
use Rattle.bson_laws.specs.Spell.{Writing, enclosed_at, variant_at, named, spell_number, spell_key, spell, spell_items, spell_entries, spell_fields}
use Rattle.bson_laws.proofs.TreesAgain.{extended_comes}
use Rattle.bson_laws.proofs.ShapeForms.{IsShape, AreShapes, AreParts, AreVariants, IsContent}
use Rattle.bson_laws.proofs.Coded.{IsName, IsCoded, ArePairsCoded, AreTreesCoded}
use Rattle.bson_laws.proofs.Entries.{joined, joined_contents, joined_none, joined_one, IsNew, put_last, new_joined}
use Rattle.bson_laws.specs.declared.origin.Origin.TheVariants as origins
use Rattle.bson_laws.proofs.Filled.{Distinct, ArePassed, seen_of, seen_at, seen_fields, fields_seen}
use Rattle.bson_laws.proofs.Fitted.{Unnamed, unlike_swap, bytes_eq-refl, bytes_same, chosen_t, chosen_f, one_again}
use Rattle.bson_laws.proofs.Given.{Differs, AreApart, IsGivenAny, AreGivenItems, AreGivenEntries, IsGivenLeaf, IsGivenLeafKey, IsGivenKey, IsGiven, ItemsGiven, PartsGiven, EntriesGiven, FieldsGiven, given_leaf, given_lossy, given_body}
use Rattle.bson_laws.proofs.Judged.{text_whole, by_null}
use Rattle.bson_laws.proofs.RawAgain.{document_comes, array_comes, raw_comes}
use Rattle.bson_laws.proofs.ReadBack.{distinct_from}
use Rattle.bson_laws.proofs.Borrowed.{LeafBorrowed, marked, borrowed_text, owned_same}
use Rattle.bson_laws.proofs.Mended.{tree_mended}
use Rattle.bson_laws.proofs.Settled.{content_settled}
use Rattle.bson_laws.proofs.Tame.{judged_then}
use Rattle.bson_laws.proofs.Sizes.{inside_ok, under_ok, named_ok, spell_key_ok, wide_is, binary_is}
use Rattle.bson_laws.proofs.Free.{free_spelled, free_struct}
use Rattle.bson_kinds.proofs.Apart.{no_ok, no_some, true_no}

-- what is read from the tree is spelled as the tree
abbrev pub Comes : (at : Sight) → Form → ℕ → Tree → Type 0
Comes at s levels t = (m : Marked) × (reads s (tree_node at t levels) ≡ Ok m) × (spell (contents m) levels ≡ Ok t) × IsCoded t

-- ---- lengths

-- an int32 can announce so many bytes
abbrev pub IsShort : Tree → Type 0
IsShort t = length (enc t) < 2 ^ 31

abbrev AreShort : ℕ → Trees → Type 0
AreShort i ts = length (array_elements i ts) < 2 ^ 31

abbrev ArePairsShort : Pairs → Type 0
ArePairsShort ps = length (elements ps) < 2 ^ 31

-- ---- containers

-- a container that is spelled has a level, and its parts are spelled one level further in
within : {A : Type 0} (P : ℕ → Tree → Type 0) (container : A → Tree) (levels : ℕ) (parts : ℕ → Writing A) (t : Tree) → enclosed_at container levels parts ≡ Ok t → ((n : ℕ) (x : A) → parts n ≡ Ok x → P (suc n) (container x)) → P levels t
within P container zero parts t e f = absurd cc
within P container (suc n) parts t e f = let m = map_ok container (parts n) t e in subst (P (suc n)) m.2 (f n m.0 m.1)

-- ---- values without a shape

abbrev reads_any : Node → Reading Marked
reads_any n = judged n >>= λ _. read_any n

-- it is read from the tree without a shape
abbrev AnyComes : (at : Sight) → Value → ℕ → Tree → Type 0
AnyComes at v levels t = (m : Marked) × (reads_any (tree_node at t levels) ≡ Ok m) × (contents m ≡ v) × IsCoded t

-- no entry that is to come has the key of one that is there
abbrev AreNewTo : Entries → Entries → Type 0
AreNewTo no_entries ds = Unit {0}
AreNewTo (entry k v es) ds = IsNew k ds × AreNewTo es ds

new_to_none : (es : Entries) → AreNewTo es no_entries
new_to_none no_entries = tt
new_to_none (entry k v es) = (tt, new_to_none es)

new_to_more : (es ds : Entries) (k v : Value) → Differs k es → AreNewTo es ds → AreNewTo es (joined ds (entry k v no_entries))
new_to_more no_entries ds k v d n = tt
new_to_more (entry l w es) ds k v d n = (new_joined l k v ds d.0 n.0, new_to_more es ds k v d.1 n.1)

-- the same, where the entry is marked
new_to_marked : (es : Entries) (done : MarkedEntries) (mk m : Marked) (k v : Value) → contents mk ≡ k → Differs k es → AreNewTo es (entry_contents done) → AreNewTo es (entry_contents (joined done (entry mk m no_entries)))
new_to_marked es done mk m k v is d n =
    subst (AreNewTo es) (sym (joined_contents done (entry mk m no_entries))) (new_to_more es (entry_contents done) (contents mk) (contents m) (subst (λ x. Differs x es) (sym is) d) n)

text_comes : (at : Sight) (x : Utf8) (levels : ℕ) → is_utf8 x ≡ true → AnyComes at (value.str x) levels (string x)
text_comes at x levels h = (value.str (piece at.texts x), ap (λ o. faultless o (node.string (piece at.texts x)) >>= λ _. read_any (node.string (piece at.texts x))) (text_whole at x h), refl, h)

mutual
  any_comes : (at : Sight) (v : Value) (levels : ℕ) (t : Tree) → IsGivenAny v → spell v levels ≡ Ok t → AnyComes at v levels t
  any_comes at (value.boolean b) levels t g e = subst (AnyComes at (value.boolean b) levels) (ok_is (tree.boolean b) t e) (value.boolean b, refl, refl, tt)
  any_comes at (value.integer i32 n) levels t g e = subst (AnyComes at (value.integer i32 n) levels) (ok_is (int32 n) t e) (value.integer i32 n, refl, refl, g)
  any_comes at (value.integer i64 n) levels t g e = subst (AnyComes at (value.integer i64 n) levels) (wide_is _ _ n t e) (value.integer i64 n, refl, refl, g)
  any_comes at (value.double bits) levels t g e = subst (AnyComes at (value.double bits) levels) (ok_is (tree.double bits) t e) (value.double bits, refl, refl, g)
  any_comes at (value.str x) levels t g e = subst (AnyComes at (value.str x) levels) (ok_is (string x) t e) (text_comes at x levels g)
  any_comes at (value.bytes bs) levels t g e =
      subst (AnyComes at (value.bytes bs) levels) (binary_is _ _ 0 bs t e)
      (value.bytes (owned_under_mark at.under_mark (piece at.bytes bs)), refl, ap value.bytes (owned_same at.under_mark (piece at.bytes bs)), tt)
  any_comes at value.unit levels t g e = subst (AnyComes at value.unit levels) (ok_is null t e) (value.unit, refl, refl, tt)
  any_comes at (value.sequence vs) levels t g e =
      within (AnyComes at (value.sequence vs)) array levels (spell_items 0 vs) t e
      (λ n ts q. let h = any_items_come at vs 0 n ts g q in (value.sequence h.0, ap (result_map value.sequence) h.1, ap value.sequence h.2, h.3))
  any_comes at (value.map es) levels t g e =
      within (AnyComes at (value.map es)) document levels (spell_entries es) t e
      (λ n ps q. let h = any_entries_come at es n ps no_entries g.0 g.1 (new_to_none es) q in (value.map h.0, ap (result_map value.map) h.1, ap value.map h.2, h.3))
  any_comes at v levels t g e = absurd g

  any_items_come : (at : Sight) (vs : Items) (i n : ℕ) (ts : Trees) → AreGivenItems vs → spell_items i vs n ≡ Ok ts → (ms : MarkedItems) × (any_items i (tree_nodes at i ts n) ≡ Ok ms) × (item_contents ms ≡ vs) × AreTreesCoded ts
  any_items_come at no_items i n ts g e = subst (λ x. (ms : MarkedItems) × (any_items i (tree_nodes at i x n) ≡ Ok ms) × (item_contents ms ≡ no_items) × AreTreesCoded x) (ok_is no_trees ts e) (no_items, refl, refl, tt)
  any_items_come at (item v vs) i n ts g e =
      let a = bind_ok (under_index i (spell v n)) (λ t. spell_items (suc i) vs n >>= λ us. Ok (tree.tree t us)) ts e in
      let b = bind_ok (spell_items (suc i) vs n) (λ us. Ok (tree.tree a.0 us)) ts a.2 in
      let first = any_comes at v n a.0 g.0 (inside_ok (at_index i) (spell v n) a.0 a.1) in
      let rest = any_items_come at vs (suc i) n b.0 g.1 b.1 in
      subst (λ x. (ms : MarkedItems) × (any_items i (tree_nodes at i x n) ≡ Ok ms) × (item_contents ms ≡ item v vs) × AreTreesCoded x) (ok_is (tree.tree a.0 b.0) ts b.2)
      (item first.0 rest.0, ap (λ r. under_index i r >>= λ w. result_map (item w) (any_items (suc i) (tree_nodes at (suc i) b.0 n))) first.1 ∙ ap (result_map (item first.0)) rest.1, (λ j. item (first.2 j) (rest.2 j)), (first.3, rest.3))

  any_entries_come : (at : Sight) (es : Entries) (n : ℕ) (ps : Pairs) (done : MarkedEntries) → AreApart es → AreGivenEntries es → AreNewTo es (entry_contents done) → spell_entries es n ≡ Ok ps
      → (out : MarkedEntries) × (any_entries (pair_nodes at ps n) done ≡ Ok (joined done out)) × (entry_contents out ≡ es) × ArePairsCoded ps
  any_entries_come at no_entries n ps done apart g new e =
      subst (λ x. (out : MarkedEntries) × (any_entries (pair_nodes at x n) done ≡ Ok (joined done out)) × (entry_contents out ≡ no_entries) × ArePairsCoded x) (ok_is no_pairs ps e) (no_entries, ap Ok (sym (joined_none done)), refl, tt)
  any_entries_come at (entry (value.str x) v es) n ps done apart g new e =
      let a = bind_ok (spell_key (value.str x)) (λ key. under key (spell v n) >>= λ t. spell_entries es n >>= λ qs. Ok (pair key t qs)) ps e in
      let b = bind_ok (under a.0 (spell v n)) (λ t. spell_entries es n >>= λ qs. Ok (pair a.0 t qs)) ps a.2 in
      let c = bind_ok (spell_entries es n) (λ qs. Ok (pair a.0 b.0 qs)) ps b.2 in
      let is : x ≡ a.0 = some_is x a.0 (spell_key_ok (value.str x) a.0 a.1).0 in
      let first = any_comes at v n b.0 g.1 (under_ok a.0 (spell v n) b.0 b.1) in
      let mk = value.str (piece at.texts a.0) in
      let rest = any_entries_come at es n c.0 (joined done (entry mk first.0 no_entries)) apart.1 g.2 (new_to_marked es done mk first.0 (value.str x) v (ap value.str (sym is)) apart.0 new.1) c.1 in
      subst (λ y. (out : MarkedEntries) × (any_entries (pair_nodes at y n) done ≡ Ok (joined done out)) × (entry_contents out ≡ entry (value.str x) v es) × ArePairsCoded y) (ok_is (pair a.0 b.0 c.0) ps c.2) (
        entry mk first.0 rest.0,
        ap (λ r. under a.0 r >>= λ w. any_entries (pair_nodes at c.0 n) (put_entry mk w done)) first.1
            ∙ ap (any_entries (pair_nodes at c.0 n)) (put_last mk first.0 done (subst (λ y. IsNew (value.str y) (entry_contents done)) is new.0))
            ∙ rest.1
            ∙ ap Ok (joined_one done mk first.0 rest.0),
        (λ j. entry (value.str (sym is j)) (first.2 j) (rest.2 j)),
        ((ap is_utf8 (sym is) ∙ g.0.0, (spell_key_ok (value.str x) a.0 a.1).1), first.3, rest.3),
      )
  any_entries_come at (entry k v es) n ps done apart g new e = absurd g.0

-- ---- leaves

-- what is spelled at the leaf is read there
abbrev LeafComes : (at : Sight) → Bool → LeafKind → ℕ → Tree → Type 0
LeafComes at l k levels t = (m : Marked) × ((judged (tree_node at t levels) >>= read_leaf l k) ≡ Ok m) × (spell (contents m) levels ≡ Ok t) × IsCoded t

number_wide : (k : ElementType) (n : ℤ) (t : Tree) (P : Tree → Type 0) → P (int32 n) → P (int64 n) → spell_number k n ≡ Ok t → P t
number_wide Int32 n t P p q e = subst P (ok_is (int32 n) t e) p
number_wide k n t P p q e = subst P (wide_is _ _ n t e) q

in_range_read : (type : IntegerType) (n : ℤ) → in_range type n ≡ true → read_integer type n ≡ Ok (value.integer type n)
in_range_read type n h = ap (λ b. cond b (Ok (value.integer type n)) (refused (out_of_range n))) h

short_coded : (n : ℤ) (t : Tree) → FitsSigned w32 n → spell_number Int32 n ≡ Ok t → IsCoded t
short_coded n t f e = subst IsCoded (ok_is (int32 n) t e) f

fits_i8 : (n : ℤ) → in_range i8 n ≡ true → FitsSigned w32 n
fits_i8 (pos n) h = grind (arith, ints, h)
fits_i8 (negsuc n) h = grind (arith, ints, h)

fits_i16 : (n : ℤ) → in_range i16 n ≡ true → FitsSigned w32 n
fits_i16 (pos n) h = grind (arith, ints, h)
fits_i16 (negsuc n) h = grind (arith, ints, h)

fits_i32 : (n : ℤ) → in_range i32 n ≡ true → FitsSigned w32 n
fits_i32 (pos n) h = grind (arith, ints, h)
fits_i32 (negsuc n) h = grind (arith, ints, h)

fits_u8 : (n : ℤ) → in_range u8 n ≡ true → FitsSigned w32 n
fits_u8 (pos n) h = grind (arith, ints, h)
fits_u8 (negsuc n) h = grind (arith, ints, h)

fits_u16 : (n : ℤ) → in_range u16 n ≡ true → FitsSigned w32 n
fits_u16 (pos n) h = grind (arith, ints, h)
fits_u16 (negsuc n) h = grind (arith, ints, h)

wide_coded : (b : Bool) (n : ℤ) (t : Tree) → FitsSigned w64 n → cond b (Err (here (unsigned_exceeds n))) (Ok (int64 n)) ≡ Ok t → IsCoded t
wide_coded true n t f e = absurd (no_ok e)
wide_coded false n t f e = subst IsCoded (ok_is (int64 n) t e) f

number_coded : (type : IntegerType) (n : ℤ) (t : Tree) → in_range type n ≡ true → FitsSigned w64 n → spell_number (written_as type) n ≡ Ok t → IsCoded t
number_coded i8 n t h f e = short_coded n t (fits_i8 n h) e
number_coded i16 n t h f e = short_coded n t (fits_i16 n h) e
number_coded i32 n t h f e = short_coded n t (fits_i32 n h) e
number_coded u8 n t h f e = short_coded n t (fits_u8 n h) e
number_coded u16 n t h f e = short_coded n t (fits_u16 n h) e
number_coded type n t h f e = wide_coded (int_lt (greatest i64) n) n t f e

number_comes : (at : Sight) (l : Bool) (type : IntegerType) (n : ℤ) (levels : ℕ) (t : Tree) → in_range type n ≡ true → FitsSigned w64 n → spell_number (written_as type) n ≡ Ok t → LeafComes at l (numbers type) levels t
number_comes at l type n levels t h f e =
    number_wide (written_as type) n t (λ u. spell_number (written_as type) n ≡ Ok u → LeafComes at l (numbers type) levels u)
    (λ q. (value.integer type n, in_range_read type n h, q, number_coded type n (int32 n) h f q)) (λ q. (value.integer type n, in_range_read type n h, q, number_coded type n (int64 n) h f q)) e e

character_whole : (c : ℕ) → IsScalar c → is_utf8 (encode_utf8 c) ≡ true
character_whole c h = text-encode c h

leaf_comes : (at : Sight) (l : Bool) (k : LeafKind) (v : Value) (levels : ℕ) (t : Tree) → IsShort t → LeafBorrowed at l k → IsGivenLeaf k v → spell v levels ≡ Ok t → LeafComes at l k levels t
leaf_comes at l anything v levels t small borrows_input g e =
    let h = any_comes at v levels t g e in (h.0, judged_then (tree_node at t levels) (read_any) h.0 h.1, ap (λ x. spell x levels) h.2 ∙ e, h.3)
leaf_comes at l ignored value.unit levels t small borrows_input g e = subst (LeafComes at l ignored levels) (ok_is null t e) (value.unit, refl, refl, tt)
leaf_comes at l booleans (value.boolean b) levels t small borrows_input g e = subst (LeafComes at l booleans levels) (ok_is (tree.boolean b) t e) (value.boolean b, refl, refl, tt)
leaf_comes at l (numbers type) (value.integer other n) levels t small borrows_input g e = number_comes at l type n levels t g.1 g.2 (ap (λ x. spell_number (written_as x) n) (sym g.0) ∙ e)
leaf_comes at l doubles (value.double bits) levels t small borrows_input g e = subst (LeafComes at l doubles levels) (ok_is (tree.double bits) t e) (value.double bits, refl, refl, g)
leaf_comes at l characters (value.character c) levels t small borrows_input g e =
    subst (LeafComes at l characters levels) (ok_is (string (encode_utf8 c)) t e) (
      value.character c,
      ap (λ o. faultless o (node.string (piece at.texts (encode_utf8 c))) >>= read_leaf l characters) (text_whole at (encode_utf8 c) (character_whole c g)) ∙ ap (λ cs. read_character (one_character cs)) (one_again c g),
      refl,
      character_whole c g,
    )
leaf_comes at l texts (value.str x) levels t small borrows_input g e =
    let h = borrowed_text at l x (value.str x) borrows_input refl in
    subst (LeafComes at l texts levels) (ok_is (string x) t e)
    (h.0, ap (λ o. faultless o (node.string (piece at.texts x)) >>= read_leaf l texts) (text_whole at x g) ∙ h.1, ap (λ w. spell w levels) h.2, g)
leaf_comes at l byte_strings (value.bytes bs) levels t small borrows_input g e =
    subst (λ u. spell (value.bytes bs) levels ≡ Ok u → LeafComes at l byte_strings levels u) (binary_is _ _ 0 bs t e) (λ q. (value.bytes (piece at.bytes bs), ap (λ b. result_map value.bytes (cond b (Ok (piece at.bytes bs)) (refused not_borrowed))) borrows_input, q, tt)) e
leaf_comes at l byte_buffers (value.bytes bs) levels t small borrows_input g e =
    subst (λ u. spell (value.bytes bs) levels ≡ Ok u → LeafComes at l byte_buffers levels u) (binary_is _ _ 0 bs t e) (λ q. (value.bytes (made bs), refl, q, tt)) e
leaf_comes at l units value.unit levels t small borrows_input g e = subst (LeafComes at l units levels) (ok_is null t e) (value.unit, refl, refl, tt)
leaf_comes at l (extended_values k) v levels t small borrows_input g e =
    let h = extended_comes at k v levels t g e in (h.0, judged_then (tree_node at t levels) (read_extended k) h.0 h.1, h.2, h.3)
leaf_comes at l raw_documents (value.raw_document b) levels t small borrows_input g e = document_comes at b levels t g e
leaf_comes at l raw_arrays (value.raw_array b) levels t small borrows_input g e = array_comes at b levels t g e
leaf_comes at l raw_values v levels t small borrows_input g e = raw_comes at v levels t small g e
leaf_comes at l k v levels t small borrows_input g e = absurd g

-- ---- keys

-- the key is read from its text
abbrev KeyComes : (at : Sight) → (Piece → Reading Marked) → Value → Utf8 → Type 0
KeyComes at read k x = (m : Marked) × (read (piece at.texts x) ≡ Ok m) × (contents m ≡ k)

leaf_key_comes : (at : Sight) (l : Bool) (k : LeafKind) (v : Value) (x : Utf8) → LeafBorrowed at l k → IsGivenLeafKey k v → key_text v ≡ Some x → KeyComes at (λ key. read_leaf_with no_extended l k (node.string key)) v x
leaf_key_comes at l anything (value.str y) x borrows_input g e = (value.str (piece at.texts x), refl, ap value.str (sym (some_is y x e)))
leaf_key_comes at l raw_values (value.str y) x borrows_input g e = (value.str (piece at.texts x), refl, ap value.str (sym (some_is y x e)))
leaf_key_comes at l texts (value.str y) x borrows_input g e = let h = borrowed_text at l x (value.str x) borrows_input refl in (h.0, h.1, h.2 ∙ ap value.str (sym (some_is y x e)))
leaf_key_comes at l characters (value.character c) x borrows_input g e = absurd (no_some e)
leaf_key_comes at l byte_strings (value.bytes bs) x borrows_input g e = absurd (no_some e)
leaf_key_comes at l byte_buffers (value.bytes bs) x borrows_input g e = absurd (no_some e)
leaf_key_comes at l ignored value.unit x borrows_input g e = absurd (no_some e)
leaf_key_comes at l k v x borrows_input g e = absurd g

key_comes : (at : Sight) (s : Form) (k : Value) (x : Utf8) → IsGivenKey at s k → key_text k ≡ Some x → KeyComes at (reads_key s) k x
key_comes at (leaf l) k x g e = leaf_key_comes at (borrows l) (leaf_kind l) k x g.1 g.0 e
key_comes at (enumeration vs) (value.unit_variant name) x g e =
    let is = some_is name x e in
    (value.unit_variant (made x), ap (unit_of x) (ap (content_of vs) (sym is) ∙ g.0), ap value.unit_variant (sym is))
key_comes at (enumeration vs) k x g e = absurd g
key_comes at s k x g e = absurd g

-- ---- variants

named_content : (b : Bool) (n name : Utf8) (d c : Content) (o : Option Content) (u : Node) (q : Reading Marked) → bytes_eq n name ≡ b → cond b (Some d) o ≡ Some c
    → (o ≡ Some c → q ≡ reads_content name c u) → cond b (reads_content n d u) q ≡ reads_content name c u
named_content true n name d c o u q is e h = λ i. reads_content (bytes_same n name is i) (some_is d c e i) u
named_content false n name d c o u q is e h = h e

-- the contents of the variant that has a name
variant_read : (vs : Variants) (name : Utf8) (c : Content) (u : Node) → content_of vs name ≡ Some c → reads_variant vs name u ≡ reads_content name c u
variant_read no_variants name c u e = absurd (no_some e)
variant_read (variant n d vs) name c u e = named_content (bytes_eq n name) n name d c (content_of vs name) u (reads_variant vs name u) refl e (variant_read vs name c u)

chosen_shape : (b : Bool) (n name : Utf8) (d c : Content) (o : Option Content) → bytes_eq n name ≡ b → is_utf8 n ≡ true → IsContent d → cond b (Some d) o ≡ Some c → (o ≡ Some c → (is_utf8 name ≡ true) × IsContent c) → (is_utf8 name ≡ true) × IsContent c
chosen_shape true n name d c o is u p e h = (ap is_utf8 (sym (bytes_same n name is)) ∙ u, subst IsContent (some_is d c e) p)
chosen_shape false n name d c o is u p e h = h e

variant_shape : (vs : Variants) (name : Utf8) (c : Content) → AreVariants vs → content_of vs name ≡ Some c → (is_utf8 name ≡ true) × IsContent c
variant_shape no_variants name c p e = absurd (no_some e)
variant_shape (variant n d vs) name c p e = chosen_shape (bytes_eq n name) n name d c (content_of vs name) refl p.0 p.1 e (variant_shape vs name c p.2)

-- what is read for a variant is spelled as a document of one pair
abbrev VariantComes : (at : Sight) → Variants → Utf8 → ℕ → Tree → Type 0
VariantComes at vs name n u = (m : Marked) × (reads_variant vs name (tree_node at u n) ≡ Ok m) × (spell (contents m) (suc n) ≡ variant_at name (suc n) (λ _. Ok u)) × IsCoded u

abbrev one_pair : Utf8 → Tree → Writing Pairs
one_pair name u = Ok (pair name u no_pairs)

variant_comes : (at : Sight) (vs : Variants) (name : Utf8) (levels : ℕ) (content : ℕ → Writing Tree) (t : Tree) → IsShort t → is_utf8 name ≡ true → variant_at name levels content ≡ Ok t → ((n : ℕ) (u : Tree) → IsShort u → content n ≡ Ok u → VariantComes at vs name n u)
    → Comes at (enumeration vs) levels t
variant_comes at vs name zero content t small whole e each = absurd cc
variant_comes at vs name (suc n) content t small whole e each =
    let m = map_ok document (named name (content n) >>= one_pair name) t e in
    let b = bind_ok (named name (content n)) (one_pair name) m.0 m.1 in
    let ok = named_ok name (content n) b.0 b.1 in
    let there = ok.1 in
    let is : document (pair name b.0 no_pairs) ≡ t = ap document (ok_is (pair name b.0 no_pairs) m.0 b.2) ∙ m.2 in
    let short = subst IsShort (sym is) small in
    let h = each n b.0 (omega (arith, short, head_size name b.0 no_pairs, elements_size (pair name b.0 no_pairs))) there in
    subst (λ x. variant_at name (suc n) content ≡ Ok x → Comes at (enumeration vs) (suc n) x) is
    (λ q. (h.0, h.1, h.2 ∙ ap (λ r. result_map document (named name r >>= one_pair name)) (sym there) ∙ q, ((whole, ok.0), h.3, tt))) e

-- the text of a key is a name
leaf_key_whole : (k : LeafKind) (v : Value) (x : Utf8) → IsGivenLeafKey k v → key_text v ≡ Some x → is_utf8 x ≡ true
leaf_key_whole anything (value.str y) x g e = ap is_utf8 (sym (some_is y x e)) ∙ g.0
leaf_key_whole raw_values (value.str y) x g e = ap is_utf8 (sym (some_is y x e)) ∙ g.0
leaf_key_whole texts (value.str y) x g e = ap is_utf8 (sym (some_is y x e)) ∙ g.0
leaf_key_whole characters (value.character c) x g e = absurd (no_some e)
leaf_key_whole byte_strings (value.bytes bs) x g e = absurd (no_some e)
leaf_key_whole byte_buffers (value.bytes bs) x g e = absurd (no_some e)
leaf_key_whole ignored value.unit x g e = absurd (no_some e)
leaf_key_whole k v x g e = absurd g

key_name : (at : Sight) (s : Form) (k : Value) (x : Utf8) → IsShape s → IsGivenKey at s k → (key_text k ≡ Some x) × (has_zero x ≡ false) → IsName x
key_name at (leaf l) k x p g e = (leaf_key_whole (leaf_kind l) k x g.0 e.0, e.1)
key_name at (enumeration vs) (value.unit_variant name) x p g e = (ap is_utf8 (sym (some_is name x e.0)) ∙ (variant_shape vs name unit_content p.1 g.0).0, e.1)
key_name at (enumeration vs) k x p g e = absurd g
key_name at s k x p g e = absurd g

-- ---- what is built of parts

built_of : {A B C : Type 0} (r : Reading A) (f : A → Reading B) (g : B → C) (x : B) → (r >>= f) ≡ Ok x → (r >>= λ y. result_map g (f y)) ≡ Ok (g x)
built_of (Ok y) f g x e = ap (result_map g) e
built_of (Err d) f g x e = absurd (no_ok e)

-- the items are read from the array again
abbrev ItemsCome : (at : Sight) → (Nodes → Reading MarkedItems) → ℕ → Tree → Type 0
ItemsCome at read n u = (ms : MarkedItems) × ((judged (tree_node at u n) >>= array_of >>= read) ≡ Ok ms) × (enclosed_at array n (spell_items 0 (item_contents ms)) ≡ Ok u) × IsCoded u

items_body : (at : Sight) (read : Nodes → Reading MarkedItems) (vs : Items) (n : ℕ) (u : Tree) → IsShort u → enclosed_at array n (spell_items 0 vs) ≡ Ok u
    → ((k : ℕ) (ts : Trees) → AreShort 0 ts → spell_items 0 vs k ≡ Ok ts → (ms : MarkedItems) × (read (tree_nodes at 0 ts k) ≡ Ok ms) × (spell_items 0 (item_contents ms) k ≡ Ok ts) × AreTreesCoded ts) → ItemsCome at read n u
items_body at read vs n u small e each =
    within (λ k x. IsShort x → ItemsCome at read k x) array n (spell_items 0 vs) u e
    (λ k ts q short. let h = each k ts (omega (arith, short, array_elements_size ts)) q in (h.0, h.1, ap (result_map array) h.2, h.3)) small

abbrev read_struct : UnknownFields → Fields → Node → Reading MarkedFields
read_struct u fs = read_structure u (slots_of fs)

-- the fields are read from the document again
abbrev FieldsCome : (at : Sight) → UnknownFields → Fields → ℕ → Tree → Type 0
FieldsCome at u fs n t = (out : MarkedFields) × ((judged (tree_node at t n) >>= read_struct u fs) ≡ Ok out) × (enclosed_at document n (spell_fields (field_contents out)) ≡ Ok t) × IsCoded t

-- ---- the fields of a struct

-- the keys of the pairs are the names of the fields
abbrev AreKeyed : Fields → Pairs → Type 0
AreKeyed no_fields no_pairs = Unit {0}
AreKeyed (field n s fs) (pair k t ps) = (k ≡ n) × AreKeyed fs ps
AreKeyed fs ps = ⊥

keyed_lacks : (fs : Fields) (ps : Pairs) (key : Utf8) → AreKeyed fs ps → Unnamed key fs → Lacks key ps
keyed_lacks no_fields no_pairs key k u = tt
keyed_lacks no_fields (pair j t ps) key k u = absurd k
keyed_lacks (field n s fs) no_pairs key k u = absurd k
keyed_lacks (field n s fs) (pair j t ps) key k u = (subst (λ x. bytes_eq key x ≡ false) (sym k.0) (unlike_swap n key u.0), keyed_lacks fs ps key k.1 u.1)

passed_more : (at : Sight) (n : ℕ) (u : UnknownFields) (name : Utf8) (s : Form) (fs : Fields) (ps : Pairs) → ArePassed at n u fs ps → ArePassed at n u (field name s fs) ps
passed_more at n u name s fs no_pairs h = tt
passed_more at n u name s fs (pair k t ps) h = (h.0, (λ none. h.1 none.1), passed_more at n u name s fs ps h.2)

not_unlike : (b : Bool) → b ≡ true → b ≡ false → ⊥
not_unlike true h e = absurd (true_no e)
not_unlike false h e = absurd cc

-- nothing is dropped, and nothing is denied
keyed_passed : (at : Sight) (n : ℕ) (u : UnknownFields) (fs : Fields) (ps : Pairs) → Distinct fs → AreKeyed fs ps → ArePassed at n u fs ps
keyed_passed at n u no_fields no_pairs d k = tt
keyed_passed at n u no_fields (pair j t ps) d k = absurd k
keyed_passed at n u (field name s fs) no_pairs d k = absurd k
keyed_passed at n u (field name s fs) (pair j t ps) d k = (
  keyed_lacks fs ps j k.1 (subst (λ x. Unnamed x fs) (sym k.0) d.0),
  (λ none. absurd (not_unlike (bytes_eq name j) (subst (λ x. bytes_eq name x ≡ true) (sym k.0) (bytes_eq-refl name)) none.0)),
  passed_more at n u name s fs ps (keyed_passed at n u fs ps d.1 k.1),
)

-- a pair that no field takes is not seen
seen_more : (at : Sight) (n : ℕ) (fs : Fields) (key : Utf8) (t : Tree) (ps : Pairs) → Unnamed key fs → seen_fields origins.Bytes at n fs (pair key t ps) ≡ seen_fields origins.Bytes at n fs ps
seen_more at n no_fields key t ps u = refl
seen_more at n (field name s fs) key t ps u =
    λ i. option_and_then (λ v. option_map (field_value (made name) v) (seen_more at n fs key t ps u.1 i)) (seen_at origins.Bytes at n s (chosen_f (bytes_eq name key) t (lookup name ps) u.0 i))

-- the fields are seen in the pairs that they are spelled as
abbrev FieldsSeen : (at : Sight) → Fields → ℕ → Pairs → Type 0
FieldsSeen at fs n ps = (out : MarkedFields) × (seen_fields origins.Bytes at n fs ps ≡ Some out) × (spell_fields (field_contents out) n ≡ Ok ps) × AreKeyed fs ps × ArePairsCoded ps

fields_body : (at : Sight) (u : UnknownFields) (fs : Fields) (vs : FieldValues) (n : ℕ) (t : Tree) → IsShort t → Distinct fs → enclosed_at document n (spell_fields vs) ≡ Ok t
    → ((k : ℕ) (ps : Pairs) → ArePairsShort ps → spell_fields vs k ≡ Ok ps → FieldsSeen at fs k ps) → FieldsCome at u fs n t
fields_body at u fs vs n t small d e each =
    within (λ k x. IsShort x → FieldsCome at u fs k x) document n (spell_fields vs) t e
    (λ k ps q short. let h = each k ps (omega (arith, short, elements_size ps)) q in (h.0, fields_seen at k origins.Bytes u fs d ps h.0 (keyed_passed at k u fs ps d h.3) h.1, ap (result_map document) h.2, h.4)) small

-- ---- options

option_comes : (at : Sight) (s : Form) (t : Tree) (levels : ℕ) → Comes at s levels t → Comes at (optional s) levels t
option_comes at s t levels h =
    by_null (λ r. (m : Marked) × (r ≡ Ok m) × (spell (contents m) levels ≡ Ok t) × IsCoded t) at t levels (reads s (tree_node at t levels))
    h.3 (λ is. (value.none, refl, ap Ok (sym is), h.3)) (value.some h.0, ap (result_map value.some) h.1, h.2, h.3)

-- ---- where texts are mended

-- what comes at a form under a mark comes at the form whose texts are mended
lossy_comes : (at : Sight) (s : Form) (levels : ℕ) (t : Tree) → Comes (marked at) s levels t → Comes at (lossy s) levels t
lossy_comes at s levels t h = (h.0, ap (reads s) (tree_mended at t levels h.3) ∙ h.1, h.2, h.3)

-- ---- all values

mutual
  pub again : (at : Sight) (v : Value) (s : Form) (levels : ℕ) (t : Tree) → IsShape s → IsSettled s → IsGiven at v s → IsShort t → spell v levels ≡ Ok t → Comes at s levels t
  again at v (leaf l) levels t p expected g small e = leaf_comes at (borrows l) (leaf_kind l) v levels t small (given_leaf at v l g).1 (given_leaf at v l g).0 e
  again at v (lossy s) levels t p expected g small e = lossy_comes at s levels t (again (marked at) v s levels t p expected (given_lossy at v s g) small e)
  again at v (human_readable s) levels t p expected g small e = absurd expected
  again at v (by_mode readable compact) levels t p expected g small e = absurd expected
  again at v (definitions h s) levels t p expected g small e = again at v s levels t p expected.1 (given_body at v h s g) small e
  again at value.none (optional s) levels t p expected g small e = subst (Comes at (optional s) levels) (ok_is null t e) (value.none, refl, refl, tt)
  again at (value.some v) (optional s) levels t p expected g small e = option_comes at s t levels (again at v s levels t p expected g small e)
  again at (value.newtype m v) (newtype n s) levels t p expected g small e =
      let h = again at v s levels t p.1 expected g.1 small (sym (free_spelled m v levels (ap is_reserved_newtype g.0 ∙ p.0.free)) ∙ e) in
      (value.newtype (made n) h.0, ap (result_map (value.newtype (made n))) h.1, free_spelled n (contents h.0) levels p.0.free ∙ h.2, h.3)
  again at (value.unit_structure m) (unit_structure n) levels t p expected g small e = subst (Comes at (unit_structure n) levels) (ok_is null t e) (value.unit_structure (made n), refl, refl, tt)
  again at (value.sequence vs) (sequence s) levels t p expected g small e =
      let h = items_body at (reads_items (reads s) 0) vs levels t small e (λ k ts short q. again_items at vs s 0 k ts p expected g short q) in
      (value.sequence h.0, built_of (judged (tree_node at t levels) >>= array_of) (reads_items (reads s) 0) value.sequence h.0 h.1, h.2, h.3)
  again at (value.map es) (map key s) levels t p expected g small e =
      within (λ n u. IsShort u → Comes at (map key s) n u) document levels (spell_entries es) t e
      (λ n ps q short.
      let h = again_entries at es key s n ps no_entries p.1 p.2 expected g.0 g.1 (new_to_none es) (omega (arith, short, elements_size ps)) q in
      (value.map h.0, ap (result_map value.map) h.1, ap (result_map document) h.2, h.3)) small
  again at (value.tuple vs) (tuple ps) levels t p expected g small e =
      let h = items_body at (reads_parts ps 0) vs levels t small e (λ k ts short q. again_parts at vs ps 0 k ts p expected g short q) in
      (value.tuple h.0, built_of (judged (tree_node at t levels) >>= array_of) (reads_parts ps 0) value.tuple h.0 h.1, h.2, h.3)
  again at (value.tuple_structure m vs) (tuple_structure n ps) levels t p expected g small e =
      let h = items_body at (reads_parts ps 0) vs levels t small e (λ k ts short q. again_parts at vs ps 0 k ts p.1 expected g.1 short q) in
      (value.tuple_structure (made n) h.0, built_of (judged (tree_node at t levels) >>= array_of) (reads_parts ps 0) (value.tuple_structure (made n)) h.0 h.1, h.2, h.3)
  again at (value.structure m vs) (structure u n fs) levels t p expected g small e =
      let free = ap reserved_kind g.0 ∙ p.0.free in
      let spelled : enclosed_at document levels (spell_fields vs) ≡ Ok t = sym (free_struct m vs levels free) ∙ e in
      let h = fields_body at u fs vs levels t small (distinct_from fs p.0.distinct) spelled (λ k ps short q. again_fields at vs fs k ps p.1 expected (distinct_from fs p.0.distinct) g.1 short q) in
      (value.structure (made n) h.0, built_of (judged (tree_node at t levels)) (read_struct u fs) (value.structure (made n)) h.0 h.1, free_struct n (field_contents h.0) levels p.0.free ∙ h.2, h.3)
  again at (value.unit_variant name) (enumeration vs) levels t p expected g small e =
      let whole = (variant_shape vs name unit_content p.1 g).0 in
      subst (Comes at (enumeration vs) levels) (ok_is (string name) t e) (
        value.unit_variant (made name),
        ap (λ o. faultless o (node.string (piece at.texts name)) >>= read_enum (reads_unit vs) (reads_variant vs)) (text_whole at name whole) ∙ ap (unit_of name) g,
        refl,
        whole,
      )
  again at (value.newtype_variant name v) (enumeration vs) levels t p expected g small e =
      variant_comes at vs name levels (spell v) t small (variant_shape vs name (newtype_content g.0) p.1 g.1).0 e
      (λ n u short q.
      let h = again at v g.0 n u (variant_shape vs name (newtype_content g.0) p.1 g.1).1 (content_settled vs name (newtype_content g.0) expected g.1) g.2 short q in (
        value.newtype_variant (made name) h.0,
        variant_read vs name (newtype_content g.0) (tree_node at u n) g.1 ∙ ap (λ r. under name (result_map (value.newtype_variant (made name)) r)) h.1,
        ap (λ r. result_map document (named name r >>= one_pair name)) h.2,
        h.3,
      ))
  again at (value.tuple_variant name ws) (enumeration vs) levels t p expected g small e =
      variant_comes at vs name levels (λ n. enclosed_at array n (spell_items 0 ws)) t small (variant_shape vs name (tuple_content g.0) p.1 g.1).0 e
      (λ n u short q.
      let h = items_body at (reads_parts g.0 0) ws n u short q (λ k ts few r. again_parts at ws g.0 0 k ts (variant_shape vs name (tuple_content g.0) p.1 g.1).1 (content_settled vs name (tuple_content g.0) expected g.1) g.2 few r) in (
        value.tuple_variant (made name) h.0,
        variant_read vs name (tuple_content g.0) (tree_node at u n) g.1
            ∙ ap (under name) (built_of (judged (tree_node at u n) >>= array_of) (reads_parts g.0 0) (value.tuple_variant (made name)) h.0 h.1),
        ap (λ r. result_map document (named name r >>= one_pair name)) h.2,
        h.3,
      ))
  again at (value.structure_variant name ws) (enumeration vs) levels t p expected g small e =
      variant_comes at vs name levels (λ n. enclosed_at document n (spell_fields ws)) t small (variant_shape vs name (struct_content g.0) p.1 g.1).0 e
      (λ n u short q.
      let shape = (variant_shape vs name (struct_content g.0) p.1 g.1).1 in
      let distinct = distinct_from g.0 shape.0 in
      let h = fields_body at dropped g.0 ws n u short distinct q (λ k ps few r. again_fields at ws g.0 k ps shape.1 (content_settled vs name (struct_content g.0) expected g.1) distinct g.2 few r) in (
        value.structure_variant (made name) h.0,
        variant_read vs name (struct_content g.0) (tree_node at u n) g.1
            ∙ ap (under name) (built_of (judged (tree_node at u n)) (read_struct dropped g.0) (value.structure_variant (made name)) h.0 h.1),
        ap (λ r. result_map document (named name r >>= one_pair name)) h.2,
        h.3,
      ))
  again at v s levels t p expected g small e = absurd g

  again_items : (at : Sight) (vs : Items) (s : Form) (i n : ℕ) (ts : Trees) → IsShape s → IsSettled s → ItemsGiven at vs s → AreShort i ts → spell_items i vs n ≡ Ok ts → (ms : MarkedItems) × (reads_items (reads s) i (tree_nodes at i ts n) ≡ Ok ms) × (spell_items i (item_contents ms) n ≡ Ok ts) × AreTreesCoded ts
  again_items at no_items s i n ts p expected g small e = subst (λ x. (ms : MarkedItems) × (reads_items (reads s) i (tree_nodes at i x n) ≡ Ok ms) × (spell_items i (item_contents ms) n ≡ Ok x) × AreTreesCoded x) (ok_is no_trees ts e) (no_items, refl, refl, tt)
  again_items at (item v vs) s i n ts p expected g small e =
      let a = bind_ok (under_index i (spell v n)) (λ t. spell_items (suc i) vs n >>= λ us. Ok (tree.tree t us)) ts e in
      let b = bind_ok (spell_items (suc i) vs n) (λ us. Ok (tree.tree a.0 us)) ts a.2 in
      let short = subst (AreShort i) (sym (ok_is (tree.tree a.0 b.0) ts b.2)) small in
      let first = again at v s n a.0 p expected g.0 (omega (arith, short, first_size i a.0 b.0)) (inside_ok (at_index i) (spell v n) a.0 a.1) in
      let rest = again_items at vs s (suc i) n b.0 p expected g.1 (omega (arith, short, later_size i a.0 b.0)) b.1 in
      subst (λ x. (ms : MarkedItems) × (reads_items (reads s) i (tree_nodes at i x n) ≡ Ok ms) × (spell_items i (item_contents ms) n ≡ Ok x) × AreTreesCoded x) (ok_is (tree.tree a.0 b.0) ts b.2) (
        item first.0 rest.0,
        ap (λ r. under_index i r >>= λ w. result_map (item w) (reads_items (reads s) (suc i) (tree_nodes at (suc i) b.0 n))) first.1 ∙ ap (result_map (item first.0)) rest.1,
        ap (λ r. under_index i r >>= λ t. spell_items (suc i) (item_contents rest.0) n >>= λ us. Ok (tree.tree t us)) first.2 ∙ ap (λ r. r >>= λ us. Ok (tree.tree a.0 us)) rest.2,
        (first.3, rest.3),
      )

  again_parts : (at : Sight) (vs : Items) (ps : Parts) (i n : ℕ) (ts : Trees) → AreParts ps → EveryPart settled_rows ps → PartsGiven at vs ps → AreShort i ts → spell_items i vs n ≡ Ok ts → (ms : MarkedItems) × (reads_parts ps i (tree_nodes at i ts n) ≡ Ok ms) × (spell_items i (item_contents ms) n ≡ Ok ts) × AreTreesCoded ts
  again_parts at no_items no_parts i n ts p expected g small e = (no_items, refl, e, subst AreTreesCoded (ok_is no_trees ts e) tt)
  again_parts at (item v vs) (part s ps) i n ts p expected g small e =
      let a = bind_ok (under_index i (spell v n)) (λ t. spell_items (suc i) vs n >>= λ us. Ok (tree.tree t us)) ts e in
      let b = bind_ok (spell_items (suc i) vs n) (λ us. Ok (tree.tree a.0 us)) ts a.2 in
      let short = subst (AreShort i) (sym (ok_is (tree.tree a.0 b.0) ts b.2)) small in
      let first = again at v s n a.0 p.0 expected.0 g.0 (omega (arith, short, first_size i a.0 b.0)) (inside_ok (at_index i) (spell v n) a.0 a.1) in
      let rest = again_parts at vs ps (suc i) n b.0 p.1 expected.1 g.1 (omega (arith, short, later_size i a.0 b.0)) b.1 in
      subst (λ x. (ms : MarkedItems) × (reads_parts (part s ps) i (tree_nodes at i x n) ≡ Ok ms) × (spell_items i (item_contents ms) n ≡ Ok x) × AreTreesCoded x) (ok_is (tree.tree a.0 b.0) ts b.2) (
        item first.0 rest.0,
        ap (λ r. under_index i r >>= λ w. result_map (item w) (reads_parts ps (suc i) (tree_nodes at (suc i) b.0 n))) first.1 ∙ ap (result_map (item first.0)) rest.1,
        ap (λ r. under_index i r >>= λ t. spell_items (suc i) (item_contents rest.0) n >>= λ us. Ok (tree.tree t us)) first.2 ∙ ap (λ r. r >>= λ us. Ok (tree.tree a.0 us)) rest.2,
        (first.3, rest.3),
      )
  again_parts at vs ps i n ts p expected g small e = absurd g

  again_entries : (at : Sight) (es : Entries) (key s : Form) (n : ℕ) (ps : Pairs) (done : MarkedEntries) → IsShape key → IsShape s → IsSettled s → AreApart es → EntriesGiven at es key s → AreNewTo es (entry_contents done) → ArePairsShort ps → spell_entries es n ≡ Ok ps
      → (out : MarkedEntries) × (reads_entries (reads_key key) (reads s) (pair_nodes at ps n) done ≡ Ok (joined done out)) × (spell_entries (entry_contents out) n ≡ Ok ps) × ArePairsCoded ps
  again_entries at no_entries key s n ps done w p expected apart g new small e =
      subst (λ x. (out : MarkedEntries) × (reads_entries (reads_key key) (reads s) (pair_nodes at x n) done ≡ Ok (joined done out)) × (spell_entries (entry_contents out) n ≡ Ok x) × ArePairsCoded x) (ok_is no_pairs ps e)
      (no_entries, ap Ok (sym (joined_none done)), refl, tt)
  again_entries at (entry k v es) key s n ps done w p expected apart g new small e =
      let a = bind_ok (spell_key k) (λ x. under x (spell v n) >>= λ t. spell_entries es n >>= λ qs. Ok (pair x t qs)) ps e in
      let b = bind_ok (under a.0 (spell v n)) (λ t. spell_entries es n >>= λ qs. Ok (pair a.0 t qs)) ps a.2 in
      let c = bind_ok (spell_entries es n) (λ qs. Ok (pair a.0 b.0 qs)) ps b.2 in
      let mk = key_comes at key k a.0 g.0 (spell_key_ok k a.0 a.1).0 in
      let short = subst ArePairsShort (sym (ok_is (pair a.0 b.0 c.0) ps c.2)) small in
      let first = again at v s n b.0 p expected g.1 (omega (arith, short, head_size a.0 b.0 c.0)) (under_ok a.0 (spell v n) b.0 b.1) in
      let rest = again_entries at es key s n c.0 (joined done (entry mk.0 first.0 no_entries)) w p expected apart.1 g.2 (new_to_marked es done mk.0 first.0 k v mk.2 apart.0 new.1) (omega (arith, short, tail_size a.0 b.0 c.0)) c.1 in
      let read = reads_entries (reads_key key) (reads s) (pair_nodes at c.0 n) in
      subst (λ x. (out : MarkedEntries) × (reads_entries (reads_key key) (reads s) (pair_nodes at x n) done ≡ Ok (joined done out)) × (spell_entries (entry_contents out) n ≡ Ok x) × ArePairsCoded x) (ok_is (pair a.0 b.0 c.0) ps c.2) (
        entry mk.0 first.0 rest.0,
        ap (λ r. r >>= λ x. under a.0 (reads s (tree_node at b.0 n)) >>= λ w. read (put_entry x w done)) mk.1
            ∙ ap (λ r. under a.0 r >>= λ w. read (put_entry mk.0 w done)) first.1
            ∙ ap read (put_last mk.0 first.0 done (subst (λ y. IsNew y (entry_contents done)) (sym mk.2) new.0))
            ∙ rest.1
            ∙ ap Ok (joined_one done mk.0 first.0 rest.0),
        ap (λ r. r >>= λ x. under x (spell (contents first.0) n) >>= λ t. spell_entries (entry_contents rest.0) n >>= λ qs. Ok (pair x t qs)) (ap spell_key mk.2 ∙ a.1)
            ∙ ap (λ r. under a.0 r >>= λ t. spell_entries (entry_contents rest.0) n >>= λ qs. Ok (pair a.0 t qs)) first.2
            ∙ ap (λ r. r >>= λ qs. Ok (pair a.0 b.0 qs)) rest.2,
        (key_name at key k a.0 w g.0 (spell_key_ok k a.0 a.1), first.3, rest.3),
      )

  again_fields : (at : Sight) (vs : FieldValues) (fs : Fields) (n : ℕ) (ps : Pairs) → AreShapes fs → EveryField settled_rows fs → Distinct fs → FieldsGiven at vs fs → ArePairsShort ps → spell_fields vs n ≡ Ok ps → FieldsSeen at fs n ps
  again_fields at no_field_values no_fields n ps p expected d g small e = subst (FieldsSeen at no_fields n) (ok_is no_pairs ps e) (no_field_values, refl, refl, tt, tt)
  again_fields at (field_value m v vs) (field name s fs) n ps p expected d g small e =
      let a = bind_ok (named m (spell v n)) (λ t. spell_fields vs n >>= λ qs. Ok (pair m t qs)) ps e in
      let b = bind_ok (spell_fields vs n) (λ qs. Ok (pair m a.0 qs)) ps a.2 in
      let ok = named_ok m (spell v n) a.0 a.1 in
      let there = ok.1 in
      let short = subst ArePairsShort (sym (ok_is (pair m a.0 b.0) ps b.2)) small in
      let first = again at v s n a.0 p.1 expected.0 g.1 (omega (arith, short, head_size m a.0 b.0)) there in
      let rest = again_fields at vs fs n b.0 p.2 expected.1 d.1 g.2 (omega (arith, short, tail_size m a.0 b.0)) b.1 in
      let same = bytes_eq-refl name in
      subst (FieldsSeen at (field name s fs) n) (ok_is (pair m a.0 b.0) ps b.2) (
        field_value (made name) first.0 rest.0,
        ap (λ o. option_and_then (λ w. option_map (field_value (made name) w) (seen_fields origins.Bytes at n fs (pair m a.0 b.0))) (seen_at origins.Bytes at n s o)) (chosen_t (bytes_eq name m) a.0 (lookup name b.0) (subst (λ x. bytes_eq name x ≡ true) (sym g.0) same))
            ∙ ap (option_and_then (λ w. option_map (field_value (made name) w) (seen_fields origins.Bytes at n fs (pair m a.0 b.0)))) (seen_of origins.Bytes at n s a.0 first.0 first.1)
            ∙ ap (option_map (field_value (made name) first.0)) (seen_more at n fs m a.0 b.0 (subst (λ x. Unnamed x fs) (sym g.0) d.0) ∙ rest.1),
        (λ i. named (sym g.0 i) (spell (contents first.0) n) >>= λ t. spell_fields (field_contents rest.0) n >>= λ qs. Ok (pair (sym g.0 i) t qs))
            ∙ ap (λ r. named m r >>= λ t. spell_fields (field_contents rest.0) n >>= λ qs. Ok (pair m t qs)) (first.2 ∙ sym there)
            ∙ ap (λ r. r >>= λ t. spell_fields (field_contents rest.0) n >>= λ qs. Ok (pair m t qs)) a.1
            ∙ ap (λ r. r >>= λ qs. Ok (pair m a.0 qs)) rest.2,
        (g.0, rest.3),
        ((ap is_utf8 g.0 ∙ p.0, ok.0), first.3, rest.4),
      )
  again_fields at vs fs n ps p expected d g small e = absurd g
