-- Where values that are alike are read at one shape, in bytes and from a tree, what is read has the same contents, if no key in it begins with `$`.
use Rattle.std.proofs.Common.{◌≡◌, ℕ, suc, [], ◌∷◌, Bool, true, false, cond, Option, Some, None, Ok, refl, ap, sym, subst, ◌∙◌}
use Rattle.std.specs.Prelude.{◌&&◌, List}
use Rattle.std.specs.Str.{bytes_eq, chars}
use Rattle.std.proofs.lemmas.Slice.Eq.{bytes_eq-Decides}
use Rattle.bson_kinds.specs.Outcome.{◌>>=◌, result_map}
use Rattle.bson_kinds.specs.Reserved.{Reserved, reserved_names, kind_in, reserved_kind}
use Rattle.bson_kinds.specs.Text.{Utf8, begins_with_dollar}
use Rattle.bson_kinds.proofs.Outcomes.{some_is, ok_is}
use Rattle.bson_rawdoc.specs.Node.{Node, double, string, document, array, bytes, boolean, null, int32, int64, extended, too_deep, Nodes, ended, faulty, then_node, mended}
use Rattle.bson_kinds.specs.Piece.{Piece, made}
use Rattle.bson_shape.specs.Form.{UnknownFields, dropped, denied, Form, leaf, optional, lossy, human_readable, by_mode, sequence, newtype, unit_structure, map, tuple, tuple_structure, structure, enumeration, reference, definitions, Fields, no_fields, field, Parts, no_parts, part, Content, unit_content, newtype_content, tuple_content, struct_content, Variants, no_variants, variant}
use Rattle.bson_values.specs.Value as value
use Rattle.bson_values.specs.Value.{Value, uuid_newtype, i32, i64}
use Rattle.bson_values.specs.Marked.{Marked, MarkedEntries, MarkedFields, contents, entry_contents, field_contents}
use Rattle.bson_values.specs.Same.{same}
use Rattle.bson_values.specs.Cause.{not_borrowed, unknown_reference}
use Rattle.bson_values.specs.Refusal.{at_key, at_index, under, under_index}
use Rattle.bson_laws.specs.Leaves.{LeafKind, anything, ignored, booleans, numbers, doubles, characters, texts, byte_strings, byte_buffers, units, extended_values, raw_documents, raw_arrays, raw_values, leaf_kind}
use Rattle.bson_laws.specs.Means.{key_text}
use Rattle.bson_laws.specs.Variants.{content_of}
use Rattle.bson_laws.specs.Views.{one_character, absent}
use Rattle.bson_laws.specs.declared.origin.Origin.TheVariants as origins
use Rattle.bson_laws.specs.FromTree.{tree_unit_of, reads_tree_unit, read_only, read_tree_enum, tuple_content_at, struct_content_at}
use Rattle.bson_laws.specs.Judged.{Reading, refused, judged, passes}
use Rattle.bson_laws.specs.Taken.{boolean_of, integer_of, double_of, null_of, document_of, array_of, owned_under_mark, text_of, buffer_of, borrow, borrow_or_own, read_integer, read_character, character_of}
use Rattle.bson_laws.specs.ReadsLeaf.{borrows, put_entry, read_any, any_items, any_entries, no_extended, read_leaf_with}
use Rattle.bson_laws.specs.Containers.{reads_option, reads_items, reads_next, unit_of, reads_unit, read_first, read_enum, reads_key, reads_entries}
use Rattle.bson_laws.specs.Slots.{Slot, Slots, fill_slot, unknown, put_at, fill, value_or, finish, reads_places, by_place, read_structure}
use Rattle.bson_laws.specs.ReadsFrom.{read_leaf, reads_from, reads_parts, slots_of, reads_variant, reads_content}
use Rattle.bson_laws.specs.Every.{EveryContent, EveryField, EveryPart, EveryVariant}
use Rattle.bson_ways_laws.specs.Ways.{IsCommon, IsBuilt, SuitsBothWays, ways_rows}
use Rattle.bson_ways_laws.proofs.BothWays.{Both, Equal, Any, KeyFree, IsFree, EntriesFree, FieldsFree, UnlessUuid, UnlessReserved, SameValue, SameItems, SameFields, both_ok, both_bind, both_map, both_inside, both_judged, both_then, both_same, both_cond}
use Rattle.bson_ways_laws.proofs.Likes.{SameBytes, Like, NodesLike, ItemsLike, mended_like, owned_like}
use Rattle.bson_ways_laws.proofs.Likes.{boolean_like, integer_like, double_like, array_like, document_like, borrow_like, own_like, texts_like, buffers_like}
use Rattle.bson_ways_laws.proofs.LikeTrees.{extended_like}
use Rattle.bson_kinds.proofs.Apart.{no_ok}

-- ---- entries

-- the same keys, and under those that do not begin with `$` the same values
abbrev EntriesLike : MarkedEntries → MarkedEntries → Type 0
EntriesLike value.no_entries value.no_entries = Unit {0}
EntriesLike (value.entry k v es) (value.entry j w ds) = (contents k ≡ contents j) × (KeyFree (key_text (contents k)) → SameValue v w) × EntriesLike es ds
EntriesLike es ds = ⊥

entries_same : (es ds : MarkedEntries) → EntriesLike es ds → EntriesFree (entry_contents es) → entry_contents es ≡ entry_contents ds
entries_same value.no_entries value.no_entries h free = refl
entries_same (value.entry k v es) (value.entry j w ds) h free = λ i. value.entry (h.0 i) (h.1 free.0 free.1 i) (entries_same es ds h.2 free.2 i)
entries_same es ds h free = absurd h

-- a key as it is read: free only where the key of the element is
abbrev KeysLike : Utf8 → Marked → Marked → Type 0
KeysLike key k j = (contents k ≡ contents j) × (KeyFree (key_text (contents k)) → IsCommon key)

and_left : (a b : Bool) → (a && b) ≡ true → a ≡ true
and_left true b e = refl
and_left false b e = absurd cc

and_right : (a b : Bool) → (a && b) ≡ true → b ≡ true
and_right true b e = e
and_right false b e = absurd cc

-- of two keys that are the same both are free, or none
same_free : (l k : Value) → same k l ≡ true → KeyFree (key_text l) → KeyFree (key_text k)
same_free (value.str t) (value.str u) e f = subst IsCommon (sym ((bytes_eq-Decides u t).0 e)) f
same_free (value.unit_variant t) (value.unit_variant u) e f = subst IsCommon (sym ((bytes_eq-Decides u t).0 e)) f
same_free (value.some l) (value.some k) e f = same_free l k e f
same_free (value.newtype n l) (value.newtype m k) e f = same_free l k (and_right (bytes_eq m n) (same k l) e) f
same_free (value.mode r c) (value.mode q d) e f = same_free r q (and_left (same q r) (same d c) e) f
same_free (value.str t) k e f = absurd cc
same_free (value.unit_variant t) k e f = absurd cc
same_free (value.some l) k e f = absurd cc
same_free (value.newtype n l) k e f = absurd cc
same_free (value.mode r c) k e f = absurd cc
same_free l k e f = absurd f

put_like : (k j v w : Marked) (es ds : MarkedEntries) → contents k ≡ contents j → (KeyFree (key_text (contents k)) → SameValue v w) → EntriesLike es ds → EntriesLike (put_entry k v es) (put_entry j w ds)
put_like k j v w value.no_entries value.no_entries a b h = (a, b, tt)
put_like k j v w (value.entry l old es) (value.entry m older ds) a b h =
    subst (λ c. EntriesLike (put_entry k v (value.entry l old es)) (cond c (value.entry m w ds) (value.entry m older (put_entry j w ds)))) (λ i. same (a i) (h.0 i))
    (by_case (same (contents k) (contents l)) refl (put_like k j v w es ds a b h.2)) where
      by_case : (c : Bool) → same (contents k) (contents l) ≡ c → EntriesLike (put_entry k v es) (put_entry j w ds)
          → EntriesLike (cond c (value.entry l v es) (value.entry l old (put_entry k v es))) (cond c (value.entry m w ds) (value.entry m older (put_entry j w ds)))
      by_case true is later = (h.0, λ f. b (same_free (contents l) (contents k) is f), h.2)
      by_case false is later = (h.0, h.1, later)
put_like k j v w es ds a b h = absurd h

-- ---- names

unlike : (n w : Utf8) → IsCommon n → begins_with_dollar w ≡ true → bytes_eq n w ≡ false
unlike n w d e = by (bytes_eq n w) refl where
  by : (b : Bool) → bytes_eq n w ≡ b → bytes_eq n w ≡ false
  by true h = let no : false ≡ true = sym d ∙ ap begins_with_dollar ((bytes_eq-Decides n w).0 h) ∙ e in absurd cc
  by false h = h

abbrev BeginWithDollar : List Reserved → Type 0
BeginWithDollar [] = Unit {0}
BeginWithDollar (r ∷ rs) = (begins_with_dollar r.name ≡ true) × BeginWithDollar rs

no_kind_in : (n : Utf8) (rs : List Reserved) → IsCommon n → BeginWithDollar rs → kind_in n rs ≡ None
no_kind_in n [] d h = refl
no_kind_in n (r ∷ rs) d h = ap (λ b. cond b (Some r.kind) (kind_in n rs)) (unlike n r.name d h.0) ∙ no_kind_in n rs d h.1

pub not_reserved : (n : Utf8) → IsCommon n → reserved_kind n ≡ None
not_reserved n d = no_kind_in n reserved_names d (refl, (refl, (refl, (refl, (refl, (refl, (refl, (refl, (refl, (refl, (refl, (refl, (refl, tt)))))))))))))

pub not_uuid : (n : Utf8) → IsCommon n → bytes_eq n uuid_newtype ≡ false
not_uuid n d = unlike n uuid_newtype d refl

-- ---- values without a shape

mutual
  any_like : (n m : Node) → Like n m → Both SameValue (read_any n) (read_any m)
  any_like (boolean a) (boolean b) h = both_ok SameValue (value.boolean a) (value.boolean b) (λ _. ap value.boolean h)
  any_like (int32 a) (int32 b) h = both_ok SameValue (value.integer i32 a) (value.integer i32 b) (λ _. ap (value.integer i32) h)
  any_like (int64 a) (int64 b) h = both_ok SameValue (value.integer i64 a) (value.integer i64 b) (λ _. ap (value.integer i64) h)
  any_like (double a) (double b) h = both_ok SameValue (value.double a) (value.double b) (λ _. ap value.double h)
  any_like (string p) (string q) h = both_ok SameValue (value.str p) (value.str q) (λ _. ap value.str h.0)
  any_like (bytes u p) (bytes w q) h = both_ok SameValue (value.bytes (owned_under_mark u p)) (value.bytes (owned_under_mark w q)) (λ _. ap value.bytes (owned_like u w p q h))
  any_like null null h = both_ok SameValue value.unit value.unit (λ _. refl)
  any_like (array z ns) (array r ms) h = both_map SameItems SameValue (any_items 0 ns) (any_items 0 ms) value.sequence value.sequence (any_items_like 0 ns ms h) (λ a b q free. ap value.sequence (q free))
  any_like (document z ns) (document r ms) h =
      both_map EntriesLike SameValue (any_entries ns value.no_entries) (any_entries ms value.no_entries) value.map value.map (any_entries_like ns ms value.no_entries value.no_entries h.1 tt) (λ a b q free. ap value.map (entries_same a b q free))
  any_like (extended x ns) (extended y ms) h =
      both_map EntriesLike SameValue (any_entries ns value.no_entries) (any_entries ms value.no_entries) value.map value.map (any_entries_like ns ms value.no_entries value.no_entries h.1 tt) (λ a b q free. ap value.map (entries_same a b q free))
  any_like (too_deep k) (too_deep l) h = λ a b e f. absurd cc
  any_like n m h = absurd h

  any_items_like : (i : ℕ) (ns ms : Nodes) → ItemsLike ns ms → Both SameItems (any_items i ns) (any_items i ms)
  any_items_like i ended ended h = both_ok SameItems value.no_items value.no_items (λ _. refl)
  any_items_like i (then_node k n ns) (then_node l m ms) h =
      let r = (judged n >>= λ _. read_any n) in
      let s = (judged m >>= λ _. read_any m) in
      both_bind SameValue SameItems (under_index i r) (under_index i s) (λ v. result_map (value.item v) (any_items (suc i) ns)) (λ v. result_map (value.item v) (any_items (suc i) ms))
      (both_inside SameValue (at_index i) (at_index i) r s (both_then SameValue n m (read_any n) (read_any m) (any_like n m h.0)))
      (λ a b q. both_map SameItems SameItems (any_items (suc i) ns) (any_items (suc i) ms) (value.item a) (value.item b) (any_items_like (suc i) ns ms h.1) (λ c d o free j. value.item (q free.0 j) (o free.1 j)))
  any_items_like i ns ms h = absurd h

  any_entries_like : (ns ms : Nodes) (es ds : MarkedEntries) → NodesLike ns ms → EntriesLike es ds → Both EntriesLike (any_entries ns es) (any_entries ms ds)
  any_entries_like ended ended es ds h q = both_ok EntriesLike es ds q
  any_entries_like (then_node k n ns) (then_node l m ms) es ds h q =
      let r = (judged n >>= λ _. read_any n) in
      let s = (judged m >>= λ _. read_any m) in
      both_bind (λ v w. IsCommon k.bytes → SameValue v w) EntriesLike (under k.bytes r) (under l.bytes s) (λ v. any_entries ns (put_entry (value.str k) v es)) (λ v. any_entries ms (put_entry (value.str l) v ds))
      (both_inside (λ v w. IsCommon k.bytes → SameValue v w) (at_key k.bytes) (at_key l.bytes) r s (λ a b e f c. both_then SameValue n m (read_any n) (read_any m) (any_like n m (h.1 c)) a b e f))
      (λ a b o. any_entries_like ns ms (put_entry (value.str k) a es) (put_entry (value.str l) b ds) h.2 (put_like (value.str k) (value.str l) a b es ds (ap value.str h.0) o q))
  any_entries_like ns ms es ds h q = absurd h

-- ---- leaves

character_like : (n m : Node) → Like n m → Both SameValue (character_of n) (character_of m)
character_like (string p) (string q) h = both_same (read_character (one_character (chars p.bytes))) (read_character (one_character (chars q.bytes))) (ap (λ x. read_character (one_character (chars x))) h.0)
character_like n m h = λ a b e f. absurd cc

-- from a tree nothing is borrowed
leaf_like : (l : Bool) (k : LeafKind) (n m : Node) → IsBuilt k → Like n m → Both SameValue (read_leaf origins.Bytes l k n) (read_leaf origins.Tree l k m)
leaf_like l anything n m c h = any_like n m h
leaf_like l ignored n m c h = both_map Any SameValue (passes n) (passes m) (λ _. value.unit) (λ _. value.unit) (λ a b e f. tt) (λ a b q _. refl)
leaf_like l booleans n m c h = both_map Equal SameValue (boolean_of n) (boolean_of m) value.boolean value.boolean (boolean_like n m h) (λ a b q _. ap value.boolean q)
leaf_like l (numbers type) n m c h = both_bind Equal SameValue (integer_of n) (integer_of m) (read_integer type) (read_integer type) (integer_like n m h) (λ a b q. both_same (read_integer type a) (read_integer type b) (ap (read_integer type) q))
leaf_like l doubles n m c h = both_map Equal SameValue (double_of n) (double_of m) value.double value.double (double_like n m h) (λ a b q _. ap value.double q)
leaf_like l characters n m c h = character_like n m h
leaf_like true texts n m c h = λ a b e f. absurd cc
leaf_like false texts n m c h = both_map SameBytes SameValue (text_of false n) (text_of false m) value.str value.str (texts_like false n m h) (λ a b q _. ap value.str q)
leaf_like l byte_strings n m c h = λ a b e f. absurd cc
leaf_like l byte_buffers n m c h = both_map Equal SameValue (buffer_of n) (buffer_of m) (λ b. value.bytes (made b)) (λ b. value.bytes (made b)) (buffers_like n m h) (λ a b q _. ap value.bytes q)
leaf_like l units n m c h = both_map Any SameValue (null_of n) (null_of m) (λ _. value.unit) (λ _. value.unit) (λ a b e f. tt) (λ a b q _. refl)
leaf_like l (extended_values k) n m c h = extended_like k n m h
leaf_like l k n m c h = absurd c

-- ---- keys

own_is : (l : Bool) (p a : Piece) → borrow_or_own l p ≡ Ok a → a.bytes ≡ p.bytes
own_is true p a e = held p.in_input e where
  held : (b : Bool) → cond b (Ok p) (refused not_borrowed) ≡ Ok a → a.bytes ≡ p.bytes
  held true q = ap (λ (x : Piece). x.bytes) (sym (ok_is p a q))
  held false q = absurd (no_ok q)
own_is false p a e = ap (λ (x : Piece). x.bytes) (sym (ok_is (made p.bytes) a e))

leaf_key_like : (l : Bool) (k : LeafKind) (p q : Piece) → IsBuilt k → SameBytes p q → Both (KeysLike p.bytes) (read_leaf_with no_extended l k (string p)) (read_leaf_with no_extended l k (string q))
leaf_key_like l anything p q c h = both_ok (KeysLike p.bytes) (value.str p) (value.str q) (ap value.str h, λ f. f)
leaf_key_like l ignored p q c h = both_ok (KeysLike p.bytes) value.unit value.unit (refl, λ f. absurd f)
leaf_key_like l characters p q c h = by_case (one_character (chars p.bytes)) (one_character (chars q.bytes)) (ap (λ x. one_character (chars x)) h) where
  by_case : (a b : Option ℕ) → a ≡ b → Both (KeysLike p.bytes) (read_character a) (read_character b)
  by_case (Some x) (Some y) e = both_ok (KeysLike p.bytes) (value.character x) (value.character y) (ap value.character (some_is x y e), λ f. absurd f)
  by_case a b e = λ x y f g. absurd cc
leaf_key_like l texts p q c h =
    both_map (λ x y. SameBytes x y × (x.bytes ≡ p.bytes)) (KeysLike p.bytes) (borrow_or_own l p) (borrow_or_own l q) value.str value.str (λ a b e f. (own_like l p q h a b e f, own_is l p a e)) (λ a b s. (ap value.str s.0, λ f. subst IsCommon s.1 f))
leaf_key_like l byte_strings p q c h = both_map SameBytes (KeysLike p.bytes) (borrow p) (borrow q) value.bytes value.bytes (borrow_like p q h) (λ a b s. (ap value.bytes s, λ f. absurd f))
leaf_key_like l byte_buffers p q c h = both_ok (KeysLike p.bytes) (value.bytes (made p.bytes)) (value.bytes (made q.bytes)) (ap value.bytes h, λ f. absurd f)
leaf_key_like l raw_documents p q c h = absurd c
leaf_key_like l raw_arrays p q c h = absurd c
leaf_key_like l raw_values p q c h = absurd c
leaf_key_like l k p q c h = λ a b e f. absurd cc

unit_key_like : (x y : Utf8) (o p : Option Content) → x ≡ y → o ≡ p → Both (KeysLike x) (unit_of x o) (unit_of y p)
unit_key_like x y o p h e a b f g = ((λ j. named_is x o a f j) ∙ ap value.unit_variant h ∙ sym (named_is y p b g), λ free. subst (λ (k : Value). KeyFree (key_text k)) (named_is x o a f) free) where
  named_is : (x : Utf8) (o : Option Content) (a : Marked) → unit_of x o ≡ Ok a → contents a ≡ value.unit_variant x
  named_is x None a e = absurd (no_ok e)
  named_is x (Some unit_content) a e = ap contents (sym (ok_is (value.unit_variant (made x)) a e))
  named_is x (Some c) a e = absurd (no_ok e)

key_like : (s : Form) (p q : Piece) → SuitsBothWays s → SameBytes p q → Both (KeysLike p.bytes) (reads_key s p) (reads_key s q)
key_like (leaf l) p q c h = leaf_key_like (borrows l) (leaf_kind l) p q c h
key_like (enumeration vs) p q c h = unit_key_like p.bytes q.bytes (content_of vs p.bytes) (content_of vs q.bytes) h (ap (content_of vs) h)
key_like s p q c h = λ a b e f. absurd cc

-- ---- lists

-- what is read of values that are alike is the same
abbrev EachLike : (Node → Reading Marked) → (Node → Reading Marked) → Type 0
EachLike f g = (n m : Node) → Like n m → Both SameValue (f n) (g m)

items_like : (f g : Node → Reading Marked) → EachLike f g → (i : ℕ) (ns ms : Nodes) → ItemsLike ns ms → Both SameItems (reads_items f i ns) (reads_items g i ms)
items_like f g each i ended ended h = both_ok SameItems value.no_items value.no_items (λ _. refl)
items_like f g each i (then_node k n ns) (then_node l m ms) h =
    both_bind SameValue SameItems (under_index i (f n)) (under_index i (g m)) (λ v. result_map (value.item v) (reads_items f (suc i) ns)) (λ v. result_map (value.item v) (reads_items g (suc i) ms))
    (both_inside SameValue (at_index i) (at_index i) (f n) (g m) (each n m h.0))
    (λ a b q. both_map SameItems SameItems (reads_items f (suc i) ns) (reads_items g (suc i) ms) (value.item a) (value.item b) (items_like f g each (suc i) ns ms h.1) (λ c d o free j. value.item (q free.0 j) (o free.1 j)))
items_like f g each i ns ms h = absurd h

entries_like : (key : Form) (f g : Node → Reading Marked) → SuitsBothWays key → EachLike f g → (ns ms : Nodes) (es ds : MarkedEntries) → NodesLike ns ms → EntriesLike es ds → Both EntriesLike (reads_entries (reads_key key) f ns es) (reads_entries (reads_key key) g ms ds)
entries_like key f g common each ended ended es ds h q = both_ok EntriesLike es ds q
entries_like key f g common each (then_node k n ns) (then_node l m ms) es ds h q =
    both_bind (KeysLike k.bytes) EntriesLike (reads_key key k) (reads_key key l) (λ x. under k.bytes (f n) >>= λ v. reads_entries (reads_key key) f ns (put_entry x v es)) (λ x. under l.bytes (g m) >>= λ v. reads_entries (reads_key key) g ms (put_entry x v ds))
    (key_like key k l common h.0)
    (λ x y c.
    both_bind (λ v w. IsCommon k.bytes → SameValue v w) EntriesLike (under k.bytes (f n)) (under l.bytes (g m)) (λ v. reads_entries (reads_key key) f ns (put_entry x v es)) (λ v. reads_entries (reads_key key) g ms (put_entry y v ds))
    (both_inside (λ v w. IsCommon k.bytes → SameValue v w) (at_key k.bytes) (at_key l.bytes) (f n) (g m) (λ a b e d free. each n m (h.1 free) a b e d))
    (λ a b o. entries_like key f g common each ns ms (put_entry x a es) (put_entry y b ds) h.2 (put_like x y a b es ds c.0 (λ free. o (c.1 free)) q)))
entries_like key f g common each ns ms es ds h q = absurd h

next_like : {A B : Type 0} (R : A → B → Type 0) (i : ℕ) (f g : Node → Reading Marked) (p : Marked → Nodes → Reading A) (q : Marked → Nodes → Reading B) (ns ms : Nodes) → EachLike f g → ItemsLike ns ms
    → ((v w : Marked) (xs ys : Nodes) → SameValue v w → ItemsLike xs ys → Both R (p v xs) (q w ys)) → Both R (reads_next i f p ns) (reads_next i g q ms)
next_like R i f g p q ended ended each h next = λ a b e d. absurd cc
next_like R i f g p q (then_node k n ns) (then_node l m ms) each h next =
    both_bind SameValue R (under_index i (f n)) (under_index i (g m)) (λ v. p v ns) (λ v. q v ms) (both_inside SameValue (at_index i) (at_index i) (f n) (g m) (each n m h.0)) (λ a b s. next a b ns ms s h.1)
next_like R i f g p q ns ms each h next = absurd h

-- ---- structs

abbrev OptionsLike : Option Marked → Option Marked → Type 0
OptionsLike None None = Unit {0}
OptionsLike (Some v) (Some w) = SameValue v w
OptionsLike o p = ⊥

record SlotLike (x y : Slot) : Type 0 where
  pub common : IsCommon x.name
  pub name : x.name ≡ y.name
  pub missing : x.missing ≡ y.missing
  pub each : EachLike x.read y.read
  pub value : OptionsLike x.value y.value

abbrev SlotsLike : Slots → Slots → Type 0
SlotsLike [] [] = Unit {0}
SlotsLike (x ∷ xs) (y ∷ ys) = SlotLike x y × SlotsLike xs ys
SlotsLike xs ys = ⊥

slot_like : (key : Utf8) (n m : Node) (x y : Slot) (o p : Option Marked) → SlotLike x y → OptionsLike o p → Like n m → Both SlotLike (fill_slot key n x o) (fill_slot key m y p)
slot_like key n m x y None None h is like =
    both_bind SameValue SlotLike (under key (x.read n)) (under key (y.read m)) (λ v. Ok (record x { value = Some v })) (λ v. Ok (record y { value = Some v }))
    (both_inside SameValue (at_key key) (at_key key) (x.read n) (y.read m) (h.each n m like))
    (λ a b q. both_ok SlotLike (record x { value = Some a }) (record y { value = Some b }) (record { common = h.common; name = h.name; missing = h.missing; each = h.each; value = q }))
slot_like key n m x y (Some v) p h is like = λ a b e f. absurd cc
slot_like key n m x y None (Some w) h is like = λ a b e f. absurd cc

slots_put_like : (u : UnknownFields) (key : Utf8) (n m : Node) → (IsCommon key → Like n m) → (xs ys : Slots) → SlotsLike xs ys → Both SlotsLike (put_at u key n xs) (put_at u key m ys)
slots_put_like u key n m like [] [] h = both_bind Any SlotsLike (unknown u key n) (unknown u key m) (λ _. Ok []) (λ _. Ok []) (λ a b e f. tt) (λ a b q. both_ok SlotsLike [] [] tt)
slots_put_like u key n m like (x ∷ xs) (y ∷ ys) h =
    subst (λ name. Both SlotsLike (put_at u key n (x ∷ xs)) (cond (bytes_eq name key) (result_map (λ z. z ∷ ys) (fill_slot key m y y.value)) (result_map (λ zs. y ∷ zs) (put_at u key m ys)))) h.0.name
    (both_cond SlotsLike (bytes_eq x.name key) (result_map (λ z. z ∷ xs) (fill_slot key n x x.value)) (result_map (λ zs. x ∷ zs) (put_at u key n xs)) (result_map (λ z. z ∷ ys) (fill_slot key m y y.value)) (result_map (λ zs. y ∷ zs) (put_at u key m ys))
    (λ is. both_map SlotLike SlotsLike (fill_slot key n x x.value) (fill_slot key m y y.value) (λ z. z ∷ xs) (λ z. z ∷ ys)
    (slot_like key n m x y x.value y.value h.0 h.0.value (like (subst IsCommon ((bytes_eq-Decides x.name key).0 is) h.0.common))) (λ a b q. (q, h.1)))
    (λ is. both_map SlotsLike SlotsLike (put_at u key n xs) (put_at u key m ys) (λ zs. x ∷ zs) (λ zs. y ∷ zs) (slots_put_like u key n m like xs ys h.1) (λ a b q. (h.0, q))))
slots_put_like u key n m like xs ys h = absurd h

fill_like : (u : UnknownFields) (ns ms : Nodes) (xs ys : Slots) → NodesLike ns ms → SlotsLike xs ys → Both SlotsLike (fill u ns xs) (fill u ms ys)
fill_like u ended ended xs ys h q = both_ok SlotsLike xs ys q
fill_like u (then_node k n ns) (then_node l m ms) xs ys h q =
    both_bind SlotsLike SlotsLike (put_at u k.bytes n xs) (put_at u l.bytes m ys) (fill u ns) (fill u ms)
    (subst (λ z. Both SlotsLike (put_at u k.bytes n xs) (put_at u z m ys)) h.0 (slots_put_like u k.bytes n m h.1 xs ys q)) (λ a b o. fill_like u ns ms a b h.2 o)
fill_like u ns ms xs ys h q = absurd h

value_like : (name nom : Utf8) (missing absent : Option Marked) (o p : Option Marked) → name ≡ nom → missing ≡ absent → OptionsLike o p → Both SameValue (value_or name missing o) (value_or nom absent p)
value_like name nom missing absent None None e d h = both_same (value_or name missing None) (value_or nom absent None) (λ i. value_or (e i) (d i) None)
value_like name nom missing absent (Some v) (Some w) e d h = both_ok SameValue v w h
value_like name nom missing absent o p e d h = absurd h

finish_like : (xs ys : Slots) → SlotsLike xs ys → Both SameFields (finish xs) (finish ys)
finish_like [] [] h = both_ok SameFields value.no_field_values value.no_field_values (λ _. refl)
finish_like (x ∷ xs) (y ∷ ys) h =
    both_bind SameValue SameFields (value_or x.name x.missing x.value) (value_or y.name y.missing y.value) (λ v. result_map (value.field_value (made x.name) v) (finish xs)) (λ v. result_map (value.field_value (made y.name) v) (finish ys))
    (value_like x.name y.name x.missing y.missing x.value y.value h.0.name h.0.missing h.0.value)
    (λ a b q. both_map SameFields SameFields (finish xs) (finish ys) (value.field_value (made x.name) a) (value.field_value (made y.name) b) (finish_like xs ys h.1) (λ c d o free j. value.field_value (h.0.name j) (q free.0 j) (o free.1 j)))
finish_like xs ys h = absurd h

places_like : (i : ℕ) (xs ys : Slots) (ns ms : Nodes) → SlotsLike xs ys → ItemsLike ns ms → Both SameFields (reads_places i xs ns) (reads_places i ys ms)
places_like i [] [] ns ms h q = both_ok SameFields value.no_field_values value.no_field_values (λ _. refl)
places_like i (x ∷ xs) (y ∷ ys) ns ms h q =
    next_like SameFields i x.read y.read (λ v rest. result_map (value.field_value (made x.name) v) (reads_places (suc i) xs rest)) (λ v rest. result_map (value.field_value (made y.name) v) (reads_places (suc i) ys rest)) ns ms h.0.each q
    (λ v w rs ss s o. both_map SameFields SameFields (reads_places (suc i) xs rs) (reads_places (suc i) ys ss) (value.field_value (made x.name) v) (value.field_value (made y.name) w) (places_like (suc i) xs ys rs ss h.1 o)
    (λ c d t free j. value.field_value (h.0.name j) (s free.0 j) (t free.1 j)))
places_like i xs ys ns ms h q = absurd h

keyed_like : (u : UnknownFields) (xs ys : Slots) (ns ms : Nodes) → SlotsLike xs ys → NodesLike ns ms → Both SameFields (fill u ns xs >>= finish) (fill u ms ys >>= finish)
keyed_like u xs ys ns ms h q = both_bind SlotsLike SameFields (fill u ns xs) (fill u ms ys) finish finish (fill_like u ns ms xs ys q h) finish_like

placed_like : (u : UnknownFields) (xs ys : Slots) (ns ms : Nodes) → SlotsLike xs ys → ItemsLike ns ms → Both SameFields (by_place u xs ns) (by_place u ys ms)
placed_like dropped xs ys ns ms h q = places_like 0 xs ys ns ms h q
placed_like denied xs ys ns ms h q = λ a b e f. absurd cc

structure_like : (u : UnknownFields) (xs ys : Slots) (n m : Node) → SlotsLike xs ys → Like n m → Both SameFields (read_structure u xs n) (read_structure u ys m)
structure_like u xs ys (array z ns) (array r ms) h q = placed_like u xs ys ns ms h q
structure_like u xs ys (document z ns) (document r ms) h q = keyed_like u xs ys ns ms h q.1
structure_like u xs ys (extended x ns) (extended y ms) h q = keyed_like u xs ys ns ms h q.1
structure_like u xs ys (array z ns) (document r ms) h q = absurd q
structure_like u xs ys (array z ns) (extended y ms) h q = absurd q
structure_like u xs ys (document z ns) (array r ms) h q = absurd q
structure_like u xs ys (document z ns) (extended y ms) h q = absurd q
structure_like u xs ys (extended x ns) (array r ms) h q = absurd q
structure_like u xs ys (extended x ns) (document r ms) h q = absurd q
structure_like u xs ys n m h q = λ a b e f. absurd cc

-- ---- enums and options

unit_like : (x y : Utf8) (o p : Option Content) → x ≡ y → Both SameValue (unit_of x o) (tree_unit_of y p)
unit_like x y (Some unit_content) (Some unit_content) h = both_ok SameValue (value.unit_variant (made x)) (value.unit_variant (made y)) (λ _. ap value.unit_variant h)
unit_like x y None p h = λ a b e f. absurd cc
unit_like x y (Some unit_content) None h = λ a b e f. absurd cc
unit_like x y (Some c) (Some d) h = λ a b e f. absurd cc
unit_like x y (Some c) p h = λ a b e f. absurd cc

-- the contents of a tuple variant, and those of a struct variant, that are taken from a tree are taken as in bytes
tuple_content_ok : (read : Nodes → Reading Marked) (ns : Nodes) (v : Marked) → tuple_content_at origins.Tree read ns ≡ Ok v → read ns ≡ Ok v
tuple_content_ok read ended v e = absurd (no_ok e)
tuple_content_ok read (faulty f) v e = absurd (no_ok e)
tuple_content_ok read (then_node k n ns) v e = e

struct_content_ok : (xs : Slots) (n : Node) (vs : MarkedFields) → struct_content_at origins.Tree xs n ≡ Ok vs → read_structure dropped xs n ≡ Ok vs
struct_content_ok xs (document z ns) vs e = e
struct_content_ok xs n vs e = absurd (no_ok e)

abbrev ContentsLike : (Utf8 → Node → Reading Marked) → (Utf8 → Node → Reading Marked) → Type 0
ContentsLike f g = (key : Utf8) (n m : Node) → (IsCommon key → Like n m) → Both SameValue (f key n) (g key m)

first_like : (f g : Utf8 → Node → Reading Marked) → ContentsLike f g → (ns ms : Nodes) → NodesLike ns ms → Both SameValue (read_first f ns) (read_only g ms)
first_like f g each ended ended h = λ a b e d. absurd cc
first_like f g each (then_node k n ns) (then_node l m ended) h = subst (λ z. Both SameValue (f k.bytes n) (g z m)) h.0 (each k.bytes n m h.1)
first_like f g each (then_node k n ns) (then_node l m (faulty x)) h = λ a b e d. absurd cc
first_like f g each (then_node k n ns) (then_node l m (then_node o p ms)) h = λ a b e d. absurd cc
first_like f g each ns ms h = absurd h

enum_like : (vs : Variants) (f g : Utf8 → Node → Reading Marked) → ContentsLike f g → (n m : Node) → Like n m → Both SameValue (read_enum (reads_unit vs) f n) (read_tree_enum (reads_tree_unit vs) g m)
enum_like vs f g each (string p) (string q) h = unit_like p.bytes q.bytes (content_of vs p.bytes) (content_of vs q.bytes) h.0
enum_like vs f g each (document z ns) (document r ms) h = first_like f g each ns ms h.1
enum_like vs f g each (extended x ns) (extended y ms) h = first_like f g each ns ms h.1
enum_like vs f g each (string p) (document r ms) h = absurd h
enum_like vs f g each (string p) (extended y ms) h = absurd h
enum_like vs f g each (document z ns) (string q) h = absurd h
enum_like vs f g each (document z ns) (extended y ms) h = absurd h
enum_like vs f g each (extended x ns) (string q) h = absurd h
enum_like vs f g each (extended x ns) (document r ms) h = absurd h
enum_like vs f g each n m h = λ a b e d. absurd cc

option_like : (n m : Node) (q r : Reading Marked) → Like n m → Both SameValue q r → Both SameValue (reads_option n q) (reads_option m r)
option_like null null q r h s = both_ok SameValue value.none value.none (λ _. refl)
option_like null m q r h s = absurd h
option_like n null q r h s = absurd h
option_like n m q r h s = both_map SameValue SameValue q r value.some value.some s (λ a b o free. ap value.some (o free))

-- ---- all forms

abbrev build_struct : UnknownFields → Utf8 → Slots → Node → Reading Marked
build_struct u name slots k = result_map (value.structure (made name)) (read_structure u slots k)

mutual
  pub reads_like : (s : Form) → SuitsBothWays s → EachLike (reads_from origins.Bytes s) (reads_from origins.Tree s)
  reads_like (leaf l) c n m h = both_judged SameValue n m (read_leaf origins.Bytes (borrows l) (leaf_kind l)) (read_leaf origins.Tree (borrows l) (leaf_kind l)) (leaf_like (borrows l) (leaf_kind l) n m c h)
  reads_like (optional s) c n m h = option_like n m (reads_from origins.Bytes s n) (reads_from origins.Tree s m) h (reads_like s c n m h)
  reads_like (lossy s) c n m h = reads_like s c (mended n) m (mended_like n m h)
  reads_like (human_readable s) c n m h = absurd c
  reads_like (by_mode s t) c n m h = absurd c
  reads_like (reference name) c n m h = both_then SameValue n m (refused (unknown_reference name)) (refused (unknown_reference name)) (λ a b e f. absurd cc)
  reads_like (definitions t s) c n m h = reads_like s c.1 n m h
  reads_like (newtype name s) c n m h =
      both_map SameValue SameValue (reads_from origins.Bytes s n) (reads_from origins.Tree s m) (value.newtype (made name)) (value.newtype (made name)) (reads_like s c.1 n m h)
      (λ a b q free. ap (value.newtype name) (q (subst (λ t. UnlessUuid t (IsFree (contents a))) (not_uuid name c.0) free)))
  reads_like (unit_structure name) c n m h =
      both_bind Any SameValue (judged n >>= null_of) (judged m >>= null_of) (λ _. Ok (value.unit_structure (made name))) (λ _. Ok (value.unit_structure (made name))) (λ a b e f. tt)
      (λ a b q. both_ok SameValue (value.unit_structure (made name)) (value.unit_structure (made name)) (λ _. refl))
  reads_like (sequence s) c n m h =
      both_bind ItemsLike SameValue (judged n >>= array_of) (judged m >>= array_of) (λ ns. result_map value.sequence (reads_items (reads_from origins.Bytes s) 0 ns)) (λ ns. result_map value.sequence (reads_items (reads_from origins.Tree s) 0 ns))
      (both_judged ItemsLike n m array_of array_of (array_like n m h))
      (λ ns ms q. both_map SameItems SameValue (reads_items (reads_from origins.Bytes s) 0 ns) (reads_items (reads_from origins.Tree s) 0 ms) value.sequence value.sequence (items_like (reads_from origins.Bytes s) (reads_from origins.Tree s) (reads_like s c) 0 ns ms q) (λ a b o free. ap value.sequence (o free)))
  reads_like (map key s) c n m h =
      both_bind NodesLike SameValue (judged n >>= document_of) (judged m >>= document_of) (λ ns. result_map value.map (reads_entries (reads_key key) (reads_from origins.Bytes s) ns value.no_entries)) (λ ns. result_map value.map (reads_entries (reads_key key) (reads_from origins.Tree s) ns value.no_entries))
      (both_judged NodesLike n m document_of document_of (document_like n m h))
      (λ ns ms q. both_map EntriesLike SameValue (reads_entries (reads_key key) (reads_from origins.Bytes s) ns value.no_entries) (reads_entries (reads_key key) (reads_from origins.Tree s) ms value.no_entries) value.map value.map
      (entries_like key (reads_from origins.Bytes s) (reads_from origins.Tree s) c.0 (reads_like s c.1) ns ms value.no_entries value.no_entries q tt) (λ a b o free. ap value.map (entries_same a b o free)))
  reads_like (tuple ps) c n m h =
      both_bind ItemsLike SameValue (judged n >>= array_of) (judged m >>= array_of) (λ ns. result_map value.tuple (reads_parts origins.Bytes ps 0 ns)) (λ ns. result_map value.tuple (reads_parts origins.Tree ps 0 ns))
      (both_judged ItemsLike n m array_of array_of (array_like n m h))
      (λ ns ms q. both_map SameItems SameValue (reads_parts origins.Bytes ps 0 ns) (reads_parts origins.Tree ps 0 ms) value.tuple value.tuple (reads_parts_like ps c 0 ns ms q) (λ a b o free. ap value.tuple (o free)))
  reads_like (tuple_structure name ps) c n m h =
      both_bind ItemsLike SameValue (judged n >>= array_of) (judged m >>= array_of) (λ ns. result_map (value.tuple_structure (made name)) (reads_parts origins.Bytes ps 0 ns)) (λ ns. result_map (value.tuple_structure (made name)) (reads_parts origins.Tree ps 0 ns))
      (both_judged ItemsLike n m array_of array_of (array_like n m h))
      (λ ns ms q. both_map SameItems SameValue (reads_parts origins.Bytes ps 0 ns) (reads_parts origins.Tree ps 0 ms) (value.tuple_structure (made name)) (value.tuple_structure (made name)) (reads_parts_like ps c 0 ns ms q)
      (λ a b o free. ap (value.tuple_structure name) (o free)))
  reads_like (enumeration vs) c n m h =
      both_judged SameValue n m (read_enum (reads_unit vs) (reads_variant origins.Bytes vs)) (read_tree_enum (reads_tree_unit vs) (reads_variant origins.Tree vs))
      (enum_like vs (reads_variant origins.Bytes vs) (reads_variant origins.Tree vs) (reads_variant_like vs c) n m h)
  reads_like (structure u name fs) c n m h =
      both_judged SameValue n m (build_struct u name (slots_of origins.Bytes fs)) (build_struct u name (slots_of origins.Tree fs))
      (both_map SameFields SameValue (read_structure u (slots_of origins.Bytes fs) n) (read_structure u (slots_of origins.Tree fs) m) (value.structure (made name)) (value.structure (made name)) (structure_like u (slots_of origins.Bytes fs) (slots_of origins.Tree fs) n m (slots_like fs c.1) h)
      (λ a b q free. ap (value.structure name) (q (subst (λ o. UnlessReserved o (FieldsFree (field_contents a))) (not_reserved name c.0) free))))

  slots_like : (fs : Fields) → EveryField ways_rows fs → SlotsLike (slots_of origins.Bytes fs) (slots_of origins.Tree fs)
  slots_like no_fields c = tt
  slots_like (field name s fs) c = (record { common = c.0; name = refl; missing = refl; each = λ n m h. reads_like s c.1 n m h; value = tt }, slots_like fs c.2)

  reads_parts_like : (ps : Parts) → EveryPart ways_rows ps → (i : ℕ) (ns ms : Nodes) → ItemsLike ns ms → Both SameItems (reads_parts origins.Bytes ps i ns) (reads_parts origins.Tree ps i ms)
  reads_parts_like no_parts c i ns ms h = both_ok SameItems value.no_items value.no_items (λ _. refl)
  reads_parts_like (part s ps) c i ns ms h =
      next_like SameItems i (reads_from origins.Bytes s) (reads_from origins.Tree s) (λ v rest. result_map (value.item v) (reads_parts origins.Bytes ps (suc i) rest)) (λ v rest. result_map (value.item v) (reads_parts origins.Tree ps (suc i) rest)) ns ms (reads_like s c.0) h
      (λ v w rs ss q o. both_map SameItems SameItems (reads_parts origins.Bytes ps (suc i) rs) (reads_parts origins.Tree ps (suc i) ss) (value.item v) (value.item w) (reads_parts_like ps c.1 (suc i) rs ss o) (λ a b t free j. value.item (q free.0 j) (t free.1 j)))

  reads_variant_like : (vs : Variants) → EveryVariant ways_rows vs → ContentsLike (reads_variant origins.Bytes vs) (reads_variant origins.Tree vs)
  reads_variant_like no_variants c key n m h = λ a b e f. absurd cc
  reads_variant_like (variant name d vs) c key n m h =
      both_cond SameValue (bytes_eq name key) (reads_content origins.Bytes name d n) (reads_variant origins.Bytes vs key n) (reads_content origins.Tree name d m) (reads_variant origins.Tree vs key m)
      (λ is. reads_content_like name d c.1 n m (h (subst IsCommon ((bytes_eq-Decides name key).0 is) c.0))) (λ is. reads_variant_like vs c.2 key n m h)

  reads_content_like : (name : Utf8) (d : Content) → EveryContent ways_rows d → EachLike (reads_content origins.Bytes name d) (reads_content origins.Tree name d)
  reads_content_like name unit_content c n m h = λ a b e f. absurd cc
  reads_content_like name (newtype_content s) c n m h =
      both_inside SameValue (at_key name) (at_key name) (result_map (value.newtype_variant (made name)) (reads_from origins.Bytes s n)) (result_map (value.newtype_variant (made name)) (reads_from origins.Tree s m))
      (both_map SameValue SameValue (reads_from origins.Bytes s n) (reads_from origins.Tree s m) (value.newtype_variant (made name)) (value.newtype_variant (made name)) (reads_like s c n m h) (λ a b q free. ap (value.newtype_variant name) (q free)))
  reads_content_like name (tuple_content ps) c n m h =
      let p = λ (ns : Nodes). result_map (value.tuple_variant (made name)) (reads_parts origins.Bytes ps 0 ns) in
      let t = λ (ns : Nodes). result_map (value.tuple_variant (made name)) (reads_parts origins.Tree ps 0 ns) in
      both_inside SameValue (at_key name) (at_key name) (judged n >>= array_of >>= p) (judged m >>= array_of >>= tuple_content_at origins.Tree t)
      (both_bind ItemsLike SameValue (judged n >>= array_of) (judged m >>= array_of) p (tuple_content_at origins.Tree t) (both_judged ItemsLike n m array_of array_of (array_like n m h))
      (λ ns ms q a b e f.
      both_map SameItems SameValue (reads_parts origins.Bytes ps 0 ns) (reads_parts origins.Tree ps 0 ms) (value.tuple_variant (made name)) (value.tuple_variant (made name)) (reads_parts_like ps c 0 ns ms q) (λ x y o free. ap (value.tuple_variant name) (o free))
      a b e (tuple_content_ok t ms b f)))
  reads_content_like name (struct_content fs) c n m h =
      let p = λ (k : Node). result_map (value.structure_variant (made name)) (read_structure dropped (slots_of origins.Bytes fs) k) in
      let t = λ (k : Node). result_map (value.structure_variant (made name)) (struct_content_at origins.Tree (slots_of origins.Tree fs) k) in
      both_inside SameValue (at_key name) (at_key name) (judged n >>= p) (judged m >>= t)
      (both_judged SameValue n m p t
      (both_map SameFields SameValue (read_structure dropped (slots_of origins.Bytes fs) n) (struct_content_at origins.Tree (slots_of origins.Tree fs) m) (value.structure_variant (made name)) (value.structure_variant (made name))
      (λ a b e f. structure_like dropped (slots_of origins.Bytes fs) (slots_of origins.Tree fs) n m (slots_like fs c) h a b e (struct_content_ok (slots_of origins.Tree fs) m b f)) (λ x y q free. ap (value.structure_variant name) (q free))))
