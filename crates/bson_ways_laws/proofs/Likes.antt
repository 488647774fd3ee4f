-- Values that are read alike: the same but for what is borrowed, the order of a regular expression's options, and what is under keys that begin with `$`. Each text
-- of the first is UTF-8, so that it stays as it is where texts are mended.
use Rattle.std.proofs.Common.{◌≡◌, ℕ, suc, [], ◌∷◌, Bool, true, false, cond, Ok, refl, ap, sym, subst, ◌∙◌}
use Rattle.std.specs.Str.{is_utf8}
use Rattle.bson_kinds.specs.Outcome.{◌>>=◌, result_map}
use Rattle.bson_base.specs.Sorted.{sorted}
use Rattle.bson_kinds.proofs.Outcomes.{ok_is}
use Rattle.bson_rawdoc.specs.Node.{Node, double, string, document, array, bytes, boolean, null, int32, int64, extended, too_deep, Extended, binary, undefined, object_id, date_time, regular_expression, db_pointer, javascript_code, symbol, javascript_code_with_scope, timestamp, decimal128, max_key, min_key, Nodes, ended, then_node, opened, mended, mended_text, mended_value, mended_nodes}
use Rattle.bson_kinds.specs.Piece.{Piece, made}
use Rattle.bson_values.specs.Cause.{not_borrowed, not_utf8}
use Rattle.bson_values.specs.Refusal.{at_index, under_index}
use Rattle.bson_laws.specs.Judged.{refused, judged}
use Rattle.bson_laws.specs.Taken.{boolean_of, integer_of, double_of, document_of, array_of, owned_under_mark, text_of, borrow, borrow_or_own, as_text, as_byte, reads_bytes, buffer_of}
use Rattle.bson_laws.proofs.MendedTexts.{mended_whole, whole_mended}
use Rattle.bson_ways_laws.specs.Ways.{IsCommon}
use Rattle.bson_ways_laws.proofs.BothWays.{Both, Equal, both_ok, both_bind, both_map, both_inside, both_judged}
use Rattle.bson_kinds.proofs.Apart.{no_ok}

-- ---- the relation

abbrev pub SameBytes : Piece → Piece → Type 0
SameBytes p q = p.bytes ≡ q.bytes

-- the same text
abbrev pub SameText : Piece → Piece → Type 0
SameText p q = SameBytes p q × (is_utf8 p.bytes ≡ true)

-- no key of the elements begins with `$`
abbrev pub AreCommon : Nodes → Type 0
AreCommon (then_node key n ns) = IsCommon key.bytes × AreCommon ns
AreCommon ns = Unit {0}

abbrev mutual
  pub Like : Node → Node → Type 0
  Like (double a) (double b) = a ≡ b
  Like (string p) (string q) = SameText p q
  Like (document w ns) (document x ms) = AreCommon ns × NodesLike ns ms
  Like (array w ns) (array x ms) = ItemsLike ns ms
  Like (bytes u p) (bytes w q) = SameBytes p q
  Like (boolean a) (boolean b) = a ≡ b
  Like null null = Unit {0}
  Like (int32 a) (int32 b) = a ≡ b
  Like (int64 a) (int64 b) = a ≡ b
  Like (extended x ns) (extended y ms) = ExtendedLike x y × NodesLike ns ms × (ms ≡ opened y)
  Like (too_deep k) (too_deep l) = Unit {0}
  Like n m = ⊥

  pub ExtendedLike : Extended → Extended → Type 0
  ExtendedLike (binary s p) (binary t q) = (s ≡ t) × SameBytes p q
  ExtendedLike undefined undefined = Unit {0}
  ExtendedLike (object_id p) (object_id q) = SameBytes p q
  ExtendedLike (date_time a) (date_time b) = a ≡ b
  ExtendedLike (regular_expression p o) (regular_expression q r) = SameText p q × (sorted o.bytes ≡ sorted r.bytes) × (is_utf8 o.bytes ≡ true)
  ExtendedLike (db_pointer p a) (db_pointer q b) = SameText p q × (a ≡ b)
  ExtendedLike (javascript_code p) (javascript_code q) = SameText p q
  ExtendedLike (symbol p) (symbol q) = SameText p q
  ExtendedLike (javascript_code_with_scope p n) (javascript_code_with_scope q m) = SameText p q × Like n m
  ExtendedLike (timestamp t i) (timestamp u j) = (t ≡ u) × (i ≡ j)
  ExtendedLike (decimal128 p) (decimal128 q) = SameBytes p q
  ExtendedLike max_key max_key = Unit {0}
  ExtendedLike min_key min_key = Unit {0}
  ExtendedLike x y = ⊥

  -- the same keys; the values are alike where the key does not begin with `$`
  pub NodesLike : Nodes → Nodes → Type 0
  NodesLike ended ended = Unit {0}
  NodesLike (then_node k n ns) (then_node l m ms) = SameBytes k l × (IsCommon k.bytes → Like n m) × NodesLike ns ms
  NodesLike ns ms = ⊥

  -- the same for the elements of arrays, whose keys are not looked at
  pub ItemsLike : Nodes → Nodes → Type 0
  ItemsLike ended ended = Unit {0}
  ItemsLike (then_node k n ns) (then_node l m ms) = Like n m × ItemsLike ns ms
  ItemsLike ns ms = ⊥

-- ---- what is opened

-- what is under a key that begins with `$` need not be alike
pub never : {A : Type 0} → true ≡ false → A
never e = absurd cc

-- the documents that alike values are opened to
pub opened_like : (x y : Extended) → ExtendedLike x y → NodesLike (opened x) (opened y)
opened_like (binary s p) (binary t q) h = (refl, λ c. never c, tt)
opened_like undefined undefined h = (refl, λ c. never c, tt)
opened_like (object_id p) (object_id q) h = (refl, λ c. never c, tt)
opened_like (date_time a) (date_time b) h = (refl, λ c. never c, tt)
opened_like (regular_expression p o) (regular_expression q r) h = (refl, λ c. never c, tt)
opened_like (db_pointer p a) (db_pointer q b) h = (refl, λ c. never c, tt)
opened_like (javascript_code p) (javascript_code q) h = (refl, λ c. never c, tt)
opened_like (symbol p) (symbol q) h = (refl, λ c. never c, tt)
opened_like (javascript_code_with_scope p n) (javascript_code_with_scope q m) h = (refl, λ c. never c, (refl, λ c. never c, tt))
opened_like (timestamp t i) (timestamp u j) h = (refl, λ c. never c, tt)
opened_like (decimal128 p) (decimal128 q) h = (refl, λ c. never c, tt)
opened_like max_key max_key h = (refl, λ c. never c, tt)
opened_like min_key min_key h = (refl, λ c. never c, tt)
opened_like x y h = absurd h

-- ---- values whose texts are mended

-- a text is its own mending
text_mended : (p q : Piece) → SameText p q → SameText (mended_text p) q
text_mended p q h = (whole_mended p.bytes h.1 ∙ h.0, mended_whole p.bytes)

mended_common : (ns : Nodes) → AreCommon ns → AreCommon (mended_nodes ns)
mended_common (then_node key n ns) c = (c.0, mended_common ns c.1)
mended_common ns c = tt

mutual
  -- what is like another value is so where its texts are mended
  pub mended_like : (n m : Node) → Like n m → Like (mended n) m
  mended_like (double a) (double b) h = h
  mended_like (string p) (string q) h = text_mended p q h
  mended_like (document w ns) (document x ms) h = (mended_common ns h.0, mended_nodes_like ns ms h.1)
  mended_like (array w ns) (array x ms) h = mended_items_like ns ms h
  mended_like (bytes u p) (bytes w q) h = h
  mended_like (boolean a) (boolean b) h = h
  mended_like null null h = h
  mended_like (int32 a) (int32 b) h = h
  mended_like (int64 a) (int64 b) h = h
  mended_like (extended x ns) (extended y ms) h =
      let l = mended_value_like x y h.0 in (l, subst (NodesLike (opened (mended_value x))) (sym h.2) (opened_like (mended_value x) y l), h.2)
  mended_like (too_deep k) (too_deep l) h = h
  mended_like n m h = absurd h

  mended_value_like : (x y : Extended) → ExtendedLike x y → ExtendedLike (mended_value x) y
  mended_value_like (binary s p) (binary t q) h = h
  mended_value_like undefined undefined h = h
  mended_value_like (object_id p) (object_id q) h = h
  mended_value_like (date_time a) (date_time b) h = h
  mended_value_like (regular_expression p o) (regular_expression q r) h = (text_mended p q h.0, ap sorted (whole_mended o.bytes h.2) ∙ h.1, mended_whole o.bytes)
  mended_value_like (db_pointer p a) (db_pointer q b) h = (text_mended p q h.0, h.1)
  mended_value_like (javascript_code p) (javascript_code q) h = text_mended p q h
  mended_value_like (symbol p) (symbol q) h = text_mended p q h
  mended_value_like (javascript_code_with_scope p n) (javascript_code_with_scope q m) h = (text_mended p q h.0, mended_like n m h.1)
  mended_value_like (timestamp t i) (timestamp u j) h = h
  mended_value_like (decimal128 p) (decimal128 q) h = h
  mended_value_like max_key max_key h = h
  mended_value_like min_key min_key h = h
  mended_value_like x y h = absurd h

  mended_nodes_like : (ns ms : Nodes) → NodesLike ns ms → NodesLike (mended_nodes ns) ms
  mended_nodes_like ended ended h = h
  mended_nodes_like (then_node k n ns) (then_node l m ms) h = (h.0, λ c. mended_like n m (h.1 c), mended_nodes_like ns ms h.2)
  mended_nodes_like ns ms h = absurd h

  mended_items_like : (ns ms : Nodes) → ItemsLike ns ms → ItemsLike (mended_nodes ns) ms
  mended_items_like ended ended h = h
  mended_items_like (then_node k n ns) (then_node l m ms) h = (mended_like n m h.0, mended_items_like ns ms h.1)
  mended_items_like ns ms h = absurd h

-- ---- what is taken of values that are alike

pub boolean_like : (n m : Node) → Like n m → Both Equal (boolean_of n) (boolean_of m)
boolean_like (boolean a) (boolean b) h = both_ok Equal a b h
boolean_like n m h = λ x y e f. absurd cc

pub integer_like : (n m : Node) → Like n m → Both Equal (integer_of n) (integer_of m)
integer_like (int32 a) (int32 b) h = both_ok Equal a b h
integer_like (int64 a) (int64 b) h = both_ok Equal a b h
integer_like (int32 a) (int64 b) h = absurd h
integer_like (int64 a) (int32 b) h = absurd h
integer_like n m h = λ x y e f. absurd cc

pub double_like : (n m : Node) → Like n m → Both Equal (double_of n) (double_of m)
double_like (double a) (double b) h = both_ok Equal a b h
double_like n m h = λ x y e f. absurd cc

pub array_like : (n m : Node) → Like n m → Both ItemsLike (array_of n) (array_of m)
array_like (array w ns) (array x ms) h = both_ok ItemsLike ns ms h
array_like n m h = λ x y e f. absurd cc

pub document_like : (n m : Node) → Like n m → Both NodesLike (document_of n) (document_of m)
document_like (document w ns) (document x ms) h = both_ok NodesLike ns ms h.1
document_like (extended x ns) (extended y ms) h = both_ok NodesLike ns ms h.1
document_like (document w ns) (extended y ms) h = absurd h
document_like (extended x ns) (document w ms) h = absurd h
document_like n m h = λ x y e f. absurd cc

-- ---- texts and byte strings

pub borrow_like : (p q : Piece) → SameBytes p q → Both SameBytes (borrow p) (borrow q)
borrow_like p q h a b e f = sym (ap (λ (x : Piece). x.bytes) (is p a p.in_input e)) ∙ h ∙ ap (λ (x : Piece). x.bytes) (is q b q.in_input f) where
  is : (x y : Piece) (c : Bool) → cond c (Ok x) (refused not_borrowed) ≡ Ok y → x ≡ y
  is x y true g = ok_is x y g
  is x y false g = absurd (no_ok g)

pub own_like : (l : Bool) (p q : Piece) → SameBytes p q → Both SameBytes (borrow_or_own l p) (borrow_or_own l q)
own_like true p q h = borrow_like p q h
own_like false p q h = both_ok SameBytes (made p.bytes) (made q.bytes) h

text_like : (p q : Piece) → SameBytes p q → Both SameBytes (as_text p) (as_text q)
text_like p q h a b e f = sym (ap (λ (x : Piece). x.bytes) (is p a (is_utf8 p.bytes) e)) ∙ h ∙ ap (λ (x : Piece). x.bytes) (is q b (is_utf8 q.bytes) f) where
  is : (x y : Piece) (c : Bool) → cond c (Ok x) (refused not_utf8) ≡ Ok y → x ≡ y
  is x y true g = ok_is x y g
  is x y false g = absurd (no_ok g)

-- a mark changes no byte
pub owned_bytes : (u : Bool) (p : Piece) → SameBytes (owned_under_mark u p) p
owned_bytes true p = refl
owned_bytes false p = refl

pub owned_like : (u w : Bool) (p q : Piece) → SameBytes p q → SameBytes (owned_under_mark u p) (owned_under_mark w q)
owned_like u w p q h = owned_bytes u p ∙ h ∙ sym (owned_bytes w q)

pub texts_like : (l : Bool) (n m : Node) → Like n m → Both SameBytes (text_of l n) (text_of l m)
texts_like l (string p) (string q) h = own_like l p q h.0
texts_like l (bytes u p) (bytes w q) h =
    both_bind SameBytes SameBytes (borrow_or_own l (owned_under_mark u p)) (borrow_or_own l (owned_under_mark w q)) as_text as_text (own_like l (owned_under_mark u p) (owned_under_mark w q) (owned_like u w p q h)) text_like
texts_like l (string p) (bytes w q) h = absurd h
texts_like l (bytes u p) (string q) h = absurd h
texts_like l n m h = λ x y e f. absurd cc

bytes_read_like : (i : ℕ) (ns ms : Nodes) → ItemsLike ns ms → Both Equal (reads_bytes i ns) (reads_bytes i ms)
bytes_read_like i ended ended h = both_ok Equal [] [] refl
bytes_read_like i (then_node k n ns) (then_node l m ms) h =
    both_bind Equal Equal (under_index i (judged n >>= integer_of >>= as_byte)) (under_index i (judged m >>= integer_of >>= as_byte)) (λ b. result_map (λ bs. b ∷ bs) (reads_bytes (suc i) ns)) (λ b. result_map (λ bs. b ∷ bs) (reads_bytes (suc i) ms))
    (both_inside Equal (at_index i) (at_index i) (judged n >>= integer_of >>= as_byte) (judged m >>= integer_of >>= as_byte)
    (both_bind Equal Equal (judged n >>= integer_of) (judged m >>= integer_of) as_byte as_byte (both_judged Equal n m integer_of integer_of (integer_like n m h.0))
    (λ a b q x y e f. ok_is x y (sym e ∙ ap as_byte q ∙ f))))
    (λ a b q. both_map Equal Equal (reads_bytes (suc i) ns) (reads_bytes (suc i) ms) (λ bs. a ∷ bs) (λ bs. b ∷ bs) (bytes_read_like (suc i) ns ms h.1) (λ bs cs r j. q j ∷ r j))
bytes_read_like i ended (then_node l m ms) h = absurd h
bytes_read_like i (then_node k n ns) ended h = absurd h
bytes_read_like i ns ms h = λ x y e f. absurd cc

pub buffers_like : (n m : Node) → Like n m → Both Equal (buffer_of n) (buffer_of m)
buffers_like (string p) (string q) h = both_ok Equal p.bytes q.bytes h.0
buffers_like (bytes u p) (bytes w q) h = both_ok Equal p.bytes q.bytes h
buffers_like (array w ns) (array x ms) h = bytes_read_like 0 ns ms h
buffers_like (string p) (bytes w q) h = absurd h
buffers_like (string p) (array w q) h = absurd h
buffers_like (bytes u p) (string q) h = absurd h
buffers_like (bytes u p) (array w q) h = absurd h
buffers_like (array w p) (string q) h = absurd h
buffers_like (array w p) (bytes u q) h = absurd h
buffers_like n m h = λ x y e f. absurd cc
