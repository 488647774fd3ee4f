-- What reading gives at the leaves of extended kinds.
use Rattle.std.proofs.Common.{◌≡◌, ℕ, ℤ, pos, negsuc, ◌^◌, ◌<◌, zero, suc, [], ◌∷◌, length, Bool, true, false, cond, Option, Some, None, Ok, refl, ap, sym, subst, ◌∙◌, arith}
use Rattle.std.specs.Int.{w32, w64}
use Rattle.std.specs.Ordering.{int_eq}
use Rattle.std.specs.Prelude.{FitsSigned, unsigned_abs, nat_eq, ◌&&◌, ◌||◌, codes, option_map, option_and_then}
use Rattle.std.specs.Str.{is_utf8, bytes_eq}
use Rattle.std.proofs.lemmas.Int.{ints}
use Rattle.std.proofs.lemmas.Bool.Decides.{nat_tests}
use Rattle.uuid.specs.Text.{parsed}
use Rattle.bson_dates.specs.DateText.{date_of_text}
use Rattle.bson_kinds.specs.Kind.{byte}
use Rattle.bson_kinds.specs.Outcome.{◌>>=◌, result_map}
use Rattle.bson_base.specs.Pairs.{put}
use Rattle.bson_base.specs.Parsed.{bytes_of_digits, integer_of_text, bytes_of_base64}
use Rattle.bson_base.specs.Sorted.{sorted}
use Rattle.bson_kinds.specs.Text.{Bytes, Utf8, AreBytes}
use Rattle.bson_base.specs.Tree as tree
use Rattle.bson_base.specs.Tree.{Tree, Pairs, no_pairs, Trees, no_trees, kind}
use Rattle.bson_kinds.specs.declared.element_type.ElementType.{ElementType}
use Rattle.bson_kinds.specs.declared.element_type.ElementType.TheVariants as kinds
use Rattle.bson_kinds.proofs.Outcomes.{some_is, some_map, some_then, ok_is, map_ok, bind_ok}
use Rattle.bson_rawdoc.specs.Node as node
use Rattle.bson_rawdoc.specs.Node.{Sight, Node, Extended, Nodes, ended, faulty, then_node, fault, extended_fault}
use Rattle.bson_kinds.specs.Piece.{Piece, made}
use Rattle.bson_shape.specs.Form.{dropped, Form, leaf, structure, Fields, no_fields, field}
use Rattle.bson_shape.specs.declared.leaf.Leaf.{Leaf}
use Rattle.bson_shape.specs.declared.leaf.Leaf.TheVariants as leaves
use Rattle.bson_values.specs.Cause.{invalid_length, wrong_kind, unknown_field}
use Rattle.bson_values.specs.Marked.{Marked, contents}
use Rattle.bson_values.specs.Refusal.{at_index, under, under_index}
use Rattle.bson_values.specs.Value as value
use Rattle.bson_values.specs.Value.{IntegerType, i32, u32, in_range, Value, FieldValues, no_field_values, field_value}
use Rattle.bson_values.specs.Wrapper.{of_key}
use Rattle.bson_values.specs.declared.wrapper.Wrapper.{Wrapper}
use Rattle.bson_values.specs.declared.wrapper.Wrapper.TheVariants as wrappers
use Rattle.bson_values.specs.declared.wrapper.Wrapper.TheVariants.{Oid, Symbol, NumberInt, NumberLong, NumberDouble, Code, Scope, Date, NumberDecimal, NumberDecimalBytes}
use Rattle.bson_laws.specs.Datum.{datum, itself, uuid_datum}
use Rattle.bson_laws.specs.Leaves as leaf_kinds
use Rattle.bson_laws.specs.Leaves.{ExtendedLeaf, object_ids, uuids, of_kind, documents, leaf_kind}
use Rattle.bson_laws.specs.Judged.{Reading, refused, judged, scope_key}
use Rattle.bson_laws.specs.ReadsLeaf.{no_extended}
use Rattle.bson_laws.specs.ReadsExtended.{tree_of_kind, with_length, object_id_at, or_bad_uuid, uuid_in, uuid_at, read_extended}
use Rattle.bson_laws.specs.Shaped.{reads}
use Rattle.bson_laws.specs.Taken.{text_of}
use Rattle.bson_laws.specs.Trees.{code_key, or_bad, pairs_in, by_meaning, by_key, after_scope, as_tree, extended_tree, array_trees, document_tree, after_code}
use Rattle.bson_laws.specs.Wrapped as meanings
use Rattle.bson_laws.specs.Wrapped.{text_at, text_body, id_of_text, int32_of, double_of_text, one_byte, binary_of_texts, of_length, Body, at, text, with_field, with_fields, a_text, a_number, a_boolean, some_bytes, a_field, two_fields, two_texts, two_numbers, oid_body, date_body, judging, tree_if, being_one, Meaning, body, scope, meaning}
use Rattle.bson_laws.proofs.DatumContents.{datum_contents}
use Rattle.bson_laws.proofs.DateRange.{date_fits}
use Rattle.bson_laws.proofs.Given as given
use Rattle.bson_laws.proofs.Given.{IsGivenLeaf, whole_text}
use Rattle.bson_laws.proofs.GivenTrees.{IsGivenTree, ArePairsGiven, AreTreesGiven, IsGivenExtended, put_given}
use Rattle.bson_laws.proofs.JudgedTexts.{judged_text, no_fault, neither_fault, unfaulted}
use Rattle.bson_laws.proofs.ParsedSizes.{digits_sized, uuid_sized, base64_bytes, integer_fits, sorted_text, sorted_twice}
use Rattle.bson_laws.proofs.Sizes.{inside_ok, under_ok}
use Rattle.bson_laws.proofs.Tame as tame
use Rattle.bson_laws.proofs.Tame.{judged_is, after_judged}
use Rattle.bson_kinds.proofs.Apart.{no_ok, no_some, false_no}

module _ (sight : Sight) where
  abbrev IsTame : Node → Type 0
  IsTame = tame.IsTame sight

  abbrev AreTame : Nodes → Type 0
  AreTame = tame.AreTame sight

  abbrev IsTameValue : Extended → Type 0
  IsTameValue = tame.IsTameValue sight

  abbrev IsGiven : Value → Form → Type 0
  IsGiven = given.IsGiven sight

  abbrev FieldsGiven : FieldValues → Fields → Type 0
  FieldsGiven = given.FieldsGiven sight

  -- ---- bodies

  body_given : (s : Form) (n : Node) (v : Marked) → IsTame n → reads no_extended s n ≡ Ok v → IsGiven (contents v) s
  body_given = given.reads_given no_extended (λ at k n m v t j e. absurd cc) sight

  -- a body whose trees are given
  abbrev MakesGiven : Body → Type 0
  MakesGiven b = (n : Node) (t : Tree) → IsTame n → b n ≡ Ok (Some t) → IsGivenTree t

  -- what is made of what is given at a shape is given
  abbrev Makes : Form → (Value → Option Tree) → Type 0
  Makes s make = (v : Value) (t : Tree) → IsGiven v s → make v ≡ Some t → IsGivenTree t

  at_makes : (s : Form) (make : Value → Option Tree) → Makes s make → MakesGiven (at s make)
  at_makes s make h n t tame e =
      let m = map_ok (λ (v : Marked). make (contents v)) (reads no_extended s n) (Some t) e in
      h (contents m.0) t (body_given s n m.0 tame m.1) m.2

  text_makes : (f : Utf8 → Option Tree) → ((x : Utf8) (t : Tree) → is_utf8 x ≡ true → f x ≡ Some t → IsGivenTree t) → Makes text (a_text f)
  text_makes f h (value.str x) t g e = h x t g.0 e
  text_makes f h v t g e = absurd (no_some e)

  number_makes : (type : IntegerType) (l : Leaf) (f : ℤ → Option Tree) → leaf_kind l ≡ leaf_kinds.numbers type → ((n : ℤ) (t : Tree) → in_range type n ≡ true → f n ≡ Some t → IsGivenTree t) → Makes (leaf l) (a_number f)
  number_makes type l f is h (value.integer other n) t g e = h n t (subst (λ k. IsGivenLeaf k (value.integer other n)) is g.0).1 e
  number_makes type l f is h v t g e = absurd (no_some e)

  fields_of : (name n : Utf8) (vs : FieldValues) (fs : Fields) → IsGiven (value.structure name vs) (structure dropped n fs) → FieldsGiven vs fs
  fields_of name n vs fs g = g.1

  first_of : (key n : Utf8) (v : Value) (s : Form) (vs : FieldValues) (fs : Fields) → FieldsGiven (field_value key v vs) (field n s fs) → IsGiven v s
  first_of key n v s vs fs g = g.1

  rest_of : (key n : Utf8) (v : Value) (s : Form) (vs : FieldValues) (fs : Fields) → FieldsGiven (field_value key v vs) (field n s fs) → FieldsGiven vs fs
  rest_of key n v s vs fs g = g.2

  field_makes : (n : Utf8) (s : Form) (make : Value → Option Tree) → Makes s make → Makes (with_field n s) (a_field make)
  field_makes n s make h (value.structure name (field_value key v no_field_values)) t g e =
      h v t (first_of key n v s no_field_values no_fields (fields_of name [] (field_value key v no_field_values) (field n s no_fields) g)) e
  field_makes n s make h v t g e = absurd (no_some e)

  two_make : (n m : Utf8) (s r : Form) (make : Value → Value → Option Tree) → ((v w : Value) (t : Tree) → IsGiven v s → IsGiven w r → make v w ≡ Some t → IsGivenTree t) → Makes (with_fields n s m r) (two_fields make)
  two_make n m s r make h (value.structure name (field_value key v (field_value other w no_field_values))) t g e =
      let vs = field_value other w no_field_values in
      let fs = field m r no_fields in
      let f = fields_of name [] (field_value key v vs) (field n s fs) g in
      h v w t (first_of key n v s vs fs f) (first_of other m w r no_field_values no_fields (rest_of key n v s vs fs f)) e
  two_make n m s r make h v t g e = absurd (no_some e)

  two_texts_make : (n m : Utf8) (f : Utf8 → Utf8 → Option Tree) → ((x y : Utf8) (t : Tree) → is_utf8 x ≡ true → is_utf8 y ≡ true → f x y ≡ Some t → IsGivenTree t) → Makes (with_fields n text m text) (two_texts f)
  two_texts_make n m f h = two_make n m text text (λ v w. a_text (λ x. a_text (f x) w) v) (λ v w t g k e. text_makes (λ x. a_text (f x) w) (λ x u gx ex. text_makes (f x) (λ y z gy ey. h x y z gx gy ey) w u k ex) v t g e)

  -- ---- texts

  text_given : (n : Node) (x : Utf8) → text_at n ≡ Ok x → is_utf8 x ≡ true
  text_given n x e =
      let m = map_ok (λ (t : Piece). t.bytes) (judged n >>= text_of false) x e in
      let j = bind_ok (judged n) (text_of false) m.0 m.1 in
      let is : n ≡ j.0 = judged_is n j.0 j.1 in
      ap is_utf8 (sym m.2) ∙ whole_text false j.0 j.0 m.0 (ap judged (sym is) ∙ j.1) j.2

  text_body_makes : (f : Utf8 → Option Tree) → ((x : Utf8) (t : Tree) → is_utf8 x ≡ true → f x ≡ Some t → IsGivenTree t) → MakesGiven (text_body f)
  text_body_makes f h n t tame e = let m = map_ok f (text_at n) (Some t) e in h m.0 t (text_given n m.0 m.1) m.2

  -- ---- numbers

  fits_i32 : (n : ℤ) → in_range i32 n ≡ true → FitsSigned w32 n
  fits_i32 (pos n) h = grind (arith, ints, h)
  fits_i32 (negsuc n) h = grind (arith, ints, h)

  small_u32 : (n : ℤ) → in_range u32 n ≡ true → unsigned_abs n < 2 ^ 32
  small_u32 (pos n) h = grind (arith, ints, h)
  small_u32 (negsuc n) h = absurd (false_no h)

  -- ---- the rows

  -- what is built of what an option gives
  mapped : {A : Type 0} (make : A → Tree) (o : Option A) (t : Tree) → ((x : A) → o ≡ Some x → IsGivenTree (make x)) → option_map make o ≡ Some t → IsGivenTree t
  mapped make o t h e = let m = some_map make o t e in subst IsGivenTree m.2 (h m.0 m.1)

  id_made : (x : Utf8) (t : Tree) → id_of_text x ≡ Some t → IsGivenTree t
  id_made x t e = mapped tree.object_id (bytes_of_digits 12 x) t (λ b h. digits_sized 12 x b h) e

  length_made : (n : ℕ) (make : Bytes → Tree) (b : Bytes) (c : Bool) (t : Tree) → nat_eq (length b) n ≡ c → (length b ≡ n → IsGivenTree (make b)) → cond c (Some (make b)) None ≡ Some t → IsGivenTree t
  length_made n make b true t is h e = subst IsGivenTree (some_is (make b) t e) (h (grind (arith, nat_tests, is)))
  length_made n make b false t is h e = absurd (no_some e)

  id_makes : MakesGiven (judging oid_body)
  id_makes n t tame e = by_kind n tame (after_judged n (oid_body) (Some t) e) where
    by_kind : (m : Node) → IsTame m → oid_body m ≡ Ok (Some t) → IsGivenTree t
    by_kind (node.string p) k q = id_made p.bytes t (ok_is (id_of_text p.bytes) (Some t) q)
    by_kind (node.bytes u b) k q = length_made 12 tree.object_id b.bytes (nat_eq (length b.bytes) 12) t refl (λ h. (h, k.0)) (ok_is (of_length 12 tree.object_id b.bytes) (Some t) q)
    by_kind m k q = absurd (no_ok q)

  date_given : (o : Option ℤ) (t : Tree) → ((n : ℤ) → o ≡ Some n → FitsSigned w64 n) → option_map tree.date_time o ≡ Some t → IsGivenTree t
  date_given o t fits e = mapped tree.date_time o t fits e

  date_body_makes : MakesGiven (at (with_field (codes "$numberLong") text) (a_field (a_text (λ x. option_map tree.date_time (integer_of_text x)))))
  date_body_makes =
      at_makes (with_field (codes "$numberLong") text) (a_field (a_text (λ x. option_map tree.date_time (integer_of_text x))))
      (field_makes (codes "$numberLong") text (a_text (λ x. option_map tree.date_time (integer_of_text x)))
      (text_makes (λ x. option_map tree.date_time (integer_of_text x)) (λ x t g e. date_given (integer_of_text x) t (integer_fits x) e)))

  date_makes : MakesGiven (judging date_body)
  date_makes n t tame e = by_kind n tame (after_judged n (date_body) (Some t) e) where
    by_kind : (m : Node) → IsTame m → date_body m ≡ Ok (Some t) → IsGivenTree t
    by_kind (node.string p) k q = date_given (date_of_text p.bytes) t (date_fits p.bytes) (ok_is (option_map tree.date_time (date_of_text p.bytes)) (Some t) q)
    by_kind m k q = date_body_makes m t k q

  int32_either : (n : ℤ) (b : Bool) (t : Tree) → in_range i32 n ≡ b → cond b (Some (tree.int32 n)) None ≡ Some t → IsGivenTree t
  int32_either n true t is e = subst IsGivenTree (some_is (tree.int32 n) t e) (fits_i32 n is)
  int32_either n false t is e = absurd (no_some e)

  int32_made : (o : Option ℤ) (t : Tree) → option_and_then int32_of o ≡ Some t → IsGivenTree t
  int32_made (Some n) t e = int32_either n (in_range i32 n) t refl e
  int32_made None t e = absurd (no_some e)

  double_either : (a b c : Bool) (x y z : Bytes) (t : Tree) → length x ≡ 8 → length y ≡ 8 → length z ≡ 8 → cond a (Some (tree.double x)) (cond b (Some (tree.double y)) (cond c (Some (tree.double z)) None)) ≡ Some t → IsGivenTree t
  double_either true b c x y z t h k l e = subst IsGivenTree (some_is (tree.double x) t e) h
  double_either false true c x y z t h k l e = subst IsGivenTree (some_is (tree.double y) t e) k
  double_either false false true x y z t h k l e = subst IsGivenTree (some_is (tree.double z) t e) l
  double_either false false false x y z t h k l e = absurd (no_some e)

  being_made : (b : Bool) (u t : Tree) → IsGivenTree u → tree_if b u ≡ Some t → IsGivenTree t
  being_made true u t g e = subst IsGivenTree (some_is u t e) g
  being_made false u t g e = absurd (no_some e)

  -- a binary of bytes
  binary_given : (n : ℕ) (b : Bytes) → n < 256 → AreBytes b → IsGivenTree (tree.binary n b)
  binary_given zero b h g = tt
  binary_given (suc n) b h g = (h, g)

  byte_there : (o : Option Bytes) (n : ℕ) → ((b : Bytes) → o ≡ Some b → AreBytes b) → option_and_then one_byte o ≡ Some n → n < 256
  byte_there (Some (b ∷ [])) n h e = subst (λ x. x < 256) (some_is b n e) (h (b ∷ []) refl 0 0 (omega arith))
  byte_there (Some bs) n h e = absurd (no_some e)
  byte_there None n h e = absurd (no_some e)

  binary_made : (base64 subtype : Utf8) (t : Tree) → is_utf8 base64 ≡ true → binary_of_texts base64 subtype ≡ Some t → IsGivenTree t
  binary_made base64 subtype t whole e =
      let a = some_then (λ b. option_map (λ n. tree.binary n b) (option_and_then one_byte (bytes_of_digits 1 subtype))) (bytes_of_base64 base64) t e in
      mapped (λ n. tree.binary n a.0) (option_and_then one_byte (bytes_of_digits 1 subtype)) t (λ n h. binary_given n a.0 (byte_there (bytes_of_digits 1 subtype) n (λ b q. (digits_sized 1 subtype b q).1) h) (base64_bytes base64 a.0 whole a.1)) a.2

  truth_makes : (f : Bool → Option Tree) → ((b : Bool) (t : Tree) → f b ≡ Some t → IsGivenTree t) → Makes (leaf leaves.Bool) (a_boolean f)
  truth_makes f h (value.boolean b) t g e = h b t e
  truth_makes f h v t g e = absurd (no_some e)

  buffer_makes : (f : Bytes → Option Tree) → ((b : Bytes) (t : Tree) → f b ≡ Some t → IsGivenTree t) → Makes (leaf leaves.ByteBuf) (some_bytes f)
  buffer_makes f h (value.bytes b) t g e = h b t e
  buffer_makes f h v t g e = absurd (no_some e)

  regex_made : (p q : Utf8) (t : Tree) → is_utf8 p ≡ true → is_utf8 q ≡ true → Some (tree.regular_expression p (sorted q)) ≡ Some t → IsGivenTree t
  regex_made p q t g h e = subst IsGivenTree (some_is (tree.regular_expression p (sorted q)) t e) (g, sorted_text q h, sorted_twice q h)

  timestamp_made : (n m : ℤ) (t : Tree) → in_range u32 n ≡ true → in_range u32 m ≡ true → Some (tree.timestamp (unsigned_abs n) (unsigned_abs m)) ≡ Some t → IsGivenTree t
  timestamp_made n m t g h e = subst IsGivenTree (some_is (tree.timestamp (unsigned_abs n) (unsigned_abs m)) t e) (small_u32 n g, small_u32 m h)

  timestamp_makes : Makes (with_fields (codes "t") (leaf leaves.U32) (codes "i") (leaf leaves.U32)) (two_numbers (λ t i. Some (tree.timestamp (unsigned_abs t) (unsigned_abs i))))
  timestamp_makes =
      two_make (codes "t") (codes "i") (leaf leaves.U32) (leaf leaves.U32) _
      (λ v w t g k e. number_makes u32 leaves.U32 (λ n. a_number (λ m. Some (tree.timestamp (unsigned_abs n) (unsigned_abs m))) w) refl (λ n u gn en. number_makes u32 leaves.U32 (λ m. Some (tree.timestamp (unsigned_abs n) (unsigned_abs m))) refl (λ m x gm em. timestamp_made n m x gn gm em) w u k en) v t g e)

  pointer_makes : Makes (with_fields (codes "$ref") text (codes "$id") (with_field (codes "$oid") text)) (two_fields (λ v w. a_text (λ t. a_field (a_text (λ id. option_map (tree.db_pointer t) (bytes_of_digits 12 id))) w) v))
  pointer_makes =
      two_make (codes "$ref") (codes "$id") text (with_field (codes "$oid") text) _
      (λ v w t g k e. text_makes (λ x. a_field (a_text (λ id. option_map (tree.db_pointer x) (bytes_of_digits 12 id))) w)
      (λ x u gx ex. field_makes (codes "$oid") text _ (text_makes (λ id. option_map (tree.db_pointer x) (bytes_of_digits 12 id)) (λ id y gid ey. mapped (tree.db_pointer x) (bytes_of_digits 12 id) y (λ b h. let z = digits_sized 12 id b h in (gx, z.0, z.1)) ey)) w u k ex) v t g e)

  one_makes : (u : Tree) → IsGivenTree u → Makes (leaf leaves.U8) (a_number (being_one u))
  one_makes u g = number_makes value.u8 leaves.U8 (being_one u) refl (λ n t r e. being_made (int_eq n (pos 1)) u t g e)

  -- ---- the table

  abbrev MeaningMakes : Meaning → Type 0
  MeaningMakes (body b) = MakesGiven b
  MeaningMakes m = Unit {0}

  wrapper_makes : (w : Wrapper) → MeaningMakes (meaning w)
  wrapper_makes Oid = id_makes
  wrapper_makes Symbol = text_body_makes (λ x. Some (tree.symbol x)) (λ x t g e. subst IsGivenTree (some_is (tree.symbol x) t e) g)
  wrapper_makes NumberInt = text_body_makes (λ x. option_and_then int32_of (integer_of_text x)) (λ x t g e. int32_made (integer_of_text x) t e)
  wrapper_makes NumberLong = text_body_makes (λ x. option_map tree.int64 (integer_of_text x)) (λ x t g e. mapped tree.int64 (integer_of_text x) t (integer_fits x) e)
  wrapper_makes NumberDouble =
      text_body_makes double_of_text (λ x t g e. double_either (bytes_eq x (codes "Infinity")) (bytes_eq x (codes "-Infinity")) (bytes_eq x (codes "NaN")) _ _ _ t refl refl refl e)
  wrapper_makes wrappers.Binary =
      at_makes (with_fields (codes "base64") text (codes "subType") text) (two_texts binary_of_texts) (two_texts_make (codes "base64") (codes "subType") binary_of_texts (λ x y t g h e. binary_made x y t g e))
  wrapper_makes wrappers.Uuid = text_body_makes (λ x. option_map (tree.binary 4) (parsed x)) (λ x t g e. mapped (tree.binary 4) (parsed x) t (λ b h. (omega arith, (uuid_sized x b h).1)) e)
  wrapper_makes Code = tt
  wrapper_makes Scope = tt
  wrapper_makes wrappers.Timestamp = at_makes (with_fields (codes "t") (leaf leaves.U32) (codes "i") (leaf leaves.U32)) _ timestamp_makes
  wrapper_makes wrappers.RegularExpression =
      at_makes (with_fields (codes "pattern") text (codes "options") text) (two_texts (λ p q. Some (tree.regular_expression p (sorted q))))
      (two_texts_make (codes "pattern") (codes "options") (λ p q. Some (tree.regular_expression p (sorted q))) regex_made)
  wrapper_makes wrappers.DbPointer = at_makes (with_fields (codes "$ref") text (codes "$id") (with_field (codes "$oid") text)) _ pointer_makes
  wrapper_makes Date = date_makes
  wrapper_makes wrappers.MinKey = at_makes (leaf leaves.U8) _ (one_makes tree.min_key tt)
  wrapper_makes wrappers.MaxKey = at_makes (leaf leaves.U8) _ (one_makes tree.max_key tt)
  wrapper_makes wrappers.Undefined = at_makes (leaf leaves.Bool) _ (truth_makes (λ b. tree_if b tree.undefined) (λ b t e. being_made b tree.undefined t tt e))
  wrapper_makes NumberDecimal = text_body_makes (λ x. None) (λ x t g e. absurd cc)
  wrapper_makes NumberDecimalBytes =
      at_makes (leaf leaves.ByteBuf) _ (buffer_makes (of_length 16 tree.decimal128) (λ b t e. length_made 16 tree.decimal128 b (nat_eq (length b) 16) t refl (λ h. h) e))

  made_of : (w : Wrapper) (o : Option Tree) (t : Tree) → or_bad w o ≡ Ok t → o ≡ Some t
  made_of w (Some u) t e = ap Some (ok_is u t e)
  made_of w None t e = absurd (no_ok e)

  pairs_of_given : (t : Tree) (ps : Pairs) → IsGivenTree t → pairs_in t ≡ Ok ps → ArePairsGiven ps
  pairs_of_given (tree.document qs) ps g e = subst ArePairsGiven (ok_is qs ps e) g
  pairs_of_given t ps g e = absurd (no_ok e)

  -- ---- what comes after a scope

  scope_code : (key : Utf8) (b : Bool) (n : Node) (ps : Pairs) (t : Tree) → ArePairsGiven ps
      → cond b (result_map (λ x. tree.javascript_code_with_scope x ps) (under key (text_at n))) (refused (unknown_field key)) ≡ Ok t → IsGivenTree t
  scope_code key true n ps t g e =
      let m = map_ok (λ x. tree.javascript_code_with_scope x ps) (under key (text_at n)) t e in
      subst IsGivenTree m.2 (text_given n m.0 (under_ok key (text_at n) m.0 m.1), g)
  scope_code key false n ps t g e = absurd (no_ok e)

  after_scope_given : (ns : Nodes) (ps : Pairs) (t : Tree) → ArePairsGiven ps → after_scope ps ns ≡ Ok t → IsGivenTree t
  after_scope_given ended ps t g e = absurd (no_ok e)
  after_scope_given (faulty f) ps t g e = absurd (no_ok e)
  after_scope_given (then_node key n ns) ps t g e = scope_code key.bytes (bytes_eq key.bytes code_key) n ps t g e

  -- ---- trees

  abbrev reads_tree : Node → Reading Tree
  reads_tree n = judged n >>= λ _. as_tree n

  -- a value that is read as a tree is given
  abbrev ValueGiven : Node → Type 0
  ValueGiven n = (t : Tree) → reads_tree n ≡ Ok t → IsGivenTree t

  -- what is made of an element and of those behind it
  meant_given : (w : Wrapper) (m : Meaning) (key : Utf8) (n : Node) (code : Utf8 → Reading Tree) (ns : Nodes) (t : Tree) → MeaningMakes m → IsTame n → ValueGiven n → ((x : Utf8) → is_utf8 x ≡ true → code x ≡ Ok t → IsGivenTree t)
      → by_meaning w m key n (reads_tree n) code (λ qs. after_scope qs ns) ≡ Ok t → IsGivenTree t
  meant_given w (body b) key n code ns t makes tame each coded e =
      let a = bind_ok (b n) (or_bad w) t (under_ok key (b n >>= or_bad w) t e) in
      makes n t tame (a.1 ∙ ap Ok (made_of w a.0 t a.2))
  meant_given w meanings.code key n code ns t makes tame each coded e =
      let a = bind_ok (under key (text_at n)) code t e in coded a.0 (text_given n a.0 (under_ok key (text_at n) a.0 a.1)) a.2
  meant_given w scope key n code ns t makes tame each coded e =
      let a = bind_ok (under key (reads_tree n >>= pairs_in)) (λ qs. after_scope qs ns) t e in
      let b = bind_ok (reads_tree n) pairs_in a.0 (under_ok key (reads_tree n >>= pairs_in) a.0 a.1) in
      after_scope_given ns a.0 t (pairs_of_given b.0 a.0 (each b.0 b.1) b.2) a.2

  keyed_given : (o : Option Wrapper) (key : Utf8) (n : Node) (others : Tree → Reading Tree) (code : Utf8 → Reading Tree) (ns : Nodes) (t : Tree) → of_key key ≡ o → IsTame n → ValueGiven n
      → ((u : Tree) → of_key key ≡ None → IsGivenTree u → others u ≡ Ok t → IsGivenTree t) → ((x : Utf8) → is_utf8 x ≡ true → code x ≡ Ok t → IsGivenTree t)
      → by_key o key n (reads_tree n) others code (λ qs. after_scope qs ns) ≡ Ok t → IsGivenTree t
  keyed_given None key n others code ns t is tame each rest coded e =
      let a = bind_ok (under key (reads_tree n)) others t e in rest a.0 is (each a.0 (under_ok key (reads_tree n) a.0 a.1)) a.2
  keyed_given (Some w) key n others code ns t is tame each rest coded e = meant_given w (meaning w) key n code ns t (wrapper_makes w) tame each coded e

  code_scope : (b : Bool) (key x : Utf8) (n : Node) (t : Tree) → is_utf8 x ≡ true → ValueGiven n
      → cond b (result_map (tree.javascript_code_with_scope x) (under key (reads_tree n >>= pairs_in))) (refused (unknown_field key)) ≡ Ok t → IsGivenTree t
  code_scope true key x n t g each e =
      let m = map_ok (tree.javascript_code_with_scope x) (under key (reads_tree n >>= pairs_in)) t e in
      let b = bind_ok (reads_tree n) pairs_in m.0 (under_ok key (reads_tree n >>= pairs_in) m.0 m.1) in
      subst IsGivenTree m.2 (g, pairs_of_given b.0 m.0 (each b.0 b.1) b.2)
  code_scope false key x n t g each e = absurd (no_ok e)

  -- a value is given where it is once it is judged
  value_given : (n : Node) → ((m : Node) (t : Tree) → judged n ≡ Ok m → as_tree n ≡ Ok t → IsGivenTree t) → ValueGiven n
  value_given n h t e = let j = bind_ok (judged n) (λ _. as_tree n) t e in h j.0 t j.1 j.2

  mutual
    tree_given : (n m : Node) (t : Tree) → IsTame n → judged n ≡ Ok m → as_tree n ≡ Ok t → IsGivenTree t
    tree_given (node.double bits) m t k j e = subst IsGivenTree (ok_is (tree.double bits) t e) k
    tree_given (node.string p) m t k j e = subst IsGivenTree (ok_is (tree.string p.bytes) t e) (judged_text p m j)
    tree_given (node.document slice ns) m t k j e = document_given ns no_pairs t k.1 tt e
    tree_given (node.array slice ns) m t k j e = let r = map_ok tree.array (array_trees 0 ns) t e in subst IsGivenTree r.2 (items_given 0 ns r.0 k.1 r.1)
    tree_given (node.bytes u b) m t k j e = subst IsGivenTree (ok_is (tree.binary 0 b.bytes) t e) tt
    tree_given (node.boolean b) m t k j e = subst IsGivenTree (ok_is (tree.boolean b) t e) tt
    tree_given node.null m t k j e = subst IsGivenTree (ok_is tree.null t e) tt
    tree_given (node.int32 n) m t k j e = subst IsGivenTree (ok_is (tree.int32 n) t e) k
    tree_given (node.int64 n) m t k j e = subst IsGivenTree (ok_is (tree.int64 n) t e) k
    tree_given (node.extended x ns) m t k j e = extended_value_given x t k.0 (no_fault (extended_fault x) (node.extended x ns) m j) e
    tree_given n m t k j e = absurd (no_ok e)

    extended_value_given : (x : Extended) (t : Tree) → IsTameValue x → extended_fault x ≡ None → extended_tree x ≡ Ok t → IsGivenTree t
    extended_value_given (node.binary s b) t k f e = subst IsGivenTree (ok_is (tree.binary s b.bytes) t e) (binary_given s b.bytes k.0 k.1)
    extended_value_given node.undefined t k f e = subst IsGivenTree (ok_is tree.undefined t e) tt
    extended_value_given (node.object_id id) t k f e = subst IsGivenTree (ok_is (tree.object_id id.bytes) t e) (k.0, k.1)
    extended_value_given (node.date_time n) t k f e = subst IsGivenTree (ok_is (tree.date_time n) t e) k
    extended_value_given (node.regular_expression p q) t k f e =
        let b = neither_fault (node.text_fault p) (node.text_fault q) f in
        regex_made p.bytes q.bytes t (unfaulted p b.0) (unfaulted q b.1) (ap Some (ok_is (tree.regular_expression p.bytes (sorted q.bytes)) t e))
    extended_value_given (node.db_pointer namespace id) t k f e = subst IsGivenTree (ok_is (tree.db_pointer namespace.bytes id) t e) (unfaulted namespace f, k.0, k.1)
    extended_value_given (node.javascript_code p) t k f e = subst IsGivenTree (ok_is (tree.javascript_code p.bytes) t e) (unfaulted p f)
    extended_value_given (node.symbol p) t k f e = subst IsGivenTree (ok_is (tree.symbol p.bytes) t e) (unfaulted p f)
    extended_value_given (node.javascript_code_with_scope p n) t k f e =
        let b = neither_fault (node.text_fault p) (fault n) f in
        let m = map_ok (tree.javascript_code_with_scope p.bytes) (under scope_key (reads_tree n >>= pairs_in)) t e in
        let r = bind_ok (reads_tree n) pairs_in m.0 (under_ok scope_key (reads_tree n >>= pairs_in) m.0 m.1) in
        subst IsGivenTree m.2 (unfaulted p b.0, pairs_of_given r.0 m.0 (value_given n (λ m u j q. tree_given n m u k.0 j q) r.0 r.1) r.2)
    extended_value_given (node.timestamp time increment) t k f e = subst IsGivenTree (ok_is (tree.timestamp time increment) t e) k
    extended_value_given (node.decimal128 b) t k f e = subst IsGivenTree (ok_is (tree.decimal128 b.bytes) t e) k.0
    extended_value_given node.max_key t k f e = subst IsGivenTree (ok_is tree.max_key t e) tt
    extended_value_given node.min_key t k f e = subst IsGivenTree (ok_is tree.min_key t e) tt

    items_given : (i : ℕ) (ns : Nodes) (ts : Trees) → AreTame ns → array_trees i ns ≡ Ok ts → AreTreesGiven ts
    items_given i ended ts k e = subst AreTreesGiven (ok_is no_trees ts e) tt
    items_given i (faulty f) ts k e = absurd (no_ok e)
    items_given i (then_node key n ns) ts k e =
        let a = bind_ok (under_index i (reads_tree n)) (λ t. result_map (tree.tree t) (array_trees (suc i) ns)) ts e in
        let b = map_ok (tree.tree a.0) (array_trees (suc i) ns) ts a.2 in
        subst AreTreesGiven b.2 (value_given n (λ m u j q. tree_given n m u k.1 j q) a.0 (inside_ok (at_index i) (reads_tree n) a.0 a.1), items_given (suc i) ns b.0 k.2 b.1)

    document_given : (ns : Nodes) (ps : Pairs) (t : Tree) → AreTame ns → ArePairsGiven ps → document_tree ns ps ≡ Ok t → IsGivenTree t
    document_given ended ps t k g e = subst IsGivenTree (ok_is (tree.document ps) t e) g
    document_given (faulty f) ps t k g e = absurd (no_ok e)
    document_given (then_node key n ns) ps t k g e =
        keyed_given (of_key key.bytes) key.bytes n (λ u. document_tree ns (put key.bytes u ps)) (λ x. after_code x ns) ns t refl k.1 (value_given n (λ m u j q. tree_given n m u k.1 j q))
        (λ u none h q. document_given ns (put key.bytes u ps) t k.2 (put_given key.bytes u ps k.0 none h g) q) (λ x h q. after_code_given x ns t h k.2 q) e

    after_code_given : (x : Utf8) (ns : Nodes) (t : Tree) → is_utf8 x ≡ true → AreTame ns → after_code x ns ≡ Ok t → IsGivenTree t
    after_code_given x ended t g k e = subst IsGivenTree (ok_is (tree.javascript_code x) t e) g
    after_code_given x (faulty f) t g k e = absurd (no_ok e)
    after_code_given x (then_node key n ns) t g k e = code_scope (bytes_eq key.bytes scope_key) key.bytes x n t g (value_given n (λ m u j q. tree_given n m u k.1 j q)) e

  -- ---- at the leaves of extended kinds

  -- what is given is the value of such a tree
  datum_given : (P : Tree → Type 0) (r : Reading Tree) (v : Marked) → ((t : Tree) → r ≡ Ok t → P t) → result_map (datum made) r ≡ Ok v → (t : Tree) × P t × (contents v ≡ datum itself t)
  datum_given P r v h e = let m = map_ok (datum made) r v e in (m.0, h m.0 m.1, ap contents (sym m.2) ∙ datum_contents m.0)

  kind_either : (b : Bool) (k : ElementType) (t u : Tree) → nat_eq (byte (kind t)) (byte k) ≡ b → cond b (Ok t) (refused (wrong_kind (kind t))) ≡ Ok u → (t ≡ u) × (nat_eq (byte (kind u)) (byte k) ≡ true)
  kind_either true k t u is e = let same = ok_is t u e in (same, subst (λ x. nat_eq (byte (kind x)) (byte k) ≡ true) same is)
  kind_either false k t u is e = absurd (no_ok e)

  kind_is : (k : ElementType) (t u : Tree) → tree_of_kind k t ≡ Ok u → (t ≡ u) × (nat_eq (byte (kind u)) (byte k) ≡ true)
  kind_is k t u e = kind_either (nat_eq (byte (kind t)) (byte k)) k t u refl e

  long_either : (b : Bool) (n : ℕ) (x y : Bytes) → nat_eq (length x) n ≡ b → cond b (Ok x) (refused (invalid_length (length x))) ≡ Ok y → length y ≡ n
  long_either true n x y is e = subst (λ (z : Bytes). length z ≡ n) (ok_is x y e) (grind (arith, nat_tests, is))
  long_either false n x y is e = absurd (no_ok e)

  long_is : (n : ℕ) (x y : Bytes) → with_length n x ≡ Ok y → length y ≡ n
  long_is n x y e = long_either (nat_eq (length x) n) n x y refl e

  long_both : (b : Bool) (n : ℕ) (x y : Bytes) → cond b (Ok x) (refused (invalid_length (length x))) ≡ Ok y → x ≡ y
  long_both true n x y e = ok_is x y e
  long_both false n x y e = absurd (no_ok e)

  long_same : (n : ℕ) (x y : Bytes) → with_length n x ≡ Ok y → x ≡ y
  long_same n x y e = long_both (nat_eq (length x) n) n x y e

  -- an ObjectId
  abbrev IsId : Tree → Type 0
  IsId t = (id : Bytes) × IsGivenTree (tree.object_id id) × (t ≡ tree.object_id id)

  id_of_kind : (t : Tree) → IsGivenTree t → nat_eq (byte (kind t)) (byte kinds.ObjectId) ≡ true → IsId t
  id_of_kind (tree.object_id id) g e = (id, g, refl)
  id_of_kind (tree.raw k b) g e = absurd g
  id_of_kind t g e = absurd (false_no e)

  id_given : (n m : Node) (t : Tree) → IsTame n → judged n ≡ Ok m → object_id_at n ≡ Ok t → IsId t
  id_given (node.extended (node.object_id id) ns) m t k j e = (id.bytes, (k.0.0, k.0.1), sym (ok_is (tree.object_id id.bytes) t e))
  id_given (node.string p) m t k j e =
      let s = some_map tree.object_id (bytes_of_digits 12 p.bytes) t (made_of Oid (id_of_text p.bytes) t e) in (s.0, digits_sized 12 p.bytes s.0 s.1, sym s.2)
  id_given (node.bytes u b) m t k j e = let r = map_ok tree.object_id (with_length 12 b.bytes) t e in (r.0, (long_is 12 b.bytes r.0 r.1, subst AreBytes (long_same 12 b.bytes r.0 r.1) k.0), sym r.2)
  id_given (node.document slice ns) m t k j e =
      let a = bind_ok (as_tree (node.document slice ns)) (tree_of_kind kinds.ObjectId) t e in
      let is = kind_is kinds.ObjectId a.0 t a.2 in
      id_of_kind t (subst IsGivenTree is.0 (tree_given (node.document slice ns) m a.0 k j a.1)) is.1
  id_given n m t k j e = absurd (no_ok e)

  uuid_either : (a b : Bool) (x y : Bytes) → nat_eq (length x) 16 ≡ b → cond (a && b) (Ok x) (refused (wrong_kind kinds.Binary)) ≡ Ok y → length y ≡ 16
  uuid_either true true x y is e = subst (λ (z : Bytes). length z ≡ 16) (ok_is x y e) (grind (arith, nat_tests, is))
  uuid_either true false x y is e = absurd (no_ok e)
  uuid_either false b x y is e = absurd (no_ok e)

  uuid_of_tree : (t : Tree) (b : Bytes) → uuid_in t ≡ Ok b → length b ≡ 16
  uuid_of_tree (tree.binary s x) b e = uuid_either (nat_eq s 0 || nat_eq s 4) (nat_eq (length x) 16) x b refl e
  uuid_of_tree t b e = absurd (no_ok e)

  uuid_text : (o : Option Bytes) (b : Bytes) → or_bad_uuid o ≡ Ok b → o ≡ Some b
  uuid_text (Some x) b e = ap Some (ok_is x b e)
  uuid_text None b e = absurd (no_ok e)

  uuid_subtype : (c : Bool) (s : ℕ) (x b : Bytes) (r : Reading Bytes) → (r ≡ Ok b → ⊥) → cond c (with_length 16 x) r ≡ Ok b → length b ≡ 16
  uuid_subtype true s x b r other e = long_is 16 x b e
  uuid_subtype false s x b r other e = absurd (other e)

  uuid_given : (n : Node) (b : Bytes) → uuid_at n ≡ Ok b → length b ≡ 16
  uuid_given (node.extended (node.binary s x) ns) b e = uuid_subtype (nat_eq s 4) s x.bytes b _ (λ q. cc) e
  uuid_given (node.string p) b e = (uuid_sized p.bytes b (uuid_text (parsed p.bytes) b e)).0
  uuid_given (node.document slice ns) b e = let a = bind_ok (as_tree (node.document slice ns)) uuid_in b e in uuid_of_tree a.0 b a.2
  uuid_given n b e = absurd (no_ok e)

  pub extended_given : (k : ExtendedLeaf) (n m : Node) (v : Marked) → IsTame n → judged n ≡ Ok m → read_extended k n ≡ Ok v → IsGivenExtended k (contents v)
  extended_given object_ids n m v k j e =
      let d = datum_given IsId (object_id_at n) v (λ t q. id_given n m t k j q) e in (d.1.0, d.1.1, d.2 ∙ ap (datum itself) d.1.2)
  extended_given uuids n m v k j e = let r = map_ok (uuid_datum made) (uuid_at n) v e in (r.0, uuid_given n r.0 r.1, ap contents (sym r.2))
  extended_given (of_kind kind) n m v k j e =
      let d = datum_given (λ t. IsGivenTree t × (nat_eq (byte (tree.kind t)) (byte kind) ≡ true)) (as_tree n >>= tree_of_kind kind) v
      (λ t q. let a = bind_ok (as_tree n) (tree_of_kind kind) t q in let is = kind_is kind a.0 t a.2 in (subst IsGivenTree is.0 (tree_given n m a.0 k j a.1), is.1)) e in
      (d.0, d.1.1, d.1.0, d.2)
  extended_given leaf_kinds.trees n m v k j e = datum_given IsGivenTree (as_tree n) v (λ t q. tree_given n m t k j q) e
  extended_given documents n m v k j e =
      let r = map_ok (λ ps. datum made (tree.document ps)) (as_tree n >>= pairs_in) v e in
      let a = bind_ok (as_tree n) pairs_in r.0 r.1 in
      (r.0, pairs_of_given a.0 r.0 (tree_given n m a.0 k j a.1) a.2, ap contents (sym r.2) ∙ datum_contents (tree.document r.0))
