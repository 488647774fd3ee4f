-- Wrapper keys that make no binary.
use Rattle.std.proofs.Common.{◌≡◌, ℕ, ℤ, Bool, true, false, cond, Option, Some, None, Ok, refl, ap, sym, ◌∙◌}
use Rattle.std.specs.Prelude.{option_map, option_and_then, nat_eq, length, codes, pos, unsigned_abs}
use Rattle.std.specs.Ordering.{int_eq}
use Rattle.std.specs.Str.{bytes_eq}
use Rattle.bson_dates.specs.DateText.{date_of_text}
use Rattle.bson_kinds.specs.Outcome.{◌>>=◌, result_map}
use Rattle.bson_base.specs.Parsed.{bytes_of_digits, integer_of_text}
use Rattle.bson_base.specs.Sorted.{sorted}
use Rattle.bson_kinds.specs.Text.{Bytes, Utf8}
use Rattle.bson_base.specs.Tree as tree
use Rattle.bson_base.specs.Tree.{Tree, Pairs, kind}
use Rattle.bson_kinds.proofs.Outcomes.{some_is, some_map, some_then, map_ok, bind_ok, ok_is}
use Rattle.bson_rawdoc.specs.Node.{Node, string, bytes, Nodes, ended, faulty, then_node}
use Rattle.bson_shape.specs.Form.{Form, leaf}
use Rattle.bson_shape.specs.declared.leaf.Leaf.TheVariants as leaves
use Rattle.bson_shape.specs.declared.leaf.Leaf.TheVariants.{U8, U32, ByteBuf}
use Rattle.bson_values.specs.Cause.{Cause, unknown_field, wrong_kind}
use Rattle.bson_values.specs.Marked.{contents}
use Rattle.bson_values.specs.Refusal.{under}
use Rattle.bson_values.specs.Value as value
use Rattle.bson_values.specs.Value.{Value, no_field_values, field_value, in_range, i32}
use Rattle.bson_values.specs.declared.wrapper.Wrapper.{Wrapper}
use Rattle.bson_values.specs.declared.wrapper.Wrapper.TheVariants.{Oid, Symbol, NumberInt, NumberLong, NumberDouble, Binary, Uuid, Code, Scope, Timestamp, RegularExpression, DbPointer, Date, MinKey, MaxKey, Undefined, NumberDecimal, NumberDecimalBytes}
use Rattle.bson_laws.specs.Judged.{Reading, refused, judged, scope_key}
use Rattle.bson_laws.specs.ReadsLeaf.{no_extended}
use Rattle.bson_laws.specs.ReadsExtended.{uuid_in}
use Rattle.bson_laws.specs.Shaped.{reads}
use Rattle.bson_laws.specs.Trees.{or_bad, pairs_in, by_meaning, after_code, after_scope, code_key, as_tree}
use Rattle.bson_laws.specs.Wrapped.{Body, Meaning, body, code, scope, meaning, judging, oid_body, date_body, at, text_at, text_body, a_text, a_number, a_boolean, some_bytes, a_field, two_fields, tree_if, being_one, of_length, int32_of, double_of_text, id_of_text, two_numbers, two_texts, with_field, with_fields, text}
use Rattle.bson_laws.proofs.Sizes.{under_ok}
use Rattle.bson_wrapped.specs.Bodies.{body_of}
use Rattle.bson_trees.specs.Leaves.{makes_binary}

-- a binary, or what is given by its bytes
abbrev pub is_binary_or_raw : Tree → Bool
is_binary_or_raw (tree.binary subtype b) = true
is_binary_or_raw (tree.raw k b) = true
is_binary_or_raw t = false

-- no tree that is made is a binary, or is given by its bytes
abbrev MakesOther : {X : Type 0} → (X → Option Tree) → Type 0
MakesOther {X = X} make = (x : X) (t : Tree) → make x ≡ Some t → is_binary_or_raw t ≡ false

abbrev BodyOther : Body → Type 0
BodyOther read = (n : Node) (t : Tree) → read n ≡ Ok (Some t) → is_binary_or_raw t ≡ false

some_other : (u t : Tree) → is_binary_or_raw u ≡ false → Some u ≡ Some t → is_binary_or_raw t ≡ false
some_other u t other e = ap is_binary_or_raw (sym (some_is u t e)) ∙ other

mapped_other : {A : Type 0} (f : A → Tree) (o : Option A) (t : Tree) → ((x : A) → is_binary_or_raw (f x) ≡ false) → option_map f o ≡ Some t → is_binary_or_raw t ≡ false
mapped_other f o t other e = let m = some_map f o t e in ap is_binary_or_raw (sym m.2) ∙ other m.0

chosen_other : (b : Bool) (u t : Tree) → is_binary_or_raw u ≡ false → (let o : Option Tree = cond b (Some u) None in o) ≡ Some t → is_binary_or_raw t ≡ false
chosen_other true u t other e = some_other u t other e
chosen_other false u t other e = absurd cc

text_other : (make : Utf8 → Option Tree) → MakesOther make → MakesOther (a_text make)
text_other make h (value.str x) t e = h x t e
text_other make h v t e = absurd cc

number_other : (make : ℤ → Option Tree) → MakesOther make → MakesOther (a_number make)
number_other make h (value.integer type n) t e = h n t e
number_other make h v t e = absurd cc

boolean_other : (make : Bool → Option Tree) → MakesOther make → MakesOther (a_boolean make)
boolean_other make h (value.boolean b) t e = h b t e
boolean_other make h v t e = absurd cc

bytes_other : (make : Bytes → Option Tree) → MakesOther make → MakesOther (some_bytes make)
bytes_other make h (value.bytes b) t e = h b t e
bytes_other make h v t e = absurd cc

field_other : (make : Value → Option Tree) → MakesOther make → MakesOther (a_field make)
field_other make h (value.structure name (field_value key v no_field_values)) t e = h v t e
field_other make h v t e = absurd cc

fields_other : (make : Value → Value → Option Tree) → ((v : Value) → MakesOther (make v)) → MakesOther (two_fields make)
fields_other make h (value.structure name (field_value key v (field_value other w no_field_values))) t e = h v w t e
fields_other make h v t e = absurd cc

-- ---- bodies

text_body_other : (make : Utf8 → Option Tree) → MakesOther make → BodyOther (text_body make)
text_body_other make h n t e = let m = map_ok make (text_at n) (Some t) e in h m.0 t m.2

at_other : (s : Form) (make : Value → Option Tree) → MakesOther make → BodyOther (at s make)
at_other s make h n t e = let m = map_ok (λ v. make (contents v)) (reads no_extended s n) (Some t) e in h (contents m.0) t m.2

judging_other : (read : Body) → BodyOther read → BodyOther (judging read)
judging_other read h n t e = let m = bind_ok (judged n) (read) (Some t) e in h m.0 t m.2

id_other : MakesOther id_of_text
id_other x t e = mapped_other tree.object_id (bytes_of_digits 12 x) t (λ b. refl) e

length_other : (n : ℕ) (make : Bytes → Tree) → ((b : Bytes) → is_binary_or_raw (make b) ≡ false) → MakesOther (of_length n make)
length_other n make h b t e = chosen_other (nat_eq (length b) n) (make b) t (h b) e

oid_other : BodyOther oid_body
oid_other (string x) t e = id_other x.bytes t (ok_is (id_of_text x.bytes) (Some t) e)
oid_other (bytes u b) t e = length_other 12 tree.object_id (λ c. refl) b.bytes t (ok_is (of_length 12 tree.object_id b.bytes) (Some t) e)
oid_other n t e = absurd cc

millis_other : MakesOther (λ x. option_map tree.date_time (integer_of_text x))
millis_other x t e = mapped_other tree.date_time (integer_of_text x) t (λ n. refl) e

date_other : BodyOther date_body
date_other (string x) t e = mapped_other tree.date_time (date_of_text x.bytes) t (λ n. refl) (ok_is (option_map tree.date_time (date_of_text x.bytes)) (Some t) e)
date_other n t e = at_other (with_field (codes "$numberLong") text) (a_field (a_text (λ x. option_map tree.date_time (integer_of_text x)))) (field_other (a_text (λ x. option_map tree.date_time (integer_of_text x))) (text_other (λ x. option_map tree.date_time (integer_of_text x)) millis_other)) n t e

int32_other : MakesOther (λ x. option_and_then int32_of (integer_of_text x))
int32_other x t e = let m = some_then int32_of (integer_of_text x) t e in chosen_other (in_range i32 m.0) (tree.int32 m.0) t refl m.2

double_other : MakesOther double_of_text
double_other x t e = one_of_three _ _ _ (bytes_eq x (codes "Infinity")) (bytes_eq x (codes "-Infinity")) (bytes_eq x (codes "NaN")) e where
  one_of_three : (u v w : Bytes) (a b c : Bool) → (let o : Option Tree = cond a (Some (tree.double u)) (cond b (Some (tree.double v)) (cond c (Some (tree.double w)) None)) in o) ≡ Some t → is_binary_or_raw t ≡ false
  one_of_three u v w true b c e = some_other (tree.double u) t refl e
  one_of_three u v w false true c e = some_other (tree.double v) t refl e
  one_of_three u v w false false true e = some_other (tree.double w) t refl e
  one_of_three u v w false false false e = absurd cc

if_other : (b : Bool) (u t : Tree) → is_binary_or_raw u ≡ false → tree_if b u ≡ Some t → is_binary_or_raw t ≡ false
if_other true u t other e = some_other u t other e
if_other false u t other e = absurd cc

two_numbers_other : (make : ℤ → ℤ → Option Tree) → ((n : ℤ) → MakesOther (make n)) → MakesOther (two_numbers make)
two_numbers_other make h =
    fields_other (λ v w. a_number (λ n. a_number (make n) w) v) (λ v w t e. number_other (λ n. a_number (make n) w) (λ n u f. number_other (make n) (h n) w u f) v t e)

two_texts_other : (make : Utf8 → Utf8 → Option Tree) → ((x : Utf8) → MakesOther (make x)) → MakesOther (two_texts make)
two_texts_other make h = fields_other (λ v w. a_text (λ x. a_text (make x) w) v) (λ v w t e. text_other (λ x. a_text (make x) w) (λ x u f. text_other (make x) (h x) w u f) v t e)

abbrev stamp : ℤ → ℤ → Option Tree
stamp n i = Some (tree.timestamp (unsigned_abs n) (unsigned_abs i))

abbrev expression : Utf8 → Utf8 → Option Tree
expression p o = Some (tree.regular_expression p (sorted o))

abbrev pointer : Utf8 → Utf8 → Option Tree
pointer x id = option_map (tree.db_pointer x) (bytes_of_digits 12 id)

abbrev pointer_in : Value → Value → Option Tree
pointer_in v w = a_text (λ x. a_field (a_text (pointer x)) w) v

pointer_other : MakesOther (two_fields pointer_in)
pointer_other =
    fields_other pointer_in (λ v w t e. text_other (λ x. a_field (a_text (pointer x)) w)
    (λ x u f. field_other (a_text (pointer x)) (text_other (pointer x) (λ id z g. mapped_other (tree.db_pointer x) (bytes_of_digits 12 id) z (λ c. refl) g)) w u f) v t e)

-- the body of every wrapper key but two
body_other : (w : Wrapper) → makes_binary w ≡ false → BodyOther (body_of (meaning w))
body_other Oid other = judging_other oid_body oid_other
body_other Symbol other = text_body_other (λ x. Some (tree.symbol x)) (λ x t e. some_other (tree.symbol x) t refl e)
body_other NumberInt other = text_body_other (λ x. option_and_then int32_of (integer_of_text x)) int32_other
body_other NumberLong other = text_body_other (λ x. option_map tree.int64 (integer_of_text x)) (λ x t e. mapped_other tree.int64 (integer_of_text x) t (λ n. refl) e)
body_other NumberDouble other = text_body_other double_of_text double_other
body_other Binary other = absurd cc
body_other Uuid other = absurd cc
body_other Code other = λ n t e. absurd cc
body_other Scope other = λ n t e. absurd cc
body_other Timestamp other =
    at_other (with_fields (codes "t") (leaf U32) (codes "i") (leaf U32)) (two_numbers stamp) (two_numbers_other stamp (λ n i t e. some_other (tree.timestamp (unsigned_abs n) (unsigned_abs i)) t refl e))
body_other RegularExpression other =
    at_other (with_fields (codes "pattern") text (codes "options") text) (two_texts expression) (two_texts_other expression (λ p o t e. some_other (tree.regular_expression p (sorted o)) t refl e))
body_other DbPointer other = at_other (with_fields (codes "$ref") text (codes "$id") (with_field (codes "$oid") text)) (two_fields pointer_in) pointer_other
body_other Date other = judging_other date_body date_other
body_other MinKey other = at_other (leaf U8) (a_number (being_one tree.min_key)) (number_other (being_one tree.min_key) (λ n t e. if_other (int_eq n (pos 1)) tree.min_key t refl e))
body_other MaxKey other = at_other (leaf U8) (a_number (being_one tree.max_key)) (number_other (being_one tree.max_key) (λ n t e. if_other (int_eq n (pos 1)) tree.max_key t refl e))
body_other Undefined other =
    at_other (leaf leaves.Bool) (a_boolean (λ x. tree_if x tree.undefined)) (boolean_other (λ x. tree_if x tree.undefined) (λ x t e. if_other x tree.undefined t refl e))
body_other NumberDecimal other = text_body_other (λ x. None) (λ x t e. absurd cc)
body_other NumberDecimalBytes other =
    at_other (leaf ByteBuf) (some_bytes (of_length 16 tree.decimal128)) (bytes_other (of_length 16 tree.decimal128) (length_other 16 tree.decimal128 (λ c. refl)))

-- ---- code

ok_other : (u t : Tree) → is_binary_or_raw u ≡ false → (let r : Reading Tree = Ok u in r) ≡ Ok t → is_binary_or_raw t ≡ false
ok_other u t other e = ap is_binary_or_raw (sym (ok_is u t e)) ∙ other

scoped_other : {A : Type 0} (b : Bool) (f : A → Tree) (r : Reading A) (c : Cause) (t : Tree) → ((x : A) → is_binary_or_raw (f x) ≡ false) → cond b (result_map f r) (refused c) ≡ Ok t → is_binary_or_raw t ≡ false
scoped_other true f r c t h e = let m = map_ok f r t e in ap is_binary_or_raw (sym m.2) ∙ h m.0
scoped_other false f r c t h e = absurd cc

code_other : (x : Utf8) (ns : Nodes) (t : Tree) → after_code x ns ≡ Ok t → is_binary_or_raw t ≡ false
code_other x ended t e = ok_other (tree.javascript_code x) t refl e
code_other x (faulty f) t e = absurd cc
code_other x (then_node k n ns) t e =
    scoped_other (bytes_eq k.bytes scope_key) (tree.javascript_code_with_scope x) (under k.bytes ((judged n >>= λ _. as_tree n) >>= pairs_in)) (unknown_field k.bytes) t (λ ps. refl) e

scope_other : (ps : Pairs) (ns : Nodes) (t : Tree) → after_scope ps ns ≡ Ok t → is_binary_or_raw t ≡ false
scope_other ps ended t e = absurd cc
scope_other ps (faulty f) t e = absurd cc
scope_other ps (then_node k n ns) t e =
    scoped_other (bytes_eq k.bytes code_key) (λ x. tree.javascript_code_with_scope x ps) (under k.bytes (text_at n)) (unknown_field k.bytes) t (λ x. refl) e

-- ---- wrapper keys

pub valid_is : (w : Wrapper) (o : Option Tree) (t : Tree) → or_bad w o ≡ Ok t → o ≡ Some t
valid_is w (Some u) t e = ap Some (ok_is u t e)
valid_is w None t e = absurd cc

by_other : (w : Wrapper) (m : Meaning) (key : Utf8) (n : Node) (ns : Nodes) (r : Reading Tree) (t : Tree) → BodyOther (body_of m)
    → by_meaning w m key n r (λ x. after_code x ns) (λ ps. after_scope ps ns) ≡ Ok t → is_binary_or_raw t ≡ false
by_other w (body read) key n ns r t h e =
    let m = bind_ok (read n) (or_bad w) t (under_ok key (read n >>= or_bad w) t e) in h n t (m.1 ∙ ap Ok (valid_is w m.0 t m.2))
by_other w code key n ns r t h e = let m = bind_ok (under key (text_at n)) (λ x. after_code x ns) t e in code_other m.0 ns t m.2
by_other w scope key n ns r t h e = let m = bind_ok (under key (r >>= pairs_in)) (λ ps. after_scope ps ns) t e in scope_other m.0 ns t m.2

pub wrapped_other : (w : Wrapper) → makes_binary w ≡ false → (key : Utf8) (n : Node) (ns : Nodes) (r : Reading Tree) (t : Tree)
    → by_meaning w (meaning w) key n r (λ x. after_code x ns) (λ ps. after_scope ps ns) ≡ Ok t → is_binary_or_raw t ≡ false
wrapped_other w other key n ns r t e = by_other w (meaning w) key n ns r t (body_other w other) e

-- a tree that is no binary is no UUID
pub other_uuid : (t : Tree) → is_binary_or_raw t ≡ false → uuid_in t ≡ refused (wrong_kind (kind t))
other_uuid (tree.binary subtype b) e = absurd cc
other_uuid (tree.raw k b) e = absurd cc
other_uuid t e = refl
