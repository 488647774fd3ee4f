-- Of the wrapper keys only `$oid` stands for an ObjectId.
use Rattle.std.proofs.Common.{◌≡◌, Bool, true, false, cond, Option, Some, None, Ok, refl, ap, ◌∙◌}
use Rattle.std.specs.Prelude.{option_map, option_and_then, nat_eq, length, codes, pos, unsigned_abs}
use Rattle.std.specs.Ordering.{int_eq}
use Rattle.std.specs.Str.{bytes_eq}
use Rattle.uuid.specs.Text.{parsed}
use Rattle.bson_dates.specs.DateText.{date_of_text}
use Rattle.bson_kinds.specs.Outcome.{◌>>=◌, result_map}
use Rattle.bson_base.specs.Parsed.{bytes_of_digits, integer_of_text, bytes_of_base64}
use Rattle.bson_base.specs.Sorted.{sorted}
use Rattle.bson_kinds.specs.Text.{Bytes, Utf8}
use Rattle.bson_base.specs.Tree as tree
use Rattle.bson_base.specs.Tree.{Tree, Pairs}
use Rattle.bson_kinds.proofs.Outcomes.{some_is, some_map, some_then, map_ok, bind_ok, ok_is}
use Rattle.bson_rawdoc.specs.Node.{Node, string, Nodes, ended, faulty, then_node}
use Rattle.bson_shape.specs.Form.{Form, leaf}
use Rattle.bson_shape.specs.declared.leaf.Leaf.TheVariants as leaves
use Rattle.bson_shape.specs.declared.leaf.Leaf.TheVariants.{U8, U32, ByteBuf}
use Rattle.bson_values.specs.Cause.{Cause, unknown_field}
use Rattle.bson_values.specs.Marked.{contents}
use Rattle.bson_values.specs.Refusal.{under}
use Rattle.bson_values.specs.Value as value
use Rattle.bson_values.specs.Value.{Value, no_field_values, field_value, in_range, i32}
use Rattle.bson_values.specs.declared.wrapper.Wrapper.{Wrapper}
use Rattle.bson_values.specs.declared.wrapper.Wrapper.TheVariants.{Oid, Symbol, NumberInt, NumberLong, NumberDouble, Binary, Uuid, Code, Scope, Timestamp, RegularExpression, DbPointer, Date, MinKey, MaxKey, Undefined, NumberDecimal, NumberDecimalBytes}
use Rattle.bson_laws.specs.Judged.{Reading, refused, judged, scope_key}
use Rattle.bson_laws.specs.ReadsLeaf.{no_extended}
use Rattle.bson_laws.specs.Shaped.{reads}
use Rattle.bson_laws.specs.Trees.{or_bad, pairs_in, by_meaning, after_code, after_scope, code_key, as_tree}
use Rattle.bson_laws.specs.Wrapped.{Body, meaning, date_body, at, text_at, text_body, a_text, a_number, a_boolean, some_bytes, a_field, two_fields, tree_if, being_one, of_length, int32_of, double_of_text, one_byte, binary_of_texts, two_numbers, two_texts, with_field, with_fields, text}
use Rattle.bson_laws.proofs.Sizes.{under_ok}
use Rattle.bson_wrapped.specs.Bodies.{body_of}

-- no tree that is made is an ObjectId
abbrev MakesNoId : {X : Type 0} → (X → Option Tree) → Type 0
MakesNoId {X = X} make = (x : X) (id : Bytes) → make x ≡ Some (tree.object_id id) → ⊥

abbrev ReadsNoId : Body → Type 0
ReadsNoId read = (n : Node) (id : Bytes) → read n ≡ Ok (Some (tree.object_id id)) → ⊥

mapped_no : {A : Type 0} (f : A → Tree) (o : Option A) (id : Bytes) → ((x : A) → f x ≡ tree.object_id id → ⊥) → option_map f o ≡ Some (tree.object_id id) → ⊥
mapped_no f o id h e = let m = some_map f o (tree.object_id id) e in h m.0 m.2

chosen_no : (b : Bool) (t : Tree) (o : Option Tree) (id : Bytes) → (t ≡ tree.object_id id → ⊥) → (o ≡ Some (tree.object_id id) → ⊥) → cond b (Some t) o ≡ Some (tree.object_id id) → ⊥
chosen_no true t o id h g e = h (some_is t (tree.object_id id) e)
chosen_no false t o id h g e = g e

if_no : (b : Bool) (t : Tree) (id : Bytes) → (t ≡ tree.object_id id → ⊥) → tree_if b t ≡ Some (tree.object_id id) → ⊥
if_no true t id h e = h (some_is t (tree.object_id id) e)
if_no false t id h e = cc

-- ---- bodies

text_no : (make : Utf8 → Option Tree) → MakesNoId make → ReadsNoId (text_body make)
text_no make h n id e = let m = map_ok make (text_at n) (Some (tree.object_id id)) e in h m.0 id m.2

at_no : (s : Form) (make : Value → Option Tree) → MakesNoId make → ReadsNoId (at s make)
at_no s make h n id e = let m = map_ok (λ v. make (contents v)) (reads no_extended s n) (Some (tree.object_id id)) e in h (contents m.0) id m.2

int32_no : MakesNoId (λ x. option_and_then int32_of (integer_of_text x))
int32_no x id e = let m = some_then int32_of (integer_of_text x) (tree.object_id id) e in chosen_no (in_range i32 m.0) (tree.int32 m.0) None id (λ f. cc) (λ f. cc) m.2

double_no : MakesNoId double_of_text
double_no x id e =
    chosen_no (bytes_eq x (codes "Infinity")) _ _ id (λ f. cc)
    (chosen_no (bytes_eq x (codes "-Infinity")) _ _ id (λ f. cc) (chosen_no (bytes_eq x (codes "NaN")) _ _ id (λ f. cc) (λ f. cc))) e

field_no : (make : Value → Option Tree) → MakesNoId make → MakesNoId (a_field make)
field_no make h (value.structure name (field_value k v no_field_values)) id e = h v id e
field_no make h v id e = cc

fields_no : (make : Value → Value → Option Tree) → ((v w : Value) (id : Bytes) → make v w ≡ Some (tree.object_id id) → ⊥) → MakesNoId (two_fields make)
fields_no make h (value.structure name (field_value k v (field_value l w no_field_values))) id e = h v w id e
fields_no make h v id e = cc

base64_no : (v w : Value) (id : Bytes) → a_text (λ t. a_text (binary_of_texts t) w) v ≡ Some (tree.object_id id) → ⊥
base64_no (value.str x) (value.str y) id e =
    let b = some_then (λ (b : Bytes). option_map (λ n. tree.binary n b) (option_and_then one_byte (bytes_of_digits 1 y))) (bytes_of_base64 x) (tree.object_id id) e in
    mapped_no (λ n. tree.binary n b.0) (option_and_then one_byte (bytes_of_digits 1 y)) id (λ n f. cc) b.2
base64_no v w id e = cc

timestamp_no : (v w : Value) (id : Bytes) → a_number (λ t. a_number (λ i. Some (tree.timestamp (unsigned_abs t) (unsigned_abs i))) w) v ≡ Some (tree.object_id id) → ⊥
timestamp_no (value.integer a n) (value.integer b m) id e = cc
timestamp_no v w id e = cc

expression_no : (v w : Value) (id : Bytes) → a_text (λ p. a_text (λ o. Some (tree.regular_expression p (sorted o))) w) v ≡ Some (tree.object_id id) → ⊥
expression_no (value.str x) (value.str y) id e = cc
expression_no v w id e = cc

digits_no : (x : Utf8) → MakesNoId (a_text (λ id. option_map (tree.db_pointer x) (bytes_of_digits 12 id)))
digits_no x (value.str y) id e = mapped_no (tree.db_pointer x) (bytes_of_digits 12 y) id (λ b f. cc) e
digits_no x v id e = cc

pointer_no : (v w : Value) (id : Bytes) → a_text (λ t. a_field (a_text (λ id. option_map (tree.db_pointer t) (bytes_of_digits 12 id))) w) v ≡ Some (tree.object_id id) → ⊥
pointer_no (value.str x) w id e = field_no (a_text (λ id. option_map (tree.db_pointer x) (bytes_of_digits 12 id))) (digits_no x) w id e
pointer_no v w id e = cc

millis_text_no : MakesNoId (a_text (λ t. option_map tree.date_time (integer_of_text t)))
millis_text_no (value.str x) id e = mapped_no tree.date_time (integer_of_text x) id (λ n f. cc) e
millis_text_no v id e = cc

millis_no : MakesNoId (a_field (a_text (λ t. option_map tree.date_time (integer_of_text t))))
millis_no = field_no (a_text (λ t. option_map tree.date_time (integer_of_text t))) millis_text_no

date_no : ReadsNoId date_body
date_no (string p) id e = mapped_no tree.date_time (date_of_text p.bytes) id (λ n f. cc) (ok_is (option_map tree.date_time (date_of_text p.bytes)) (Some (tree.object_id id)) e)
date_no n id e = at_no (with_field (codes "$numberLong") text) (a_field (a_text (λ t. option_map tree.date_time (integer_of_text t)))) millis_no n id e

one_no : (t : Tree) → ((id : Bytes) → t ≡ tree.object_id id → ⊥) → MakesNoId (a_number (being_one t))
one_no t h (value.integer a n) id e = if_no (int_eq n (pos 1)) t id (h id) e
one_no t h v id e = cc

true_no : MakesNoId (a_boolean (λ b. tree_if b tree.undefined))
true_no (value.boolean b) id e = if_no b tree.undefined id (λ f. cc) e
true_no v id e = cc

decimal_no : MakesNoId (some_bytes (of_length 16 tree.decimal128))
decimal_no (value.bytes b) id e = chosen_no (nat_eq (length b) 16) (tree.decimal128 b) None id (λ f. cc) (λ f. cc) e
decimal_no v id e = cc

-- another wrapper key than `$oid` with a body
abbrev IsOther : Wrapper → Type 0
IsOther Oid = ⊥
IsOther Code = ⊥
IsOther Scope = ⊥
IsOther w = Unit {0}

body_no : (w : Wrapper) → IsOther w → ReadsNoId (body_of (meaning w))
body_no Oid other = absurd other
body_no Symbol other = text_no (λ t. Some (tree.symbol t)) (λ x id e. cc)
body_no NumberInt other = text_no (λ t. option_and_then int32_of (integer_of_text t)) int32_no
body_no NumberLong other = text_no (λ t. option_map tree.int64 (integer_of_text t)) (λ x id e. mapped_no tree.int64 (integer_of_text x) id (λ n f. cc) e)
body_no NumberDouble other = text_no double_of_text double_no
body_no Binary other = at_no (with_fields (codes "base64") text (codes "subType") text) (two_texts binary_of_texts) (fields_no (λ v w. a_text (λ t. a_text (binary_of_texts t) w) v) base64_no)
body_no Uuid other = text_no (λ t. option_map (tree.binary 4) (parsed t)) (λ x id e. mapped_no (tree.binary 4) (parsed x) id (λ b f. cc) e)
body_no Code other = absurd other
body_no Scope other = absurd other
body_no Timestamp other =
    at_no (with_fields (codes "t") (leaf U32) (codes "i") (leaf U32)) (two_numbers (λ t i. Some (tree.timestamp (unsigned_abs t) (unsigned_abs i))))
    (fields_no (λ v w. a_number (λ t. a_number (λ i. Some (tree.timestamp (unsigned_abs t) (unsigned_abs i))) w) v) timestamp_no)
body_no RegularExpression other =
    at_no (with_fields (codes "pattern") text (codes "options") text) (two_texts (λ p o. Some (tree.regular_expression p (sorted o))))
    (fields_no (λ v w. a_text (λ p. a_text (λ o. Some (tree.regular_expression p (sorted o))) w) v) expression_no)
body_no DbPointer other =
    at_no (with_fields (codes "$ref") text (codes "$id") (with_field (codes "$oid") text))
    (two_fields (λ v w. a_text (λ t. a_field (a_text (λ id. option_map (tree.db_pointer t) (bytes_of_digits 12 id))) w) v))
    (fields_no (λ v w. a_text (λ t. a_field (a_text (λ id. option_map (tree.db_pointer t) (bytes_of_digits 12 id))) w) v) pointer_no)
body_no Date other = λ n id e. let m = bind_ok (judged n) date_body (Some (tree.object_id id)) e in date_no m.0 id m.2
body_no MinKey other = at_no (leaf U8) (a_number (being_one tree.min_key)) (one_no tree.min_key (λ id f. cc))
body_no MaxKey other = at_no (leaf U8) (a_number (being_one tree.max_key)) (one_no tree.max_key (λ id f. cc))
body_no Undefined other = at_no (leaf leaves.Bool) (a_boolean (λ b. tree_if b tree.undefined)) true_no
body_no NumberDecimal other = text_no (λ t. None) (λ x id e. cc)
body_no NumberDecimalBytes other = at_no (leaf ByteBuf) (some_bytes (of_length 16 tree.decimal128)) decimal_no

-- ---- codes

scoped_no : {A : Type 0} (b : Bool) (f : A → Tree) (r : Reading A) (c : Cause) (id : Bytes) → ((x : A) → f x ≡ tree.object_id id → ⊥) → cond b (result_map f r) (refused c) ≡ Ok (tree.object_id id) → ⊥
scoped_no true f r c id h e = let m = map_ok f r (tree.object_id id) e in h m.0 m.2
scoped_no false f r c id h e = cc

code_no : (x : Utf8) (ns : Nodes) (id : Bytes) → after_code x ns ≡ Ok (tree.object_id id) → ⊥
code_no x ended id e = cc
code_no x (faulty f) id e = cc
code_no x (then_node k n ns) id e =
    scoped_no (bytes_eq k.bytes scope_key) (tree.javascript_code_with_scope x) (under k.bytes ((judged n >>= λ _. as_tree n) >>= pairs_in)) (unknown_field k.bytes) id (λ ps f. cc) e

scope_no : (ps : Pairs) (ns : Nodes) (id : Bytes) → after_scope ps ns ≡ Ok (tree.object_id id) → ⊥
scope_no ps ended id e = cc
scope_no ps (faulty f) id e = cc
scope_no ps (then_node k n ns) id e =
    scoped_no (bytes_eq k.bytes code_key) (λ x. tree.javascript_code_with_scope x ps) (under k.bytes (text_at n)) (unknown_field k.bytes) id (λ x f. cc) e

-- ---- wrapper keys

pub valid_is : (w : Wrapper) (o : Option Tree) (t : Tree) → or_bad w o ≡ Ok t → o ≡ Some t
valid_is w (Some u) t e = ap Some (ok_is u t e)
valid_is w None t e = absurd cc

other_no : (w : Wrapper) (read : Body) → ReadsNoId read → (key : Utf8) (n : Node) (id : Bytes) → under key (read n >>= or_bad w) ≡ Ok (tree.object_id id) → ⊥
other_no w read h key n id e =
    let m = bind_ok (read n) (or_bad w) (tree.object_id id) (under_ok key (read n >>= or_bad w) (tree.object_id id) e) in
    h n id (m.1 ∙ ap Ok (valid_is w m.0 (tree.object_id id) m.2))

pub only_oid : (w : Wrapper) (key : Utf8) (n : Node) (ns : Nodes) (r : Reading Tree) (id : Bytes)
    → by_meaning w (meaning w) key n r (λ x. after_code x ns) (λ ps. after_scope ps ns) ≡ Ok (tree.object_id id) → w ≡ Oid
only_oid Oid key n ns r id e = refl
only_oid Code key n ns r id e = let m = bind_ok (under key (text_at n)) (λ x. after_code x ns) (tree.object_id id) e in absurd (code_no m.0 ns id m.2)
only_oid Scope key n ns r id e = let m = bind_ok (under key (r >>= pairs_in)) (λ ps. after_scope ps ns) (tree.object_id id) e in absurd (scope_no m.0 ns id m.2)
only_oid w key n ns r id e = absurd (other_no w (body_of (meaning w)) (body_no w tt) key n id e)
