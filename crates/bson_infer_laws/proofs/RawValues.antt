-- An encoded value is that value in its bytes.
use Rattle.std.proofs.Common.{◌≡◌, ℕ, ◌+◌, ◌-◌, ◌^◌, ◌<◌, ◌∷◌, [], ◌++◌, length, drop, Bool, true, false, cond, eqb, Some, Ok, Err, refl, ap, sym, ◌∙◌, arith, pos}
use Rattle.std.specs.Prelude.{◌||◌, nat_lt}
use Rattle.std.specs.Ordering.{int_eq}
use Rattle.std.specs.Str.{is_utf8}
use Rattle.std.proofs.lemmas.Bool.{le-ltb, cond-true, cond-false}
use Rattle.std.proofs.lemmas.Bool.Decides.{Decides-int_eq}
use Rattle.std.proofs.lemmas.List.{length-append, take_at, drop_at}
use Rattle.bson_kinds.specs.Text.{Bytes, Utf8}
use Rattle.bson_kinds.specs.Outcome.{◌>>=◌, result_map}
use Rattle.bson_base.specs.Tree as tree
use Rattle.bson_base.specs.Tree.{Tree, double, string, document, array, binary, undefined, object_id, boolean, date_time, null, regular_expression, db_pointer, javascript_code, symbol, javascript_code_with_scope, int32, timestamp, int64, decimal128, max_key, min_key, kind, le32, closed_text, after_length, after_total, enclosed, enc, elements, array_elements}
use Rattle.bson_base.proofs.Lengths.{length-le32, length-text, length-binary, length-enclosed}
use Rattle.bson_rawdoc.specs.Numbers.{uint32_in, int32_in}
use Rattle.bson_rawdoc.specs.Envelope.{is_closed, inside}
use Rattle.bson_rawdoc.specs.RawValue as raw
use Rattle.bson_rawdoc.specs.RawValue.{RawValue, utf8_in, text_in, closed_in, old_binary_in, bytes_of_subtype, binary_in, regex_of, db_pointer_in, code_and_scope, scoped_parts, scoped_code, scoped_code_in, value_in}
use Rattle.bson_faults.specs.declared.raw.Error.TheVariants.{NotUtf8, TextUnclosed, ValueUnclosed}
use Rattle.bson_laws.proofs.Coded.{IsCoded}
use Rattle.bson_laws.proofs.Numbers.{int32_again, int64_again, uint32_again, length_again, announced_length}
use Rattle.bson_laws.proofs.Judged.{IsNotRaw}
use Rattle.bson_laws.proofs.Closed.{closed_again, inside_again, two_texts_again}

-- the value, as it is in its bytes; one that is given by its bytes is not looked at
abbrev pub raw_of : Tree → RawValue
raw_of (double bits) = raw.double bits
raw_of (string t) = raw.string t
raw_of (document ps) = raw.document (enclosed (elements ps))
raw_of (array ts) = raw.array (enclosed (array_elements 0 ts))
raw_of (binary subtype b) = raw.binary subtype b
raw_of undefined = raw.undefined
raw_of (object_id id) = raw.object_id id
raw_of (boolean b) = raw.boolean b
raw_of (date_time n) = raw.date_time n
raw_of null = raw.null
raw_of (regular_expression pattern options) = raw.regular_expression pattern options
raw_of (db_pointer namespace id) = raw.db_pointer namespace id
raw_of (javascript_code t) = raw.javascript_code t
raw_of (symbol t) = raw.symbol t
raw_of (javascript_code_with_scope code scope) = raw.javascript_code_with_scope code (enclosed (elements scope))
raw_of (int32 n) = raw.int32 n
raw_of (timestamp time increment) = raw.timestamp time increment
raw_of (int64 n) = raw.int64 n
raw_of (decimal128 b) = raw.decimal128 b
raw_of max_key = raw.max_key
raw_of min_key = raw.min_key
raw_of (tree.raw k b) = raw.null

-- ---- texts and what is enclosed

utf8_back : (t : Utf8) → is_utf8 t ≡ true → utf8_in t ≡ Ok t
utf8_back t h = cond-true (is_utf8 t) (Ok t) (Err NotUtf8) h

text_back : (t : Utf8) → is_utf8 t ≡ true → text_in (closed_text t) ≡ Ok t
text_back t h =
    let n = length t + 1 in
    let bytes = closed_text t in
    cond-true (is_closed bytes) (utf8_in (inside bytes)) (Err TextUnclosed) (closed_again n t) ∙ ap utf8_in (inside_again n t) ∙ utf8_back t h

closed_back : (b : Bytes) → closed_in (enclosed b) ≡ Ok (enclosed b)
closed_back b = cond-true (is_closed (enclosed b)) (Ok (enclosed b)) (Err ValueUnclosed) (closed_again (length b + 5) b)

-- ---- binaries

counted_length : (bytes : Bytes) → length (le32 (length bytes) ++ bytes) ≡ length bytes + 4
counted_length bytes = omega (arith, length-append (le32 (length bytes)) bytes, length-le32 (length bytes))

old_binary_back : (bytes : Bytes) → length bytes < 2 ^ 31 → old_binary_in (le32 (length bytes) ++ bytes) ≡ Ok bytes
old_binary_back bytes l =
    let counted = le32 (length bytes) ++ bytes in
    let behind : drop 4 counted ≡ bytes = drop_at (le32 (length bytes)) bytes 4 (length-le32 (length bytes)) in
    cond-false (nat_lt (length counted) 4) _ _ (le-ltb _ _ (omega (arith, counted_length bytes)))
    ∙ cond-true (int_eq (int32_in counted) (pos (length (drop 4 counted)))) _ _ ((Decides-int_eq _ _).1 (length_again (length bytes) bytes l ∙ ap (λ (b : Bytes). pos (length b)) (sym behind)))
    ∙ ap Ok behind

-- bytes of the old subtype are counted twice, and others once
counted_back : (old : Bool) (bytes : Bytes) → length (cond old (le32 (length bytes) ++ bytes) bytes) < 2 ^ 31
    → cond old (old_binary_in (cond old (le32 (length bytes) ++ bytes) bytes)) (Ok (cond old (le32 (length bytes) ++ bytes) bytes)) ≡ Ok bytes
counted_back true bytes l = old_binary_back bytes (omega (arith, counted_length bytes))
counted_back false bytes l = refl

behind_length : (subtype : ℕ) (behind : Bytes) → binary_in (after_length subtype behind) ≡ result_map (λ b. (subtype, b)) (bytes_of_subtype subtype behind)
unfolding le32
behind_length subtype behind = refl

binary_back : (subtype : ℕ) (bytes : Bytes) → length (enc (binary subtype bytes)) < 2 ^ 31 → binary_in (enc (binary subtype bytes)) ≡ Ok (subtype, bytes)
binary_back subtype bytes l =
    let old = eqb subtype 2 in
    behind_length subtype (cond old (le32 (length bytes) ++ bytes) bytes) ∙ ap (result_map (λ b. (subtype, b))) (counted_back old bytes (omega (arith, length-binary subtype bytes)))

-- ---- values of two parts

regex_back : (p q : Utf8) → is_utf8 p ≡ true → is_utf8 q ≡ true → regex_of (Some (p, q)) ≡ Ok (p, q)
regex_back p q g h = ap (λ r. r >>= λ pattern. result_map (λ options. (pattern, options)) (utf8_in q)) (utf8_back p g) ∙ ap (result_map (λ options. (p, options))) (utf8_back q h)

db_pointer_back : (namespace : Utf8) (id : Bytes) → is_utf8 namespace ≡ true → length id ≡ 12 → db_pointer_in (enc (db_pointer namespace id)) ≡ Ok (namespace, id)
db_pointer_back namespace id h twelve =
    let text = closed_text namespace in
    let at : length text ≡ length (text ++ id) - 12 = omega (arith, length-append text id) in
    (λ i. result_map (λ n. (n, drop_at text id (length (text ++ id) - 12) at i)) (text_in (take_at text id (length (text ++ id) - 12) at i)))
    ∙ ap (result_map (λ n. (n, id))) (text_back namespace h)

behind_number : (n m : ℕ) → m < 2 ^ 32 → uint32_in (drop 4 (le32 n ++ le32 m)) ≡ m
unfolding le32
behind_number n m h = uint32_again m [] h

-- ---- a code and its scope

parts_length : (code : Utf8) (scope : Bytes) → length (closed_text code ++ enclosed scope) ≡ length code + length scope + 10
parts_length code scope = omega (arith, length-append (closed_text code) (enclosed scope), length-text code, length-enclosed scope)

parts_back : (code : Utf8) (scope : Bytes) → length code + length scope + 10 < 2 ^ 31 → scoped_parts (pos (length code + 1)) (closed_text code ++ enclosed scope) ≡ Ok (closed_text code, enclosed scope)
parts_back code scope l =
    let n = length code + 1 in
    let text = closed_text code in
    let parts = text ++ enclosed scope in
    let at : length text ≡ n + 4 = omega (arith, length-text code) in
    let behind : drop (n + 4) parts ≡ enclosed scope = drop_at text (enclosed scope) (n + 4) at in
    let told : int32_in (enclosed scope) ≡ pos (length (enclosed scope)) = length_again (length scope + 5) (scope ++ 0 ∷ []) (omega arith) ∙ ap pos (sym (length-enclosed scope)) in
    cond-false (nat_lt n 1 || nat_lt (length parts) (n + 4 + 5)) _ _ (ap (λ b. b || nat_lt (length parts) (n + 4 + 5)) (le-ltb _ _ (omega arith)) ∙ le-ltb _ _ (omega (arith, parts_length code scope)))
    ∙ cond-true (int_eq (int32_in (drop (n + 4) parts)) (pos (length (drop (n + 4) parts)))) _ _ ((Decides-int_eq _ _).1 (ap int32_in behind ∙ told ∙ ap (λ (b : Bytes). pos (length b)) (sym behind)))
    ∙ (λ i. Ok (take_at text (enclosed scope) (n + 4) at i, behind i))

both_back : (code : Utf8) (scope : Bytes) → is_utf8 code ≡ true → code_and_scope (closed_text code) (enclosed scope) ≡ Ok (code, enclosed scope)
both_back code scope h = ap (λ r. r >>= λ c. result_map (λ s. (c, s)) (closed_in (enclosed scope))) (text_back code h) ∙ ap (result_map (λ s. (code, s))) (closed_back scope)

scoped_back : (code : Utf8) (scope : Bytes) → is_utf8 code ≡ true → length (after_total (closed_text code ++ enclosed scope)) < 2 ^ 31
    → scoped_code_in (after_total (closed_text code ++ enclosed scope)) ≡ Ok (code, enclosed scope)
scoped_back code scope h l =
    let parts = closed_text code ++ enclosed scope in
    let total = length parts + 4 in
    let small : length code + length scope + 10 < 2 ^ 31 = omega (arith, length-append (le32 total) parts, length-le32 total, parts_length code scope) in
    ap (λ (b : Bytes). scoped_code (int32_in b) b) (drop_at (le32 total) parts 4 (length-le32 total))
    ∙ ap (λ z. scoped_code z parts) (announced_length (length code + 1) (code ++ 0 ∷ []) (enclosed scope) (omega arith))
    ∙ ap (λ r. r >>= λ p. code_and_scope p.0 p.1) (parts_back code scope small)
    ∙ both_back code scope h

-- ---- all kinds

pub value_back : (t : Tree) → IsNotRaw t → IsCoded t → length (enc t) < 2 ^ 31 → value_in (kind t) (enc t) ≡ Ok (raw_of t)
value_back (string t) n c l = ap (result_map raw.string) (text_back t c)
value_back (document ps) n c l = ap (result_map raw.document) (closed_back (elements ps))
value_back (array ts) n c l = ap (result_map raw.array) (closed_back (array_elements 0 ts))
value_back (binary subtype b) n c l = ap (result_map (λ p. raw.binary p.0 p.1)) (binary_back subtype b l)
value_back (boolean true) n c l = refl
value_back (boolean false) n c l = refl
value_back (date_time z) n c l = ap (λ x. Ok (raw.date_time x)) (int64_again z c)
value_back (regular_expression p q) n c l = ap (λ o. result_map (λ r. raw.regular_expression r.0 r.1) (regex_of o)) (two_texts_again p q [] c.0.1 c.1.1) ∙ ap (result_map (λ r. raw.regular_expression r.0 r.1)) (regex_back p q c.0.0 c.1.0)
value_back (db_pointer namespace id) n c l = ap (result_map (λ p. raw.db_pointer p.0 p.1)) (db_pointer_back namespace id c.0 c.1)
value_back (javascript_code t) n c l = ap (result_map raw.javascript_code) (text_back t c)
value_back (symbol t) n c l = ap (result_map raw.symbol) (text_back t c)
value_back (javascript_code_with_scope code scope) n c l = ap (result_map (λ p. raw.javascript_code_with_scope p.0 p.1)) (scoped_back code (elements scope) c.0 l)
value_back (int32 z) n c l = ap (λ x. Ok (raw.int32 x)) (int32_again z c)
value_back (timestamp time increment) n c l = λ i. Ok (raw.timestamp (behind_number increment time c.0 i) (uint32_again increment (le32 time) c.1 i))
value_back (int64 z) n c l = ap (λ x. Ok (raw.int64 x)) (int64_again z c)
value_back (tree.raw k b) n c l = absurd n
value_back t n c l = refl
