-- How long the bytes of a value are.
use Rattle.std.proofs.Common.{◌≡◌, ℕ, suc, ◌+◌, ◌≤◌, ℤ, Bool, true, false, [], ◌∷◌, ◌++◌, length, refl, arith}
use Rattle.std.specs.Fmt.{decimal}
use Rattle.std.specs.Int.{w32, w64, cast_unsigned}
use Rattle.std.proofs.lemmas.List.{length-append}
use Rattle.bson_kinds.specs.Text.{Bytes, Utf8}
use Rattle.bson_kinds.specs.declared.element_type.ElementType.{ElementType}
use Rattle.bson_base.specs.Tree.{Tree, string, document, array, binary, boolean, date_time, regular_expression, db_pointer, javascript_code_with_scope, int32, timestamp, int64, Pairs, pair, Trees, tree, kind, le32, le64, behind_subtype, enclosed, element, enc, elements, array_elements}

pub length-le32 : (n : ℕ) → length (le32 n) ≡ 4
unfolding le32
length-le32 n = refl

pub length-le64 : (n : ℕ) → length (le64 n) ≡ 8
unfolding le64
length-le64 n = refl

pub length-text : (t : Utf8) → length (enc (string t)) ≡ length t + 5
length-text t = omega (arith, length-append (le32 (length t + 1)) (t ++ 0 ∷ []), length-le32 (length t + 1), length-append t (0 ∷ []))

pub length-binary : (subtype : ℕ) (bytes : Bytes) → length (enc (binary subtype bytes)) ≡ length (behind_subtype subtype bytes) + 5
length-binary subtype bytes =
    let behind = behind_subtype subtype bytes in
    omega (arith, length-append (le32 (length behind)) (subtype ∷ behind), length-le32 (length behind))

pub length-boolean : (b : Bool) → length (enc (boolean b)) ≡ 1
length-boolean true = refl
length-boolean false = refl

pub length-date_time : (n : ℤ) → length (enc (date_time n)) ≡ 8
length-date_time n = length-le64 (cast_unsigned w64 n)

pub length-regular_expression : (pattern options : Utf8) → length (enc (regular_expression pattern options)) ≡ length pattern + length options + 2
length-regular_expression pattern options = omega (arith, length-append pattern (0 ∷ (options ++ 0 ∷ [])), length-append options (0 ∷ []))

pub length-db_pointer : (namespace : Utf8) (id : Bytes) → length (enc (db_pointer namespace id)) ≡ length namespace + 5 + length id
length-db_pointer namespace id = omega (arith, length-append (enc (string namespace)) id, length-text namespace)

pub length-int32 : (n : ℤ) → length (enc (int32 n)) ≡ 4
length-int32 n = length-le32 (cast_unsigned w32 n)

pub length-timestamp : (time increment : ℕ) → length (enc (timestamp time increment)) ≡ 8
length-timestamp time increment = omega (arith, length-append (le32 increment) (le32 time), length-le32 increment, length-le32 time)

pub length-int64 : (n : ℤ) → length (enc (int64 n)) ≡ 8
length-int64 n = length-le64 (cast_unsigned w64 n)

pub length-enclosed : (bs : Bytes) → length (enclosed bs) ≡ length bs + 5
length-enclosed bs = omega (arith, length-append (le32 (length bs + 5)) (bs ++ 0 ∷ []), length-le32 (length bs + 5), length-append bs (0 ∷ []))

pub length-document : (ps : Pairs) → length (enc (document ps)) ≡ length (elements ps) + 5
length-document ps = length-enclosed (elements ps)

pub length-array : (ts : Trees) → length (enc (array ts)) ≡ length (array_elements 0 ts) + 5
length-array ts = length-enclosed (array_elements 0 ts)

pub length-javascript_code_with_scope : (code : Utf8) (scope : Pairs) → length (enc (javascript_code_with_scope code scope)) ≡ length code + length (elements scope) + 14
length-javascript_code_with_scope code scope =
    let parts = enc (string code) ++ enclosed (elements scope) in
    omega (arith, length-append (le32 (length parts + 4)) parts, length-le32 (length parts + 4), length-append (enc (string code)) (enclosed (elements scope)), length-text code, length-enclosed (elements scope))

-- what is between the length and the zero is no longer than all
pub enclosed_size : (bs : Bytes) → length bs ≤ length (enclosed bs)
enclosed_size bs = omega (arith, length-enclosed bs)

-- the value of an element is no longer than the element and what follows it
pub value_size : (e : ElementType) (k : Utf8) (value rest : Bytes) → length value ≤ length (element e k value ++ rest)
value_size e k value rest = omega (arith, length-append k (0 ∷ value), length-append (k ++ (0 ∷ value)) rest)

-- nor is what follows it
pub rest_size : (e : ElementType) (k : Utf8) (value rest : Bytes) → length rest ≤ length (element e k value ++ rest)
rest_size e k value rest = omega (arith, length-append k (0 ∷ value), length-append (k ++ (0 ∷ value)) rest)

-- the value of the first pair is no longer than all elements
pub head_size : (k : Utf8) (t : Tree) (ps : Pairs) → length (enc t) ≤ length (elements (pair k t ps))
head_size k t ps = value_size (kind t) k (enc t) (elements ps)

-- nor are the other elements
pub tail_size : (k : Utf8) (t : Tree) (ps : Pairs) → length (elements ps) ≤ length (elements (pair k t ps))
tail_size k t ps = rest_size (kind t) k (enc t) (elements ps)

pub elements_size : (ps : Pairs) → length (elements ps) ≤ length (enc (document ps))
elements_size ps = enclosed_size (elements ps)

-- the first value of an array is no longer than all its elements
pub first_size : (i : ℕ) (t : Tree) (ts : Trees) → length (enc t) ≤ length (array_elements i (tree t ts))
first_size i t ts = value_size (kind t) (decimal i) (enc t) (array_elements (suc i) ts)

-- nor are the later elements
pub later_size : (i : ℕ) (t : Tree) (ts : Trees) → length (array_elements (suc i) ts) ≤ length (array_elements i (tree t ts))
later_size i t ts = rest_size (kind t) (decimal i) (enc t) (array_elements (suc i) ts)

pub array_elements_size : (ts : Trees) → length (array_elements 0 ts) ≤ length (enc (array ts))
array_elements_size ts = enclosed_size (array_elements 0 ts)
