-- The documents that extended values are opened to are folded back.
use Rattle.std.proofs.Common.{◌≡◌, ◌≢◌, ℕ, ◌<◌, ◌^◌, length, [], ◌∷◌, Bool, true, false, cond, Some, None, ℤ, pos, refl, ap, ◌∙◌, arith}
use Rattle.std.specs.Prelude.{nat_lt, nat_eq, codes, option_map, option_and_then}
use Rattle.std.specs.Cmp.{unsigned_Decides}
use Rattle.std.proofs.lemmas.Bool.Decides.{nat_tests}
use Rattle.std.proofs.lemmas.List.Elements.{All-nil, All-cons}
use Rattle.bson_base.specs.Made.{digits, number_text, base64_text}
use Rattle.bson_base.specs.Parsed.{first_byte, bytes_of_digits}
use Rattle.bson_kinds.specs.Text.{Bytes, AreBytes, Utf8}
use Rattle.bson_base.specs.Opened.{IsExtended, one, two, opened}
use Rattle.bson_base.specs.Tree.{Tree, double, string, document, array, binary, undefined, object_id, boolean, date_time, null, regular_expression, db_pointer, javascript_code, symbol, javascript_code_with_scope, int32, timestamp, int64, decimal128, max_key, min_key, raw, Pairs, no_pairs}
use Rattle.bson_base.specs.Folded.{uint32_of, or_document, fold, fold_values, IsInKind, HasForm, KeepsScope}
use Rattle.bson_base.proofs.WrittenTexts.{digits_read, integer_read, base64_read}

-- ---- one fold

object_id_back : (id : Bytes) → IsInKind (object_id id) → fold (opened (object_id id)) ≡ object_id id
object_id_back id h = ap (λ o. or_document (opened (object_id id)) (option_map object_id o)) (digits_read 12 id h.count h.are_bytes)

one_byte : (n : ℕ) → n < 256 → AreBytes (n ∷ [])
one_byte n small = All-cons (λ b. b < 256) n [] small (All-nil (λ b. b < 256))

-- the parts that a binary is opened to
abbrev binary_parts : ℕ → Bytes → Pairs
binary_parts subtype bytes = two (codes "subType") (string (digits (subtype ∷ []))) (codes "base64") (string (base64_text bytes))

not_zero : (subtype : ℕ) (b : Bool) → nat_eq subtype 0 ≡ b → subtype ≢ 0 → nat_eq subtype 0 ≡ false
not_zero subtype false e other = e
not_zero subtype true e other = absurd (other ((unsigned_Decides subtype 0).0 e))

binary_opened : (subtype : ℕ) (bytes : Bytes) → subtype ≢ 0 → opened (binary subtype bytes) ≡ one (codes "$binary") (document (binary_parts subtype bytes))
binary_opened subtype bytes other = ap (λ b. cond b no_pairs (one (codes "$binary") (document (binary_parts subtype bytes)))) (not_zero subtype _ refl other)

binary_back : (subtype : ℕ) (bytes : Bytes) → subtype < 256 → AreBytes bytes → fold (one (codes "$binary") (document (binary_parts subtype bytes))) ≡ binary subtype bytes
binary_back subtype bytes small all =
    let ps = one (codes "$binary") (document (binary_parts subtype bytes)) in
    ap (λ o. or_document ps (option_and_then (λ b. option_map (λ n. binary n b) (option_and_then first_byte (bytes_of_digits 1 (digits (subtype ∷ []))))) o)) (base64_read bytes all)
    ∙ ap (λ o. or_document ps (option_map (λ n. binary n bytes) (option_and_then first_byte o))) (digits_read 1 (subtype ∷ []) refl (one_byte subtype small))

fits : (n : ℕ) → n < 2 ^ 32 → uint32_of (pos n) ≡ Some n
fits n small =
    let test : nat_lt n 4294967296 ≡ true = grind (arith, nat_tests) in
    ap (λ b. cond b (Some n) None) test

timestamp_back : (time increment : ℕ) → time < 2 ^ 32 → increment < 2 ^ 32 → fold (opened (timestamp time increment)) ≡ timestamp time increment
timestamp_back time increment t i =
    let ps = opened (timestamp time increment) in
    ap (λ o. or_document ps (option_and_then (λ n. option_map (timestamp n) (uint32_of (pos increment))) o)) (fits time t)
    ∙ ap (λ o. or_document ps (option_map (timestamp time) o)) (fits increment i)

decimal_back : (bytes : Bytes) → length bytes ≡ 16 → fold (opened (decimal128 bytes)) ≡ decimal128 bytes
decimal_back bytes e = ap (λ n. or_document (opened (decimal128 bytes)) (cond (nat_eq n 16) (Some (decimal128 bytes)) None)) e

pub folds : (t : Tree) → IsExtended t → IsInKind t → HasForm t → fold (opened t) ≡ t
folds (double bytes) x h f = absurd x
folds (string t) x h f = absurd x
folds (document ps) x h f = absurd x
folds (array ts) x h f = absurd x
folds (binary subtype bytes) x h f = ap fold (binary_opened subtype bytes x) ∙ binary_back subtype bytes h.0 h.1
folds undefined x h f = refl
folds (object_id id) x h f = object_id_back id h
folds (boolean b) x h f = absurd x
folds (date_time n) x h f = absurd f
folds null x h f = absurd x
folds (regular_expression pattern options) x h f = ap (regular_expression pattern) h
folds (db_pointer namespace id) x h f = absurd f
folds (javascript_code t) x h f = refl
folds (symbol t) x h f = refl
folds (javascript_code_with_scope code scope) x h f = refl
folds (int32 n) x h f = absurd x
folds (timestamp time increment) x h f = timestamp_back time increment h.0 h.1
folds (int64 n) x h f = absurd x
folds (decimal128 bytes) x h f = decimal_back bytes h
folds max_key x h f = refl
folds min_key x h f = refl
folds (raw k bytes) x h f = absurd x

-- ---- from inside out

date_back : (n : ℤ) → IsInKind (date_time n) → fold (fold_values (opened (date_time n))) ≡ date_time n
date_back n h =
    ap (λ o. fold (one (codes "$date") (or_document (one (codes "$numberLong") (string (number_text n))) (option_map int64 o)))) (integer_read n h)

pointer_back : (namespace : Utf8) (id : Bytes) → IsInKind (db_pointer namespace id) → fold (fold_values (opened (db_pointer namespace id))) ≡ db_pointer namespace id
pointer_back namespace id h =
    ap (λ t. fold (one (codes "$dbPointer") (fold (two (codes "$ref") (string namespace) (codes "$id") t)))) (object_id_back id h)

pub folds_inside_out : (t : Tree) → IsExtended t → IsInKind t → KeepsScope t → fold (fold_values (opened t)) ≡ t
folds_inside_out (double bytes) x h k = absurd x
folds_inside_out (string t) x h k = absurd x
folds_inside_out (document ps) x h k = absurd x
folds_inside_out (array ts) x h k = absurd x
folds_inside_out (binary subtype bytes) x h k = ap (λ ps. fold (fold_values ps)) (binary_opened subtype bytes x) ∙ binary_back subtype bytes h.0 h.1
folds_inside_out undefined x h k = refl
folds_inside_out (object_id id) x h k = object_id_back id h
folds_inside_out (boolean b) x h k = absurd x
folds_inside_out (date_time n) x h k = date_back n h
folds_inside_out null x h k = absurd x
folds_inside_out (regular_expression pattern options) x h k = ap (regular_expression pattern) h
folds_inside_out (db_pointer namespace id) x h k = pointer_back namespace id h
folds_inside_out (javascript_code t) x h k = refl
folds_inside_out (symbol t) x h k = refl
folds_inside_out (javascript_code_with_scope code scope) x h k = ap (λ t. fold (two (codes "$code") (string code) (codes "$scope") t)) k
folds_inside_out (int32 n) x h k = absurd x
folds_inside_out (timestamp time increment) x h k = timestamp_back time increment h.0 h.1
folds_inside_out (int64 n) x h k = absurd x
folds_inside_out (decimal128 bytes) x h k = decimal_back bytes h
folds_inside_out max_key x h k = refl
folds_inside_out min_key x h k = refl
folds_inside_out (raw k bytes) x h c = absurd x
