-- What is built of a tree that is not given by its bytes is not given by its bytes.
use Rattle.std.proofs.Common.{◌≡◌, ℕ, zero, suc, Bool, true, false, cond, Option, Some, None, Ok, Err, ap, subst}
use Rattle.std.specs.Prelude.{option_map, codes}
use Rattle.std.specs.Str.{bytes_eq}
use Rattle.bson_base.specs.Encoded.{EncodeFault, encode_fault}
use Rattle.bson_base.specs.Folded.{text_of, pairs_in, at, plain_bytes}
use Rattle.bson_kinds.specs.Outcome.{◌>>=◌, result_map}
use Rattle.bson_kinds.specs.Text.{Utf8}
use Rattle.bson_base.specs.Tree.{Tree, document, array, raw, object_id, symbol, decimal128, regular_expression, undefined, binary, date_time, timestamp, min_key, max_key, db_pointer, javascript_code, javascript_code_with_scope, Pairs, no_pairs, pair}
use Rattle.bson_kinds.proofs.Outcomes.{some_is, ok_is, some_map, some_then, map_ok, bind_ok}
use Rattle.bson_values.specs.Cause.{unknown_field}
use Rattle.bson_values.specs.Wrapper.{of_key}
use Rattle.bson_values.specs.declared.wrapper.Wrapper.{Wrapper}
use Rattle.bson_values.specs.declared.wrapper.Wrapper.TheVariants as wrappers
use Rattle.bson_laws.specs.FirstKeys as keys
use Rattle.bson_laws.specs.FirstKeys.{number_in, byte_in, uint32_in, bytes_in, id_given, id_in, is_boolean, is_in_int32, regular_expression_of, binary_of, timestamp_of, db_pointer_of, first_key}
use Rattle.bson_laws.specs.Judged.{scope_key}
use Rattle.bson_laws.specs.Wrapped.{tree_if}
use Rattle.bson_laws.specs.Assembled.{Building, unless, or_bad, plain, one_level, Looked, stays, becomes, looked_tree, scope_of, with_scope, of_body, by_first_key, by_key, built, looked_at, built_pairs, built_trees, after_code, scope_in}
use Rattle.bson_raw_parts.specs.Putting.{form_of, stands_for}
use Rattle.bson_raw_parts.specs.BuiltView.{IsRawless}

-- ---- values without others in them

unless_is : (o : Option EncodeFault) (t u : Tree) → unless o (Ok t) ≡ Ok u → t ≡ u
unless_is None t u e = ok_is t u e
unless_is (Some f) t u e = absurd cc

pub plain_is : (t u : Tree) → plain t ≡ Ok u → t ≡ u
plain_is t u e = unless_is (encode_fault t) t u e

-- ---- what first keys stand for

if_rawless : (b : Bool) (t u : Tree) → IsRawless t → tree_if b t ≡ Some u → IsRawless u
if_rawless true t u r e = subst IsRawless (some_is t u e) r
if_rawless false t u r e = absurd cc

expression_rawless : (ps : Pairs) (u : Tree) → regular_expression_of ps ≡ Some u → IsRawless u
expression_rawless ps u e =
    let a = some_then (λ p. option_map (regular_expression p) (at (codes "options") text_of ps)) (at (codes "pattern") text_of ps) u e in
    let b = some_map (regular_expression a.0) (at (codes "options") text_of ps) u a.2 in
    subst IsRawless b.2 tt

binary_rawless : (ps : Pairs) (u : Tree) → binary_of ps ≡ Some u → IsRawless u
binary_rawless ps u e =
    let a = some_then (λ b. option_map (λ n. binary n b) (at (codes "subType") byte_in ps)) (at (codes "bytes") plain_bytes ps) u e in
    let b = some_map (λ n. binary n a.0) (at (codes "subType") byte_in ps) u a.2 in
    subst IsRawless b.2 tt

timestamp_rawless : (ps : Pairs) (u : Tree) → timestamp_of ps ≡ Some u → IsRawless u
timestamp_rawless ps u e =
    let a = some_then (λ t. option_map (timestamp t) (at (codes "i") uint32_in ps)) (at (codes "t") uint32_in ps) u e in
    let b = some_map (timestamp a.0) (at (codes "i") uint32_in ps) u a.2 in
    subst IsRawless b.2 tt

pointer_rawless : (ps : Pairs) (u : Tree) → db_pointer_of ps ≡ Some u → IsRawless u
pointer_rawless ps u e =
    let a = some_then (λ n. option_map (db_pointer n) (at (codes "$id") id_in ps)) (at (codes "$ref") text_of ps) u e in
    let b = some_map (db_pointer a.0) (at (codes "$id") id_in ps) u a.2 in
    subst IsRawless b.2 tt

stands_rawless : (w : Wrapper) (t u : Tree) → stands_for w t ≡ Some u → IsRawless u
stands_rawless wrappers.Oid t u e = let m = some_map object_id (id_given t) u e in subst IsRawless m.2 tt
stands_rawless wrappers.Symbol t u e = let m = some_then (λ x. Some (symbol x)) (text_of t) u e in subst IsRawless (some_is (symbol m.0) u m.2) tt
stands_rawless wrappers.NumberDecimalBytes t u e = let m = some_map decimal128 (bytes_in 16 t) u e in subst IsRawless m.2 tt
stands_rawless wrappers.RegularExpression t u e = let m = some_then regular_expression_of (pairs_in t) u e in expression_rawless m.0 u m.2
stands_rawless wrappers.Undefined t u e = if_rawless (is_boolean t) undefined u tt e
stands_rawless wrappers.Binary t u e = let m = some_then binary_of (pairs_in t) u e in binary_rawless m.0 u m.2
stands_rawless wrappers.Date t u e = let m = some_map date_time (number_in t) u e in subst IsRawless m.2 tt
stands_rawless wrappers.Timestamp t u e = let m = some_then timestamp_of (pairs_in t) u e in timestamp_rawless m.0 u m.2
stands_rawless wrappers.MinKey t u e = if_rawless (is_in_int32 t) min_key u tt e
stands_rawless wrappers.MaxKey t u e = if_rawless (is_in_int32 t) max_key u tt e
stands_rawless wrappers.DbPointer t u e = let m = some_then db_pointer_of (pairs_in t) u e in pointer_rawless m.0 u m.2
stands_rawless w t u e = absurd cc

-- ---- codes

scoped_rawless : (text : Utf8) (r : Building Looked) (u : Tree) → with_scope text r ≡ Ok u → IsRawless u
scoped_rawless text r u e = let m = map_ok (javascript_code_with_scope text) (r >>= scope_of) u e in subst IsRawless m.2 tt

chosen_rawless : (b : Bool) (r s : Building Tree) (u : Tree) → cond b r s ≡ Ok u → (r ≡ Ok u → IsRawless u) → (s ≡ Ok u → IsRawless u) → IsRawless u
chosen_rawless true r s u e f g = f e
chosen_rawless false r s u e f g = g e

code_rawless : (ps : Pairs) (text : Utf8) (levels : ℕ) (u : Tree) → after_code ps text levels ≡ Ok u → IsRawless u
code_rawless no_pairs text levels u e = subst IsRawless (ok_is (javascript_code text) u e) tt
code_rawless (pair key t ps) text levels u e = chosen_rawless (bytes_eq key scope_key) (with_scope text (scope_in t levels)) (Err (unknown_field key)) u e (λ h. scoped_rawless text (scope_in t levels) u h) (λ h. absurd cc)

-- ---- documents

or_bad_is : {A : Type 0} (w : Wrapper) (o : Option A) (x : A) → or_bad w o ≡ Ok x → o ≡ Some x
or_bad_is w (Some y) x e = ap Some (ok_is y x e)
or_bad_is w None x e = absurd cc

stays_rawless : (r : Building Pairs) (x : Looked) → result_map stays r ≡ Ok x → IsRawless (looked_tree x)
stays_rawless r x e = let m = map_ok stays r x e in subst (λ y. IsRawless (looked_tree y)) m.2 tt

first_rawless : (w : Wrapper) (k : keys.FirstKey) (t : Tree) (f : Utf8 → Building Tree) (r : Building Pairs) (x : Looked) → ((u : Tree) → form_of k t ≡ Some u → IsRawless u) → ((text : Utf8) (u : Tree) → f text ≡ Ok u → IsRawless u)
    → by_first_key w k t f (result_map stays r) ≡ Ok x → IsRawless (looked_tree x)
first_rawless w (keys.body form) t f r x stood coded e =
    let m = map_ok becomes (of_body w form t) x e in
    let b = bind_ok (or_bad w (form t)) plain m.0 m.1 in
    subst (λ y. IsRawless (looked_tree y)) m.2 (subst IsRawless (plain_is b.0 m.0 b.2) (stood b.0 (or_bad_is w (form t) b.0 b.1)))
first_rawless w keys.code t f r x stood coded e =
    let m = map_ok becomes (or_bad wrappers.Code (text_of t) >>= f) x e in
    let b = bind_ok (or_bad wrappers.Code (text_of t)) f m.0 m.1 in
    subst (λ y. IsRawless (looked_tree y)) m.2 (coded b.0 m.0 b.2)
first_rawless w keys.ordinary t f r x stood coded e = stays_rawless r x e

key_rawless : (o : Option Wrapper) (t : Tree) (f : Utf8 → Building Tree) (r : Building Pairs) (x : Looked) → ((text : Utf8) (u : Tree) → f text ≡ Ok u → IsRawless u) → by_key o t f (result_map stays r) ≡ Ok x → IsRawless (looked_tree x)
key_rawless None t f r x coded e = stays_rawless r x e
key_rawless (Some w) t f r x coded e = first_rawless w (first_key w) t f r x (λ u. stands_rawless w t u) coded e

looked_rawless : (ps : Pairs) (levels : ℕ) (x : Looked) → looked_at ps levels ≡ Ok x → IsRawless (looked_tree x)
looked_rawless no_pairs levels x e = subst (λ y. IsRawless (looked_tree y)) (ok_is (stays no_pairs) x e) tt
looked_rawless (pair key t ps) levels x e = key_rawless (of_key key) t (λ text. after_code ps text levels) (built_pairs (pair key t ps) levels) x (λ text. code_rawless ps text levels) e

level_rawless : (ps : Pairs) (levels : ℕ) (x : Looked) → one_level (looked_at ps) levels ≡ Ok x → IsRawless (looked_tree x)
level_rawless ps zero x e = absurd cc
level_rawless ps (suc levels) x e = looked_rawless ps levels x e

pub built_rawless : (t : Tree) (levels : ℕ) (u : Tree) → IsRawless t → built t levels ≡ Ok u → IsRawless u
built_rawless (document ps) levels u r e = let m = map_ok looked_tree (one_level (looked_at ps) levels) u e in subst IsRawless m.2 (level_rawless ps levels m.0 m.1)
built_rawless (array ts) levels u r e = let m = map_ok array (one_level (built_trees ts) levels) u e in subst IsRawless m.2 tt
built_rawless (javascript_code_with_scope text scope) levels u r e = scoped_rawless text (one_level (looked_at scope) levels) u e
built_rawless (raw k b) levels u r e = absurd r
built_rawless t levels u r e = subst IsRawless (plain_is t u e) r
