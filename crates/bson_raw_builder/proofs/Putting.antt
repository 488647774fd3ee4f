-- What was appended so far, and what the definition gives: elements, documents and arrays, codes with scopes.
use Rattle.std.proofs.Common.{◌≡◌, ℕ, zero, suc, ◌+◌, ◌-◌, ◌<◌, ◌≤◌, List, get_or, [], ◌∷◌, ◌++◌, length, take, drop, true, false, cond, Option, Some, None, Ok, Err, refl, ap, sym, subst, ◌∙◌, append_assoc, true≢false, arith}
use Rattle.std.specs.Prelude.{is_some}
use Rattle.std.specs.Fmt.{decimal}
use Rattle.std.proofs.lemmas.List.{append-nil, length-append, take_at, drop_at, drop_more}
use Rattle.bson_base.specs.BsonView.{tree_of, trees_of}
use Rattle.bson_base.specs.Encoded.{key_zero}
use Rattle.bson_kinds.specs.Kind.{byte}
use Rattle.bson_kinds.specs.Outcome.{◌>>=◌, result_map}
use Rattle.bson_kinds.specs.Text.{Bytes, Utf8, has_zero}
use Rattle.bson_base.specs.Tree.{Tree, document, array, Pairs, no_pairs, pair, Trees, no_trees, tree, kind, le32, closed_text, enclosed, element, enc, elements, array_elements}
use Rattle.bson_base.specs.declared.bson.Bson.{Bson}
use Rattle.bson_kinds.specs.declared.element_type.ElementType.{ElementType}
use Rattle.bson_kinds.specs.declared.element_type.ElementType.TheVariants.{EmbeddedDocument, Array, JavaScriptCodeWithScope}
use Rattle.bson_kinds.proofs.Outcomes.{map_ok, ok_is}
use Rattle.bson_values.specs.Cause.{Cause, bad_body, zero_byte}
use Rattle.bson_values.specs.Refusal.{ReadFault, unreadable, Failure, no_memory, bare}
use Rattle.bson_values.specs.declared.wrapper.Wrapper.TheVariants.{Code}
use Rattle.bson_laws.specs.Assembled.{Building, unless, one_level, Looked, stays, becomes, looked_tree, under_key, with_pair, with_scope, within_limit}
use Rattle.bson_raw_parts.specs.Putting.{RefusesFor, with_value, looked_kind, with_looked, whole_of}

-- ---- refusals

-- a failure for the cause of the definition
pub refused_for : {A : Type 0} (f : Failure ReadFault) (c : Cause) (expected : Building A) → f ≡ bare (unreadable c) → expected ≡ Err c → RefusesFor f expected
refused_for f c expected is e = subst (λ g. RefusesFor g expected) (sym is) e

-- what is refused where a part is, is refused as the part is
pub refuses_as : {A B C : Type 0} (f : Failure ReadFault) (g : A → B) (r : Building A) (s : Building C) → ((c : Cause) → r ≡ Err c → s ≡ Err c) → RefusesFor f (result_map g r) → RefusesFor f s
refuses_as no_memory g r s h x = tt
refuses_as (bare (unreadable c)) g (Ok a) s h x = absurd cc
refuses_as (bare (unreadable c)) g (Err d) s h x = h c (ap Err cc)
refuses_as f g r s h x = absurd x

-- so is what is made of it
pub map_err : {A B C : Type 0} (g : A → B) (h : A → C) (r : Building A) (c : Cause) → result_map g r ≡ Err c → result_map h r ≡ Err c
map_err g h (Ok a) c e = absurd cc
map_err g h (Err d) c e = ap Err cc

-- ---- levels

pub level_left : {A : Type 0} (inside : ℕ → Building A) (levels : ℕ) → 0 < levels → one_level inside levels ≡ inside (levels - 1)
level_left inside zero h = absurd (omega (arith, h))
level_left inside (suc n) h = let same : n ≡ suc n - 1 = omega arith in ap inside same

-- ---- elements

-- four zeros in the place of a length
abbrev pub length_place : Bytes
length_place = 0 ∷ 0 ∷ 0 ∷ 0 ∷ []

-- what is before the value of an element, with a zero in the place of its kind
abbrev pub front : Utf8 → Bytes
front key = 0 ∷ (key ++ 0 ∷ [])

free_key : (key : Utf8) (value : Building Tree) → has_zero key ≡ false → under_key key value ≡ value
free_key key value z = ap (λ b. unless (cond b (Some (key_zero key)) None) value) z

-- the byte of a kind written over its place
kind_over : (old key value : Bytes) (k : ElementType) → take (length old) ((old ++ front key) ++ value) ++ (byte k ∷ drop (length old + 1) ((old ++ front key) ++ value)) ≡ old ++ element k key value
kind_over old key value k =
    let whole : (old ++ front key) ++ value ≡ old ++ (0 ∷ (key ++ 0 ∷ value)) = append_assoc old (front key) value ∙ ap (λ x. old ++ (0 ∷ x)) (append_assoc key (0 ∷ []) value) in
    let before : take (length old) ((old ++ front key) ++ value) ≡ old = ap (take (length old)) whole ∙ take_at old (0 ∷ (key ++ 0 ∷ value)) (length old) refl in
    let apart : (old ++ front key) ++ value ≡ (old ++ 0 ∷ []) ++ (key ++ 0 ∷ value) = whole ∙ sym (append_assoc old (0 ∷ []) (key ++ 0 ∷ value)) in
    let behind : drop (length old + 1) ((old ++ front key) ++ value) ≡ key ++ 0 ∷ value = ap (drop (length old + 1)) apart ∙ drop_at (old ++ 0 ∷ []) (key ++ 0 ∷ value) (length old + 1) (omega (arith, length-append old (0 ∷ []))) in
    λ i. before i ++ (byte k ∷ behind i)

-- an element whose value was appended, and whose kind was then written over its place
pub element_put : (old key new : Bytes) (k : ElementType) (expected : Building Tree) → with_value (old ++ front key) expected ≡ Ok (k, new)
    → result_map (λ t. old ++ element (kind t) key (enc t)) expected ≡ Ok (take (length old) new ++ (byte k ∷ drop (length old + 1) new))
element_put old key new k expected e =
    let m = map_ok (λ t. (kind t, (old ++ front key) ++ enc t)) expected (k, new) e in
    let its : kind m.0 ≡ k = ap (λ (p : ElementType × Bytes). p.0) m.2 in
    let bytes : (old ++ front key) ++ enc m.0 ≡ new = ap (λ (p : ElementType × Bytes). p.1) m.2 in
    ap (result_map (λ t. old ++ element (kind t) key (enc t))) m.1
    ∙ ap (λ x. Ok (old ++ element x key (enc m.0))) its
    ∙ ap Ok (sym (kind_over old key (enc m.0) k) ∙ ap (λ b. take (length old) b ++ (byte k ∷ drop (length old + 1) b)) bytes)

-- the same, by what each step of it left
pub element_set : (old begun new final key : Bytes) (place : ℕ) (k : ElementType) (expected : Building Tree) → place ≡ length old → begun ≡ old ++ front key → with_value begun expected ≡ Ok (k, new)
    → final ≡ take place new ++ (byte k ∷ drop (place + 1) new) → result_map (λ t. old ++ element (kind t) key (enc t)) expected ≡ Ok final
element_set old begun new final key place k expected at is e f =
    element_put old key new k expected (ap (λ b. with_value b expected) (sym is) ∙ e) ∙ ap Ok (ap (λ n. take n new ++ (byte k ∷ drop (n + 1) new)) (sym at) ∙ sym f)

-- the place of the kind is there
pub place_there : (old begun new key : Bytes) (place : ℕ) (k : ElementType) (expected : Building Tree) → place ≡ length old → begun ≡ old ++ front key → with_value begun expected ≡ Ok (k, new) → place < length new
place_there old begun new key place k expected at is e =
    let m = map_ok (λ t. (kind t, begun ++ enc t)) expected (k, new) e in
    let bytes : begun ++ enc m.0 ≡ new = ap (λ (p : ElementType × Bytes). p.1) m.2 in
    omega (arith, at, ap length is, ap length bytes, length-append begun (enc m.0), length-append old (front key))

-- an array whose values were appended
pub array_put : (old new : Bytes) (r : Building Trees) → result_map (λ ts. old ++ enc (array ts)) r ≡ Ok new → with_value old (result_map array r) ≡ Ok (Array, new)
array_put old new (Ok ts) e = let is = ok_is (old ++ enc (array ts)) new e in ap (λ (b : Bytes). Ok (Array, b)) is
array_put old new (Err c) e = absurd cc

-- the same under a key of a document
pub pair_set : (old begun new final key : Bytes) (place : ℕ) (k : ElementType) (expected : Building Tree) → has_zero key ≡ false → place ≡ length old → begun ≡ old ++ front key → with_value begun expected ≡ Ok (k, new)
    → final ≡ take place new ++ (byte k ∷ drop (place + 1) new) → result_map (λ t. old ++ element (kind t) key (enc t)) (under_key key expected) ≡ Ok final
pair_set old begun new final key place k expected z at is e f =
    ap (result_map (λ t. old ++ element (kind t) key (enc t))) (free_key key expected z) ∙ element_set old begun new final key place k expected at is e f

pub pair_refused : (f : Failure ReadFault) (old begun key : Bytes) (expected : Building Tree) → has_zero key ≡ false → RefusesFor f (with_value begun expected)
    → RefusesFor f (result_map (λ t. old ++ element (kind t) key (enc t)) (under_key key expected))
pair_refused f old begun key expected z x =
    refuses_as f (λ t. (kind t, begun ++ enc t)) expected _ (λ c e. ap (result_map (λ t. old ++ element (kind t) key (enc t))) (free_key key expected z ∙ e)) x

-- a key with a zero
pub zero_refused : (old key : Bytes) (expected : Building Tree) → has_zero key ≡ true → result_map (λ t. old ++ element (kind t) key (enc t)) (under_key key expected) ≡ Err zero_byte
zero_refused old key expected z = ap (λ b. result_map (λ t. old ++ element (kind t) key (enc t)) (unless (cond b (Some (key_zero key)) None) expected)) z

-- ---- the elements of a document and of an array

-- one more element was appended: what the definition gives for the others comes behind it
pub pairs_more : (out more key : Bytes) (value : Building Tree) (others : Building Pairs) → result_map (λ t. out ++ element (kind t) key (enc t)) (under_key key value) ≡ Ok more
    → result_map (λ ps. out ++ elements ps) (with_pair key value others) ≡ result_map (λ ps. more ++ elements ps) others
pairs_more out more key value others e =
    let m = map_ok (λ t. out ++ element (kind t) key (enc t)) (under_key key value) more e in
    ap (λ r. result_map (λ ps. out ++ elements ps) (r >>= λ t. result_map (pair key t) others)) m.1 ∙ behind m.0 m.2 others
  where
    behind : (t : Tree) → out ++ element (kind t) key (enc t) ≡ more → (r : Building Pairs) → result_map (λ ps. out ++ elements ps) (result_map (pair key t) r) ≡ result_map (λ ps. more ++ elements ps) r
    behind t is (Ok ps) = ap Ok (sym (append_assoc out (element (kind t) key (enc t)) (elements ps)) ∙ ap (λ b. b ++ elements ps) is)
    behind t is (Err c) = refl

pub trees_more : (i : ℕ) (out more : Bytes) (value : Building Tree) (others : Building Trees) → result_map (λ t. out ++ element (kind t) (decimal i) (enc t)) value ≡ Ok more
    → result_map (λ ts. out ++ array_elements i ts) (value >>= λ t. result_map (tree t) others) ≡ result_map (λ ts. more ++ array_elements (suc i) ts) others
trees_more i out more value others e =
    let m = map_ok (λ t. out ++ element (kind t) (decimal i) (enc t)) value more e in
    ap (λ r. result_map (λ ts. out ++ array_elements i ts) (r >>= λ t. result_map (tree t) others)) m.1 ∙ behind m.0 m.2 others
  where
    behind : (t : Tree) → out ++ element (kind t) (decimal i) (enc t) ≡ more → (r : Building Trees) → result_map (λ ts. out ++ array_elements i ts) (result_map (tree t) r) ≡ result_map (λ ts. more ++ array_elements (suc i) ts) r
    behind t is (Ok ts) = ap Ok (sym (append_assoc out (element (kind t) (decimal i) (enc t)) (array_elements (suc i) ts)) ∙ ap (λ b. b ++ array_elements (suc i) ts) is)
    behind t is (Err c) = refl

-- where an element is refused, all of them are
pub pairs_refused : (f : Failure ReadFault) (out begun old key : Bytes) (value : Building Tree) (others all : Building Pairs)
    → result_map (λ ps. out ++ elements ps) (with_pair key value others) ≡ result_map (λ ps. begun ++ elements ps) all
    → RefusesFor f (result_map (λ t. out ++ element (kind t) key (enc t)) (under_key key value)) → RefusesFor f (result_map (λ ps. old ++ enc (document ps)) all)
pairs_refused f out begun old key value others all left x =
    refuses_as f (λ t. out ++ element (kind t) key (enc t)) (under_key key value) _
    (λ c e. map_err (λ ps. begun ++ elements ps) (λ ps. old ++ enc (document ps)) all c (sym left ∙ ap (λ r. result_map (λ ps. out ++ elements ps) (r >>= λ t. result_map (pair key t) others)) e)) x

pub trees_refused : {B : Type 0} (f : Failure ReadFault) (i : ℕ) (out begun : Bytes) (h : Trees → B) (value : Building Tree) (others all : Building Trees)
    → result_map (λ ts. out ++ array_elements i ts) (value >>= λ t. result_map (tree t) others) ≡ result_map (λ ts. begun ++ array_elements 0 ts) all
    → RefusesFor f (result_map (λ t. out ++ element (kind t) (decimal i) (enc t)) value) → RefusesFor f (result_map h all)
trees_refused f i out begun h value others all left x =
    refuses_as f (λ t. out ++ element (kind t) (decimal i) (enc t)) value _
    (λ c e. map_err (λ ts. begun ++ array_elements 0 ts) h all c (sym left ∙ ap (λ r. result_map (λ ts. out ++ array_elements i ts) (r >>= λ t. result_map (tree t) others)) e)) x

-- ---- lengths

-- bytes from a place on, whose length is written over the four zeros there
abbrev pub measured : (start : ℕ) → Bytes → Bytes
measured start b = take start b ++ (le32 (length b - start) ++ drop (start + 4) b)

measured_is : (old b : Bytes) → measured (length old) ((old ++ length_place) ++ b) ≡ old ++ (le32 (length b + 4) ++ b)
measured_is old b =
    let whole : (old ++ length_place) ++ b ≡ old ++ (length_place ++ b) = append_assoc old length_place b in
    let before : take (length old) ((old ++ length_place) ++ b) ≡ old = ap (take (length old)) whole ∙ take_at old (length_place ++ b) (length old) refl in
    let behind : drop (length old + 4) ((old ++ length_place) ++ b) ≡ b = drop_at (old ++ length_place) b (length old + 4) (omega (arith, length-append old length_place)) in
    let long : length ((old ++ length_place) ++ b) - length old ≡ length b + 4 = omega (arith, length-append (old ++ length_place) b, length-append old length_place) in
    λ i. before i ++ (le32 (long i) ++ behind i)

-- the parts of a document or an array, closed and measured
closed_put : {A : Type 0} (bytes : A → Bytes) (old out : Bytes) (r : Building A) → result_map (λ x. (old ++ length_place) ++ bytes x) r ≡ Ok out
    → result_map (λ x. old ++ enclosed (bytes x)) r ≡ Ok (measured (length old) (out ++ 0 ∷ []))
closed_put bytes old out r e =
    let m = map_ok (λ x. (old ++ length_place) ++ bytes x) r out e in
    let b = bytes m.0 in
    let closed : out ++ 0 ∷ [] ≡ (old ++ length_place) ++ (b ++ 0 ∷ []) = ap (λ x. x ++ 0 ∷ []) (sym m.2) ∙ append_assoc (old ++ length_place) b (0 ∷ []) in
    let long : length (b ++ 0 ∷ []) + 4 ≡ length b + 5 = omega (arith, length-append b (0 ∷ [])) in
    ap (result_map (λ x. old ++ enclosed (bytes x))) m.1
    ∙ ap (λ n. Ok (old ++ (le32 n ++ (b ++ 0 ∷ [])))) (sym long)
    ∙ ap Ok (sym (measured_is old (b ++ 0 ∷ [])) ∙ ap (measured (length old)) (sym closed))

-- the same, by what each step of it left
pub ended : {A : Type 0} (bytes : A → Bytes) (old out last final : Bytes) (start : ℕ) (r : Building A) → result_map (λ x. (old ++ length_place) ++ bytes x) r ≡ Ok out → start ≡ length old
    → last ≡ out ++ 0 ∷ [] → final ≡ measured start last → result_map (λ x. old ++ enclosed (bytes x)) r ≡ Ok final
ended bytes old out last final start r e at is f = closed_put bytes old out r e ∙ ap Ok ((λ i. measured (sym at i) (sym is i)) ∙ sym f)

-- the four places are there
pub length_there : {A : Type 0} (bytes : A → Bytes) (old out : Bytes) (r : Building A) → result_map (λ x. (old ++ length_place) ++ bytes x) r ≡ Ok out → length old + 4 ≤ length out
length_there bytes old out r e =
    let m = map_ok (λ x. (old ++ length_place) ++ bytes x) r out e in
    omega (arith, ap length m.2, length-append (old ++ length_place) (bytes m.0), length-append old length_place)

-- nothing is left of a document
pub pairs_whole : (old out : Bytes) (all : Building Pairs) → result_map (λ ps. out ++ elements ps) (let none : Building Pairs = Ok no_pairs in none) ≡ result_map (λ ps. (old ++ length_place) ++ elements ps) all
    → result_map (λ ps. (old ++ length_place) ++ elements ps) all ≡ Ok out
pairs_whole old out all left = sym left ∙ ap Ok (append-nil out)

-- or of an array
pub trees_whole : (i : ℕ) (old out : Bytes) (all : Building Trees) → result_map (λ ts. out ++ array_elements i ts) (let none : Building Trees = Ok no_trees in none) ≡ result_map (λ ts. (old ++ length_place) ++ array_elements 0 ts) all
    → result_map (λ ts. (old ++ length_place) ++ array_elements 0 ts) all ≡ Ok out
trees_whole i old out all left = sym left ∙ ap Ok (append-nil out)

-- the next values of an array
pub next_values : (vs : List Bson) (i : ℕ) (v : Bson) → v ≡ get_or vs i v → i < length vs → trees_of (drop i vs) ≡ tree (tree_of v) (trees_of (drop (i + 1) vs))
next_values vs i v is there = ap trees_of (drop_more vs i v there) ∙ ap (λ b. tree (tree_of b) (trees_of (drop (i + 1) vs))) (sym is)

-- ---- documents that were looked at

first_is : {A B : Type 0} (a c : A) (b d : B) → (let r : Building (A × B) = Ok (a, b) in r) ≡ Ok (c, d) → (a ≡ c) × (b ≡ d)
first_is {A = A} {B = B} a c b d e = let p = ok_is (a, b) (c, d) e in (ap (λ (q : A × B). q.0) p, ap (λ (q : A × B). q.1) p)

-- what a document becomes
pub becomes_put : (old new : Bytes) (k : ElementType) (r : Building Tree) → with_value old r ≡ Ok (k, new) → with_looked old (result_map becomes r) ≡ Ok (Some k, new)
becomes_put old new k (Ok t) e = let p = first_is (kind t) k (old ++ enc t) new e in λ i. Ok (Some (p.0 i), p.1 i)
becomes_put old new k (Err c) e = absurd cc

-- a document that stays one
pub stays_put : (old new : Bytes) (r : Building Pairs) → result_map (λ ps. old ++ enc (document ps)) r ≡ Ok new → with_looked old (result_map stays r) ≡ Ok (None, new)
stays_put old new (Ok ps) e = let is = ok_is (old ++ enc (document ps)) new e in λ i. Ok (None, is i)
stays_put old new (Err c) e = absurd cc

-- the bytes before a document stay there
pub looked_long : (begun new : Bytes) (k : Option ElementType) (r : Building Looked) → with_looked begun r ≡ Ok (k, new) → length begun ≤ length new
looked_long begun new k (Ok x) e = let p = first_is (looked_kind x) k (begun ++ enc (looked_tree x)) new e in omega (arith, ap length p.1, length-append begun (enc (looked_tree x)))
looked_long begun new k (Err c) e = absurd cc

-- as a value
pub looked_put : (old new : Bytes) (k : Option ElementType) (its : ElementType) (r : Building Looked) → with_looked old r ≡ Ok (k, new)
    → ((j : ElementType) → k ≡ Some j → its ≡ j) → (k ≡ None → its ≡ EmbeddedDocument) → with_value old (result_map looked_tree r) ≡ Ok (its, new)
looked_put old new k its (Ok (stays ps)) e other same =
    let p = first_is (looked_kind (stays ps)) k (old ++ enc (document ps)) new e in λ i. Ok (sym (same (sym p.0)) i, p.1 i)
looked_put old new k its (Ok (becomes t)) e other same =
    let p = first_is (looked_kind (becomes t)) k (old ++ enc t) new e in λ i. Ok (sym (other (kind t) (sym p.0)) i, p.1 i)
looked_put old new k its (Err c) e other same = absurd cc

-- as the scope of a code, whose length is then written
pub scoped_put : (old new : Bytes) (k : Option ElementType) (text : Utf8) (r : Building Looked) → is_some k ≡ false
    → with_looked ((old ++ length_place) ++ closed_text text) r ≡ Ok (k, new) → with_value old (with_scope text r) ≡ Ok (JavaScriptCodeWithScope, measured (length old) new)
scoped_put old new k text (Ok (stays ps)) none e =
    let p = first_is (looked_kind (stays ps)) k (((old ++ length_place) ++ closed_text text) ++ enc (document ps)) new e in
    let whole = append_assoc (old ++ length_place) (closed_text text) (enc (document ps)) in
    ap (λ (b : Bytes). Ok (JavaScriptCodeWithScope, b)) (sym (measured_is old (closed_text text ++ enc (document ps))) ∙ ap (measured (length old)) (sym whole ∙ p.1))
scoped_put old new k text (Ok (becomes t)) none e =
    let p = first_is (looked_kind (becomes t)) k (((old ++ length_place) ++ closed_text text) ++ enc t) new e in absurd (true≢false (ap is_some p.0 ∙ none))
scoped_put old new k text (Err c) none e = absurd cc

-- a scope that is another value
pub scope_refused : (old begun new : Bytes) (k : Option ElementType) (text : Utf8) (r : Building Looked) → is_some k ≡ true → with_looked begun r ≡ Ok (k, new)
    → with_value old (with_scope text r) ≡ Err (bad_body Code)
scope_refused old begun new k text (Ok (stays ps)) some e =
    let p = first_is (looked_kind (stays ps)) k (begun ++ enc (document ps)) new e in absurd (true≢false (sym some ∙ sym (ap is_some p.0)))
scope_refused old begun new k text (Ok (becomes t)) some e = refl
scope_refused old begun new k text (Err c) some e = absurd cc

-- ---- whole values

-- the whole of the definition, by what was appended
pub whole_built : (new : Bytes) (k : ElementType) (r : Building Tree) → with_value [] r ≡ Ok (k, new) → whole_of k new ≡ (r >>= within_limit)
whole_built new k (Ok t) e = let p = first_is (kind t) k (enc t) new e in λ i. whole_of (sym p.0 i) (sym p.1 i)
whole_built new k (Err c) e = absurd cc
