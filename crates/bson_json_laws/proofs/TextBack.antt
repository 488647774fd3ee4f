-- A text is JSON, and the canonical one is read as its value.
use Rattle.std.proofs.Common.{◌≡◌, ℕ, suc, ◌+◌, ◌*◌, ◌≤◌, [], Bool, true, false, ℤ, pos, negsuc, Some, refl, ap, sym, subst, ◌∙◌, arith, append-nil, FitsSigned, w64, inl, inr, leb}
use Rattle.std.specs.Prelude.{codes, option_and_then, None, Ok}
use Rattle.std.proofs.lemmas.Bool.{le-leb, leb-true}
use Rattle.bson_kinds.specs.Outcome.{◌>>=◌}
use Rattle.std.specs.Fmt.{decimal}
use Rattle.std.specs.Float.{float_is_finite}
use Rattle.json.specs.Json.{Json, Items, no_items, item, Members, no_members, member, value, if_last}
use Rattle.json.specs.Print.{IsNumber}
use Rattle.json.specs.Tree.{json_tokens, depth as nesting, items_depth, members_depth, HasNumbers, ItemsHaveNumbers, MembersHaveNumbers}
use Rattle.json.proofs.Printed.Decimals.{IsNumber-decimal, IsNumber-signed_decimal}
use Rattle.json.proofs.Printed.Tokens.{tokens-print}
use Rattle.json.proofs.Printed.Trees.{value-json_tokens, ArePrintable-json_tokens}
use Rattle.bson_kinds.specs.Text.{Bytes, Utf8}
use Rattle.bson_base.specs.Made.{number_text}
use Rattle.bson_base.specs.Tree.{Tree, double, string, document, array, binary, undefined, object_id, boolean, date_time, null, regular_expression, db_pointer, javascript_code, symbol, javascript_code_with_scope, int32, timestamp, int64, decimal128, max_key, min_key, raw, Pairs, no_pairs, pair, Trees, no_trees, tree, depth, pairs_depth, trees_depth}
use Rattle.bson_json_laws.specs.Doubles.{float_in}
use Rattle.bson_json_laws.specs.JsonOf.{IsRelaxedDouble, integer_json, IsDate, IsJson, AreMembers, AreItems}
use Rattle.bson_json_laws.specs.JsonText.{IsText}
use Rattle.bson_json_laws.specs.Read.{read}
use Rattle.bson_json_laws.specs.ReadText.{json_of_text, only_document, document_of_json, document_of_text}
use Rattle.bson_json_laws.specs.Held.{IsHeld, ArePairsHeld, AreTreesHeld}
use Rattle.bson_json_laws.specs.Relaxed.{relaxed_pairs}
use Rattle.bson_json_laws.specs.TextFault.{pairs_text_fault, levels_fault, document_text_fault}
use Rattle.bson_json_laws.specs.Unread.{Reading, or_refused, not_json}
use Rattle.bson_json_laws.proofs.Textual.{neither, pairs_textual}
use Rattle.bson_json_laws.proofs.RelaxedBack.{relaxed_back, same_pairs_depth}
use Rattle.bson_json_laws.specs.declared.form.JsonForm.{JsonForm}
use Rattle.bson_json_laws.specs.declared.form.JsonForm.TheVariants.{Canonical, Relaxed}
use Rattle.bson_json_laws.proofs.FloatTexts.{finite_number}
use Rattle.bson_json_laws.proofs.ReadBack.{reads_back, wider}

-- ---- each number's text is a number

one_number : IsNumber (decimal 1)
one_number = IsNumber-decimal 1 (omega arith)

integer_number : (n : ℤ) → FitsSigned w64 n → IsNumber (number_text n)
unfolding number_text
integer_number (pos n) f = IsNumber-signed_decimal (pos n) (grind arith)
integer_number (negsuc n) f = IsNumber-signed_decimal (negsuc n) (grind arith)

integer_numbers : (form : JsonForm) (key : Utf8) (n : ℤ) → FitsSigned w64 n → HasNumbers (integer_json form key n)
integer_numbers Canonical key n f = (tt, tt)
integer_numbers Relaxed key n f = integer_number n f

double_numbers : (b : Bool) (bytes : Bytes) (j : Json) → float_is_finite (float_in bytes) ≡ b → IsRelaxedDouble b bytes j → HasNumbers j
double_numbers true bytes j e w = subst HasNumbers (sym w.1) (finite_number (float_in bytes) w.0 w.2 e)
double_numbers false bytes j e w = subst HasNumbers (sym w.1) (tt, tt)

date_numbers : (form : JsonForm) (n : ℤ) (j : Json) → IsDate form n j → HasNumbers j
date_numbers Canonical n j w = subst HasNumbers (sym w) ((tt, tt), tt)
date_numbers Relaxed (pos n) j (inl w) = subst HasNumbers (sym w.1) (tt, tt)
date_numbers Relaxed (pos n) j (inr w) = subst HasNumbers (sym w.1) ((tt, tt), tt)
date_numbers Relaxed (negsuc n) j w = subst HasNumbers (sym w) ((tt, tt), tt)

mutual
  pub has_numbers : (form : JsonForm) (t : Tree) (j : Json) → IsHeld t → IsJson form t j → HasNumbers j
  has_numbers Canonical (double bytes) j h w = subst HasNumbers (sym w.1) (tt, tt)
  has_numbers Relaxed (double bytes) j h w = double_numbers (float_is_finite (float_in bytes)) bytes j refl w
  has_numbers form (string t) j h w = subst HasNumbers (sym w) tt
  has_numbers form (document ps) j h w = subst HasNumbers (sym w.1) (members_have form ps w.0 h w.2)
  has_numbers form (array ts) j h w = subst HasNumbers (sym w.1) (items_have form ts w.0 h w.2)
  has_numbers form (binary subtype bytes) j h w = subst HasNumbers (sym w) ((tt, (tt, tt)), tt)
  has_numbers form undefined j h w = subst HasNumbers (sym w) (tt, tt)
  has_numbers form (object_id id) j h w = subst HasNumbers (sym w) (tt, tt)
  has_numbers form (boolean b) j h w = subst HasNumbers (sym w) tt
  has_numbers form (date_time n) j h w = date_numbers form n j w
  has_numbers form null j h w = subst HasNumbers (sym w) tt
  has_numbers form (regular_expression pattern options) j h w = subst HasNumbers (sym w) ((tt, (tt, tt)), tt)
  has_numbers form (db_pointer namespace id) j h w = subst HasNumbers (sym w) ((tt, ((tt, tt), tt)), tt)
  has_numbers form (javascript_code t) j h w = subst HasNumbers (sym w) (tt, tt)
  has_numbers form (symbol t) j h w = subst HasNumbers (sym w) (tt, tt)
  has_numbers form (javascript_code_with_scope code scope) j h w = subst HasNumbers (sym w.1) (tt, (members_have form scope w.0 h w.2, tt))
  has_numbers form (int32 n) j h w = subst HasNumbers (sym w) (integer_numbers form (codes "$numberInt") n (wider n h))
  has_numbers form (timestamp time increment) j h w = subst HasNumbers (sym w) ((IsNumber-decimal time (omega (arith, h.0)), (IsNumber-decimal increment (omega (arith, h.1)), tt)), tt)
  has_numbers form (int64 n) j h w = subst HasNumbers (sym w) (integer_numbers form (codes "$numberLong") n h)
  has_numbers form (decimal128 bytes) j h w = subst HasNumbers (sym w) (tt, tt)
  has_numbers form max_key j h w = subst HasNumbers (sym w) (one_number, tt)
  has_numbers form min_key j h w = subst HasNumbers (sym w) (one_number, tt)
  has_numbers form (raw k bytes) j h w = absurd w

  members_have : (form : JsonForm) (ps : Pairs) (ms : Members) → ArePairsHeld ps → AreMembers form ps ms → MembersHaveNumbers ms
  members_have form no_pairs no_members h w = tt
  members_have form no_pairs (member k j ms) h w = absurd w
  members_have form (pair key t ps) no_members h w = absurd w
  members_have form (pair key t ps) (member k j ms) h w = (has_numbers form t j h.1 w.1, members_have form ps ms h.2 w.2)

  items_have : (form : JsonForm) (ts : Trees) (js : Items) → AreTreesHeld ts → AreItems form ts js → ItemsHaveNumbers js
  items_have form no_trees no_items h w = tt
  items_have form no_trees (item j js) h w = absurd w
  items_have form (tree t ts) no_items h w = absurd w
  items_have form (tree t ts) (item j js) h w = (has_numbers form t j h.0 w.0, items_have form ts js h.1 w.1)

-- ---- how deep it nests

abbrev Within : ℕ → Json → Type 0
Within n j = nesting j ≤ n

double_nests : (b : Bool) (bytes : Bytes) (j : Json) (n : ℕ) → IsRelaxedDouble b bytes j → Within (n + 3) j
double_nests true bytes j n w = subst (Within (n + 3)) (sym w.1) (omega arith)
double_nests false bytes j n w = subst (Within (n + 3)) (sym w.1) (omega arith)

integer_nests : (form : JsonForm) (key : Utf8) (n : ℤ) (m : ℕ) → Within (m + 3) (integer_json form key n)
integer_nests Canonical key n m = omega arith
integer_nests Relaxed key n m = omega arith

date_nests : (form : JsonForm) (n : ℤ) (j : Json) (m : ℕ) → IsDate form n j → Within (m + 3) j
date_nests Canonical n j m w = subst (Within (m + 3)) (sym w) (omega arith)
date_nests Relaxed (pos n) j m (inl w) = subst (Within (m + 3)) (sym w.1) (omega arith)
date_nests Relaxed (pos n) j m (inr w) = subst (Within (m + 3)) (sym w.1) (omega arith)
date_nests Relaxed (negsuc n) j m w = subst (Within (m + 3)) (sym w) (omega arith)

mutual
  pub nests : (form : JsonForm) (t : Tree) (j : Json) → IsJson form t j → nesting j ≤ 2 * depth t + 3
  nests Canonical (double bytes) j w = subst (Within 3) (sym w.1) (omega arith)
  nests Relaxed (double bytes) j w = double_nests (float_is_finite (float_in bytes)) bytes j 0 w
  nests form (string t) j w = subst (Within 3) (sym w) (omega arith)
  nests form (document ps) j w = subst (Within (2 * suc (pairs_depth ps) + 3)) (sym w.1) (omega (arith, members_nest form ps w.0 w.2))
  nests form (array ts) j w = subst (Within (2 * suc (trees_depth ts) + 3)) (sym w.1) (omega (arith, items_nest form ts w.0 w.2))
  nests form (binary subtype bytes) j w = subst (Within 3) (sym w) (omega arith)
  nests form undefined j w = subst (Within 3) (sym w) (omega arith)
  nests form (object_id id) j w = subst (Within 3) (sym w) (omega arith)
  nests form (boolean b) j w = subst (Within 3) (sym w) (omega arith)
  nests form (date_time n) j w = date_nests form n j 0 w
  nests form null j w = subst (Within 3) (sym w) (omega arith)
  nests form (regular_expression pattern options) j w = subst (Within 3) (sym w) (omega arith)
  nests form (db_pointer namespace id) j w = subst (Within 3) (sym w) (omega arith)
  nests form (javascript_code t) j w = subst (Within 3) (sym w) (omega arith)
  nests form (symbol t) j w = subst (Within 3) (sym w) (omega arith)
  nests form (javascript_code_with_scope code scope) j w = subst (Within (2 * suc (pairs_depth scope) + 3)) (sym w.1) (omega (arith, members_nest form scope w.0 w.2))
  nests form (int32 n) j w = subst (Within 3) (sym w) (integer_nests form (codes "$numberInt") n 0)
  nests form (timestamp time increment) j w = subst (Within 3) (sym w) (omega arith)
  nests form (int64 n) j w = subst (Within 3) (sym w) (integer_nests form (codes "$numberLong") n 0)
  nests form (decimal128 bytes) j w = subst (Within 3) (sym w) (omega arith)
  nests form max_key j w = subst (Within 3) (sym w) (omega arith)
  nests form min_key j w = subst (Within 3) (sym w) (omega arith)
  nests form (raw k bytes) j w = absurd w

  members_nest : (form : JsonForm) (ps : Pairs) (ms : Members) → AreMembers form ps ms → members_depth ms ≤ 2 * pairs_depth ps + 3
  members_nest form no_pairs no_members w = omega arith
  members_nest form no_pairs (member k j ms) w = absurd w
  members_nest form (pair key t ps) no_members w = absurd w
  members_nest form (pair key t ps) (member k j ms) w = omega (arith, nests form t j w.1, members_nest form ps ms w.2)

  items_nest : (form : JsonForm) (ts : Trees) (js : Items) → AreItems form ts js → items_depth js ≤ 2 * trees_depth ts + 3
  items_nest form no_trees no_items w = omega arith
  items_nest form no_trees (item j js) w = absurd w
  items_nest form (tree t ts) no_items w = absurd w
  items_nest form (tree t ts) (item j js) w = omega (arith, nests form t j w.0, items_nest form ts js w.1)

-- ---- the text

pub text_is_json : (form : JsonForm) (t : Tree) (text : Utf8) → IsHeld t → depth t ≤ 200 → (w : IsText form t text) → json_of_text text ≡ Some w.json
text_is_json form t text h small w =
    let deep : nesting w.json ≤ 403 = omega (arith, nests form t w.json w.is_json) in
    ap json_of_text w.is_print
    ∙ ap (option_and_then (λ p. if_last p.0 p.1))
    (ap (value 403) (tokens-print (json_tokens w.json) (ArePrintable-json_tokens w.json (has_numbers form t w.json h w.is_json)) ∙ sym (append-nil (json_tokens w.json)))
    ∙ value-json_tokens w.json 403 [] deep)

-- a document without a fault
few_levels : (n : ℕ) (b : Bool) → leb n 200 ≡ b → levels_fault b ≡ None → n ≤ 200
few_levels n true e h = leb-true n 200 e
few_levels n false e h = absurd cc

pub no_fault : (ps : Pairs) → document_text_fault ps ≡ None → (pairs_text_fault ps ≡ None) × (depth (document ps) ≤ 200)
no_fault ps e =
    let two = neither (pairs_text_fault ps) (levels_fault (leb (depth (document ps)) 200)) e in
    (two.0, few_levels (depth (document ps)) (leb (depth (document ps)) 200) refl two.1)

-- a document of at most 200 levels
within_levels : (ps : Pairs) → depth (document ps) ≤ 200 → only_document (document ps) ≡ Ok ps
within_levels ps small = rw (le-leb (depth (document ps)) 200 small) refl

read_as : (ps qs : Pairs) (text : Utf8) (j : Json) → json_of_text text ≡ Some j → read j ≡ Ok (document qs) → depth (document qs) ≤ 200 → document_of_text text ≡ Ok qs
read_as ps qs text j e r small =
    ap (λ o. or_refused not_json o >>= document_of_json) e ∙ ap (λ (a : Reading Tree). a >>= only_document) r ∙ within_levels qs small

-- the canonical text of a document is read as it again
pub text_back : (ps : Pairs) (text : Utf8) → ArePairsHeld ps → document_text_fault ps ≡ None → IsText Canonical (document ps) text → document_of_text text ≡ Ok ps
text_back ps text h e w =
    let none = no_fault ps e in
    read_as ps ps text w.json (text_is_json Canonical (document ps) text h none.1 w) (reads_back (document ps) w.json (pairs_textual ps h none.0) w.is_json) none.1

ok_same : (x y : Pairs) (r : Reading Pairs) → r ≡ Ok x → r ≡ Ok y → x ≡ y
ok_same x y r e f = cc

-- so no two documents have the same canonical text
pub text_injective : (ps qs : Pairs) (text : Utf8) → ArePairsHeld ps → ArePairsHeld qs → document_text_fault ps ≡ None → document_text_fault qs ≡ None
    → IsText Canonical (document ps) text → IsText Canonical (document qs) text → ps ≡ qs
text_injective ps qs text h k e f w v = ok_same ps qs (document_of_text text) (text_back ps text h e w) (text_back qs text k f v)

-- the relaxed text is read as the document, but for the widths of integers
pub relaxed_text_back : (ps : Pairs) (text : Utf8) → ArePairsHeld ps → document_text_fault ps ≡ None → IsText Relaxed (document ps) text → document_of_text text ≡ Ok (relaxed_pairs ps)
relaxed_text_back ps text h e w =
    let none = no_fault ps e in
    let deep : depth (document (relaxed_pairs ps)) ≤ 200 = subst (λ n. n ≤ 200) (sym (ap suc (same_pairs_depth ps))) none.1 in
    read_as ps (relaxed_pairs ps) text w.json (text_is_json Relaxed (document ps) text h none.1 w) (relaxed_back (document ps) w.json (pairs_textual ps h none.0) w.is_json) deep
