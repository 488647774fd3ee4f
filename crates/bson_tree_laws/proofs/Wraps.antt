-- The structs that extended values are as data: what they are spelled as is what they are written to.
use Rattle.std.proofs.Common.{◌≡◌, ℕ, ℤ, pos, ◌<◌, ◌^◌, zero, suc, List, [], ◌∷◌, length, Bool, true, false, cond, Option, Some, None, Ok, Err, refl, ap, sym, subst, ◌∙◌, arith}
use Rattle.std.specs.Prelude.{nat_lt, nat_eq, option_map, option_and_then, codes}
use Rattle.std.proofs.lemmas.Bool.Decides.{nat_tests}
use Rattle.std.proofs.lemmas.List.Elements.{All-cons, All-nil}
use Rattle.bson_base.specs.Made.{digits, number_text, base64_text}
use Rattle.bson_kinds.specs.Outcome.{◌>>=◌, result_map, or_else}
use Rattle.bson_base.specs.Parsed.{first_byte, bytes_of_digits, integer_of_text, bytes_of_base64}
use Rattle.bson_base.specs.Pairs.{put}
use Rattle.bson_kinds.specs.declared.element_type.ElementType.TheVariants.{Int64}
use Rattle.bson_base.specs.Sorted.{sorted}
use Rattle.bson_kinds.specs.Text.{Bytes, Utf8}
use Rattle.bson_base.specs.Tree as tree
use Rattle.bson_base.specs.Tree.{Tree, string, document, Pairs, no_pairs, pair}
use Rattle.bson_kinds.proofs.Outcomes.{map_ok, bind_ok}
use Rattle.bson_base.proofs.WrittenTexts.{digits_read, subtype_read}
use Rattle.bson_values.specs.Value as value
use Rattle.bson_values.specs.Value.{Value, Entries, FieldValues, i64}
use Rattle.bson_values.specs.Refusal.{Refusal, WriteFault, unsigned_exceeds, here, under}
use Rattle.bson_laws.specs.Datum.{itself, datum, pair_data}
use Rattle.bson_laws.specs.Spell.{Writing, spell_whole, spell_unwrapped, spell_number, spell_as, spell_entries_as}
use Rattle.bson_laws.proofs.Sizes.{ok_is, enclosed_ok, under_ok}
use Rattle.bson_laws.proofs.Writable.{wide_small}
use Rattle.bson_laws.specs.Written.{with_scope, zero_free}
use Rattle.bson_laws.specs.Unwrap.{Part, a_key, a_value, next_key, next_unsigned, end_as}
use Rattle.bson_tree_laws.specs.Alike.{HasFreeKeys, HasSubtype}
use Rattle.bson_base.specs.Folded.{fold, or_document}
use Rattle.bson_tree_laws.specs.TreeSpell.{tree_spell}
use Rattle.bson_kinds.proofs.Apart.{no_ok}

-- what a value is spelled as, where its keys are free, it is written to
abbrev pub Agrees : Value → Type 0
Agrees v = (readable : Bool) (levels : ℕ) (u : Tree) → spell_as readable v levels ≡ Ok u → HasFreeKeys u → tree_spell readable false v levels ≡ Ok u

-- each value of the fields is so
abbrev pub EachAgrees : FieldValues → Type 0
EachAgrees value.no_field_values = Unit {0}
EachAgrees (value.field_value name v fs) = Agrees v × EachAgrees fs

abbrev pub PartsAgree : Value → Type 0
PartsAgree (value.structure name fs) = EachAgrees fs
PartsAgree v = Unit {0}

abbrev done : Tree → Writing Tree
done t = Ok t

abbrev Written : Tree → Tree → Type 0
Written t u = done t ≡ Ok u

pub kept : (b : Bool) (f : Refusal WriteFault) (t u : Tree) → cond b (Err f) (Ok t) ≡ Ok u → t ≡ u
kept true f t u e = absurd (no_ok e)
kept false f t u e = ok_is t u e

-- ---- each kind

id_step : (ps : Pairs) (o : Option Bytes) (u : Tree) → spell_unwrapped (option_map tree.object_id (option_and_then Some o)) ≡ Ok u → Written (or_document ps (option_map tree.object_id o)) u
id_step ps None u e = absurd (no_ok e)
id_step ps (Some x) u e = e

id_agrees : (id : Bytes) → Agrees (datum itself (tree.object_id id))
id_agrees id r levels u e f = id_step (pair (codes "$oid") (string (digits id)) no_pairs) (bytes_of_digits 12 (digits id)) u e

date_step : (ps : Pairs) (o : Option ℤ) (u : Tree) → spell_unwrapped (option_map tree.date_time (option_and_then Some o)) ≡ Ok u → Written (fold (pair (codes "$date") (or_document ps (option_map tree.int64 o)) no_pairs)) u
date_step ps None u e = absurd (no_ok e)
date_step ps (Some x) u e = e

date_agrees : (n : ℤ) → Agrees (datum itself (tree.date_time n))
date_agrees n r levels u e f = date_step (pair (codes "$numberLong") (string (number_text n)) no_pairs) (integer_of_text (number_text n)) u e

pointer_of : Utf8 → Bytes → Tree
pointer_of n id = tree.db_pointer n id

pointer_step : (n : Utf8) (ps : Pairs) (o : Option Bytes) (u : Tree) → spell_unwrapped (option_map (λ (p : Utf8 × Bytes). tree.db_pointer p.0 p.1) (option_and_then (λ x. Some (n, x)) o)) ≡ Ok u
    → Written (fold (pair (codes "$dbPointer") (fold (pair (codes "$ref") (string n) (pair (codes "$id") (or_document ps (option_map tree.object_id o)) no_pairs))) no_pairs)) u
pointer_step n ps None u e = absurd (no_ok e)
pointer_step n ps (Some x) u e = e

pointer_agrees : (n : Utf8) (id : Bytes) → Agrees (datum itself (tree.db_pointer n id))
pointer_agrees n id r levels u e f = pointer_step n (pair (codes "$oid") (string (digits id)) no_pairs) (bytes_of_digits 12 (digits id)) u e

binary_step : (s : ℕ) (ps : Pairs) (o : Option Bytes) (u : Tree) → spell_unwrapped (option_map (λ (p : ℕ × Bytes). tree.binary p.0 p.1) (or_else (option_and_then (λ x. Some (s, x)) o) None)) ≡ Ok u
    → Written (or_document ps (option_and_then (λ b. Some (tree.binary s b)) o)) u
binary_step s ps None u e = absurd (no_ok e)
binary_step s ps (Some x) u e = ap Ok (kept _ _ (tree.binary s x) u e)

binary_agrees : (n : ℕ) (b : Bytes) → suc n < 256 → Agrees (datum itself (tree.binary (suc n) b))
binary_agrees n b h r levels u e f =
    let text = digits (suc n ∷ []) in
    let o = bytes_of_base64 (base64_text b) in
    let ps = pair (codes "$binary") (document (pair (codes "base64") (string (base64_text b)) (pair (codes "subType") (string text) no_pairs))) no_pairs in
    let read = ap (λ q. spell_unwrapped (option_map (λ (p : ℕ × Bytes). tree.binary p.0 p.1) (or_else (option_and_then (λ (given : ℕ × Utf8). option_and_then (λ x. Some (given.0, x)) (bytes_of_base64 given.1)) (option_and_then (λ s. Some (s, base64_text b)) q)) None))) (sym (subtype_read (suc n) h)) ∙ e in
    ap (λ q. done (or_document ps (option_and_then (λ x. option_map (λ m. tree.binary m x) (option_and_then first_byte q)) o))) (digits_read 1 (suc n ∷ []) refl (All-cons (λ b. b < 256) (suc n) [] h (All-nil (λ b. b < 256))))
    ∙ binary_step (suc n) ps o u read

abbrev text_done : Utf8 → Writing Utf8
text_done t = Ok t

text_is : (x y : Utf8) → text_done x ≡ Ok y → x ≡ y
text_is x y e = cc

expression_step : (p o : Utf8) (u : Tree) → spell_whole (tree.regular_expression p o) ≡ Ok u → tree.regular_expression p (sorted o) ≡ u
expression_step p o u e =
    let a = bind_ok (zero_free p) (λ x. zero_free o >>= λ y. Ok (tree.regular_expression x (sorted y))) u e in
    let b = bind_ok (zero_free o) (λ y. Ok (tree.regular_expression a.0 (sorted y))) u a.2 in
    (λ i. tree.regular_expression (whole p a.0 a.1 i) (sorted (whole o b.0 b.1 i))) ∙ ok_is (tree.regular_expression a.0 (sorted b.0)) u b.2
  where
    by_case : (c : Bool) (f : Refusal WriteFault) (x y : Utf8) → cond c (Err f) (text_done x) ≡ Ok y → x ≡ y
    by_case true f x y q = absurd (no_ok q)
    by_case false f x y q = text_is x y q

    whole : (x y : Utf8) → zero_free x ≡ Ok y → x ≡ y
    whole x y q = by_case _ _ x y q

expression_agrees : (p o : Utf8) → Agrees (datum itself (tree.regular_expression p o))
expression_agrees p o r levels u e f = ap Ok (expression_step p o u e)

abbrev stamp : ℕ × ℕ → Tree
stamp p = tree.timestamp p.0 p.1

abbrev behind : ℕ → ℕ × List (Part Value) → Option (ℕ × ℕ)
behind time p = end_as (time, p.0) p.1

abbrev behind_time : ℕ × List (Part Value) → Option (ℕ × ℕ)
behind_time time = option_and_then (λ second. option_and_then (behind time.0) (next_unsigned second)) (next_key (codes "i") time.1)

first_small : (t : ℕ) (rest : List (Part Value)) (b : Bool) (u : Tree) → spell_unwrapped (option_map stamp (option_and_then behind_time (cond b (Some (t, rest)) None))) ≡ Ok u → (b ≡ true) × (spell_unwrapped (option_map stamp (behind_time (t, rest))) ≡ Ok u)
first_small t rest true u e = (refl, e)
first_small t rest false u e = absurd (no_ok e)

second_small : (t i : ℕ) (b : Bool) (u : Tree) → spell_unwrapped (option_map stamp (option_and_then (behind t) (cond b (Some (i, [])) None))) ≡ Ok u → (b ≡ true) × (done (tree.timestamp t i) ≡ Ok u)
second_small t i true u e = (refl, e)
second_small t i false u e = absurd (no_ok e)

small_written : (n : ℕ) → nat_lt n (2 ^ 32) ≡ true → spell_number Int64 (pos n) ≡ Ok (tree.int64 (pos n))
small_written n e =
    let lt : n < 2 ^ 32 = grind (arith, nat_tests, e) in
    ap (λ b. cond b (Err (here (unsigned_exceeds (pos n)))) (Ok (tree.int64 (pos n)))) (wide_small (pos n) (omega (arith, lt)))

-- the struct of a timestamp, by what its numbers are written to
abbrev of_numbers : Writing Tree → Writing Tree → Writing Tree
of_numbers x y =
    result_map fold (under (codes "$timestamp") (result_map fold (under (codes "t") x >>= λ a. under (codes "i") y >>= λ b. Ok (put (codes "i") b (put (codes "t") a no_pairs))))
    >>= λ t. Ok (put (codes "$timestamp") t no_pairs))

timestamp_agrees : (t i : ℕ) → Agrees (datum itself (tree.timestamp t i))
timestamp_agrees t i r levels u e f =
    let a = first_small t (a_key (codes "i") ∷ a_value (value.integer i64 (pos i)) (value.integer i64 (pos i)) ∷ []) (nat_lt t (2 ^ 32)) u e in
    let b = second_small t i (nat_lt i (2 ^ 32)) u a.1 in
    let ps = pair (codes "$timestamp") (document (pair (codes "t") (tree.int64 (pos t)) (pair (codes "i") (tree.int64 (pos i)) no_pairs))) no_pairs in
    (λ j. of_numbers (small_written t a.0 j) (small_written i b.0 j))
    ∙ (λ j. done (or_document ps (option_and_then (λ x. option_map (tree.timestamp x) (cond (b.0 j) (Some i) None)) (cond (a.0 j) (Some t) None))))
    ∙ b.1

decimal_step : (ps : Pairs) (b : Bytes) (c : Bool) (u : Tree) → spell_unwrapped (option_map tree.decimal128 (option_and_then Some (cond c (Some b) None))) ≡ Ok u → Written (or_document ps (cond c (Some (tree.decimal128 b)) None)) u
decimal_step ps b true u e = e
decimal_step ps b false u e = absurd (no_ok e)

decimal_agrees : (b : Bytes) → Agrees (datum itself (tree.decimal128 b))
decimal_agrees b r levels u e f = decimal_step (pair (codes "$numberDecimalBytes") (tree.binary 0 b) no_pairs) b (nat_eq (length b) 16) u e

code_agrees : (t : Utf8) → Agrees (datum itself (tree.javascript_code t))
code_agrees t r levels u e f = e

symbol_agrees : (t : Utf8) → Agrees (datum itself (tree.symbol t))
symbol_agrees t r levels u e f = e

undefined_agrees : Agrees (datum itself tree.undefined)
undefined_agrees r levels u e f = e

max_agrees : Agrees (datum itself tree.max_key)
max_agrees r levels u e f = e

min_agrees : Agrees (datum itself tree.min_key)
min_agrees r levels u e f = e

scope_agrees : (code : Utf8) (scope : Pairs) → Agrees (value.map (pair_data itself scope)) → Agrees (datum itself (tree.javascript_code_with_scope code scope))
scope_agrees code scope inner r levels u e f =
    let m = map_ok (with_scope code) (under (codes "$scope") (spell_as r (value.map (pair_data itself scope)) levels)) u e in
    let s = under_ok (codes "$scope") (spell_as r (value.map (pair_data itself scope)) levels) m.0 m.1 in
    let d = enclosed_ok document levels (spell_entries_as r (pair_data itself scope)) m.0 s in
    let is : tree.javascript_code_with_scope code d.2.0 ≡ u = ap (with_scope code) d.2.2 ∙ m.2 in
    let free : HasFreeKeys m.0 = subst HasFreeKeys d.2.2 (subst HasFreeKeys (sym is) f) in
    ap of_scope (inner r levels m.0 s free ∙ ap Ok (sym d.2.2)) ∙ ap Ok is
  where
    of_scope : Writing Tree → Writing Tree
    of_scope x = result_map fold (under (codes "$scope") x >>= λ t. Ok (put (codes "$scope") t (pair (codes "$code") (string code) no_pairs)))

-- ---- all kinds

pub wrap_agrees : (t : Tree) (name : Utf8) (fs : FieldValues) → HasSubtype t → value.structure name fs ≡ datum itself t → EachAgrees fs → Agrees (value.structure name fs)
wrap_agrees (tree.binary (suc n) b) name fs h e each = subst Agrees (sym e) (binary_agrees n b h)
wrap_agrees tree.undefined name fs h e each = subst Agrees (sym e) undefined_agrees
wrap_agrees (tree.object_id id) name fs h e each = subst Agrees (sym e) (id_agrees id)
wrap_agrees (tree.date_time n) name fs h e each = subst Agrees (sym e) (date_agrees n)
wrap_agrees (tree.regular_expression p o) name fs h e each = subst Agrees (sym e) (expression_agrees p o)
wrap_agrees (tree.db_pointer n id) name fs h e each = subst Agrees (sym e) (pointer_agrees n id)
wrap_agrees (tree.javascript_code t) name fs h e each = subst Agrees (sym e) (code_agrees t)
wrap_agrees (tree.symbol t) name fs h e each = subst Agrees (sym e) (symbol_agrees t)
wrap_agrees (tree.javascript_code_with_scope code scope) name fs h e each = let parts = subst PartsAgree e each in subst Agrees (sym e) (scope_agrees code scope parts.1.0)
wrap_agrees (tree.timestamp t i) name fs h e each = subst Agrees (sym e) (timestamp_agrees t i)
wrap_agrees (tree.decimal128 b) name fs h e each = subst Agrees (sym e) (decimal_agrees b)
wrap_agrees tree.max_key name fs h e each = subst Agrees (sym e) max_agrees
wrap_agrees tree.min_key name fs h e each = subst Agrees (sym e) min_agrees
wrap_agrees (tree.binary zero b) name fs h e each = absurd cc
wrap_agrees t name fs h e each = absurd cc
