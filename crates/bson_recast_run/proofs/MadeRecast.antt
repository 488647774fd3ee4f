-- The document of rows is read at its shape, and what is read is written.
use Rattle.std.proofs.Common.{◌≡◌, ◌≤◌, ◌<◌, ◌+◌, ◌-◌, ◌^◌, ℕ, zero, suc, [], length, true, Result, Ok, Err, Some, None, refl, ap, sym, subst, ◌∙◌, pos, codes, arith}
use Rattle.std.specs.Prelude.{◌&&◌, not, if◌then◌else◌, option_map, option_and_then, IfOk, String as Text, string_bytes}
use Rattle.std.specs.declared.alloc.Global.{Global}
use Rattle.std.specs.Global.{Vec}
use Rattle.std.specs.Fmt.{decimal}
use Rattle.std.specs.Str.{is_utf8}
use Rattle.std.proofs.lemmas.Str.{IsUtf8-from_ascii, is_utf8-from_IsUtf8}
use Rattle.std.proofs.lemmas.Str.Ascii.{IsAscii-nil}
use Rattle.std.proofs.lemmas.Bool.{le-ltb}
use Rattle.bson_base.specs.Sound.{IsSound, max_bytes}
use Rattle.bson_kinds.specs.Text.{Bytes, IsFreeName}
use Rattle.bson_base.specs.Tree.{Tree, document, array, string, int64, no_pairs, pair, tree, enc}
use Rattle.bson_shape.specs.Answers.{Fails}
use Rattle.bson_shape.specs.declared.error.ParseError.{ParseError}
use Rattle.bson_shape.specs.declared.error.ParseError.TheVariants as errors
use Rattle.bson_shape.specs.Form.{Form, leaf, structure, dropped, no_fields, field}
use Rattle.bson_shape.specs.Makers.{IsShape}
use Rattle.bson_shape.specs.declared.leaf.Leaf.TheVariants.{U32, String}
use Rattle.bson_values.specs.Value.{Value, integer, u32, str, in_range, structure as struct_value, sequence as sequence_value, Items, no_items, item, no_field_values, field_value}
use Rattle.bson_laws.specs.Means.{means, means_items}
use Rattle.bson_laws.specs.Plain.{IsPlain}
use Rattle.bson_laws.specs.Recursive.{view}
use Rattle.bson_laws.specs.Views.{views, views_items}
use Rattle.bson_recast_run.specs.Made.{row_name, row_fields, rows_from, rows_document, made}
use Rattle.bson_recast_run.proofs.Sound.{kept_fields, made_sound, kept_sound}
use Rattle.bson_recast_run.specs.Making.{max_rows, rows_shape, made_line, IsMadeLine}
use Rattle.bson_recasting.specs.Recasting.{GivesBytes}
use Rattle.bson_tree_recast.specs.Recast.{writes, recast_of}
use Rattle.bson_tree_recast.specs.declared.error.RecastError.{RecastError}

-- ---- the shape

abbrev row_shape : Form
row_shape = structure dropped [] (field (codes "n") (leaf U32) (field (codes "name") (leaf String) no_fields))

no_text : is_utf8 [] ≡ true
no_text = is_utf8-from_IsUtf8 [] (IsUtf8-from_ascii [] IsAscii-nil)

pub rows_are_shape : IsShape rows_shape
rows_are_shape =
    let names = (made_sound 1 (omega arith)).clean in (
      record { text = no_text; free = refl; distinct = refl; few = omega arith },
      (names.0.text, (omega arith, (record { text = no_text; free = refl; distinct = refl; few = omega arith }, (names.2.0.0.text, tt, (names.2.0.3.0.text, tt, tt)))), tt),
    )

free_name : IsFreeName (codes "name")
free_name = record { no_zero = refl; no_dollar = refl }

rows_are_plain : IsPlain rows_shape
rows_are_plain =
    (record { no_zero = refl; no_dollar = refl }, (record { no_zero = refl; no_dollar = refl }, (record { no_zero = refl; no_dollar = refl }, (record { no_zero = refl; no_dollar = refl }, tt, (free_name, tt, tt))), tt))

-- ---- the value

abbrev row_value : ℕ → Value
row_value i = struct_value [] (field_value (codes "n") (integer u32 (pos i)) (field_value (codes "name") (str (row_name (decimal i))) no_field_values))

abbrev row_values : (first count : ℕ) → Items
row_values first zero = no_items
row_values first (suc count) = item (row_value first) (row_values (suc first) count)

abbrev rows_value : ℕ → Value
rows_value count = struct_value [] (field_value (codes "rows") (sequence_value (row_values 0 count)) no_field_values)

in_u32 : (i : ℕ) → i < 2 ^ 31 → in_range u32 (pos i) ≡ true
in_u32 i h = λ k. not (le-ltb i 0 (omega arith) k) && not (le-ltb (2 ^ 32 - 1) i (omega (arith, h)) k)

row_seen : (i : ℕ) → i < 2 ^ 31 → views row_shape (document (row_fields i)) ≡ Some (row_value i)
row_seen i h =
    ap (λ b. option_map (struct_value []) (option_and_then (λ v. option_map (field_value (codes "n") v) (Some (field_value (codes "name") (str (row_name (decimal i))) no_field_values))) (if b then Some (integer u32 (pos i)) else None))) (in_u32 i h)

rows_seen : (i n : ℕ) → i + n ≤ 2 ^ 31 → views_items (views row_shape) (rows_from row_fields i n) ≡ Some (row_values i n)
rows_seen i zero h = refl
rows_seen i (suc n) h =
    ap (λ o. option_and_then (λ v. option_map (item v) (views_items (views row_shape) (rows_from row_fields (suc i) n))) o) (row_seen i (omega (arith, h)))
    ∙ ap (λ o. option_map (item (row_value i)) o) (rows_seen (suc i) n (omega (arith, h)))

pub made_seen : (n : ℕ) → n ≤ max_rows → view no_fields rows_shape (made n) ≡ Some (rows_value n)
made_seen n h =
    ap (λ o. option_map (struct_value []) (option_and_then (λ v. option_map (field_value (codes "rows") v) (Some no_field_values)) (option_map sequence_value o))) (rows_seen 0 n (omega (arith, h)))

-- ---- the tree that it means

row_means : (i : ℕ) → i < 2 ^ 31 → means (row_value i) ≡ Some (document (kept_fields i))
row_means i h =
    ap (λ b. option_map document (option_and_then (λ t. option_map (pair (codes "n") t) (Some (pair (codes "name") (string (row_name (decimal i))) no_pairs))) (if b then None else Some (int64 (pos i))))) (le-ltb (2 ^ 63 - 1) i (omega (arith, h)))

rows_mean : (i n : ℕ) → i + n ≤ 2 ^ 31 → means_items (row_values i n) ≡ Some (rows_from kept_fields i n)
rows_mean i zero h = refl
rows_mean i (suc n) h =
    ap (λ o. option_and_then (λ t. option_map (tree t) (means_items (row_values (suc i) n))) o) (row_means i (omega (arith, h)))
    ∙ ap (λ o. option_map (tree (document (kept_fields i))) o) (rows_mean (suc i) n (omega (arith, h)))

pub value_means : (n : ℕ) → n ≤ max_rows → means (rows_value n) ≡ Some (rows_document kept_fields n)
value_means n h =
    ap (λ o. option_map document (option_and_then (λ t. option_map (pair (codes "rows") t) (Some no_pairs)) (option_map array o))) (rows_mean 0 n (omega (arith, h)))

-- ---- the recast

module _ (s : Form) (bytes : Bytes) (rows : ℕ) (r : Result (Vec ℕ) RecastError) (few : rows ≤ max_rows) (at_shape : s ≡ rows_shape) (of_rows : bytes ≡ enc (made rows)) where
  -- what a recast that migrates gives of the document of rows
  pub gives_kept : ((t u : Tree) (d : Value) → IsPlain s → IsSound t → view no_fields s t ≡ Some d → means d ≡ Some u → IsSound u → bytes ≡ enc t → GivesBytes (enc u) r) → GivesBytes (enc (rows_document kept_fields rows)) r
  gives_kept migrates =
      migrates (made rows) (rows_document kept_fields rows) (rows_value rows) (subst IsPlain (sym at_shape) rows_are_plain) (made_sound rows (omega (arith, few)))
      (ap (λ f. view no_fields f (made rows)) at_shape ∙ made_seen rows few) (value_means rows few) (kept_sound rows (omega (arith, few))) of_rows

-- it is no longer than a document may be
pub kept_fits : (rows : ℕ) (v : Bytes) → rows ≤ max_rows → v ≡ enc (rows_document kept_fields rows) → length v ≤ max_bytes
kept_fits rows v few is = omega (arith, ap length is, (kept_sound rows (omega (arith, few))).fits)

-- ---- the line

pub line_is : {E : Type 0} (r : Result (Text Global) E) (rows : ℕ) (made_document recast : Bytes) → made_document ≡ enc (made rows) → recast_of rows_shape (enc (made rows)) ≡ writes recast
    → IfOk r (λ line. string_bytes line ≡ made_line rows made_document recast) → IfOk r (λ line. IsMadeLine rows (string_bytes line))
line_is (Ok line) rows made_document recast is written h = record { recast = recast; writes_it = written; says = h ∙ ap (λ d. made_line rows d recast) is }
line_is (Err e) rows made_document recast is written h = tt

-- the shape is read from its notation
pub shape_fails : (e : ParseError) → Fails {Y = Form} e (Ok rows_shape) → e ≡ errors.NoMemory
shape_fails errors.NoMemory h = refl
shape_fails (errors.NotNotation place) h = absurd cc
shape_fails (errors.Refused place cause) h = absurd cc
