-- The value that a tree is means the tree with the options of its regular expressions in order, and is spelled as it.
use Rattle.std.proofs.Common.{◌≡◌, ℕ, ◌<◌, ◌≤◌, ◌^◌, zero, suc, pos, List, [], ◌∷◌, length, Bool, true, false, cond, Option, Some, None, Ok, Err, inl, refl, ap, sym, ◌∙◌, arith}
use Rattle.std.specs.Int.{w64}
use Rattle.std.specs.Prelude.{FitsSigned, nat_lt, nat_eq, option_map, option_and_then, codes}
use Rattle.std.specs.Result.{result_ok}
use Rattle.std.proofs.lemmas.Bool.Decides.{nat_tests}
use Rattle.uuid.specs.Text.{lower}
use Rattle.uuid.proofs.RoundTrips.{parses_hyphenated}
use Rattle.bson_base.specs.Made.{base64_text}
use Rattle.bson_kinds.specs.Outcome.{◌>>=◌, result_map, or_else}
use Rattle.bson_base.specs.Parsed.{bytes_of_base64}
use Rattle.bson_kinds.specs.Reserved.{reserved_kind}
use Rattle.bson_base.specs.Sorted.{sorted}
use Rattle.bson_base.specs.Sound.{IsClean, HasBytes, IsZeroFree}
use Rattle.bson_kinds.specs.Text.{Bytes, Utf8, AreBytes}
use Rattle.bson_base.specs.Tree as tree
use Rattle.bson_base.specs.Tree.{Tree, Pairs, no_pairs, pair, Trees, no_trees, depth, pairs_depth, trees_depth}
use Rattle.bson_kinds.specs.declared.element_type.ElementType.{ElementType}
use Rattle.bson_kinds.specs.declared.element_type.ElementType.TheVariants.{JavaScriptCodeWithScope}
use Rattle.bson_base.proofs.WrittenTexts.{digits_read, subtype_read, integer_read, base64_read}
use Rattle.bson_values.specs.Value as value
use Rattle.bson_values.specs.Value.{i64, Value, FieldValues}
use Rattle.bson_values.specs.Refusal.{here, invalid_cstring, unsigned_exceeds, under, under_index}
use Rattle.bson_laws.specs.Unwrap.{Part, a_value, next_key, next_unsigned, end_as, unwrap}
use Rattle.bson_laws.specs.Written.{with_scope, zero_free}
use Rattle.bson_laws.specs.Datum.{itself, datum, pair_data, tree_data, uuid_datum, sorted_tree, sorted_pairs, sorted_trees}
use Rattle.bson_laws.specs.Encodable.{IsEncodable, ArePairsEncodable, AreTreesEncodable}
use Rattle.bson_laws.specs.InRange.{IsInRange, ArePairsInRange, AreTreesInRange}
use Rattle.bson_laws.specs.Means.{unwrapped_means, means, means_items, means_entries}
use Rattle.bson_laws.specs.Spell.{spell_binary, spell_whole, spell_unwrapped, spell_uuid, spell_as, spell_items_as, spell_entries_as}
use Rattle.bson_laws.proofs.Ranges.{clean_in_range, clean_encodable}
use Rattle.bson_laws.proofs.Writable.{wide_small}
use Rattle.bson_laws.proofs.Spelled.{binary_spelled, enclosed}

-- ---- structs of reserved names

-- a struct of a reserved name, but that of code with a scope, is accepted as the tree
abbrev IsAcceptedAs : Option ElementType → FieldValues → Tree → Type 0
IsAcceptedAs None fs t = Unit {0}
IsAcceptedAs (Some JavaScriptCodeWithScope) fs t = Unit {0}
IsAcceptedAs (Some k) fs t = unwrap k fs ≡ Some t

abbrev IsAccepted : Value → Tree → Type 0
IsAccepted (value.structure name fs) t = IsAcceptedAs (reserved_kind name) fs t
IsAccepted v t = Unit {0}

-- a number that is one of 32 bits without a sign is taken
unsigned_next : (n : ℕ) (rest : List (Part Value)) → n < 2 ^ 32 → next_unsigned (a_value (value.integer i64 (pos n)) (value.integer i64 (pos n)) ∷ rest) ≡ Some (n, rest)
unsigned_next n rest h = let small : nat_lt n (2 ^ 32) ≡ true = grind (arith, nat_tests, h) in ap (λ b. cond b (Some (n, rest)) None) small

abbrev timestamp_of : ℕ × ℕ → Tree
timestamp_of p = tree.timestamp p.0 p.1

-- the increment, and the end of the list, behind a time
abbrev increment_at : ℕ → Option (ℕ × List (Part Value)) → Option (ℕ × ℕ)
increment_at time increment = option_and_then (λ p. end_as (time, p.0) p.1) increment

abbrev behind_time : ℕ × List (Part Value) → Option (ℕ × ℕ)
behind_time time = option_and_then (λ second. increment_at time.0 (next_unsigned second)) (next_key (codes "i") time.1)

-- the parts that are written as digits, as numbers and as bytes are in the ranges of their kinds
abbrev pub HasSizes : Tree → Type 0
HasSizes (tree.binary (suc n) b) = (suc n < 256) × AreBytes b
HasSizes (tree.object_id id) = (length id ≡ 12) × AreBytes id
HasSizes (tree.date_time n) = FitsSigned w64 n
HasSizes (tree.db_pointer namespace id) = (length id ≡ 12) × AreBytes id
HasSizes (tree.timestamp time increment) = (time < 2 ^ 32) × (increment < 2 ^ 32)
HasSizes (tree.decimal128 b) = length b ≡ 16
HasSizes t = Unit {0}

pub in_range_sizes : (t : Tree) → IsInRange t → HasSizes t
in_range_sizes (tree.binary zero b) r = tt
in_range_sizes (tree.binary (suc n) b) r = r
in_range_sizes (tree.object_id id) r = (r.count, r.are_bytes)
in_range_sizes (tree.date_time n) r = r
in_range_sizes (tree.db_pointer namespace id) r = (r.1.count, r.1.are_bytes)
in_range_sizes (tree.timestamp time increment) r = r
in_range_sizes (tree.decimal128 b) r = r.count
in_range_sizes t r = tt

-- each text and number in the fields is read back
pub accepted : (t : Tree) → HasSizes t → IsAccepted (datum itself t) t
accepted (tree.binary zero b) c = tt
accepted (tree.binary (suc n) b) c =
    let binary_of : Option (ℕ × Bytes) → Option Tree = λ found. option_map (λ (p : ℕ × Bytes). tree.binary p.0 p.1) (or_else found None) in
    ap (λ o. binary_of (option_and_then (λ (given : ℕ × Utf8). option_and_then (λ x. Some (given.0, x)) (bytes_of_base64 given.1)) (option_and_then (λ s. Some (s, base64_text b)) o))) (subtype_read (suc n) c.0)
    ∙ ap (λ o. binary_of (option_and_then (λ x. Some (suc n, x)) o)) (base64_read b c.1)
accepted (tree.object_id id) c = ap (λ o. option_map tree.object_id (option_and_then Some o)) (digits_read 12 id c.0 c.1)
accepted (tree.date_time n) c = ap (λ o. option_map tree.date_time (option_and_then Some o)) (integer_read n c)
accepted (tree.regular_expression pattern options) c = refl
accepted (tree.db_pointer namespace id) c =
    ap (λ o. option_map (λ (p : Utf8 × Bytes). tree.db_pointer p.0 p.1) (option_and_then (λ x. Some (namespace, x)) o)) (digits_read 12 id c.0 c.1)
accepted (tree.javascript_code t) c = refl
accepted (tree.symbol t) c = refl
accepted (tree.timestamp time increment) c =
    ap (λ o. option_map timestamp_of (option_and_then behind_time o)) (unsigned_next time _ c.0) ∙ ap (λ o. option_map timestamp_of (increment_at time o)) (unsigned_next increment [] c.1)
accepted (tree.decimal128 b) c = ap (λ n. option_map tree.decimal128 (option_and_then Some (cond (nat_eq n 16) (Some b) None))) c
accepted tree.undefined c = refl
accepted tree.max_key c = refl
accepted tree.min_key c = refl
accepted t c = tt

zero_free_part : (part : Utf8) → IsZeroFree part → zero_free part ≡ Ok part
zero_free_part part z = ap (λ b. cond b (Err (here (invalid_cstring part))) (Ok part)) z.no_zero

regular_expression_spelled : (pattern options : Utf8) → IsZeroFree pattern → IsZeroFree options → spell_whole (tree.regular_expression pattern options) ≡ Ok (tree.regular_expression pattern (sorted options))
regular_expression_spelled pattern options p o = λ i. zero_free_part pattern p i >>= λ x. zero_free_part options o i >>= λ y. Ok (tree.regular_expression x (sorted y))

in_range_binary : (subtype : ℕ) (b : Bytes) → IsInRange (tree.binary subtype b) → IsEncodable (tree.binary subtype b) → spell_binary subtype b ≡ Ok (tree.binary subtype b)
in_range_binary subtype b r e = binary_spelled subtype b (record { is_byte = r.0; are_bytes = r.1; fits = e })

in_range_expression : (pattern options : Utf8) → IsInRange (tree.regular_expression pattern options) → IsEncodable (tree.regular_expression pattern options) → spell_whole (tree.regular_expression pattern options) ≡ Ok (tree.regular_expression pattern (sorted options))
in_range_expression pattern options r e = regular_expression_spelled pattern options (record { text = r.0; no_zero = e.0 }) (record { text = r.1; no_zero = e.1 })

-- ---- what the value is spelled as

mutual
  pub tree_spelled : (readable : Bool) (t : Tree) (levels : ℕ) → IsInRange t → IsEncodable t → depth t ≤ levels → spell_as readable (datum itself t) levels ≡ Ok (sorted_tree t)
  tree_spelled f (tree.double bits) levels r e d = refl
  tree_spelled f (tree.string t) levels r e d = refl
  tree_spelled f (tree.document ps) levels r e d =
      enclosed tree.document (spell_entries_as f (pair_data itself ps)) (sorted_pairs ps) (pairs_depth ps) levels d (λ n le. pairs_spelled f ps n r e le)
  tree_spelled f (tree.array ts) levels r e d =
      enclosed tree.array (spell_items_as f 0 (tree_data itself ts)) (sorted_trees ts) (trees_depth ts) levels d (λ n le. trees_spelled f 0 ts n r e le)
  tree_spelled f (tree.binary zero b) levels r e d = in_range_binary 0 b r e
  tree_spelled f (tree.binary (suc n) b) levels r e d = ap spell_unwrapped (accepted (tree.binary (suc n) b) r) ∙ in_range_binary (suc n) b r e
  tree_spelled f (tree.boolean b) levels r e d = refl
  tree_spelled f tree.null levels r e d = refl
  tree_spelled f (tree.regular_expression pattern options) levels r e d = in_range_expression pattern options r e
  tree_spelled f (tree.javascript_code_with_scope code scope) levels r e d =
      ap (λ x. result_map (with_scope code) (under (codes "$scope") x))
      (enclosed tree.document (spell_entries_as f (pair_data itself scope)) (sorted_pairs scope) (pairs_depth scope) levels d (λ n le. pairs_spelled f scope n r.1 e le))
  tree_spelled f (tree.int32 n) levels r e d = refl
  tree_spelled f (tree.int64 n) levels r e d = ap (λ b. cond b (Err (here (unsigned_exceeds n))) (Ok (tree.int64 n))) (wide_small n r)
  tree_spelled f (tree.raw k b) levels r e d = absurd r
  tree_spelled f t levels r e d = ap spell_unwrapped (accepted t (in_range_sizes t r))

  pairs_spelled : (readable : Bool) (ps : Pairs) (levels : ℕ) → ArePairsInRange ps → ArePairsEncodable ps → pairs_depth ps ≤ levels → spell_entries_as readable (pair_data itself ps) levels ≡ Ok (sorted_pairs ps)
  pairs_spelled f no_pairs levels r e d = refl
  pairs_spelled f (pair key t ps) levels r e d =
      let first = tree_spelled f t levels r.1 e.1 (omega arith) in
      let rest = pairs_spelled f ps levels r.2 e.2 (omega arith) in
      λ i. cond (e.0 i) (Err (here (invalid_cstring key))) (Ok key) >>= λ k. under k (first i) >>= λ u. rest i >>= λ us. Ok (pair k u us)

  trees_spelled : (readable : Bool) (index : ℕ) (ts : Trees) (levels : ℕ) → AreTreesInRange ts → AreTreesEncodable ts → trees_depth ts ≤ levels → spell_items_as readable index (tree_data itself ts) levels ≡ Ok (sorted_trees ts)
  trees_spelled f i no_trees levels r e d = refl
  trees_spelled f i (tree.tree t ts) levels r e d =
      let first = tree_spelled f t levels r.0 e.0 (omega arith) in
      let rest = trees_spelled f (suc i) ts levels r.1 e.1 (omega arith) in
      λ j. under_index i (first j) >>= λ u. rest j >>= λ us. Ok (tree.tree u us)

pub datum_spelled : (readable : Bool) (t : Tree) (levels : ℕ) → IsClean t → depth t ≤ levels → spell_as readable (datum itself t) levels ≡ Ok (sorted_tree t)
datum_spelled readable t levels c d = tree_spelled readable t levels (clean_in_range t c) (clean_encodable t c) d

-- ---- what the value means

mutual
  pub datum_meant : (t : Tree) → IsInRange t → IsEncodable t → means (datum itself t) ≡ Some (sorted_tree t)
  datum_meant (tree.double bits) r e = refl
  datum_meant (tree.string t) r e = refl
  datum_meant (tree.document ps) r e = ap (option_map tree.document) (pairs_meant ps r e)
  datum_meant (tree.array ts) r e = ap (option_map tree.array) (trees_meant ts r e)
  datum_meant (tree.binary zero b) r e = refl
  datum_meant (tree.binary (suc n) b) r e = ap unwrapped_means (accepted (tree.binary (suc n) b) r) ∙ ap result_ok (in_range_binary (suc n) b r e)
  datum_meant (tree.boolean b) r e = refl
  datum_meant tree.null r e = refl
  datum_meant (tree.regular_expression pattern options) r e = ap result_ok (in_range_expression pattern options r e)
  datum_meant (tree.javascript_code_with_scope code scope) r e = ap (λ o. option_map (with_scope code) (option_map tree.document o)) (pairs_meant scope r.1 e)
  datum_meant (tree.int32 n) r e = refl
  datum_meant (tree.int64 n) r e = ap (λ b. cond b None (Some (tree.int64 n))) (wide_small n r)
  datum_meant (tree.raw k b) r e = absurd r
  datum_meant t r e = ap unwrapped_means (accepted t (in_range_sizes t r))

  pairs_meant : (ps : Pairs) → ArePairsInRange ps → ArePairsEncodable ps → means_entries (pair_data itself ps) ≡ Some (sorted_pairs ps)
  pairs_meant no_pairs r e = refl
  pairs_meant (pair key t ps) r e = λ i. option_and_then (λ u. option_map (pair key u) (pairs_meant ps r.2 e.2 i)) (datum_meant t r.1 e.1 i)

  trees_meant : (ts : Trees) → AreTreesInRange ts → AreTreesEncodable ts → means_items (tree_data itself ts) ≡ Some (sorted_trees ts)
  trees_meant no_trees r e = refl
  trees_meant (tree.tree t ts) r e = λ i. option_and_then (λ u. option_map (tree.tree u) (trees_meant ts r.1 e.1 i)) (datum_meant t r.0 e.0 i)

-- ---- UUIDs

sixteen_fit : (b : Bytes) → HasBytes 16 b → IsClean (tree.binary 4 b)
sixteen_fit b h = record { is_byte = omega arith; are_bytes = h.are_bytes; fits = omega (arith, h.count) }

pub uuid_spelled : (readable : Bool) (b : Bytes) (levels : ℕ) → HasBytes 16 b → spell_as readable (uuid_datum itself b) levels ≡ Ok (tree.binary 4 b)
uuid_spelled true b levels h = ap spell_uuid (sym (parses_hyphenated lower b (inl refl) h.count h.are_bytes)) ∙ binary_spelled 4 b (sixteen_fit b h)
uuid_spelled false b levels h = binary_spelled 4 b (sixteen_fit b h)
