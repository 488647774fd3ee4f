-- The document that an extended value is opened to represents the value.
use Rattle.std.proofs.Common.{◌≡◌, ℕ, zero, suc, ◌<◌, ◌≤◌, ◌^◌, pos, [], ◌∷◌, length, false, cond, Option, Some, None, Ok, refl, ap, sym, subst, ◌∙◌, ℤ, w64}
use Rattle.std.specs.Prelude.{FitsSigned, nat_eq, codes, option_map, option_and_then, unsigned_abs}
use Rattle.std.specs.Result.{result_ok}
use Rattle.std.proofs.lemmas.List.Elements.{All-nil, All-cons}
use Rattle.bson_base.specs.Made.{digits, number_text, base64_text}
use Rattle.bson_kinds.specs.Outcome.{◌>>=◌, result_map, or_else}
use Rattle.bson_base.specs.Parsed.{bytes_of_digits, integer_of_text}
use Rattle.bson_base.specs.Sorted.{sorted}
use Rattle.bson_base.specs.Sound.{HasBytes, IsClean}
use Rattle.bson_kinds.specs.Text.{Bytes, Utf8, AreBytes}
use Rattle.bson_base.specs.Tree as tree
use Rattle.bson_base.specs.Tree.{Tree, depth}
use Rattle.bson_kinds.specs.declared.element_type.ElementType.TheVariants.{EmbeddedDocument}
use Rattle.bson_base.proofs.WrittenTexts.{digits_read, integer_read, base64_read}
use Rattle.bson_rawdoc.specs.Node.{Sight, Node, string, made_document, int64, extended, Extended, binary, undefined, object_id, date_time, regular_expression, db_pointer, javascript_code, symbol, javascript_code_with_scope, timestamp, decimal128, max_key, min_key, Nodes, ended, one, made_text, text_fault, fault, opened, opens, piece, whole_at, one_level, tree_node, pair_nodes}
use Rattle.bson_kinds.specs.Piece.{Piece, made}
use Rattle.bson_faults.specs.declared.raw.Error.{Error}
use Rattle.bson_shape.specs.Form.{leaf}
use Rattle.bson_shape.specs.declared.leaf.Leaf.TheVariants.{U32}
use Rattle.bson_values.specs.Marked.{Marked, contents}
use Rattle.bson_values.specs.Refusal.{under}
use Rattle.bson_values.specs.Value as value
use Rattle.bson_values.specs.Value.{u32, Value}
use Rattle.bson_values.specs.Wrapper.{of_key}
use Rattle.bson_values.specs.declared.wrapper.Wrapper.{Wrapper}
use Rattle.bson_values.specs.declared.wrapper.Wrapper.TheVariants as wrappers
use Rattle.bson_laws.specs.Datum.{sorted_tree}
use Rattle.bson_laws.specs.Judged.{Reading, faultless, scope_key}
use Rattle.bson_laws.specs.Leaves.{texts}
use Rattle.bson_laws.specs.ReadsLeaf.{no_extended, read_leaf_with}
use Rattle.bson_laws.specs.Represented.{HasRanges, RepresentsItself}
use Rattle.bson_laws.specs.Taken.{text_of}
use Rattle.bson_laws.specs.Trees.{or_bad, pairs_in, as_tree, after_code, read_tree}
use Rattle.bson_laws.specs.Wrapped.{text, with_field, one_byte, binary_of_texts, oid_body, a_text, a_field, two_fields, two_texts, two_numbers}
use Rattle.bson_laws.proofs.BodyTexts.{made_judged, made_read, unsigned_read, struct_of_one, field_read, both_read, fields_read, fields_read_turned}
use Rattle.bson_base.proofs.MadeTexts.{digits_are_text, base64_is_text, number_is_text}
use Rattle.bson_laws.proofs.ParsedSizes.{ok_there}
use Rattle.bson_laws.proofs.TreesRead.{clean_readable, read_again}

-- what is read where nothing is refused
abbrev given : Reading Tree → Option Tree
given r = result_ok r

-- the value of a wrapper key, by what was read for it
abbrev as_body : Utf8 → Wrapper → Reading (Option Tree) → Reading Tree
as_body key w r = under key (r >>= or_bad w)

-- ---- values whose parts are all made

oid_represented : (id : Piece) → HasBytes 12 id.bytes → read_tree (made_document (opened (object_id id))) ≡ Ok (tree.object_id id.bytes)
unfolding of_key
oid_represented id h =
    let text = digits id.bytes in
    let utf8 = digits_are_text id.bytes in
    ap (λ r. as_body (codes "$oid") wrappers.Oid (r >>= oid_body)) (made_judged text utf8)
    ∙ ap (λ o. as_body (codes "$oid") wrappers.Oid (Ok (option_map tree.object_id o))) (digits_read 12 id.bytes h.count h.are_bytes)

date_represented : (n : ℤ) → FitsSigned w64 n → read_tree (made_document (opened (date_time n))) ≡ Ok (tree.date_time n)
unfolding of_key
date_represented n h =
    ap (λ r. as_body (codes "$date") wrappers.Date (result_map (λ v. a_field (a_text (λ t. option_map tree.date_time (integer_of_text t))) (contents v)) r))
    (field_read (codes "$numberLong") text (made_text (number_text n)) (value.str (made (number_text n))) refl (made_read (number_text n) (number_is_text n h)))
    ∙ ap (λ o. as_body (codes "$date") wrappers.Date (Ok (option_map tree.date_time o))) (integer_read n h)

one_made : (n : ℕ) → n < 256 → AreBytes (n ∷ [])
one_made n h = All-cons (λ b. b < 256) n [] h (All-nil (λ b. b < 256))

binary_represented : (subtype : ℕ) (b : Piece) → subtype < 256 → AreBytes b.bytes → read_tree (made_document (opened (binary subtype b))) ≡ Ok (tree.binary subtype b.bytes)
unfolding of_key
binary_represented subtype b small bytes =
    let first = base64_text b.bytes in
    let second = digits (subtype ∷ []) in
    ap (λ r. as_body (codes "$binary") wrappers.Binary (result_map (λ v. two_texts binary_of_texts (contents v)) r))
    (fields_read_turned (codes "base64") text (codes "subType") text (made_text first) (made_text second) refl refl refl (value.str (made first)) (value.str (made second))
    (made_read first (base64_is_text b.bytes)) (made_read second (digits_are_text (subtype ∷ []))))
    ∙ ap (λ o. as_body (codes "$binary") wrappers.Binary (Ok (option_and_then (λ x. option_map (λ n. tree.binary n x) (option_and_then one_byte (bytes_of_digits 1 second))) o))) (base64_read b.bytes bytes)
    ∙ ap (λ o. as_body (codes "$binary") wrappers.Binary (Ok (option_map (λ n. tree.binary n b.bytes) (option_and_then one_byte o)))) (digits_read 1 (subtype ∷ []) refl (one_made subtype small))

timestamp_represented : (time increment : ℕ) → time < 2 ^ 32 → increment < 2 ^ 32 → read_tree (made_document (opened (timestamp time increment))) ≡ Ok (tree.timestamp time increment)
unfolding of_key
timestamp_represented time increment h k =
    ap (λ r. as_body (codes "$timestamp") wrappers.Timestamp (result_map (λ v. two_numbers (λ t i. Some (tree.timestamp (unsigned_abs t) (unsigned_abs i))) (contents v)) r))
    (fields_read (codes "t") (leaf U32) (codes "i") (leaf U32) (int64 (pos time)) (int64 (pos increment)) refl refl refl (Ok (value.integer u32 (pos time))) (Ok (value.integer u32 (pos increment)))
    (unsigned_read time h) (unsigned_read increment k))

decimal_represented : (b : Piece) → length b.bytes ≡ 16 → read_tree (made_document (opened (decimal128 b))) ≡ Ok (tree.decimal128 b.bytes)
unfolding of_key
decimal_represented b h = ap (λ n. as_body (codes "$numberDecimalBytes") wrappers.NumberDecimalBytes (Ok (cond (nat_eq n 16) (Some (tree.decimal128 b.bytes)) None))) h

-- ---- values with texts, which may have faults

-- a text, by its fault
abbrev text_read : Piece → Option Error → Reading Piece
text_read p o = faultless o (string p) >>= text_of false

abbrev text_value : Piece → Option Error → Reading Marked
text_value p o = faultless o (string p) >>= read_leaf_with no_extended false texts

code_represented : (p : Piece) → given (read_tree (made_document (opened (javascript_code p)))) ≡ given (read_tree (opens (javascript_code p)))
unfolding of_key
code_represented p = by_fault (text_fault p)
  where
    by_fault : (o : Option Error) → given (under (codes "$code") (result_map (λ (t : Piece). t.bytes) (text_read p o)) >>= λ t. after_code t ended) ≡ given (faultless o (opens (javascript_code p)) >>= as_tree)
    by_fault None = refl
    by_fault (Some e) = refl

symbol_represented : (p : Piece) → given (read_tree (made_document (opened (symbol p)))) ≡ given (read_tree (opens (symbol p)))
unfolding of_key
symbol_represented p = by_fault (text_fault p)
  where
    by_fault : (o : Option Error) → given (as_body (codes "$symbol") wrappers.Symbol (result_map (λ t. Some (tree.symbol t)) (result_map (λ (t : Piece). t.bytes) (text_read p o)))) ≡ given (faultless o (opens (symbol p)) >>= as_tree)
    by_fault None = refl
    by_fault (Some e) = refl

expression_represented : (p q : Piece) → given (read_tree (made_document (opened (regular_expression p q)))) ≡ given (read_tree (opens (regular_expression p q)))
unfolding of_key
expression_represented p q =
    ap (λ r. given (as_body (codes "$regularExpression") wrappers.RegularExpression (result_map (λ v. two_texts (λ x o. Some (tree.regular_expression x (sorted o))) (contents v)) r)))
    (fields_read (codes "pattern") text (codes "options") text (string p) (string q) refl refl refl (text_value p (text_fault p)) (text_value q (text_fault q)) refl refl)
    ∙ by_faults (text_fault p) (text_fault q)
  where
    by_faults : (o e : Option Error)
        → given (as_body (codes "$regularExpression") wrappers.RegularExpression (result_map (λ v. two_texts (λ x o. Some (tree.regular_expression x (sorted o))) (contents v)) (both_read (codes "pattern") (text_value p o) (codes "options") (text_value q e))))
        ≡ given (faultless (or_else o e) (opens (regular_expression p q)) >>= as_tree)
    by_faults None None = refl
    by_faults None (Some f) = refl
    by_faults (Some f) e = refl

abbrev pointer_of : Value → Option Tree
pointer_of = two_fields (λ v w. a_text (λ t. a_field (a_text (λ id. option_map (tree.db_pointer t) (bytes_of_digits 12 id))) w) v)

pointer_represented : (p : Piece) (id : Bytes) → HasBytes 12 id → given (read_tree (made_document (opened (db_pointer p id)))) ≡ given (read_tree (opens (db_pointer p id)))
unfolding of_key
pointer_represented p id h =
    ap (λ r. given (as_body (codes "$dbPointer") wrappers.DbPointer (result_map (λ v. pointer_of (contents v)) r)))
    (fields_read (codes "$ref") text (codes "$id") (with_field (codes "$oid") text) (string p) (made_document (one (codes "$oid") (made_text (digits id)))) refl refl refl
    (text_value p (text_fault p)) (Ok (struct_of_one (codes "$oid") (value.str (made (digits id))))) refl
    (field_read (codes "$oid") text (made_text (digits id)) (value.str (made (digits id))) refl (made_read (digits id) (digits_are_text id))))
    ∙ by_fault (text_fault p)
  where
    by_fault : (o : Option Error)
        → given (as_body (codes "$dbPointer") wrappers.DbPointer (result_map (λ v. pointer_of (contents v)) (both_read (codes "$ref") (text_value p o) (codes "$id") (Ok (struct_of_one (codes "$oid") (value.str (made (digits id))))))))
        ≡ given (faultless o (opens (db_pointer p id)) >>= as_tree)
    by_fault None = ap (λ x. given (as_body (codes "$dbPointer") wrappers.DbPointer (Ok (option_map (tree.db_pointer p.bytes) x)))) (digits_read 12 id h.count h.are_bytes)
    by_fault (Some e) = refl

-- a code, by its fault and that of its scope
scope_represented : (p : Piece) (scope : Node) → given (read_tree (made_document (opened (javascript_code_with_scope p scope)))) ≡ given (read_tree (opens (javascript_code_with_scope p scope)))
unfolding of_key
scope_represented p scope = by_fault (text_fault p)
  where
    by_scope : (o : Option Error) → fault scope ≡ o
        → given (after_code p.bytes (one scope_key scope)) ≡ given (faultless o (opens (javascript_code_with_scope p scope)) >>= as_tree)
    by_scope None e = refl
    by_scope (Some f) e = ap (λ o. given (result_map (tree.javascript_code_with_scope p.bytes) (under scope_key ((faultless o scope >>= λ _. as_tree scope) >>= pairs_in)))) e

    by_fault : (o : Option Error)
        → given (under (codes "$code") (result_map (λ (t : Piece). t.bytes) (text_read p o)) >>= λ t. after_code t (one scope_key scope))
        ≡ given (faultless (or_else o (fault scope)) (opens (javascript_code_with_scope p scope)) >>= as_tree)
    by_fault None = by_scope (fault scope) refl
    by_fault (Some e) = refl

-- ---- all values

undefined_represented : read_tree (made_document (opened undefined)) ≡ Ok tree.undefined
unfolding of_key
undefined_represented = refl

max_represented : read_tree (made_document (opened max_key)) ≡ Ok tree.max_key
unfolding of_key
max_represented = refl

min_represented : read_tree (made_document (opened min_key)) ≡ Ok tree.min_key
unfolding of_key
min_represented = refl

pub represents_itself : RepresentsItself
represents_itself (binary subtype b) h = ap given (binary_represented subtype b h.0 h.1)
represents_itself undefined h = ap given undefined_represented
represents_itself (object_id id) h = ap given (oid_represented id h)
represents_itself (date_time n) h = ap given (date_represented n h)
represents_itself (regular_expression p q) h = expression_represented p q
represents_itself (db_pointer p id) h = pointer_represented p id h
represents_itself (javascript_code p) h = code_represented p
represents_itself (symbol p) h = symbol_represented p
represents_itself (javascript_code_with_scope p scope) h = scope_represented p scope
represents_itself (timestamp time increment) h = ap given (timestamp_represented time increment h.0 h.1)
represents_itself (decimal128 b) h = ap given (decimal_represented b h)
represents_itself max_key h = ap given max_represented
represents_itself min_key h = ap given min_represented

-- ---- clean values

extended_is : (x y : Extended) (ns ms : Nodes) → extended x ns ≡ extended y ms → x ≡ y
extended_is x y ns ms e = cc

-- what holds of a value holds of the value that is the same
same_ranges : (x y : Extended) → opens x ≡ opens y → HasRanges x → HasRanges y
same_ranges x y e h = subst HasRanges (extended_is x y (opened x) (opened y) e) h

clean_ranges : (at : Sight) (t : Tree) (levels : ℕ) (x : Extended) → IsClean t → tree_node at t levels ≡ opens x → HasRanges x
clean_ranges at (tree.document ps) zero x c e = absurd cc
clean_ranges at (tree.document ps) (suc n) x c e = absurd cc
clean_ranges at (tree.array ts) zero x c e = absurd cc
clean_ranges at (tree.array ts) (suc n) x c e = absurd cc
clean_ranges at (tree.binary zero b) levels x c e = absurd cc
clean_ranges at (tree.binary (suc n) b) levels x c e = same_ranges (binary (suc n) (piece at.bytes b)) x e (c.is_byte, c.are_bytes)
clean_ranges at tree.undefined levels x c e = same_ranges undefined x e tt
clean_ranges at (tree.object_id id) levels x c e = same_ranges (object_id (piece at.bytes id)) x e c
clean_ranges at (tree.date_time n) levels x c e = same_ranges (date_time n) x e c
clean_ranges at (tree.regular_expression p q) levels x c e = same_ranges (regular_expression (piece at.texts p) (piece at.texts q)) x e tt
clean_ranges at (tree.db_pointer namespace id) levels x c e = same_ranges (db_pointer (piece at.texts namespace) id) x e c.1
clean_ranges at (tree.javascript_code t) levels x c e = same_ranges (javascript_code (piece at.texts t)) x e tt
clean_ranges at (tree.symbol t) levels x c e = same_ranges (symbol (piece at.texts t)) x e tt
clean_ranges at (tree.javascript_code_with_scope code scope) levels x c e =
    same_ranges (javascript_code_with_scope (piece at.texts code) (one_level EmbeddedDocument (whole_at at (tree.document scope)) (pair_nodes at scope) levels)) x e tt
clean_ranges at (tree.timestamp time increment) levels x c e = same_ranges (timestamp time increment) x e c
clean_ranges at (tree.decimal128 b) levels x c e = same_ranges (decimal128 (piece at.bytes b)) x e c.count
clean_ranges at tree.max_key levels x c e = same_ranges max_key x e tt
clean_ranges at tree.min_key levels x c e = same_ranges min_key x e tt
clean_ranges at (tree.raw k b) levels x c e = absurd c
clean_ranges at t levels x c e = absurd cc

pub clean_represented : (at : Sight) (t : Tree) (levels : ℕ) (x : Extended) → IsClean t → depth t ≤ levels → tree_node at t levels ≡ opens x → read_tree (made_document (opened x)) ≡ Ok (sorted_tree t)
clean_represented at t levels x c d e =
    let read : read_tree (opens x) ≡ Ok (sorted_tree t) = ap read_tree (sym e) ∙ read_again at t levels (clean_readable t c) d in
    ok_there (read_tree (made_document (opened x))) (sorted_tree t) (represents_itself x (clean_ranges at t levels x c e) ∙ ap given read)
