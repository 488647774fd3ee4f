-- A clean tree is judged without a refusal, where there are levels for it.
use Rattle.std.proofs.Common.{◌≡◌, ℕ, zero, suc, ◌-◌, ◌≤◌, drop, Bool, true, false, cond, Option, Some, None, Result, Ok, Err, refl, ap, sym, subst, ◌∙◌, arith}
use Rattle.std.specs.Str.{is_utf8}
use Rattle.std.proofs.lemmas.Bool.{cond-true}
use Rattle.bson_kinds.specs.Text.{Bytes, Utf8}
use Rattle.bson_kinds.specs.Outcome.{◌>>=◌, result_map, or_else}
use Rattle.bson_base.specs.Sound.{IsClean}
use Rattle.bson_base.specs.Tree.{Tree, null, string, document, array, binary, regular_expression, db_pointer, javascript_code, symbol, javascript_code_with_scope, raw, Pairs, Trees, depth}
use Rattle.bson_kinds.specs.declared.element_type.ElementType.TheVariants.{EmbeddedDocument, Array, JavaScriptCodeWithScope}
use Rattle.bson_kinds.specs.declared.element_type.ElementType.{ElementType}
use Rattle.bson_faults.specs.declared.raw.Error.{Error}
use Rattle.bson_faults.specs.declared.raw.Error.TheVariants.{NotUtf8, ValueUnclosed}
use Rattle.bson_rawdoc.specs.Envelope.{is_closed}
use Rattle.bson_rawdoc.specs.Numbers.{int32_in}
use Rattle.bson_kinds.specs.Piece.{Piece}
use Rattle.bson_rawdoc.specs.Walk.{walk}
use Rattle.bson_rawdoc.specs.Node as node
use Rattle.bson_rawdoc.specs.Node.{of_bytes, Whole, Node, Nodes, broken, too_deep, opens, or_broken, scoped_bytes, nodes_with, closed_node, node_in, Sight, text_fault, fault, piece, whole_at, one_level, mended_if, tree_node, pair_nodes, tree_nodes}
use Rattle.bson_values.specs.Value as value
use Rattle.bson_values.specs.Marked.{Marked}
use Rattle.bson_laws.specs.Judged.{Reading, with_level, faultless, judged}
use Rattle.bson_laws.specs.Taken.{document_of, array_of}
use Rattle.bson_laws.specs.Containers.{reads_option}
use Rattle.bson_laws.proofs.Coded.{IsRawCoded, IsCoded}

-- ---- what is read from a tree

-- it is read, and what it holds is this
abbrev pub ReadAs : {A B : Type 0} → (A → B) → Reading A → B → Type 0
ReadAs {A = A} f r y = (x : A) × (r ≡ Ok x) × (f x ≡ y)

-- ---- no fault

pub text_whole : (at : Sight) (t : Utf8) → is_utf8 t ≡ true → text_fault (piece at.texts t) ≡ None
text_whole at t e = cond-true (is_utf8 t) None (Some NotUtf8) e

pub both_whole : (o p : Option Error) → o ≡ None → p ≡ None → or_else o p ≡ None
both_whole None p e d = d
both_whole (Some x) p e d = absurd cc

pub scope_whole : (at : Sight) (ps : Pairs) (levels : ℕ) → fault (one_level EmbeddedDocument (whole_at at (document ps)) (pair_nodes at ps) levels) ≡ None
scope_whole at ps zero = refl
scope_whole at ps (suc levels) = refl

whole : (at : Sight) (t : Tree) (levels : ℕ) → IsClean t → fault (tree_node at t levels) ≡ None
whole at (string t) levels c = text_whole at t c
whole at (document ps) levels c = scope_whole at ps levels
whole at (array ts) zero c = refl
whole at (array ts) (suc levels) c = refl
whole at (binary zero b) levels c = refl
whole at (binary (suc n) b) levels c = refl
whole at (regular_expression p q) levels c = both_whole _ _ (text_whole at p c.0.text) (text_whole at q c.1.text)
whole at (db_pointer namespace id) levels c = text_whole at namespace c.0
whole at (javascript_code t) levels c = text_whole at t c
whole at (symbol t) levels c = text_whole at t c
whole at (javascript_code_with_scope code scope) levels c = both_whole _ _ (text_whole at code c.0) (scope_whole at scope levels)
whole at (raw k b) levels c = absurd c
whole at t levels c = refl

-- ---- levels

-- the tree is not given by its bytes
abbrev pub IsNotRaw : Tree → Type 0
IsNotRaw (raw k b) = ⊥
IsNotRaw t = Unit {0}

pub clean_not_raw : (t : Tree) → IsClean t → IsNotRaw t
clean_not_raw (raw k b) c = absurd c
clean_not_raw t c = tt

pub level_there : (at : Sight) (t : Tree) (levels : ℕ) → IsNotRaw t → depth t ≤ levels → with_level (tree_node at t levels) ≡ Ok (tree_node at t levels)
level_there at (document ps) zero n d = absurd (omega arith)
level_there at (document ps) (suc levels) n d = refl
level_there at (array ts) zero n d = absurd (omega arith)
level_there at (array ts) (suc levels) n d = refl
level_there at (binary zero b) levels n d = refl
level_there at (binary (suc m) b) levels n d = refl
level_there at (raw k b) levels n d = absurd n
level_there at t levels n d = refl

pub judged_again : (at : Sight) (t : Tree) (levels : ℕ) → IsClean t → depth t ≤ levels → judged (tree_node at t levels) ≡ Ok (tree_node at t levels)
judged_again at t levels c d = ap (λ o. faultless o (tree_node at t levels)) (whole at t levels c) ∙ level_there at t levels (clean_not_raw t c) d

-- ---- documents and arrays

document_there : (at : Sight) (ps : Pairs) (levels : ℕ) → depth (document ps) ≤ levels → document_of (tree_node at (document ps) levels) ≡ Ok (pair_nodes at ps (levels - 1))
document_there at ps zero d = absurd (omega arith)
document_there at ps (suc n) d = let below : n ≡ suc n - 1 = omega arith in ap (λ m. Ok (pair_nodes at ps m)) below

array_there : (at : Sight) (ts : Trees) (levels : ℕ) → depth (array ts) ≤ levels → array_of (tree_node at (array ts) levels) ≡ Ok (tree_nodes at 0 ts (levels - 1))
array_there at ts zero d = absurd (omega arith)
array_there at ts (suc n) d = let below : n ≡ suc n - 1 = omega arith in ap (λ m. Ok (tree_nodes at 0 ts m)) below

pub document_again : (at : Sight) (ps : Pairs) (levels : ℕ) → IsClean (document ps) → depth (document ps) ≤ levels → (judged (tree_node at (document ps) levels) >>= document_of) ≡ Ok (pair_nodes at ps (levels - 1))
document_again at ps levels c d = ap (λ r. r >>= document_of) (judged_again at (document ps) levels c d) ∙ document_there at ps levels d

pub array_again : (at : Sight) (ts : Trees) (levels : ℕ) → IsClean (array ts) → depth (array ts) ≤ levels → (judged (tree_node at (array ts) levels) >>= array_of) ≡ Ok (tree_nodes at 0 ts (levels - 1))
array_again at ts levels c d = ap (λ r. r >>= array_of) (judged_again at (array ts) levels c d) ∙ array_there at ts levels d

-- ---- null, and what is not null

-- a node that is not null is read at an option as some value
abbrev IsSome : Node → Reading Marked → Type 0
IsSome n r = reads_option n r ≡ result_map value.some r

opened_some : (u : Bool) (k : ElementType) (o : Result (Piece × Bytes) Error) (container : Bytes → Node) (r : Reading Marked) → IsSome (mended_if u (or_broken k (λ p. opens (node.javascript_code_with_scope p.0 (container p.1))) o)) r
opened_some true k (Ok p) container r = refl
opened_some false k (Ok p) container r = refl
opened_some true k (Err e) container r = refl
opened_some false k (Err e) container r = refl

document_some : (u c : Bool) (k : ElementType) (slice : Whole) (ns : Nodes) (r : Reading Marked) → IsSome (mended_if u (cond c (node.document slice ns) (broken k ValueUnclosed))) r
document_some true true k slice ns r = refl
document_some true false k slice ns r = refl
document_some false true k slice ns r = refl
document_some false false k slice ns r = refl

array_some : (u c : Bool) (k : ElementType) (slice : Whole) (ns : Nodes) (r : Reading Marked) → IsSome (mended_if u (cond c (node.array slice ns) (broken k ValueUnclosed))) r
array_some true true k slice ns r = refl
array_some true false k slice ns r = refl
array_some false true k slice ns r = refl
array_some false false k slice ns r = refl

deep_some : (u c : Bool) (k : ElementType) (r : Reading Marked) → IsSome (mended_if u (cond c (too_deep k) (broken k ValueUnclosed))) r
deep_some true true k r = refl
deep_some true false k r = refl
deep_some false true k r = refl
deep_some false false k r = refl

-- what is given by its bytes is not null
raw_some : (u : Bool) (k : ElementType) (b : Bytes) (levels : ℕ) (r : Reading Marked) → IsRawCoded k b → IsSome (mended_if u (node_in levels k b)) r
raw_some u EmbeddedDocument b zero r c = deep_some u (is_closed b) EmbeddedDocument r
raw_some u EmbeddedDocument b (suc n) r c = document_some u (is_closed b) EmbeddedDocument (of_bytes b) (nodes_with (node_in n) (walk b)) r
raw_some u Array b zero r c = deep_some u (is_closed b) Array r
raw_some u Array b (suc n) r c = array_some u (is_closed b) Array (of_bytes b) (nodes_with (node_in n) (walk b)) r
raw_some u JavaScriptCodeWithScope b zero r c = opened_some u JavaScriptCodeWithScope (scoped_bytes (int32_in (drop 4 b)) (drop 4 b)) (λ s. closed_node EmbeddedDocument s (too_deep EmbeddedDocument)) r
raw_some u JavaScriptCodeWithScope b (suc n) r c =
    opened_some u JavaScriptCodeWithScope (scoped_bytes (int32_in (drop 4 b)) (drop 4 b)) (λ s. closed_node EmbeddedDocument s (node.document (of_bytes s) (nodes_with (node_in n) (walk s)))) r
raw_some u k b levels r c = absurd c

-- what holds of none, where the tree is null, and of some value elsewhere, holds of what is read at an option
pub by_null : (P : Reading Marked → Type 0) (at : Sight) (t : Tree) (levels : ℕ) (r : Reading Marked) → IsCoded t → (t ≡ null → P (Ok value.none)) → P (result_map value.some r) → P (reads_option (tree_node at t levels) r)
by_null P at null levels r c none some = none refl
by_null P at (document ps) zero r c none some = some
by_null P at (document ps) (suc n) r c none some = some
by_null P at (array ts) zero r c none some = some
by_null P at (array ts) (suc n) r c none some = some
by_null P at (binary zero b) levels r c none some = some
by_null P at (binary (suc n) b) levels r c none some = some
by_null P at (raw k b) levels r c none some = subst P (sym (raw_some at.under_mark k b levels r c)) some
by_null P at t levels r c none some = some
