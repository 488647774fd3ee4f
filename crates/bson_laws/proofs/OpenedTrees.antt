-- The document that `Bson::into_extended_document` gives for a clean value is read as the value.
use Rattle.std.proofs.Common.{◌≡◌, ℕ, zero, suc, [], ◌∷◌, ◌≤◌, Bool, true, false, cond, Ok, refl, ap, sym, subst, ◌∙◌, arith}
use Rattle.std.specs.Prelude.{codes, nat_eq}
use Rattle.std.proofs.Math.Dec.{eqb-suc-zero}
use Rattle.bson_base.specs.Made.{digits, base64_text}
use Rattle.bson_base.specs.Opened.{IsExtended, one, two, opened}
use Rattle.bson_base.specs.Sound.{IsClean}
use Rattle.bson_kinds.specs.Text.{Bytes}
use Rattle.bson_base.specs.Tree as tree
use Rattle.bson_base.specs.Tree.{Tree, Pairs, no_pairs, depth}
use Rattle.bson_kinds.specs.declared.element_type.ElementType.TheVariants.{EmbeddedDocument}
use Rattle.bson_rawdoc.specs.Node as node
use Rattle.bson_rawdoc.specs.Node.{of_opening, Sight, Extended, object_id, date_time, regular_expression, db_pointer, javascript_code, symbol, javascript_code_with_scope, timestamp, decimal128, opens, one_level, tree_node, pair_nodes}
use Rattle.bson_kinds.specs.Piece.{made}
use Rattle.bson_values.specs.Wrapper.{of_key}
use Rattle.bson_laws.specs.Datum.{sorted_tree}
use Rattle.bson_laws.specs.RawFree.{ArePairsRawFree}
use Rattle.bson_laws.specs.Trees.{as_tree, read_tree}
use Rattle.bson_laws.proofs.ChangedNodes.{bare_sight, tree_bare}
use Rattle.bson_laws.proofs.ChangedTrees.{as_tree_bare}
use Rattle.bson_laws.proofs.RawFree.{pairs_raw_free}
use Rattle.bson_laws.proofs.Represented.{clean_represented}

-- A reader that meets the pairs as a document, where nothing is in the input, reads the document that a value is opened to; and that value is what it meets of the tree, with
-- the levels that are left.
record IsOpened (at : Sight) (t : Tree) (ps : Pairs) (levels : ℕ) : Type 0 where
  pub value : Extended
  pub left : ℕ
  pub met : tree_node (bare_sight at) t left ≡ opens value
  pub deep : depth t ≤ left
  pub document : read_tree (tree_node (bare_sight at) (tree.document ps) levels) ≡ read_tree (node.made_document (node.opened value))

-- the pairs of a binary of another subtype than 0
abbrev binary_pairs : ℕ → Bytes → Pairs
binary_pairs subtype b = one (codes "$binary") (tree.document (two (codes "subType") (tree.string (digits (subtype ∷ []))) (codes "base64") (tree.string (base64_text b))))

binary_opened : (at : Sight) (subtype : ℕ) (b : Bytes) (levels : ℕ) → depth (tree.document (binary_pairs (suc subtype) b)) ≤ levels → IsOpened at (tree.binary (suc subtype) b) (binary_pairs (suc subtype) b) levels
binary_opened at subtype b zero d = absurd (omega arith)
binary_opened at subtype b (suc zero) d = absurd (omega arith)
binary_opened at subtype b (suc (suc m)) d = record { value = node.binary (suc subtype) (made b); left = 0; met = refl; deep = omega arith; document = refl }

-- under a mark too, since a decimal's bytes are taken as bytes
decimal_opened : (at : Sight) (b : Bytes) (m : ℕ) → read_tree (tree_node (bare_sight at) (tree.document (opened (tree.decimal128 b))) (suc m)) ≡ read_tree (node.made_document (node.opened (decimal128 (made b))))
unfolding of_key
decimal_opened at b m = refl

is_opened : (at : Sight) (t : Tree) (levels : ℕ) → IsExtended t → depth (tree.document (opened t)) ≤ levels → IsOpened at t (opened t) levels
is_opened at t zero e d = absurd (omega arith)
is_opened at (tree.binary zero b) levels e d = absurd (e refl)
is_opened at (tree.binary (suc k) b) levels e d =
    let same : opened (tree.binary (suc k) b) ≡ binary_pairs (suc k) b = ap (λ z. cond z no_pairs (binary_pairs (suc k) b)) (eqb-suc-zero k) in
    subst (λ ps. IsOpened at (tree.binary (suc k) b) ps levels) (sym same) (binary_opened at k b levels (subst (λ ps. depth (tree.document ps) ≤ levels) same d))
is_opened at (tree.object_id id) (suc m) e d = record { value = object_id (made id); left = 0; met = refl; deep = omega arith; document = refl }
is_opened at (tree.javascript_code c) (suc m) e d = record { value = javascript_code (made c); left = 0; met = refl; deep = omega arith; document = refl }
is_opened at (tree.symbol s) (suc m) e d = record { value = symbol (made s); left = 0; met = refl; deep = omega arith; document = refl }
is_opened at (tree.decimal128 b) (suc m) e d = record { value = decimal128 (made b); left = 0; met = refl; deep = omega arith; document = decimal_opened at b m }
is_opened at tree.undefined (suc m) e d = record { value = node.undefined; left = 0; met = refl; deep = omega arith; document = refl }
is_opened at tree.max_key (suc m) e d = record { value = node.max_key; left = 0; met = refl; deep = omega arith; document = refl }
is_opened at tree.min_key (suc m) e d = record { value = node.min_key; left = 0; met = refl; deep = omega arith; document = refl }
is_opened at (tree.date_time n) (suc zero) e d = absurd (omega arith)
is_opened at (tree.date_time n) (suc (suc m)) e d = record { value = date_time n; left = 0; met = refl; deep = omega arith; document = refl }
is_opened at (tree.regular_expression p q) (suc zero) e d = absurd (omega arith)
is_opened at (tree.regular_expression p q) (suc (suc m)) e d = record { value = regular_expression (made p) (made q); left = 0; met = refl; deep = omega arith; document = refl }
is_opened at (tree.timestamp time increment) (suc zero) e d = absurd (omega arith)
is_opened at (tree.timestamp time increment) (suc (suc m)) e d = record { value = timestamp time increment; left = 0; met = refl; deep = omega arith; document = refl }
is_opened at (tree.db_pointer namespace id) (suc zero) e d = absurd (omega arith)
is_opened at (tree.db_pointer namespace id) (suc (suc zero)) e d = absurd (omega arith)
is_opened at (tree.db_pointer namespace id) (suc (suc (suc m))) e d = record { value = db_pointer (made namespace) id; left = 0; met = refl; deep = omega arith; document = refl }
is_opened at (tree.javascript_code_with_scope code scope) (suc m) e d =
    record { value = javascript_code_with_scope (made code) (one_level EmbeddedDocument of_opening (pair_nodes (bare_sight at) scope) m); left = m; met = refl; deep = omega arith; document = refl }
is_opened at t levels e d = absurd e

-- where nothing is in the input
made_represented : (at : Sight) (t : Tree) (levels : ℕ) → IsClean t → IsExtended t → depth (tree.document (opened t)) ≤ levels
    → read_tree (tree_node (bare_sight at) (tree.document (opened t)) levels) ≡ Ok (sorted_tree t)
made_represented at t levels c e d = let h = is_opened at t levels e d in h.document ∙ clean_represented (bare_sight at) t h.left h.value c h.deep h.met

opened_raw_free : (t : Tree) → IsClean t → IsExtended t → ArePairsRawFree (opened t)
opened_raw_free (tree.binary subtype b) c e = by_case (nat_eq subtype 0) where
  by_case : (z : Bool) → ArePairsRawFree (cond z no_pairs (binary_pairs subtype b))
  by_case true = tt
  by_case false = ((tt, (tt, tt)), tt)
opened_raw_free tree.undefined c e = (tt, tt)
opened_raw_free (tree.object_id id) c e = (tt, tt)
opened_raw_free (tree.date_time n) c e = ((tt, tt), tt)
opened_raw_free (tree.regular_expression p q) c e = ((tt, (tt, tt)), tt)
opened_raw_free (tree.db_pointer namespace id) c e = ((tt, ((tt, tt), tt)), tt)
opened_raw_free (tree.javascript_code t) c e = (tt, tt)
opened_raw_free (tree.symbol t) c e = (tt, tt)
opened_raw_free (tree.javascript_code_with_scope code scope) c e = (tt, (pairs_raw_free scope c.1, tt))
opened_raw_free (tree.timestamp time increment) c e = ((tt, (tt, tt)), tt)
opened_raw_free (tree.decimal128 b) c e = (tt, tt)
opened_raw_free tree.max_key c e = (tt, tt)
opened_raw_free tree.min_key c e = (tt, tt)
opened_raw_free t c e = absurd e

pub document_represented : (at : Sight) (t : Tree) (levels : ℕ) → IsClean t → IsExtended t → depth (tree.document (opened t)) ≤ levels
    → read_tree (tree_node at (tree.document (opened t)) levels) ≡ Ok (sorted_tree t)
document_represented at t zero c e d = absurd (omega arith)
document_represented at t (suc n) c e d =
    let ps = opened t in
    as_tree_bare (tree_node at (tree.document ps) (suc n)) (sorted_tree t) refl (ap as_tree (tree_bare at (tree.document ps) (suc n) (opened_raw_free t c e)) ∙ made_represented at t (suc n) c e d)
