-- Values at the leaves of extended kinds, by the trees that are read.
use Rattle.std.proofs.Common.{◌≡◌, Bool, true, false, cond, Ok, Err, refl, ap, sym, subst, ◌∙◌}
use Rattle.std.specs.Prelude.{nat_eq}
use Rattle.bson_kinds.specs.Kind.{byte}
use Rattle.bson_kinds.specs.Outcome.{◌>>=◌, result_map}
use Rattle.bson_base.specs.Tree as tree
use Rattle.bson_base.specs.Tree.{Tree, Pairs, kind}
use Rattle.bson_kinds.specs.declared.element_type.ElementType.{ElementType}
use Rattle.bson_kinds.proofs.Outcomes.{map_ok}
use Rattle.bson_rawdoc.specs.Node.{Node}
use Rattle.bson_kinds.specs.Piece.{made}
use Rattle.bson_values.specs.Cause.{wrong_kind}
use Rattle.bson_values.specs.Marked.{Marked, MarkedEntries}
use Rattle.bson_values.specs.Value as value
use Rattle.bson_values.specs.declared.de.Fault.{Fault}
use Rattle.bson_values.specs.declared.stop.Stop.{Stop}
use Rattle.bson_laws.specs.Datum.{datum, pair_data}
use Rattle.bson_laws.specs.Judged.{Reading, refused, judged}
use Rattle.bson_laws.specs.ReadsExtended.{tree_of_kind}
use Rattle.bson_laws.specs.Trees.{as_tree, read_tree, pairs_in}
use Rattle.bson_laws.proofs.DatumNormal.{same_kind, own_kind}
use Rattle.bson_met.proofs.Refusals.{StopsAs}
use Rattle.bson_wrapped.proofs.Made.{stops_through}
use Rattle.bson_trees.proofs.TreeData.{map_stops}
use Rattle.bson_trees.specs.Trees.{tree_at, entries_at}
use Rattle.bson_trees.specs.Leaves.{kind_from, kind_of_tree, documents_from}

then_made : {A B C D : Type 0} (r : Reading A) (f : A → Reading B) (g : B → Reading C) (h : C → D) → (r >>= λ m. result_map h (f m >>= g)) ≡ result_map h ((r >>= f) >>= g)
then_made (Ok x) f g h = refl
then_made (Err e) f g h = refl

-- ---- kinds

pub kind_read : (k : ElementType) (n : Node) (t : Tree) → read_tree n ≡ Ok t → kind_from k n ≡ kind_of_tree k t
kind_read k n t e = then_made (judged n) (as_tree) (tree_of_kind k) (datum made) ∙ ap (λ r. result_map (datum made) (r >>= tree_of_kind k)) e

pub kind_stops : (k : ElementType) (n : Node) (s : Stop Fault) → StopsAs s (tree_at n) → StopsAs s (kind_from k n)
kind_stops k n s h =
    subst (λ (r : Reading Marked). StopsAs s r) (sym (then_made (judged n) (as_tree) (tree_of_kind k) (datum made))) (stops_through s (datum made) (read_tree n) (tree_of_kind k) (datum made) h)

abbrev choice : Tree → Bool → Reading Marked
choice t b = result_map (datum made) (cond b (Ok t) (refused (wrong_kind (kind t))))

pub same_tree : (k : ElementType) (t : Tree) (v : Marked) → kind t ≡ k → datum made t ≡ v → kind_of_tree k t ≡ Ok v
same_tree k t v e is = ap (choice t) (ap (λ j. nat_eq (byte j) (byte k)) e ∙ own_kind k) ∙ ap Ok is

unlike_test : (j k : ElementType) (b : Bool) → nat_eq (byte j) (byte k) ≡ b → (j ≡ k → ⊥) → b ≡ false
unlike_test j k true e h = absurd (h (same_kind j k e))
unlike_test j k false e h = refl

pub unlike_tree : (k : ElementType) (t : Tree) → (kind t ≡ k → ⊥) → kind_of_tree k t ≡ refused (wrong_kind (kind t))
unlike_tree k t h = ap (choice t) (unlike_test (kind t) k (nat_eq (byte (kind t)) (byte k)) refl h)

-- ---- documents

abbrev as_map : Pairs → Marked
as_map ps = datum made (tree.document ps)

pub document_read : (n : Node) (es : MarkedEntries) → entries_at n ≡ Ok es → documents_from n ≡ Ok (value.map es)
document_read n es e =
    let m = map_ok (pair_data made) (read_tree n >>= pairs_in) es e in then_made (judged n) (as_tree) pairs_in as_map ∙ ap (result_map as_map) m.1 ∙ ap (λ x. Ok (value.map x)) m.2

pub document_stops : (n : Node) (s : Stop Fault) → StopsAs s (entries_at n) → StopsAs s (documents_from n)
document_stops n s h =
    subst (λ (r : Reading Marked). StopsAs s r) (sym (then_made (judged n) (as_tree) pairs_in as_map)) (map_stops s (pair_data made) (read_tree n >>= pairs_in) as_map h)
