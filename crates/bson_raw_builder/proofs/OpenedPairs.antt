-- A document that opening makes, as it is built up pair by pair.
use Rattle.std.proofs.Common.{◌≡◌, Bool, true, false, Ok, Err, refl, ap, sym, subst, ◌∙◌}
use Rattle.bson_kinds.specs.Outcome.{◌>>=◌}
use Rattle.bson_base.specs.Pairs.{put}
use Rattle.bson_base.specs.Tree.{Tree, Pairs}
use Rattle.bson_rawdoc.specs.Node.{Node, Nodes, ended, then_node}
use Rattle.bson_kinds.specs.Piece.{Piece}
use Rattle.bson_values.specs.declared.de.Fault.{Fault}
use Rattle.bson_values.specs.declared.stop.Stop.{Stop}
use Rattle.bson_laws.specs.Judged.{Reading, judged}
use Rattle.bson_laws.specs.TreeRaw.{opened_pairs, opened_tree}
use Rattle.bson_laws.proofs.Tame.{judged_is}
use Rattle.bson_met.specs.Next.{IsAdvanced}
use Rattle.bson_met.specs.PieceView.{str_piece}
use Rattle.bson_met.specs.declared.elements.Step.{Step}
use Rattle.bson_met.proofs.Refusals.{StopsAs, stops_bind}

-- a judged value is the value
judged_alike : {A : Type 0} (n : Node) (f : Node → Reading A) → (judged n >>= f) ≡ (judged n >>= λ _. f n)
judged_alike n f = by_case (judged n) refl where
  by_case : (r : Reading Node) → judged n ≡ r → (r >>= f) ≡ (r >>= λ _. f n)
  by_case (Ok m) e = ap f (sym (judged_is n m e))
  by_case (Err x) e = refl

module _ (key : Piece) (n : Node) (ns : Nodes) (ps : Pairs) where
  -- one pair more
  pub pair_opened : (t : Tree) → (judged n >>= opened_tree) ≡ Ok t → opened_pairs ns (put key.bytes t ps) ≡ opened_pairs (then_node key n ns) ps
  pair_opened t e = sym (ap (λ r. r >>= λ u. opened_pairs ns (put key.bytes u ps)) (sym (judged_alike n opened_tree) ∙ e))

  pub pair_stops : (s : Stop Fault) → StopsAs s (judged n >>= opened_tree) → StopsAs s (opened_pairs (then_node key n ns) ps)
  pair_stops s h =
      stops_bind s (judged n >>= λ _. opened_tree n) (λ u. opened_pairs ns (put key.bytes u ps)) (subst (λ (r : Reading Tree). StopsAs s r) (judged_alike n opened_tree) h)

-- the element that a step gives is the first of what was left
pub step_is : (old new : Nodes) (b : Bool) (s : Step) → IsAdvanced old (Ok b) s new → b ≡ true → old ≡ then_node (str_piece s.key) s.value new
step_is old new true s h e = h
step_is old new false s h e = absurd cc

-- where no element is left
pub list_ends : (old new : Nodes) (b : Bool) (s : Step) → IsAdvanced old (Ok b) s new → b ≡ false → old ≡ ended
list_ends old new false s h e = h.0
list_ends old new true s h e = absurd cc
