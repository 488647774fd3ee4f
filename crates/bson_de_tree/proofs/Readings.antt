-- What is read of a value in memory, and its refusals.
use Rattle.std.proofs.Common.{◌≡◌, suc, Bool, true, Option, Some, None, Result, Ok, ap, sym, subst, ◌∙◌, ◌≤◌}
use Rattle.bson_kinds.specs.Outcome.{result_map}
use Rattle.bson_base.specs.Sound.{IsClean, max_levels}
use Rattle.bson_base.specs.Tree.{Tree, depth}
use Rattle.bson_rawdoc.specs.Node.{Node, from_memory, tree_node}
use Rattle.bson_shape.specs.Form.{Form, no_fields}
use Rattle.bson_shape.specs.Makers.{IsShape}
use Rattle.bson_values.specs.Marked.{Marked, contents}
use Rattle.bson_datum.specs.MarkedView.{marked}
use Rattle.bson_values.specs.Refusal.{ReadFault, Refusal, Failure, FailsAs}
use Rattle.bson_values.specs.Value.{Value}
use Rattle.bson_datum.specs.View.{view}
use Rattle.bson_datum.specs.declared.datum.Datum.{Datum}
use Rattle.bson_values.specs.declared.de.Error.{Error}
use Rattle.bson_values.specs.declared.de.Fault.{Fault}
use Rattle.bson_values.specs.declared.stop.Stop.{Stop}
use Rattle.bson_values.specs.Returned.{Reads}
use Rattle.bson_datum.proofs.Marks.{marked-contents}
use Rattle.bson_laws.specs.Judged.{Reading}
use Rattle.bson_laws.specs.Means.{means, norm}
use Rattle.bson_laws.specs.Plain.{IsPlain}
use Rattle.bson_laws.specs.Reads.{answered}
use Rattle.bson_laws.specs.ReadsFrom.{reads_from, reads_tree, reads_tree_value, answered_bare}
use Rattle.bson_laws.specs.Recursive.{FitsIn}
use Rattle.bson_laws.specs.Settled.{settled}
use Rattle.bson_laws.specs.SuitsTrees.{SuitsTrees}
use Rattle.bson_laws.specs.declared.origin.Origin.TheVariants as origins
use Rattle.bson_laws.specs.Unrolled as unrolled
use Rattle.bson_laws.specs.Views.{views}
use Rattle.bson_laws.proofs.AtShapes.{views_means, views_reads_tree}
use Rattle.bson_moved.specs.Simple.{is_simple}
use Rattle.bson_moved.proofs.Plain.{plain, suits, alone}
use Rattle.bson_met.specs.Gives.{RefusesAs}
use Rattle.bson_met.proofs.Refusals.{StopsAs, stops_map}
use Rattle.bson_de_raw.specs.Gives.{GivesValue}
use Rattle.bson_de_raw.proofs.ReadBack.{gives_value}
use Rattle.bson_de_tree.specs.Bare.{IsBare}

-- a tree that has a view at a simple shape is read as that
pub simple_read : (readable : Bool) (s : Form) (t : Tree) (v : Value) → IsShape s → is_simple s ≡ true → IsClean t → depth t ≤ max_levels → views s t ≡ Some v → reads_tree_value readable s t ≡ Ok v
simple_read readable s t v shape simple clean deep e =
    views_reads_tree readable s t v shape (plain no_fields s simple) (suits s simple) clean deep (ap (λ (f : Form). views f t) (alone (suc (depth t)) (unrolled.names_in (suc (depth t)) no_fields) s simple) ∙ e)

module _ (readable : Bool) (s : Form) (t : Tree) (n : Node) (is : n ≡ tree_node from_memory t max_levels) where
  whole : reads_from origins.Tree (settled readable (unrolled.whole s)) n ≡ reads_tree readable s t
  whole = ap (reads_from origins.Tree (settled readable (unrolled.whole s))) is

  -- what was read, and then owned
  pub value_read : (d owned : Datum) → reads_from origins.Tree (settled readable (unrolled.whole s)) n ≡ Ok (marked d) → view owned ≡ view d → reads_tree_value readable s t ≡ Ok (view owned)
  value_read d owned e same = ap (result_map contents) (sym whole ∙ e) ∙ ap Ok (marked-contents d ∙ sym same)

  pub value_stops : (stop : Stop Fault) → StopsAs stop (reads_from origins.Tree (settled readable (unrolled.whole s)) n) → StopsAs stop (reads_tree_value readable s t)
  value_stops stop h = stops_map stop contents (reads_tree readable s t) (subst (λ (r : Reading Marked). StopsAs stop r) whole h)

-- a refusal without its path
pub bare_as : {A : Type 0} (o : Option (Refusal ReadFault)) (f : Failure ReadFault) (r : Reading A) → IsBare o f → RefusesAs o r → FailsAs f (answered_bare r)
bare_as None f r p h = subst (λ g. FailsAs g (answered_bare r)) (sym p) tt
bare_as (Some x) f r p h = subst (λ g. FailsAs g (answered_bare r)) (sym p) (ap answered_bare h)

-- what a value of a plain shape means is read back
pub read_back : (s : Form) (v : Value) (t : Tree) (r : Result Datum Error) → IsShape s → IsPlain s → SuitsTrees s → FitsIn no_fields v s → means v ≡ Some t → IsClean t → depth t ≤ max_levels
    → (readable : Bool) → Reads view r (answered (reads_tree_value readable s t)) → GivesValue (norm v) r
read_back s v t r shape plain suits fits mean clean deep readable exact =
    gives_value (norm v) r (answered (reads_tree_value readable s t)) (ap answered (views_reads_tree readable s t (norm v) shape plain suits clean deep (views_means s v t shape plain fits mean clean))) exact
