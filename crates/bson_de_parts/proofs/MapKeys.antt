-- A value at a map, whose keys are read as in no definitions.
use Rattle.std.proofs.Common.{◌≡◌, Ok, ap, sym, subst, ◌∙◌}
use Rattle.bson_kinds.specs.Outcome.{◌>>=◌, result_map}
use Rattle.bson_rawdoc.specs.Node.{Node, Nodes}
use Rattle.bson_kinds.specs.Piece.{Piece}
use Rattle.bson_shape.specs.Form.{Form, map}
use Rattle.bson_values.specs.Marked.{Marked}
use Rattle.bson_values.specs.Value as value
use Rattle.bson_values.specs.Value.{no_entries}
use Rattle.bson_values.specs.declared.de.Fault.{Fault}
use Rattle.bson_values.specs.declared.stop.Stop.{Stop}
use Rattle.bson_laws.specs.Containers.{reads_entries, reads_key}
use Rattle.bson_laws.specs.Judged.{Reading}
use Rattle.bson_laws.specs.ReadsFrom.{reads_for}
use Rattle.bson_laws.specs.declared.origin.Reader.{Reader}
use Rattle.bson_laws.proofs.Scoped.{key_laid}
use Rattle.bson_met.specs.MetView.{document_at}
use Rattle.bson_met.proofs.Refusals.{StopsAs, stops_map}

module _ (r : Reader) (key s : Form) (n : Node) where
  pub map_read : reads_for r (map key s) n ≡ (document_at n >>= λ ns. result_map value.map (reads_entries (reads_key key) (reads_for r s) ns no_entries))
  map_read = ap (λ (k : Piece → Reading Marked). document_at n >>= λ ns. result_map value.map (reads_entries k (reads_for r s) ns no_entries)) (key_laid r key)

  -- its entries are refused
  pub map_stops : (ns : Nodes) (t : Stop Fault) → document_at n ≡ Ok ns → StopsAs t (reads_entries (reads_key key) (reads_for r s) ns no_entries) → StopsAs t (reads_for r (map key s) n)
  map_stops ns t is h =
      subst (λ (q : Reading Marked). StopsAs t q) (sym (map_read ∙ ap (λ q. q >>= λ es. result_map value.map (reads_entries (reads_key key) (reads_for r s) es no_entries)) is))
      (stops_map t value.map (reads_entries (reads_key key) (reads_for r s) ns no_entries) h)
