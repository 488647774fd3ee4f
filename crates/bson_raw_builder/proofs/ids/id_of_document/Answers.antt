use Rattle.std.proofs.Common.{◌≡◌, ap, sym, subst, ◌∙◌}
use Rattle.bson_base.specs.BsonView.{pairs_of}
use Rattle.bson_base.specs.Sound.{max_levels}
use Rattle.bson_base.specs.Tree.{document, no_pairs}
use Rattle.bson_rawdoc.specs.Node.{from_memory, tree_node, pair_nodes}
use Rattle.bson_shape.specs.Form.{leaf}
use Rattle.bson_shape.specs.declared.leaf.Leaf.TheVariants.{ObjectId}
use Rattle.bson_values.specs.ErrorView.{read_fault}
use Rattle.bson_datum.specs.MarkedView.{marked}
use Rattle.bson_values.specs.Stop.{stop_view}
use Rattle.bson_laws.specs.Reads.{reads}
use Rattle.bson_laws.specs.Trees.{document_tree}
use Rattle.bson_met.specs.Gives.{RefusesAs}
use Rattle.bson_laws.specs.FirstKeys.{id_in}
use Rattle.bson_raw_builder.proofs.ReadIds.{document_free, read_given, refused_id}
use Rattle.bson_raw_builder.proofs.ids.id_of_document.Goals as goal

pub returns-in-Ok : goal.returns-in-Ok
returns-in-Ok c =
    let ps = pairs_of c.args.document.now in
    let met : c.of_tree.result ≡ tree_node from_memory (document ps) max_levels = c.of_tree.ensures.node ∙ ap (λ t. tree_node from_memory t max_levels) c.requires in
    let read = ap (λ n. reads (leaf ObjectId) n) (sym met) ∙ c.in-Ok.ensures.exact in
    c.id_at_oid.ensures ∙ sym (read_given ps 199 (marked c.in-Ok.field-0) (document_free c.args.document.now) read) ∙ ap id_in (sym c.requires)

pub returns-in-Err-Refused : goal.returns-in-Err-Refused
returns-in-Err-Refused c =
    let ps = pairs_of c.args.document.now in
    let met : c.of_tree.result ≡ tree_node from_memory (document ps) max_levels = c.of_tree.ensures.node ∙ ap (λ t. tree_node from_memory t max_levels) c.requires in
    let refused = subst (λ s. RefusesAs (stop_view read_fault s) (reads (leaf ObjectId) c.of_tree.result)) c.in-Err-Refused.field-0-is c.in-Err-Refused.ensures.exact in
    let read = ap (λ n. reads (leaf ObjectId) n) (sym met) ∙ refused in
    sym (refused_id (document_tree (pair_nodes from_memory ps 199) no_pairs) _ read) ∙ ap id_in (sym c.requires)
