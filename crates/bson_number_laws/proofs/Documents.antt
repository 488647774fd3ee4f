-- What is read from the document of some bytes.
use Rattle.std.proofs.Common.{◌≡◌, Bool, false, Ok, subst}
use Rattle.bson_kinds.specs.Text.{Bytes, AreBytes}
use Rattle.bson_kinds.specs.declared.element_type.ElementType.TheVariants.{EmbeddedDocument}
use Rattle.bson_kinds.proofs.Outcomes.{map_ok}
use Rattle.bson_base.specs.Sound.{max_levels}
use Rattle.bson_base.specs.Tree.{document, Pairs}
use Rattle.bson_rawdoc.specs.DocumentTree.{document_pairs}
use Rattle.bson_rawdoc.specs.Envelope.{envelope}
use Rattle.bson_rawdoc.specs.Node.{from_memory, tree_node}
use Rattle.bson_shape.specs.Form.{Form}
use Rattle.bson_values.specs.Marked.{contents}
use Rattle.bson_values.specs.Value.{Value}
use Rattle.bson_laws.specs.ReadsFrom.{tree_at, reads_tree_value}
use Rattle.bson_laws.specs.Settled.{settled}
use Rattle.bson_laws.specs.Spell.{HoldsNumbers}
use Rattle.bson_laws.specs.Unrolled.{whole}
use Rattle.bson_laws.proofs.Framed.{frame}
use Rattle.bson_laws.proofs.TameBytes.{seen_tame}
use Rattle.bson_tree_laws.specs.TreeSpell.{tree_whole}
use Rattle.bson_number_laws.proofs.ReadNumbers.{reads_hold}
use Rattle.bson_number_laws.proofs.TameTrees.{bytes_seen}

pub document_numbers : (reader writer : Bool) (s : Form) (bytes : Bytes) (ps : Pairs) (v : Value) → AreBytes bytes → envelope bytes ≡ Ok bytes → document_pairs bytes ≡ Ok ps
    → reads_tree_value reader s (document ps) ≡ Ok v → HoldsNumbers (tree_whole writer v)
document_numbers reader writer s bytes ps v are framed held read =
    let f = frame bytes bytes framed in
    let seen = bytes_seen max_levels bytes ps held f.2 (seen_tame max_levels EmbeddedDocument bytes are f.1) in
    let m = map_ok contents (tree_at reader (whole s) (document ps)) v read in
    subst (λ x. HoldsNumbers (tree_whole writer x)) m.2 ((reads_hold (settled reader (whole s)) (tree_node from_memory (document ps) max_levels) m.0 seen m.1).made writer false max_levels)
