-- At shapes of structs, sequences, integers, booleans and strings one way takes a document exactly where the other does.
use Rattle.std.proofs.Common.{◌≡◌, false, None, Result, Ok, Err, refl, ap, sym, ◌∙◌}
use Rattle.bson_base.specs.Encoded.{encode_fault}
use Rattle.bson_kinds.specs.Outcome.{result_map}
use Rattle.bson_base.specs.Sound.{IsDocument, max_levels}
use Rattle.bson_kinds.specs.Text.{Bytes, AreBytes}
use Rattle.bson_base.specs.Tree as tree
use Rattle.bson_base.specs.Tree.{Tree, document, Pairs, kind}
use Rattle.bson_kinds.specs.declared.element_type.ElementType.TheVariants.{EmbeddedDocument}
use Rattle.bson_rawdoc.specs.DocumentTree.{document_pairs}
use Rattle.bson_rawdoc.specs.Envelope.{envelope}
use Rattle.bson_rawdoc.specs.Node.{from_input}
use Rattle.bson_shape.specs.Form.{Form, leaf, sequence, structure, reference, definitions, Fields, no_fields, field}
use Rattle.bson_shape.specs.Makers.{IsShape}
use Rattle.bson_faults.specs.declared.raw.Error.{Error}
use Rattle.bson_values.specs.Marked.{Marked, contents}
use Rattle.bson_values.specs.Value.{Value, kind_of}
use Rattle.bson_laws.specs.declared.origin.Origin.TheVariants as origins
use Rattle.bson_laws.specs.Judged.{Reading}
use Rattle.bson_laws.specs.Leaves.{LeafKind, booleans, numbers, texts, leaf_kind}
use Rattle.bson_laws.specs.Reads.{answered, document_at, reads_document}
use Rattle.bson_laws.specs.ReadsFrom.{reads_from, tree_at, reads_tree_value}
use Rattle.bson_laws.specs.Spell.{at_top, spell, spell_document}
use Rattle.bson_laws.specs.Unrolled.{whole}
use Rattle.bson_laws.proofs.Documents.{read_in}
use Rattle.bson_laws.proofs.Framed.{frame}
use Rattle.bson_laws.proofs.Judged.{IsNotRaw}
use Rattle.bson_laws.proofs.GivenAt.{reads_given}
use Rattle.bson_laws.proofs.ShapeForms as forms
use Rattle.bson_laws.proofs.ShapeUnrolled.{shape_whole}
use Rattle.bson_laws.proofs.Sizes.{spell_kind}
use Rattle.bson_laws.proofs.Tame.{IsTame}
use Rattle.bson_laws.proofs.TameBytes.{seen_tame}
use Rattle.bson_tree_laws.specs.TreeSpell.{tree_spell, tree_whole}
use Rattle.bson_kinds.proofs.Outcomes.{ok_is}
use Rattle.bson_ways_laws.specs.Simple.{IsSimpleLeaf, IsSimple, AreSimple, AreDefinitionsSimple}
use Rattle.bson_laws.specs.Every.{EveryDefinition, EveryField}
use Rattle.bson_ways_laws.specs.Ways.{IsBuilt, SuitsBothWays, HasFreeInput, ways_rows}
use Rattle.bson_ways_laws.proofs.QuietBytes.{bytes_quiet}
use Rattle.bson_ways_laws.proofs.SimpleWrites.{back, forth}
use Rattle.bson_ways_laws.proofs.Twins.{Twin, SameContents, IsQuiet, reads_twin}
use Rattle.bson_ways_laws.proofs.TwoWays.{same_form, bytes_node, pairs_node, bytes_read, pairs_read, top_is, top_kind, input_like, form_makes}
use Rattle.bson_ways_laws.proofs.WaysUnrolled.{simple_whole}
use Rattle.bson_kinds.proofs.Apart.{no_ok}

-- ---- such a shape suits both ways

leaf_built : (k : LeafKind) → IsSimpleLeaf k → IsBuilt k
leaf_built booleans c = tt
leaf_built (numbers type) c = tt
leaf_built texts c = tt
leaf_built k c = absurd c

mutual
  pub simple_suits : (s : Form) → IsSimple s → SuitsBothWays s
  simple_suits (leaf l) c = leaf_built (leaf_kind l) c.0
  simple_suits (sequence s) c = simple_suits s c
  simple_suits (structure u name fs) c = (c.0, fields_suit fs c.1)
  simple_suits (reference name) c = tt
  simple_suits (definitions h s) c = (definitions_suit h c.0, simple_suits s c.1)
  simple_suits s c = absurd c

  fields_suit : (fs : Fields) → AreSimple fs → EveryField ways_rows fs
  fields_suit no_fields c = tt
  fields_suit (field name s fs) c = (c.0, simple_suits s c.1, fields_suit fs c.2)

  definitions_suit : (h : Fields) → AreDefinitionsSimple h → EveryDefinition ways_rows h
  definitions_suit no_fields c = tt
  definitions_suit (field name s h) c = (simple_suits s c.0, definitions_suit h c.1)

-- ---- both ways

twin_left : (q r : Reading Marked) (v : Marked) → Twin SameContents q r → q ≡ Ok v → (w : Marked) × (r ≡ Ok w) × (contents v ≡ contents w)
twin_left (Ok a) (Ok b) v h e = (b, refl, ap contents (sym (ok_is a v e)) ∙ h)
twin_left (Err f) (Err g) v h e = absurd (no_ok e)
twin_left (Err f) (Ok b) v h e = absurd h
twin_left (Ok a) (Err g) v h e = absurd h

twin_right : (q r : Reading Marked) (w : Marked) → Twin SameContents q r → r ≡ Ok w → (v : Marked) × (q ≡ Ok v) × (contents v ≡ contents w)
twin_right (Ok a) (Ok b) w h e = (a, refl, h ∙ ap contents (ok_is b w e))
twin_right (Err f) (Err g) w h e = absurd (no_ok e)
twin_right (Err f) (Ok b) w h e = absurd h
twin_right (Ok a) (Err g) w h e = absurd h

-- bytes that are framed as a document, and their document
record IsFramed (bytes : Bytes) (ps : Pairs) : Type 0 where
  pub tame : IsTame from_input (bytes_node bytes)
  pub quiet : IsQuiet (bytes_node bytes)
  pub held_quiet : IsQuiet (pairs_node ps)

framed : (bytes b : Bytes) (ps : Pairs) → AreBytes bytes → envelope bytes ≡ Ok b → document_pairs bytes ≡ Ok ps → IsFramed bytes ps
framed bytes b ps are e is =
    let f = frame bytes b e in
    let tame = seen_tame max_levels EmbeddedDocument bytes are f.1 in
    let quiet = bytes_quiet max_levels bytes ps is f.2 tame in
    record { tame = tame; quiet = quiet.0; held_quiet = quiet.1 }

-- what is read is framed as a document
form_enveloped : (s : Form) (bytes : Bytes) (d : Value) → document_at s bytes ≡ Ok d → (b : Bytes) × (envelope bytes ≡ Ok b)
form_enveloped s bytes d e = by_case (envelope bytes) refl e where
  by_case : (r : Result Bytes Error) → envelope bytes ≡ r → result_map contents (read_in s r) ≡ Ok d → (b : Bytes) × (envelope bytes ≡ Ok b)
  by_case (Ok b) is q = (b, is)
  by_case (Err f) is q = absurd (no_ok q)

-- a tree that is of the kind of a document, and is not given by its bytes, is one
document_of_kind : (u : Tree) → IsNotRaw u → kind u ≡ EmbeddedDocument → IsDocument u
document_of_kind (tree.document ps) n e = tt
document_of_kind (tree.raw k b) n e = absurd n
document_of_kind u n e = absurd cc

document_kind : (u : Tree) → IsDocument u → kind u ≡ EmbeddedDocument
document_kind (tree.document ps) d = refl
document_kind u d = absurd d

form_forth : (s : Form) (bytes : Bytes) (ps : Pairs) (d : Value) (u : Tree) → forms.IsShape s → IsSimple s → AreBytes bytes → HasFreeInput bytes → document_pairs bytes ≡ Ok ps → document_at s bytes ≡ Ok d → spell_document d ≡ Ok u
    → (w : Value) × (result_map contents (tree_at false s (document ps)) ≡ Ok w) × (tree_whole false w ≡ Ok u) × IsDocument u × (encode_fault u ≡ None)
form_forth s bytes ps d u shape simple are free is e q =
    let suits = simple_suits s simple in
    let same = same_form s suits in
    let m = bytes_read s bytes d same e in
    let b = form_enveloped s bytes d e in
    let f = framed bytes b.0 ps are b.1 is in
    let w = twin_left (reads_from origins.Bytes s (bytes_node bytes)) (reads_from origins.Tree s (pairs_node ps)) m.0 (reads_twin s simple (bytes_node bytes) (pairs_node ps) (input_like bytes ps free is) f.quiet f.held_quiet) m.1 in
    let spelled : spell (contents m.0) max_levels ≡ Ok u = ap (λ v. spell v max_levels) m.2 ∙ top_is (kind_of d) (spell d max_levels) u q in
    let k = forth from_input (contents m.0) s shape simple (reads_given from_input s (bytes_node bytes) m.0 f.tame m.1) max_levels u spelled in (
      contents w.0,
      ap (λ x. result_map contents (reads_from origins.Tree x (pairs_node ps))) same ∙ ap (result_map contents) w.1,
      ap (λ v. tree_whole false v) (sym w.2 ∙ m.2) ∙ form_makes s bytes d u shape suits are e q k.0,
      document_of_kind u k.2 (spell_kind false (contents m.0) max_levels u spelled ∙ ap kind_of m.2 ∙ top_kind (kind_of d) (spell d max_levels) u q),
      k.1,
    )

form_back : (s : Form) (bytes : Bytes) (ps : Pairs) (w : Value) (u : Tree) → forms.IsShape s → IsSimple s → AreBytes bytes → envelope bytes ≡ Ok bytes → HasFreeInput bytes → document_pairs bytes ≡ Ok ps
    → result_map contents (tree_at false s (document ps)) ≡ Ok w → tree_whole false w ≡ Ok u → IsDocument u → encode_fault u ≡ None → (d : Value) × (document_at s bytes ≡ Ok d) × (spell_document d ≡ Ok u)
form_back s bytes ps w u shape simple are v free is e q whole_document no_fault =
    let same = same_form s (simple_suits s simple) in
    let n = pairs_read s ps w same e in
    let f = framed bytes bytes ps are v is in
    let m = twin_right (reads_from origins.Bytes s (bytes_node bytes)) (reads_from origins.Tree s (pairs_node ps)) n.0 (reads_twin s simple (bytes_node bytes) (pairs_node ps) (input_like bytes ps free is) f.quiet f.held_quiet) n.1 in
    let made : tree_spell false false (contents m.0) max_levels ≡ Ok u = ap (λ x. tree_spell false false x max_levels) (m.2 ∙ n.2) ∙ q in
    let spelled = (back from_input (contents m.0) s shape simple (reads_given from_input s (bytes_node bytes) m.0 f.tame m.1) max_levels u made).1 no_fault in (
      contents m.0,
      ap (λ r. result_map contents (read_in s r)) v ∙ ap (λ x. result_map contents (answered (reads_from origins.Bytes x (bytes_node bytes)))) same ∙ ap (λ r. result_map contents (answered r)) m.1,
      ap (λ k. at_top k (spell (contents m.0) max_levels)) (sym (spell_kind false (contents m.0) max_levels u spelled) ∙ document_kind u whole_document) ∙ spelled,
    )

-- ---- at shapes

pub enveloped : (s : Form) (bytes : Bytes) (d : Value) → reads_document s bytes ≡ Ok d → (b : Bytes) × (envelope bytes ≡ Ok b)
enveloped s bytes d e = form_enveloped (whole s) bytes d e

pub taken_forth : (s : Form) (bytes : Bytes) (ps : Pairs) (d : Value) (u : Tree) → IsShape s → IsSimple s → AreBytes bytes → HasFreeInput bytes → document_pairs bytes ≡ Ok ps → reads_document s bytes ≡ Ok d → spell_document d ≡ Ok u
    → (w : Value) × (reads_tree_value false s (document ps) ≡ Ok w) × (tree_whole false w ≡ Ok u) × IsDocument u × (encode_fault u ≡ None)
taken_forth s bytes ps d u shape simple are free is e q = form_forth (whole s) bytes ps d u (shape_whole s shape) (simple_whole s simple) are free is e q

pub taken_back : (s : Form) (bytes : Bytes) (ps : Pairs) (w : Value) (u : Tree) → IsShape s → IsSimple s → AreBytes bytes → envelope bytes ≡ Ok bytes → HasFreeInput bytes → document_pairs bytes ≡ Ok ps
    → reads_tree_value false s (document ps) ≡ Ok w → tree_whole false w ≡ Ok u → IsDocument u → encode_fault u ≡ None → (d : Value) × (reads_document s bytes ≡ Ok d) × (spell_document d ≡ Ok u)
taken_back s bytes ps w u shape simple are v free is e q whole_document no_fault = form_back (whole s) bytes ps w u (shape_whole s shape) (simple_whole s simple) are v free is e q whole_document no_fault
