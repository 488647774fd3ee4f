-- The laws of two ways: what is read from bytes and spelled is what is read from their document and made into one.
use Rattle.std.proofs.Common.{◌≡◌, false, Result, Ok, Err, refl, ap, sym, ◌∙◌}
use Rattle.bson_kinds.specs.Outcome.{result_map}
use Rattle.bson_base.specs.Sound.{max_levels}
use Rattle.bson_kinds.specs.Text.{Bytes, AreBytes}
use Rattle.bson_base.specs.Tree.{Tree, document, Pairs}
use Rattle.bson_kinds.specs.declared.element_type.ElementType.{ElementType}
use Rattle.bson_kinds.specs.declared.element_type.ElementType.TheVariants.{EmbeddedDocument}
use Rattle.bson_kinds.proofs.Outcomes.{map_ok}
use Rattle.bson_rawdoc.specs.DocumentTree.{document_pairs}
use Rattle.bson_rawdoc.specs.Envelope.{envelope}
use Rattle.bson_rawdoc.specs.Node.{Node, node_in, from_input, from_memory, tree_node}
use Rattle.bson_faults.specs.declared.raw.Error.{Error}
use Rattle.bson_shape.specs.Form.{Form, optional, lossy, human_readable, by_mode, sequence, newtype, map, tuple, tuple_structure, structure, enumeration, definitions, Fields, no_fields, field, Parts, no_parts, part, Content, unit_content, newtype_content, tuple_content, struct_content, Variants, no_variants, variant}
use Rattle.bson_shape.specs.Makers.{IsShape}
use Rattle.bson_values.specs.Marked.{Marked, contents}
use Rattle.bson_values.specs.Value.{Value, kind_of}
use Rattle.bson_laws.specs.declared.origin.Origin.TheVariants as origins
use Rattle.bson_laws.specs.Reads.{answered, reads, document_at, reads_document}
use Rattle.bson_laws.specs.ReadsFrom.{reads_from, tree_at, reads_tree_value}
use Rattle.bson_laws.specs.Settled.{settled, IsSettled, settled_rows}
use Rattle.bson_laws.specs.Spell.{Writing, at_top, spell, spell_document}
use Rattle.bson_laws.specs.Unrolled.{whole}
use Rattle.bson_laws.proofs.Documents.{answered_is, read_in, node_read}
use Rattle.bson_laws.proofs.Framed.{frame}
use Rattle.bson_laws.proofs.GivenAt.{reads_given}
use Rattle.bson_laws.proofs.Settled.{settled_same}
use Rattle.bson_laws.proofs.ShapeForms as forms
use Rattle.bson_laws.proofs.ShapeUnrolled.{shape_whole}
use Rattle.bson_tree_laws.specs.TreeSpell.{tree_spell, tree_whole}
use Rattle.bson_tree_laws.proofs.Writers.{writers}
use Rattle.bson_laws.specs.Every.{EveryContent, EveryDefinition, EveryField, EveryPart, EveryVariant}
use Rattle.bson_ways_laws.specs.Ways.{SuitsBothWays, HasFreeInput, HasCommonKeys, ways_rows}
use Rattle.bson_ways_laws.proofs.DocumentLike.{bytes_like}
use Rattle.bson_ways_laws.proofs.Freed.{spelled_free}
use Rattle.bson_ways_laws.proofs.GivenAlike.{given_good}
use Rattle.bson_ways_laws.proofs.Likes.{Like}
use Rattle.bson_ways_laws.proofs.LikeReads.{reads_like}
use Rattle.bson_ways_laws.proofs.WaysUnrolled.{suits_whole}
use Rattle.bson_kinds.proofs.Apart.{no_ok}

-- ---- such a form is settled as it stands

mutual
  ways_settled : (s : Form) → SuitsBothWays s → IsSettled s
  ways_settled (optional s) c = ways_settled s c
  ways_settled (lossy s) c = ways_settled s c
  ways_settled (human_readable s) c = c
  ways_settled (by_mode s t) c = c
  ways_settled (sequence s) c = ways_settled s c
  ways_settled (map key s) c = ways_settled s c.1
  ways_settled (tuple ps) c = parts_settled ps c
  ways_settled (tuple_structure name ps) c = parts_settled ps c
  ways_settled (newtype name s) c = ways_settled s c.1
  ways_settled (structure u name fs) c = fields_settled fs c.1
  ways_settled (enumeration vs) c = variants_settled vs c
  ways_settled (definitions h s) c = (definitions_settled h c.0, ways_settled s c.1)
  ways_settled s c = tt

  fields_settled : (fs : Fields) → EveryField ways_rows fs → EveryField settled_rows fs
  fields_settled no_fields c = tt
  fields_settled (field name s fs) c = (ways_settled s c.1, fields_settled fs c.2)

  definitions_settled : (h : Fields) → EveryDefinition ways_rows h → EveryField settled_rows h
  definitions_settled no_fields c = tt
  definitions_settled (field name s h) c = (ways_settled s c.0, definitions_settled h c.1)

  parts_settled : (ps : Parts) → EveryPart ways_rows ps → EveryPart settled_rows ps
  parts_settled no_parts c = tt
  parts_settled (part s ps) c = (ways_settled s c.0, parts_settled ps c.1)

  variants_settled : (vs : Variants) → EveryVariant ways_rows vs → EveryVariant settled_rows vs
  variants_settled no_variants c = tt
  variants_settled (variant name d vs) c = (content_settled d c.1, variants_settled vs c.2)

  content_settled : (d : Content) → EveryContent ways_rows d → EveryContent settled_rows d
  content_settled unit_content c = tt
  content_settled (newtype_content s) c = ways_settled s c
  content_settled (tuple_content ps) c = parts_settled ps c
  content_settled (struct_content fs) c = fields_settled fs c

pub same_form : (s : Form) → SuitsBothWays s → settled false s ≡ s
same_form s c = settled_same false s (ways_settled s c)

-- ---- whole documents, at unrolled forms

-- the node of a whole document in bytes
abbrev pub bytes_node : Bytes → Node
bytes_node bytes = node_in max_levels EmbeddedDocument bytes

-- the node of a document in memory
abbrev pub pairs_node : Pairs → Node
pairs_node ps = tree_node from_memory (document ps) max_levels

-- what is read from a document's bytes is read from their node
pub bytes_read : (s : Form) (bytes : Bytes) (d : Value) → settled false s ≡ s → document_at s bytes ≡ Ok d → (m : Marked) × (reads_from origins.Bytes s (bytes_node bytes) ≡ Ok m) × (contents m ≡ d)
bytes_read s bytes d same e = by_case (envelope bytes) (λ b q. (frame bytes b q).0) e where
  by_case : (r : Result Bytes Error) → ((b : Bytes) → r ≡ Ok b → bytes ≡ b) → result_map contents (read_in s r) ≡ Ok d → (m : Marked) × (reads_from origins.Bytes s (bytes_node bytes) ≡ Ok m) × (contents m ≡ d)
  by_case (Ok b) is q =
      let m = map_ok contents (answered (reads (settled false s) (bytes_node b))) d q in
      let there : reads (settled false s) (bytes_node b) ≡ Ok m.0 = answered_is (reads (settled false s) (bytes_node b)) m.0 m.1 in
      (m.0, (λ i. reads (sym same i) (bytes_node (is b refl i))) ∙ there, m.2)
  by_case (Err f) is q = absurd (no_ok q)

-- what is read from a document in memory is read from its node
pub pairs_read : (s : Form) (ps : Pairs) (w : Value) → settled false s ≡ s → result_map contents (tree_at false s (document ps)) ≡ Ok w → (m : Marked) × (reads_from origins.Tree s (pairs_node ps) ≡ Ok m) × (contents m ≡ w)
pairs_read s ps w same e =
    let m = map_ok contents (tree_at false s (document ps)) w e in
    (m.0, ap (λ x. reads_from origins.Tree x (pairs_node ps)) (sym same) ∙ m.1, m.2)

pub top_is : (k : ElementType) (r : Writing Tree) (t : Tree) → at_top k r ≡ Ok t → r ≡ Ok t
top_is EmbeddedDocument r t e = e
top_is k r t e = absurd (no_ok e)

pub top_kind : (k : ElementType) (r : Writing Tree) (t : Tree) → at_top k r ≡ Ok t → k ≡ EmbeddedDocument
top_kind EmbeddedDocument r t e = refl
top_kind k r t e = absurd (no_ok e)

-- the node of the document of some bytes is like that of the bytes
pub input_like : (bytes : Bytes) (ps : Pairs) → HasFreeInput bytes → document_pairs bytes ≡ Ok ps → Like (bytes_node bytes) (pairs_node ps)
input_like bytes ps free e = bytes_like max_levels bytes free.input ps e free.is free.free

form_reads : (s : Form) (bytes : Bytes) (ps : Pairs) (d w : Value) (u : Tree) → SuitsBothWays s → HasFreeInput bytes → document_pairs bytes ≡ Ok ps → document_at s bytes ≡ Ok d → spell_document d ≡ Ok u → HasCommonKeys u
    → result_map contents (tree_at false s (document ps)) ≡ Ok w → d ≡ w
form_reads s bytes ps d w u suits free is e q common f =
    let m = bytes_read s bytes d (same_form s suits) e in
    let n = pairs_read s ps w (same_form s suits) f in
    let spelled : spell (contents m.0) max_levels ≡ Ok u = ap (λ v. spell v max_levels) m.2 ∙ top_is (kind_of d) (spell d max_levels) u q in
    sym m.2 ∙ reads_like s suits (bytes_node bytes) (pairs_node ps) (input_like bytes ps free is) m.0 n.0 m.1 n.1 (spelled_free false (contents m.0) max_levels u spelled common) ∙ n.2

pub form_makes : (s : Form) (bytes : Bytes) (d : Value) (u : Tree) → forms.IsShape s → SuitsBothWays s → AreBytes bytes → document_at s bytes ≡ Ok d → spell_document d ≡ Ok u → HasCommonKeys u → tree_whole false d ≡ Ok u
form_makes s bytes d u shape suits are e q common =
    let r = node_read s bytes d are e in
    let n = node_in max_levels EmbeddedDocument r.0 in
    let there : reads s n ≡ Ok r.1 = ap (λ x. reads x n) (sym (same_form s suits)) ∙ r.3 in
    let spelled : spell (contents r.1) max_levels ≡ Ok u = ap (λ v. spell v max_levels) r.4 ∙ top_is (kind_of d) (spell d max_levels) u q in
    let good = given_good from_input (contents r.1) s shape suits (reads_given from_input s n r.1 r.2 there) max_levels u spelled common in
    ap (λ v. tree_spell false false v max_levels) (sym r.4) ∙ writers false (contents r.1) max_levels u good.1 spelled good.0

-- ---- at shapes

pub read_alike : (s : Form) (bytes : Bytes) (ps : Pairs) (d w : Value) (u : Tree) → SuitsBothWays s → HasFreeInput bytes → document_pairs bytes ≡ Ok ps → reads_document s bytes ≡ Ok d → spell_document d ≡ Ok u → HasCommonKeys u
    → reads_tree_value false s (document ps) ≡ Ok w → d ≡ w
read_alike s bytes ps d w u suits free is e q common f = form_reads (whole s) bytes ps d w u (suits_whole s suits) free is e q common f

pub spelled_alike : (s : Form) (bytes : Bytes) (ps : Pairs) (d w : Value) (u : Tree) → SuitsBothWays s → HasFreeInput bytes → document_pairs bytes ≡ Ok ps → reads_document s bytes ≡ Ok d → spell_document d ≡ Ok u → HasCommonKeys u
    → reads_tree_value false s (document ps) ≡ Ok w → spell_document w ≡ Ok u
spelled_alike s bytes ps d w u suits free is e q common f = ap spell_document (sym (read_alike s bytes ps d w u suits free is e q common f)) ∙ q

pub made_alike : (s : Form) (bytes : Bytes) (d : Value) (u : Tree) → IsShape s → SuitsBothWays s → AreBytes bytes → reads_document s bytes ≡ Ok d → spell_document d ≡ Ok u → HasCommonKeys u → tree_whole false d ≡ Ok u
made_alike s bytes d u shape suits are e q common = form_makes (whole s) bytes d u (shape_whole s shape) (suits_whole s suits) are e q common

pub ways_agree : (s : Form) (bytes : Bytes) (ps : Pairs) (d w : Value) (u : Tree) → IsShape s → SuitsBothWays s → AreBytes bytes → HasFreeInput bytes → document_pairs bytes ≡ Ok ps → reads_document s bytes ≡ Ok d → spell_document d ≡ Ok u
    → HasCommonKeys u → reads_tree_value false s (document ps) ≡ Ok w → tree_whole false w ≡ Ok u
ways_agree s bytes ps d w u shape suits are free is e q common f =
    ap (λ v. tree_whole false v) (sym (read_alike s bytes ps d w u suits free is e q common f)) ∙ made_alike s bytes d u shape suits are e q common
