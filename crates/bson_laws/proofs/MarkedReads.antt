-- What is read at a shape that borrows nothing is read where texts are mended, too, as the same value.
use Rattle.std.proofs.Common.{◌≡◌, Bool, true, false, cond, Result, Ok, Err, refl, ap, sym, subst, ◌∙◌}
use Rattle.std.specs.Str.{is_utf8}
use Rattle.bson_kinds.specs.Outcome.{result_map}
use Rattle.bson_base.specs.Sound.{max_levels}
use Rattle.bson_kinds.specs.Text.{Bytes}
use Rattle.bson_kinds.specs.declared.element_type.ElementType.TheVariants.{EmbeddedDocument}
use Rattle.bson_kinds.proofs.Outcomes.{map_ok}
use Rattle.bson_rawdoc.specs.Envelope.{envelope}
use Rattle.bson_rawdoc.specs.Node.{Node, mended, mended_text, node_in}
use Rattle.bson_kinds.specs.Piece.{Piece}
use Rattle.bson_faults.specs.declared.raw.Error.{Error}
use Rattle.bson_shape.specs.Form.{Form, leaf, optional, lossy, human_readable, by_mode, sequence, newtype, unit_structure, map, tuple, tuple_structure, structure, enumeration, reference, definitions, Fields, no_fields, field, Parts, no_parts, part, Content, unit_content, newtype_content, tuple_content, struct_content, Variants, no_variants, variant}
use Rattle.bson_values.specs.Marked.{Marked, contents}
use Rattle.bson_values.specs.Value.{Value}
use Rattle.bson_laws.specs.CompactReads.{reads_at}
use Rattle.bson_laws.specs.Owned.{IsOwned, AreFieldsOwned, ArePartsOwned, AreVariantsOwned, IsContentOwned}
use Rattle.bson_laws.specs.Reads as at_settled
use Rattle.bson_laws.specs.Reads.{answered, document_at}
use Rattle.bson_laws.specs.Settled.{settled, settled_fields, settled_parts, settled_variants, settled_content}
use Rattle.bson_laws.proofs.Changed.{Follows}
use Rattle.bson_laws.proofs.ChangedNodes.{as_it_is, changed_same, marking, marked_mended, mended_marked}
use Rattle.bson_laws.proofs.ChangedTrees.{reads_after}
use Rattle.bson_laws.proofs.Documents.{answered_is, read_in}
use Rattle.bson_laws.proofs.Judged.{ReadAs}
use Rattle.bson_laws.proofs.MarkedNodes.{IsMarked, node_marked}
use Rattle.bson_laws.proofs.MendedTexts.{whole_mended}
use Rattle.bson_kinds.proofs.Apart.{no_ok}

-- ---- a text stays as it is

whole_either : (c : Bool) (t : Piece) → is_utf8 t.bytes ≡ true → (cond c (mended_text t) t).bytes ≡ t.bytes
whole_either true t h = whole_mended t.bytes h
whole_either false t h = refl

marking_follows : Follows as_it_is marking false
marking_follows = record {
  texts = λ t h. whole_either t.in_input t h;
  no_text = λ o. absurd cc;
  no_key = λ o. absurd cc;
  no_bytes = λ o. absurd cc;
  slices = λ s p e. e;
  mends = λ n. ap mended (changed_same n) ∙ sym (changed_same (mended n));
  mends_then = λ n. mended_marked n ∙ sym (marked_mended n);
}

owned_reads : (s : Form) (n : Node) (m : Marked) → IsOwned s → IsMarked n → at_settled.reads s n ≡ Ok m → ReadAs contents (at_settled.reads s (mended n)) (contents m)
owned_reads s n m owned marked e =
    subst (λ k. ReadAs contents (at_settled.reads s k) (contents m)) marked (reads_after as_it_is marking false marking_follows s (λ o. owned) n m (ap (at_settled.reads s) (changed_same n) ∙ e))

-- ---- settled forms

owned_either : (c : Bool) (s t : Form) → IsOwned s → IsOwned t → IsOwned (cond c s t)
owned_either true s t h g = h
owned_either false s t h g = g

mutual
  -- a form that borrows nothing borrows nothing where it is settled
  settled_owned : (r : Bool) (s : Form) → IsOwned s → IsOwned (settled r s)
  settled_owned r (leaf l) h = h
  settled_owned r (optional s) h = settled_owned r s h
  settled_owned r (lossy s) h = settled_owned r s h
  settled_owned r (human_readable s) h = settled_owned true s h
  settled_owned r (by_mode s t) h = let expected = owned_either r (settled r s) (settled r t) (settled_owned r s h.0) (settled_owned r t h.1) in (expected, expected)
  settled_owned r (sequence s) h = settled_owned r s h
  settled_owned r (map key s) h = (h.0, settled_owned r s h.1)
  settled_owned r (tuple ps) h = parts_owned r ps h
  settled_owned r (tuple_structure name ps) h = parts_owned r ps h
  settled_owned r (newtype name s) h = settled_owned r s h
  settled_owned r (unit_structure name) h = tt
  settled_owned r (structure u name fs) h = fields_owned r fs h
  settled_owned r (enumeration vs) h = variants_owned r vs h
  settled_owned r (reference name) h = h
  settled_owned r (definitions t s) h = (fields_owned r t h.0, settled_owned r s h.1)

  fields_owned : (r : Bool) (fs : Fields) → AreFieldsOwned fs → AreFieldsOwned (settled_fields r fs)
  fields_owned r no_fields h = tt
  fields_owned r (field name s fs) h = (settled_owned r s h.0, fields_owned r fs h.1)

  parts_owned : (r : Bool) (ps : Parts) → ArePartsOwned ps → ArePartsOwned (settled_parts r ps)
  parts_owned r no_parts h = tt
  parts_owned r (part s ps) h = (settled_owned r s h.0, parts_owned r ps h.1)

  variants_owned : (r : Bool) (vs : Variants) → AreVariantsOwned vs → AreVariantsOwned (settled_variants r vs)
  variants_owned r no_variants h = tt
  variants_owned r (variant name c vs) h = (content_owned r c h.0, variants_owned r vs h.1)

  content_owned : (r : Bool) (c : Content) → IsContentOwned c → IsContentOwned (settled_content r c)
  content_owned r unit_content h = tt
  content_owned r (newtype_content s) h = settled_owned r s h
  content_owned r (tuple_content ps) h = parts_owned r ps h
  content_owned r (struct_content fs) h = fields_owned r fs h

-- ---- at a shape

-- what is read of a value of the input at a shape that borrows nothing is read of it where its texts are mended
pub marked_reads : (s : Form) (n : Node) (m : Marked) → IsOwned s → IsMarked n → reads_at s n ≡ Ok m → ReadAs contents (reads_at (lossy s) n) (contents m)
marked_reads s n m owned marked e = owned_reads (settled false s) n m (settled_owned false s owned) marked e

-- and what is read of the bytes of a document
pub document_marked : (s : Form) (bytes : Bytes) (d : Value) → IsOwned s → document_at s bytes ≡ Ok d → document_at (lossy s) bytes ≡ Ok d
document_marked s bytes d owned e = by_case (envelope bytes) e where
  by_case : (r : Result Bytes Error) → result_map contents (read_in s r) ≡ Ok d → result_map contents (read_in (lossy s) r) ≡ Ok d
  by_case (Ok b) q =
      let n = node_in max_levels EmbeddedDocument b in
      let m = map_ok contents (answered (reads_at s n)) d q in
      let h = marked_reads s n m.0 owned (node_marked max_levels EmbeddedDocument b) (answered_is (reads_at s n) m.0 m.1) in
      ap (λ x. result_map contents (answered x)) h.1 ∙ ap Ok (h.2 ∙ m.2)
  by_case (Err f) q = absurd (no_ok q)
