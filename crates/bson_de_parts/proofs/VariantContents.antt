-- The value at an enum or at a struct, and the contents of variants.
use Rattle.std.proofs.Common.{◌≡◌, false, Result, Ok, Err, refl, ap, sym, subst, ◌∙◌}
use Rattle.std.proofs.lemmas.Bool.{false≢true}
use Rattle.bson_kinds.specs.Outcome.{◌>>=◌, result_map}
use Rattle.bson_kinds.specs.Text.{Utf8}
use Rattle.bson_rawdoc.specs.Node.{Node, document, Nodes, ended, faulty, then_node}
use Rattle.bson_kinds.specs.Piece.{made}
use Rattle.bson_shape.specs.Form.{dropped, Content, unit_content, newtype_content, tuple_content, struct_content}
use Rattle.bson_shape.specs.Makers.{is_unit}
use Rattle.bson_values.specs.Marked.{Marked}
use Rattle.bson_datum.specs.MarkedView.{marked}
use Rattle.bson_values.specs.Refusal.{at_key, under}
use Rattle.bson_values.specs.Value as value
use Rattle.bson_datum.specs.declared.datum.Datum.{Datum}
use Rattle.bson_values.specs.declared.de.Fault.{Fault}
use Rattle.bson_values.specs.declared.stop.Stop.{Stop}
use Rattle.bson_laws.specs.Judged.{Reading, judged}
use Rattle.bson_laws.specs.declared.origin.Origin.{Origin}
use Rattle.bson_laws.specs.declared.origin.Origin.TheVariants as origins
use Rattle.bson_laws.specs.FromTree.{tuple_content_at, struct_content_at}
use Rattle.bson_laws.specs.ReadsFrom.{reads_parts, reads_content}
use Rattle.bson_laws.specs.Slots.{Slots}
use Rattle.bson_laws.specs.Taken.{array_of}
use Rattle.bson_met.specs.Gives.{Reaches}
use Rattle.bson_met.proofs.Refusals.{stops_inside}
use Rattle.bson_de_parts.specs.AtKey.{IsAtKey}
use Rattle.bson_slots.specs.FieldsRead.{fields_by_key}
use Rattle.bson_de_parts.specs.Enums.{reads_contents}
use Rattle.bson_de_parts.specs.TreeContents.{not_ended, content_items_of, only_document, document_elements_of, content_fields}

-- a reading at a key is what the definition reads there
pub reaches_at : {X Y : Type 0} (see : X → Y) (key : Utf8) (old new : Result X (Stop Fault)) (r : Reading Y) → IsAtKey key old new → Reaches see old r → Reaches see new (under key r)
reaches_at see key (Ok x) (Ok y) r same h = ap (under key) h ∙ (let e : x ≡ y = cc in ap (λ z. Ok (see z)) e)
reaches_at see key (Ok x) (Err t) r same h = absurd cc
reaches_at see key (Err s) (Ok y) r same h = absurd same
reaches_at see key (Err s) (Err t) r same h = stops_inside (at_key key) s t r same h

-- the array of a tuple variant, which is not empty in a tree
filled : (r : Reading Nodes) (f : Nodes → Reading Marked) → (r >>= not_ended >>= f) ≡ (r >>= λ ns. tuple_content_at origins.Tree f ns)
filled (Ok ended) f = refl
filled (Ok (faulty e)) f = refl
filled (Ok (then_node key n ns)) f = refl
filled (Err e) f = refl

items_alike : (o : Origin) (n : Node) (f : Nodes → Reading Marked) → (content_items_of o n >>= f) ≡ (judged n >>= array_of >>= λ ns. tuple_content_at o f ns)
items_alike origins.Bytes n f = refl
items_alike origins.Tree n f = filled (judged n >>= array_of) f

-- a document of a tree that is the contents of a struct variant
by_document : (slots : Slots) (m : Node) → struct_content_at origins.Tree slots m ≡ (only_document m >>= fields_by_key dropped slots)
by_document slots (document whole ns) = refl
by_document slots m = refl

then_document : (r : Reading Node) (slots : Slots) → (r >>= struct_content_at origins.Tree slots) ≡ (r >>= only_document >>= fields_by_key dropped slots)
then_document (Ok m) slots = by_document slots m
then_document (Err e) slots = refl

pub tree_fields : (slots : Slots) (n : Node) → content_fields origins.Tree slots n ≡ (document_elements_of n >>= fields_by_key dropped slots)
tree_fields slots n = then_document (judged n) slots

-- contents that were read, at the key that names the variant
pub contents_at_key : (o : Origin) (own name : Utf8) (c : Content) (n : Node) (old new : Result Datum (Stop Fault)) → is_unit c ≡ false → name ≡ own → IsAtKey name old new → Reaches marked old (reads_contents o name c n) → Reaches marked new (reads_content o own c n)
contents_at_key o own name unit_content n old new some named at h = absurd (false≢true (sym some))
contents_at_key o own name (newtype_content s) n old new some named at h =
    subst (λ (r : Reading Marked). Reaches marked new r) (λ i. under (named i) (reads_contents o (named i) (newtype_content s) n)) (reaches_at marked name old new _ at h)
contents_at_key o own name (tuple_content ps) n old new some named at h =
    subst (λ (r : Reading Marked). Reaches marked new r)
    ((λ i. under (named i) (reads_contents o (named i) (tuple_content ps) n)) ∙ ap (under own) (items_alike o n (λ ns. result_map (value.tuple_variant (made own)) (reads_parts o ps 0 ns))))
    (reaches_at marked name old new _ at h)
contents_at_key o own name (struct_content fs) n old new some named at h =
    subst (λ (r : Reading Marked). Reaches marked new r) (λ i. under (named i) (reads_contents o (named i) (struct_content fs) n)) (reaches_at marked name old new _ at h)
