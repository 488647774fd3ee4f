-- What contracts see of enums. Source: serde's data model.
use Rattle.std.specs.Prelude.{Ok}
use Rattle.bson_kinds.specs.Text.{Utf8}
use Rattle.bson_kinds.specs.Outcome.{◌>>=◌, result_map}
use Rattle.bson_rawdoc.specs.Node.{Node, Nodes, ended, faulty, then_node}
use Rattle.bson_kinds.specs.Piece.{made}
use Rattle.bson_shape.specs.Form.{Content, unit_content, newtype_content, tuple_content, struct_content}
use Rattle.bson_values.specs.Cause.{raw, unit_in_document, extra_key}
use Rattle.bson_values.specs.Marked.{Marked}
use Rattle.bson_values.specs.Value as value
use Rattle.bson_laws.specs.Judged.{Reading, refused, judged}
use Rattle.bson_laws.specs.declared.origin.Origin.{Origin}
use Rattle.bson_laws.specs.declared.origin.Origin.TheVariants.{Bytes, Tree}
use Rattle.bson_laws.specs.Containers.{Pair, first_of}
use Rattle.bson_laws.specs.FromTree.{only_of, struct_content_at}
use Rattle.bson_laws.specs.ReadsFrom.{reads_from, reads_parts, slots_of}
use Rattle.bson_met.specs.PieceView.{str_piece}
use Rattle.bson_met.specs.declared.elements.Step.{Step}
use Rattle.bson_de_parts.specs.TreeContents.{content_items_of}

-- the value that a step has come to, with its key
abbrev pub pair_of : Step → Pair
pair_of s = record { key = str_piece s.key; value = s.value }

-- that no element is left
abbrev pub end_at : Nodes → Reading (Unit {0})
end_at ended = Ok tt
end_at (faulty e) = refused (raw e)
end_at (then_node key n ns) = refused (extra_key key.bytes)

-- the element that names a variant
abbrev pub element_of : Origin → Nodes → Reading Pair
element_of Bytes = first_of
element_of Tree = only_of

-- the variant of a name with its contents, read from the value that is at the name; a unit variant has none (its row is there so that it is whole)
abbrev pub reads_contents : Origin → Utf8 → Content → Node → Reading Marked
reads_contents o name unit_content n = refused unit_in_document
reads_contents o name (newtype_content s) n = result_map (value.newtype_variant (made name)) (reads_from o s n)
reads_contents o name (tuple_content ps) n = content_items_of o n >>= λ ns. result_map (value.tuple_variant (made name)) (reads_parts o ps 0 ns)
reads_contents o name (struct_content fs) n = judged n >>= λ m. result_map (value.structure_variant (made name)) (struct_content_at o (slots_of o fs) m)
