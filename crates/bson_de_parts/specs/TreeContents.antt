-- What contracts see of the contents of variants in a tree. Source: serde's data model.
use Rattle.bson_kinds.specs.Outcome.{◌>>=◌}
use Rattle.bson_kinds.specs.declared.element_type.ElementType.TheVariants as kinds
use Rattle.std.specs.Prelude.{Ok}
use Rattle.bson_rawdoc.specs.Node.{Node, document, Nodes, ended, faulty, then_node, kind_of}
use Rattle.bson_values.specs.Cause.{raw, invalid_type}
use Rattle.bson_values.specs.Marked.{MarkedFields}
use Rattle.bson_laws.specs.Judged.{Reading, refused, judged}
use Rattle.bson_laws.specs.Taken.{array_of}
use Rattle.bson_laws.specs.declared.origin.Origin.{Origin}
use Rattle.bson_laws.specs.declared.origin.Origin.TheVariants.{Bytes, Tree}
use Rattle.bson_laws.specs.FromTree.{struct_content_at}
use Rattle.bson_laws.specs.Slots.{Slots}
use Rattle.bson_met.specs.MetView.{array_at}

-- the elements of an array that is not empty
abbrev pub not_ended : Nodes → Reading Nodes
not_ended ended = refused (invalid_type kinds.Null)
not_ended (faulty e) = refused (raw e)
not_ended (then_node key n ns) = Ok (then_node key n ns)

abbrev pub filled_items_of : Node → Reading Nodes
filled_items_of n = judged n >>= array_of >>= not_ended

-- those of the array that is the contents of a tuple variant
abbrev pub content_items_of : Origin → Node → Reading Nodes
content_items_of Bytes n = array_at n
content_items_of Tree n = filled_items_of n

-- the elements of a document
abbrev pub only_document : Node → Reading Nodes
only_document (document whole ns) = Ok ns
only_document n = refused (invalid_type (kind_of n))

abbrev pub document_elements_of : Node → Reading Nodes
document_elements_of n = judged n >>= only_document

-- the fields of a value that is the contents of a struct variant
abbrev pub content_fields : Origin → Slots → Node → Reading MarkedFields
content_fields o slots n = judged n >>= struct_content_at o slots
