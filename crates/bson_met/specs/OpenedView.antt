-- What contracts see of values of kinds that serde's data model lacks, and of what is left of the documents that they are opened to.
-- Source: MongoDB's extended JSON, version 2.
use Rattle.std.specs.Prelude.{ℕ, pos, true, false, codes, [], ◌∷◌}
use Rattle.bson_base.specs.BsonView.{pairs_of}
use Rattle.bson_base.specs.Instant.{millis}
use Rattle.bson_base.specs.Tree as trees
use Rattle.bson_kinds.specs.declared.element_type.ElementType.TheVariants.{EmbeddedDocument}
use Rattle.bson_rawdoc.specs.DocumentView.{document_bytes}
use Rattle.bson_base.specs.Made.{digits, number_text, base64_text}
use Rattle.bson_rawdoc.specs.Node as node
use Rattle.bson_rawdoc.specs.Node.{of_tree, from_memory, Node, Nodes, one, two, made_document, made_text, opened, inner_node, one_level, pair_nodes}
use Rattle.bson_kinds.specs.Piece.{made}
use Rattle.bson_met.specs.Seen.{seen}
use Rattle.bson_met.specs.PieceView.{met_bytes, met_text}
use Rattle.bson_met.specs.declared.opened.Names.{Names}
use Rattle.bson_met.specs.declared.opened.Names.TheVariants.{Bytes, Pairs}
use Rattle.bson_met.specs.declared.opened.Scope.{Scope}
use Rattle.bson_met.specs.declared.opened.Extended.{Extended}
use Rattle.bson_met.specs.declared.opened.Extended.TheVariants.{Binary, Undefined, ObjectId, DateTime, RegularExpression, DbPointer, JavaScriptCode, Symbol, JavaScriptCodeWithScope, Timestamp, Decimal128, MaxKey, MinKey}
use Rattle.bson_met.specs.declared.opened.Opened.{Opened}
use Rattle.bson_met.specs.declared.opened.Place.{Place}
use Rattle.bson_met.specs.declared.opened.Place.TheVariants as places
use Rattle.bson_met.specs.declared.opened.Made.{Made}
use Rattle.bson_met.specs.declared.opened.Made.TheVariants as mades

-- the names of a scope, with so many levels left for them
abbrev pub names_node : ℕ → Names → Node
names_node levels (Bytes d) = inner_node levels EmbeddedDocument (document_bytes d)
names_node levels (Pairs d) = one_level EmbeddedDocument (of_tree (trees.document (pairs_of d.now))) (pair_nodes from_memory (pairs_of d.now)) levels

abbrev pub scope_node : Scope → Node
scope_node s = seen s.mends (names_node s.levels s.names)

abbrev pub extended_view : Extended → node.Extended
extended_view (Binary s b) = node.binary s.0 (met_bytes b)
extended_view Undefined = node.undefined
extended_view (ObjectId b) = node.object_id (met_bytes b)
extended_view (DateTime d) = node.date_time (millis d)
extended_view (RegularExpression p o) = node.regular_expression (met_text p) (met_text o)
extended_view (DbPointer n id) = node.db_pointer (met_text n) id.0
extended_view (JavaScriptCode t) = node.javascript_code (met_text t)
extended_view (Symbol t) = node.symbol (met_text t)
extended_view (JavaScriptCodeWithScope t s) = node.javascript_code_with_scope (met_text t) (scope_node s)
extended_view (Timestamp t) = node.timestamp t.time t.increment
extended_view (Decimal128 b) = node.decimal128 (met_bytes b)
extended_view MaxKey = node.max_key
extended_view MinKey = node.min_key

-- what is left of the document that a value is opened to, or of one inside it
abbrev pub left_nodes : Place → node.Extended → Nodes
left_nodes places.Start x = opened x
left_nodes places.Behind (node.javascript_code_with_scope code scope) = one (codes "$scope") scope
left_nodes places.Inside (node.date_time n) = one (codes "$numberLong") (made_text (number_text n))
left_nodes places.Inside (node.binary s b) = two (codes "subType") (made_text (digits (s ∷ []))) (codes "base64") (made_text (base64_text b.bytes))
left_nodes places.Inside (node.timestamp t i) = two (codes "t") (node.int64 (pos t)) (codes "i") (node.int64 (pos i))
left_nodes places.Inside (node.regular_expression p o) = two (codes "pattern") (node.string p) (codes "options") (node.string o)
left_nodes places.Inside (node.db_pointer n id) = two (codes "$ref") (node.string n) (codes "$id") (made_document (one (codes "$oid") (made_text (digits id))))
left_nodes places.InsideBehind (node.binary s b) = one (codes "base64") (made_text (base64_text b.bytes))
left_nodes places.InsideBehind (node.timestamp t i) = one (codes "i") (node.int64 (pos i))
left_nodes places.InsideBehind (node.regular_expression p o) = one (codes "options") (node.string o)
left_nodes places.InsideBehind (node.db_pointer n id) = one (codes "$id") (made_document (one (codes "$oid") (made_text (digits id))))
left_nodes places.Deep (node.db_pointer n id) = one (codes "$oid") (made_text (digits id))
left_nodes p x = node.ended

abbrev pub opened_nodes : Opened → Nodes
opened_nodes o = left_nodes o.place (extended_view o.value)

abbrev pub made_node : Made → Node
made_node (mades.Text t) = node.string (met_text t)
made_node (mades.Bytes b) = node.bytes false (made b.bytes.now)
made_node mades.True = node.boolean true
made_node mades.One = node.int32 (pos 1)
made_node (mades.Long n) = node.int64 (pos n)
made_node (mades.Document o) = made_document (opened_nodes o)
