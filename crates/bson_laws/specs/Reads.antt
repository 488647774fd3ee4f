-- Reading a value at a shape. Source: serde's data model.
use Rattle.std.specs.Prelude.{ℕ, Bool, false, Result, Ok, Err}
use Rattle.bson_kinds.specs.Text.{Bytes, Utf8}
use Rattle.bson_kinds.specs.Outcome.{result_map}
use Rattle.bson_base.specs.Sound.{max_levels}
use Rattle.bson_kinds.specs.declared.element_type.ElementType.TheVariants.{EmbeddedDocument}
use Rattle.bson_rawdoc.specs.Envelope.{envelope}
use Rattle.bson_rawdoc.specs.Node.{Node, Nodes, node_in}
use Rattle.bson_shape.specs.Form.{Form, Fields, Parts, Content, Variants}
use Rattle.bson_values.specs.Value.{Value}
use Rattle.bson_values.specs.Marked.{Marked, MarkedItems, contents}
use Rattle.bson_values.specs.Cause.{raw}
use Rattle.bson_values.specs.Refusal.{ReadFault, unreadable, Failure, bare, with_path}
use Rattle.bson_laws.specs.Judged.{Reading}
use Rattle.bson_laws.specs.Leaves.{LeafKind}
use Rattle.bson_laws.specs.ReadsLeaf.{read_leaf_with}
use Rattle.bson_laws.specs.ReadsExtended.{read_extended}
use Rattle.bson_laws.specs.Settled.{settled}
use Rattle.bson_laws.specs.Shaped as shaped
use Rattle.bson_laws.specs.Slots.{Slots}
use Rattle.bson_laws.specs.Unrolled.{whole}

-- a judged value at a leaf of this kind, which borrows its text or not
abbrev pub read_leaf : (is_borrowing : Bool) → LeafKind → Node → Reading Marked
read_leaf = read_leaf_with read_extended

-- the value that a node is at a settled form
abbrev pub reads : Form → Node → Reading Marked
reads = shaped.reads read_extended

-- ---- its parts: those of a tuple, the fields of a struct, a variant, the contents of a variant

abbrev pub reads_parts : Parts → ℕ → Nodes → Reading MarkedItems
reads_parts = shaped.reads_parts read_extended

abbrev pub slots_of : Fields → Slots
slots_of = shaped.slots_of read_extended

abbrev pub reads_variant : Variants → Utf8 → Node → Reading Marked
reads_variant = shaped.reads_variant read_extended

abbrev pub reads_content : Utf8 → Content → Node → Reading Marked
reads_content = shaped.reads_content read_extended

-- ---- whole documents

-- an answer whose refusals carry their path
abbrev pub answered : {A : Type 0} → Reading A → Result A (Failure ReadFault)
answered (Ok x) = Ok x
answered (Err r) = Err (with_path r)

-- The bytes of a whole document at an unrolled form, for a reader who is not human: a fault of the envelope has no path, every other refusal has one.
abbrev pub marked_at : Form → Bytes → Result Marked (Failure ReadFault)
marked_at s b = elim (envelope b) [ Ok d ↦ answered (reads (settled false s) (node_in max_levels EmbeddedDocument d)) | Err e ↦ Err (bare (unreadable (raw e))) ]

-- the same without marks
abbrev pub document_at : Form → Bytes → Result Value (Failure ReadFault)
document_at s b = result_map contents (marked_at s b)

-- the bytes of a whole document at a shape, with marks and without
abbrev pub reads_marked : Form → Bytes → Result Marked (Failure ReadFault)
reads_marked s b = marked_at (whole s) b

abbrev pub reads_document : Form → Bytes → Result Value (Failure ReadFault)
reads_document s b = document_at (whole s) b
