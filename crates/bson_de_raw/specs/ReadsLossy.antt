-- Reading the bytes of a whole document whose texts are mended. Source: `String::from_utf8_lossy`, over the node that the document is.
use Rattle.std.specs.Prelude.{Result}
use Rattle.bson_kinds.specs.Text.{Bytes}
use Rattle.bson_shape.specs.Form.{Form, lossy}
use Rattle.bson_values.specs.Marked.{Marked}
use Rattle.bson_values.specs.Refusal.{ReadFault, Failure}
use Rattle.bson_values.specs.Value.{Value}
use Rattle.bson_laws.specs.Reads.{reads_marked, reads_document}

-- The bytes of a whole document at a shape, where its texts are mended: what they are at the shape whose texts are mended.
abbrev pub reads_lossy_marked : Form → Bytes → Result Marked (Failure ReadFault)
reads_lossy_marked s = reads_marked (lossy s)

-- the same without marks
abbrev pub reads_lossy : Form → Bytes → Result Value (Failure ReadFault)
reads_lossy s = reads_document (lossy s)
