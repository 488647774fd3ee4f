-- What is answered to a document that is recast. Source: this library's own programs.
use Rattle.std.specs.Prelude.{◌≡◌, Ok, Err}
use Rattle.bson_kinds.specs.Text.{Bytes, Utf8}
use Rattle.bson_shape.specs.Form.{Form}
use Rattle.bson_values.specs.Refusal.{WriteFault, Failure}
use Rattle.bson_streaming.specs.Answers.{Answer}
use Rattle.bson_tree_recast.specs.Printed.{read_refused, write_refused}
use Rattle.bson_tree_recast.specs.Recast.{Recast, writes, unread, unwritten, recast_of, Unwritten}

-- The text says why nothing is written. Where the value is refused and is also too long, it may be the text for either.
abbrev pub IsText : Recast → Utf8 → Type 0
IsText (writes bytes) text = ⊥
IsText (unread f) text = text ≡ read_refused f
IsText (unwritten expected too_long) text = (f : Failure WriteFault) × Unwritten (unwritten expected too_long) f × (text ≡ write_refused f)

abbrev pub IsRecastAs : Recast → Answer → Type 0
IsRecastAs r (Ok bytes) = r ≡ writes bytes
IsRecastAs r (Err text) = IsText r text

-- the answer is the recast at a shape, which stays the same
abbrev pub recasts : Form → Bytes → Answer → Form → Type 0
recasts s document answer t = IsRecastAs (recast_of s document) answer × (t ≡ s)
