-- What recasting a document's bytes by way of trees comes to. No refusal has a path. Source: this library's own readers and writers.
use Rattle.std.specs.Prelude.{false, Option, Some, None, Result, Ok, Err}
use Rattle.bson_base.specs.Encoded.{EncodeFault, key_zero, binary_too_long, too_long, encoded}
use Rattle.bson_kinds.specs.Outcome.{◌>>=◌}
use Rattle.bson_kinds.specs.Text.{Bytes}
use Rattle.bson_base.specs.Tree.{document, Pairs}
use Rattle.bson_rawdoc.specs.DocumentTree.{document_pairs}
use Rattle.bson_rawdoc.specs.Envelope.{envelope}
use Rattle.bson_faults.specs.declared.raw.Error.{Error}
use Rattle.bson_faults.specs.declared.raw.Error.TheVariants.{NoMemory}
use Rattle.bson_shape.specs.Form.{Form}
use Rattle.bson_values.specs.Cause as causes
use Rattle.bson_values.specs.Refusal.{unreadable, WriteFault, unwritable, invalid_cstring, bare}
use Rattle.bson_values.specs.Value.{Value}
use Rattle.bson_laws.specs.ReadsFrom.{answered_bare, reads_tree_value}
use Rattle.bson_ser_tree.specs.Answers.{without_paths, document_whole}
use Rattle.bson_tree_recast.specs.Recast.{Recast, Ending, in_reading, in_writing, ended}

-- ---- refusals

-- the fault of bytes that an error tells; none where memory ran out
abbrev pub raw_told : Error → Option Error
raw_told NoMemory = None
raw_told e = Some e

-- bytes that have no tree
abbrev pub unread_for : Error → Ending
unread_for e = in_reading (bare (unreadable (causes.raw e)))

-- what writing refuses for where a document has no bytes
abbrev pub encode_refusal : EncodeFault → WriteFault
encode_refusal (key_zero t) = invalid_cstring t
encode_refusal (binary_too_long n) = unwritable (causes.binary_too_long n)
encode_refusal too_long = unwritable causes.too_long

-- a document that has no bytes
abbrev pub unencoded_for : EncodeFault → Ending
unencoded_for f = in_writing (bare (encode_refusal f))

-- something, or a refusal that ends the recast so
abbrev pub or_ends : {A E : Type 0} → (E → Ending) → Result A E → Result A Ending
or_ends ends (Ok x) = Ok x
or_ends ends (Err e) = Err (ends e)

-- ---- the steps

-- the document of the bytes
abbrev pub document_step : Bytes → Result Pairs Ending
document_step bytes = or_ends unread_for (envelope bytes >>= document_pairs)

-- the value that a document is at the shape
abbrev pub value_step : Form → Pairs → Result Value Ending
value_step s ps = or_ends in_reading (answered_bare (reads_tree_value false s (document ps)))

-- the document that a value is made into
abbrev pub made_step : Value → Result Pairs Ending
made_step v = or_ends in_writing (without_paths (document_whole false v))

-- the bytes of a document
abbrev pub bytes_step : Pairs → Result Bytes Ending
bytes_step ps = or_ends unencoded_for (encoded ps)

-- the recast of a document's bytes at a shape, by way of trees
abbrev pub tree_recast_of : Form → Bytes → Recast
tree_recast_of s bytes = ended (document_step bytes >>= λ ps. value_step s ps >>= λ v. made_step v >>= bytes_step)
