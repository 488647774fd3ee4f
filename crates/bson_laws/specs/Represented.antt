-- What the document that an extended value is opened to represents. Source: MongoDB's extended JSON, version 2.
use Rattle.std.specs.Prelude.{◌≡◌, ◌<◌, ◌^◌, length, FitsSigned}
use Rattle.std.specs.Int.{w64}
use Rattle.std.specs.Result.{result_ok}
use Rattle.bson_base.specs.Sound.{HasBytes}
use Rattle.bson_kinds.specs.Text.{AreBytes}
use Rattle.bson_rawdoc.specs.Node.{made_document, Extended, binary, object_id, date_time, db_pointer, timestamp, decimal128, opened, opens, mended}
use Rattle.bson_laws.specs.Trees.{read_tree}

-- The numbers and the bytes of an extended value are in the ranges of its kind. Its texts and its scope are judged where they are read.
abbrev pub HasRanges : Extended → Type 0
HasRanges (binary subtype b) = (subtype < 256) × AreBytes b.bytes
HasRanges (object_id id) = HasBytes 12 id.bytes
HasRanges (date_time n) = FitsSigned w64 n
HasRanges (db_pointer namespace id) = HasBytes 12 id
HasRanges (timestamp time increment) = (time < 2 ^ 32) × (increment < 2 ^ 32)
HasRanges (decimal128 b) = length b.bytes ≡ 16
HasRanges x = Unit {0}

-- An opened document is read as the tree that its value is read as, and is refused exactly where its value is.
abbrev pub RepresentsItself : Type 0
RepresentsItself = (x : Extended) → HasRanges x → result_ok (read_tree (made_document (opened x))) ≡ result_ok (read_tree (opens x))

-- So it is where texts are mended.
abbrev pub RepresentsItselfMended : Type 0
RepresentsItselfMended = (x : Extended) → HasRanges x → result_ok (read_tree (mended (made_document (opened x)))) ≡ result_ok (read_tree (mended (opens x)))
