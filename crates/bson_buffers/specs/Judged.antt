-- What the bytes of a shape are refused with. For the contracts of functions inside this crate and their proofs; no public contract cites it. Source: this library's own calls with buffers.
use Rattle.std.specs.Prelude.{Result, Ok, Err, string_bytes}
use Rattle.bson_kinds.specs.Text.{Bytes}
use Rattle.bson_shape.specs.Form.{Form}
use Rattle.bson_buffers.specs.declared.asking.ShapeRefusal.{ShapeRefusal}
use Rattle.bson_buffers.specs.Asked.{NoShape, DenotesShape, DenotesNone}

abbrev pub told_by : ShapeRefusal → NoShape
told_by r = record { place = r.place; said = string_bytes r.text }

abbrev pub IsJudged : Bytes → Result Form ShapeRefusal → Type 0
IsJudged bytes (Ok s) = DenotesShape bytes s
IsJudged bytes (Err r) = DenotesNone bytes (told_by r)
