use Rattle.std.proofs.Common.{◌≡◌, ◌++◌, drop, length, string_bytes}
use Rattle.std.specs.Str.{chars}
use lib.Utf8.{encodes}
use Rattle.bson_shape.specs.Notation.{escaped}
use Rattle.bson_shape.proofs.printer.put_escaped.Given as goal

-- with what is left, the whole is written
abbrev pub invariant-loop-c : goal.invariant-loop-c
invariant-loop-c l = string_bytes l.out ++ escaped (encodes (drop (length l.yielded) (chars l.name))) ≡ string_bytes l.initial.out ++ escaped l.name
