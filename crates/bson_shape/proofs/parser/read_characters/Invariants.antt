use Rattle.std.proofs.Common.{◌≡◌, ◌+◌, [], drop, length}
use Rattle.std.specs.Str.{chars}
use lib.Utf8.{encodes}
use Rattle.bson_shape.specs.Machine.{run, Form_due}
use Rattle.bson_shape.specs.ParserView.{mode_view, levels_view}
use Rattle.bson_shape.proofs.parser.read_characters.Given as goal

-- what is left gives, from here, what all gives
abbrev pub invariant-loop-c : goal.invariant-loop-c
invariant-loop-c l = record {
  so_far : run l.at (mode_view l.mode, levels_view l.levels.items) (encodes (drop (length l.yielded) (chars l.text))) ≡ run 0 (Form_due, []) l.text;
  place : l.at + length (encodes (drop (length l.yielded) (chars l.text))) ≡ length l.text;
}
