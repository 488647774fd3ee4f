use Rattle.std.proofs.Common.{refl, sym, ◌∙◌, Some, None}
use Rattle.bson_base.specs.BsonView.{pairs_of}
use Rattle.bson_infer_run.specs.Files.{piece_pairs}
use Rattle.bson_infer_run.specs.declared.file.Gathered.{Gathered}
use Rattle.bson_infer_run.proofs.Gatherings.{test_false, test_true, unsound_gathered, sound_gathered}
use Rattle.bson_infer_run.proofs.file.with_piece.Goals as goal

pub returns-then-not-is_sound : goal.returns-then-not-is_sound
returns-then-not-is_sound c =
    let g = c.args.so_far in
    let ps = pairs_of c.in-Ok.document in
    let h : Gathered = record { number = c.in-Some.next; unsound = Some g.number; summary = g.summary } in
    unsound_gathered g h (piece_pairs c.args.bytes.now) ps c.in-Ok.ensures (sym c.is_some.ensures ∙ c.if-is_some.false) (test_false ps c.is_sound.result c.is_sound.ensures.1 c.if-not-is_sound.true) c.in-Some.ensures.1 refl

pub returns : goal.returns
returns c =
    let g = c.args.so_far in
    let ps = pairs_of c.in-Ok.document in
    let h : Gathered = record { number = c.in-Some.next; unsound = None; summary = c.in-Ok-add_document.summary } in
    sound_gathered g h (piece_pairs c.args.bytes.now) ps c.in-Ok.ensures (sym c.is_some.ensures ∙ c.if-is_some.false) (test_true ps c.is_sound.result c.is_sound.ensures.0 c.if-not-is_sound.false) c.in-Some.ensures.1 refl c.in-Ok-add_document.ensures
