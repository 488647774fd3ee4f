use Rattle.std.proofs.Common.{◌≡◌, ◌+◌, ◌++◌, ◌∷◌, [], refl, ap, length, arith}
use Rattle.std.specs.Str.{chars}
use Rattle.std.proofs.lemmas.Str.{encodes-chars}
use Rattle.std.proofs.lemmas.Iterator.{YieldsList-from_chars}
use Rattle.std.proofs.lemmas.Iterator.Consumers.{YieldsList-turn, YieldsList-end}
use Rattle.std.proofs.lemmas.List.{length_push}
use Rattle.std.proofs.lemmas.Result.{err_from_is_err_and}
use Rattle.bson_shape.specs.Machine.{State}
use Rattle.bson_shape.specs.ParserView.{mode_view, levels_view}
use Rattle.bson_shape.proofs.Loop.{goes_on, ends, is_done, place_more}
use Rattle.bson_shape.proofs.parser.read_characters.Goals as goal

pub loop-c-init : goal.loop-c-init
loop-c-init c =
    let whole = encodes-chars c.args.text.now c.utf8.text in
    record { so_far = rw (c.requires, whole) refl; place = omega (arith, ap length whole) }

pub returns-in_err-mode : goal.returns-in_err-mode
returns-in_err-mode c =
    let cs = chars c.args.text.now in
    let t = YieldsList-turn (YieldsList-from_chars c.args.text.now c.utf8.text cc) c.loop-c.yielded _ c.loop-c.yielded_by _ _ c.in-Some.c c.in-Some.is c.next.ensures.steps in
    let p = err_from_is_err_and c.from_residual.result c.from_residual.ensures.1 in
    rw (p.1, p.2) (ends c.in_err-mode.field-0.0 cs (length c.loop-c.yielded) c.in-Some.c c.loop-c.at (mode_view c.loop-c.mode, levels_view c.loop-c.levels.items) _ t.0 t.1 c.in_err-mode.ensures c.loop-c.invariant.so_far)

pub loop-c-preserved : goal.loop-c-preserved
loop-c-preserved c =
    let cs = chars c.args.text.now in
    let k = length c.loop-c.yielded in
    let t = YieldsList-turn (YieldsList-from_chars c.args.text.now c.utf8.text cc) c.loop-c.yielded _ c.loop-c.yielded_by _ _ c.in-Some.c c.in-Some.is c.next.ensures.steps in
    let n : length (c.loop-c.yielded ++ c.in-Some.c ∷ []) ≡ k + 1 = length_push c.loop-c.yielded c.in-Some.c in
    let state : State = (mode_view c.in_ok-mode.mode, levels_view c.read_character.new.levels.items) in
    record {
      so_far = rw (n, c.len_utf8-at.ensures.value) (goes_on cs k c.in-Some.c c.loop-c.at (mode_view c.loop-c.mode, levels_view c.loop-c.levels.items) state _ t.0 t.1 c.in_ok-mode.ensures c.loop-c.invariant.so_far);
      place = rw (n, c.len_utf8-at.ensures.value) (place_more cs k c.in-Some.c c.loop-c.at (length c.args.text.now) t.0 t.1 c.loop-c.invariant.place);
    }

pub returns : goal.returns
returns c =
    let t = YieldsList-end (YieldsList-from_chars c.args.text.now c.utf8.text cc) c.loop-c.yielded _ c.loop-c.yielded_by _ _ c.in-None.is c.next.ensures.steps in
    is_done (chars c.args.text.now) (length c.loop-c.yielded) c.loop-c.at (mode_view c.loop-c.mode, levels_view c.loop-c.levels.items) _ (omega (arith, t.1)) c.loop-c.invariant.so_far
