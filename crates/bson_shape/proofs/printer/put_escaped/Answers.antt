use Rattle.std.proofs.Common.{◌≡◌, ◌+◌, ◌++◌, ◌∷◌, [], ap, sym, ◌∙◌, length, string_bytes, append-nil, arith, drop_of_length-le}
use Rattle.std.specs.Str.{chars}
use lib.Utf8.{encodes}
use Rattle.std.proofs.lemmas.Str.{encodes-chars}
use Rattle.std.proofs.lemmas.Iterator.{YieldsList-from_chars}
use Rattle.std.proofs.lemmas.Iterator.Consumers.{YieldsList-turn, YieldsList-end}
use Rattle.std.proofs.lemmas.List.{length_push}
use Rattle.bson_shape.specs.Notation.{escaped}
use Rattle.bson_shape.proofs.Printed.{escaped_more}
use Rattle.bson_shape.proofs.printer.put_escaped.Goals as goal

pub loop-c-init : goal.loop-c-init
loop-c-init c = ap (λ xs. string_bytes c.args.out.now ++ escaped xs) (encodes-chars c.args.name.now c.utf8.name)

pub loop-c-preserved : goal.loop-c-preserved
loop-c-preserved c =
    let cs = chars c.args.name.now in
    let k = length c.loop-c.yielded in
    let t = YieldsList-turn (YieldsList-from_chars c.args.name.now c.utf8.name cc) c.loop-c.yielded _ c.loop-c.yielded_by _ _ c.in-Some.c c.in-Some.is c.next.ensures.steps in
    let n : length (c.loop-c.yielded ++ c.in-Some.c ∷ []) ≡ k + 1 = length_push c.loop-c.yielded c.in-Some.c in
    rw n (escaped_more cs k c.in-Some.c _ _ _ t.0 t.1 c.in_ok-put_escaped_character.ensures c.loop-c.invariant)

pub returns : goal.returns
returns c =
    let cs = chars c.args.name.now in
    let t = YieldsList-end (YieldsList-from_chars c.args.name.now c.utf8.name cc) c.loop-c.yielded _ c.loop-c.yielded_by _ _ c.in-None.is c.next.ensures.steps in
    sym (append-nil (string_bytes c.loop-c.out)) ∙ sym (ap (λ ds. string_bytes c.loop-c.out ++ escaped (encodes ds)) (drop_of_length-le cs (omega (arith, t.1)))) ∙ c.loop-c.invariant
