use Rattle.std.proofs.Common.{◌+◌, ◌<◌, ◌≤◌, ap, arith, length, drop, Ok, Err}
use Rattle.bson_salvaging.proofs.Elements.{no_not, not_so}
use Rattle.bson_salvaging.proofs.Finds.{told, announced_grown, seen_unannounced, seen_large, seen_short, rest_length, look_same, seen_bad, seen_good}
use Rattle.bson_salvaging.proofs.Windows.{grows_then, longer, takes_then, takes_grown, over, reach}
use Rattle.bson_salvaging.proofs.finding.see.Goals as goal

pub returns-in_default-clause-settles : goal.returns-in_default-clause-settles
returns-in_default-clause-settles g c =
    let here : c.args.at ≤ length c.fill.new.self.bytes = omega (arith, c.requires, longer _ _ _ _ c.in_ok-fill.ensures.grows) in
    seen_unannounced c.fill.new.self c.args.at c.args.looks here c.in_default.field-0
    (reach c.fill.new.self c.saturating_add.result (c.args.at + 4) (λ all. omega (arith, all, c.saturating_add.ensures, c.behind.ensures.bounded, ap length c.behind.ensures.bytes, rest_length c.fill.new.self c.args.at here)) c.in_ok-fill.ensures.enough)
    (told (drop c.args.at c.fill.new.self.bytes) c.behind.result.now (Err c.in_default.field-0) c.behind.ensures.bytes c.in_default.ensures)

pub returns-then-length-gt-MOST_BYTES-clause-settles : goal.returns-then-length-gt-MOST_BYTES-clause-settles
returns-then-length-gt-MOST_BYTES-clause-settles g c =
    seen_large c.fill.new.self c.args.at c.args.looks (omega (arith, c.requires, longer _ _ _ _ c.in_ok-fill.ensures.grows)) c.in-Ok.length
    (told (drop c.args.at c.fill.new.self.bytes) c.behind.result.now (Ok c.in-Ok.length) c.behind.ensures.bytes c.in-Ok.ensures) c.if-length-gt-MOST_BYTES.true

pub returns-in_err-fill-2-clause-taken : goal.returns-in_err-fill-2-clause-taken
returns-in_err-fill-2-clause-taken g c = takes_then _ _ _ _ _ c.in_ok-fill.ensures.grows c.in_err-fill-2.ensures.taken

pub returns-then-rest-length-clause-settles : goal.returns-then-rest-length-clause-settles
returns-then-rest-length-clause-settles g c =
    let at = c.args.at in
    let n = c.in-Ok.length in
    let last = c.fill-2.new.self in
    let here : at ≤ length c.fill.new.self.bytes = omega (arith, c.requires, longer _ _ _ _ c.in_ok-fill.ensures.grows) in
    let there : at ≤ length last.bytes = omega (arith, here, longer _ _ _ _ c.in_ok-fill-2.ensures.grows) in
    let announced = announced_grown c.fill.new.self last _ _ at n c.in_ok-fill-2.ensures.grows here
    (told (drop at c.fill.new.self.bytes) c.behind.result.now (Ok n) c.behind.ensures.bytes c.in-Ok.ensures) in
    let few : length (drop at last.bytes) < n = omega (arith, c.if-rest-length.true, ap length c.behind-rest.ensures.bytes) in
    let ended = over last (at + n) (reach last c.saturating_add-2.result (at + n) (λ all. omega (arith, all, c.saturating_add-2.ensures, c.behind-rest.ensures.bounded, ap length c.behind-rest.ensures.bytes, rest_length last at there)) c.in_ok-fill-2.ensures.enough)
    (omega (arith, few, rest_length last at there)) in
    seen_short last at c.args.looks there n ended announced few

pub returns-then-rest-length-clause-taken : goal.returns-then-rest-length-clause-taken
returns-then-rest-length-clause-taken g c = takes_grown _ _ _ _ _ _ c.in_ok-fill.ensures.grows c.in_ok-fill-2.ensures.grows

pub returns-then-not-look-clause-grows : goal.returns-then-not-look-clause-grows
returns-then-not-look-clause-grows g c = grows_then _ _ _ _ _ _ c.in_ok-fill.ensures.grows c.in_ok-fill-2.ensures.grows

pub returns-then-not-look-clause-settles : goal.returns-then-not-look-clause-settles
returns-then-not-look-clause-settles g c =
    let at = c.args.at in
    let n = c.in-Ok.length in
    let last = c.fill-2.new.self in
    let here : at ≤ length c.fill.new.self.bytes = omega (arith, c.requires, longer _ _ _ _ c.in_ok-fill.ensures.grows) in
    let there : at ≤ length last.bytes = omega (arith, here, longer _ _ _ _ c.in_ok-fill-2.ensures.grows) in
    let announced = announced_grown c.fill.new.self last _ _ at n c.in_ok-fill-2.ensures.grows here
    (told (drop at c.fill.new.self.bytes) c.behind.result.now (Ok n) c.behind.ensures.bytes c.in-Ok.ensures) in
    let same = c.behind-rest.ensures.bytes in
    seen_bad last at c.args.looks there n c.look_deep-look.result announced (omega (arith, c.if-rest-length.false, ap length same)) (omega (arith, c.if-length-gt-MOST_BYTES.false))
    (look_same c.args.looks n c.behind-rest.result.now (drop at last.bytes) c.look_deep-look.result same c.look_deep-look.ensures) (not_so c.look_deep-look.result.fine c.if-not-look.true)

pub returns-then-not-look-clause-taken : goal.returns-then-not-look-clause-taken
returns-then-not-look-clause-taken g c = takes_grown _ _ _ _ _ _ c.in_ok-fill.ensures.grows c.in_ok-fill-2.ensures.grows

pub returns-clause-grows : goal.returns-clause-grows
returns-clause-grows g c = grows_then _ _ _ _ _ _ c.in_ok-fill.ensures.grows c.in_ok-fill-2.ensures.grows

pub returns-clause-settles : goal.returns-clause-settles
returns-clause-settles g c =
    let at = c.args.at in
    let n = c.in-Ok.length in
    let last = c.fill-2.new.self in
    let here : at ≤ length c.fill.new.self.bytes = omega (arith, c.requires, longer _ _ _ _ c.in_ok-fill.ensures.grows) in
    let there : at ≤ length last.bytes = omega (arith, here, longer _ _ _ _ c.in_ok-fill-2.ensures.grows) in
    let announced = announced_grown c.fill.new.self last _ _ at n c.in_ok-fill-2.ensures.grows here
    (told (drop at c.fill.new.self.bytes) c.behind.result.now (Ok n) c.behind.ensures.bytes c.in-Ok.ensures) in
    let same = c.behind-rest.ensures.bytes in
    seen_good last at c.args.looks there n c.look_deep-look.result announced (omega (arith, c.if-rest-length.false, ap length same)) (omega (arith, c.if-length-gt-MOST_BYTES.false))
    (look_same c.args.looks n c.behind-rest.result.now (drop at last.bytes) c.look_deep-look.result same c.look_deep-look.ensures) (no_not c.look_deep-look.result.fine c.if-not-look.false)

pub returns-clause-taken : goal.returns-clause-taken
returns-clause-taken g c = takes_grown _ _ _ _ _ _ c.in_ok-fill.ensures.grows c.in_ok-fill-2.ensures.grows
