use Rattle.std.proofs.Common.{ap, arith, length, ◌<◌, Ok, Err}
use Rattle.bson_salvaging.proofs.Finds.{told, announced_more, piece_unannounced, piece_short, piece_there}
use Rattle.bson_salvaging.proofs.Windows.{takes_then, takes_grown, over}
use Rattle.bson_salvaging.proofs.stepping.piece.Goals as goal

pub returns-in_default-clause-settles : goal.returns-in_default-clause-settles
returns-in_default-clause-settles g c =
    piece_unannounced c.fill.new.self c.in_default.field-0 c.in_ok-fill.ensures.enough (told c.fill.new.self.bytes c.bytes.result.now (Err c.in_default.field-0) c.bytes.ensures.bytes c.in_default.ensures)

pub returns-in_err-fill-2-clause-taken : goal.returns-in_err-fill-2-clause-taken
returns-in_err-fill-2-clause-taken g c = takes_then _ _ _ _ _ c.in_ok-fill.ensures.grows c.in_err-fill-2.ensures.taken

pub returns-then-bytes-length-clause-settles : goal.returns-then-bytes-length-clause-settles
returns-then-bytes-length-clause-settles g c =
    let first = told c.fill.new.self.bytes c.bytes.result.now (Ok c.in-Ok.length) c.bytes.ensures.bytes c.in-Ok.ensures in
    let few : length c.fill-2.new.self.bytes < c.in-Ok.length = omega (arith, c.if-bytes-length.true, ap length c.bytes-2.ensures.bytes) in
    piece_short c.fill-2.new.self c.in-Ok.length (over c.fill-2.new.self c.in-Ok.length c.in_ok-fill-2.ensures.enough few)
    (announced_more c.fill.new.self c.fill-2.new.self _ _ c.in-Ok.length c.in_ok-fill-2.ensures.grows first) few

pub returns-then-bytes-length-clause-taken : goal.returns-then-bytes-length-clause-taken
returns-then-bytes-length-clause-taken g c = takes_grown _ _ _ _ _ _ c.in_ok-fill.ensures.grows c.in_ok-fill-2.ensures.grows

pub returns-clause-settles : goal.returns-clause-settles
returns-clause-settles g c =
    let first = told c.fill.new.self.bytes c.bytes.result.now (Ok c.in-Ok.length) c.bytes.ensures.bytes c.in-Ok.ensures in
    piece_there c.fill-2.new.self c.in-Ok.length (announced_more c.fill.new.self c.fill-2.new.self _ _ c.in-Ok.length c.in_ok-fill-2.ensures.grows first)
    (omega (arith, c.if-bytes-length.false, ap length c.bytes-2.ensures.bytes))

pub returns-clause-taken : goal.returns-clause-taken
returns-clause-taken g c = takes_grown _ _ _ _ _ _ c.in_ok-fill.ensures.grows c.in_ok-fill-2.ensures.grows
