use Rattle.std.proofs.Common.{arith}
use Rattle.bson_ser_stream.proofs.Binaries.{length-front, length-front_old}
use Rattle.bson_ser_stream.proofs.Filled.{length-over, fills_other, fills_old}
use Rattle.bson_ser_stream.proofs.binary.fill_front.Goals as goal

pub patch_i32-requires : goal.patch_i32-requires
patch_i32-requires g c = omega (arith, c.requires.inside, length-front c.args.subtype.0 0)

pub overflow_add-start : goal.overflow_add-start
overflow_add-start g c = record { fits = omega (arith, c.requires.fits, length-front c.args.subtype.0 0) }

pub patch_i32-requires-then-subtype-eq-OLD_GENERIC : goal.patch_i32-requires-then-subtype-eq-OLD_GENERIC
patch_i32-requires-then-subtype-eq-OLD_GENERIC g c =
    omega (arith, c.requires.inside, length-front_old c.args.subtype.0 0 c.if-subtype-eq-OLD_GENERIC.true, length-over _ _ _ _ _ _ c.patch_i32.ensures (omega (arith, c.requires.inside, length-front c.args.subtype.0 0)))

pub returns-then-subtype-eq-OLD_GENERIC : goal.returns-then-subtype-eq-OLD_GENERIC
returns-then-subtype-eq-OLD_GENERIC g c =
    fills_old c.args.out.now c.patch_i32.new.self c.args.start c.args.subtype.0 c.args.count _ _ _ c.behind_length-behind.ensures c.requires.small c.patch_i32.ensures
    c.patch_i32-then-subtype-eq-OLD_GENERIC.new.self _ c.if-subtype-eq-OLD_GENERIC.true (grind (arith, c.requires.small)) c.patch_i32-then-subtype-eq-OLD_GENERIC.ensures

pub returns-else-subtype-eq-OLD_GENERIC : goal.returns-else-subtype-eq-OLD_GENERIC
returns-else-subtype-eq-OLD_GENERIC g c =
    fills_other c.args.out.now c.patch_i32.new.self c.args.start c.args.subtype.0 c.args.count _ _ _ c.behind_length-behind.ensures c.requires.small c.patch_i32.ensures c.if-subtype-eq-OLD_GENERIC.false
