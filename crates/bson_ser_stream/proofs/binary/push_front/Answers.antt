use Rattle.std.proofs.Common.{ap, length, arith}
use Rattle.std.proofs.lemmas.Bool.{false≢true}
use Rattle.bson_ser_stream.proofs.Binaries.{length-front, length-front_old, wrote_front_old, wrote_front_other}
use Rattle.bson_ser_stream.proofs.binary.push_front.Goals as goal

pub returns-in_err-push_all-clause-free : goal.returns-in_err-push_all-clause-free
returns-in_err-push_all-clause-free g c = λ room.
    absurd (false≢true (c.in_err-push_all.ensures.free (omega (arith, ap length c.to_le_bytes.ensures, length-front c.args.subtype.0 c.args.count, room))))

pub returns-in_err-push-clause-free : goal.returns-in_err-push-clause-free
returns-in_err-push-clause-free g c = λ room.
    absurd (false≢true (c.in_err-push.ensures.free (omega (arith, ap length c.to_le_bytes.ensures, length-front c.args.subtype.0 c.args.count, c.in_ok-push_all.ensures.ok.spare, room))))

pub returns-in_err-push_all-2-clause-free : goal.returns-in_err-push_all-2-clause-free
returns-in_err-push_all-2-clause-free g c = λ room.
    absurd (false≢true (c.in_err-push_all-2.ensures.free (omega (
      arith,
      ap length c.to_le_bytes.ensures,
      ap length c.to_le_bytes-then-subtype-eq-OLD_GENERIC.ensures,
      length-front_old c.args.subtype.0 c.args.count c.if-subtype-eq-OLD_GENERIC.true,
      c.in_ok-push_all.ensures.ok.spare,
      c.in_ok-push.ensures.ok.spare,
      room,
    ))))

pub returns-in_ok-push_all-2-clause-ok : goal.returns-in_ok-push_all-2-clause-ok
returns-in_ok-push_all-2-clause-ok g c =
    wrote_front_old c.args.out.now c.push_all.new.self c.push.new.self c.args.subtype.0 c.args.count _ _ _ _ _ c.behind_length-behind.ensures c.requires c.to_le_bytes.ensures c.in_ok-push_all.ensures.ok c.in_ok-push.ensures.ok
    c.push_all-then-subtype-eq-OLD_GENERIC.new.self _ _ c.if-subtype-eq-OLD_GENERIC.true (grind (arith, c.requires)) c.to_le_bytes-then-subtype-eq-OLD_GENERIC.ensures c.in_ok-push_all-2.ensures.ok

pub returns-else-subtype-eq-OLD_GENERIC-clause-ok : goal.returns-else-subtype-eq-OLD_GENERIC-clause-ok
returns-else-subtype-eq-OLD_GENERIC-clause-ok g c =
    wrote_front_other c.args.out.now c.push_all.new.self c.push.new.self c.args.subtype.0 c.args.count _ _ _ _ _ c.behind_length-behind.ensures c.requires c.to_le_bytes.ensures c.in_ok-push_all.ensures.ok c.in_ok-push.ensures.ok
    c.if-subtype-eq-OLD_GENERIC.false
