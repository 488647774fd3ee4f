use Rattle.std.proofs.Common.{◌≡◌, true, false, sym, ◌∙◌}
use Rattle.bson_laws.specs.Plain.{IsPlain}
use Rattle.bson_evolve_check.specs.Checks.{ArePlain}
use Rattle.bson_evolve_check.proofs.checking.check.Goals as goal

pub returns-then-not-is_plain : goal.returns-then-not-is_plain
returns-then-not-is_plain c = record { exact = λ p. let both : true ≡ false = sym (c.is_plain.ensures.1 p) ∙ c.if-not-is_plain.true in cc }

pub returns-then-not-is_plain-2 : goal.returns-then-not-is_plain-2
returns-then-not-is_plain-2 c =
    let first : IsPlain c.args.old.now = c.is_plain.ensures.0 c.if-not-is_plain.false in
    record { exact = (first, λ p. let both : true ≡ false = sym (c.is_plain-2.ensures.1 p) ∙ c.if-not-is_plain-2.true in cc) }

pub compare-requires : goal.compare-requires
compare-requires c = record { old_plain = c.is_plain.ensures.0 c.if-not-is_plain.false; new_plain = c.is_plain-2.ensures.0 c.if-not-is_plain-2.false }

pub returns-in-Ok : goal.returns-in-Ok
returns-in-Ok c =
    let plain : ArePlain c.args.old.now c.args.new.now = record { old_plain = c.is_plain.ensures.0 c.if-not-is_plain.false; new_plain = c.is_plain-2.ensures.0 c.if-not-is_plain-2.false } in
    record { exact = (plain, c.verdict_of.ensures c.args.old.now c.args.new.now c.in-Ok.ensures) }

pub returns-in-Err : goal.returns-in-Err
returns-in-Err c = record { exact = record { old_plain = c.is_plain.ensures.0 c.if-not-is_plain.false; new_plain = c.is_plain-2.ensures.0 c.if-not-is_plain-2.false } }
