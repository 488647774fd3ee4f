use Rattle.std.proofs.Common.{◌≡◌, true, false, sym, ◌∙◌}
use Rattle.bson_laws.specs.Plain.{IsPlain}
use Rattle.bson_evolve_check.specs.Checks.{ArePlain}
use Rattle.bson_evolve_differences.specs.Views.{differences_view}
use Rattle.bson_evolve_differences.proofs.Walks.{begins_with_fault}
use Rattle.bson_evolve_differences.proofs.comparing.differences.Goals as goal

pub returns-then-not-is_plain-clause-exact : goal.returns-then-not-is_plain-clause-exact
returns-then-not-is_plain-clause-exact c = λ p. let both : true ≡ false = sym (c.is_plain.ensures.1 p) ∙ c.if-not-is_plain.true in cc

pub returns-then-not-is_plain-2-clause-exact : goal.returns-then-not-is_plain-2-clause-exact
returns-then-not-is_plain-2-clause-exact c =
    let first : IsPlain c.args.old.now = c.is_plain.ensures.0 c.if-not-is_plain.false in
    (first, λ p. let both : true ≡ false = sym (c.is_plain-2.ensures.1 p) ∙ c.if-not-is_plain-2.true in cc)

pub compare-requires : goal.compare-requires
compare-requires c = record { old_plain = c.is_plain.ensures.0 c.if-not-is_plain.false; new_plain = c.is_plain-2.ensures.0 c.if-not-is_plain-2.false }

pub returns-in-Ok-clause-exact : goal.returns-in-Ok-clause-exact
returns-in-Ok-clause-exact c =
    let plain : ArePlain c.args.old.now c.args.new.now = record { old_plain = c.is_plain.ensures.0 c.if-not-is_plain.false; new_plain = c.is_plain-2.ensures.0 c.if-not-is_plain-2.false } in
    (plain, c.in-Ok.ensures)

pub returns-in-Ok-clause-first : goal.returns-in-Ok-clause-first
returns-in-Ok-clause-first c = begins_with_fault c.args.old.now c.args.new.now (differences_view c.in-Ok.found.items) c.in-Ok.ensures

pub returns-in-Err-clause-exact : goal.returns-in-Err-clause-exact
returns-in-Err-clause-exact c = record { old_plain = c.is_plain.ensures.0 c.if-not-is_plain.false; new_plain = c.is_plain-2.ensures.0 c.if-not-is_plain-2.false }
