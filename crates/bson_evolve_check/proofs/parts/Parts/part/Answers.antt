use Rattle.std.proofs.Common.{◌≡◌, Some, refl, sym, ◌∙◌}
use Rattle.std.specs.BTreeMap.{get}
use Rattle.std.proofs.lemmas.Bool.{OnTrue_at}
use Rattle.bson_evolve_check.specs.Numbering.{origin_cmp, parts_in, IsPart, Origin}
use Rattle.bson_evolve_check.specs.Placing.{tables_in}
use Rattle.bson_evolve_check.specs.declared.parts.Part.{Part}
use Rattle.bson_evolve_check.proofs.Numbers.{all_both, all_same, found_again, with_found, with_tables}
use Rattle.bson_evolve_check.proofs.Placings.{at_more}
use Rattle.bson_evolve_check.proofs.parts.Parts.part.Goals as goal

pub returns-then-is_same : goal.returns-then-is_same
returns-then-is_same c =
    let self = c.args.self.now in
    let good = c.requires.good in
    let s = c.in-Some.part in
    let origin : Origin = (c.args.around, c.args.before, c.kind.result) in
    let here : get origin_cmp self.found origin ≡ Some s = sym c.get.ensures.value ∙ sym c.in-Some.ensures in
    record {
      more = all_same self good;
      part = good.found origin s here;
      place = found_again self good origin s c.args.place here c.requires.table (OnTrue_at c.if-is_same.true c.is_same.ensures.number) (OnTrue_at c.if-is_same.true c.is_same.ensures.form);
    }

pub peel-requires : goal.peel-requires
peel-requires c = record { different = c.requires.good.different; number = c.requires.table }

pub number-requires : goal.number-requires
number-requires c =
    let more = with_tables c.args.self.now c.requires.good c.peel.new.tables c.in_ok-seen.ensures.more in
    record { good = more.good; table = c.in_ok-seen.ensures.number }

pub returns : goal.returns
returns c =
    let self = c.args.self.now in
    let place = c.args.place in
    let seen = c.in_ok-seen.seen in
    let tables = c.peel.new.tables in
    let now = c.number.new.self in
    let origin : Origin = (c.args.around, c.args.before, c.kind.result) in
    let s : Part = record { place = place; seen = seen; number = c.in_ok-number.number } in
    let wider = with_tables self c.requires.good tables c.in_ok-seen.ensures.more in
    let more = c.in_ok-number.ensures.more in
    let both = all_both self (record self { tables = tables }) now wider more in
    let part : IsPart (tables_in now.tables) (parts_in now) s = record {
      outside = at_more (tables_in self.tables) (tables_in now.tables) place.table.number _ both.tables c.requires.table;
      table = at_more (tables_in tables) (tables_in now.tables) seen.table.number _ more.tables c.in_ok-seen.ensures.number;
      seen = c.in_ok-seen.ensures.peeled;
      number = c.in_ok-number.ensures.number;
    } in
    record {
      more = all_both self now _ both (with_found now more.good origin s part c.insert.new.self c.in_ok-insert.ensures.updates.0);
      part = part;
      place = refl;
    }
