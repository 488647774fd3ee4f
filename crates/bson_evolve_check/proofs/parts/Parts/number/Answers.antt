use Rattle.std.proofs.Common.{◌≡◌, Some, None, cond, length, ap, sym, ◌∙◌, arith}
use Rattle.std.specs.BTreeMap.{get}
use Rattle.std.specs.Ordering.{is_eq}
use Rattle.bson_evolve_check.specs.Numbering.{part_cmp}
use Rattle.bson_evolve_check.specs.Placing.{tables_in}
use Rattle.bson_evolve_check.proofs.Numbers.{all_same, number_is, number_last, with_number}
use Rattle.bson_evolve_check.proofs.parts.Parts.number.Goals as goal

pub returns-in-Some : goal.returns-in-Some
returns-in-Some c =
    let self = c.args.self.now in
    let good = c.requires.good in
    let here : get part_cmp self.numbers c.in_ok-key.key ≡ Some c.in-Some.number = sym c.get.ensures.value ∙ sym c.in-Some.ensures in
    record {
      more = all_same self good;
      number = number_is (tables_in self.tables) self.known.items self.numbers good.numbered c.law_text.ensures c.args.seen c.in_ok-key.key c.in-Some.number c.requires.table c.in_ok-key.ensures here;
    }

pub returns : goal.returns
returns c =
    let self = c.args.self.now in
    let key = c.in_ok-key.key in
    let count : c.len-number.result ≡ length self.known.items = omega (arith, c.len-number.ensures) in
    let none : get part_cmp self.numbers key ≡ None = sym c.get.ensures.value ∙ sym c.in_default.ensures in
    record {
      more = with_number self c.requires.good c.args.seen key c.requires.table c.in_ok-key.ensures none c.push.new.self c.insert.new.self c.in_ok-push.ensures.items
          (λ l. c.in_ok-insert.ensures.updates.0 l ∙ ap (λ n. cond (is_eq (part_cmp key l)) (Some n) (get part_cmp self.numbers l)) count);
      number = number_last self.known.items c.push.new.self.items c.args.seen c.len-number.result c.in_ok-push.ensures.items count;
    }
