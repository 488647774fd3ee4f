use Rattle.std.proofs.Common.{true, false, subst}
use Rattle.bson_ser_parts.specs.Pairs.{PairEnds}
use Rattle.bson_ser_parts.proofs.VariantCalls.{items_ended, fields_ended, items_unended, fields_unended, not_open, not_both}
use Rattle.bson_ser_parts.proofs.variant.VariantWriter.end.Goals as goal

pub returns-then-failed-clause-items : goal.returns-then-failed-clause-items
returns-then-failed-clause-items g c = λ begun readable name vs has. absurd (not_open begun readable name true c.args.self c.if-failed.true has.still)

pub returns-then-failed-clause-fields : goal.returns-then-failed-clause-fields
returns-then-failed-clause-fields g c = λ begun readable name fs has. absurd (not_open begun readable name false c.args.self c.if-failed.true has.still)

pub returns-then-failed-clause-failed : goal.returns-then-failed-clause-failed
returns-then-failed-clause-failed g c = λ begun h. (h.1, c.failed_before.ensures)

pub returns-in-Ok-clause-items : goal.returns-in-Ok-clause-items
returns-in-Ok-clause-items g c = items_ended c.args.self c.end.new.out (subst (λ k. PairEnds c.args.self.pair k c.args.self.out.now c.end.new.out) c.contents_kind.ensures c.in-Ok.ensures.ok)

pub returns-in-Ok-clause-fields : goal.returns-in-Ok-clause-fields
returns-in-Ok-clause-fields g c = fields_ended c.args.self c.end.new.out (subst (λ k. PairEnds c.args.self.pair k c.args.self.out.now c.end.new.out) c.contents_kind.ensures c.in-Ok.ensures.ok)

pub returns-in-Ok-clause-failed : goal.returns-in-Ok-clause-failed
returns-in-Ok-clause-failed g c = λ begun h. absurd (not_both c.args.self.failed h.0 c.if-failed.false)

pub returns-clause-items : goal.returns-clause-items
returns-clause-items g c =
    items_unended c.args.self c.take_back.new.out.bytes c.take_back.result c.in-Err.halt c.end.new.out c.in-Err.ensures.kept c.take_back.ensures.cut c.in-Err.ensures.err c.take_back.ensures.placed

pub returns-clause-fields : goal.returns-clause-fields
returns-clause-fields g c =
    fields_unended c.args.self c.take_back.new.out.bytes c.take_back.result c.in-Err.halt c.end.new.out c.in-Err.ensures.kept c.take_back.ensures.cut c.in-Err.ensures.err c.take_back.ensures.placed

pub returns-clause-failed : goal.returns-clause-failed
returns-clause-failed g c = λ begun h. absurd (not_both c.args.self.failed h.0 c.if-failed.false)
