use Rattle.std.proofs.Common.{Err, ap, sym, ◌∙◌}
use Rattle.std.proofs.lemmas.Result.{err_from_is_err_and}
use Rattle.bson_ser_stream.proofs.Growth.{Grows-trans, Grows-appended}
use Rattle.bson_ser_parts.specs.Pairs.{NameHalts}
use Rattle.bson_ser_parts.proofs.Answered.{if_err}
use Rattle.bson_ser_parts.proofs.Paired.{in_variant_left, not_begun, not_begun_inside, zero_named, memory_named}
use Rattle.bson_ser_parts.proofs.pair.OnePair.begin.Goals as goal

-- the document is not begun

pub returns-in_err-document-clause-refused : goal.returns-in_err-document-clause-refused
returns-in_err-document-clause-refused g c =
    let p = err_from_is_err_and c.from_residual.result c.from_residual.ensures.1 in
    if_err (NameHalts c.args.key.now) _ _ (p.1 ∙ ap Err p.2) (not_begun c.args.key.now c.args.out.now.spare c.in_err-document.field-0.0 c.in_err-document.ensures.levels)

-- the key has a zero character

pub returns-then-has_zero-clause-refused : goal.returns-then-has_zero-clause-refused
returns-then-has_zero-clause-refused g c = zero_named c.args.key.now c.zero_in.result (sym c.has_zero.ensures ∙ c.if-has_zero.true) c.zero_in.ensures

pub returns-then-has_zero-clause-grows : goal.returns-then-has_zero-clause-grows
returns-then-has_zero-clause-grows g c = Grows-appended c.args.out.now c.begin.new.out _ c.args.steps.now c.begin.new.steps c.in_ok-document.ensures.ok

-- memory ran out at the key

pub returns-in_err-begin_element-clause-refused : goal.returns-in_err-begin_element-clause-refused
returns-in_err-begin_element-clause-refused g c =
    let p = err_from_is_err_and c.from_residual-in_err-begin_element.result c.from_residual-in_err-begin_element.ensures.1 in
    if_err (NameHalts c.args.key.now) _ _ p.1 (memory_named c.args.key.now p.0 p.2)

pub returns-in_err-begin_element-clause-grows : goal.returns-in_err-begin_element-clause-grows
returns-in_err-begin_element-clause-grows g c =
    Grows-trans c.args.out.now c.begin.new.out c.begin_element.new.out c.args.steps.now c.begin.new.steps c.begin_element.new.steps
    (Grows-appended c.args.out.now c.begin.new.out _ c.args.steps.now c.begin.new.steps c.in_ok-document.ensures.ok) c.begin_element.ensures.grows

-- what is under the key is not begun

pub returns-in_err-contents-clause-refused : goal.returns-in_err-contents-clause-refused
returns-in_err-contents-clause-refused g c =
    let p = err_from_is_err_and c.from_residual-in_err-contents.result c.from_residual-in_err-contents.ensures.1 in
    if_err (NameHalts c.args.key.now) _ _ (p.1 ∙ ap Err p.2)
    (not_begun_inside c.args.key.now c.begin_element.new.out.spare c.in_ok-document.document.levels c.in_err-contents.field-0.0 c.in_ok-document.ensures.levels c.in_err-contents.ensures.levels)

pub returns-in_err-contents-clause-grows : goal.returns-in_err-contents-clause-grows
returns-in_err-contents-clause-grows g c =
    Grows-trans c.args.out.now c.begin_element.new.out c.begin-2.new.out c.args.steps.now c.begin_element.new.steps c.begin-2.new.steps
    (Grows-trans c.args.out.now c.begin.new.out c.begin_element.new.out c.args.steps.now c.begin.new.steps c.begin_element.new.steps
    (Grows-appended c.args.out.now c.begin.new.out _ c.args.steps.now c.begin.new.steps c.in_ok-document.ensures.ok) c.begin_element.ensures.grows)
    c.in_err-contents.ensures.grows

-- both are begun

pub returns-clause-levels : goal.returns-clause-levels
returns-clause-levels g c = in_variant_left c.in_ok-document.document.levels c.in_ok-contents.contents.levels c.in_ok-document.ensures.levels c.in_ok-contents.ensures.levels

pub returns-clause-grows : goal.returns-clause-grows
returns-clause-grows g c =
    Grows-trans c.args.out.now c.begin_element.new.out c.begin-2.new.out c.args.steps.now c.begin_element.new.steps c.begin-2.new.steps
    (Grows-trans c.args.out.now c.begin.new.out c.begin_element.new.out c.args.steps.now c.begin.new.steps c.begin_element.new.steps
    (Grows-appended c.args.out.now c.begin.new.out _ c.args.steps.now c.begin.new.steps c.in_ok-document.ensures.ok) c.begin_element.ensures.grows)
    c.in_ok-contents.ensures.grows
