use Rattle.std.proofs.Common.{rules, Option, Result, Ok, ap, sym, subst, ◌∙◌}
use Rattle.std.specs.Prelude.{option_map}
use Rattle.bson_kinds.specs.Outcome.{result_map}
use Rattle.bson_rawdoc.specs.Node.{Node, mended, node_in}
use Rattle.bson_rawdoc.specs.RawValue.{RawValue}
use Rattle.bson_faults.specs.declared.raw.Error.{Error}
use Rattle.bson_rawdoc.specs.UnjudgedView.{unjudged_value}
use Rattle.bson_rawdoc.specs.declared.unjudged.Unjudged.{Unjudged}
use Rattle.bson_values.specs.Cause.{raw}
use Rattle.bson_laws.specs.Judged.{Reading, judged}
use Rattle.bson_met.specs.Gives.{Reaches}
use Rattle.bson_met.specs.ValueView.{value_view}
use Rattle.bson_met.proofs.Mending.{judged_texts, judged_textless, judged_broken, refused_mended}
use Rattle.bson_met.proofs.Refusals.{StopsAs, refused_stops}
use Rattle.bson_met.proofs.mended.judge_unjudged.Goals as goal

-- what the element has, as the definition says it
abbrev texts : Option Unjudged → Result (Option RawValue) Error
texts o = Ok (option_map unjudged_value o)

pub returns-in-Ok-Some : goal.returns-in-Ok-Some
returns-in-Ok-Some c =
    let e = c.args.element.now in
    judged_texts c.args.levels e.kind e.value (unjudged_value c.in-Ok-Some.value) (ap texts (sym c.in-Ok-Some.field-0-is) ∙ c.in-Ok-Some.ensures.value) ∙ ap Ok (sym c.with_texts.ensures)

pub returns-in_ok-judge_element-in-Ok-None : goal.returns-in_ok-judge_element-in-Ok-None
returns-in_ok-judge_element-in-Ok-None c =
    let e = c.args.element.now in
    judged_textless c.args.levels e.kind e.value (ap texts (sym c.in-Ok-None.field-0-is) ∙ c.in-Ok-None.ensures.value) ∙ ap (result_map mended) c.in_ok-judge_element-in-Ok-None.ensures ∙ ap Ok (sym c.mended.ensures)

pub returns-in_err-judge_element-in-Ok-None : goal.returns-in_err-judge_element-in-Ok-None
returns-in_err-judge_element-in-Ok-None c =
    let e = c.args.element.now in
    let n = node_in c.args.levels e.kind e.value in
    let here : Reaches value_view c.from_residual.result (judged n) = search rules in
    refused_mended c.from_residual.result (judged n) (judged (mended n)) c.from_residual.ensures.0 (judged_textless c.args.levels e.kind e.value (ap texts (sym c.in-Ok-None.field-0-is) ∙ c.in-Ok-None.ensures.value)) here

pub returns-in-Err : goal.returns-in-Err
returns-in-Err c =
    let e = c.args.element.now in
    let bad = judged_broken c.args.levels e.kind e.value c.in-Err.fault c.in-Err.ensures.value in
    subst (λ (r : Reading Node). StopsAs c.refused.result r) (sym bad) (refused_stops Node (raw c.in-Err.fault) c.refused.result c.refused.ensures.here)
