use Rattle.std.proofs.Common.{Some, ap, sym, ◌∙◌}
use Rattle.bson_shape.specs.ShapeView as view
use Rattle.bson_shape.specs.ShapeView.{variants_of}
use Rattle.bson_laws.specs.Variants.{content_of}
use Rattle.bson_evolve_laws.specs.Rows as rows
use Rattle.bson_evolve_check.specs.Steps.{behind, steps_view}
use Rattle.bson_evolve_check.proofs.RowLists.{also_behind, no_content}
use Rattle.bson_evolve_check.proofs.content.push_variant.Goals as goal

pub returns-in_ok-passes-in-Some-clause-row : goal.returns-in_ok-passes-in-Some-clause-row
returns-in_ok-passes-in-Some-clause-row c = λ others.
    let v = c.args.variant.now in
    let ss = steps_view c.args.steps.now.items in
    let old = view.content_of v.content in
    let key = c.as_str-name.result.now in
    let ws = variants_of c.args.index.now.items.now in
    also_behind c.in_ok-passes-in-Some.passes ss (steps_view c.push_content.new.steps.items) (rows.content_row key old (Some (view.content_of c.in-Some.content.now))) others c.in_ok-passes-in-Some.ensures
    ∙ ap (λ o. behind ss (rows.and_also (rows.content_row key old o) others)) c.in-Some.ensures.found
    ∙ ap (λ n. behind ss (rows.and_also (rows.content_row n old (content_of ws n)) others)) c.as_str-name.ensures.value

pub returns-in-None-clause-row : goal.returns-in-None-clause-row
returns-in-None-clause-row c = λ others.
    let v = c.args.variant.now in
    let ss = steps_view c.args.steps.now.items in
    let old = view.content_of v.content in
    let key = c.as_str-name.result.now in
    let ws = variants_of c.args.index.now.items.now in
    ap (λ r. behind ss (rows.and_also r others)) (sym (no_content key old))
    ∙ ap (λ o. behind ss (rows.and_also (rows.content_row key old o) others)) c.in-None.ensures.found
    ∙ ap (λ n. behind ss (rows.and_also (rows.content_row n old (content_of ws n)) others)) c.as_str-name.ensures.value
