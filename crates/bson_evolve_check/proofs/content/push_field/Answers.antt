use Rattle.std.proofs.Common.{◌≡◌, ◌++◌, ◌∷◌, [], Some, None, ap, ◌∙◌}
use Rattle.std.specs.Prelude.{option_and_then, string_bytes}
use Rattle.bson_shape.specs.ShapeView.{fields_of}
use Rattle.bson_laws.specs.Named.{form_of}
use Rattle.bson_evolve_laws.specs.Rows as rows
use Rattle.bson_evolve_check.specs.Steps.{behind, gone, steps_view, variant_path}
use Rattle.bson_evolve_check.proofs.Pushes.{pushed}
use Rattle.bson_evolve_check.proofs.RowLists.{field_known, field_lacking, key_step}
use Rattle.bson_evolve_check.proofs.content.push_field.Goals as goal

pub returns-in_ok-push-in-Some-clause-row : goal.returns-in_ok-push-in-Some-clause-row
returns-in_ok-push-in-Some-clause-row c = λ others.
    let path = variant_path c.args.variant in
    let f = c.args.field.now in
    let name = string_bytes f.name in
    let key = c.as_str-name.result.now in
    let ss = steps_view c.args.steps.now.items in
    let x = c.in-Some.shape.now in
    let is : steps_view c.push.new.self.items ≡ ss ++ key_step path key x f.shape ∷ [] = pushed c.args.steps.now.items c.push.new.self.items c.at_key.result _ c.in_ok-push-in-Some.ensures.items c.at_key.ensures in
    let found : Some x ≡ form_of (fields_of c.args.index.now.items.now) key = c.in-Some.ensures.found in
    ap (λ zs. behind zs others) is
    ∙ field_known path key ss x f.shape others
    ∙ ap (λ o. behind ss (option_and_then (rows.field_row path key o f.shape) others)) found
    ∙ ap (λ n. behind ss (option_and_then (rows.field_row path n (form_of (fields_of c.args.index.now.items.now) n) f.shape) others)) c.as_str-name.ensures.value

pub returns-in-None-clause-row : goal.returns-in-None-clause-row
returns-in-None-clause-row c = λ others.
    let path = variant_path c.args.variant in
    let f = c.args.field.now in
    let key = c.as_str-name.result.now in
    let ss = steps_view c.args.steps.now.items in
    let found : None ≡ form_of (fields_of c.args.index.now.items.now) key = c.in-None.ensures.found in
    ap (λ b. gone b ss others) c.is_option.ensures
    ∙ field_lacking path key ss f.shape others
    ∙ ap (λ o. behind ss (option_and_then (rows.field_row path key o f.shape) others)) found
    ∙ ap (λ n. behind ss (option_and_then (rows.field_row path n (form_of (fields_of c.args.index.now.items.now) n) f.shape) others)) c.as_str-name.ensures.value
