use Rattle.std.proofs.Common.{◌≡◌, [], ◌∷◌, false, map, nat_eq, codes, string_bytes, ap, sym, subst, ◌∙◌, rules}
use Rattle.std.specs.Prelude.{IfOk}
use Rattle.std.specs.List.{starts_with}
use Rattle.std.proofs.lemmas.Str.Pattern.{starts_text}
use Rattle.bson_program.specs.Command.{Asked}
use Rattle.bson_program.specs.OneShape.{one_shape}
use Rattle.bson_recast_run.specs.PrintedLines.{recast_usage}
use Rattle.bson_program.proofs.OneWord.{one_word}
use Rattle.bson_recast_run.proofs.running.asked_shape.Goals as goal

pub returns-in-len1 : goal.returns-in-len1
returns-in-len1 c =
    let judged = c.as_str.result.now in
    let word = c.as_str-in-len1.result.now in
    let same : word ≡ judged = c.as_str-in-len1.ensures.value ∙ sym c.as_str.ensures.value in
    let not_there : c.starts_with.result ≡ false = search rules in
    let plain : recast_usage.is_option word ≡ false =
    ap (λ w. starts_with nat_eq w (codes "--")) same ∙ sym (starts_text c.starts_with.result (codes "--") judged c.starts_with.ensures.cases) ∙ not_there in
    let is : map string_bytes c.args.words.now ≡ word ∷ [] =
    one_word c.args.words.now c.word-item.result _ c.in-len1.len_at_least c.in-len1.len_below c.word-item.is ∙ ap (λ w. w ∷ []) (sym c.as_str-in-len1.ensures.value) in
    subst (λ ws. IfOk c.shape_of_word.result (Asked (one_shape recast_usage) ws)) (sym is) (c.shape_of_word.ensures.asks recast_usage plain)
