use Rattle.std.proofs.Common.{◌≡◌, [], ◌∷◌, map, string_bytes, refl, ap, sym, subst, ◌∙◌}
use Rattle.std.specs.Prelude.{IfOk}
use Rattle.bson_program.specs.Command.{Asked}
use Rattle.bson_program.specs.OneShape.{one_shape}
use Rattle.bson_program.proofs.OneWord.{one_word}
use Rattle.bson_stream_run.specs.Words.{stream_usage}
use Rattle.bson_stream_run.proofs.running.asked.Goals as goal

pub returns-in-len1 : goal.returns-in-len1
returns-in-len1 c =
    let word = c.as_str.result.now in
    let is : map string_bytes c.args.words.now ≡ word ∷ [] =
    one_word c.args.words.now c.word-item.result _ c.in-len1.len_at_least c.in-len1.len_below c.word-item.is ∙ ap (λ w. w ∷ []) (sym c.as_str.ensures.value) in
    subst (λ ws. IfOk c.shape_of_word.result (Asked (one_shape stream_usage) ws)) (sym is) (c.shape_of_word.ensures.asks stream_usage refl)
