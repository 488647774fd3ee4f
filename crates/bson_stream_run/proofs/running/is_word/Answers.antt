use Rattle.std.proofs.Common.{◌≡◌, [], ◌∷◌, map, string_bytes, ap, sym, ◌∙◌}
use Rattle.std.proofs.lemmas.Slice.Eq.{bytes_eq-Decides}
use Rattle.bson_program.proofs.OneWord.{one_word}
use Rattle.bson_stream_run.proofs.running.is_word.Goals as goal

pub returns-in-len1 : goal.returns-in-len1
returns-in-len1 c =
    let first = c.as_str.result.now in
    let word = c.args.word.now in
    let is : map string_bytes c.args.words.now ≡ first ∷ [] =
    one_word c.args.words.now c.only-item.result _ c.in-len1.len_at_least c.in-len1.len_below c.only-item.is ∙ ap (λ w. w ∷ []) (sym c.as_str.ensures.value) in (
      λ same. is ∙ ap (λ w. w ∷ []) ((bytes_eq-Decides first word).0 (sym c.eq.ensures ∙ same)),
      λ e. c.eq.ensures ∙ (bytes_eq-Decides first word).1 (let both : first ∷ [] ≡ word ∷ [] = sym is ∙ e in cc),
    )
