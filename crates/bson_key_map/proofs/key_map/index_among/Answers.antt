use Rattle.std.proofs.Common.{◌≡◌, ◌<◌, ◌∙◌, true, false, ap, sym, subst, length, get_or, string_bytes}
use Rattle.std.specs.Str.{bytes_eq}
use Rattle.bson_key_map.specs.Keys.{key_texts}
use Rattle.bson_key_map.proofs.Places.{found, passes}
use Rattle.bson_key_map.proofs.Texts.{length-texts, text_at}
use Rattle.bson_key_map.proofs.key_map.index_among.Goals as goal

pub returns-then-eq-clause-index : goal.returns-then-eq-clause-index
returns-then-eq-clause-index g c =
    let ps = c.args.pairs.now in
    let i = c.loop-index.index in
    let text = string_bytes c.index-pairs-index.result.key in
    let within : i < length (key_texts ps) = subst (λ n. i < n) (sym (length-texts ps)) c.loop-index-test.true in
    let at : get_or (key_texts ps) i text ≡ text = text_at ps i c.index-pairs-index.result c.loop-index-test.true c.index-pairs-index.is in
    let same : bytes_eq c.args.key.now text ≡ true = ap (bytes_eq c.args.key.now) (sym c.as_str.ensures.value) ∙ sym c.eq.ensures ∙ c.if-eq.true in
    found c.args.key.now (key_texts ps) i text within (ap (bytes_eq c.args.key.now) at ∙ same) c.loop-index.invariant

pub loop-index-preserved : goal.loop-index-preserved
loop-index-preserved g c =
    let ps = c.args.pairs.now in
    let i = c.loop-index.index in
    let text = string_bytes c.index-pairs-index.result.key in
    let within : i < length (key_texts ps) = subst (λ n. i < n) (sym (length-texts ps)) c.loop-index-test.true in
    let at : get_or (key_texts ps) i text ≡ text = text_at ps i c.index-pairs-index.result c.loop-index-test.true c.index-pairs-index.is in
    let other : bytes_eq c.args.key.now text ≡ false = ap (bytes_eq c.args.key.now) (sym c.as_str.ensures.value) ∙ sym c.eq.ensures ∙ c.if-eq.false in
    passes c.args.key.now (key_texts ps) i text within (ap (bytes_eq c.args.key.now) at ∙ other) c.loop-index.invariant
