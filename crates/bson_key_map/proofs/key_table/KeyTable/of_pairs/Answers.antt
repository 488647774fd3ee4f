use Rattle.std.proofs.Common.{◌≡◌, ◌<◌, ◌≤◌, ◌∙◌, [], ◌∷◌, ◌++◌, get_or, ap, sym, subst, length, string_bytes}
use Rattle.std.specs.Prelude.{map}
use Rattle.std.specs.List.{list_any}
use Rattle.std.specs.Str.{bytes_eq}
use Rattle.std.proofs.lemmas.List.{take_more, take_all}
use Rattle.bson_key_map.specs.Keys.{key_texts}
use Rattle.bson_key_map.proofs.Texts.{length-texts, text_at, new_at}
use Rattle.bson_key_map.proofs.key_table.KeyTable.of_pairs.Goals as goal

pub loop-pair-init : goal.loop-pair-init
loop-pair-init g c = ap (λ s. map string_bytes s.keys) c.in_ok-new.ensures.ok ∙ ap (map string_bytes) c.in_ok-keys.ensures.empty

pub push-requires : goal.push-requires
push-requires g c =
    let ps = c.args.pairs.now in
    let i = c.loop-pair.pair-index in
    let text = string_bytes c.pair-item.result.key in
    let within : i < length (key_texts ps) = subst (λ n. i < n) (sym (length-texts ps)) c.loop-pair-test.true in
    let key : c.deref.result.now ≡ get_or (key_texts ps) i text = c.deref.ensures ∙ sym (text_at ps i c.pair-item.result c.loop-pair-test.true c.pair-item.is) in
    record { new = (λ j. list_any (bytes_eq (key j)) (c.loop-pair.invariant j)) ∙ new_at (key_texts ps) i text c.requires.distinct within }

pub loop-pair-preserved : goal.loop-pair-preserved
loop-pair-preserved g c =
    let ps = c.args.pairs.now in
    let i = c.loop-pair.pair-index in
    let text = string_bytes c.pair-item.result.key in
    let within : i < length (key_texts ps) = subst (λ n. i < n) (sym (length-texts ps)) c.loop-pair-test.true in
    let key : c.deref.result.now ≡ get_or (key_texts ps) i text = c.deref.ensures ∙ sym (text_at ps i c.pair-item.result c.loop-pair-test.true c.pair-item.is) in
    c.in_ok-push.ensures.texts ∙ (λ j. c.loop-pair.invariant j ++ key j ∷ []) ∙ sym (take_more (key_texts ps) i text within)

pub returns : goal.returns
returns g c = record { texts = c.loop-pair.invariant ∙ take_all c.loop-pair.pair-index (key_texts c.args.pairs.now) (subst (λ n. n ≤ c.loop-pair.pair-index) (sym (length-texts c.args.pairs.now)) c.loop-pair-test.false) }
