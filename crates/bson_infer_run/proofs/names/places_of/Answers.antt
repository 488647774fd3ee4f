use Rattle.std.proofs.Common.{◌≡◌, Some, cond, ap, sym, subst, ◌∙◌, string_bytes, take, length}
use Rattle.std.specs.Str.{bytes_eq}
use Rattle.std.specs.BTreeMap.{get_by_text}
use Rattle.bson_kinds.specs.Text.{Utf8}
use Rattle.bson_infer_run.specs.NamesView.{FindsAll}
use Rattle.bson_infer_run.proofs.NamePlaces.{texts_of, texts_more, texts_long, finds_more}
use Rattle.bson_infer_run.proofs.names.places_of.Goals as goal

pub loop-place-preserved : goal.loop-place-preserved
loop-place-preserved c =
    let ks = c.args.texts.now in
    let i = c.loop-place.place in
    let k = c.index-texts-place.result in
    let same : string_bytes c.in_ok-from_str.field-0 ≡ string_bytes k = c.in_ok-from_str.ensures.ok ∙ c.as_str.ensures.value in
    let puts : (name : Utf8) → get_by_text c.put.new.places name ≡ cond (bytes_eq (string_bytes k) name) (Some i) (get_by_text c.loop-place.places name) =
    λ name. c.in_ok-put.ensures name ∙ ap (λ t. cond (bytes_eq t name) (Some i) (get_by_text c.loop-place.places name)) same in
    subst (FindsAll c.put.new.places) (sym (texts_more ks i k c.loop-place-test.true c.index-texts-place.is))
    (finds_more c.loop-place.places c.put.new.places (texts_of (take i ks)) (string_bytes k) i c.loop-place.invariant (texts_long ks i c.loop-place-test.true) puts)
