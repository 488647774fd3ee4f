use Rattle.std.proofs.Common.{◌≡◌, Some, cond, ap, ◌∙◌, string_bytes, length, arith}
use Rattle.std.specs.Str.{bytes_eq}
use Rattle.std.specs.BTreeMap.{get_by_text}
use Rattle.std.proofs.lemmas.List.{length-map}
use Rattle.bson_kinds.specs.Text.{Utf8}
use Rattle.bson_infer_run.proofs.NamePlaces.{texts_of, finds_more}
use Rattle.bson_infer_run.proofs.names.with_place.Goals as goal

pub returns : goal.returns
returns c = λ many.
    let ks = c.args.texts.now in
    let name = c.args.name.now in
    let old = c.in_ok-places.places in
    let puts : (text : Utf8) → get_by_text c.put.new.places text ≡ cond (bytes_eq name text) (Some (length ks)) (get_by_text old text) =
    λ text. c.in_ok-put.ensures text ∙ ap (λ t. cond (bytes_eq t text) (Some (length ks)) (get_by_text old text)) c.in_ok-from_str.ensures.ok in
    finds_more old c.put.new.places (texts_of ks) name (length ks) c.in_ok-places.ensures (omega (arith, length-map ks string_bytes)) puts
