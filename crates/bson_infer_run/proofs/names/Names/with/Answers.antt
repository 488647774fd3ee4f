use Rattle.std.proofs.Common.{◌≡◌, ◌+◌, ◌<◌, ◌++◌, ◌∷◌, [], false, map, length, ap, sym, subst, ◌∙◌, arith, string_bytes}
use Rattle.std.specs.List.{list_any}
use Rattle.std.specs.Str.{bytes_eq}
use Rattle.std.proofs.lemmas.List.{length-map, length-append, map-append}
use Rattle.bson_kinds.specs.Text.{Utf8}
use Rattle.bson_infer_run.specs.NamesView.{FindsAll}
use Rattle.bson_infer_run.proofs.NamePlaces.{texts_of, indexed_more}
use Rattle.bson_infer_run.proofs.names.Names.with.Goals as goal

pub invariant_of-result : goal.invariant_of-result
invariant_of-result c =
    let ks = c.self.inside.texts.items in
    let name = c.args.name.now in
    let new = c.in_ok-from_str.field-0 in
    let is : texts_of c.push.new.self.items ≡ texts_of ks ++ name ∷ [] =
    ap texts_of c.in_ok-push.ensures.items ∙ map-append string_bytes ks (new ∷ []) ∙ ap (λ (t : Utf8). texts_of ks ++ t ∷ []) c.in_ok-from_str.ensures.ok in
    let unknown : list_any (bytes_eq name) (texts_of ks) ≡ false = ap (list_any (bytes_eq name)) c.self.view_is ∙ c.requires in
    indexed_more (texts_of ks) name c.self.inside.places c.in_ok-places.places c.self.invariant unknown
    (λ many. subst (λ xs. FindsAll c.in_ok-places.places (texts_of xs ++ name ∷ [])) c.deref.ensures.value (c.in_ok-places.ensures (omega (arith, many, ap length c.deref.ensures.value, length-map ks string_bytes))))
    (texts_of c.push.new.self.items) is (ap length is ∙ length-append (texts_of ks) (name ∷ []))
