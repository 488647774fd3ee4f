use Rattle.std.proofs.Common.{◌≡◌, ◌<◌, length, get_or, ap, sym, subst, ◌∙◌, string_bytes, map, arith}
use Rattle.std.proofs.lemmas.List.{length-map}
use Rattle.std.specs.Str.{bytes_eq}
use Rattle.bson_kinds.specs.Text.{Utf8}
use Rattle.bson_infer_run.specs.SummaryView.{IsAt}
use Rattle.bson_infer_run.proofs.NamePlaces.{texts_of, text_at}
use Rattle.bson_infer_run.proofs.Places.{at_distinct}
use Rattle.bson_laws.proofs.Fitted.{bytes_same}
use Rattle.bson_infer_run.proofs.names.Names.is_at.Goals as goal

pub returns-then-place-len : goal.returns-then-place-len
returns-then-place-len c = λ t.
    let ks = c.self.inside.texts.items in
    let k = c.index.result.now in
    let name = c.args.name.now in
    let less : c.args.place < length ks = omega (arith, c.if-place-len.true, c.len.ensures) in
    let at : string_bytes k ≡ get_or (texts_of ks) c.args.place (string_bytes k) = text_at ks c.args.place k (string_bytes k) less c.index.ensures in
    let same : string_bytes k ≡ name = sym c.as_str.ensures.value ∙ bytes_same c.as_str.result.now name (sym c.eq.ensures ∙ t) in
    subst (λ ns. IsAt ns name c.args.place) c.self.view_is (at_distinct name (texts_of ks) c.args.place (string_bytes k) c.self.invariant.distinct (omega (arith, less, length-map ks string_bytes)) at same)
