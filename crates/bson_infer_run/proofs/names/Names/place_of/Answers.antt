use Rattle.std.proofs.Common.{◌≡◌, MatchOption, map, false, length, ap, subst, ◌∙◌, arith, string_bytes}
use Rattle.std.specs.List.{list_any}
use Rattle.std.specs.Str.{bytes_eq}
use Rattle.std.proofs.lemmas.List.{length-map}
use Rattle.bson_kinds.specs.Places.{place_among}
use Rattle.bson_infer_run.specs.SummaryView.{IsAt}
use Rattle.bson_infer_run.proofs.NamePlaces.{texts_of, found}
use Rattle.bson_infer_run.proofs.names.Names.place_of.Goals as goal

pub returns-then-len-le-FEW : goal.returns-then-len-le-FEW
returns-then-len-le-FEW c =
    let name = c.args.name.now in
    let names = texts_of c.self.inside.texts.items in
    subst (λ ns. MatchOption c.scan.result (list_any (bytes_eq name) ns ≡ false) (IsAt ns name)) c.self.view_is
    (found names name c.scan.result c.self.invariant.distinct (c.scan.ensures ∙ ap (λ ks. place_among (texts_of ks) name) c.deref.ensures.value))

pub returns : goal.returns
returns c =
    let name = c.args.name.now in
    let names = texts_of c.self.inside.texts.items in
    subst (λ ns. MatchOption c.look_up.result (list_any (bytes_eq name) ns ≡ false) (IsAt ns name)) c.self.view_is
    (found names name c.look_up.result c.self.invariant.distinct
    (c.look_up.ensures ∙ c.self.invariant.finds (omega (arith, c.if-len-le-FEW.false, c.len.ensures, length-map c.self.inside.texts.items string_bytes)) name))
