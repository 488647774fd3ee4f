use Rattle.std.proofs.Common.{◌≡◌, ◌<◌, [], ◌∷◌, ap, subst, ◌∙◌, arith, codes, IfOk}
use Rattle.bson_base.specs.Made.{digits, base64_text}
use Rattle.bson_kinds.specs.Piece.{made}
use Rattle.bson_datum.specs.MarkedView.{marked}
use Rattle.bson_values.specs.Value as values
use Rattle.bson_laws.specs.Datum.{two, wrapped, nameless}
use Rattle.bson_wrapped.proofs.Made.{binary_made}
use Rattle.bson_wrapped.proofs.data.binary.Goals as goal

pub returns : goal.returns
returns c =
    let n = c.args.subtype.0 in
    let b = c.args.content.now in
    let above : 0 < n = omega (arith, c.if-subtype-eq0.false) in
    let base64 = c.in_ok-base64.ensures ∙ ap (λ x. values.str (made (base64_text x))) c.elsewhere.ensures in
    let body : marked c.in_ok-body.body ≡ nameless made (two made (codes "base64") (values.str (made (base64_text b))) (codes "subType") (values.str (made (digits (n ∷ []))))) =
    c.in_ok-body.ensures ∙ (λ i. nameless made (two made (codes "base64") (base64 i) (codes "subType") (values.str (made (digits (n ∷ [])))))) in
    record { datum = subst (λ v. IfOk c.wrap.result (λ d. marked d ≡ v)) (ap (wrapped made (codes "$binary")) body ∙ binary_made n b above) c.wrap.ensures.datum }
