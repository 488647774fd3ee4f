use Rattle.std.proofs.Common.{◌≡◌, true, sym, subst}
use Rattle.std.specs.Prelude.{IsTrue, ◌↔◌, []}
use Rattle.bson_datum.specs.View.{fields_view}
use Rattle.bson_laws.specs.Unwrap.{listed}
use Rattle.bson_ser_parts.specs.Fronts.{Begins, FirstOf, is_lone}
use Rattle.bson_ser_parts.proofs.Begun.{begins_is}
use Rattle.bson_ser_parts.proofs.fronts.begins.Goals as goal

pub returns-in-Some : goal.returns-in-Some
returns-in-Some c =
    let fs = fields_view c.args.fields.now in
    subst (λ o. IsTrue c.is_lone.result ↔ FirstOf o c.args.kind fs) c.in-Some.ensures
    (subst (λ b. IsTrue b ↔ (is_lone c.in-Some.name.now fs ≡ true)) (sym c.is_lone.ensures) (λ e. e, λ e. e))

pub returns-in-None : goal.returns-in-None
returns-in-None c =
    let fs = fields_view c.args.fields.now in
    subst (λ o. IsTrue c.agrees_some.result ↔ FirstOf o c.args.kind fs) c.in-None.ensures
    (subst (λ b. IsTrue b ↔ Begins c.args.kind (listed fs [])) (sym c.agrees_some.ensures) (begins_is c.args.kind (listed fs [])))
