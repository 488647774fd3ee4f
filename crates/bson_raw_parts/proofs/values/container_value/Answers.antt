use Rattle.std.proofs.Common.{Ok, ap, sym, subst, rules, ◌∙◌}
use Rattle.bson_base.specs.Tree.{kind, enc}
use Rattle.bson_kinds.proofs.Outcomes.{ok_is}
use Rattle.bson_kinds.specs.Piece.{made}
use Rattle.bson_values.specs.ErrorView.{read_fault}
use Rattle.bson_values.specs.Stop.{stop_view}
use Rattle.bson_laws.specs.Assembled.{RawBytes}
use Rattle.bson_laws.proofs.Framed.{IsFramed}
use Rattle.bson_raw_parts.specs.BuiltView.{raw_made}
use Rattle.bson_raw_parts.proofs.BuiltValues.{container_framed, never_refused}
use Rattle.bson_raw_parts.proofs.values.container_value.Goals as goal

pub returns-in_err-document : goal.returns-in_err-document
returns-in_err-document c = record {
  exact = λ t whole container is.
      let bytes = c.in_ok-owned_bytes.ensures ∙ ap (λ (b : RawBytes). b.bytes) is in
      let here = never_refused (stop_view read_fault c.in_err-document.field-0.0) _ (raw_made (kind t) (made (enc t))) (c.in_err-document.ensures (subst IsFramed (sym bytes) (container_framed t whole container))) in
      search (rules, here);
}

pub returns : goal.returns
returns c = record {
  exact = λ t whole container is.
      let bytes = c.in_ok-owned_bytes.ensures ∙ ap (λ (b : RawBytes). b.bytes) is in
      let framed = container_framed t whole container in
      let document = sym bytes ∙ ok_is c.in_ok-owned_bytes.field-0.items c.in_ok-document.document (c.in_ok-document.ensures (subst IsFramed (sym bytes) framed)) in
      (λ i. Ok (raw_made (ap (λ (b : RawBytes). b.kind) (sym is) i) (made (document i)))) ∙ ap Ok (sym c.in_kind.ensures);
}
