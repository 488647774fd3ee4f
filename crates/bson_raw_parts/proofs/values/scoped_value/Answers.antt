use Rattle.std.proofs.Common.{◌+◌, ◌≤◌, length, drop, Ok, ap, sym, subst, rules, ◌∙◌}
use Rattle.bson_base.specs.Sound.{max_bytes}
use Rattle.bson_base.specs.Tree.{document, enc}
use Rattle.bson_kinds.proofs.Outcomes.{ok_is}
use Rattle.bson_kinds.specs.Piece.{made}
use Rattle.bson_values.specs.ErrorView.{read_fault}
use Rattle.bson_values.specs.Stop.{stop_view}
use Rattle.bson_laws.specs.ReadsRaw.{scoped_code}
use Rattle.bson_laws.proofs.Framed.{IsFramed}
use Rattle.bson_raw_parts.proofs.BuiltValues.{scope_begins, scope_bytes, scope_framed, never_refused}
use Rattle.bson_raw_parts.proofs.values.scoped_value.Goals as goal

pub behind_code-requires : goal.behind_code-requires
behind_code-requires c =
    let s = c.requires.scoped in
    let is = c.as_slice.ensures.value ∙ c.in_ok-whole.ensures ∙ s.1 in
    record { long = subst (λ b. length c.args.code.now + 9 ≤ length b) (sym is) (scope_begins c.args.code.now s.0) }

pub returns-in_err-document : goal.returns-in_err-document
returns-in_err-document c = record {
  exact = λ scope is short.
      let bytes = c.in_ok-behind_code.ensures ∙ ap (drop (length c.args.code.now + 9)) (c.as_slice.ensures.value ∙ c.in_ok-whole.ensures ∙ is) ∙ scope_bytes c.args.code.now scope in
      let framed = scope_framed c.args.code.now scope (subst (λ b. length b ≤ max_bytes) is short) in
      let here = never_refused (stop_view read_fault c.in_err-document.field-0.0) _ (scoped_code (made c.args.code.now) (made (enc (document scope)))) (c.in_err-document.ensures (subst IsFramed (sym bytes) framed)) in
      search (rules, here);
}

pub returns : goal.returns
returns c = record {
  exact = λ scope is short.
      let bytes = c.in_ok-behind_code.ensures ∙ ap (drop (length c.args.code.now + 9)) (c.as_slice.ensures.value ∙ c.in_ok-whole.ensures ∙ is) ∙ scope_bytes c.args.code.now scope in
      let framed = scope_framed c.args.code.now scope (subst (λ b. length b ≤ max_bytes) is short) in
      let whole = sym bytes ∙ ok_is c.in_ok-behind_code.field-0.items c.in_ok-document.document (c.in_ok-document.ensures (subst IsFramed (sym bytes) framed)) in
      ap (λ b. Ok (scoped_code (made c.args.code.now) (made b))) whole ∙ ap Ok (sym c.in_ok-scoped.ensures);
}
