use Rattle.std.proofs.Common.{◌≡◌, refl, ap, sym, subst, rules, ◌∙◌}
use Rattle.bson_base.specs.BsonView.{pairs_of, tree_of}
use Rattle.bson_kinds.specs.Outcome.{◌>>=◌}
use Rattle.bson_base.specs.Tree.{document, pair}
use Rattle.bson_values.specs.Marked.{Marked}
use Rattle.bson_datum.specs.MarkedView.{marked}
use Rattle.bson_values.specs.Wrapper.{of_key}
use Rattle.bson_laws.specs.Assembled.{assembled_tree}
use Rattle.bson_laws.specs.Judged.{Reading}
use Rattle.bson_laws.specs.TreeRaw.{as_reading, built_value}
use Rattle.bson_met.specs.Gives.{Reaches}
use Rattle.bson_met.proofs.Refusals.{stops_bind}
use Rattle.bson_raw_builder.proofs.FirstKeys.{body_there}
use Rattle.bson_raw_builder.proofs.RawTrees.{body_expected, code_expected, document_expected, empty_built, container_built}
use Rattle.bson_raw_builder.proofs.reading.looked_value.Goals as goal

pub returns-in_err-built : goal.returns-in_err-built
returns-in_err-built c =
    let t = document (pairs_of c.args.document.now) in
    let here = stops_bind c.in_err-built.field-0.0 (as_reading (assembled_tree t)) built_value (c.in_err-built.ensures.read t tt c.raw_of_document.ensures.assembled) in
    record { exact = search (rules, here) }

pub returns-in_default : goal.returns-in_default
returns-in_default c =
    let ps = pairs_of c.args.document.now in
    let b = c.in_ok-built.ensures.read (document ps) tt c.raw_of_document.ensures.assembled in
    let kind = empty_built ps b.0 (sym c.iter-pairs.ensures.pairs ∙ c.in_default.ensures.steps.0) b.1 in
    let whole = ap (λ r. r >>= built_value) b.1 ∙ container_built b.0 b.3.0 kind in
    record { exact = subst (λ (r : Reading Marked). Reaches marked c.container_value.result r) (sym whole) (c.container_value.ensures.exact b.0 b.3 kind b.2) }

pub became-requires : goal.became-requires
became-requires c = record { body = body_there c.in-Body.wrapper (of_key c.deref.result.now) (sym c.in-Body.ensures) }

pub returns-in-Body : goal.returns-in-Body
returns-in-Body c =
    let ps = pairs_of c.args.document.now in
    let key = c.deref.result.now in
    let v = tree_of c.in-Some.value.now in
    let rest = c.next.new.self in
    let is : ps ≡ pair key v rest = sym c.iter-pairs.ensures.pairs ∙ c.in-Some.ensures.steps ∙ ap (λ k. pair k v rest) (sym c.deref.ensures) in
    let b = c.in_ok-built.ensures.read (document ps) tt c.raw_of_document.ensures.assembled in
    let expected = body_expected ps rest key v (of_key key) b.0 is refl b.1 c.in-Body.wrapper (sym c.in-Body.ensures) in
    record { exact = subst (λ (r : Reading Marked). Reaches marked c.became.result r) (ap (λ r. r >>= built_value) (sym b.1)) (c.became.ensures.exact b.0 expected) }

pub became_code-requires : goal.became_code-requires
became_code-requires c =
    let ps = pairs_of c.args.document.now in
    let key = c.deref.result.now in
    let v = tree_of c.in-Some.value.now in
    let rest = c.next.new.self in
    let is : ps ≡ pair key v rest = sym c.iter-pairs.ensures.pairs ∙ c.in-Some.ensures.steps ∙ ap (λ k. pair k v rest) (sym c.deref.ensures) in
    let b = c.in_ok-built.ensures.read (document ps) tt c.raw_of_document.ensures.assembled in
    record { coded = (b.0, rest, code_expected ps rest key v (of_key key) b.0 is refl b.1 (sym c.in-Code.ensures), b.3, b.2) }

pub returns-in-Code : goal.returns-in-Code
returns-in-Code c =
    let ps = pairs_of c.args.document.now in
    let key = c.deref.result.now in
    let v = tree_of c.in-Some.value.now in
    let rest = c.next.new.self in
    let is : ps ≡ pair key v rest = sym c.iter-pairs.ensures.pairs ∙ c.in-Some.ensures.steps ∙ ap (λ k. pair k v rest) (sym c.deref.ensures) in
    let b = c.in_ok-built.ensures.read (document ps) tt c.raw_of_document.ensures.assembled in
    let expected = code_expected ps rest key v (of_key key) b.0 is refl b.1 (sym c.in-Code.ensures) in
    record { exact = subst (λ (r : Reading Marked). Reaches marked c.became_code.result r) (ap (λ r. r >>= built_value) (sym b.1)) (c.became_code.ensures.exact b.0 rest expected b.3 b.2) }

pub returns : goal.returns
returns c =
    let ps = pairs_of c.args.document.now in
    let key = c.deref.result.now in
    let v = tree_of c.in-Some.value.now in
    let rest = c.next.new.self in
    let is : ps ≡ pair key v rest = sym c.iter-pairs.ensures.pairs ∙ c.in-Some.ensures.steps ∙ ap (λ k. pair k v rest) (sym c.deref.ensures) in
    let b = c.in_ok-built.ensures.read (document ps) tt c.raw_of_document.ensures.assembled in
    let kind = document_expected ps rest key v (of_key key) b.0 is refl b.1 (sym c.in-Ordinary.ensures) in
    let whole = ap (λ r. r >>= built_value) b.1 ∙ container_built b.0 b.3.0 kind in
    record { exact = subst (λ (r : Reading Marked). Reaches marked c.container_value-in-Ordinary.result r) (sym whole) (c.container_value-in-Ordinary.ensures.exact b.0 b.3 kind b.2) }
