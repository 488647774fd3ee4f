use Rattle.std.proofs.Common.{◌≡◌, ◌+◌, length, ap, ◌∙◌, subst, arith, Some}
use Rattle.bson_kinds.specs.Outcome.{◌>>=◌}
use Rattle.bson_kinds.specs.Text.{IsPlainName}
use Rattle.bson_rawdoc.specs.DocumentTree.{pairs_at, tree_at}
use Rattle.bson_rawdoc.specs.DocumentView.{document_bytes}
use Rattle.bson_rawdoc.specs.ValueView.{raw_value}
use Rattle.bson_infer_run.specs.Covered.{fields_from, Takes}
use Rattle.bson_infer_run.specs.SummaryView.{IsAt}
use Rattle.bson_infer_run.proofs.Covering.{takes_next, first_part, next_part, whole_part}
use Rattle.bson_infer_run.proofs.Places.{at_less}
use Rattle.bson_infer_run.proofs.covered.+covered.Goals as goal

pub size_of_document-loop-element-init : goal.size_of_document-loop-element-init
size_of_document-loop-element-init t c = (
  tt,
  tt,
  first_part c.args.fields.now c.args.levels c.in_ok-inner.inner c.into_iter-element-iterator.result (document_bytes c.args.document) c.in_ok-inner.ensures
      (c.into_iter-element-iterator.ensures.into_iter_gives ∙ c.iter_elements-element-items.ensures.walk),
)

pub size_of_document-loop-element-preserved : goal.size_of_document-loop-element-preserved
size_of_document-loop-element-preserved t c =
    let s = c.args.fields.now in
    let step = rw c.in-Ok.is at c.in-Some.ensures.steps in (
      tt,
      tt,
      next_part s c.in_ok-inner.inner c.loop-element.place c.in_ok-size.size c.loop-element.total c.in-Ok.element c.loop-element.element-iterator c.next.new.self (pairs_at c.args.levels (document_bytes c.args.document)) step c.requires
          (omega (arith, c.if-size-total.false, c.loop-element.invariant.2.small)) c.in_ok-size.ensures.takes c.loop-element.invariant.2,
    )

pub size_of_document-returns : goal.size_of_document-returns
size_of_document-returns t c =
    whole_part c.args.fields.now c.args.levels c.in_ok-inner.inner c.loop-element.place c.loop-element.total c.loop-element.element-iterator (pairs_at c.args.levels (document_bytes c.args.document)) c.requires c.in_ok-inner.ensures
    c.in-None.ensures.steps.0 (omega (arith, c.len.ensures, c.if-place-len.false)) (omega (arith, c.if-total.false)) c.loop-element.invariant.2

pub size_of_element-index-requires : goal.size_of_element-index-requires
size_of_element-index-requires t c =
    let s = c.args.fields.now in
    omega (arith, at_less c.key-2.result.now s.names c.args.place (c.is_at.ensures c.if-not-is_at.false), c.requires)

pub size_of_element-returns-clause-within : goal.size_of_element-returns-clause-within
size_of_element-returns-clause-within t c =
    let s = c.args.fields.now in
    omega (arith, at_less c.key-2.result.now s.names c.args.place (c.is_at.ensures c.if-not-is_at.false), c.requires)

pub size_of_element-returns-clause-takes : goal.size_of_element-returns-clause-takes
size_of_element-returns-clause-takes t c =
    let s = c.args.fields.now in
    let key = c.args.element.now.key in
    let levels = c.args.levels in
    let e = c.in_ok-key.ensures in
    let n = c.in_ok-key.key in
    let v = c.in_ok-value.value in
    let at = subst (λ k. IsAt s.names k c.args.place) c.key-2.ensures.key (c.is_at.ensures c.if-not-is_at.false) in
    let name = subst IsPlainName c.key.ensures.key e.0.0 in
    let size : n ≡ length key + 2 = e.1 ∙ ap (λ k. length k + 2) c.key.ensures.key in
    subst (λ r. Takes levels (fields_from s c.args.place) (fields_from s (c.args.place + 1)) key (Some (n + v)) (r >>= tree_at levels)) c.in-Ok.ensures.value
    (takes_next levels s key c.args.place n v c.index.result.now (tree_at levels (raw_value c.in-Ok.value)) c.requires at c.index.ensures name size c.in_ok-value.ensures)
