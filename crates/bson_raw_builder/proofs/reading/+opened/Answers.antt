use Rattle.std.proofs.Common.{◌≡◌, rules, suc, ap, sym, subst, ◌∙◌, ◌*◌, ◌<◌, arith}
use Rattle.bson_base.specs.BsonView.{pairs_of, tree_of}
use Rattle.bson_base.specs.Pairs.{put}
use Rattle.bson_base.specs.Tree.{Pairs}
use Rattle.bson_laws.specs.Judged.{Reading}
use Rattle.bson_laws.specs.TreeRaw.{opened_pairs}
use Rattle.bson_laws.proofs.Tame.{judged_is}
use Rattle.bson_met.specs.ContainerView.{document_elements}
use Rattle.bson_met.specs.PieceView.{str_piece}
use Rattle.bson_met.specs.Sizes.{size, sizes}
use Rattle.bson_met.specs.ValueView.{value_view}
use Rattle.bson_met.proofs.Refusals.{StopsAs}
use Rattle.bson_raw_builder.proofs.OpenedPairs.{step_is, list_ends, pair_opened, pair_stops}
use Rattle.bson_raw_builder.proofs.reading.+opened.Goals as goal

pub document_of_opened-step-init : goal.document_of_opened-step-init
document_of_opened-step-init t c = (
  omega (arith, ap sizes c.of_document-elements.ensures.elements),
  (λ i. opened_pairs (c.of_document-elements.ensures.elements i) (c.new-pairs.ensures.empty i)),
)

pub document_of_opened-step-preserved : goal.document_of_opened-step-preserved
document_of_opened-step-preserved t c =
    let s = c.advance.new.step in
    let new = c.advance.new.self in
    let ps = pairs_of c.step.pairs in
    let first = step_is _ _ c.in_ok-advance.field-0 s c.in_ok-advance.ensures.advanced c.if-branch.true in (
      omega (arith, c.step.invariant.0, ap sizes first),
      ap (opened_pairs new) (c.in_ok-insert.ensures.new ∙ ap (λ k. put k (tree_of c.in_ok-value.value) ps) c.in_ok-key.ensures.ok)
          ∙ pair_opened (str_piece s.key) s.value new ps (tree_of c.in_ok-value.value) c.in_ok-value.ensures.exact ∙ ap (λ ns. opened_pairs ns ps) (sym first) ∙ c.step.invariant.1,
    )

pub document_of_opened-returns-in_err-value : goal.document_of_opened-returns-in_err-value
document_of_opened-returns-in_err-value t c =
    let s = c.advance.new.step in
    let new = c.advance.new.self in
    let ps = pairs_of c.step.pairs in
    let stop = c.in_err-value.field-0.0 in
    let first = step_is _ _ c.in_ok-advance.field-0 s c.in_ok-advance.ensures.advanced c.if-branch.true in
    let here = subst (λ (r : Reading Pairs). StopsAs stop r) (ap (λ ns. opened_pairs ns ps) (sym first) ∙ c.step.invariant.1) (pair_stops (str_piece s.key) s.value new ps stop c.in_err-value.ensures.exact) in
    record { exact = search (rules, here) }

pub document_of_opened-returns : goal.document_of_opened-returns
document_of_opened-returns t c =
    let ps = pairs_of c.step.pairs in
    let over = list_ends _ _ c.in_ok-advance.field-0 c.advance.new.step c.in_ok-advance.ensures.advanced c.if-branch.false in
    record { exact = sym c.step.invariant.1 ∙ ap (λ ns. opened_pairs ns ps) over }

pub value_of_opened-document_of_opened-requires : goal.value_of_opened-document_of_opened-requires
value_of_opened-document_of_opened-requires t c =
    let n = c.args.value.now in
    let same : size n ≡ suc (sizes (document_elements c.in-Document.document)) = ap size (judged_is n _ c.in_ok-text.ensures.judged ∙ ap value_view c.in-Document.is) in
    let less : 2 * sizes (document_elements c.in-Document.document) < 2 * size n = omega (arith, same) in
    (search rules, tt)
