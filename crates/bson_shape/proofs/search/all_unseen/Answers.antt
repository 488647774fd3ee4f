use Rattle.std.proofs.Common.{◌≡◌, ◌-◌, suc, Some, cond, length, drop, ap, sym, ◌∙◌, arith}
use Rattle.std.proofs.lemmas.List.{drop_all}
use Rattle.std.specs.Str.{bytes_eq}
use Rattle.bson_shape.specs.Guarded.{definition}
use Rattle.bson_shape.specs.ShapeView.{fields_of}
use Rattle.bson_shape.proofs.Searching.{unseen_none, unseen_after, definition_before}
use Rattle.bson_shape.proofs.search.all_unseen.Goals as goal

pub loop-at-init : goal.loop-at-init
loop-at-init c =
    let fs = c.args.table.now in
    (omega arith, λ key. unseen_none c.new-unseen.result c.new-unseen.ensures.empty key ∙ sym (ap (λ gs. definition (fields_of gs) key) (drop_all (length fs) fs (omega arith))))

pub loop-at-preserved : goal.loop-at-preserved
loop-at-preserved c =
    let fs = c.args.table.now in
    let kept = c.loop-at.invariant in
    let f = c.index-table-at.result in
    let less = c.loop-at.at - 1 in
    let back : suc less ≡ c.loop-at.at = omega arith in (
      omega (arith, kept.0),
      λ key.
          unseen_after c.as_str.result c.loop-at.unseen c.insert.new.self _ c.in_ok-insert.ensures.updates key
          ∙ ap (cond (bytes_eq c.as_str.result.now key) (Some f.shape)) (kept.1 key ∙ ap (λ n. definition (fields_of (drop n fs)) key) (sym back))
          ∙ ap (λ n. cond (bytes_eq n key) (Some f.shape) (definition (fields_of (drop (suc less) fs)) key)) c.as_str.ensures.value
          ∙ sym (definition_before fs less f key (omega (arith, kept.0)) c.index-table-at.is),
    )

pub returns : goal.returns
returns c = λ key.
    let start : c.loop-at.at ≡ 0 = omega arith in
    c.loop-at.invariant.1 key ∙ ap (λ n. definition (fields_of (drop n c.args.table.now)) key) start
