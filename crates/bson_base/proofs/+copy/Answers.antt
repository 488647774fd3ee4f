use Rattle.std.proofs.Common.{◌≡◌, ◌∙◌, ap, sym, subst, string_bytes}
use Rattle.std.specs.List.{list_any, IsDistinct}
use Rattle.std.specs.Str.{bytes_eq}
use Rattle.bson_key_map.specs.Keys.{key_texts}
use Rattle.bson_key_map.specs.declared.pair.Pair.{Pair}
use Rattle.bson_base.specs.BsonView.{tree_of, trees_of, listed_pairs}
use Rattle.bson_base.specs.declared.bson.Bson.{Bson}
use Rattle.bson_base.proofs.Documents.{trees_more, pairs_more, new_pair}
use Rattle.bson_base.proofs.+copy.Goals as goal

pub bson::copies_of-loop-value-preserved : goal.bson::copies_of-loop-value-preserved
bson::copies_of-loop-value-preserved t c =
    ap trees_of c.in_ok-push.ensures.items
    ∙ trees_more c.loop-value.copies.items c.args.values.now _ c.loop-value.value-index c.value-item.result c.loop-value-test.true c.loop-value.invariant
    (c.in_ok-try_clone.ensures.equal ∙ ap tree_of c.value-item.is)

pub document::Document::try_clone-push-requires : goal.document::Document::try_clone-push-requires
document::Document::try_clone-push-requires t c =
    let ps = c.as_slice-own.result.now in
    let key : string_bytes c.in_ok-key.key ≡ string_bytes c.pair-item.result.key = c.in_ok-key.ensures.ok ∙ c.deref.ensures in
    record { new = ap (λ text. list_any (bytes_eq text) (key_texts c.loop-pair.pairs)) key ∙ new_pair c.loop-pair.pairs ps c.loop-pair.pair-index c.pair-item.result c.loop-pair-test.true c.pair-item.is (subst (λ qs. IsDistinct bytes_eq (key_texts qs)) (sym c.as_slice-own.ensures.pairs) c.as_slice-own.ensures.unique) c.loop-pair.invariant }

pub document::Document::try_clone-loop-pair-preserved : goal.document::Document::try_clone-loop-pair-preserved
document::Document::try_clone-loop-pair-preserved t c =
    ap listed_pairs c.in_ok-push.ensures.pairs
    ∙ pairs_more c.loop-pair.pairs c.as_slice-own.result.now _ c.loop-pair.pair-index c.pair-item.result c.loop-pair-test.true c.loop-pair.invariant
    (c.in_ok-key.ensures.ok ∙ c.deref.ensures ∙ ap (λ (p : Pair Bson). string_bytes p.key) c.pair-item.is)
    (c.in_ok-try_clone.ensures.equal ∙ ap (λ (p : Pair Bson). tree_of p.value) c.pair-item.is)
