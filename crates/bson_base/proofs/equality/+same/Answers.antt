use Rattle.std.proofs.Common.{rules, ◌≡◌, ◌<◌, ◌+◌, true, false, sym, ap, subst, ◌∙◌}
use Rattle.std.specs.Prelude.{◌&&◌}
use Rattle.std.specs.String.{string_eq}
use Rattle.bson_key_map.specs.declared.pair.Pair.{Pair}
use Rattle.bson_base.specs.BsonView.{tree_of, trees_of, listed_pairs, pairs_of}
use Rattle.bson_base.specs.Same.{same, same_pairs}
use Rattle.bson_base.specs.declared.bson.Bson.{Bson}
use Rattle.bson_base.proofs.Nodes.{nodes, trees_nodes, pairs_nodes, pair_nodes, tree_nodes}
use Rattle.bson_base.proofs.Sames.{same_trees-lengths, same_pairs-lengths, same_pairs-step, same_pairs_from}
use Rattle.bson_base.proofs.equality.+same.Goals.{are_same_documents-then-ne-via-then-ne, are_same_documents-then-ne-via-else-ne+then-not-is_same}
use Rattle.bson_base.proofs.equality.+same.Goals as goal

pub are_same_documents-returns-then-pairs-others : goal.are_same_documents-returns-then-pairs-others
are_same_documents-returns-then-pairs-others t c =
    sym (same_pairs-lengths c.as_slice-pairs.result.now c.as_slice-others.result.now c.if-pairs-others.true)
    ∙ (λ i. same_pairs (c.as_slice-pairs.ensures.pairs i) (c.as_slice-others.ensures.pairs i))

pub are_same_documents-is_same-requires : goal.are_same_documents-is_same-requires
are_same_documents-is_same-requires t c =
    let ps = c.as_slice-pairs.result.now in
    let inside : nodes (tree_of c.index-pairs-i.result.value) < pairs_nodes (listed_pairs ps) =
    subst (λ (p : Pair Bson). nodes (tree_of p.value) < pairs_nodes (listed_pairs ps)) (sym c.index-pairs-i.is) (pair_nodes ps c.loop-i.i c.index-pairs-i.result c.loop-i-test.true) in
    let smaller : nodes (tree_of c.index-pairs-i.result.value) < pairs_nodes (pairs_of c.args.a.now) = subst (λ qs. nodes (tree_of c.index-pairs-i.result.value) < pairs_nodes qs) c.as_slice-pairs.ensures.pairs inside in
    search rules

pub are_same_documents-returns-then-ne : goal.are_same_documents-returns-then-ne
are_same_documents-returns-then-ne t c =
    let ps = c.as_slice-pairs.result.now in
    let qs = c.as_slice-others.result.now in
    let i = c.loop-i.i in
    let p = c.index-pairs-i.result in
    let q = c.index-others-i.result in
    let whole = sym (same_pairs-step ps qs i p q c.loop-i-test.true (subst (λ n. i < n) c.if-pairs-others.false c.loop-i-test.true) c.index-pairs-i.is c.index-others-i.is)
    ∙ c.loop-i.invariant
    ∙ (λ j. same_pairs (c.as_slice-pairs.ensures.pairs j) (c.as_slice-others.ensures.pairs j)) in
    elim c.then-ne.branch [
      | are_same_documents-then-ne-via-then-ne w ↦
          let keys : string_eq p.key q.key ≡ false = search rules in
          sym (ap (λ b. (b && same (tree_of p.value) (tree_of q.value)) && same_pairs_from (i + 1) ps qs) keys) ∙ whole
      | are_same_documents-then-ne-via-else-ne+then-not-is_same w ↦
          let keys : string_eq p.key q.key ≡ true = search rules in
          let values : same (tree_of p.value) (tree_of q.value) ≡ false = search rules in
          sym (λ j. (keys j && values j) && same_pairs_from (i + 1) ps qs) ∙ whole
    ]

pub are_same_documents-loop-i-preserved : goal.are_same_documents-loop-i-preserved
are_same_documents-loop-i-preserved t c =
    let ps = c.as_slice-pairs.result.now in
    let qs = c.as_slice-others.result.now in
    let i = c.loop-i.i in
    let p = c.index-pairs-i.result in
    let q = c.index-others-i.result in
    let keys : string_eq p.key q.key ≡ true = search rules in
    let values : same (tree_of p.value) (tree_of q.value) ≡ true = search rules in
    sym (λ j. (keys j && values j) && same_pairs_from (i + 1) ps qs)
    ∙ sym (same_pairs-step ps qs i p q c.loop-i-test.true (subst (λ n. i < n) c.if-pairs-others.false c.loop-i-test.true) c.index-pairs-i.is c.index-others-i.is)
    ∙ c.loop-i.invariant

pub are_same_values-returns-then-a-b : goal.are_same_values-returns-then-a-b
are_same_values-returns-then-a-b t c = sym (same_trees-lengths c.args.a.now c.args.b.now c.if-a-b.true)

pub are_same_values-is_same-requires : goal.are_same_values-is_same-requires
are_same_values-is_same-requires t c =
    let smaller : nodes (tree_of c.index-a-i.result) < trees_nodes (trees_of c.args.a.now) = subst (λ v. nodes (tree_of v) < trees_nodes (trees_of c.args.a.now)) (sym c.index-a-i.is) (tree_nodes c.args.a.now c.loop-i.i c.index-a-i.result c.loop-i-test.true) in
    search rules
