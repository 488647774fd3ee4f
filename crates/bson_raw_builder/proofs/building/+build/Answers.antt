use Rattle.std.proofs.Common.{rules, ◌≡◌, ◌+◌, ◌-◌, ◌<◌, ◌++◌, ◌∷◌, [], length, drop, true, false, Ok, refl, ap, sym, subst, ◌∙◌, add-one, arith}
use Rattle.std.specs.Fmt.{decimal}
use Rattle.std.specs.Prelude.{is_some}
use Rattle.std.proofs.lemmas.List.{length-append, drop_all}
use Rattle.bson_base.specs.BsonView.{tree_of, trees_of, pairs_of}
use Rattle.bson_kinds.specs.Outcome.{result_map}
use Rattle.bson_base.specs.Tree.{document, array, pair, kind, element, enc, closed_text, elements, array_elements}
use Rattle.bson_kinds.specs.declared.element_type.ElementType.TheVariants.{EmbeddedDocument, JavaScriptCodeWithScope}
use Rattle.bson_base.proofs.Nodes.{nodes, pairs_nodes, trees_nodes, tree_nodes}
use Rattle.bson_values.specs.Cause.{bad_body}
use Rattle.bson_values.specs.ErrorView.{read_failure}
use Rattle.bson_values.specs.Wrapper.{of_key}
use Rattle.bson_values.specs.declared.wrapper.Wrapper.TheVariants as wrappers
use Rattle.bson_laws.specs.Assembled.{stays, becomes, looked_tree, one_level, with_scope, built, built_pairs, built_trees, looked_at}
use Rattle.bson_raw_parts.specs.Putting.{with_value, with_looked, looked_kind, PutsLooked, body_built, code_built}
use Rattle.bson_raw_builder.proofs.FirstKeys.{looked_body, looked_code, looked_ordinary}
use Rattle.bson_raw_builder.proofs.Putting.{refuses_as, refused_for, level_left, array_put, looked_put, length_place, front, element_set, pair_set, pair_refused, place_there, pairs_more, trees_more, pairs_refused, trees_refused, ended, length_there, pairs_whole, trees_whole, next_values, measured, becomes_put, stays_put, looked_long, scoped_put, scope_refused}
use Rattle.bson_raw_builder.proofs.building.+build.Goals as goal

-- ---- arrays

pub put_array-returns-in_err-put_values : goal.put_array-returns-in_err-put_values
put_array-returns-in_err-put_values t c =
    let old = c.args.out.now.items in
    let parts = built_trees (trees_of c.args.values.now) in
    let left : one_level parts c.args.levels ≡ parts (c.args.levels - 1) = level_left parts c.args.levels (omega arith) in
    let here = refuses_as (read_failure c.in_err-put_values.field-0.0) (λ ts. old ++ enc (array ts)) (parts (c.args.levels - 1)) (with_value old (result_map array (one_level parts c.args.levels)))
    (λ k e. ap (λ r. with_value old (result_map array r)) (left ∙ e)) c.in_err-put_values.ensures in
    search (rules, here)

pub put_array-returns : goal.put_array-returns
put_array-returns t c =
    let old = c.args.out.now.items in
    let parts = built_trees (trees_of c.args.values.now) in
    ap (λ r. with_value old (result_map array r)) (level_left parts c.args.levels (omega arith))
    ∙ array_put old c.put_values.new.out.items (parts (c.args.levels - 1)) c.in_ok-put_values.ensures

pub put_values-put_item-requires : goal.put_values-put_item-requires
put_values-put_item-requires t c =
    let smaller : nodes (tree_of c.index-values-index.result) < trees_nodes (trees_of c.args.values.now) =
    subst (λ v. nodes (tree_of v) < trees_nodes (trees_of c.args.values.now)) (sym c.index-values-index.is) (tree_nodes c.args.values.now c.loop-index.index c.index-values-index.result c.loop-index-test.true) in
    search rules

pub put_values-returns-in_err-put_item : goal.put_values-returns-in_err-put_item
put_values-returns-in_err-put_item t c =
    let old = c.args.out.now.items in
    let out = c.loop-index.out.items in
    let i = c.loop-index.index in
    let vs = c.args.values.now in
    let v = c.index-values-index.result in
    let rest = trees_of (drop (i + 1) vs) in
    let left = ap (λ ts. result_map (λ us. out ++ array_elements i us) (built_trees ts c.args.levels)) (sym (next_values vs i v c.index-values-index.is c.loop-index-test.true)) ∙ c.loop-index.invariant in
    let here = trees_refused (read_failure c.in_err-put_item.field-0.0) i out (old ++ length_place) (λ ts. old ++ enc (array ts)) (built (tree_of v) c.args.levels) (built_trees rest c.args.levels)
    (built_trees (trees_of vs) c.args.levels) left c.in_err-put_item.ensures in
    search (rules, here)

pub put_values-loop-index-preserved : goal.put_values-loop-index-preserved
put_values-loop-index-preserved t c =
    let out = c.loop-index.out.items in
    let more = c.put_item.new.out.items in
    let i = c.loop-index.index in
    let vs = c.args.values.now in
    let v = c.index-values-index.result in
    let rest = trees_of (drop (i + 1) vs) in
    let left = ap (λ ts. result_map (λ us. out ++ array_elements i us) (built_trees ts c.args.levels)) (sym (next_values vs i v c.index-values-index.is c.loop-index-test.true)) ∙ c.loop-index.invariant in
    let step = trees_more i out more (built (tree_of v) c.args.levels) (built_trees rest c.args.levels) c.in_ok-put_item.ensures in
    ap (λ n. result_map (λ ts. more ++ array_elements n ts) (built_trees rest c.args.levels)) (add-one i) ∙ sym step ∙ left

pub put_values-set_length-requires : goal.put_values-set_length-requires
put_values-set_length-requires t c =
    let old = c.args.out.now.items in
    let out = c.loop-index.out.items in
    let i = c.loop-index.index in
    let vs = c.args.values.now in
    let all = built_trees (trees_of vs) c.args.levels in
    let over = ap (λ bs. result_map (λ ts. out ++ array_elements i ts) (built_trees (trees_of bs) c.args.levels)) (sym (drop_all i vs c.loop-index-test.false)) ∙ c.loop-index.invariant in
    let there = length_there (array_elements 0) old out all (trees_whole i old out all over) in
    omega (arith, there, ap length c.in_ok-append-2.ensures, length-append out (0 ∷ []))

pub put_values-returns : goal.put_values-returns
put_values-returns t c =
    let old = c.args.out.now.items in
    let out = c.loop-index.out.items in
    let i = c.loop-index.index in
    let vs = c.args.values.now in
    let all = built_trees (trees_of vs) c.args.levels in
    let over = ap (λ bs. result_map (λ ts. out ++ array_elements i ts) (built_trees (trees_of bs) c.args.levels)) (sym (drop_all i vs c.loop-index-test.false)) ∙ c.loop-index.invariant in
    let at : c.len-start.result ≡ length old = omega arith in
    ended (array_elements 0) old out c.append-2.new.out.items c.set_length.new.out.items c.len-start.result all (trees_whole i old out all over) at c.in_ok-append-2.ensures c.set_length.ensures

pub put_item-returns-in_err-kind : goal.put_item-returns-in_err-kind
put_item-returns-in_err-kind t c =
    let old = c.args.out.now.items in
    let expected = built (tree_of c.args.value.now) c.args.levels in
    let here = refuses_as (read_failure c.in_err-kind.field-0.0) (λ u. (kind u, c.append_front.new.out.items ++ enc u)) expected (result_map (λ u. old ++ element (kind u) (decimal c.args.index) (enc u)) expected)
    (λ k e. ap (result_map (λ u. old ++ element (kind u) (decimal c.args.index) (enc u))) e) c.in_err-kind.ensures in
    search (rules, here)

pub put_item-set_kind-requires : goal.put_item-set_kind-requires
put_item-set_kind-requires t c =
    let old = c.args.out.now.items in
    let at : c.len-place.result ≡ length old = omega arith in
    place_there old c.append_front.new.out.items c.put_value.new.out.items c.format.result.now c.len-place.result c.in_ok-kind.kind
    (built (tree_of c.args.value.now) c.args.levels) at c.in_ok-append_front.ensures c.in_ok-kind.ensures

pub put_item-returns : goal.put_item-returns
put_item-returns t c =
    let old = c.args.out.now.items in
    let at : c.len-place.result ≡ length old = omega arith in
    let key : c.format.result.now ≡ decimal c.args.index = c.format.ensures.text in
    let begun : c.append_front.new.out.items ≡ old ++ front (decimal c.args.index) = c.in_ok-append_front.ensures ∙ ap (λ k. old ++ front k) key in
    element_set old c.append_front.new.out.items c.put_value.new.out.items c.set_kind.new.out.items (decimal c.args.index) c.len-place.result c.in_ok-kind.kind
    (built (tree_of c.args.value.now) c.args.levels) at begun c.in_ok-kind.ensures c.set_kind.ensures

-- ---- documents

pub put_inner-returns-in_err-kind : goal.put_inner-returns-in_err-kind
put_inner-returns-in_err-kind t c =
    let old = c.args.out.now.items in
    let looked = one_level (looked_at (pairs_of c.args.document.now)) c.args.levels in
    let here = refuses_as (read_failure c.in_err-kind.field-0.0) (λ x. (looked_kind x, old ++ enc (looked_tree x))) looked (with_value old (result_map looked_tree looked))
    (λ k e. ap (λ r. with_value old (result_map looked_tree r)) e) c.in_err-kind.ensures in
    search (rules, here)

pub put_inner-returns-in-Some : goal.put_inner-returns-in-Some
put_inner-returns-in-Some t c =
    let looked = one_level (looked_at (pairs_of c.args.document.now)) c.args.levels in
    looked_put c.args.out.now.items c.put_document.new.out.items c.in_ok-kind.field-0 c.in-Some.kind looked c.in_ok-kind.ensures (λ j e. cc c.in-Some.is) (λ e. absurd (cc c.in-Some.is))

pub put_inner-returns-in-None : goal.put_inner-returns-in-None
put_inner-returns-in-None t c =
    let looked = one_level (looked_at (pairs_of c.args.document.now)) c.args.levels in
    looked_put c.args.out.now.items c.put_document.new.out.items c.in_ok-kind.field-0 EmbeddedDocument looked c.in_ok-kind.ensures (λ j e. absurd (cc c.in-None.is)) (λ e. refl)

pub put_document-returns : goal.put_document-returns
put_document-returns t c =
    let look = looked_at (pairs_of c.args.document.now) in
    subst (PutsLooked c.put_looked.result c.args.out.now.items c.put_looked.new.out.items) (sym (level_left look c.args.levels (omega arith))) c.put_looked.ensures

pub put_pairs-loop-key-preserved : goal.put_pairs-loop-key-preserved
put_pairs-loop-key-preserved t c =
    let out = c.loop-key.out.items in
    let more = c.put_pair.new.out.items in
    let key = c.deref.result.now in
    let v = tree_of c.in-Some.value.now in
    let rest = c.next.new.self in
    let first : c.loop-key.pairs ≡ pair key v rest = c.in-Some.ensures.steps ∙ ap (λ k. pair k v rest) (sym c.deref.ensures) in
    let step = pairs_more out more key (built v c.args.levels) (built_pairs rest c.args.levels) c.in_ok-put_pair.ensures in
    let left = ap (λ ps. result_map (λ qs. out ++ elements qs) (built_pairs ps c.args.levels)) (sym first) ∙ c.loop-key.invariant.0 in
    (sym step ∙ left, omega (arith, ap pairs_nodes first, c.loop-key.invariant.1))

pub put_pairs-returns-in_err-put_pair : goal.put_pairs-returns-in_err-put_pair
put_pairs-returns-in_err-put_pair t c =
    let old = c.args.out.now.items in
    let out = c.loop-key.out.items in
    let key = c.deref.result.now in
    let v = tree_of c.in-Some.value.now in
    let rest = c.next.new.self in
    let first : c.loop-key.pairs ≡ pair key v rest = c.in-Some.ensures.steps ∙ ap (λ k. pair k v rest) (sym c.deref.ensures) in
    let left = ap (λ ps. result_map (λ qs. out ++ elements qs) (built_pairs ps c.args.levels)) (sym first) ∙ c.loop-key.invariant.0 in
    let here = pairs_refused (read_failure c.in_err-put_pair.field-0.0) out (old ++ length_place) old key (built v c.args.levels) (built_pairs rest c.args.levels)
    (built_pairs (pairs_of c.args.document.now) c.args.levels) left c.in_err-put_pair.ensures in
    search (rules, here)

pub put_pairs-set_length-requires : goal.put_pairs-set_length-requires
put_pairs-set_length-requires t c =
    let old = c.args.out.now.items in
    let out = c.loop-key.out.items in
    let all = built_pairs (pairs_of c.args.document.now) c.args.levels in
    let over = ap (λ ps. result_map (λ qs. out ++ elements qs) (built_pairs ps c.args.levels)) (sym c.in_default.ensures.steps.0) ∙ c.loop-key.invariant.0 in
    let there = length_there elements old out all (pairs_whole old out all over) in
    omega (arith, there, ap length c.in_ok-append-2.ensures, length-append out (0 ∷ []))

pub put_pairs-returns : goal.put_pairs-returns
put_pairs-returns t c =
    let old = c.args.out.now.items in
    let out = c.loop-key.out.items in
    let all = built_pairs (pairs_of c.args.document.now) c.args.levels in
    let over = ap (λ ps. result_map (λ qs. out ++ elements qs) (built_pairs ps c.args.levels)) (sym c.in_default.ensures.steps.0) ∙ c.loop-key.invariant.0 in
    let at : c.len-start.result ≡ length old = omega arith in
    ended elements old out c.append-2.new.out.items c.set_length.new.out.items c.len-start.result all (pairs_whole old out all over) at c.in_ok-append-2.ensures c.set_length.ensures

pub put_pair-returns-in_err-kind : goal.put_pair-returns-in_err-kind
put_pair-returns-in_err-kind t c =
    let zero = sym c.if-has_zero.ensures in
    let here = pair_refused (read_failure c.in_err-kind.field-0.0) c.args.out.now.items c.append_front.new.out.items c.args.key.now (built (tree_of c.args.value.now) c.args.levels) zero c.in_err-kind.ensures in
    search (rules, here)

pub put_pair-set_kind-requires : goal.put_pair-set_kind-requires
put_pair-set_kind-requires t c =
    let old = c.args.out.now.items in
    let at : c.len-place.result ≡ length old = omega arith in
    place_there old c.append_front.new.out.items c.put_value.new.out.items c.args.key.now c.len-place.result c.in_ok-kind.kind
    (built (tree_of c.args.value.now) c.args.levels) at c.in_ok-append_front.ensures c.in_ok-kind.ensures

pub put_pair-returns : goal.put_pair-returns
put_pair-returns t c =
    let old = c.args.out.now.items in
    let at : c.len-place.result ≡ length old = omega arith in
    pair_set old c.append_front.new.out.items c.put_value.new.out.items c.set_kind.new.out.items c.args.key.now c.len-place.result c.in_ok-kind.kind
    (built (tree_of c.args.value.now) c.args.levels) (sym c.if-has_zero.ensures) at c.in_ok-append_front.ensures c.in_ok-kind.ensures c.set_kind.ensures

-- ---- first keys

pub put_looked-returns-in_err-put_body-in-Body : goal.put_looked-returns-in_err-put_body-in-Body
put_looked-returns-in_err-put_body-in-Body t c =
    let old = c.args.out.now.items in
    let ps = pairs_of c.args.document.now in
    let key = c.deref.result.now in
    let v = tree_of c.in-Some.value.now in
    let rest = c.next.new.self in
    let is : ps ≡ pair key v rest = sym c.iter-pairs.ensures.pairs ∙ c.in-Some.ensures.steps ∙ ap (λ k. pair k v rest) (sym c.deref.ensures) in
    let its = looked_body ps rest key v c.args.levels c.in-Body.wrapper (of_key key) is refl (sym c.in-Body.ensures) in
    let here = refuses_as (read_failure c.in_err-put_body-in-Body.field-0.0) (λ u. (kind u, old ++ enc u)) (body_built c.in-Body.wrapper v) (with_looked old (looked_at ps c.args.levels))
    (λ k e. ap (with_looked old) (its ∙ ap (result_map becomes) e)) c.in_err-put_body-in-Body.ensures in
    search (rules, here)

pub put_looked-returns-in_ok-put_body-in-Body : goal.put_looked-returns-in_ok-put_body-in-Body
put_looked-returns-in_ok-put_body-in-Body t c =
    let old = c.args.out.now.items in
    let ps = pairs_of c.args.document.now in
    let key = c.deref.result.now in
    let v = tree_of c.in-Some.value.now in
    let rest = c.next.new.self in
    let is : ps ≡ pair key v rest = sym c.iter-pairs.ensures.pairs ∙ c.in-Some.ensures.steps ∙ ap (λ k. pair k v rest) (sym c.deref.ensures) in
    let its = looked_body ps rest key v c.args.levels c.in-Body.wrapper (of_key key) is refl (sym c.in-Body.ensures) in
    ap (with_looked old) its ∙ becomes_put old c.put_body.new.out.items c.in_ok-put_body-in-Body.field-0 (body_built c.in-Body.wrapper v) c.in_ok-put_body-in-Body.ensures

pub put_looked-returns-in_err-put_first_code-in-Code : goal.put_looked-returns-in_err-put_first_code-in-Code
put_looked-returns-in_err-put_first_code-in-Code t c =
    let old = c.args.out.now.items in
    let ps = pairs_of c.args.document.now in
    let key = c.deref.result.now in
    let v = tree_of c.in-Some.value.now in
    let rest = c.next.new.self in
    let is : ps ≡ pair key v rest = sym c.iter-pairs.ensures.pairs ∙ c.in-Some.ensures.steps ∙ ap (λ k. pair k v rest) (sym c.deref.ensures) in
    let its = looked_code ps rest key v c.args.levels (of_key key) is refl (sym c.in-Code.ensures) in
    let here = refuses_as (read_failure c.in_err-put_first_code-in-Code.field-0.0) (λ u. (kind u, old ++ enc u)) (code_built v rest c.args.levels) (with_looked old (looked_at ps c.args.levels))
    (λ k e. ap (with_looked old) (its ∙ ap (result_map becomes) e)) c.in_err-put_first_code-in-Code.ensures in
    search (rules, here)

pub put_looked-returns-in_ok-put_first_code-in-Code : goal.put_looked-returns-in_ok-put_first_code-in-Code
put_looked-returns-in_ok-put_first_code-in-Code t c =
    let old = c.args.out.now.items in
    let ps = pairs_of c.args.document.now in
    let key = c.deref.result.now in
    let v = tree_of c.in-Some.value.now in
    let rest = c.next.new.self in
    let is : ps ≡ pair key v rest = sym c.iter-pairs.ensures.pairs ∙ c.in-Some.ensures.steps ∙ ap (λ k. pair k v rest) (sym c.deref.ensures) in
    let its = looked_code ps rest key v c.args.levels (of_key key) is refl (sym c.in-Code.ensures) in
    ap (with_looked old) its ∙ becomes_put old c.put_first_code.new.out.items c.in_ok-put_first_code-in-Code.field-0 (code_built v rest c.args.levels) c.in_ok-put_first_code-in-Code.ensures

pub put_looked-returns-in_err-put_pairs-in-Ordinary : goal.put_looked-returns-in_err-put_pairs-in-Ordinary
put_looked-returns-in_err-put_pairs-in-Ordinary t c =
    let old = c.args.out.now.items in
    let ps = pairs_of c.args.document.now in
    let key = c.deref.result.now in
    let v = tree_of c.in-Some.value.now in
    let rest = c.next.new.self in
    let is : ps ≡ pair key v rest = sym c.iter-pairs.ensures.pairs ∙ c.in-Some.ensures.steps ∙ ap (λ k. pair k v rest) (sym c.deref.ensures) in
    let its = looked_ordinary ps rest key v c.args.levels (of_key key) is refl (sym c.in-Ordinary.ensures) in
    let here = refuses_as (read_failure c.in_err-put_pairs-in-Ordinary.field-0.0) (λ qs. old ++ enc (document qs)) (built_pairs ps c.args.levels) (with_looked old (looked_at ps c.args.levels))
    (λ k e. ap (with_looked old) (its ∙ ap (result_map stays) e)) c.in_err-put_pairs-in-Ordinary.ensures in
    search (rules, here)

pub put_looked-returns-in_ok-put_pairs-in-Ordinary : goal.put_looked-returns-in_ok-put_pairs-in-Ordinary
put_looked-returns-in_ok-put_pairs-in-Ordinary t c =
    let old = c.args.out.now.items in
    let ps = pairs_of c.args.document.now in
    let key = c.deref.result.now in
    let v = tree_of c.in-Some.value.now in
    let rest = c.next.new.self in
    let is : ps ≡ pair key v rest = sym c.iter-pairs.ensures.pairs ∙ c.in-Some.ensures.steps ∙ ap (λ k. pair k v rest) (sym c.deref.ensures) in
    let its = looked_ordinary ps rest key v c.args.levels (of_key key) is refl (sym c.in-Ordinary.ensures) in
    ap (with_looked old) its ∙ stays_put old c.put_pairs-in-Ordinary.new.out.items (built_pairs ps c.args.levels) c.in_ok-put_pairs-in-Ordinary.ensures

-- ---- codes with scopes

pub put_scoped-returns-in_err-put_document : goal.put_scoped-returns-in_err-put_document
put_scoped-returns-in_err-put_document t c =
    let old = c.args.out.now.items in
    let looked = one_level (looked_at (pairs_of c.args.scope.now)) c.args.levels in
    let here = refuses_as (read_failure c.in_err-put_document.field-0.0) (λ x. (looked_kind x, c.append_text.new.out.items ++ enc (looked_tree x))) looked (with_value old (with_scope c.args.code.now looked))
    (λ k e. ap (λ r. with_value old (with_scope c.args.code.now r)) e) c.in_err-put_document.ensures in
    search (rules, here)

pub put_scoped-returns-then-is_some : goal.put_scoped-returns-then-is_some
put_scoped-returns-then-is_some t c =
    let old = c.args.out.now.items in
    let looked = one_level (looked_at (pairs_of c.args.scope.now)) c.args.levels in
    let some : is_some c.in_ok-put_document.field-0 ≡ true = sym c.if-is_some.ensures in
    refused_for (read_failure c.bad_body.result) (bad_body wrappers.Code) (with_value old (with_scope c.args.code.now looked)) c.bad_body.ensures
    (scope_refused old c.append_text.new.out.items c.put_document.new.out.items c.in_ok-put_document.field-0 c.args.code.now looked some c.in_ok-put_document.ensures)

pub put_scoped-set_length-requires : goal.put_scoped-set_length-requires
put_scoped-set_length-requires t c =
    let old = c.args.out.now.items in
    let looked = one_level (looked_at (pairs_of c.args.scope.now)) c.args.levels in
    let long = looked_long c.append_text.new.out.items c.put_document.new.out.items c.in_ok-put_document.field-0 looked c.in_ok-put_document.ensures in
    omega (arith, long, ap length c.in_ok-append.ensures, ap length c.in_ok-append_text.ensures, length-append old length_place, length-append c.append.new.out.items (closed_text c.args.code.now))

pub put_scoped-returns : goal.put_scoped-returns
put_scoped-returns t c =
    let old = c.args.out.now.items in
    let looked = one_level (looked_at (pairs_of c.args.scope.now)) c.args.levels in
    let new = c.put_document.new.out.items in
    let none : is_some c.in_ok-put_document.field-0 ≡ false = sym c.if-is_some.ensures in
    let at : c.len-start.result ≡ length old = omega arith in
    let begun : c.append_text.new.out.items ≡ (old ++ length_place) ++ closed_text c.args.code.now = c.in_ok-append_text.ensures ∙ ap (λ b. b ++ closed_text c.args.code.now) c.in_ok-append.ensures in
    scoped_put old new c.in_ok-put_document.field-0 c.args.code.now looked none (ap (λ b. with_looked b looked) (sym begun) ∙ c.in_ok-put_document.ensures)
    ∙ ap (λ b. Ok (JavaScriptCodeWithScope, b)) (ap (λ n. measured n new) (sym at) ∙ sym c.set_length.ensures)
