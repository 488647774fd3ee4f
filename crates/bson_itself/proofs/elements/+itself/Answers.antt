use Rattle.std.proofs.Common.{◌≡◌, suc, ◌-◌, ◌∷◌, ◌++◌, [], take, drop, ap, sym, subst, ◌∙◌, refl, arith}
use Rattle.std.specs.Fmt.{decimal}
use Rattle.std.proofs.lemmas.List.{nil_from_length}
use Rattle.bson_kinds.specs.Kind.{byte}
use Rattle.bson_kinds.specs.Text.{Bytes}
use Rattle.bson_kinds.specs.declared.element_type.ElementType.TheVariants as kinds
use Rattle.bson_itself.specs.Encoded.{EncodesItself, IsTextValue, IsBinaryValue, IsTrueOrFalse, ArePairs, AreTrees}
use Rattle.bson_itself.proofs.Left.{PairsLeft, pairs_first, pairs_end, pairs_step, TreesLeft, trees_end, trees_step, element_first, same_bytes}
use Rattle.bson_itself.proofs.Parts.{fixed_one, made_one, text_one, binary_one, boolean_one, null_one, double_one, int32_one, int64_one, document_one, array_one}
use Rattle.bson_itself.specs.declared.untyped.UntypedLeaf.TheVariants.{Bson}
use Rattle.bson_itself.proofs.TwoParts.{scoped_is}
use Rattle.bson_itself.proofs.elements.+itself.Goals as goal

pub are_items-loop-rest-preserved : goal.are_items-loop-rest-preserved
are_items-loop-rest-preserved t c =
    let leaf = c.args.leaf in
    let whole = c.args.bytes.now in
    let levels = c.args.levels in
    let rest = c.loop-rest.rest.now in
    let i = c.loop-rest.index in
    let value = c.in-Some.value.now in
    let name = c.in-Some.name.now in
    let kind = c.in-Some-from_byte.kind in
    let n = c.in-Some-value_len.size in
    let back = c.split_at.result.1.now in
    let there = element_first rest value kind n name back c.in-len1-up.len_at_least (sym c.in-Some-from_byte.ensures.kind) c.in-Some.ensures c.split_at.ensures.back in
    let is : name ≡ decimal i = same_bytes name c.format.result.now c.if-ne.ensures ∙ c.format.ensures.text in
    let at : rest ≡ byte kind ∷ (decimal i ++ (0 ∷ (take n value ++ back))) = there ∙ ap (λ (key : Bytes). byte kind ∷ (key ++ (0 ∷ (take n value ++ back)))) is in
    let step = trees_step leaf whole levels i kind (take n value) back (subst (TreesLeft leaf whole levels i) at c.loop-rest.invariant) c.in-Some-value_len.ensures.itself in
    let next : suc i ≡ c.in-Some-checked_add.more = omega (arith, c.in-Some-checked_add.ensures) in
    subst (λ j. TreesLeft leaf whole levels j back) next step

pub are_items-returns : goal.are_items-returns
are_items-returns t c = λ _. trees_end c.args.leaf c.args.bytes.now c.args.levels c.loop-rest.index c.loop-rest.rest.now c.loop-rest.invariant (nil_from_length c.loop-rest.rest.now (omega arith))

pub are_pairs-loop-rest-init : goal.are_pairs-loop-rest-init
are_pairs-loop-rest-init t c = ([], c.new-keys.ensures.none, pairs_first c.args.leaf c.args.bytes.now c.args.levels)

pub are_pairs-loop-rest-preserved : goal.are_pairs-loop-rest-preserved
are_pairs-loop-rest-preserved t c =
    let leaf = c.args.leaf in
    let whole = c.args.bytes.now in
    let levels = c.args.levels in
    let rest = c.loop-rest.rest.now in
    let before = c.loop-rest.invariant.0 in
    let value = c.in-Some.value.now in
    let name = c.in-Some.name.now in
    let kind = c.in-Some-from_byte.kind in
    let n = c.in-Some-value_len.size in
    let back = c.split_at.result.1.now in
    let key = c.in-Some.ensures in
    let there = element_first rest value kind n name back c.in-len1-up.len_at_least (sym c.in-Some-from_byte.ensures.kind) key c.split_at.ensures.back in (
      before ++ name ∷ [],
      c.if-not-add.ensures.added refl before c.loop-rest.invariant.1,
      pairs_step leaf whole levels before kind name (take n value) back (subst (PairsLeft leaf whole levels before) there c.loop-rest.invariant.2) key.text key.no_zero (c.if-not-is_taken_key.ensures refl) c.in-Some-value_len.ensures.itself,
    )

pub are_pairs-returns : goal.are_pairs-returns
are_pairs-returns t c = λ h.
    let before = c.loop-rest.invariant.0 in
    pairs_end c.args.leaf c.args.bytes.now c.args.levels before c.loop-rest.rest.now c.loop-rest.invariant.2 (nil_from_length c.loop-rest.rest.now (omega arith)) (c.are_different.ensures.different h before c.loop-rest.invariant.1)

pub array_len-returns-clause-itself : goal.array_len-returns-clause-itself
array_len-returns-clause-itself t c =
    let m = c.args.levels - 1 in
    let part = take c.in_ok-count.count c.args.bytes.now in
    array_one c.args.leaf c.args.levels m part (omega arith) c.in_ok-count.ensures.frame (subst (AreTrees c.args.leaf m) c.inside.ensures (c.if-not-are_items.ensures refl))

pub document_len-returns-clause-itself : goal.document_len-returns-clause-itself
document_len-returns-clause-itself t c =
    let m = c.args.levels - 1 in
    let part = take c.in_ok-count.count c.args.bytes.now in
    document_one c.args.leaf c.args.levels m part (omega arith) c.in_ok-count.ensures.frame (subst (ArePairs c.args.leaf m) c.inside.ensures (c.if-not-are_pairs.ensures refl))

pub value_len-returns-in-Double-clause-itself : goal.value_len-returns-in-Double-clause-itself
value_len-returns-in-Double-clause-itself t c =
    rw c.in-Double.is (fixed_one c.args.leaf kinds.Double c.args.levels c.args.bytes.now 8 c.fixed_len.result c.fixed_len.ensures.are_bytes c.fixed_len.ensures.within c.fixed_len.ensures.fixed (double_one c.args.leaf c.args.levels))

pub value_len-returns-in-String-clause-itself : goal.value_len-returns-in-String-clause-itself
value_len-returns-in-String-clause-itself t c = rw c.in-String.is (made_one c.args.leaf kinds.String c.args.levels c.args.bytes.now c.text_len.result IsTextValue c.text_len.ensures.text (text_one c.args.leaf c.args.levels))

pub value_len-returns-in-Binary-clause-itself : goal.value_len-returns-in-Binary-clause-itself
value_len-returns-in-Binary-clause-itself t c = rw c.in-Binary.is (made_one c.args.leaf kinds.Binary c.args.levels c.args.bytes.now c.binary_len.result (IsBinaryValue c.args.leaf) c.binary_len.ensures.binary (binary_one c.args.leaf c.args.levels))

pub value_len-returns-in-Boolean-clause-itself : goal.value_len-returns-in-Boolean-clause-itself
value_len-returns-in-Boolean-clause-itself t c = rw c.in-Boolean.is (made_one c.args.leaf kinds.Boolean c.args.levels c.args.bytes.now c.boolean_len.result IsTrueOrFalse c.boolean_len.ensures.boolean (boolean_one c.args.leaf c.args.levels))

pub value_len-returns-in-Null-clause-itself : goal.value_len-returns-in-Null-clause-itself
value_len-returns-in-Null-clause-itself t c = rw c.in-Null.is (null_one c.args.leaf c.args.levels)

pub value_len-returns-in-Int32-clause-itself : goal.value_len-returns-in-Int32-clause-itself
value_len-returns-in-Int32-clause-itself t c =
    rw c.in-Int32.is (fixed_one c.args.leaf kinds.Int32 c.args.levels c.args.bytes.now 4 c.fixed_len-in-Int32.result c.fixed_len-in-Int32.ensures.are_bytes c.fixed_len-in-Int32.ensures.within c.fixed_len-in-Int32.ensures.fixed (int32_one c.args.leaf c.args.levels))

pub value_len-returns-in-Int64-clause-itself : goal.value_len-returns-in-Int64-clause-itself
value_len-returns-in-Int64-clause-itself t c =
    rw c.in-Int64.is (fixed_one c.args.leaf kinds.Int64 c.args.levels c.args.bytes.now 8 c.fixed_len-in-Int64.result c.fixed_len-in-Int64.ensures.are_bytes c.fixed_len-in-Int64.ensures.within c.fixed_len-in-Int64.ensures.fixed (int64_one c.args.leaf c.args.levels))

pub scoped_len-returns-clause-itself : goal.scoped_len-returns-clause-itself
scoped_len-returns-clause-itself t c =
    let b = c.args.bytes.now in
    let code = c.in_ok-code in
    let scope = c.in_ok-scope in
    let first = c.split_at.ensures in
    let second = c.split_at-2.ensures in
    scoped_is c.args.levels b code.code scope.scope c.known_bytes.ensures (omega (arith, code.ensures.within, scope.ensures.within, first.back_len, second.back_len)) (omega (arith, c.uint32_in.ensures, c.if-uint32_in-count.false))
    (subst (λ (x : Bytes). IsTextValue (take code.code x)) first.back code.ensures.text)
    (subst (λ (x : Bytes). EncodesItself Bson kinds.EmbeddedDocument c.args.levels (take scope.scope x)) (second.back ∙ ap (drop code.code) first.back) scope.ensures.itself)
