use Rattle.std.proofs.Common.{◌≡◌, ◌<◌, ◌≤◌, true, false, ◌++◌, ◌∷◌, [], List, length, get_or, map, ap, sym, subst, ◌∙◌, arith}
use Rattle.std.specs.Borrow.{Bor}
use Rattle.std.proofs.lemmas.List.{length-map, map-append}
use Rattle.bson_shape.specs.Same.{same_fields}
use Rattle.bson_shape.specs.ShapeView.{fields_of}
use Rattle.bson_shape.specs.declared.shape.FieldShape.{FieldShape}
use Rattle.bson_evolve_check.specs.Placing.{tables_in, IsAt, IsMore}
use Rattle.bson_evolve_check.proofs.Placings.{at_end, at_get, fields_is, fields_self, more_none, more_one, none_all, none_more}
use Rattle.bson_evolve_check.proofs.tables.Tables.table.Goals as goal

pub loop-number-init : goal.loop-number-init
loop-number-init c = λ k i. i

pub returns-then-are_same-clause-more : goal.returns-then-are_same-clause-more
returns-then-are_same-clause-more c = more_none (tables_in c.args.self.now) c.requires

pub returns-then-are_same-clause-number : goal.returns-then-are_same-clause-number
returns-then-are_same-clause-number c =
    let xs = c.args.self.now.known.items in
    let n = c.loop-number.number in
    let k = c.known-item.result in
    let item : k ≡ get_or xs n k = rw (sym c.deref-known-items.ensures.value) c.known-item.is in
    let less : n < length xs = rw (sym c.deref-known-items.ensures.value) c.loop-number-test.true in
    let same : fields_of k.now ≡ fields_of c.args.definitions.now = fields_is (fields_of k.now) (fields_of c.args.definitions.now) (sym c.are_same.ensures ∙ c.if-are_same.true) in
    subst (IsAt (tables_in c.args.self.now) n) same (at_get (λ (ds : Bor (List FieldShape)). fields_of ds.now) xs n k less item)

pub loop-number-preserved : goal.loop-number-preserved
loop-number-preserved c =
    let xs = c.args.self.now.known.items in
    let n = c.loop-number.number in
    let k = c.known-item.result in
    let h = fields_of c.args.definitions.now in
    let item : k ≡ get_or xs n k = rw (sym c.deref-known-items.ensures.value) c.known-item.is in
    let less : n < length xs = rw (sym c.deref-known-items.ensures.value) c.loop-number-test.true in
    none_more (tables_in c.args.self.now) n (fields_of k.now) h (at_get (λ (ds : Bor (List FieldShape)). fields_of ds.now) xs n k less item)
    (λ e. let same : true ≡ false = sym (subst (λ g. same_fields g h ≡ true) (sym e) (fields_self h)) ∙ sym c.are_same.ensures ∙ c.if-are_same.false in cc)
    c.loop-number.invariant

pub returns-clause-more : goal.returns-clause-more
returns-clause-more c =
    let xs = c.args.self.now.known.items in
    let hs = tables_in c.args.self.now in
    let view = λ (ds : Bor (List FieldShape)). fields_of ds.now in
    let h = view c.args.definitions in
    let is : map view c.push.new.self.items ≡ hs ++ h ∷ [] = ap (map view) c.in_ok-push.ensures.items ∙ map-append view xs (c.args.definitions ∷ []) in
    let stop : length xs ≤ c.loop-number.number = rw (sym c.deref-known-items.ensures.value) c.loop-number-test.false in
    let end : length hs ≤ c.loop-number.number = omega (arith, length-map xs view, stop) in
    subst (IsMore hs) (sym is) (more_one hs h c.requires (none_all hs c.loop-number.number h end c.loop-number.invariant))

pub returns-clause-number : goal.returns-clause-number
returns-clause-number c =
    let xs = c.args.self.now.known.items in
    let hs = tables_in c.args.self.now in
    let view = λ (ds : Bor (List FieldShape)). fields_of ds.now in
    let h = view c.args.definitions in
    let is : map view c.push.new.self.items ≡ hs ++ h ∷ [] = ap (map view) c.in_ok-push.ensures.items ∙ map-append view xs (c.args.definitions ∷ []) in
    let count : c.len-number.result ≡ length xs = omega (arith, c.len-number.ensures) in
    let many : length hs ≡ c.len-number.result = length-map xs view ∙ sym count in
    subst (λ zs. IsAt zs c.len-number.result h) (sym is) (subst (λ n. IsAt (hs ++ h ∷ []) n h) many (at_end hs h))
