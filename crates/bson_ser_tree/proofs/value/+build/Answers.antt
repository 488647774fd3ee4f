use Rattle.std.proofs.Common.{◌≡◌, suc, ◌+◌, ◌<◌, ◌≤◌, ◌∷◌, length, drop, get_or, refl, arith, ap, sym, subst, ◌∙◌, add-one, drop-cons}
use Rattle.std.proofs.lemmas.List.{drop_all}
use Rattle.bson_base.specs.Folded.{fold}
use Rattle.bson_base.specs.BsonView.{tree_of}
use Rattle.bson_base.specs.Tree.{array, document, no_pairs, pair}
use Rattle.bson_values.specs.TextView.{text_view}
use Rattle.bson_values.specs.Value.{item, tuple_variant, structure, structure_variant}
use Rattle.bson_datum.specs.View.{view, items_view, fields_view}
use Rattle.bson_datum.proofs.Views.{view-TupleVariant, view-Struct, view-StructVariant}
use Rattle.bson_laws.specs.Spell.{enclosed_at}
use Rattle.bson_tree_laws.specs.TreeSpell.{tree_items, tree_fields}
use Rattle.bson_ser_tree.proofs.Arms.{MakesValue, makes_as, makes_array, makes_struct}
use Rattle.bson_ser_tree.proofs.Before.{before_step, before_end}
use Rattle.bson_ser_tree.proofs.VariantContents.{variant_made, variant_stops}
use Rattle.bson_ser_tree.proofs.value.+build.Goals as goal

pub item_trees-loop-index-preserved : goal.item_trees-loop-index-preserved
item_trees-loop-index-preserved t c =
    let xs = c.args.items.now in
    let i = c.loop-index.index in
    let x = c.index-items-index.result in
    let lt : i < length xs = c.loop-index-test.true in
    let is : items_view (drop i xs) ≡ item (view x) (items_view (drop (suc i) xs)) = ap items_view (drop-cons xs i x lt ∙ ap (λ y. y ∷ drop (suc i) xs) (sym c.index-items-index.is)) in
    rw add-one (before_step c.args.readable i c.args.levels (view x) (items_view (drop (suc i) xs)) (items_view (drop i xs)) c.loop-index.trees.items c.push.new.self.items c.in_ok-item_tree.field-0 _ c.loop-index.invariant is c.in_ok-item_tree.ensures c.in_ok-push.ensures.items)

pub item_trees-returns : goal.item_trees-returns
item_trees-returns t c =
    let xs = c.args.items.now in
    let i = c.loop-index.index in
    before_end c.args.readable i c.args.levels (items_view (drop i xs)) c.loop-index.trees.items _ c.loop-index.invariant (ap items_view (drop_all i xs c.loop-index-test.false))

pub struct_variant-returns-in_ok-variant-in-Ok : goal.struct_variant-returns-in_ok-variant-in-Ok
struct_variant-returns-in_ok-variant-in-Ok t c =
    let inside = tree_of c.in-Ok.tree in
    variant_made c.args.name.now c.args.levels (λ inside. enclosed_at fold inside (tree_fields c.args.readable _ (fields_view c.args.fields.now) no_pairs)) inside (tree_of c.in_ok-variant-in-Ok.field-0) c.if-levels-eq0.false c.in-Ok.ensures
    (c.in_ok-variant-in-Ok.ensures ∙ ap (λ name. document (pair name inside no_pairs)) c.in_ok-from_str-in-Ok.ensures.ok)

pub struct_variant-returns-in-Err : goal.struct_variant-returns-in-Err
struct_variant-returns-in-Err t c =
    variant_stops c.args.name.now c.args.levels (λ inside. enclosed_at fold inside (tree_fields c.args.readable _ (fields_view c.args.fields.now) no_pairs)) c.in-Err.stop c.under_key.result c.if-levels-eq0.false c.under_key.ensures.under c.in-Err.ensures

pub tuple_variant-returns-in-Err : goal.tuple_variant-returns-in-Err
tuple_variant-returns-in-Err t c =
    variant_stops c.args.name.now c.args.levels (λ inside. enclosed_at array inside (tree_items c.args.readable 0 (items_view c.args.items.now))) c.in-Err.stop c.under_key.result c.if-levels-eq0.false c.under_key.ensures.under c.in-Err.ensures

pub tree_value-returns-in-Seq : goal.tree_value-returns-in-Seq
tree_value-returns-in-Seq t c = makes_array c.args.readable c.args.in_reserved c.args.levels _ c.args.value.now c.in-Seq.items c.deref-in-Seq.result.now c.in-Seq.is c.deref-in-Seq.ensures.value c.array.ensures

pub tree_value-returns-in-TupleVariant : goal.tree_value-returns-in-TupleVariant
tree_value-returns-in-TupleVariant t c =
    let it = c.in-TupleVariant in
    makes_as c.args.readable c.args.in_reserved c.args.levels _ c.args.value.now _ (λ name xs. tuple_variant name (items_view xs)) _ (text_view it.variant) _ _ it.is c.as_str-in-TupleVariant.ensures.text c.deref-in-TupleVariant.ensures.value (view-TupleVariant it.variant it.items) c.tuple_variant.ensures

pub tree_value-returns-in-StructVariant : goal.tree_value-returns-in-StructVariant
tree_value-returns-in-StructVariant t c =
    let it = c.in-StructVariant in
    makes_as c.args.readable c.args.in_reserved c.args.levels _ c.args.value.now _ (λ name xs. structure_variant name (fields_view xs)) _ (text_view it.variant) _ _ it.is c.as_str-in-StructVariant.ensures.text c.deref-in-StructVariant.ensures.value (view-StructVariant it.variant it.fields) c.struct_variant.ensures

pub tree_value-returns-in-Struct : goal.tree_value-returns-in-Struct
tree_value-returns-in-Struct t c =
    let it = c.in-Struct in
    let name = text_view it.name in
    makes_as c.args.readable c.args.in_reserved c.args.levels _ c.args.value.now _ (λ name xs. structure name (fields_view xs)) name name _ _ it.is refl c.deref-in-Struct.ensures.value (view-Struct it.name it.fields) c.named.ensures

pub named-returns : goal.named-returns
named-returns t c =
    let fs = fields_view c.args.fields.now in
    let made = c.structure.result in
    subst (λ name. MakesValue c.args.readable c.args.in_reserved c.args.levels made (structure name fs)) c.as_str.ensures.text
    (makes_struct c.args.readable c.args.in_reserved c.args.levels made c.as_str.result.now fs c.is_levelless-levelless.result c.is_levelless-levelless.ensures c.structure.ensures)
