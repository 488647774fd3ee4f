use Rattle.std.proofs.Common.{◌≡◌, ◌+◌, ◌<◌, ◌≤◌, length, drop, sym, subst, rules, ap, ◌∙◌, arith}
use Rattle.json.specs.Tree.{json_tokens, items_tokens, members_tokens}
use Rattle.json.specs.Value.{value_view, items_view, members_view}
use Rattle.json.specs.Json.{object}
use Rattle.json.proofs.Trees.{item_smaller, member_smaller}
use Rattle.bson_json_read.proofs.Viewed.{view_object, object_read, items_from, one_item, items_end}
use Rattle.bson_json_read.proofs.reading.+read.Goals as goal

pub read_items-read_item-requires : goal.read_items-read_item-requires
read_items-read_item-requires t c =
    let xs = c.args.items.now in
    let smaller : length (json_tokens (value_view c.index-items-index.result)) < length (items_tokens (items_view xs)) =
    subst (λ y. length (json_tokens (value_view y)) < length (items_tokens (items_view xs))) (sym c.index-items-index.is) (item_smaller xs c.loop-index.index c.index-items-index.result c.loop-index-test.true) in
    search rules

pub read_items-loop-index-preserved : goal.read_items-loop-index-preserved
read_items-loop-index-preserved t c =
    let xs = c.args.items.now in
    let i = c.loop-index.index in
    ap (λ vs. items_from vs (i + 1) (drop (i + 1) xs)) c.in_ok-push.ensures.items
    ∙ sym (one_item c.loop-index.values.items xs i c.index-items-index.result c.in_ok-read_item.field-0 c.loop-index-test.true c.index-items-index.is c.in_ok-read_item.ensures)
    ∙ c.loop-index.invariant

pub read_items-returns : goal.read_items-returns
read_items-returns t c =
    let xs = c.args.items.now in
    let past : length xs ≤ c.loop-index.index = omega (arith, c.loop-index-test.false) in
    sym c.loop-index.invariant ∙ items_end c.loop-index.values.items xs c.loop-index.index past

pub read_members-read_member-requires : goal.read_members-read_member-requires
read_members-read_member-requires t c =
    let ms = c.args.members.now in
    let smaller : length (json_tokens (value_view c.member-item.result.1)) < length (members_tokens (members_view ms)) =
    subst (λ y. length (json_tokens (value_view y.1)) < length (members_tokens (members_view ms))) (sym c.member-item.is) (member_smaller ms c.loop-member.member-index c.member-item.result c.loop-member-test.true) in
    search rules

pub read_value-returns-in-Object : goal.read_value-returns-in-Object
read_value-returns-in-Object t c =
    let seen : value_view c.args.value.now ≡ object (members_view c.deref-in-Object.result.now) =
    ap value_view c.in-Object.is ∙ view_object c.in-Object.members ∙ ap (λ xs. object (members_view xs)) (sym c.deref-in-Object.ensures.value) in
    object_read c.read_object.result c.args.value.now c.deref-in-Object.result.now seen c.read_object.ensures
