use Rattle.std.proofs.Common.{◌≡◌, ◌+◌, ◌*◌, length, drop}
use Rattle.json.specs.Tree.{json_tokens, items_tokens, members_tokens}
use Rattle.json.specs.Value.{value_view, items_view, members_view}
use Rattle.bson_base.specs.BsonView.{pairs_of}
use Rattle.bson_base.specs.Tree.{no_pairs}
use Rattle.bson_json_laws.specs.Read.{read_items, read_members}
use Rattle.bson_json_read.proofs.Viewed.{items_from, members_from}
use Rattle.bson_json_read.proofs.reading.+read.Given as goal

abbrev pub decreases-read_value : goal.decreases-read_value
decreases-read_value l = 3 * length (json_tokens (value_view l.value.now))

abbrev pub decreases-read_item : goal.decreases-read_item
decreases-read_item l = 3 * length (json_tokens (value_view l.item.now)) + 1

abbrev pub decreases-read_member : goal.decreases-read_member
decreases-read_member l = 3 * length (json_tokens (value_view l.value.now)) + 1

abbrev pub decreases-read_items : goal.decreases-read_items
decreases-read_items l = 3 * length (items_tokens (items_view l.items.now))

abbrev pub decreases-read_members : goal.decreases-read_members
decreases-read_members l = 3 * length (members_tokens (members_view l.members.now))

abbrev pub decreases-read_object : goal.decreases-read_object
decreases-read_object l = 3 * length (members_tokens (members_view l.members.now)) + 1

abbrev pub invariant-read_items-loop-index : goal.invariant-read_items-loop-index
invariant-read_items-loop-index l = items_from l.values.items l.index (drop l.index l.items) ≡ read_items 0 (items_view l.items)

abbrev pub invariant-read_members-loop-member : goal.invariant-read_members-loop-member
invariant-read_members-loop-member l = members_from (drop l.member-index l.members) (pairs_of l.document) ≡ read_members (members_view l.members) no_pairs
