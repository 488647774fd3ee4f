use Rattle.std.proofs.Common.{◌≤◌, ◌+◌, ◌-◌, ◌∙◌, sym, ap, arith}
use Rattle.bson_shape.specs.Guarded.{found_leading, ends}
use Rattle.bson_shape.specs.ShapeView.{fields_of, nodes, fields_nodes}
use Rattle.bson_shape.proofs.Chains.{ends-left, definition_smaller, one_fewer}
use Rattle.bson_shape.proofs.guarded.+ends.Goals as goal

pub name_ends-all_lead_to_ends-requires : goal.name_ends-all_lead_to_ends-requires
name_ends-all_lead_to_ends-requires t c =
    let h = fields_of c.args.table.now in
    let f = c.in-Some.shape.now in
    let small : nodes f ≤ fields_nodes h = definition_smaller h c.args.name.now f (sym c.in-Some.ensures) in
    (omega (arith, small, one_fewer c.args.most (fields_nodes h + 1) (omega arith), c.requires.1), tt)

pub name_ends-returns-in-Some : goal.name_ends-returns-in-Some
name_ends-returns-in-Some t c =
    let h = fields_of c.args.table.now in
    let most = c.args.most in
    c.all_lead_to_ends.ensures ∙ ap (found_leading (ends h (most - 1))) c.in-Some.ensures ∙ sym (ends-left h most c.args.name.now (omega arith))
