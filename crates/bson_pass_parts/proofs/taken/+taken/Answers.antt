use Rattle.std.proofs.Common.{◌<◌, ◌+◌, ◌*◌, arith, rules}
use Rattle.bson_shape.specs.ShapeView.{fields_of, nodes}
use Rattle.bson_laws.specs.Scopes.{meanings_of, laid}
use Rattle.bson_laws.specs.Unrolled.{in_table, max_steps}
use Rattle.bson_pass_parts.proofs.Followed.{inside_smaller, reference_smaller}
use Rattle.bson_pass_parts.proofs.taken.+taken.Goals as goal

pub is_reference_taken-is_taken-requires : goal.is_reference_taken-is_taken-requires
is_reference_taken-is_taken-requires t c =
    let r = c.args.reader.now in
    let d = c.in-Some.definition in
    let name = c.args.name.now in
    let same = reference_smaller r d name c.in-Some.ensures.means in
    let less : 2 * nodes (laid d.reader d.shape.now) < 2 * nodes (meanings_of r name) + 1 = omega (arith, same) in
    search rules

pub is_taken_inside-is_taken-requires : goal.is_taken_inside-is_taken-requires
is_taken_inside-is_taken-requires t c =
    let q = c.inside.result in
    let s = c.args.inner.now in
    let h = fields_of c.args.table.now in
    let same = inside_smaller q h s c.inside.ensures.meanings in
    let less : 2 * nodes (laid q s) < 2 * nodes (in_table max_steps h s) + 1 = omega (arith, same) in
    search rules
