use Rattle.bson_pass_parts.proofs.Leaves.{decimal_put}
use Rattle.bson_pass_parts.proofs.extended.recast_decimal.Goals as goal

pub returns-in_ok-put-in-Decimal128 : goal.returns-in_ok-put-in-Decimal128
returns-in_ok-put-in-Decimal128 c = rw c.in-Decimal128.is (decimal_put c.args.decimal.0 c.args.made.now.items c.put.new.made.items c.args.levels c.known_sixteen.ensures c.in_ok-put-in-Decimal128.ensures)
