use Rattle.std.proofs.Common.{◌≡◌, ◌++◌, w64, rules}
use Rattle.std.specs.Int.{cast_unsigned}
use Rattle.bson_base.specs.Tree.{le64}
use Rattle.bson_pass_parts.proofs.Leaves.{time_put}
use Rattle.bson_pass_parts.proofs.extended.recast_time.Goals as goal

pub returns-in_ok-put_eight-in-DateTime : goal.returns-in_ok-put_eight-in-DateTime
returns-in_ok-put_eight-in-DateTime c =
    let put : c.put_eight.new.made.items ≡ c.args.made.now.items ++ le64 (cast_unsigned w64 c.args.milliseconds) = search rules in
    rw c.in-DateTime.is (time_put c.args.milliseconds c.args.made.now.items c.put_eight.new.made.items c.args.levels c.ranges.milliseconds put)
