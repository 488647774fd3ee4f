use Rattle.bson_pass_parts.proofs.Leaves.{timestamp_put}
use Rattle.bson_pass_parts.proofs.extended.recast_timestamp.Goals as goal

pub returns-in_ok-put_timestamp-in-Timestamp : goal.returns-in_ok-put_timestamp-in-Timestamp
returns-in_ok-put_timestamp-in-Timestamp c =
    rw c.in-Timestamp.is (timestamp_put c.args.stamp.time c.args.stamp.increment c.args.made.now.items c.put_timestamp.new.made.items c.args.levels c.known_numbers.ensures.0 c.known_numbers.ensures.1 c.in_ok-put_timestamp-in-Timestamp.ensures)
