use Rattle.bson_salvaging.proofs.Finds.{counts_if}
use Rattle.bson_salvaging.proofs.Windows.{takes_then}
use Rattle.bson_salvaging.proofs.finding.counts.Goals as goal

pub returns-in-Some-clause-settles : goal.returns-in-Some-clause-settles
returns-in-Some-clause-settles g c =
    counts_if c.see.new.window c.goes_on.new.window _ _ c.args.looks c.in-Some.length c.in_ok-seen.seen c.in-Some.is c.in_ok-seen.ensures.settles c.goes_on.result c.goes_on.ensures.grows c.goes_on.ensures.settles

pub returns-in-Some-clause-taken : goal.returns-in-Some-clause-taken
returns-in-Some-clause-taken g c = takes_then _ _ _ _ _ c.in_ok-seen.ensures.grows c.goes_on.ensures.taken
