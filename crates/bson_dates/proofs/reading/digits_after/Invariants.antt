use Rattle.std.proofs.Common.{◌≡◌, ◌+◌, ◌*◌, ◌<◌, ◌≤◌, length}
use Rattle.bson_dates.specs.DateText.{fraction_millis, behind_digits}
use Rattle.bson_dates.proofs.reading.digits_after.Given as goal

abbrev pub invariant-digits : goal.invariant-digits
invariant-digits l = record {
  same : l.sum + fraction_millis l.weight l.rest ≡ l.initial.sum + fraction_millis l.initial.weight l.initial.rest;
  behind : behind_digits l.rest ≡ behind_digits l.initial.rest;
  room : l.sum + 10 * l.weight ≤ 1000;
  small : l.sum < 1000;
}

abbrev pub decreases-digits : goal.decreases-digits
decreases-digits l = length l.rest
