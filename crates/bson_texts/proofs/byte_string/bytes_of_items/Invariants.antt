use Rattle.std.proofs.Common.{◌≡◌, ◌+◌, ◌<◌, ◌^◌}
use Rattle.bson_laws.specs.Taken.{reads_bytes}
use Rattle.bson_met.specs.Sizes.{count}
use Rattle.bson_texts.proofs.Each.{each}
use Rattle.bson_texts.proofs.Loops.{bytes_by}
use Rattle.bson_texts.proofs.byte_string.bytes_of_items.Given as goal

-- the bytes so far, and those of what is left of the array, are all that it has
abbrev pub invariant-step : goal.invariant-step
invariant-step l = (l.index + count l.items < 2 ^ 64) × (each bytes_by l.index l.items l.bytes.items ≡ reads_bytes 0 l.fn.items)

abbrev pub decreases-step : goal.decreases-step
decreases-step l = count l.items
