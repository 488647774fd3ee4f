use Rattle.std.proofs.Common.{false, rules}
use Rattle.bson_values.specs.Value as value
use Rattle.bson_laws.specs.Judged.{judged}
use Rattle.bson_laws.specs.Taken.{text_of}
use Rattle.bson_texts.proofs.Mapped.{taken, not_taken}
use Rattle.bson_leaves.proofs.leaf.owned_string.Goals as goal

pub returns : goal.returns
returns c = record { exact = taken value.str (judged c.args.value.now) (text_of false) _ c.in_ok-text.ensures }

pub returns-in_err-text : goal.returns-in_err-text
returns-in_err-text c = let here = not_taken value.str (judged c.args.value.now) (text_of false) c.in_err-text.field-0.0 c.in_err-text.ensures in record { exact = search (rules, here) }
