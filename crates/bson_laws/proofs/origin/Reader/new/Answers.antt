use Rattle.std.proofs.Common.{ap}
use Rattle.bson_shape.specs.Form.{no_fields}
use Rattle.bson_laws.specs.Settled.{settled}
use Rattle.bson_laws.specs.Unrolled.{Meanings, unrolled, max_steps}
use Rattle.bson_laws.proofs.Scoped.{meaning_top}
use Rattle.bson_laws.proofs.origin.Reader.new.Goals as goal

pub returns-clause-whole : goal.returns-clause-whole
returns-clause-whole c = λ s. ap (λ (g : Meanings). settled c.args.readable (unrolled max_steps s g)) (meaning_top no_fields)
