-- What a value is made into, by its datum.
use Rattle.std.proofs.Common.{◌≡◌, Result, Ok, Err, ap, ◌∙◌}
use Rattle.bson_kinds.specs.Outcome.{◌>>=◌}
use Rattle.bson_values.specs.ErrorView.{write_failure}
use Rattle.bson_values.specs.Refusal.{WriteFault, Failure, no_memory, bare, placed, FailsAs}
use Rattle.bson_values.specs.Value.{Value}
use Rattle.bson_values.specs.declared.ser.Error.{Error}
use Rattle.bson_values.specs.Returned.{Writes}
use Rattle.bson_type_data.specs.Answers.{Writing}

-- the type refuses the value, or memory ran out for its datum
pub fails_then : {Y : Type 0} (f : Failure WriteFault) (w : Writing Value) (next : Value → Writing Y) → FailsAs f w → FailsAs f (w >>= next)
fails_then no_memory w next h = tt
fails_then (bare f) w next h = ap (λ r. r >>= next) h
fails_then (placed path f) w next h = ap (λ r. r >>= next) h

-- the datum is not made into a tree
not_made : {Y : Type 0} (f : Failure WriteFault) (w : Writing Value) (v : Value) (next : Value → Writing Y) → w ≡ Ok v → FailsAs f (next v) → FailsAs f (w >>= next)
not_made no_memory w v next is h = tt
not_made (bare f) w v next is h = ap (λ r. r >>= next) is ∙ h
not_made (placed path f) w v next is h = ap (λ r. r >>= next) is ∙ h

-- what is made of the datum
pub made_then : {X Y : Type 0} (see : X → Y) (r : Result X Error) (w : Writing Value) (v : Value) (next : Value → Writing Y) → w ≡ Ok v → Writes see r (next v) → Writes see r (w >>= next)
made_then see (Ok x) w v next is h = ap (λ r. r >>= next) is ∙ h
made_then see (Err e) w v next is h = not_made (write_failure e) w v next is h
