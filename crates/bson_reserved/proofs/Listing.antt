-- Listing one thing after another.
use Rattle.std.proofs.Common.{◌≡◌, ◌<◌, List, ◌++◌, length, subst, sym, ◌∙◌}
use Rattle.std.specs.Prelude.{Result, Ok, Err}
use Rattle.bson_values.specs.Value.{Value}
use Rattle.bson_laws.specs.Unwrap as unwrap
use Rattle.bson_reserved.specs.ListView.{parts_view}
use Rattle.bson_reserved.specs.Listed.{Lists, max_parts}
use Rattle.bson_reserved.specs.declared.list.Full.{Full}
use Rattle.bson_reserved.specs.declared.list.Part.{Part}

-- what was listed so far leaves this to be listed, and that was done
pub Lists-after : (r : Result (Unit {0}) Full) (old mid new : List Part) (all left : List (unwrap.Part Value) → List (unwrap.Part Value)) → ((rest : List (unwrap.Part Value)) → parts_view old ++ all rest ≡ parts_view mid ++ left rest) → Lists r mid new left → Lists r old new all
Lists-after (Ok x) old mid new all left e h = λ rest. e rest ∙ h rest
Lists-after (Err x) old mid new all left e h = λ rest. subst (λ l. max_parts < length l) (sym (e rest)) (h rest)
