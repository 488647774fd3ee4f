-- What contracts see of a difference. Source: this library's own types.
use Rattle.std.specs.Prelude.{◌≡◌, ◌++◌, List, map, string_bytes, Option, Some, None}
use Rattle.std.specs.Borrow.{Bor}
use Rattle.bson_kinds.specs.Text.{Utf8}
use Rattle.bson_values.specs.PathView.{path_view}
use Rattle.bson_evolve_laws.specs.Rows.{Step}
use Rattle.bson_evolve_check.specs.Steps.{steps_view}
use Rattle.bson_evolve_differences.specs.Differences as differences
use Rattle.bson_evolve_differences.specs.Reasons as reasons
use Rattle.bson_evolve_differences.specs.Reasons.{may_be_null, narrower, other_length, other_keys, no_row, missing_field, unknown_field, missing_variant, other_content, missing_in_variant}
use Rattle.bson_evolve_differences.specs.declared.difference.Difference.{Difference}
use Rattle.bson_evolve_differences.specs.declared.difference.Reason.{Reason}
use Rattle.bson_evolve_differences.specs.declared.difference.Reason.TheVariants.{MayBeNull, Narrower, OtherLength, OtherKeys, NoRow, MissingField, UnknownField, MissingVariant, OtherContent, MissingInVariant}
use Rattle.bson_evolve_differences.specs.declared.mismatch.Mismatch.{Mismatch}

abbrev pub reason_view : Reason → reasons.Reason
reason_view MayBeNull = may_be_null
reason_view Narrower = narrower
reason_view OtherLength = other_length
reason_view OtherKeys = other_keys
reason_view NoRow = no_row
reason_view (MissingField name) = missing_field (string_bytes name)
reason_view (UnknownField name) = unknown_field (string_bytes name)
reason_view (MissingVariant name) = missing_variant (string_bytes name)
reason_view (OtherContent name) = other_content (string_bytes name)
reason_view (MissingInVariant variant name) = missing_in_variant (string_bytes variant) (string_bytes name)

abbrev pub reasons_view : List Reason → List reasons.Reason
reasons_view rs = map reason_view rs

abbrev pub difference_view : Difference → differences.Difference
difference_view d = record { path = path_view d.path; old = string_bytes d.old; new = string_bytes d.new; reason = reason_view d.reason }

abbrev pub differences_view : List Difference → List differences.Difference
differences_view ds = map difference_view ds

-- that a field is missing, in a struct or in this variant
abbrev pub missing_in : Option (Bor Utf8) → Utf8 → reasons.Reason
missing_in None name = missing_field name
missing_in (Some variant) name = missing_in_variant variant.now name

-- these reasons, and these pairs that both have, come behind those before
pub record Adds (old new : Mismatch) (rs : List reasons.Reason) (ss : List Step) : Type 0 where
  pub reasons : reasons_view new.reasons.items ≡ reasons_view old.reasons.items ++ rs
  pub common : steps_view new.common.items ≡ steps_view old.common.items ++ ss
